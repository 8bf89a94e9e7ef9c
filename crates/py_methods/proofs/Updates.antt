-- A dict in which the items of another one are put, within the limit and past it.
use Rattle.std.proofs.Common.{arith, ◌≡◌, ◌≤◌, ◌+◌, ◌∙◌, ℕ, length}
use Rattle.scons_base.specs.declared.limits.TheConstants.{LIST_LIMIT}
use Rattle.py_heap.specs.Heap.{Entries}
use Rattle.py_heap.specs.Dicts.{put_all}
use Rattle.py_heap.specs.Units.{told_length}
use Rattle.py_heap.proofs.Grown.{length-put_all}
use Rattle.py_compare.proofs.Limits.{exact_within, exact_passes}

pub few_together : (es more : Entries) (told : ℕ) → told ≡ told_length (length es + length more) → told ≤ LIST_LIMIT → length (put_all es more) ≤ LIST_LIMIT
few_together es more told t l =
    let within : length es + length more ≤ LIST_LIMIT = omega arith in
    omega (arith, length-put_all es more)

pub ruleset updates = (few_together, exact_within, exact_passes)
