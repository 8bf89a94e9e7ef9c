use Rattle.std.proofs.Common.{◌≡◌, take}
use Rattle.env_vars.specs.Added.{as_pairs}
use Rattle.env_vars.proofs.forms.as_pairs.Given as goal

abbrev pub invariant-loop-name : goal.invariant-loop-name
invariant-loop-name l = l.items.items ≡ as_pairs (take l.name-index l.pairs)
