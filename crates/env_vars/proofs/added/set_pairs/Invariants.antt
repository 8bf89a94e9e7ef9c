use Rattle.std.proofs.Common.{◌≡◌, take}
use Rattle.std.specs.Prelude.{fold}
use Rattle.env_vars.specs.Added.{set_pair}
use Rattle.env_vars.proofs.added.set_pairs.Given as goal

abbrev pub invariant-loop-name : goal.invariant-loop-name
invariant-loop-name l = l.pairs.items ≡ fold set_pair l.initial.pairs.items (take l.name-index l.added)
