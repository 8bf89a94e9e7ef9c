use Rattle.std.proofs.Common.{◌≡◌, ◌++◌, drop}
use Rattle.std.specs.List.{flat_map}
use Rattle.model_trials.specs.Making.{named_bytes}
use Rattle.model_trials.proofs.clean.written.Given as goal

abbrev pub invariant-loop-item : goal.invariant-loop-item
invariant-loop-item l = l.bytes.items ++ flat_map named_bytes (drop l.item-index l.given) ≡ l.path ++ flat_map named_bytes l.given
