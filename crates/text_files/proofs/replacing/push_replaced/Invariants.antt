use Rattle.std.proofs.Common.{◌≡◌, ◌++◌, length}
use Rattle.world_api.specs.Replacing.{replaced}
use Rattle.text_files.proofs.replacing.push_replaced.Given as goal

abbrev pub invariant-loop-place : goal.invariant-loop-place
invariant-loop-place l = l.made.items ++ replaced l.key l.value l.rest ≡ l.initial.made.items ++ replaced l.key l.value l.bytes

abbrev pub decreases-loop-place : goal.decreases-loop-place
decreases-loop-place l = length l.rest
