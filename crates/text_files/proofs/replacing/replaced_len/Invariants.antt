use Rattle.std.proofs.Common.{◌≡◌, ◌≤◌, ◌+◌, length}
use Rattle.text_files.specs.Refusals.{told}
use Rattle.world_api.specs.Replacing.{replaced}
use Rattle.text_files.proofs.replacing.replaced_len.Given as goal

abbrev pub invariant-loop-place : goal.invariant-loop-place
invariant-loop-place l = record {
  sum : told (l.len + length (replaced l.key l.value l.rest)) ≡ told (length (replaced l.key l.value l.bytes));
  within : length l.rest ≤ length l.bytes;
}

abbrev pub decreases-loop-place : goal.decreases-loop-place
decreases-loop-place l = length l.rest
