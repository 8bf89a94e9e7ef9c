use Rattle.std.proofs.Common.{◌≡◌, length, ◌+◌}
use Rattle.env_text.specs.Bytes.{dotted_len}
use Rattle.env_text.proofs.bytes.dotted_len.Given as goal

-- the name is as long as what was passed and what is left of it
abbrev pub invariant-name : goal.invariant-name
invariant-name l = (dotted_len l.bytes ≡ l.len + dotted_len l.left) × (length l.bytes ≡ l.len + length l.left)

abbrev pub decreases-name : goal.decreases-name
decreases-name l = length l.left
