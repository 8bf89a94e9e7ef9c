use Rattle.std.proofs.Common.{◌≡◌, ◌≤◌, drop, string_bytes}
use Rattle.env_pieces.specs.Forms.{in_front, signed_part}
use Rattle.env_pieces.proofs.form.signed_part.Given as goal

-- what the pieces that are left give behind what is there is what all give
abbrev pub invariant-loop-number : goal.invariant-loop-number
invariant-loop-number l = record {
  whole : in_front (string_bytes l.out) (signed_part l.keep l.depth l.number (drop l.number l.pieces)) ≡ signed_part l.keep 0 0 l.pieces;
  few : l.depth ≤ l.number;
}
