use Rattle.std.proofs.Common.{◌≡◌, ◌++◌, drop, string_bytes}
use Rattle.env_pieces.specs.Forms.{raw_of}
use Rattle.env_pieces.proofs.form.raw_of.Given as goal

abbrev pub invariant-loop-piece : goal.invariant-loop-piece
invariant-loop-piece l = string_bytes l.out ++ raw_of (drop l.piece-index l.pieces) ≡ raw_of l.pieces
