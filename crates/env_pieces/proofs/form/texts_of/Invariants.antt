use Rattle.std.proofs.Common.{◌≡◌, ◌++◌, drop, string_bytes}
use Rattle.env_pieces.specs.Forms.{texts_of}
use Rattle.env_pieces.proofs.form.texts_of.Given as goal

-- what is there, with the texts that are left, are all texts
abbrev pub invariant-loop-piece : goal.invariant-loop-piece
invariant-loop-piece l = string_bytes l.out ++ texts_of (drop l.piece-index l.pieces) ≡ texts_of l.pieces
