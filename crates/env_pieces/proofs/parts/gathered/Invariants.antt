use Rattle.std.proofs.Common.{◌≡◌, ◌++◌, [], string_bytes, length}
use Rattle.env_pieces.specs.Parts.{done_of, text_behind}
use Rattle.env_pieces.proofs.parts.gathered.Given as goal

-- with the parts that are left these are all pieces, and the text behind them
abbrev pub invariant-parts : goal.invariant-parts
invariant-parts l =
    (l.done.items ++ done_of (string_bytes l.text) l.parts ≡ done_of [] l.initial.parts) × (text_behind (string_bytes l.text) l.parts ≡ text_behind [] l.initial.parts)

abbrev pub decreases-parts : goal.decreases-parts
decreases-parts l = length l.parts
