use Rattle.std.proofs.Common.{◌≡◌, ◌++◌, length}
use denote.Shadow.{shadow}
use denote.Text.{Utf8}
use Rattle.env_pieces.specs.Lines.{lines_in}
use Rattle.env_pieces.proofs.lines.push_lines.Given as goal

-- with the lines that are left these are all lines
abbrev pub invariant-lines : goal.invariant-lines
invariant-lines l = (l.forms ++ lines_in l.mode l.rest ≡ l.initial.forms ++ lines_in l.mode l.text) × shadow (Utf8 l.rest)

abbrev pub decreases-lines : goal.decreases-lines
decreases-lines l = length l.rest
