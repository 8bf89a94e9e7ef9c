use Rattle.std.proofs.Common.{◌≡◌, ◌++◌, length}
use denote.Shadow.{shadow}
use denote.Text.{Utf8}
use Rattle.scons_declare.specs.Owns.{lines_in}
use Rattle.scons_declare.proofs.own.push_lines.Given as goal

abbrev pub invariant-parts : goal.invariant-parts
invariant-parts l = (l.lines ++ lines_in l.rest ≡ l.initial.lines ++ lines_in l.text) × shadow (Utf8 l.rest)

abbrev pub decreases-parts : goal.decreases-parts
decreases-parts l = length l.rest
