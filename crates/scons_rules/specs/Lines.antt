-- The lines of a rule, behind their marks.
use Rattle.std.specs.Prelude.{ℕ, ◌&&◌, ◌||◌, ◌==◌, nat_eq, nat_le, Bool, List, [], ◌∷◌, ◌++◌, take, drop, length, fold, Result, Ok, if◌then◌else◌}
use Rattle.std.specs.List.{list_any, prefix_len, flat_map}
use Rattle.world_api.specs.declared.job.Line.{Line}
use Rattle.env_subst.specs.declared.command.CommandLines.{CommandLines}
use Rattle.scons_rules.specs.declared.fault.RuleReadFault.{RuleReadFault}
use Rattle.scons_rules.specs.declared.line.RuleLines.{RuleLines}
use Rattle.scons_rules.specs.Expanding.{Expanding, command_of}
use Rattle.scons_rules.specs.Steps.{and_then, each}

-- `@`, `-`, and white space: a blank, or a byte from a tabulator to a carriage return
unfoldable pub is_mark : ℕ → Bool
is_mark byte = nat_eq byte 64 || (nat_eq byte 45 || (nat_eq byte 32 || (nat_le 9 byte && nat_le byte 13)))

-- how many bytes the marks in front of a line take
abbrev pub marks_len : List ℕ → ℕ
marks_len line = prefix_len is_mark line

abbrev pub marks_of : List ℕ → List ℕ
marks_of line = take (marks_len line) line

abbrev pub behind_marks : List ℕ → List ℕ
behind_marks line = drop (marks_len line) line

-- a line that `@` marks isn't printed, and one that `-` marks may fail; an empty one is neither printed nor run
unfoldable pub line_of : List ℕ → List Line
line_of line =
    if length (behind_marks line) == 0 then []
    else record {
      text = behind_marks line;
      quiet = list_any (λ b. nat_eq b 64) (marks_of line);
      ignore = list_any (λ b. nat_eq b 45) (marks_of line);
    } ∷ []

-- the lines of expanded texts
abbrev pub lines_behind : List (List ℕ) → List Line
lines_behind lines = flat_map line_of lines

abbrev pub no_lines : RuleLines
no_lines = record { lines = []; signed = [] }

-- a further command: its lines behind their marks, and its signed lines, which keep them
abbrev pub with_command : RuleLines → CommandLines → RuleLines
with_command l c = record { lines = l.lines ++ lines_behind c.plain; signed = l.signed ++ c.signed }

-- the lines of texts, one command after the other
abbrev pub lines_by : Expanding → List (List ℕ) → Result RuleLines RuleReadFault
lines_by x texts = and_then (each (command_of x) texts) (λ commands. Ok (fold with_command no_lines commands))
