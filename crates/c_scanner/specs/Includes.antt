-- The include lines of a file.
use Rattle.std.specs.Prelude.{ℕ, Bool, List, ◌==◌, take, position, Option, Some, None, if◌then◌else◌}
use Rattle.std.specs.List.{filter_map}
use Rattle.std.specs.Option.{option_and_then}
use Rattle.c_scanner.specs.declared.line.Include.{Include}
use Rattle.c_scanner.specs.Lines.{lines_of, quote, ends_name, opened}

-- a name of at least one byte, up to where it ends
abbrev pub named_to : Bool → List ℕ → Option ℕ → Option Include
named_to quoted text None = None
named_to quoted text (Some end) = if end == 0 then None else Some (record { quoted = quoted; name = take end text })

abbrev pub named : ℕ × List ℕ → Option Include
named open_at = named_to (open_at.0 == quote) open_at.1 (position ends_name open_at.1)

-- what a line includes: nothing where it doesn't match
abbrev pub include_of : List ℕ → Option Include
include_of line = option_and_then named (opened line)

-- what the lines of a file include, in their order
abbrev pub includes_of : List ℕ → List Include
includes_of bytes = filter_map include_of (lines_of bytes)
