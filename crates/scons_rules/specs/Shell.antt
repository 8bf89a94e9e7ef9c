-- Paths that stand in lines of the shell.
use Rattle.std.specs.Prelude.{ℕ, ◌&&◌, nat_eq, Bool, not, List, [], ◌∷◌, codes, Result, Ok, Err, if◌then◌else◌}
use Rattle.std.specs.List.{list_any, starts_with}
use Rattle.scons_decls.specs.declared.fault.NameFault.TheVariants.{ShellPath}
use Rattle.scons_rules.specs.declared.fault.RuleReadFault.{RuleReadFault}
use Rattle.scons_rules.specs.declared.fault.RuleReadFault.TheVariants.{Name}
use Rattle.scons_rules.specs.Steps.{all_of}

-- the bytes that have a meaning to the shell, in the order of its standard (section 2.2, Quoting); a blank is written as it
-- stands
abbrev pub shell_bytes : List ℕ
shell_bytes = codes "\t\n;&|<>()$`\\\"'*?[]#~!"

unfoldable pub acts_on_shell : ℕ → Bool
acts_on_shell byte = list_any (λ b. nat_eq b byte) shell_bytes

-- whether the shell acts on no byte of a path, and no command takes it for an option
abbrev pub is_plain : List ℕ → Bool
is_plain path = not (starts_with nat_eq path (codes "-")) && not (list_any acts_on_shell path)

-- a path that stands in a line is plain
unfoldable pub in_line : List ℕ → Result (Unit {0}) RuleReadFault
in_line path = if is_plain path then Ok tt else Err (Name (ShellPath path))

abbrev pub all_in_line : List (List ℕ) → Result (Unit {0}) RuleReadFault
all_in_line paths = all_of in_line paths
