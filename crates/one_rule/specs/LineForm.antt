-- The line form of a script: the one line `Command('TARGET', 'SOURCE', 'LINE')`, with or without its line feed. It is
-- this project's first form of a script, and an SConstruct that SCons reads too (SCons User Guide, "The Command Builder").
use Rattle.std.specs.Prelude.{◌≡◌, ◌≢◌, ℕ, Bool, true, false, List, [], ◌∷◌, ◌==◌, ◌||◌, ◌&&◌, not, nat_le, length, IsTrue, codes, ◌⊎◌}
use Rattle.std.specs.List.{slice_split, list_all, before_first, after_first}
use Rattle.scons_base.specs.declared.limits.TheConstants.{FILE_NAME_LIMIT, COMMAND_LIMIT}
use Rattle.scons_base.specs.Normal.{is_name, dot}
use Rattle.one_rule.specs.declared.rule.Rule.{Rule}

abbrev pub line_feed : ℕ
line_feed = 10

abbrev pub space : ℕ
space = 32

abbrev pub quote : ℕ
quote = 39

-- a letter, a digit, `_` or `.`
unfoldable pub is_file_name_byte : ℕ → Bool
is_file_name_byte b =
    (nat_le 97 b && nat_le b 122) || (nat_le 65 b && nat_le b 90) || (nat_le 48 b && nat_le b 57) || b == 95 || b == dot

-- such bytes, no more than the limit, other than nothing, `.` and `..`
unfoldable pub is_file_name : List ℕ → Bool
is_file_name name = nat_le (length name) FILE_NAME_LIMIT && list_all is_file_name_byte name && is_name name

-- printable ASCII without `\` and `$`
unfoldable pub is_command_byte : ℕ → Bool
is_command_byte b = nat_le 32 b && nat_le b 126 && not (b == 92) && not (b == 36)

abbrev pub is_word : List ℕ → Bool
is_word [] = false
is_word (b ∷ rest) = true

-- neither `@` nor `-` in front, which would mark the line
unfoldable pub begins_as_command : List ℕ → Bool
begins_as_command [] = false
begins_as_command (b ∷ rest) = not (b == 64) && not (b == 45)

-- bytes of words with single spaces between them, no more than the limit
unfoldable pub is_command : List ℕ → Bool
is_command line =
    nat_le (length line) COMMAND_LIMIT && list_all is_command_byte line && begins_as_command line && list_all is_word (slice_split (λ b. b == space) line)

-- what stands round the quotes of the line
abbrev pub parts_of : Rule → List (List ℕ)
parts_of rule = codes "Command(" ∷ rule.target ∷ codes ", " ∷ rule.source ∷ codes ", " ∷ rule.line ∷ codes ")" ∷ []

-- the line that declares the rule
pub record DeclaresRule (line : List ℕ) (rule : Rule) : Type 0 where
  pub parts : slice_split (λ b. b == quote) line ≡ parts_of rule
  pub target : IsTrue (is_file_name rule.target)
  pub source : IsTrue (is_file_name rule.source)
  pub others : rule.source ≢ rule.target
  pub command : IsTrue (is_command rule.line)

abbrev pub first_line : List ℕ → List ℕ
first_line script = before_first (λ b. b == line_feed) script

abbrev pub behind_first_line : List ℕ → List ℕ
behind_first_line script = after_first (λ b. b == line_feed) script

-- the script that declares the rule: its line, and nothing behind that
pub record Declares (script : List ℕ) (rule : Rule) : Type 0 where
  pub line : DeclaresRule (first_line script) rule
  pub nothing_more : behind_first_line script ≡ []

-- the first line that isn't as it should be: the first, or a second one
abbrev pub IsFaultLine : List ℕ → ℕ → Type 0
IsFaultLine script line =
    ((line ≡ 1) × ((rule : Rule) → DeclaresRule (first_line script) rule → ⊥))
    ⊎ ((line ≡ 2) × (rule : Rule) × DeclaresRule (first_line script) rule × (behind_first_line script ≢ []))
