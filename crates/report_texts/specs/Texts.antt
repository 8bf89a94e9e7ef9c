-- What a run writes on standard output. The wording is this project's own and follows SCons.
use Rattle.std.specs.Prelude.{ℕ, Bool, List, [], ◌∷◌, ◌++◌, codes, flat_map, min, if◌then◌else◌}
use Rattle.std.specs.Fmt.{decimal}

-- a line with its line feed
abbrev pub line_text : List ℕ → List ℕ
line_text line = line ++ 10 ∷ []

unfoldable pub reading_text : List ℕ
reading_text = line_text (codes "scons: Reading SConscript files ...")

unfoldable pub read_text : List ℕ
read_text = line_text (codes "scons: done reading SConscript files.")

unfoldable pub building_text : List ℕ
building_text = line_text (codes "scons: Building targets ...")

abbrev pub up_to_date_text : List ℕ → List ℕ
up_to_date_text request = line_text (codes "scons: `" ++ request ++ codes "' is up to date.")

abbrev pub nothing_text : List ℕ → List ℕ
nothing_text request = line_text (codes "scons: Nothing to be done for `" ++ request ++ codes "'.")

unfoldable pub done_text : List ℕ
done_text = line_text (codes "scons: done building targets.")

unfoldable pub terminated_text : List ℕ
terminated_text = line_text (codes "scons: building terminated because of errors.")

unfoldable pub done_with_errors_text : List ℕ
done_with_errors_text = line_text (codes "scons: done building targets (errors occurred during build).")

unfoldable pub cleaning_text : List ℕ
cleaning_text = line_text (codes "scons: Cleaning targets ...")

abbrev pub removed_text : List ℕ → List ℕ
removed_text path = line_text (codes "Removed " ++ path)

unfoldable pub cleaned_text : List ℕ
cleaned_text = line_text (codes "scons: done cleaning targets.")

-- a text that isn't empty gets a line feed
abbrev pub ended : List ℕ → List ℕ
ended [] = []
ended (byte ∷ bytes) = line_text (byte ∷ bytes)

-- the help texts one behind the other, as one text of lines
abbrev pub help_text : List (List ℕ) → List ℕ
help_text texts = ended (flat_map (λ text. text) texts)

-- the rules of a large run, and how many of them stand on its first source
abbrev pub load_text : ℕ → List ℕ
load_text rules = line_text (codes "load: " ++ decimal rules ++ codes " rules, " ++ decimal rules ++ codes " started, " ++ decimal (min rules 10) ++ codes " started after the edit")
