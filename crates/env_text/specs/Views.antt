-- What the code holds, as the definitions say it.
use Rattle.std.specs.Prelude.{◌≡◌, ℕ, ◌<◌, ◌+◌, false, List, [], ◌∷◌, Option, None, Some, length, MatchOption, ⊤}
use Rattle.std.specs.Borrow.{Bor}
use Rattle.std.specs.Option.{option_map, option_copied}
use Rattle.std.specs.Str.{IsCharBoundary}
use Rattle.env_text.specs.declared.part.Part.{Part}
use Rattle.env_text.specs.declared.part.Part.TheVariants as part
use Rattle.env_text.specs.declared.part.Selection.{Selection}
use Rattle.env_text.specs.declared.reader.Front.{Front}
use Rattle.env_text.specs.declared.reader.Front.TheVariants as front
use Rattle.env_text.specs.declared.reader.Step.{Step}
use Rattle.env_text.specs.declared.reader.Step.TheVariants as step
use Rattle.env_text.specs.declared.word.Word.{Word}
use Rattle.env_text.specs.declared.word.Word.TheVariants as word
use Rattle.env_text.specs.Bytes.{is_white}
use Rattle.env_text.specs.Words.{PlainWord, name, number, sign, no_number, words_of}
use Rattle.env_text.specs.References.{names_of}
use Rattle.env_text.specs.Parts.{PlainPart, text, begin, end, variable, concat}
use Rattle.env_text.specs.Readings.{Beginning, takes, refuses, ends, part_at, bad_brace, reading_from}

abbrev pub plain : Part → PlainPart
plain (part.Text t) = text t.now
plain part.Begin = begin
plain part.End = end
plain (part.Variable n selection attribute) = variable n.now selection (option_copied attribute)
plain (part.Concat prefix list suffix directories) = concat prefix.now list.now suffix.now directories

abbrev pub plain_word : Word → PlainWord
plain_word (word.Name n) = name n.now
plain_word (word.Number i) = number i
plain_word (word.Sign b) = sign b
plain_word word.NoNumber = no_number

-- this is what reading on from a place gives
abbrev pub Reads : List ℕ → ℕ → Step → Type 0
Reads bytes at step.End = reading_from bytes at ≡ ends
Reads bytes at (step.Part p next) = reading_from bytes at ≡ part_at at (plain p) (reading_from bytes next)
Reads bytes at step.BadBrace = reading_from bytes at ≡ bad_brace at

-- the next part begins further on, where a character does
abbrev pub GoesOn : List ℕ → ℕ → Step → Type 0
GoesOn bytes at step.End = ⊤
GoesOn bytes at (step.Part p next) = (at < next) × IsCharBoundary bytes next
GoesOn bytes at step.BadBrace = ⊤

-- the names behind a comma, and none where there is no comma
abbrev pub further_names : Option (Bor (List ℕ)) → Option (List (List ℕ))
further_names None = Some []
further_names (Some more) = names_of (words_of more.now)

-- the names of an argument and of what follows its comma
abbrev pub names_from : List ℕ → Option (Bor (List ℕ)) → Option (List (List ℕ))
names_from n more = option_map (λ names. n ∷ names) (further_names more)

abbrev pub GoesShorter : Option (Bor (List ℕ)) → List ℕ → Type 0
GoesShorter None bytes = ⊤
GoesShorter (Some more) bytes = length more.now < length bytes

-- what is told of a selection and of what follows it, and none where nothing is told
abbrev pub Selects : Option (Selection × List PlainWord) → Option (Selection × Bor (List ℕ)) → Type 0
Selects told result = MatchOption result (told ≡ None) (λ p. told ≡ Some (p.0, words_of p.1.now))

abbrev pub beginning_of : Front → Beginning
beginning_of (front.Takes p more) = takes (plain p) more
beginning_of front.Refuses = refuses

-- a part ends where a character does
abbrev pub EndsAtBoundary : List ℕ → Front → Type 0
EndsAtBoundary bytes (front.Takes p more) = IsCharBoundary bytes (more + 1)
EndsAtBoundary bytes front.Refuses = ⊤

-- no white space is in front
abbrev pub BeginsWord : List ℕ → Type 0
BeginsWord [] = ⊤
BeginsWord (b ∷ bytes) = is_white b ≡ false
