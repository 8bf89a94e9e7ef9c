-- The content of a reference, `NAME`, `NAME[i]` and `NAME[i:j]`, each with `.ATTRIBUTE` or without, and `_concat(..)`:
-- SCons's `Variable Substitution`, of which these forms are all that the tool has.
use Rattle.std.specs.Prelude.{ℕ, Bool, false, ◌==◌, List, [], ◌∷◌, Option, None, Some, codes, ⊤, if◌then◌else◌}
use Rattle.std.specs.Option.{option_map}
use Rattle.std.specs.Str.{bytes_eq}
use Rattle.env_text.specs.declared.part.Index.{Index}
use Rattle.env_text.specs.declared.part.Selection.{Selection}
use Rattle.env_text.specs.declared.part.Selection.TheVariants.{Whole, Item, Slice}
use Rattle.env_text.specs.Words.{PlainWord, name, number, sign, no_number}
use Rattle.env_text.specs.Parts.{PlainPart, variable, concat}

-- what follows this sign, where it is in front
abbrev pub behind : ℕ → List PlainWord → Option (List PlainWord)
behind wanted [] = None
behind wanted (name n ∷ words) = None
behind wanted (number i ∷ words) = None
behind wanted (no_number ∷ words) = None
behind wanted (sign b ∷ words) = if b == wanted then Some words else None

abbrev pub BeginsNoName : List PlainWord → Type 0
BeginsNoName (name n ∷ words) = ⊥
BeginsNoName words = ⊤

-- an end of a slice, which may be missing, and what follows it
abbrev pub end_of : List PlainWord → Option Index × List PlainWord
end_of [] = (None, [])
end_of (number i ∷ words) = (Some i, words)
end_of (word ∷ words) = (None, word ∷ words)

abbrev pub closed : Selection → List PlainWord → Option (Selection × List PlainWord)
closed selection words = option_map (λ rest. (selection, rest)) (behind 93 words)

abbrev pub colon_or_closed : Option Index → List PlainWord → Option (List PlainWord) → Option (Selection × List PlainWord)
colon_or_closed from words (Some more) = closed (Slice from (end_of more).0) (end_of more).1
colon_or_closed (Some i) words None = closed (Item i) words
colon_or_closed None words None = None

abbrev pub inside_brackets : Option Index × List PlainWord → Option (Selection × List PlainWord)
inside_brackets from = colon_or_closed from.0 from.1 (behind 58 from.1)

abbrev pub selection_or : List PlainWord → Option (List PlainWord) → Option (Selection × List PlainWord)
selection_or words None = Some (Whole, words)
selection_or words (Some inside) = inside_brackets (end_of inside)

-- `[i]` and `[i:j]` with what follows, or nothing, which is the whole value
abbrev pub selection_of : List PlainWord → Option (Selection × List PlainWord)
selection_of words = selection_or words (behind 91 words)

abbrev pub named_last : Option (List PlainWord) → Option (Option (List ℕ))
named_last (Some (name n ∷ [])) = Some (Some n)
named_last words = None

-- `.ATTRIBUTE` or nothing, and behind it nothing
abbrev pub attribute_of : List PlainWord → Option (Option (List ℕ))
attribute_of [] = Some None
attribute_of (word ∷ words) = named_last (behind 46 (word ∷ words))

abbrev pub with_attribute : List ℕ → Option (Selection × List PlainWord) → Option PlainPart
with_attribute n None = None
with_attribute n (Some selected) = option_map (λ attribute. variable n selected.0 attribute) (attribute_of selected.1)

-- a variable's name and what stands behind it
abbrev pub variable_of : List ℕ → List PlainWord → Option PlainPart
variable_of n words = with_attribute n (selection_of words)

abbrev only_name : List ℕ → List PlainWord → Option (List (List ℕ))
only_name n [] = Some (n ∷ [])
only_name n (word ∷ words) = None

-- names with commas between them and a closing parenthesis, and behind it nothing
abbrev pub names_of : List PlainWord → Option (List (List ℕ))
names_of (name n ∷ sign b ∷ words) =
    if b == 44 then option_map (λ names. n ∷ names) (names_of words)
    else (if b == 41 then only_name n words else None)
names_of words = None

abbrev pub begins_with_rdirs : List (List ℕ) → Bool
begins_with_rdirs [] = false
begins_with_rdirs (n ∷ names) = bytes_eq n (codes "RDirs")

-- the arguments of `_concat`: a prefix, a list, a suffix and `__env__`; `RDirs` tells as a fifth one, and any further name
-- says nothing
abbrev pub concat_of : Option (List (List ℕ)) → Option PlainPart
concat_of (Some (prefix ∷ list ∷ suffix ∷ env ∷ more)) =
    if bytes_eq env (codes "__env__") then Some (concat prefix list suffix (begins_with_rdirs more)) else None
concat_of names = None

abbrev pub call_of : List ℕ → List PlainWord → Option PlainPart
call_of n words = if bytes_eq n (codes "_concat") then concat_of (names_of words) else None

abbrev pub call_or : List ℕ → List PlainWord → Option (List PlainWord) → Option PlainPart
call_or n words (Some arguments) = call_of n arguments
call_or n words None = variable_of n words

-- what a content refers to; none where it has another form
abbrev pub reference_of : List PlainWord → Option PlainPart
reference_of (name n ∷ words) = call_or n words (behind 40 words)
reference_of words = None
