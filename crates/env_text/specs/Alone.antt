-- Texts that are one reference to a whole variable, `$NAME` or `${NAME}`.
use Rattle.std.specs.Prelude.{ℕ, List, Option, None, Some}
use Rattle.env_text.specs.declared.part.Selection.{Selection}
use Rattle.env_text.specs.declared.part.Selection.TheVariants.{Whole, Item, Slice}
use Rattle.env_text.specs.Parts.{PlainPart, text, begin, end, variable, concat}
use Rattle.env_text.specs.Readings.{Reading, ends, part_at, bad_brace}

abbrev pub whole_or_none : List ℕ → Selection → Option (List ℕ) → Option (List ℕ)
whole_or_none n Whole None = Some n
whole_or_none n Whole (Some attribute) = None
whole_or_none n (Item index) attribute = None
whole_or_none n (Slice from to) attribute = None

-- the variable that a part refers to as a whole
abbrev pub whole_name : PlainPart → Option (List ℕ)
whole_name (text t) = None
whole_name begin = None
whole_name end = None
whole_name (variable n selection attribute) = whole_or_none n selection attribute
whole_name (concat prefix list suffix directories) = None

abbrev pub name_and_rest : Option (List ℕ) → Reading → Option (List ℕ)
name_and_rest name ends = name
name_and_rest name (part_at at p rest) = None
name_and_rest name (bad_brace at) = None

-- the variable, where a text is a reference to it and nothing else
abbrev pub name_alone : Reading → Option (List ℕ)
name_alone ends = None
name_alone (part_at at p rest) = name_and_rest (whole_name p) rest
name_alone (bad_brace at) = None
