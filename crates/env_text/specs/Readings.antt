-- How a text is read: SCons's `Variable Substitution`, with the rules of this project where SCons asks Python.
use Rattle.std.specs.Prelude.{ℕ, zero, suc, ◌+◌, ◌==◌, List, [], ◌∷◌, take, drop, Option, None, Some, position, if◌then◌else◌}
use Rattle.std.specs.List.{prefix_len}
use Rattle.env_text.specs.Bytes.{is_plain, is_name_first, dotted_len}
use Rattle.scons_base.specs.Runs.{front_run}
use Rattle.env_text.specs.Words.{words_of}
use Rattle.env_text.specs.Parts.{PlainPart, text, begin, end}
use Rattle.env_text.specs.References.{reference_of}

-- what a byte begins: a part, with the number of its bytes behind that one, or nothing that can be read
pub data Beginning : Type 0 where
  takes : PlainPart → ℕ → Beginning
  refuses : Beginning

abbrev pub takes_or_refuses : ℕ → Option PlainPart → Beginning
takes_or_refuses more (Some part) = takes part more
takes_or_refuses more None = refuses

-- a reference with this content, which has so many bytes behind its `$`
abbrev pub reference : ℕ → List ℕ → Beginning
reference more content = takes_or_refuses more (reference_of (words_of content))

abbrev pub up_to_brace : List ℕ → Option ℕ → Beginning
up_to_brace bytes None = refuses
up_to_brace bytes (Some n) = reference (n + 2) (take n bytes)

-- behind `${`: a content up to the next `}`
abbrev pub braced : List ℕ → Beginning
braced bytes = up_to_brace bytes (position (λ b. b == 125) bytes)

-- behind `$`: a name, which is read as if it stood in braces
abbrev pub bare : List ℕ → Beginning
bare bytes = reference (dotted_len bytes) (take (dotted_len bytes) bytes)

-- a `$` that stands for itself
abbrev pub dollar : List ℕ
dollar = 36 ∷ []

-- behind `$`: `$$` is a `$`, `$(` and `$)` are the marks, `${` and a name refer; any other `$` stays
abbrev pub behind_dollar : List ℕ → Beginning
behind_dollar [] = takes (text dollar) 0
behind_dollar (b ∷ bytes) =
    if b == 36 then takes (text dollar) 1
    else (if b == 40 then takes begin 1
    else (if b == 41 then takes end 1
    else (if b == 123 then braced bytes
    else (if is_name_first b then bare (b ∷ bytes)
    else takes (text dollar) 0))))

-- characters up to the next `$` stand for themselves
abbrev pub beginning_at : ℕ → List ℕ → Beginning
beginning_at b bytes =
    if b == 36 then behind_dollar bytes else takes (text (b ∷ front_run is_plain bytes)) (prefix_len is_plain bytes)

-- the parts of a text in their order, each with its place, to the text's end or to the first `$` that begins no part
pub data Reading : Type 0 where
  ends : Reading
  part_at : ℕ → PlainPart → Reading → Reading
  bad_brace : ℕ → Reading

abbrev pub then_rest : ℕ → Beginning → (ℕ → Reading) → Reading
then_rest at (takes part more) rest = part_at at part (rest more)
then_rest at refuses rest = bad_brace at

-- from a place on, behind so many bytes of the part in front
abbrev pub reading_behind : ℕ → ℕ → List ℕ → Reading
reading_behind skipped at [] = ends
reading_behind (suc skipped) at (b ∷ bytes) = reading_behind skipped (at + 1) bytes
reading_behind zero at (b ∷ bytes) = then_rest at (beginning_at b bytes) (λ skipped. reading_behind skipped (at + 1) bytes)

-- what is read from this place of a text on
abbrev pub reading_from : List ℕ → ℕ → Reading
reading_from bytes at = reading_behind 0 at (drop at bytes)

-- what is read of a text
abbrev pub reading_of : List ℕ → Reading
reading_of bytes = reading_from bytes 0
