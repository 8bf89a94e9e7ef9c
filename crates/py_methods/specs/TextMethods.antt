-- What each method of a text gives: "String Methods" in the Python library reference.
use Rattle.std.specs.Prelude.{ℕ, pos, negsuc, List, [], ◌∷◌, ◌++◌, Option, Some, None, Result, Ok, Err, if◌then◌else◌}
use Rattle.std.specs.Prelude.{◌==◌, length}
use Rattle.py_text.specs.Finding.{starts_with, ends_with, find_of}
use Rattle.py_text.specs.Joining.{joined}
use Rattle.py_text.specs.Letters.{lower, upper}
use Rattle.py_text.specs.Replacing.{replaced}
use Rattle.py_text.specs.Splitting.{split_of, words_of}
use Rattle.py_text.specs.Stripping.{lstrip, rstrip, strip}
use Rattle.py_heap.specs.declared.value.Value.{Value}
use Rattle.py_heap.specs.declared.value.Value.TheVariants as v
use Rattle.py_heap.specs.declared.fault.ValueFault.{ValueFault}
use Rattle.py_heap.specs.declared.fault.ValueFault.TheVariants as fault
use Rattle.py_heap.specs.Heap.{Objects, text_at, list_at, tuple_at, with_text}
use Rattle.py_heap.specs.Units.{Units}
use Rattle.py_methods.specs.declared.name.Name.{Name}
use Rattle.py_methods.specs.declared.name.Name.TheVariants as name
use Rattle.py_compare.specs.Outcomes.{Outcome, then_by, number, mismatch, paid_text, new_text}
use Rattle.py_heap.specs.Given.{next_text}
use Rattle.py_compare.specs.Numbers.{fitting}
use Rattle.py_compare.specs.Arguments.{with_none, with_one, with_two, with_optional}
use Rattle.py_methods.specs.Many.{text_list}

-- an argument that has to be a text
abbrev pub as_text : Objects → Value → Value → Result (List ℕ) ValueFault
as_text h a (v.Text id) = Ok (text_at h id.0)
as_text h a x = mismatch a x

-- texts behind others, up to the first value that is none
abbrev pub texts_onto : Objects → Value → List (List ℕ) → List Value → Result (List (List ℕ)) ValueFault
texts_onto h a texts [] = Ok texts
texts_onto h a texts (x ∷ xs) = then_by (as_text h a x) (λ s. texts_onto h a (texts ++ s ∷ []) xs)

-- the texts of a list or tuple, with another one between each two
abbrev pub paid_join : Objects → Units → Value → List ℕ → List Value → Result (List ℕ × Units) ValueFault
paid_join h u a s items = then_by (texts_onto h a [] items) (λ parts. paid_text u (joined s parts))

abbrev pub joined_items : Objects → Units → Value → List ℕ → List Value → Outcome
joined_items h u a s items = then_by (paid_join h u a s items) (λ made. Ok (next_text h, with_text h made.0, made.1))

abbrev pub joined_by : Objects → Units → Value → List ℕ → Value → Outcome
joined_by h u a s (v.List id) = joined_items h u a s (list_at h id.0)
joined_by h u a s (v.Tuple id) = joined_items h u a s (tuple_at h id.0)
joined_by h u a s x = mismatch a x

abbrev place_by : Objects → Units → Option ℕ → Outcome
place_by h u None = Ok (v.Int (negsuc 0), h, u)
place_by h u (Some n) = number h u (fitting (pos n))

-- the first place in characters, or -1
abbrev pub found : Objects → Units → List ℕ → List ℕ → Outcome
found h u s part = place_by h u (find_of s part)

abbrev pub starts : Objects → Units → List ℕ → Value → Value → Outcome
starts h u s a x = then_by (as_text h a x) (λ part. Ok (v.Bool (starts_with s part), h, u))

abbrev pub ends : Objects → Units → List ℕ → Value → Value → Outcome
ends h u s a x = then_by (as_text h a x) (λ part. Ok (v.Bool (ends_with s part), h, u))

abbrev pub finds : Objects → Units → List ℕ → Value → Value → Outcome
finds h u s a x = then_by (as_text h a x) (λ part. found h u s part)

-- the arguments are looked at in order
abbrev pub paid_replacement : Objects → Units → List ℕ → Value → Value → Value → Result (List ℕ × Units) ValueFault
paid_replacement h u s a x y =
    then_by (as_text h a x) (λ old. then_by (as_text h a y) (λ new. paid_text u (replaced s old new)))

abbrev pub replaces : Objects → Units → List ℕ → Value → Value → Value → Outcome
replaces h u s a x y = then_by (paid_replacement h u s a x y) (λ made. Ok (next_text h, with_text h made.0, made.1))

-- cut at a text, which isn't empty
abbrev pub split_by : Objects → Units → List ℕ → List ℕ → Outcome
split_by h u s separator = if length separator == 0 then Err fault.BadText else text_list h u (split_of s separator)

abbrev pub splits : Objects → Units → List ℕ → Value → Value → Outcome
splits h u s a x = then_by (as_text h a x) (λ separator. split_by h u s separator)

abbrev pub text_method : Objects → Units → ℕ → Name → List Value → Outcome
text_method h u id name.Strip args = with_none args (new_text h u (strip (text_at h id)))
text_method h u id name.Lstrip args = with_none args (new_text h u (lstrip (text_at h id)))
text_method h u id name.Rstrip args = with_none args (new_text h u (rstrip (text_at h id)))
text_method h u id name.Lower args = with_none args (new_text h u (lower (text_at h id)))
text_method h u id name.Upper args = with_none args (new_text h u (upper (text_at h id)))
text_method h u id name.Startswith args = with_one args (λ x. starts h u (text_at h id) (v.Text (record { 0 = id })) x)
text_method h u id name.Endswith args = with_one args (λ x. ends h u (text_at h id) (v.Text (record { 0 = id })) x)
text_method h u id name.Find args = with_one args (λ x. finds h u (text_at h id) (v.Text (record { 0 = id })) x)
text_method h u id name.Replace args =
    with_two args (λ x y. replaces h u (text_at h id) (v.Text (record { 0 = id })) x y)
text_method h u id name.Join args = with_one args (λ x. joined_by h u (v.Text (record { 0 = id })) (text_at h id) x)
text_method h u id name.Split args =
    with_optional args (text_list h u (words_of (text_at h id)))
    (λ x. splits h u (text_at h id) (v.Text (record { 0 = id })) x)
text_method h u id other args = Err fault.NoMethod
