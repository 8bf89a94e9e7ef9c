-- `%`: the remainder of two integers (section 6.7 of the Python language reference), and a text with values put in the places
-- of `%s` and `%d` ("printf-style String Formatting" in the library reference, cut down).
use Rattle.std.specs.Prelude.{ℕ, ℤ, false, List, [], ◌∷◌, Option, Some, None, Result, Ok, Err, codes}
use Rattle.scons_base.specs.declared.limits.TheConstants.{VALUE_DEPTH_LIMIT}
use Rattle.py_text.specs.Formatting.{FormatPiece, literal, percent, any_value, integer, pieces_of}
use Rattle.py_heap.specs.declared.value.Value.{Value}
use Rattle.py_heap.specs.declared.value.Value.TheVariants as v
use Rattle.py_heap.specs.declared.fault.ValueFault.{ValueFault}
use Rattle.py_heap.specs.declared.fault.ValueFault.TheVariants as fault
use Rattle.py_heap.specs.Heap.{Objects, text_at, tuple_at, with_text}
use Rattle.py_heap.specs.Given.{next_text}
use Rattle.py_heap.specs.Units.{Units}
use Rattle.py_compare.specs.Outcomes.{Outcome, then_by, number, mismatch, paid_text}
use Rattle.py_compare.specs.Numbers.{remainder}
use Rattle.py_compare.specs.Showing.{Shown, show_at, behind}

-- a text so far, the values that are left, and the units
abbrev pub Filling : Type 0 → Type 0
Filling T = Result (List Value × T × Units) ValueFault

module _ {T : Type 0} (put : T → List ℕ → T) where
  abbrev shown_onto : Objects → T → Units → Value → List Value → Filling T
  shown_onto h text u x xs = then_by (show_at put VALUE_DEPTH_LIMIT h false text u x) (λ s. Ok (xs, s.0, s.1))

  abbrev any_onto : Objects → T → Units → List Value → Filling T
  any_onto h text u [] = Err fault.BadText
  any_onto h text u (x ∷ xs) = shown_onto h text u x xs

  -- `%d` needs an integer
  abbrev pub integer_shown : Objects → T → Units → Value → Shown T
  integer_shown h text u (v.Int n) = show_at put VALUE_DEPTH_LIMIT h false text u (v.Int n)
  integer_shown h text u x = mismatch x x

  abbrev integer_onto : Objects → T → Units → List Value → Filling T
  integer_onto h text u [] = Err fault.BadText
  integer_onto h text u (x ∷ xs) = then_by (integer_shown h text u x) (λ s. Ok (xs, s.0, s.1))

  -- a piece of the format behind the text so far
  abbrev pub piece_onto : Objects → T → Units → FormatPiece → List Value → Filling T
  piece_onto h text u (literal s) xs = Ok (xs, put text s, u)
  piece_onto h text u percent xs = Ok (xs, put text (codes "%"), u)
  piece_onto h text u any_value xs = any_onto h text u xs
  piece_onto h text u integer xs = integer_onto h text u xs

  abbrev ended : T → Units → List Value → Shown T
  ended text u [] = Ok (text, u)
  ended text u (x ∷ xs) = Err fault.BadText

  -- all pieces, with neither too few values nor too many
  abbrev pub pieces_onto : Objects → T → Units → List FormatPiece → List Value → Shown T
  pieces_onto h text u [] xs = ended text u xs
  pieces_onto h text u (p ∷ ps) xs = then_by (piece_onto h text u p xs) (λ s. pieces_onto h s.1 s.2 ps s.0)

abbrev filled_by : Objects → Units → List Value → Option (List FormatPiece) → Result (List ℕ × Units) ValueFault
filled_by h u xs None = Err fault.BadText
filled_by h u xs (Some ps) = then_by (pieces_onto behind h [] u ps xs) (λ s. paid_text s.1 s.0)

abbrev pub filled : Objects → Units → List ℕ → List Value → Result (List ℕ × Units) ValueFault
filled h u s xs = filled_by h u xs (pieces_of s)

-- the values of a tuple, or one value of another kind
abbrev pub values_in : Objects → Value → List Value
values_in h (v.Tuple id) = tuple_at h id.0
values_in h v.Nil = v.Nil ∷ []
values_in h (v.Bool b) = v.Bool b ∷ []
values_in h (v.Int n) = v.Int n ∷ []
values_in h (v.Text id) = v.Text id ∷ []
values_in h (v.List id) = v.List id ∷ []
values_in h (v.Dict id) = v.Dict id ∷ []
values_in h (v.Func id) = v.Func id ∷ []
values_in h (v.Builtin b) = v.Builtin b ∷ []
values_in h (v.Object id) = v.Object id ∷ []

abbrev pub format_of : Objects → Units → List ℕ → Value → Outcome
format_of h u s x = then_by (filled h u s (values_in h x)) (λ made. Ok (next_text h, with_text h made.0, made.1))

abbrev rest_int : Objects → Units → ℤ → Value → Outcome
rest_int h u m (v.Int n) = number h u (remainder m n)
rest_int h u m y = mismatch (v.Int m) y

abbrev pub rest_of : Objects → Units → Value → Value → Outcome
rest_of h u (v.Int m) y = rest_int h u m y
rest_of h u (v.Text id) y = format_of h u (text_at h id.0) y
rest_of h u v.Nil y = mismatch v.Nil y
rest_of h u (v.Bool b) y = mismatch (v.Bool b) y
rest_of h u (v.List id) y = mismatch (v.List id) y
rest_of h u (v.Tuple id) y = mismatch (v.Tuple id) y
rest_of h u (v.Dict id) y = mismatch (v.Dict id) y
rest_of h u (v.Func id) y = mismatch (v.Func id) y
rest_of h u (v.Builtin b) y = mismatch (v.Builtin b) y
rest_of h u (v.Object id) y = mismatch (v.Object id) y
