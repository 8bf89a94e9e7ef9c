-- A mark that is found stands there.
use Rattle.std.proofs.Common.{◌≡◌, ℕ, ◌<◌, ◌≤◌, Bool, true, false, List, [], ◌∷◌, Option, Some, None, cond, length, take, refl, sym, ap, arith, nat_eq, lit<}
use Rattle.std.specs.Prelude.{find, IfSome}
use Rattle.std.specs.List.{starts_with}
use Rattle.std.specs.Cmp.Lexicographic.{same_text}
use Rattle.std.proofs.lemmas.List.{length-take}
use Rattle.py_token.specs.declared.mark.Mark.{Mark}
use Rattle.py_token.specs.declared.mark.Mark.TheVariants.{OpenParen, CloseParen, OpenBracket, CloseBracket, OpenBrace, CloseBrace, Comma, Colon, Dot, Semicolon, Assign, PlusAssign, MinusAssign, StarAssign, Equal, NotEqual, Less, LessEqual, Greater, GreaterEqual, Plus, Minus, Star, FloorDivide, Percent, Slash, Power, At, Bar, Ampersand, Caret, Tilde, ShiftLeft, ShiftRight, Arrow, Walrus}
use Rattle.py_token.specs.Marks.{mark_text}
use Rattle.py_lex.specs.Marks.{marks, mark_at}
use Rattle.py_lex.specs.Sizes.{StandsAt}

found_by : {X : Type 0} (p : X → Bool) (x y : X) (b : Bool) (more : Option X) → p x ≡ b → cond b (Some x) more ≡ Some y → (more ≡ Some y → p y ≡ true) → p y ≡ true
found_by p x y true more is e rest = cc (is, e)
found_by p x y false more is e rest = rest e

pub find_passes : {X : Type 0} (p : X → Bool) (xs : List X) (y : X) → find p xs ≡ Some y → p y ≡ true
find_passes p [] y e = cc
find_passes p (x ∷ xs) y e = found_by p x y (p x) (find p xs) refl e (find_passes p xs y)

-- by the table
some_bytes : (m : Mark) → 0 < length (mark_text m)
some_bytes OpenParen = lit< tt
some_bytes CloseParen = lit< tt
some_bytes OpenBracket = lit< tt
some_bytes CloseBracket = lit< tt
some_bytes OpenBrace = lit< tt
some_bytes CloseBrace = lit< tt
some_bytes Comma = lit< tt
some_bytes Colon = lit< tt
some_bytes Dot = lit< tt
some_bytes Semicolon = lit< tt
some_bytes Assign = lit< tt
some_bytes PlusAssign = lit< tt
some_bytes MinusAssign = lit< tt
some_bytes StarAssign = lit< tt
some_bytes Equal = lit< tt
some_bytes NotEqual = lit< tt
some_bytes Less = lit< tt
some_bytes LessEqual = lit< tt
some_bytes Greater = lit< tt
some_bytes GreaterEqual = lit< tt
some_bytes Plus = lit< tt
some_bytes Minus = lit< tt
some_bytes Star = lit< tt
some_bytes FloorDivide = lit< tt
some_bytes Percent = lit< tt
some_bytes Slash = lit< tt
some_bytes Power = lit< tt
some_bytes At = lit< tt
some_bytes Bar = lit< tt
some_bytes Ampersand = lit< tt
some_bytes Caret = lit< tt
some_bytes Tilde = lit< tt
some_bytes ShiftLeft = lit< tt
some_bytes ShiftRight = lit< tt
some_bytes Arrow = lit< tt
some_bytes Walrus = lit< tt

fits_in : (text bytes : List ℕ) → text ≡ take (length text) bytes → length text ≤ length bytes
fits_in text bytes e = omega (arith, ap length e, length-take (length text) bytes)

stands_at : (bytes : List ℕ) (m : Mark) → mark_at bytes ≡ Some m → StandsAt m bytes
stands_at bytes m e = record {
  some = some_bytes m;
  fits = fits_in _ _ (same_text (mark_text m) (take (length (mark_text m)) bytes) (sym (find_passes (λ k. starts_with nat_eq bytes (mark_text k)) marks m e)));
}

pub found_stands : (bytes : List ℕ) (r : Option Mark) → r ≡ mark_at bytes → IfSome r (λ m. StandsAt m bytes)
found_stands bytes None e = tt
found_stands bytes (Some m) e = stands_at bytes m (sym e)
