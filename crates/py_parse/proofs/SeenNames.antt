-- A name more in the list of names.
use Rattle.std.proofs.Common.{◌≡◌, ℕ, List, [], ◌∷◌, ◌++◌, Bool, true, false, ◌||◌, cond, nat_eq, refl, ap, ◌∙◌}
use Rattle.std.specs.Cmp.Lexicographic.{pointwise}
use Rattle.py_parse.specs.Terminals.{has}

or_false : (b : Bool) → (b || false) ≡ cond b true false
or_false true = refl
or_false false = refl

or_further : (a b c : Bool) → (a || cond b true c) ≡ cond b true (a || c)
or_further true true c = refl
or_further true false c = refl
or_further false true c = refl
or_further false false c = refl

has_more : (seen : List (List ℕ)) (n q : List ℕ) → has (seen ++ n ∷ []) q ≡ cond (pointwise nat_eq n q) true (has seen q)
has_more [] n q = or_false (pointwise nat_eq n q)
has_more (m ∷ seen) n q =
    ap (λ b. pointwise nat_eq m q || b) (has_more seen n q) ∙ or_further (pointwise nat_eq m q) (pointwise nat_eq n q) (has seen q)

pub has_one_more : (seen seen' : List (List ℕ)) (n q : List ℕ) (known known' : Bool) → seen' ≡ seen ++ n ∷ [] →
    known' ≡ cond (pointwise nat_eq n q) true known → known ≡ has seen q → known' ≡ has seen' q
has_one_more seen seen' n q known known' e f h = rw (f, h, e, has_more seen n q) refl
