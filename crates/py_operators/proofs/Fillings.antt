-- A format that is filled in a text that grows is the format filled.
use Rattle.std.proofs.Common.{arith, ◌≡◌, ◌∙◌, ◌-◌, ℕ, Bool, true, false, List, [], ◌∷◌, length, Ok, Err, Some, refl, sym, ap}
use Rattle.std.specs.Prelude.{nat_le, codes}
use Rattle.std.proofs.lemmas.Bool.{leb-false}
use Rattle.py_text.specs.Formatting.{FormatPiece, literal, percent, any_value, integer, pieces_of}
use Rattle.py_heap.specs.declared.value.Value.{Value}
use Rattle.py_heap.specs.declared.value.Value.TheVariants as v
use Rattle.py_heap.specs.declared.fault.ValueFault.{ValueFault}
use Rattle.py_heap.specs.declared.fault.ValueFault.TheVariants as fault
use Rattle.py_heap.specs.Heap.{Objects}
use Rattle.scons_base.specs.declared.limits.TheConstants.{TEXT_LIMIT, VALUE_DEPTH_LIMIT}
use Rattle.py_heap.specs.Units.{Units, room}
use Rattle.py_heap.proofs.Rooms.{room-told_length, room_passes}
use Rattle.py_compare.specs.Outcomes.{then_by, paid_text}
use Rattle.py_compare.specs.Growing.{Growth, not_begun, grown}
use Rattle.py_compare.specs.Showing.{Shown, show_at, behind}
use Rattle.py_compare.proofs.Growths.{grow, grow_is, grow-behind, grow_nothing, told_of, show_told}
use Rattle.py_operators.specs.Remainders.{Filling, integer_shown, piece_onto, pieces_onto, filled}

unfoldable filling_of : Filling (List ℕ) → Filling Growth
filling_of (Ok s) = Ok (s.0, grow s.1, s.2)
filling_of (Err e) = Err e

onto_told : (o : Shown (List ℕ)) (xs : List Value) → then_by (told_of o) (λ s. Ok (xs, s.0, s.1)) ≡ filling_of (then_by o (λ s. Ok (xs, s.0, s.1)))
unfolding told_of filling_of
onto_told (Ok s) xs = refl
onto_told (Err e) xs = refl

integer_told : (h : Objects) (t : List ℕ) (u : Units) (x : Value) → integer_shown grown h (grow t) u x ≡ told_of (integer_shown behind h t u x)
unfolding told_of
integer_told h t u (v.Int n) = show_told VALUE_DEPTH_LIMIT h false t u (v.Int n)
integer_told h t u v.Nil = refl
integer_told h t u (v.Bool b) = refl
integer_told h t u (v.Text id) = refl
integer_told h t u (v.List id) = refl
integer_told h t u (v.Tuple id) = refl
integer_told h t u (v.Dict id) = refl
integer_told h t u (v.Func id) = refl
integer_told h t u (v.Builtin b) = refl
integer_told h t u (v.Object id) = refl

abbrev with_text : List Value → Units → Growth → Filling Growth
with_text xs u g = Ok (xs, g, u)

piece_told : (h : Objects) (t : List ℕ) (u : Units) (p : FormatPiece) (xs : List Value) → piece_onto grown h (grow t) u p xs ≡ filling_of (piece_onto behind h t u p xs)
unfolding filling_of
piece_told h t u (literal s) xs = ap (λ g. with_text xs u g) (sym (grow-behind t s))
piece_told h t u percent xs = ap (λ g. with_text xs u g) (sym (grow-behind t (codes "%")))
piece_told h t u any_value [] = refl
piece_told h t u any_value (x ∷ xs) = ap (λ o. then_by o (λ s. Ok (xs, s.0, s.1))) (show_told VALUE_DEPTH_LIMIT h false t u x) ∙ onto_told (show_at behind VALUE_DEPTH_LIMIT h false t u x) xs
piece_told h t u integer [] = refl
piece_told h t u integer (x ∷ xs) = ap (λ o. then_by o (λ s. Ok (xs, s.0, s.1))) (integer_told h t u x) ∙ onto_told (integer_shown behind h t u x) xs

filled_then : (o : Filling (List ℕ)) (k : List Value × List ℕ × Units → Shown (List ℕ)) (k' : List Value × Growth × Units → Shown Growth) → ((xs : List Value) (t : List ℕ) (u : Units) → k' (xs, grow t, u) ≡ told_of (k (xs, t, u)))
    → then_by (filling_of o) k' ≡ told_of (then_by o k)
unfolding told_of filling_of
filled_then (Ok s) k k' h = h s.0 s.1 s.2
filled_then (Err e) k k' h = refl

pieces_told : (h : Objects) (t : List ℕ) (u : Units) (ps : List FormatPiece) (xs : List Value) → pieces_onto grown h (grow t) u ps xs ≡ told_of (pieces_onto behind h t u ps xs)
unfolding told_of
pieces_told h t u [] [] = refl
pieces_told h t u [] (x ∷ xs) = refl
pieces_told h t u (p ∷ ps) xs =
    ap (λ o. then_by o (λ s. pieces_onto grown h s.1 s.2 ps s.0)) (piece_told h t u p xs)
    ∙ filled_then (piece_onto behind h t u p xs) (λ s. pieces_onto behind h s.1 s.2 ps s.0) (λ s. pieces_onto grown h s.1 s.2 ps s.0) (λ xs' t' u'. pieces_told h t' u' ps xs')

-- the bytes that are charged for are all of the text, and it is kept where there is room for it
paid_grow : (t : List ℕ) (u : Units) → room TEXT_LIMIT u (grow t).size ≡ room TEXT_LIMIT u (length t)
paid_grow t u = ap (λ g. room TEXT_LIMIT u g.size) (grow_is t (nat_le (length t) TEXT_LIMIT) refl) ∙ room-told_length TEXT_LIMIT u (length t) (omega arith)

kept_grow : (t : List ℕ) (u left : Units) → room TEXT_LIMIT u (length t) ≡ Ok left → (grow t).kept ≡ t
kept_grow t u left e = by (nat_le (length t) TEXT_LIMIT) refl
  where
    by : (b : Bool) → nat_le (length t) TEXT_LIMIT ≡ b → (grow t).kept ≡ t
    by true within = ap (λ g. g.kept) (grow_is t true within)
    by false over = let passes = room_passes TEXT_LIMIT u (length t) (leb-false (length t) TEXT_LIMIT over) in absurd (cc)

module _ (h : Objects) (u : Units) (s : List ℕ) (ps : List FormatPiece) (xs : List Value) (read : pieces_of s ≡ Some ps) where
  told : (r : Shown Growth) → pieces_onto grown h not_begun u ps xs ≡ r → told_of (pieces_onto behind h [] u ps xs) ≡ r
  told r e = sym (pieces_told h [] u ps xs) ∙ ap (λ g. pieces_onto grown h g u ps xs) grow_nothing ∙ e

  pub filled_paid : (g : Growth) (spent left : Units) → pieces_onto grown h not_begun u ps xs ≡ Ok (g, spent) → room TEXT_LIMIT spent g.size ≡ Ok left → filled h u s xs ≡ Ok (g.kept, left)
  unfolding told_of
  filled_paid g spent left e paid = rw read (by (pieces_onto behind h [] u ps xs) (told (Ok (g, spent)) e))
    where
      by : (o : Shown (List ℕ)) → told_of o ≡ Ok (g, spent) → then_by o (λ t. paid_text t.1 t.0) ≡ Ok (g.kept, left)
      by (Ok t) p =
          let pair : ◌≡◌ {A = Growth × Units} (grow t.0, t.1) (g, spent) = cc in
          let same : grow t.0 ≡ g = ap (λ (z : Growth × Units). z.0) pair in
          let units : t.1 ≡ spent = ap (λ (z : Growth × Units). z.1) pair in
          let there : room TEXT_LIMIT t.1 (length t.0) ≡ Ok left = sym (paid_grow t.0 t.1) ∙ ap (λ k. room TEXT_LIMIT t.1 k.size) same ∙ ap (λ k. room TEXT_LIMIT k g.size) units ∙ paid in
          let kept : t.0 ≡ g.kept = sym (kept_grow t.0 t.1 left there) ∙ ap (λ k. k.kept) same in
          let with_left : List ℕ → Shown (List ℕ) = λ k. Ok (k, left) in
          ap (λ c. then_by c (λ k. Ok (t.0, k))) there ∙ ap with_left kept
      by (Err k) p = absurd (cc)

  pub filled_unpaid : (g : Growth) (spent : Units) (k : ValueFault) → pieces_onto grown h not_begun u ps xs ≡ Ok (g, spent) → room TEXT_LIMIT spent g.size ≡ Err k → filled h u s xs ≡ Err k
  unfolding told_of
  filled_unpaid g spent k e unpaid = rw read (by (pieces_onto behind h [] u ps xs) (told (Ok (g, spent)) e))
    where
      by : (o : Shown (List ℕ)) → told_of o ≡ Ok (g, spent) → then_by o (λ t. paid_text t.1 t.0) ≡ Err k
      by (Ok t) p =
          let pair : ◌≡◌ {A = Growth × Units} (grow t.0, t.1) (g, spent) = cc in
          let same : grow t.0 ≡ g = ap (λ (z : Growth × Units). z.0) pair in
          let units : t.1 ≡ spent = ap (λ (z : Growth × Units). z.1) pair in
          let there : room TEXT_LIMIT t.1 (length t.0) ≡ Err k = sym (paid_grow t.0 t.1) ∙ ap (λ w. room TEXT_LIMIT t.1 w.size) same ∙ ap (λ w. room TEXT_LIMIT w g.size) units ∙ unpaid in
          ap (λ c. then_by c (λ w. Ok (t.0, w))) there
      by (Err k') p = absurd (cc)

  pub filled_not : (k : ValueFault) → pieces_onto grown h not_begun u ps xs ≡ Err k → filled h u s xs ≡ Err k
  unfolding told_of
  filled_not k e = rw read (by (pieces_onto behind h [] u ps xs) (told (Err k) e))
    where
      by : (o : Shown (List ℕ)) → told_of o ≡ Err k → then_by o (λ t. paid_text t.1 t.0) ≡ Err k
      by (Ok t) p = absurd (cc)
      by (Err k') p = cc

pub ruleset fillings = (filled_paid, filled_unpaid, filled_not)
