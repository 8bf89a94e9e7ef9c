-- A text as it grows stands for the text itself.
use Rattle.std.proofs.Common.{arith, ◌≡◌, ◌∙◌, ◌+◌, ◌-◌, ◌<◌, ◌≤◌, ℕ, zero, suc, Bool, true, false, cond, List, [], ◌∷◌, ◌++◌, length, Ok, Err, Result, refl, sym, ap}
use Rattle.std.specs.Prelude.{nat_le, codes}
use Rattle.std.proofs.lemmas.Bool.{le-leb, lt-leb, leb-true, leb-false}
use Rattle.std.proofs.lemmas.List.{length-append}
use Rattle.py_heap.specs.declared.value.Value.{Value}
use Rattle.py_heap.specs.declared.value.Value.TheVariants as v
use Rattle.py_heap.specs.declared.dict.Entry.{Entry}
use Rattle.py_heap.specs.declared.fault.ValueFault.{ValueFault}
use Rattle.py_heap.specs.declared.fault.ValueFault.TheVariants as fault
use Rattle.py_heap.specs.Heap.{Objects, list_at, tuple_at, dict_at}
use Rattle.scons_base.specs.declared.limits.TheConstants.{TEXT_LIMIT, VALUE_DEPTH_LIMIT}
use Rattle.py_heap.specs.Units.{Units, charged, limited, told_length}
use Rattle.py_heap.proofs.Rooms.{limited_passes}
use Rattle.py_compare.specs.Outcomes.{then_by}
use Rattle.py_compare.specs.Growing.{Growth, not_begun, grown, whole_of}
use Rattle.py_compare.specs.Showing.{Shown, separator, tuple_end, flat_text, entries_of, onto_items, onto_entry, onto_entries, closed, shown_by, show_at, behind, show_of}

-- ---- a piece is put behind it

grown_is : (g : Growth) (piece : List ℕ) (b : Bool) → nat_le (g.size + length piece) TEXT_LIMIT ≡ b → grown g piece ≡ record { kept = cond b (g.kept ++ piece) []; size = told_length (g.size + length piece) }
unfolding grown
grown_is g piece b e = λ i. record { kept = cond (e i) (g.kept ++ piece) []; size = told_length (g.size + length piece) }

pub grown_over : (g : Growth) (piece kept : List ℕ) (n : ℕ) → n ≡ told_length (g.size + length piece) → TEXT_LIMIT < n → kept ≡ [] → ◌≡◌ {A = Growth} (record { kept = kept; size = n }) (grown g piece)
grown_over g piece kept n e over none =
    let passes : TEXT_LIMIT < g.size + length piece = omega arith in
    let same : ◌≡◌ {A = Growth} (record { kept = kept; size = n }) (record { kept = []; size = told_length (g.size + length piece) }) = λ i. record { kept = none i; size = e i } in
    same ∙ sym (grown_is g piece false (lt-leb (g.size + length piece) TEXT_LIMIT passes))

pub grown_within : (g : Growth) (piece kept : List ℕ) (n : ℕ) → n ≡ told_length (g.size + length piece) → n ≤ TEXT_LIMIT → kept ≡ g.kept ++ piece → ◌≡◌ {A = Growth} (record { kept = kept; size = n }) (grown g piece)
grown_within g piece kept n e within more =
    let fits : g.size + length piece ≤ TEXT_LIMIT = omega arith in
    let same : ◌≡◌ {A = Growth} (record { kept = kept; size = n }) (record { kept = g.kept ++ piece; size = told_length (g.size + length piece) }) = λ i. record { kept = more i; size = e i } in
    same ∙ sym (grown_is g piece true (le-leb (g.size + length piece) TEXT_LIMIT fits))

pub ruleset growths = (grown_over, grown_within)

-- ---- what is kept of a text

unfoldable pub grow : List ℕ → Growth
grow text = record { kept = cond (nat_le (length text) TEXT_LIMIT) text []; size = told_length (length text) }

pub grow_is : (text : List ℕ) (b : Bool) → nat_le (length text) TEXT_LIMIT ≡ b → grow text ≡ record { kept = cond b text []; size = told_length (length text) }
unfolding grow
grow_is text b e = λ i. record { kept = cond (e i) text []; size = told_length (length text) }

pub grow-behind : (text piece : List ℕ) → grow (behind text piece) ≡ grown (grow text) piece
grow-behind text piece = by (nat_le (length text + length piece) TEXT_LIMIT) refl (length-append text piece)
  where
    by : (b : Bool) → nat_le (length text + length piece) TEXT_LIMIT ≡ b → length (text ++ piece) ≡ length text + length piece → grow (behind text piece) ≡ grown (grow text) piece
    by true e all =
        let fits : length text + length piece ≤ TEXT_LIMIT = leb-true (length text + length piece) TEXT_LIMIT e in
        let short : length text ≤ TEXT_LIMIT = omega arith in
        let whole : length (text ++ piece) ≤ TEXT_LIMIT = omega arith in
        let is = grow_is text true (le-leb (length text) TEXT_LIMIT short) in
        let sized : (grow text).size ≡ told_length (length text) = ap (λ g. g.size) is in
        let same : text ≡ (grow text).kept = sym (ap (λ g. g.kept) is) in
        let size : told_length (length (text ++ piece)) ≡ told_length ((grow text).size + length piece) = omega arith in
        let small : told_length (length (text ++ piece)) ≤ TEXT_LIMIT = omega arith in
        grow_is (text ++ piece) true (le-leb (length (text ++ piece)) TEXT_LIMIT whole)
        ∙ grown_within (grow text) piece (text ++ piece) (told_length (length (text ++ piece))) size small (ap (λ k. k ++ piece) same)
    by false e all =
        let passes : TEXT_LIMIT < length text + length piece = leb-false (length text + length piece) TEXT_LIMIT e in
        let whole : TEXT_LIMIT < length (text ++ piece) = omega arith in
        let sized : (grow text).size ≡ told_length (length text) = ap (λ g. g.size) (grow_is text (nat_le (length text) TEXT_LIMIT) refl) in
        let size : told_length (length (text ++ piece)) ≡ told_length ((grow text).size + length piece) = omega arith in
        let big : TEXT_LIMIT < told_length (length (text ++ piece)) = omega arith in
        grow_is (text ++ piece) false (lt-leb (length (text ++ piece)) TEXT_LIMIT whole) ∙ grown_over (grow text) piece [] (told_length (length (text ++ piece))) size big refl

-- ---- and so of all that is shown behind one

unfoldable pub told_of : Shown (List ℕ) → Shown Growth
told_of (Ok s) = Ok (grow s.0, s.1)
told_of (Err e) = Err e

then_told : (o : Shown (List ℕ)) (k : List ℕ × Units → Shown (List ℕ)) (k' : Growth × Units → Shown Growth) → ((t : List ℕ) (u : Units) → k' (grow t, u) ≡ told_of (k (t, u))) → then_by (told_of o) k' ≡ told_of (then_by o k)
unfolding told_of
then_told (Ok s) k k' h = h s.0 s.1
then_told (Err e) k k' h = refl

module _ (f : List ℕ → Units → Value → Shown (List ℕ)) (f' : Growth → Units → Value → Shown Growth) (same : (t : List ℕ) (u : Units) (x : Value) → f' (grow t) u x ≡ told_of (f t u x)) where
  items_told : (n : ℕ) (t : List ℕ) (u : Units) (xs : List Value) → onto_items grown f' n (grow t) u xs ≡ told_of (onto_items behind f n t u xs)
  unfolding told_of
  items_told n t u [] = refl
  items_told n t u (x ∷ xs) =
      ap (λ g. then_by (f' g u x) (λ s. onto_items grown f' (suc n) s.0 s.1 xs)) (sym (grow-behind t (separator n)))
      ∙ ap (λ r. then_by r (λ s. onto_items grown f' (suc n) s.0 s.1 xs)) (same (behind t (separator n)) u x)
      ∙ then_told (f (behind t (separator n)) u x) (λ s. onto_items behind f (suc n) s.0 s.1 xs) (λ s. onto_items grown f' (suc n) s.0 s.1 xs) (λ t' u'. items_told (suc n) t' u' xs)

  entry_told : (t : List ℕ) (u : Units) (e : Entry) → onto_entry grown f' (grow t) u e ≡ told_of (onto_entry behind f t u e)
  entry_told t u e =
      ap (λ r. then_by r (λ k. f' (grown k.0 (codes ": ")) k.1 e.item)) (same t u e.key)
      ∙ then_told (f t u e.key) (λ k. f (behind k.0 (codes ": ")) k.1 e.item) (λ k. f' (grown k.0 (codes ": ")) k.1 e.item) (λ t' u'. ap (λ g. f' g u' e.item) (sym (grow-behind t' (codes ": "))) ∙ same (behind t' (codes ": ")) u' e.item)

  entries_told : (n : ℕ) (t : List ℕ) (u : Units) (es : List Entry) → onto_entries grown f' n (grow t) u es ≡ told_of (onto_entries behind f n t u es)
  unfolding told_of
  entries_told n t u [] = refl
  entries_told n t u (e ∷ es) =
      ap (λ g. then_by (onto_entry grown f' g u e) (λ s. onto_entries grown f' (suc n) s.0 s.1 es)) (sym (grow-behind t (separator n)))
      ∙ ap (λ r. then_by r (λ s. onto_entries grown f' (suc n) s.0 s.1 es)) (entry_told (behind t (separator n)) u e)
      ∙ then_told (onto_entry behind f (behind t (separator n)) u e) (λ s. onto_entries behind f (suc n) s.0 s.1 es) (λ s. onto_entries grown f' (suc n) s.0 s.1 es) (λ t' u'. entries_told (suc n) t' u' es)

put_told : (t piece : List ℕ) (u : Units) → ◌≡◌ {A = Shown Growth} (Ok (grown (grow t) piece, u)) (told_of (Ok (behind t piece, u)))
unfolding told_of
put_told t piece u = let with_units : Growth → Shown Growth = λ g. Ok (g, u) in ap with_units (sym (grow-behind t piece))

closed_told : (end : List ℕ) (o : Shown (List ℕ)) → closed grown end (told_of o) ≡ told_of (closed behind end o)
closed_told end o = then_told o (λ s. Ok (behind s.0 end, s.1)) (λ s. Ok (grown s.0 end, s.1)) (λ t u. put_told t end u)

module _ (items : List ℕ → Units → List Value → Shown (List ℕ)) (items' : Growth → Units → List Value → Shown Growth) (entries : List ℕ → Units → List Entry → Shown (List ℕ)) (entries' : Growth → Units → List Entry → Shown Growth)
    (same : (t : List ℕ) (u : Units) (xs : List Value) → items' (grow t) u xs ≡ told_of (items t u xs)) (alike : (t : List ℕ) (u : Units) (es : List Entry) → entries' (grow t) u es ≡ told_of (entries t u es)) where
  bracketed : (start end : List ℕ) (t : List ℕ) (u : Units) (xs : List Value) → closed grown end (items' (grown (grow t) start) u xs) ≡ told_of (closed behind end (items (behind t start) u xs))
  bracketed start end t u xs = ap (λ g. closed grown end (items' g u xs)) (sym (grow-behind t start)) ∙ ap (closed grown end) (same (behind t start) u xs) ∙ closed_told end (items (behind t start) u xs)

  braced : (start end : List ℕ) (t : List ℕ) (u : Units) (es : List Entry) → closed grown end (entries' (grown (grow t) start) u es) ≡ told_of (closed behind end (entries (behind t start) u es))
  braced start end t u es = ap (λ g. closed grown end (entries' g u es)) (sym (grow-behind t start)) ∙ ap (closed grown end) (alike (behind t start) u es) ∙ closed_told end (entries (behind t start) u es)

  shown_told : (h : Objects) (q : Bool) (t : List ℕ) (u : Units) (x : Value) → shown_by grown items' entries' h q (grow t) u x ≡ told_of (shown_by behind items entries h q t u x)
  shown_told h q t u (v.List id) = bracketed (codes "[") (codes "]") t u (list_at h id.0)
  shown_told h q t u (v.Tuple id) = bracketed (codes "(") (tuple_end (length (tuple_at h id.0))) t u (tuple_at h id.0)
  shown_told h q t u (v.Dict id) = braced (codes "{") (codes "}") t u (entries_of (dict_at h id.0))
  shown_told h q t u v.Nil = put_told t (flat_text h q v.Nil) u
  shown_told h q t u (v.Bool b) = put_told t (flat_text h q (v.Bool b)) u
  shown_told h q t u (v.Int n) = put_told t (flat_text h q (v.Int n)) u
  shown_told h q t u (v.Text id) = put_told t (flat_text h q (v.Text id)) u
  shown_told h q t u (v.Func id) = put_told t (flat_text h q (v.Func id)) u
  shown_told h q t u (v.Builtin b) = put_told t (flat_text h q (v.Builtin b)) u
  shown_told h q t u (v.Object id) = put_told t (flat_text h q (v.Object id)) u

paid_told : (c : Result Units ValueFault) (k : Units → Shown (List ℕ)) (k' : Units → Shown Growth) → ((left : Units) → k' left ≡ told_of (k left)) → then_by c k' ≡ told_of (then_by c k)
unfolding told_of
paid_told (Ok left) k k' h = h left
paid_told (Err e) k k' h = refl

pub show_told : (levels : ℕ) (h : Objects) (q : Bool) (t : List ℕ) (u : Units) (x : Value) → show_at grown levels h q (grow t) u x ≡ told_of (show_at behind levels h q t u x)
unfolding show_at told_of
show_told zero h q t u x =
    paid_told (charged u 1) (λ left. shown_by behind (λ t w xs. Err fault.Deep) (λ t w es. Err fault.Deep) h q t left x) (λ left. shown_by grown (λ t w xs. Err fault.Deep) (λ t w es. Err fault.Deep) h q (grow t) left x)
    (λ left. shown_told (λ t w xs. Err fault.Deep) (λ t w xs. Err fault.Deep) (λ t w es. Err fault.Deep) (λ t w es. Err fault.Deep) (λ t w xs. refl) (λ t w es. refl) h q t left x)
show_told (suc levels) h q t u x =
    paid_told (charged u 1) (λ left. shown_by behind (onto_items behind (show_at behind levels h true) 0) (onto_entries behind (show_at behind levels h true) 0) h q t left x)
    (λ left. shown_by grown (onto_items grown (show_at grown levels h true) 0) (onto_entries grown (show_at grown levels h true) 0) h q (grow t) left x)
    (λ left. shown_told (onto_items behind (show_at behind levels h true) 0) (onto_items grown (show_at grown levels h true) 0) (onto_entries behind (show_at behind levels h true) 0) (onto_entries grown (show_at grown levels h true) 0)
    (items_told (show_at behind levels h true) (show_at grown levels h true) (show_told levels h true) 0) (entries_told (show_at behind levels h true) (show_at grown levels h true) (show_told levels h true) 0) h q t left x)

-- ---- what is made at the end

pub grow_nothing : grow [] ≡ not_begun
unfolding grow
grow_nothing = refl

limited_with : (n : ℕ) (x y : List ℕ) (u : Units) → limited TEXT_LIMIT n x ≡ Ok y → limited {X = List ℕ × Units} TEXT_LIMIT n (x, u) ≡ Ok (y, u)
unfolding limited
limited_with n x y u e = by (nat_le n TEXT_LIMIT) e
  where
    by : (b : Bool) → cond b (Ok x) (Err (fault.TooBig (told_length n))) ≡ Ok y → ◌≡◌ {A = Shown (List ℕ)} (cond b (Ok (x, u)) (Err (fault.TooBig (told_length n)))) (Ok (y, u))
    by true p = let same : x ≡ y = cc in let with_units : List ℕ → Shown (List ℕ) = λ z. Ok (z, u) in ap with_units same
    by false p = absurd (cc)

limited_fails : (n : ℕ) (x : List ℕ) (u : Units) (k : ValueFault) → limited TEXT_LIMIT n x ≡ Err k → limited {X = List ℕ × Units} TEXT_LIMIT n (x, u) ≡ Err k
unfolding limited
limited_fails n x u k e = by (nat_le n TEXT_LIMIT) e
  where
    by : (b : Bool) → cond b (Ok x) (Err (fault.TooBig (told_length n))) ≡ Err k → ◌≡◌ {A = Shown (List ℕ)} (cond b (Ok (x, u)) (Err (fault.TooBig (told_length n)))) (Err k)
    by true p = absurd (cc)
    by false p = cc

pub whole-grow : (text : List ℕ) → whole_of (grow text) ≡ limited TEXT_LIMIT (length text) text
whole-grow text = by (nat_le (length text) TEXT_LIMIT) refl
  where
    by : (b : Bool) → nat_le (length text) TEXT_LIMIT ≡ b → whole_of (grow text) ≡ limited TEXT_LIMIT (length text) text
    by true e =
        let fits : length text ≤ TEXT_LIMIT = leb-true (length text) TEXT_LIMIT e in
        let same : told_length (length text) ≡ length text = omega arith in
        ap whole_of (grow_is text true e) ∙ ap (λ n. limited TEXT_LIMIT n text) same
    by false e =
        let passes : TEXT_LIMIT < length text = leb-false (length text) TEXT_LIMIT e in
        let too_big : ℕ → Result (List ℕ) ValueFault = λ n. Err (fault.TooBig n) in
        let big : TEXT_LIMIT < told_length (length text) = omega arith in
        let same : told_length (told_length (length text)) ≡ told_length (length text) = omega arith in
        ap whole_of (grow_is text false e) ∙ limited_passes {X = List ℕ} TEXT_LIMIT (told_length (length text)) [] big ∙ ap too_big same ∙ sym (limited_passes TEXT_LIMIT (length text) text passes)

module _ (h : Objects) (u : Units) (x : Value) (q : Bool) where
  told : (r : Shown Growth) → show_at grown VALUE_DEPTH_LIMIT h q not_begun u x ≡ r → told_of (show_at behind VALUE_DEPTH_LIMIT h q [] u x) ≡ r
  told r e = sym (show_told VALUE_DEPTH_LIMIT h q [] u x) ∙ ap (λ g. show_at grown VALUE_DEPTH_LIMIT h q g u x) grow_nothing ∙ e

  pub shown_whole : (g : Growth) (left : Units) (s : List ℕ) → show_at grown VALUE_DEPTH_LIMIT h q not_begun u x ≡ Ok (g, left) → whole_of g ≡ Ok s → show_of h u x q ≡ Ok (s, left)
  unfolding told_of
  shown_whole g left s e w = by (show_at behind VALUE_DEPTH_LIMIT h q [] u x) (told (Ok (g, left)) e)
    where
      by : (o : Shown (List ℕ)) → told_of o ≡ Ok (g, left) → then_by o (λ s. limited TEXT_LIMIT (length s.0) s) ≡ Ok (s, left)
      by (Ok t) p =
          let pair : ◌≡◌ {A = Growth × Units} (grow t.0, t.1) (g, left) = cc in
          let same : grow t.0 ≡ g = ap (λ (z : Growth × Units). z.0) pair in
          let units : t.1 ≡ left = ap (λ (z : Growth × Units). z.1) pair in
          let with_text : Units → Shown (List ℕ) = λ k. Ok (s, k) in
          limited_with (length t.0) t.0 s t.1 (sym (whole-grow t.0) ∙ ap whole_of same ∙ w) ∙ ap with_text units
      by (Err k) p = absurd (cc)

  pub shown_too_big : (g : Growth) (left : Units) (k : ValueFault) → show_at grown VALUE_DEPTH_LIMIT h q not_begun u x ≡ Ok (g, left) → whole_of g ≡ Err k → show_of h u x q ≡ Err k
  unfolding told_of
  shown_too_big g left k e w = by (show_at behind VALUE_DEPTH_LIMIT h q [] u x) (told (Ok (g, left)) e)
    where
      by : (o : Shown (List ℕ)) → told_of o ≡ Ok (g, left) → then_by o (λ s. limited TEXT_LIMIT (length s.0) s) ≡ Err k
      by (Ok t) p =
          let pair : ◌≡◌ {A = Growth × Units} (grow t.0, t.1) (g, left) = cc in
          let same : grow t.0 ≡ g = ap (λ (z : Growth × Units). z.0) pair in
          limited_fails (length t.0) t.0 t.1 k (sym (whole-grow t.0) ∙ ap whole_of same ∙ w)
      by (Err k') p = absurd (cc)

  pub shown_not : (k : ValueFault) → show_at grown VALUE_DEPTH_LIMIT h q not_begun u x ≡ Err k → show_of h u x q ≡ Err k
  unfolding told_of
  shown_not k e = by (show_at behind VALUE_DEPTH_LIMIT h q [] u x) (told (Err k) e)
    where
      by : (o : Shown (List ℕ)) → told_of o ≡ Err k → then_by o (λ s. limited TEXT_LIMIT (length s.0) s) ≡ Err k
      by (Ok t) p = absurd (cc)
      by (Err k') p = cc

pub ruleset whole_shown = (shown_whole, shown_too_big, shown_not)
