-- The files of a rule, breadth first, as one file after another is scanned.
use Rattle.std.proofs.Common.{arith, ◌≡◌, ◌≢◌, ◌<◌, ◌≤◌, ◌∙◌, ◌⊎◌, inl, inr, ℕ, zero, suc, ◌+◌, ◌-◌, List, [], ◌∷◌, ◌++◌, Bool, true, false, ◌||◌, ap, sym, refl, length, take, get_or, Some}
use Rattle.std.specs.Prelude.{if◌then◌else◌, nat_eq, slice_get, map}
use Rattle.std.specs.List.{flat_map}
use Rattle.std.proofs.lemmas.List.{append-nil, take_more, take_all, take-append-le, length-append}
use Rattle.std.proofs.lemmas.List.Concat.{flat_map-append}
use Rattle.std.proofs.lemmas.Option.{same_Some, slice_get_within, get_or_from_slice_get}
use Rattle.indexmap.specs.IndexMap.{insert_entry}
use Rattle.scons_base.specs.declared.ids.NodeId.{NodeId}
use Rattle.task_plan.specs.Settled.{is_scanned}
use Rattle.task_plan.specs.Named.{stands, put, put_all}
use Rattle.task_plan.specs.Listed.{included, with_found, IsFoundBefore, IsReachTo, IsReach, AreAheadTo}
use Rattle.task_plan.proofs.PlanLemmas.{true_false}
use Rattle.task_plan.proofs.ListLemmas.{get-front, get-within, get-behind}
use Rattle.task_plan.proofs.NamedLemmas.{or_first, or_second, same_eq, put_all-append, put_all_longer}

nat_same : (m n : ℕ) → nat_eq m n ≡ true → m ≡ n
nat_same m n e = grind arith

nat_apart : (m n : ℕ) → m ≢ n → nat_eq m n ≡ false
nat_apart m n e = grind arith

pub node_same : (a b : NodeId) → nat_eq a.0 b.0 ≡ true → a ≡ b
node_same a b e = ap (λ (n : ℕ). let x : NodeId = record { 0 = n } in x) (nat_same a.0 b.0 e)

included_by : (b : Bool) (found : List (NodeId × List NodeId)) (e : NodeId × List NodeId) (n : NodeId) → nat_eq n.0 e.0.0 ≡ b
    → (b || is_scanned found n) ≡ false → (is_scanned found n ≡ false → included found n ≡ []) → included (e ∷ found) n ≡ []
included_by true found e n t h f = absurd (cc)
included_by false found e n t h f = rw t (f h)

-- of a file that wasn't scanned nothing is known
pub included_none : (found : List (NodeId × List NodeId)) (n : NodeId) → is_scanned found n ≡ false → included found n ≡ []
included_none [] n h = refl
included_none (e ∷ found) n h = included_by (nat_eq n.0 e.0.0) found e n refl h (included_none found n)

insert_other_by : (b c : Bool) (found : List (NodeId × List NodeId)) (e : NodeId × List NodeId) (k n : NodeId) (v : List NodeId) → nat_eq k.0 e.0.0 ≡ b → nat_eq n.0 e.0.0 ≡ c
    → nat_eq n.0 k.0 ≡ false → included (with_found found k v) n ≡ included found n → included (with_found (e ∷ found) k v) n ≡ included (e ∷ found) n
insert_other_by true true found e k n v s t ne h = absurd (true_false (nat_eq n.0 k.0) (rw (nat_same k.0 e.0.0 s) t) ne)
insert_other_by true false found e k n v s t ne h = rw s (rw t refl)
insert_other_by false true found e k n v s t ne h = rw s (rw t refl)
insert_other_by false false found e k n v s t ne h = rw s (rw t h)

-- what other files include is known still
pub included_other : (found : List (NodeId × List NodeId)) (k n : NodeId) (v : List NodeId) → nat_eq n.0 k.0 ≡ false → included (with_found found k v) n ≡ included found n
included_other [] k n v ne = rw ne refl
included_other (e ∷ found) k n v ne = insert_other_by (nat_eq k.0 e.0.0) (nat_eq n.0 e.0.0) found e k n v refl refl ne (included_other found k n v ne)

insert_this_by : (b : Bool) (found : List (NodeId × List NodeId)) (e : NodeId × List NodeId) (k : NodeId) (v : List NodeId) → nat_eq k.0 e.0.0 ≡ b
    → included (with_found found k v) k ≡ v → included (with_found (e ∷ found) k v) k ≡ v
insert_this_by true found e k v s h = rw s (rw s refl)
insert_this_by false found e k v s h = rw s (rw s h)

-- what a file includes is known once it was scanned
pub included_this : (found : List (NodeId × List NodeId)) (k : NodeId) (v : List NodeId) → included (with_found found k v) k ≡ v
included_this [] k v = rw (same_eq k.0) refl
included_this (e ∷ found) k v = insert_this_by (nat_eq k.0 e.0.0) found e k v refl (included_this found k v)

pub scanned_other : {X : Type 0} (eq : NodeId → NodeId → Bool) → ((a b : NodeId) → eq a b ≡ nat_eq a.0 b.0) → (found : List (NodeId × X)) (k n : NodeId) (v : X) → nat_eq n.0 k.0 ≡ false
    → is_scanned found n ≡ false → is_scanned (insert_entry eq found k v) n ≡ false
scanned_other eq same [] k n v ne h = rw ne refl
scanned_other eq same (e ∷ found) k n v ne h = other_by eq same (eq k e.0) (nat_eq n.0 e.0.0) e found k n v refl refl ne h (scanned_other eq same found k n v ne)
  where
    other_by : {X : Type 0} (eq : NodeId → NodeId → Bool) → ((a b : NodeId) → eq a b ≡ nat_eq a.0 b.0) → (b c : Bool) (e : NodeId × X) (found : List (NodeId × X)) (k n : NodeId) (v : X)
        → eq k e.0 ≡ b → nat_eq n.0 e.0.0 ≡ c → nat_eq n.0 k.0 ≡ false → (c || is_scanned found n) ≡ false
        → (is_scanned found n ≡ false → is_scanned (insert_entry eq found k v) n ≡ false) → is_scanned (insert_entry eq (e ∷ found) k v) n ≡ false
    other_by eq same b true e found k n v s t ne h f = absurd (cc)
    other_by eq same true false e found k n v s t ne h f = rw s (rw t h)
    other_by eq same false false e found k n v s t ne h f = rw s (rw t (f h))

map_insert : {X : Type 0} (g : X → List NodeId) (eq : NodeId → NodeId → Bool) → ((a b : NodeId) → eq a b ≡ nat_eq a.0 b.0) → (found : List (NodeId × X)) (k : NodeId) (v : X)
    → map (λ e. (e.0, g e.1)) (insert_entry eq found k v) ≡ with_found (map (λ e. (e.0, g e.1)) found) k (g v)
map_insert g eq same [] k v = refl
map_insert g eq same (e ∷ found) k v = insert_by g eq same (eq k e.0) e found k v refl (map_insert g eq same found k v)
  where
    insert_by : {X : Type 0} (g : X → List NodeId) (eq : NodeId → NodeId → Bool) → ((a b : NodeId) → eq a b ≡ nat_eq a.0 b.0) → (b : Bool) (e : NodeId × X) (found : List (NodeId × X)) (k : NodeId) (v : X)
        → eq k e.0 ≡ b → map (λ e. (e.0, g e.1)) (insert_entry eq found k v) ≡ with_found (map (λ e. (e.0, g e.1)) found) k (g v)
        → map (λ e. (e.0, g e.1)) (insert_entry eq (e ∷ found) k v) ≡ with_found (map (λ e. (e.0, g e.1)) (e ∷ found)) k (g v)
    insert_by g eq same true e found k v s h = rw (s, sym (same k e.0) ∙ s) refl
    insert_by g eq same false e found k v s h = rw (s, sym (same k e.0) ∙ s) (ap (λ es. (e.0, g e.1) ∷ es) h)

pub found_insert : {X : Type 0} (g : X → List NodeId) (eq : NodeId → NodeId → Bool) → ((a b : NodeId) → eq a b ≡ nat_eq a.0 b.0) → (found : List (NodeId × X)) (k : NodeId) (v : X)
    → map (λ e. (e.0, g e.1)) (insert_entry eq found k v) ≡ with_found (map (λ e. (e.0, g e.1)) found) k (g v)
found_insert g eq same found k v = map_insert g eq same found k v

-- two functions that agree on the first so many of a list
flat_same : (f g : NodeId → List NodeId) (xs : List NodeId) (count : ℕ) → ((n : ℕ) (x : NodeId) → slice_get xs n ≡ Some x → n < count → g x ≡ f x) → flat_map g (take count xs) ≡ flat_map f (take count xs)
flat_same f g xs zero h = refl
flat_same f g [] (suc count) h = refl
flat_same f g (x ∷ xs) (suc count) h =
    let e : g x ≡ f x = h 0 x refl (omega arith) in
    rw e (ap (λ ys. f x ++ ys) (flat_same f g xs count (λ n y at lt. h (suc n) y at (omega arith))))

-- what gives nothing from a place on adds nothing
flat_skip : (f : NodeId → List NodeId) (xs : List NodeId) (p q : ℕ) → ((n : ℕ) (x : NodeId) → slice_get xs n ≡ Some x → p ≤ n → n < q → f x ≡ []) → p ≤ q → flat_map f (take q xs) ≡ flat_map f (take p xs)
flat_skip f xs zero zero h le = refl
flat_skip f [] zero (suc q) h le = refl
flat_skip f (x ∷ xs) zero (suc q) h le =
    let e : f x ≡ [] = h 0 x refl (omega arith) (omega arith) in
    rw e (flat_skip f xs zero q (λ n y at lo hi. h (suc n) y at (omega arith) (omega arith)) (omega arith))
flat_skip f [] (suc p) (suc q) h le = refl
flat_skip f (x ∷ xs) (suc p) (suc q) h le = ap (λ ys. f x ++ ys) (flat_skip f xs p q (λ n y at lo hi. h (suc n) y at (omega arith) (omega arith)) (omega arith))
flat_skip f xs (suc p) zero h le = absurd (omega arith)

take_at : {X : Type 0} (xs zs : List X) (p : ℕ) (x : X) → slice_get xs p ≡ Some x → take (p + 1) (xs ++ zs) ≡ take p xs ++ x ∷ []
take_at xs zs p x e =
    let lt = slice_get_within xs p x e in
    let same : get_or xs p x ≡ x = get_or_from_slice_get xs p x x e in
    take-append-le (p + 1) xs zs (omega arith) ∙ take_more xs p x lt ∙ ap (λ y. take p xs ++ y ∷ []) same

-- where a node that was put behind others came from
put_from : (b c : Bool) (there : List NodeId) (i x : NodeId) (n : ℕ) → length there ≤ n → slice_get (if b then there else (if c then there else there ++ i ∷ [])) n ≡ Some x → nat_eq x.0 i.0 ≡ true
put_from true c there i x n le e = absurd (let lt = slice_get_within there n x e in omega arith)
put_from false true there i x n le e = absurd (let lt = slice_get_within there n x e in omega arith)
put_from false false there i x n le e =
    let lt = slice_get_within (there ++ i ∷ []) n x e in
    let len = length-append there (i ∷ []) in
    let at : n ≡ length there + 0 = omega arith in
    let last : slice_get (there ++ i ∷ []) n ≡ Some i = get-behind there (i ∷ []) n le ∙ (let z : (n - length there) ≡ 0 = omega arith in rw z refl) in
    let same : x ≡ i = same_Some x i (sym e ∙ last) in
    rw same (same_eq i.0)

put_all_by : (out there is : List NodeId) (i x : NodeId) (n : ℕ) → (n < length (put out there i)) ⊎ (length (put out there i) ≤ n) → length there ≤ n → slice_get (put_all out (put out there i) is) n ≡ Some x
    → (length (put out there i) ≤ n → stands is x ≡ true) → stands (i ∷ is) x ≡ true
put_all_by out there is i x n (inl lt) le e f =
    let l = put_all_longer out (put out there i) is in
    let here : slice_get (put out there i) n ≡ Some x = sym (get-within (put out there i) l.more n lt) ∙ ap (λ ys. slice_get ys n) (sym l.is) ∙ e in
    or_first (nat_eq x.0 i.0) (stands is x) (put_from (stands out i) (stands there i) there i x n le here)
put_all_by out there is i x n (inr past) le e f = or_second (nat_eq x.0 i.0) (stands is x) (f past)

pub within_or : (n m : ℕ) → (n < m) ⊎ (m ≤ n)
within_or n m = grind arith

-- what stands behind those that were there is one of the nodes that were put there
pub put_all_from : (out there is : List NodeId) (x : NodeId) (n : ℕ) → length there ≤ n → slice_get (put_all out there is) n ≡ Some x → stands is x ≡ true
put_all_from out there [] x n le e = absurd (let lt = slice_get_within there n x e in omega arith)
put_all_from out there (i ∷ is) x n le e = put_all_by out there is i x n (within_or n (length (put out there i))) le e (λ past. put_all_from out (put out there i) is x n past e)

module _ (sources out : List NodeId) where
  found_front : (found : List (NodeId × List NodeId)) (files new : List NodeId) (n : ℕ) (file : NodeId) → IsFoundBefore found files n file → IsFoundBefore found (files ++ new) n file
  found_front found files new n file b = record { place = b.place; before = b.before; by = b.by; at = get-front files new b.place b.by b.at; includes = b.includes }

  next_earlier : (found : List (NodeId × List NodeId)) (files more inc : List NodeId) (p n : ℕ) (f file : NodeId) → IsReachTo sources out found files p → slice_get files p ≡ Some f → inc ≡ included found f
      → put_all out files inc ≡ files ++ more → (n < length files) ⊎ (length files ≤ n) → slice_get (files ++ more) n ≡ Some file → length sources ≤ n → IsFoundBefore found (files ++ more) n file
  next_earlier found files more inc p n f file r at is e (inl lt) there le =
      found_front found files more n file (r.earlier n file (sym (get-within files more n lt) ∙ there) le)
  next_earlier found files more inc p n f file r at is e (inr past) there le =
      let lt = slice_get_within files p f at in
      record {
        place = p;
        before = omega arith;
        by = f;
        at = get-front files more p f at;
        includes = rw (sym is) (put_all_from out files inc file n past (ap (λ ys. slice_get ys n) e ∙ there));
      }

  -- what the next file includes is listed
  pub reach_next : (found : List (NodeId × List NodeId)) (files new inc : List NodeId) (p : ℕ) (f : NodeId) → IsReachTo sources out found files p → slice_get files p ≡ Some f → inc ≡ included found f
      → new ≡ put_all out files inc → IsReachTo sources out found new (p + 1)
  reach_next found files new inc p f r at is e =
      let l = put_all_longer out files inc in
      let all : new ≡ files ++ l.more = e ∙ l.is in
      let step : flat_map (included found) (take (p + 1) new) ≡ flat_map (included found) (take p files) ++ inc =
      ap (λ ys. flat_map (included found) (take (p + 1) ys)) all
      ∙ ap (flat_map (included found)) (take_at files l.more p f at)
      ∙ flat_map-append (included found) (take p files) (f ∷ [])
      ∙ ap (λ ys. flat_map (included found) (take p files) ++ ys) (append-nil (included found f) ∙ sym is) in
      record {
        whole = e ∙ ap (λ ys. put_all out ys inc) r.whole ∙ sym (put_all-append out sources (flat_map (included found) (take p files)) inc) ∙ ap (put_all out sources) (sym step);
        earlier = λ n file there le. rw all (next_earlier found files l.more inc p n f file r at is (l.is) (within_or n (length files)) (ap (λ ys. slice_get ys n) (sym all) ∙ there) le);
      }

  -- files that weren't scanned add nothing
  pub reach_skip : (found : List (NodeId × List NodeId)) (files : List NodeId) (p q : ℕ) → IsReachTo sources out found files p → AreAheadTo found files p q → p ≤ q → IsReachTo sources out found files q
  reach_skip found files p q r a le = record {
    whole = r.whole ∙ ap (put_all out sources) (sym (flat_skip (included found) files p q (λ n x at lo hi. included_none found x (a.each n x at lo hi)) le));
    earlier = r.earlier;
  }

  pub reach_back : (found : List (NodeId × List NodeId)) (files : List NodeId) (p q : ℕ) → IsReachTo sources out found files q → AreAheadTo found files p q → p ≤ q → IsReachTo sources out found files p
  reach_back found files p q r a le = record {
    whole = r.whole ∙ ap (put_all out sources) (flat_skip (included found) files p q (λ n x at lo hi. included_none found x (a.each n x at lo hi)) le);
    earlier = r.earlier;
  }

  pub reach_all : (found : List (NodeId × List NodeId)) (files : List NodeId) (p : ℕ) → IsReachTo sources out found files p → length files ≤ p → IsReach sources out found files
  reach_all found files p r le = record { whole = r.whole ∙ ap (λ ys. put_all out sources (flat_map (included found) ys)) (take_all p files le); earlier = r.earlier }

  pub reach_to_all : (found : List (NodeId × List NodeId)) (files : List NodeId) (p : ℕ) → IsReach sources out found files → length files ≤ p → IsReachTo sources out found files p
  reach_to_all found files p r le = record { whole = r.whole ∙ ap (λ ys. put_all out sources (flat_map (included found) ys)) (sym (take_all p files le)); earlier = r.earlier }

  found_still : (found : List (NodeId × List NodeId)) (files : List NodeId) (k : NodeId) (v : List NodeId) (n : ℕ) (file : NodeId) (b : IsFoundBefore found files n file) (c : Bool) → nat_eq b.by.0 k.0 ≡ c
      → is_scanned found k ≡ false → IsFoundBefore (with_found found k v) files n file
  found_still found files k v n file b true e none =
      let same : b.by ≡ k = node_same b.by k e in
      let no : included found b.by ≡ [] = ap (included found) same ∙ included_none found k none in
      absurd (true_false (stands (included found b.by) file) b.includes (rw no refl))
  found_still found files k v n file b false e none = record {
    place = b.place;
    before = b.before;
    by = b.by;
    at = b.at;
    includes = rw (included_other found k b.by v e) b.includes;
  }

  -- a file is scanned before which all was listed
  pub reach_insert : (found : List (NodeId × List NodeId)) (files : List NodeId) (p : ℕ) (k : NodeId) (v : List NodeId) → IsReachTo sources out found files p → is_scanned found k ≡ false
      → ((n : ℕ) (x : NodeId) → slice_get files n ≡ Some x → n < p → nat_eq x.0 k.0 ≡ false) → IsReachTo sources out (with_found found k v) files p
  reach_insert found files p k v r none others = record {
    whole = r.whole ∙ ap (put_all out sources) (sym (flat_same (included found) (included (with_found found k v)) files p (λ n x at lt. included_other found k x v (others n x at lt))));
    earlier = λ n file at le. let b = r.earlier n file at le in found_still found files k v n file b (nat_eq b.by.0 k.0) refl none;
  }

  -- nothing was scanned yet
  pub reach_none : (found : List (NodeId × List NodeId)) (files : List NodeId) → files ≡ sources → IsReachTo sources out found files 0
  reach_none found files e = record {
    whole = e;
    earlier = λ n file at le. absurd (let lt = slice_get_within files n file at in let same = ap length e in omega arith);
  }
