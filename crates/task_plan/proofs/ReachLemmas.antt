-- What a rule keeps of the files that it scans, from scan to scan.
use Rattle.std.proofs.Common.{arith, ◌≡◌, ◌≢◌, ◌<◌, ◌≤◌, ◌∙◌, ◌⊎◌, inl, inr, ℕ, zero, suc, ◌+◌, List, [], ◌∷◌, ◌++◌, Bool, true, false, ◌||◌, ap, sym, refl, length, take, drop, get_or, Option, Some, None, length-append, subst}
use Rattle.std.specs.Prelude.{if◌then◌else◌, nat_eq, slice_get, map, IfSome, is_some, unwrap_or, position}
use Rattle.std.specs.List.{IsDistinct, AllByRecursion}
use Rattle.std.specs.Map.{lookup}
use Rattle.std.specs.Option.{option_map}
use Rattle.std.proofs.lemmas.Map.Made.{lookup-map_values}
use Rattle.std.proofs.lemmas.Map.Keys.{IsDistinct-head, IsDistinct-tail}
use Rattle.std.proofs.lemmas.Bool.Decides.{nat_tests}
use Rattle.std.proofs.lemmas.List.Quantifiers.{position-Some}
use Rattle.std.proofs.lemmas.List.{take-append-le, take_all, drop_at, length-take-le}
use Rattle.std.proofs.lemmas.Option.{slice_get_within, slice_get-get_or, same_Some, none-some}
use Rattle.scons_base.specs.declared.ids.NodeId.{NodeId}
use Rattle.task_plan.specs.Settled.{IsLonger, is_scanned}
use Rattle.task_plan.specs.Named.{put_all}
use Rattle.task_plan.specs.Listed.{included, found_of, with_found, sources_in, IsReachTo, AreAhead, AreAheadTo, IsWalked, IsWalking, IsNext, IsAppended, IsSameReach}
use Rattle.task_plan.specs.declared.reach.Reach.{Reach}
use Rattle.task_plan.proofs.ListLemmas.{get-within, some_lookup}
use Rattle.task_plan.proofs.WalkLemmas.{reach_next, reach_skip, reach_back, reach_all, reach_to_all, reach_insert, reach_none, included_this, node_same}

-- whether a file was scanned, by what contracts see of the scans
pub scanned_seen : {X : Type 0} (g : X → List NodeId) (n : NodeId) (es : List (NodeId × X)) → is_scanned (map (λ e. (e.0, g e.1)) es) n ≡ is_scanned es n
scanned_seen g n [] = refl
scanned_seen g n (e ∷ es) = ap (λ b. nat_eq n.0 e.0.0 || b) (scanned_seen g n es)

seen_ahead : (r : Reach) (front end : ℕ) → AreAheadTo r.found.entries r.files.keys front end → AreAheadTo (found_of r) r.files.keys front end
seen_ahead r front end a = record { each = λ n file at lo hi. scanned_seen (λ v. v.items) file r.found.entries ∙ a.each n file at lo hi }

ahead_all : {X : Type 0} (found : List (NodeId × X)) (files : List NodeId) (front end : ℕ) → AreAheadTo found files front end → length files ≤ end → AreAhead found files front
ahead_all found files front end a le = record { each = λ n file at lo. a.each n file at lo (let lt = slice_get_within files n file at in omega arith) }

ahead_to : {X : Type 0} (found : List (NodeId × X)) (files : List NodeId) (front end : ℕ) → AreAhead found files front → AreAheadTo found files front end
ahead_to found files front end a = record { each = λ n file at lo hi. a.each n file at lo }

-- all before a place was listed, and there is nothing behind
pub walked_all : (r : Reach) (place : ℕ) → IsWalking r place → length r.files.keys ≤ place → IsWalked r
walked_all r place w le = record {
  reach = reach_all (sources_in r) r.excluded.keys (found_of r) r.files.keys place w.reach le;
  ahead = ahead_all r.found.entries r.files.keys r.front place w.ahead le;
}

-- what one file more includes was listed, and none from there on was scanned
pub walked_on : (r s : Reach) (next before : ℕ) → IsAppended r next before → AreAhead r.found.entries r.files.keys before → s ≡ record r { front = next } → IsWalked s
walked_on r s next before a b e =
    let ahead : AreAhead r.found.entries r.files.keys next = record { each = λ n file at lo. ahead_by r next before n file at lo (either n before) a.ahead b } in
    let seen = seen_ahead r next (length r.files.keys + next) (ahead_to r.found.entries r.files.keys next (length r.files.keys + next) ahead) in
    rw e (record {
      reach = reach_all (sources_in r) r.excluded.keys (found_of r) r.files.keys (length r.files.keys + next)
          (reach_skip (sources_in r) r.excluded.keys (found_of r) r.files.keys next (length r.files.keys + next) a.reach seen (omega arith)) (omega arith);
      ahead = ahead;
    })
  where
    either : (n m : ℕ) → (n < m) ⊎ (m ≤ n)
    either n m = grind arith

    ahead_by : (r : Reach) (next before n : ℕ) (file : NodeId) → slice_get r.files.keys n ≡ Some file → next ≤ n → (n < before) ⊎ (before ≤ n) → AreAheadTo r.found.entries r.files.keys next before
        → AreAhead r.found.entries r.files.keys before → is_scanned r.found.entries file ≡ false
    ahead_by r next before n file at lo (inl lt) a b = a.each n file at lo lt
    ahead_by r next before n file at lo (inr le) a b = b.each n file at le

sources_longer : (r s : Reach) → r.sources ≤ length r.files.keys → s.sources ≡ r.sources → IsLonger r.files.keys s.files.keys → sources_in s ≡ sources_in r
sources_longer r s le e l = ap (λ n. take n s.files.keys) e ∙ ap (take r.sources) l.is ∙ take-append-le r.sources r.files.keys l.more le

pub same_longer : (r s : Reach) → r.sources ≤ length r.files.keys → s.sources ≡ r.sources → s.excluded.keys ≡ r.excluded.keys → IsLonger r.files.keys s.files.keys → IsSameReach r s
same_longer r s le e x l = record {
  sources = e;
  same = sources_longer r s le e l;
  within = let n = ap length l.is in let m = length-append r.files.keys l.more in omega arith;
  excluded = x;
}

pub same_trans : (a b c : Reach) → IsSameReach a b → IsSameReach b c → IsSameReach a c
same_trans a b c s t = record { sources = t.sources ∙ s.sources; same = t.same ∙ s.same; within = t.within; excluded = t.excluded ∙ s.excluded }

-- a file was scanned that stands right before a place, behind all that were scanned, and what it includes was put behind the others
module _ (r s : Reach) (next before : ℕ) (file : NodeId) (inc : List NodeId) where
  abbrev listed_to : ℕ → Type 0
  listed_to p = IsReachTo (sources_in r) r.excluded.keys (found_of r) r.files.keys p

  seen_from : (p q : ℕ) → IsWalked r → r.front ≤ p → AreAheadTo (found_of r) r.files.keys p q
  seen_from p q w le = record { each = λ n x at lo hi. scanned_seen (λ v. v.items) x r.found.entries ∙ w.ahead.each n x at (omega arith) }

  listed_there : (place : ℕ) → IsWalked r → r.front ≤ place → listed_to place
  listed_there place w le =
      let end : ℕ = length r.files.keys + place in
      reach_back (sources_in r) r.excluded.keys (found_of r) r.files.keys place end
      (reach_to_all (sources_in r) r.excluded.keys (found_of r) r.files.keys end w.reach (omega arith)) (seen_from place end w le) (omega arith)

  listed_next : (p : IsNext r file next) → IsWalked r → s.files.keys ≡ put_all r.excluded.keys r.files.keys inc
      → IsReachTo (sources_in r) r.excluded.keys (with_found (found_of r) file inc) s.files.keys next
  listed_next p w f =
      let none = (seen_from p.place (p.place + 1) w p.from).each p.place file p.at (omega arith) (omega arith) in
      let there = reach_insert (sources_in r) r.excluded.keys (found_of r) r.files.keys p.place file inc (listed_there p.place w p.from) none (λ n x at lt. p.others n x at (ne_of n p.place lt)) in
      rw p.is (reach_next (sources_in r) r.excluded.keys (with_found (found_of r) file inc) r.files.keys s.files.keys inc p.place file there p.at (sym (included_this (found_of r) file inc)) f)
    where
      ne_of : (n m : ℕ) → n < m → n ≢ m
      ne_of n m lt e = omega arith

  pub appended : (p : IsNext r file next) → IsWalked r → r.sources ≤ length r.files.keys → before ≡ length r.files.keys
      → s.sources ≡ r.sources → s.excluded.keys ≡ r.excluded.keys → s.files.keys ≡ put_all r.excluded.keys r.files.keys inc → found_of s ≡ with_found (found_of r) file inc
      → ((x : NodeId) → nat_eq x.0 file.0 ≡ false → is_scanned r.found.entries x ≡ false → is_scanned s.found.entries x ≡ false) → IsLonger r.files.keys s.files.keys → IsAppended s next before
  appended p w le b e x f g none l = record {
    reach = rw (sources_longer r s le e l, x, g) (listed_next p w f);
    ahead = record {
      each = λ n y at lo hi.
          let there : slice_get r.files.keys n ≡ Some y = sym (get-within r.files.keys l.more n (omega arith)) ∙ ap (λ ys. slice_get ys n) (sym l.is) ∙ at in
          none y (p.others n y there (above n p.place (let i = p.is in omega arith))) (w.ahead.each n y there (let i = p.is in let q = p.from in omega arith));
    };
  }
    where
      above : (n m : ℕ) → m < n → n ≢ m
      above n m lt e = omega arith

-- the list begins with the sources
pub walking_none : (r s : Reach) → r.sources ≤ length r.files.keys → s.files.keys ≡ take r.sources r.files.keys → s.sources ≡ r.sources → s.front ≡ 0 → IsWalking s 0
walking_none r s le f e z =
    let len = length-take-le r.sources r.files.keys le in
    let own : s.files.keys ≡ sources_in s = sym (take_all s.sources s.files.keys (let m = ap length f in omega arith)) in
    record {
      reach = reach_none (sources_in s) s.excluded.keys (found_of s) s.files.keys own;
      front = omega arith;
      ahead = record { each = λ n x at lo hi. absurd (omega arith) };
    }

front_by : (b : Bool) (r s : Reach) (place : ℕ) (file : NodeId) → IsWalking r place → slice_get r.files.keys place ≡ Some file → is_scanned r.found.entries file ≡ b
    → s.front ≡ (if b then place + 1 else r.front) → (s.front ≤ place + 1)
    × ((n : ℕ) (x : NodeId) → slice_get r.files.keys n ≡ Some x → s.front ≤ n → n < place + 1 → is_scanned r.found.entries x ≡ false)
front_by true r s place file w at h e = (omega arith, λ n x there lo hi. absurd (omega arith))
front_by false r s place file w at h e = (let f = w.front in omega arith, λ n x there lo hi. ahead_or r s place file w at h e n x there lo (split n place hi))
  where
    split : (n m : ℕ) → n < m + 1 → (n < m) ⊎ (n ≡ m)
    split n m lt = grind arith

    ahead_or : (r s : Reach) (place : ℕ) (file : NodeId) → IsWalking r place → slice_get r.files.keys place ≡ Some file → is_scanned r.found.entries file ≡ false → s.front ≡ r.front
        → (n : ℕ) (x : NodeId) → slice_get r.files.keys n ≡ Some x → s.front ≤ n → (n < place) ⊎ (n ≡ place) → is_scanned r.found.entries x ≡ false
    ahead_or r s place file w at h e n x there lo (inl lt) = w.ahead.each n x there (omega arith) lt
    ahead_or r s place file w at h e n x there lo (inr same) =
        let one : Some x ≡ Some file = sym there ∙ ap (slice_get r.files.keys) same ∙ at in
        let eq : x ≡ file = cc in
        rw eq h

-- a walk changes the files and their front alone
pub walk_rest : (a r s : Reach) → r ≡ record a { files = r.files; front = r.front } → s ≡ record r { files = s.files; front = s.front } → s ≡ record a { files = s.files; front = s.front }
walk_rest a r s e f = f ∙ ap (λ (x : Reach). record x { files = s.files; front = s.front }) e

-- what the file at a place includes was listed
pub walking_next : (r s : Reach) (place : ℕ) (file : NodeId) → IsWalking r place → r.sources ≤ length r.files.keys → slice_get r.files.keys place ≡ Some file → s.sources ≡ r.sources → s.excluded.keys ≡ r.excluded.keys
    → s.found.entries ≡ r.found.entries → s.files.keys ≡ put_all r.excluded.keys r.files.keys (included (found_of r) file) → IsLonger r.files.keys s.files.keys
    → s.front ≡ (if is_scanned r.found.entries file then place + 1 else r.front) → IsWalking s (place + 1)
walking_next r s place file w le at e x g f l h =
    let front = front_by (is_scanned r.found.entries file) r s place file w at refl h in
    let lt = slice_get_within r.files.keys place file at in
    let seen : found_of s ≡ found_of r = ap (map (λ y. (y.0, y.1.items))) g in
    record {
      reach = rw (sources_longer r s le e l, x, seen) (reach_next (sources_in r) r.excluded.keys (found_of r) r.files.keys s.files.keys (included (found_of r) file) place file w.reach at refl f);
      front = front.0;
      ahead = record {
        each = λ n y there lo hi.
            let old : slice_get r.files.keys n ≡ Some y = sym (get-within r.files.keys l.more n (omega arith)) ∙ ap (λ ys. slice_get ys n) (sym l.is) ∙ there in
            rw g (front.1 n y old lo hi);
      };
    }

-- what stands behind those that were there
pub behind_all : (a b new : List NodeId) → IsLonger a b → new ≡ drop (length a) b → b ≡ a ++ new
behind_all a b new l e =
    let same : new ≡ l.more = e ∙ ap (drop (length a)) l.is ∙ drop_at a l.more (length a) refl in
    l.is ∙ ap (λ ys. a ++ ys) (sym same)

-- the same, where there is such a place
pub appended_at : (r s : Reach) (next : Option ℕ) (before : ℕ) (file : NodeId) (inc : List NodeId) (is_listed : Bool) → IfSome next (λ n. (is_listed ≡ true) × IsNext r file n) → (is_listed ≡ true → IsWalked r)
    → r.sources ≤ length r.files.keys → before ≡ length r.files.keys → s.sources ≡ r.sources → s.excluded.keys ≡ r.excluded.keys → s.files.keys ≡ put_all r.excluded.keys r.files.keys inc
    → found_of s ≡ with_found (found_of r) file inc
    → ((x : NodeId) → nat_eq x.0 file.0 ≡ false → is_scanned r.found.entries x ≡ false → is_scanned s.found.entries x ≡ false) → IsLonger r.files.keys s.files.keys → IfSome next (λ n. IsAppended s n before)
appended_at r s None before file inc is_listed p w le b e x f g none l = tt
appended_at r s (Some next) before file inc is_listed p w le b e x f g none l = appended r s next before file inc p.1 (w p.0) le b e x f g none l

module _ {X : Type 0} (g : X → List NodeId) where
  -- what a file that was scanned includes
  pub seen_some : (es : List (NodeId × X)) (n : NodeId) (v : X) → Some v ≡ lookup (λ m. nat_eq n.0 m.0) es → included (map (λ e. (e.0, g e.1)) es) n ≡ g v
  seen_some es n v h = ap (λ o. unwrap_or o []) (lookup-map_values g (λ m. nat_eq n.0 m.0) es ∙ ap (option_map g) (sym h))

  pub seen_none : (es : List (NodeId × X)) (n : NodeId) → None ≡ lookup (λ m. nat_eq n.0 m.0) es → included (map (λ e. (e.0, g e.1)) es) n ≡ []
  seen_none es n h = ap (λ o. unwrap_or o []) (lookup-map_values g (λ m. nat_eq n.0 m.0) es ∙ ap (option_map g) (sym h))

module _ {X : Type 0} where
  pub scanned_some : (es : List (NodeId × X)) (n : NodeId) (v : X) → Some v ≡ lookup (λ m. nat_eq n.0 m.0) es → is_scanned es n ≡ true
  scanned_some es n v h = sym (some_lookup (λ m. nat_eq n.0 m.0) es) ∙ ap is_some (sym h)

  pub scanned_nothing : (es : List (NodeId × X)) (n : NodeId) → None ≡ lookup (λ m. nat_eq n.0 m.0) es → is_scanned es n ≡ false
  scanned_nothing es n h = sym (some_lookup (λ m. nat_eq n.0 m.0) es) ∙ ap is_some (sym h)

all_at : {X : Type 0} (P : X → Type 0) (xs : List X) (i : ℕ) (x : X) → AllByRecursion P xs → slice_get xs i ≡ Some x → P x
all_at P [] i x a e = absurd (none-some x e)
all_at P (y ∷ xs) zero x a e = let same : y ≡ x = same_Some y x e in subst P same a.0
all_at P (y ∷ xs) (suc i) x a e = all_at P xs i x a.1 e

distinct_at : (eq : NodeId → NodeId → Bool) (xs : List NodeId) (i j : ℕ) (x y : NodeId) → IsDistinct eq xs → slice_get xs i ≡ Some x → slice_get xs j ≡ Some y → i < j → eq x y ≡ false
distinct_at eq [] i j x y d e f lt = absurd (none-some x e)
distinct_at eq (z ∷ xs) zero zero x y d e f lt = absurd (omega arith)
distinct_at eq (z ∷ xs) zero (suc j) x y d e f lt = let same : z ≡ x = same_Some z x e in rw (sym same) (all_at (λ v. eq z v ≡ false) xs j y (IsDistinct-head eq z xs d) f)
distinct_at eq (z ∷ xs) (suc i) zero x y d e f lt = absurd (omega arith)
distinct_at eq (z ∷ xs) (suc i) (suc j) x y d e f lt = distinct_at eq xs i j x y (IsDistinct-tail eq z xs d) e f (omega arith)

flip : (m n : ℕ) → nat_eq m n ≡ false → nat_eq n m ≡ false
flip m n e = grind (arith, nat_tests)

above : (n m : ℕ) → m ≤ n → n ≢ m → m < n
above n m le ne = grind (arith, nat_tests)

-- the place behind the first place of a file
pub is_next : (r : Reach) (file : NodeId) (place : ℕ) → Some place ≡ position (λ m. nat_eq file.0 m.0) r.files.keys → IsDistinct (λ a b. nat_eq a.0 b.0) r.files.keys → r.front ≤ place → IsNext r file (place + 1)
is_next r file place e d from =
    let p = position-Some (λ m. nat_eq file.0 m.0) r.files.keys place file (sym e) in
    let there : slice_get r.files.keys place ≡ Some (get_or r.files.keys place file) = slice_get-get_or r.files.keys place file p.0 in
    let same : file ≡ get_or r.files.keys place file = node_same file (get_or r.files.keys place file) p.1 in
    let at : slice_get r.files.keys place ≡ Some file = there ∙ ap Some (sym same) in
    record {
      place = place;
      is = refl;
      from = from;
      at = at;
      others = λ n other there ne. other_by n other there ne at (either n place);
    }
  where
    either : (n m : ℕ) → (n < m) ⊎ (m ≤ n)
    either n m = grind arith

    other_by : (n : ℕ) (other : NodeId) → slice_get r.files.keys n ≡ Some other → n ≢ place → slice_get r.files.keys place ≡ Some file → (n < place) ⊎ (place ≤ n) → nat_eq other.0 file.0 ≡ false
    other_by n other there ne at (inl lt) = distinct_at (λ a b. nat_eq a.0 b.0) r.files.keys n place other file d there at lt
    other_by n other there ne at (inr le) = flip file.0 other.0 (distinct_at (λ a b. nat_eq a.0 b.0) r.files.keys place n file other d at there (above n place le ne))
