-- A list of scanned files that isn't cut short has all that are scanned for its rule, and nothing else; and so the
-- dependencies are what the rule reaches.
use Rattle.std.proofs.Common.{◌<◌, ℕ, zero, suc, Bool, true, false, if◌then◌else◌, List, [], ◌∷◌, ◌++◌, length, inl, inr, ◌⊎◌, ⊎_elim, arith}
use Rattle.build_model.specs.Rules.{Path, Rule, Among, here, there}
use Rattle.build_model.specs.Reach.{has, those, unseen, breadth_first, kept_sources, declared, left_out, first_scanned, scan_list, reach, IsScanned, scans_source, scans_found, Reaches, is_declared, is_scanned}
use Rattle.build_model.proofs.Lists.{among_left, among_right, among_either, unseen_in, unseen_all}

shorter : {A : Type 0} (x : A) (xs : List A) {n : ℕ} → length (x ∷ xs) < suc n → length xs < n
shorter x xs h = omega arith

not_shorter : {A : Type 0} {n : ℕ} → n < 0 → A
not_shorter h = absurd (omega arith)

module _ (f : Path → List Path) where
  pub waiting_in : {p : Path} (n : ℕ) (seen waiting : List Path) → length (breadth_first f n seen waiting) < n →
      Among p waiting → Among p (breadth_first f n seen waiting)
  waiting_in zero seen waiting short h = not_shorter short
  waiting_in (suc n) seen [] short h = elim h [ ]
  waiting_in (suc n) seen (a ∷ waiting) short here = here
  waiting_in (suc n) seen (a ∷ waiting) short (there h) =
      there (waiting_in n (unseen seen (f a) ++ seen) (waiting ++ unseen seen (f a)) (shorter a _ short) (among_left (unseen seen (f a)) h))

  closed_first : {p a : Path} (n : ℕ) (seen waiting : List Path) → length (breadth_first f (suc n) seen (a ∷ waiting)) < suc n →
      Among p seen ⊎ Among p (unseen seen (f a)) → Among p (breadth_first f (suc n) seen (a ∷ waiting)) ⊎ Among p seen
  closed_first n seen waiting short (inl s) = inr s
  closed_first {p} {a} n seen waiting short (inr u) =
      inl (there (waiting_in n (unseen seen (f a) ++ seen) (waiting ++ unseen seen (f a)) (shorter a _ short) (among_right waiting u)))

  closed_later : {p a : Path} (n : ℕ) (seen waiting : List Path) → length (breadth_first f (suc n) seen (a ∷ waiting)) < suc n →
      Among p (breadth_first f n (unseen seen (f a) ++ seen) (waiting ++ unseen seen (f a))) ⊎ Among p (unseen seen (f a) ++ seen) →
      Among p (breadth_first f (suc n) seen (a ∷ waiting)) ⊎ Among p seen
  closed_later n seen waiting short (inl m) = inl (there m)
  closed_later {p} {a} n seen waiting short (inr m) =
      ⊎_elim (λ u. closed_first n seen waiting short (inr u)) inr (among_either (unseen seen (f a)) m)

  -- what a member includes is a member, or was seen before
  pub closed : {p q : Path} (n : ℕ) (seen waiting : List Path) → length (breadth_first f n seen waiting) < n →
      Among q (breadth_first f n seen waiting) → Among p (f q) → Among p (breadth_first f n seen waiting) ⊎ Among p seen
  closed zero seen waiting short m i = not_shorter short
  closed (suc n) seen [] short m i = elim m [ ]
  closed (suc n) seen (a ∷ waiting) short here i = closed_first n seen waiting short (unseen_all seen (f a) i)
  closed (suc n) seen (a ∷ waiting) short (there m) i =
      closed_later n seen waiting short
      (closed n (unseen seen (f a) ++ seen) (waiting ++ unseen seen (f a)) (shorter a _ short) m i)

  more_waiting : {r : Rule} {a p : Path} (seen waiting : List Path) → ((q : Path) → Among q (a ∷ waiting) → IsScanned f r q) →
      ((q : Path) → Among q (left_out r) → Among q seen) → Among p waiting ⊎ Among p (unseen seen (f a)) → IsScanned f r p
  more_waiting seen waiting w out (inl m) = w _ (there m)
  more_waiting {r} {a} seen waiting w out (inr u) =
      let x = unseen_in seen (f a) u in scans_found a (w a here) x.0 (λ o. x.1 (out _ o))

  only_scanned : {r : Rule} {p : Path} (n : ℕ) (seen waiting : List Path) → ((q : Path) → Among q waiting → IsScanned f r q) →
      ((q : Path) → Among q (left_out r) → Among q seen) → Among p (breadth_first f n seen waiting) → IsScanned f r p
  only_scanned zero seen waiting w out m = elim m [ ]
  only_scanned (suc n) seen [] w out m = elim m [ ]
  only_scanned (suc n) seen (a ∷ waiting) w out here = w a here
  only_scanned (suc n) seen (a ∷ waiting) w out (there m) =
      only_scanned n (unseen seen (f a) ++ seen) (waiting ++ unseen seen (f a))
      (λ q h. more_waiting seen waiting w out (among_either waiting h)) (λ q o. among_right (unseen seen (f a)) (out q o)) m

  -- what stands in the list is scanned
  pub listed_scanned : (r : Rule) {p : Path} (limit : ℕ) → Among p (scan_list limit f r) → IsScanned f r p
  listed_scanned r limit m =
      only_scanned limit (first_scanned r ++ left_out r) (first_scanned r) (λ q d. scans_source d)
      (λ q o. among_right (first_scanned r) o) m

  scan_found : (r : Rule) {p : Path} (limit : ℕ) → length (scan_list limit f r) < limit → (Among p (left_out r) → ⊥) →
      Among p (scan_list limit f r) ⊎ Among p (first_scanned r ++ left_out r) → Among p (scan_list limit f r)
  scan_found r limit short out (inl m) = m
  scan_found r limit short out (inr m) =
      ⊎_elim (λ d. waiting_in limit (first_scanned r ++ left_out r) (first_scanned r) short d) (λ o. absurd (out o))
      (among_either (first_scanned r) m)

  -- and what is scanned stands in a list that isn't cut short
  pub scanned_listed : (r : Rule) {p : Path} (limit : ℕ) → length (scan_list limit f r) < limit → IsScanned f r p → Among p (scan_list limit f r)
  scanned_listed r limit short (scans_source d) = waiting_in limit (first_scanned r ++ left_out r) (first_scanned r) short d
  scanned_listed r limit short (scans_found q h m out) =
      scan_found r limit short out
      (closed limit (first_scanned r ++ left_out r) (first_scanned r) short (scanned_listed r limit short h) m)

  those_cases : {p q : Path} (wanted ps : List Path) (b : Bool) → Among q (if b then p ∷ those wanted ps else those wanted ps) →
      (Among q (those wanted ps) → Among q ps) → Among q (p ∷ ps)
  those_cases wanted ps true here next = here
  those_cases wanted ps true (there m) next = there (next m)
  those_cases wanted ps false m next = there (next m)

  those_in : {q : Path} (wanted ps : List Path) → Among q (those wanted ps) → Among q ps
  those_in wanted [] m = elim m [ ]
  those_in wanted (p ∷ ps) m = those_cases wanted ps (has p wanted) m (those_in wanted ps)

  -- a scanned source is declared
  first_declared : (r : Rule) {p : Path} → Among p (first_scanned r) → Among p (declared r)
  first_declared r m =
      among_left (unseen (kept_sources r ++ r.ignored) (r.depends ++ r.libraries)) (those_in r.scanned (kept_sources r) m)

  pub left_cases : (r : Rule) {p : Path} → IsScanned f r p → Among p (left_out r) → Among p (declared r)
  left_cases r (scans_source m) o = first_declared r m
  left_cases r (scans_found q h m out) o = absurd (out o)

  listed_cases : (r : Rule) {p : Path} (l : List Path) → IsScanned f r p →
      Among p (declared r ++ left_out r) ⊎ Among p (unseen (declared r ++ left_out r) l) →
      Among p (declared r ++ unseen (declared r ++ left_out r) l)
  listed_cases r l h (inr u) = among_right (declared r) u
  listed_cases r l h (inl m) =
      among_left (unseen (declared r ++ left_out r) l)
      (⊎_elim (λ d. d) (λ o. left_cases r h o) (among_either (declared r) m))

  -- each file that is scanned is a dependency
  pub listed_in_reach : (r : Rule) {p : Path} (limit : ℕ) → Among p (scan_list limit f r) → Among p (reach limit f r)
  listed_in_reach r limit m =
      listed_cases r (scan_list limit f r) (listed_scanned r limit m) (unseen_all (declared r ++ left_out r) (scan_list limit f r) m)

  reach_cases : (r : Rule) {p : Path} (limit : ℕ) →
      Among p (declared r) ⊎ Among p (unseen (declared r ++ left_out r) (scan_list limit f r)) → Reaches f r p
  reach_cases r limit (inl d) = is_declared d
  reach_cases r limit (inr u) =
      is_scanned (listed_scanned r limit (unseen_in (declared r ++ left_out r) (scan_list limit f r) u).0)

  pub reach_reaches : {r : Rule} {p : Path} (limit : ℕ) → Among p (reach limit f r) → Reaches f r p
  reach_reaches {r} limit m = reach_cases r limit (among_either (declared r) m)

  pub reaches_in : {r : Rule} {p : Path} (limit : ℕ) → length (scan_list limit f r) < limit → Reaches f r p → Among p (reach limit f r)
  reaches_in {r} limit short (is_declared d) = among_left (unseen (declared r ++ left_out r) (scan_list limit f r)) d
  reaches_in {r} limit short (is_scanned h) = listed_in_reach r limit (scanned_listed r limit short h)

-- what is scanned stays so where more is included
pub scanned_more : {f g : Path → List Path} {r : Rule} {p : Path} → ((q x : Path) → Among x (f q) → Among x (g q)) →
    IsScanned f r p → IsScanned g r p
scanned_more more (scans_source d) = scans_source d
scanned_more more (scans_found q h m out) = scans_found q (scanned_more more h) (more q _ m) out

pub reaches_more : {f g : Path → List Path} {r : Rule} {p : Path} → ((q x : Path) → Among x (f q) → Among x (g q)) →
    Reaches f r p → Reaches g r p
reaches_more more (is_declared d) = is_declared d
reaches_more more (is_scanned h) = is_scanned (scanned_more more h)
