-- Where files include the same but for some at which a search stops, what a rule needs is the same up to what a stop stands
-- for.
use Rattle.std.proofs.Common.{◌≡◌, ℕ, zero, suc, Bool, true, false, if◌then◌else◌, List, [], ◌∷◌, ◌++◌, Option, Some, None, refl, sym, subst, inl, inr, ◌⊎◌, ⊎_elim}
use Rattle.build_model.specs.Rules.{Path, Rule, Among, here, there}
use Rattle.build_model.specs.Reach.{has, unseen, breadth_first, declared, left_out, first_scanned, scan_list, reach}
use Rattle.build_model.specs.Needs.{RuleOf, with_rule, rules_at}
use Rattle.build_model.proofs.Lists.{has_among, among_either}
use Rattle.build_model.proofs.Whole.{left_cases, listed_scanned}
use Rattle.build_model.proofs.Ordering.{AreAlike, ends, both, parts}

-- Two lists of paths, the same up to one at which a search stops.
data AlikePaths (Stop : Path → Type 0) : List Path → List Path → Type 0 where
  paths_end : AlikePaths Stop [] []
  both_have : {ps qs : List Path} (p : Path) → AlikePaths Stop ps qs → AlikePaths Stop (p ∷ ps) (p ∷ qs)
  both_stop : {ps qs : List Path} (p : Path) → Stop p → AlikePaths Stop (p ∷ ps) (p ∷ qs)

with_alike : {rules xs ys : List Rule} (o : Option Rule) → AreAlike rules xs ys → AreAlike rules (with_rule o xs) (with_rule o ys)
with_alike None a = a
with_alike (Some r) a = both r a

-- a path's rule isn't settled
abbrev pub Waits : RuleOf → List Rule → Path → Type 0
Waits rule_of now p = (q : Rule) × ((rule_of p ≡ Some q) × (Among q now → ⊥))

module _ (Stop : Path → Type 0) where
  -- a path at which the search stops was seen, where two lists part
  record Parting (seen listed : List Path) : Type 0 where
    path : Path
    stops : Stop path
    is_seen : Among path seen
    is_listed : Among path listed

  listed_later : {p : Path} {seen listed : List Path} → Parting seen listed → Parting seen (p ∷ listed)
  listed_later c = record { path = c.path; stops = c.stops; is_seen = c.is_seen; is_listed = there c.is_listed }

  first_cases : {p q : Path} {seen listed : List Path} (xs ys : List Path) → Among q (p ∷ seen) → Stop q →
      Among q listed → AlikePaths Stop (p ∷ xs) (p ∷ ys) ⊎ Parting seen (p ∷ listed)
  first_cases {p} xs ys here w l = inl (both_stop p w)
  first_cases {q = q} xs ys (there m) w l = inr (record { path = q; stops = w; is_seen = m; is_listed = there l })

  unseen_first : {p : Path} {seen listed : List Path} (xs ys : List Path) → AlikePaths Stop xs ys ⊎ Parting (p ∷ seen) listed →
      AlikePaths Stop (p ∷ xs) (p ∷ ys) ⊎ Parting seen (p ∷ listed)
  unseen_first {p} xs ys (inl a) = inl (both_have p a)
  unseen_first xs ys (inr c) = first_cases xs ys c.is_seen c.stops c.is_listed

  unseen_have : {p : Path} {seen : List Path} (ps qs : List Path) (c : Bool) →
      AlikePaths Stop (unseen seen ps) (unseen seen qs) ⊎ Parting seen qs →
      AlikePaths Stop (unseen (p ∷ seen) ps) (unseen (p ∷ seen) qs) ⊎ Parting (p ∷ seen) qs →
      AlikePaths Stop (if c then unseen seen ps else p ∷ unseen (p ∷ seen) ps) (if c then unseen seen qs else p ∷ unseen (p ∷ seen) qs)
      ⊎ Parting seen (p ∷ qs)
  unseen_have ps qs true (inl a) b = inl a
  unseen_have ps qs true (inr c) b = inr (listed_later c)
  unseen_have {p} {seen} ps qs false a b = unseen_first (unseen (p ∷ seen) ps) (unseen (p ∷ seen) qs) b

  unseen_stop : {p : Path} {seen : List Path} (ps qs : List Path) (c : Bool) → has p seen ≡ c → Stop p →
      AlikePaths Stop (if c then unseen seen ps else p ∷ unseen (p ∷ seen) ps) (if c then unseen seen qs else p ∷ unseen (p ∷ seen) qs)
      ⊎ Parting seen (p ∷ qs)
  unseen_stop {p} {seen} ps qs true e w = inr (record { path = p; stops = w; is_seen = has_among p seen e; is_listed = here })
  unseen_stop {p} ps qs false e w = inl (both_stop p w)

  unseen_alike : {ps qs : List Path} (seen : List Path) → AlikePaths Stop ps qs →
      AlikePaths Stop (unseen seen ps) (unseen seen qs) ⊎ Parting seen qs
  unseen_alike seen paths_end = inl paths_end
  unseen_alike seen (both_have {ps = ps} {qs = qs} p a) =
      unseen_have ps qs (has p seen) (unseen_alike seen a) (unseen_alike (p ∷ seen) a)
  unseen_alike seen (both_stop {ps = ps} {qs = qs} p w) = unseen_stop ps qs (has p seen) refl w

  front_alike : {xs ys : List Path} (front : List Path) → AlikePaths Stop xs ys → AlikePaths Stop (front ++ xs) (front ++ ys)
  front_alike [] a = a
  front_alike (p ∷ front) a = both_have p (front_alike front a)

  front_stops : {p : Path} (xs ys : List Path) {front : List Path} → Among p front → Stop p → AlikePaths Stop (front ++ xs) (front ++ ys)
  front_stops {p} xs ys here w = both_stop p w
  front_stops xs ys (there {y = y} m) w = both_have y (front_stops xs ys m w)

  module _ (f g : Path → List Path) (compare : (p : Path) → (f p ≡ g p) ⊎ Stop p) where
    alike_step : (n : ℕ) (seen waiting : List Path) (p : Path) →
        ((seen waiting : List Path) → AlikePaths Stop (breadth_first f n seen waiting) (breadth_first g n seen waiting)) →
        (f p ≡ g p) ⊎ Stop p →
        AlikePaths Stop (breadth_first f (suc n) seen (p ∷ waiting)) (breadth_first g (suc n) seen (p ∷ waiting))
    alike_step n seen waiting p next (inl e) =
        both_have p (subst
        (λ x. AlikePaths Stop (breadth_first f n (unseen seen (f p) ++ seen) (waiting ++ unseen seen (f p)))
        (breadth_first g n (unseen seen x ++ seen) (waiting ++ unseen seen x))) e
        (next (unseen seen (f p) ++ seen) (waiting ++ unseen seen (f p))))
    alike_step n seen waiting p next (inr h) = both_stop p h

    alike_lists : (n : ℕ) (seen waiting : List Path) → AlikePaths Stop (breadth_first f n seen waiting) (breadth_first g n seen waiting)
    alike_lists zero seen waiting = paths_end
    alike_lists (suc n) seen [] = paths_end
    alike_lists (suc n) seen (p ∷ waiting) = alike_step n seen waiting p (alike_lists n) (compare p)

    parting_alike : (limit : ℕ) (r : Rule) →
        AlikePaths Stop (unseen (declared r ++ left_out r) (scan_list limit f r)) (unseen (declared r ++ left_out r) (scan_list limit g r))
        ⊎ Parting (declared r ++ left_out r) (scan_list limit g r) → AlikePaths Stop (reach limit f r) (reach limit g r)
    parting_alike limit r (inl a) = front_alike (declared r) a
    parting_alike limit r (inr c) =
        front_stops (unseen (declared r ++ left_out r) (scan_list limit f r)) (unseen (declared r ++ left_out r) (scan_list limit g r))
        (⊎_elim (λ d. d) (λ o. left_cases g r (listed_scanned g r limit c.is_listed) o) (among_either (declared r) c.is_seen)) c.stops

    reach_alike : (limit : ℕ) (r : Rule) → AlikePaths Stop (reach limit f r) (reach limit g r)
    reach_alike limit r =
        parting_alike limit r (unseen_alike (declared r ++ left_out r) (alike_lists limit (first_scanned r ++ left_out r) (first_scanned r)))

  module _ (rule_of : RuleOf) (now : List Rule) where
    stop_alike : {p : Path} (ps qs : List Path) (w : Waits rule_of now p) →
        AreAlike now (rules_at rule_of (p ∷ ps)) (rules_at rule_of (p ∷ qs))
    stop_alike {p} ps qs w =
        subst (λ o. AreAlike now (with_rule o (rules_at rule_of ps)) (with_rule o (rules_at rule_of qs))) (sym w.1.0) (parts w.0 w.1.1)

    rules_alike : {ps qs : List Path} → AlikePaths Stop ps qs → ((p : Path) → Among p qs → Stop p → Waits rule_of now p) →
        AreAlike now (rules_at rule_of ps) (rules_at rule_of qs)
    rules_alike paths_end waits = ends
    rules_alike (both_have p a) waits = with_alike (rule_of p) (rules_alike a (λ q m. waits q (there m)))
    rules_alike (both_stop {ps = ps} {qs = qs} p w) waits = stop_alike ps qs (waits p here w)

    required_alike : (ps qs front : List Path) → AreAlike now (rules_at rule_of ps) (rules_at rule_of qs) →
        AreAlike now (rules_at rule_of (front ++ ps)) (rules_at rule_of (front ++ qs))
    required_alike ps qs [] a = a
    required_alike ps qs (p ∷ front) a = with_alike (rule_of p) (required_alike ps qs front a)

    -- what a rule needs is alike, where each dependency at which the search stops has a rule that isn't settled
    pub needs_alike : (f g : Path → List Path) (limit : ℕ) (r : Rule) → ((p : Path) → (f p ≡ g p) ⊎ Stop p) →
        ((p : Path) → Among p (reach limit g r) → Stop p → Waits rule_of now p) →
        AreAlike now (rules_at rule_of (r.required ++ reach limit f r)) (rules_at rule_of (r.required ++ reach limit g r))
    needs_alike f g limit r compare waits = required_alike (reach limit f r) (reach limit g r) r.required (rules_alike (reach_alike f g compare limit r) waits)
