-- The first rule of a build order that isn't settled: go down from what is requested, at each rule to the first that it
-- needs and that isn't settled. What was found so far shows the way as far as it is gone.
use Rattle.std.proofs.Common.{◌≡◌, ◌<◌, ℕ, List, [], ◌∷◌, ◌++◌, length, Option, Some, None, refl, sym, subst, ap, ap₂, ◌∙◌, inl, inr, ◌⊎◌, ⊎_elim, append_assoc}
use Rattle.build_model.specs.Rules.{Path, Rule, Among, here, there, Unique}
use Rattle.build_model.specs.Reach.{reach, scan_list}
use Rattle.build_model.specs.Needs.{RuleOf, Found, Needs, as_required, as_dependency, NeedsThrough, directly, through, with_rule, rules_at, needs_in_order, Visits, nothing_left, met_again, met_first}
use Rattle.build_model.proofs.Lists.{among_left, among_right, among_either, among_same, none_some, some_same, nil_cons, same_head, same_tail}
use Rattle.build_model.proofs.Whole.{reach_reaches, reaches_in}
use Rattle.build_model.proofs.Ready.{Within}

-- Down from these rules, the first that isn't settled, and all of whose needs are; by way of which of them. Each step down
-- is an edge.
pub data First (Edge : Rule → Rule → Type 0) (needs : Rule → List Rule) (done : List Rule) : List Rule → Rule → Rule → Type 0 where
  skips : {r h x : Rule} {rules : List Rule} → Among r done → First Edge needs done rules h x → First Edge needs done (r ∷ rules) h x
  stands : {r : Rule} {rules : List Rule} → (Among r done → ⊥) → Within (needs r) done → First Edge needs done (r ∷ rules) r r
  goes_down : {r h x : Rule} {rules : List Rule} → (Among r done → ⊥) → Edge r h → First Edge needs done (needs r) h x →
      First Edge needs done (r ∷ rules) r x

first_new : {Edge : Rule → Rule → Type 0} {needs : Rule → List Rule} {done rules : List Rule} {h x : Rule} →
    First Edge needs done rules h x → Within rules done → ⊥
first_new (skips m f) w = first_new f (λ q n. w q (there n))
first_new (stands out all) w = out (w _ here)
first_new (goes_down out e f) w = out (w _ here)

pub first_head : {Edge : Rule → Rule → Type 0} {needs : Rule → List Rule} {done rules : List Rule} {h x : Rule} →
    First Edge needs done rules h x → Among h rules
first_head (skips m f) = there (first_head f)
first_head (stands out all) = here
first_head (goes_down out e f) = here

-- rules at some paths
with_rule_among : {q : Rule} (o : Option Rule) (rules : List Rule) → Among q (with_rule o rules) → (o ≡ Some q) ⊎ Among q rules
with_rule_among None rules m = inr m
with_rule_among (Some x) rules here = inl refl
with_rule_among (Some x) rules (there m) = inr m

record At (rule_of : RuleOf) (ps : List Path) (q : Rule) : Type 0 where
  path : Path
  stands_there : Among path ps
  is_rule : rule_of path ≡ Some q

at_later : {rule_of : RuleOf} {p : Path} {ps : List Path} {q : Rule} → At rule_of ps q → At rule_of (p ∷ ps) q
at_later h = record { path = h.path; stands_there = there h.stands_there; is_rule = h.is_rule }

at_first : {rule_of : RuleOf} {p : Path} {ps : List Path} {q : Rule} → (rule_of p ≡ Some q) ⊎ At rule_of ps q → At rule_of (p ∷ ps) q
at_first {p = p} (inl e) = record { path = p; stands_there = here; is_rule = e }
at_first (inr h) = at_later h

rule_at_path : {rule_of : RuleOf} {q : Rule} (ps : List Path) → Among q (rules_at rule_of ps) → At rule_of ps q
rule_at_path [] m = elim m [ ]
rule_at_path {rule_of} (p ∷ ps) m =
    at_first (⊎_elim (λ e. inl e) (λ n. inr (rule_at_path ps n)) (with_rule_among (rule_of p) (rules_at rule_of ps) m))

-- what holds of the rule of each path holds of each rule
pub rules_within : {rule_of : RuleOf} {all : List Rule} (ps : List Path) →
    ((p : Path) (q : Rule) → Among p ps → rule_of p ≡ Some q → Among q all) → Within (rules_at rule_of ps) all
rules_within ps h q m = let a = rule_at_path ps m in h a.path q a.stands_there a.is_rule

pub rule_from : {rule_of : RuleOf} {A : Type 0} {q : Rule} {ps : List Path} → ((p : Path) → rule_of p ≡ Some q → Among p ps → A) →
    Among q (rules_at rule_of ps) → A
rule_from {ps = ps} h m = let a = rule_at_path ps m in h a.path a.is_rule a.stands_there

with_rule_here : {q : Rule} (o : Option Rule) (rules : List Rule) → o ≡ Some q → Among q (with_rule o rules)
with_rule_here None rules e = none_some e
with_rule_here (Some x) rules e = subst (λ y. Among y (x ∷ rules)) (some_same e) here

with_rule_there : {q : Rule} (o : Option Rule) (rules : List Rule) → Among q rules → Among q (with_rule o rules)
with_rule_there None rules m = m
with_rule_there (Some x) rules m = there m

pub path_rule : (rule_of : RuleOf) {p : Path} {q : Rule} (ps : List Path) → Among p ps → rule_of p ≡ Some q → Among q (rules_at rule_of ps)
path_rule rule_of [] m e = elim m [ ]
path_rule rule_of (p ∷ ps) here e = with_rule_here (rule_of p) (rules_at rule_of ps) e
path_rule rule_of (p ∷ ps) (there m) e = with_rule_there (rule_of p) (rules_at rule_of ps) (path_rule rule_of ps m e)

module _ (rule_of : RuleOf) (limit : ℕ) where
  needs_by_path : {found : Found} {r q : Rule} (h : At rule_of (r.required ++ reach limit (found r) r) q) →
      Among h.path r.required ⊎ Among h.path (reach limit (found r) r) → Needs rule_of found r q
  needs_by_path h (inl m) = as_required h.path m h.is_rule
  needs_by_path {found} {r} h (inr m) = as_dependency h.path (reach_reaches (found r) limit m) h.is_rule

  -- what stands among a rule's needs in order is needed
  pub in_order_needs : {found : Found} {r q : Rule} → Among q (needs_in_order rule_of limit found r) → Needs rule_of found r q
  in_order_needs {found} {r} m =
      let h = rule_at_path (r.required ++ reach limit (found r) r) m in
      needs_by_path {found = found} {r = r} h (among_either r.required h.stands_there)

  -- and the other way round, where the dependencies aren't cut short
  pub needs_in_order_of : {found : Found} {r q : Rule} → length (scan_list limit (found r) r) < limit → Needs rule_of found r q →
      Among q (needs_in_order rule_of limit found r)
  needs_in_order_of {found} {r} short (as_required p m e) =
      path_rule rule_of (r.required ++ reach limit (found r) r) (among_left (reach limit (found r) r) m) e
  needs_in_order_of {found} {r} short (as_dependency p reached e) =
      path_rule rule_of (r.required ++ reach limit (found r) r) (among_right r.required (reaches_in (found r) limit short reached)) e

-- Two lists of rules, the same up to one that isn't settled.
pub data AreAlike (done : List Rule) : List Rule → List Rule → Type 0 where
  ends : AreAlike done [] []
  both : {xs ys : List Rule} (r : Rule) → AreAlike done xs ys → AreAlike done (r ∷ xs) (r ∷ ys)
  parts : {xs ys : List Rule} (r : Rule) → (Among r done → ⊥) → AreAlike done (r ∷ xs) (r ∷ ys)

pub alike_same : {done : List Rule} (xs : List Rule) → AreAlike done xs xs
alike_same [] = ends
alike_same (x ∷ xs) = both x (alike_same xs)

pub alike_all : {done xs ys : List Rule} → AreAlike done xs ys → Within xs done → Within ys done
alike_all ends w q m = elim m [ ]
alike_all (both r a) w q here = w r here
alike_all (both r a) w q (there m) = alike_all a (λ x n. w x (there n)) q m
alike_all (parts r out) w q m = absurd (out (w r here))

-- the first rule is the same where needs are alike
module _ (In : Rule → Type 0) (Edge : Rule → Rule → Type 0) (inside : (r q : Rule) → In r → Edge r q → In q) where
  pub first_alike : {needs more : Rule → List Rule} {done xs ys : List Rule} {h x : Rule} →
      ((r : Rule) → In r → AreAlike done (needs r) (more r)) → In h → First Edge needs done xs h x → AreAlike done xs ys →
      First Edge more done ys h x
  first_alike alike i (skips m f) (both r a) = skips m (first_alike alike i f a)
  first_alike alike i (skips m f) (parts r out) = absurd (out m)
  first_alike alike i (stands out all) (both r a) = stands out (alike_all (alike r i) all)
  first_alike alike i (stands out all) (parts r other) = stands out (alike_all (alike r i) all)
  first_alike alike i (goes_down out e f) (both r a) = goes_down out e (first_alike alike (inside r _ i e) f (alike r i))
  first_alike alike i (goes_down out e f) (parts r other) = goes_down out e (first_alike alike (inside r _ i e) f (alike r i))

-- what is visited from settled rules alone
pub record AllDone (done met after order : List Rule) : Type 0 where
  pub placed : Within order done
  pub later : (y : Rule) → Among y after → Among y met ⊎ Among y done

module _ (needs : Rule → List Rule) (done : List Rule) (closed : (r : Rule) → Among r done → Within (needs r) done) where
  first_or_done : {r y : Rule} {met : List Rule} → Among r done → Among y (r ∷ met) ⊎ Among y done → Among y met ⊎ Among y done
  first_or_done m (inl here) = inr m
  first_or_done m (inl (there n)) = inl n
  first_or_done m (inr n) = inr n

  between_done : {r y : Rule} {met between : List Rule} → Among r done → ((z : Rule) → Among z between → Among z (r ∷ met) ⊎ Among z done) →
      Among y between ⊎ Among y done → Among y met ⊎ Among y done
  between_done m h (inl n) = first_or_done m (h _ n)
  between_done m h (inr n) = inr n

  placed_done : {r y : Rule} {low high : List Rule} → Among r done → Within low done → Within high done →
      Among y low ⊎ Among y (r ∷ high) → Among y done
  placed_done m l h (inl n) = l _ n
  placed_done m l h (inr here) = m
  placed_done m l h (inr (there n)) = h _ n

  pub visits_done : {met rules after order : List Rule} → Visits needs met rules after order → Within rules done → AllDone done met after order
  visits_done nothing_left w = record { placed = λ y m. elim m [ ]; later = λ y m. inl m }
  visits_done (met_again m v) w = visits_done v (λ q n. w q (there n))
  visits_done (met_first {below = low} {behind = high} {r = r} out v1 v2) w =
      let m = w r here in
      let first = visits_done v1 (closed r m) in
      let second = visits_done v2 (λ q n. w q (there n)) in
      record {
        placed = λ y n. placed_done m first.placed second.placed (among_either low n);
        later = λ y n. between_done m first.later (second.later y n);
      }

-- the rule stands in the order behind settled rules
pub record Located (done order : List Rule) (x : Rule) : Type 0 where
  pub front : List Rule
  pub behind : List Rule
  pub parts : order ≡ front ++ x ∷ behind
  pub all_done : Within front done

-- where one list that is cut is cut again
data CutOf (low high front behind : List Rule) (r x : Rule) : Type 0 where
  cut_in : (more : List Rule) → low ≡ front ++ x ∷ more → CutOf low high front behind r x
  cut_at : front ≡ low → r ≡ x → CutOf low high front behind r x
  cut_behind : (more : List Rule) → front ≡ low ++ r ∷ more → high ≡ more ++ x ∷ behind → CutOf low high front behind r x

cut_step : {low high front behind : List Rule} {r x a c : Rule} → a ≡ c → CutOf low high front behind r x →
    CutOf (a ∷ low) high (c ∷ front) behind r x
cut_step same (cut_in more e) = cut_in more (ap₂ (λ y l. y ∷ l) same e)
cut_step same (cut_at e is) = cut_at (ap₂ (λ y l. y ∷ l) (sym same) e) is
cut_step same (cut_behind more e is) = cut_behind more (ap₂ (λ y l. y ∷ l) (sym same) e) is

cut_of : {high behind : List Rule} {r x : Rule} (low front : List Rule) → low ++ r ∷ high ≡ front ++ x ∷ behind → CutOf low high front behind r x
cut_of [] [] e = cut_at refl (same_head e)
cut_of [] (c ∷ front) e = cut_behind front (ap (λ y. y ∷ front) (sym (same_head e))) (same_tail e)
cut_of (a ∷ low) [] e = cut_in low (ap (λ y. y ∷ low) (same_head e))
cut_of (a ∷ low) (c ∷ front) e = cut_step (same_head e) (cut_of low front (same_tail e))

no_cut : {A : Type 0} (x : Rule) (behind front : List Rule) → [] ≡ front ++ x ∷ behind → A
no_cut x behind [] e = nil_cons e
no_cut x behind (y ∷ front) e = nil_cons e

among_cut : {A : Type 0} {y r : Rule} {low high : List Rule} → (Among y low → A) → (r ≡ y → A) → (Among y high → A) →
    Among y low ⊎ Among y (r ∷ high) → A
among_cut l m h (inl n) = l n
among_cut l m h (inr here) = m refl
among_cut l m h (inr (there n)) = h n

leads_more : {rule_of : RuleOf} {found : Found} {q r x : Rule} → NeedsThrough rule_of found q r → Needs rule_of found r x →
    NeedsThrough rule_of found q x
leads_more {r = r} (directly n) m = through r n (directly m)
leads_more (through y n more) m = through y n (leads_more more m)

-- Rules of which none waits for itself, and what some of them need: a build order, by what was found so far.
module _ (rule_of : RuleOf) (limit : ℕ) (found : Found) (done : List Rule)
    (closed : (r : Rule) → Among r done → Within (needs_in_order rule_of limit found r) done)
    (In : Rule → Type 0) (inside : (r q : Rule) → In r → Needs rule_of found r q → In q)
    (no_loop : (r : Rule) → In r → NeedsThrough rule_of found r r → ⊥) where
  abbrev needs : Rule → List Rule
  needs r = needs_in_order rule_of limit found r

  abbrev Leads : Rule → Rule → Type 0
  Leads r q = NeedsThrough rule_of found r q

  abbrev Way : List Rule → Rule → Rule → Type 0
  Way rules h x = First (λ r q. Needs rule_of found r q) needs done rules h x

  -- what was met is settled, or leads to the rules that are to be visited
  abbrev IsOnWay : List Rule → List Rule → Type 0
  IsOnWay met rules = (y : Rule) → Among y met → Among y done ⊎ ((z : Rule) → Among z rules → Leads y z)

  less_way : {y r : Rule} {rules : List Rule} → Among y done ⊎ ((z : Rule) → Among z (r ∷ rules) → Leads y z) →
      Among y done ⊎ ((z : Rule) → Among z rules → Leads y z)
  less_way (inl m) = inl m
  less_way (inr h) = inr (λ z n. h z (there n))

  down_way : {y r : Rule} {rules : List Rule} → Among y done ⊎ ((z : Rule) → Among z (r ∷ rules) → Leads y z) →
      Among y done ⊎ ((z : Rule) → Among z (needs r) → Leads y z)
  down_way (inl m) = inl m
  down_way {r = r} (inr h) = inr (λ z n. leads_more (h r here) (in_order_needs rule_of limit n))

  below_way : {r : Rule} {met rules : List Rule} → IsOnWay met (r ∷ rules) → IsOnWay (r ∷ met) (needs r)
  below_way way y here = inr (λ z n. directly (in_order_needs rule_of limit n))
  below_way way y (there m) = down_way (way y m)

  behind_cases : {r y : Rule} {met rules : List Rule} → Among r done → IsOnWay met (r ∷ rules) → Among y (r ∷ met) ⊎ Among y done →
      Among y done ⊎ ((z : Rule) → Among z rules → Leads y z)
  behind_cases m way (inl here) = inl m
  behind_cases {y = y} m way (inl (there k)) = less_way (way y k)
  behind_cases m way (inr k) = inl k

  behind_way : {r : Rule} {met between rules : List Rule} → Among r done →
      ((z : Rule) → Among z between → Among z (r ∷ met) ⊎ Among z done) → IsOnWay met (r ∷ rules) → IsOnWay between rules
  behind_way m later way y n = behind_cases m way (later y n)

  met_done : {r : Rule} {met rules : List Rule} → In r → IsOnWay met (r ∷ rules) → Among r met → Among r done
  met_done {r} i way m = ⊎_elim (λ d. d) (λ leads. absurd (no_loop r i (leads r here))) (way r m)

  -- a rule is settled once all that it needs is
  abbrev pub IsSettledWith : Rule → Type 0
  IsSettledWith r = Within (needs r) done → Among r done

  record AllSettled (met rules after : List Rule) : Type 0 where
    roots : Within rules done
    later : (y : Rule) → Among y after → Among y met ⊎ Among y done

  within_more : {r : Rule} {rules : List Rule} → Among r done → Within rules done → Within (r ∷ rules) done
  within_more m w q here = m
  within_more m w q (there n) = w q n

  -- where each rule is settled once all that it needs is, all that is visited is settled
  all_settled : {met rules after order : List Rule} → Visits needs met rules after order →
      ((y : Rule) → Among y order → IsSettledWith y) → IsOnWay met rules → ((q : Rule) → Among q rules → In q) → AllSettled met rules after
  all_settled nothing_left h way w = record { roots = λ q n. elim n [ ]; later = λ y n. inl n }
  all_settled (met_again {r = r} m v) h way w =
      let rest = all_settled v h (λ y n. less_way (way y n)) (λ q n. w q (there n)) in
      record { roots = within_more (met_done (w r here) way m) rest.roots; later = rest.later }
  all_settled (met_first {below = low} {behind = high} {r = r} new v1 v2) h way w =
      let first = all_settled v1 (λ y n. h y (among_left (r ∷ high) n)) (below_way way) (λ q n. inside r q (w r here) (in_order_needs rule_of limit n)) in
      let m = h r (among_right low here) first.roots in
      let second = all_settled v2 (λ y n. h y (among_right low (there n))) (behind_way m first.later way) (λ q n. w q (there n)) in
      record { roots = within_more m second.roots; later = λ y n. between_done needs done closed m first.later (second.later y n) }

  first_cut : {met between low high rules front behind : List Rule} {r x : Rule} → Visits needs (r ∷ met) (needs r) between low →
      ((y : Rule) → Among y front → IsSettledWith y) → (Among x done → ⊥) → IsOnWay met (r ∷ rules) → ((q : Rule) → Among q (r ∷ rules) → In q) →
      ((more : List Rule) → low ≡ front ++ x ∷ more → (h : Rule) × Way (needs r) h x) →
      ((more : List Rule) → ((y : Rule) → Among y more → IsSettledWith y) → high ≡ more ++ x ∷ behind → IsOnWay between rules →
      (h : Rule) × Way rules h x) →
      CutOf low high front behind r x → (h : Rule) × Way (r ∷ rules) h x
  first_cut {r = r} v h out way w down rest (cut_in more e) =
      let g = down more e in (r, goes_down (λ d. first_new g.1 (closed r d)) (in_order_needs rule_of limit (first_head g.1)) g.1)
  first_cut {rules = rules} {r = r} v h out way w down rest (cut_at e same) =
      let all = all_settled v (λ y n. h y (among_same (sym e) n)) (below_way way) (λ q n. inside r q (w r here) (in_order_needs rule_of limit n)) in
      subst (λ y. (g : Rule) × Way (r ∷ rules) g y) same (r, stands (λ d. out (subst (λ y. Among y done) same d)) all.roots)
  first_cut {low = low} {r = r} v h out way w down rest (cut_behind more e is) =
      let all = all_settled v (λ y n. h y (among_same (sym e) (among_left (r ∷ more) n))) (below_way way)
      (λ q n. inside r q (w r here) (in_order_needs rule_of limit n)) in
      let m = h r (among_same (sym e) (among_right low here)) all.roots in
      let g = rest more (λ y n. h y (among_same (sym e) (among_right low (there n)))) is (behind_way m all.later way) in
      (g.0, skips m g.1)

  -- A rule that isn't settled is the first, where each that stands before it in the order is settled once all that it needs is.
  pub first_there : {met rules after order : List Rule} {x : Rule} → Visits needs met rules after order → (front behind : List Rule) →
      order ≡ front ++ x ∷ behind → ((y : Rule) → Among y front → IsSettledWith y) → (Among x done → ⊥) → IsOnWay met rules →
      ((q : Rule) → Among q rules → In q) → (h : Rule) × Way rules h x
  first_there {x = x} nothing_left front behind e h out way w = no_cut x behind front e
  first_there (met_again {r = r} m v) front behind e h out way w =
      let g = first_there v front behind e h out (λ y n. less_way (way y n)) (λ q n. w q (there n)) in
      (g.0, skips (met_done (w r here) way m) g.1)
  first_there (met_first {below = low} {behind = high} {r = r} new v1 v2) front behind e h out way w =
      first_cut v1 h out way w
      (λ more is. first_there v1 front more is h out (below_way way) (λ q n. inside r q (w r here) (in_order_needs rule_of limit n)))
      (λ more less is later. first_there v2 more behind is less out later (λ q n. w q (there n)))
      (cut_of low front e)

  -- what stands in an order is needed by the rules that it was visited from
  pub visited_in : {met rules after order : List Rule} {x : Rule} → Visits needs met rules after order → ((q : Rule) → Among q rules → In q) →
      Among x order → In x
  visited_in nothing_left w n = elim n [ ]
  visited_in (met_again m v) w n = visited_in v (λ q k. w q (there k)) n
  visited_in (met_first {below = low} {behind = high} {r = r} new v1 v2) w n =
      among_cut (λ k. visited_in v1 (λ q l. inside r q (w r here) (in_order_needs rule_of limit l)) k)
      (λ e. subst (λ y. In y) e (w r here)) (λ k. visited_in v2 (λ q l. w q (there l)) k) (among_either low n)

-- A rule that is the first, by edges of which none leads back, stands in any order of these needs behind settled rules.
module _ (needs : Rule → List Rule) (done : List Rule) (closed : (r : Rule) → Among r done → Within (needs r) done)
    (rule_of : RuleOf) (found : Found) (In : Rule → Type 0) (inside : (r q : Rule) → In r → Needs rule_of found r q → In q)
    (no_loop : (r : Rule) → In r → NeedsThrough rule_of found r r → ⊥) where
  -- what was met is settled, or leads to the rule that is to be visited
  abbrev IsBefore : List Rule → Rule → Type 0
  IsBefore met h = (y : Rule) → Among y met → Among y done ⊎ NeedsThrough rule_of found y h

  not_met : {r : Rule} {met : List Rule} → (Among r done → ⊥) → In r → IsBefore met r → Among r met → ⊥
  not_met {r} out i way n = ⊎_elim out (λ t. no_loop r i t) (way r n)

  down_before : {y r h : Rule} → Needs rule_of found r h → Among y done ⊎ NeedsThrough rule_of found y r →
      Among y done ⊎ NeedsThrough rule_of found y h
  down_before e (inl m) = inl m
  down_before e (inr t) = inr (leads_more t e)

  below_before : {r h : Rule} {met : List Rule} → Needs rule_of found r h → IsBefore met r → IsBefore (r ∷ met) h
  below_before e way y here = inr (directly e)
  below_before e way y (there m) = down_before e (way y m)

  later_before : {r h y : Rule} {met : List Rule} → Among r done → IsBefore met h → Among y (r ∷ met) ⊎ Among y done →
      Among y done ⊎ NeedsThrough rule_of found y h
  later_before m way (inl here) = inl m
  later_before {y = y} m way (inl (there k)) = way y k
  later_before m way (inr k) = inl k

  front_done : {r y : Rule} {low front : List Rule} → Among r done → Within low done → Within front done →
      Among y low ⊎ Among y (r ∷ front) → Among y done
  front_done m l f (inl n) = l _ n
  front_done m l f (inr here) = m
  front_done m l f (inr (there n)) = f _ n

  pub located : {met rules after order : List Rule} {h x : Rule} → Visits needs met rules after order →
      First (λ r q. Needs rule_of found r q) needs done rules h x → IsBefore met h → In h → Located done order x
  located nothing_left f way i = elim f [ ]
  located (met_again m v) (skips d f) way i = located v f way i
  located (met_again m v) (stands out inner) way i = absurd (not_met out i way m)
  located (met_again m v) (goes_down out e f) way i = absurd (not_met out i way m)
  located (met_first {below = low} {behind = high} {r = r} out v1 v2) (skips d f) way i =
      let first = visits_done needs done closed v1 (closed r d) in
      let second = located v2 f (λ y n. later_before d way (first.later y n)) i in
      record {
        front = low ++ r ∷ second.front;
        behind = second.behind;
        parts = ap (λ l. low ++ r ∷ l) second.parts ∙ sym (append_assoc low (r ∷ second.front) _);
        all_done = λ y n. front_done d first.placed second.all_done (among_either low n);
      }
  located (met_first {below = low} {behind = high} {r = r} out v1 v2) (stands new inner) way i =
      let first = visits_done needs done closed v1 inner in
      record { front = low; behind = high; parts = refl; all_done = first.placed }
  located (met_first {below = low} {behind = high} {r = r} out v1 v2) (goes_down new e f) way i =
      let first = located v1 f (below_before e way) (inside r _ i e) in
      record {
        front = first.front;
        behind = first.behind ++ r ∷ high;
        parts = ap (λ l. l ++ r ∷ high) first.parts ∙ append_assoc first.front (_ ∷ first.behind) (r ∷ high);
        all_done = first.all_done;
      }

-- Each rule stands in an order once.
unique_append : {xs ys : List Rule} → Unique xs → Unique ys → ((y : Rule) → Among y xs → Among y ys → ⊥) → Unique (xs ++ ys)
unique_append {xs = []} u v apart = v
unique_append {xs = x ∷ xs} u v apart =
    (λ m. ⊎_elim u.0 (λ n. apart x here n) (among_either xs m), unique_append {xs = xs} u.1 v (λ y m n. apart y (there m) n))

record IsNew (met after order : List Rule) : Type 0 where
  grows : Within met after
  placed : Within order after
  new : (y : Rule) → Among y order → Among y met → ⊥
  once : Unique order

module _ (needs : Rule → List Rule) where
  visits_new : {met rules after order : List Rule} → Visits needs met rules after order → IsNew met after order
  visits_new nothing_left = record { grows = λ y m. m; placed = λ y m. elim m [ ]; new = λ y m n. elim m [ ]; once = tt }
  visits_new (met_again m v) = visits_new v
  visits_new (met_first {met = met} {after = after} {below = low} {behind = high} {r = r} out v1 v2) =
      let one = visits_new v1 in
      let two = visits_new v2 in
      record {
        grows = λ y m. two.grows y (one.grows y (there m));
        placed = λ y m. among_cut (λ n. two.grows y (one.placed y n)) (λ e. subst (λ z. Among z after) e (two.grows r (one.grows r here)))
            (λ n. two.placed y n) (among_either low m);
        new = λ y m k. among_cut (λ n. one.new y n (there k)) (λ e. out (subst (λ z. Among z met) (sym e) k))
            (λ n. two.new y n (one.grows y (there k))) (among_either low m);
        once = unique_append one.once (λ m. two.new r m (one.grows r here), two.once)
            (λ y m n. among_cut {low = []} (λ k. elim k [ ]) (λ e. one.new y m (subst (λ z. Among z (r ∷ met)) e here))
            (λ k. two.new y k (one.placed y m)) (inr n));
      }

  pub order_once : {rules after order : List Rule} → Visits needs [] rules after order → Unique order
  order_once v = (visits_new v).once

-- a list without repetition is cut at a member in one way
pub one_front : (x : Rule) (behind more front other : List Rule) → front ++ x ∷ behind ≡ other ++ x ∷ more → Unique (other ++ x ∷ more) →
    Within front other
one_front x behind more [] other e u y m = elim m [ ]
one_front x behind more (a ∷ front) [] e u y m = absurd (u.0 (among_same (same_tail e) (among_right front here)))
one_front x behind more (a ∷ front) (c ∷ other) e u y here = subst (λ z. Among z (c ∷ other)) (sym (same_head e)) here
one_front x behind more (a ∷ front) (c ∷ other) e u y (there m) =
    there (one_front x behind more front other (same_tail e) u.1 y m)
