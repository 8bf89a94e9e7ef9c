-- At one job each rule that begins is the first of the build order that isn't settled.
use Rattle.std.proofs.Common.{◌≡◌, ◌<◌, ℕ, suc, pred, true, false, List, [], ◌∷◌, ◌++◌, length, Option, Some, None, refl, sym, subst, ap, ◌∙◌, inl, inr, ◌⊎◌, arith, append_assoc}
use Rattle.build_model.specs.Rules.{Path, Rule, Setting, Among, here, there}
use Rattle.build_model.specs.Reach.{scan_list, reach}
use Rattle.build_model.specs.Needs.{Found, Needs, NeedsThrough, directly, through, Needed, is_requested, is_needed, rules_at, needs_in_order, IsBuildOrder}
use Rattle.build_model.specs.Contents.{View, in_tree, found_in, includes_of, dependencies, scanned_files}
use Rattle.build_model.specs.Steps.{Step, Fresh, Began, Ended, Lacks, Halts, Build, settled, began, done, running, IsReady, is_source, is_made, IsRunning, IsRun, Succeeds}
use Rattle.build_model.specs.Laws.{NeededIn, NeedsIn}
use Rattle.build_model.specs.Resting.{IsFaulty, has_failed, lacks_one, IsFoundWhole}
use Rattle.build_model.specs.OneJob.{IsPassed, is_settled, is_running, is_faulty, waits, TakesFirst, SeesReady, StandsBehind, StandsBefore, FollowsOrder}
use Rattle.build_model.proofs.Lists.{none_some, among_left, among_right, among_either, among_same}
use Rattle.build_model.proofs.Whole.{reach_reaches, reaches_in, reaches_more}
use Rattle.build_model.proofs.Agree.{same_scan}
use Rattle.build_model.proofs.Ready.{Within, needs_more, needed_more, Agrees, agrees_less, prepared_dependencies, prepared_short}
use Rattle.build_model.proofs.Runs.{settled_done, settled_after, began_after, run_before, settled_prepared, needs_settled, needed_settled, no_loop}
use Rattle.build_model.proofs.Placed.{without}
use Rattle.build_model.proofs.Resting.{faulty_unsettled}
use Rattle.build_model.proofs.Ordering.{path_rule, rule_from, in_order_needs, needs_in_order_of, AreAlike, alike_same, first_alike, first_head, first_there, visited_in, located}
use Rattle.build_model.proofs.Alike.{Waits, needs_alike}

-- the rules whose action runs
pub record AllRunning (past : List Step) : Type 0 where
  pub rules : List Rule
  pub counts : length rules ≡ running past
  pub all : (r : Rule) → IsRunning past r → Among r rules

same_running : {past : List Step} {step : Step} → AllRunning past → running past ≡ running (step ∷ past) →
    ((r : Rule) → IsRunning (step ∷ past) r → IsRunning past r) → AllRunning (step ∷ past)
same_running h e back = record { rules = h.rules; counts = h.counts ∙ e; all = λ r x. h.all r (back r x) }

begin_running : {past : List Step} {x r : Rule} {rules : List Rule} → ((q : Rule) → IsRunning past q → Among q rules) →
    Among r (x ∷ began past) → (Among r (done past) → ⊥) → Among r (x ∷ rules)
begin_running h here out = here
begin_running {r = r} h (there m) out = there (h r (record { began = m; not_done = out }))

one_less : {n m k : ℕ} → n ≡ k → n ≡ suc m → m ≡ pred k
one_less e h = omega arith

other_than : {x r : Rule} {rules : List Rule} {l : List Rule} → (Among r (x ∷ l) → ⊥) → (r ≡ x) ⊎ Among r rules → Among r rules
other_than {x} {r} {l = l} out (inl e) = absurd (out (subst (λ y. Among r (y ∷ l)) e here))
other_than out (inr m) = m

module _ (s : Setting) (b : Build) where
  pub all_running : (past : List Step) → IsRun s b past → AllRunning past
  all_running [] run = record { rules = []; counts = refl; all = λ r h. elim h.began [ ] }
  all_running (Fresh x ∷ past) run =
      same_running (all_running past run.1) refl (λ r h. record { began = h.began; not_done = λ m. h.not_done (there m) })
  all_running (Began x ∷ past) run =
      let h = all_running past run.1 in
      record { rules = x ∷ h.rules; counts = ap suc h.counts; all = λ r k. begin_running h.all k.began k.not_done }
  all_running (Ended x true ∷ past) run =
      let h = all_running past run.1 in
      let w = without (h.all x run.0.0) in
      record {
        rules = w.rest;
        counts = one_less h.counts w.counts;
        all = λ r k. other_than k.not_done (w.others r (h.all r (record { began = k.began; not_done = λ m. k.not_done (there m) })));
      }
  all_running (Ended x false ∷ past) run =
      let h = all_running past run.1 in
      let w = without (h.all x run.0) in
      record {
        rules = w.rest;
        counts = one_less h.counts w.counts;
        all = λ r k. other_than k.not_done (w.others r (h.all r (record { began = k.began; not_done = λ m. k.not_done (there m) })));
      }
  all_running (Lacks x p ∷ past) run =
      same_running (all_running past run.1) refl (λ r h. record { began = h.began; not_done = λ m. h.not_done (there m) })
  all_running (Halts ∷ past) run =
      same_running (all_running past run.1) refl (λ r h. record { began = h.began; not_done = h.not_done })

  none_in : {A : Type 0} {r : Rule} (rules : List Rule) → length rules < 1 → Among r rules → A
  none_in [] short m = elim m [ ]
  none_in (x ∷ rules) short m = absurd (omega arith)

  few : {n m k : ℕ} → n ≡ m → m < k → k ≡ 1 → n < 1
  few e lt one = omega arith

  -- where one action may run and one more may begin, none runs
  pub none_runs : (past : List Step) → IsRun s b past → b.jobs ≡ 1 → running past < b.jobs → (r : Rule) → IsRunning past r → ⊥
  none_runs past run one room r h =
      let a = all_running past run in none_in a.rules (few a.counts room one) (a.all r h)

-- after these steps, by what was found so far, and by contents that show the rest
module _ (s : Setting) (b : Build) (view : View) (past : List Step) (run : IsRun s b past) (sees : Agrees s b (settled past) view)
    (found : Found) (whole : IsFoundWhole s b past found) where
  abbrev now : List Rule
  now = settled past

  abbrev by_view : Found
  by_view = found_in s view

  abbrev ReadyNow : Path → Type 0
  ReadyNow p = IsReady s b.after now p

  abbrev IsNeeded : Rule → Type 0
  IsNeeded r = Needed s.rule_of found b.requested r

  abbrev needs_found : Rule → List Rule
  needs_found r = needs_in_order s.rule_of s.limit found r

  abbrev needs_view : Rule → List Rule
  needs_view r = needs_in_order s.rule_of s.limit by_view r

  -- what was found is what the view gives, as far as files wait for nothing
  compare_cases : (r : Rule) (p : Path) → (ReadyNow p × (found r p ≡ found_in s (in_tree b.after) r p)) ⊎ ((ReadyNow p → ⊥) × (found r p ≡ [])) →
      (ReadyNow p × (found r p ≡ by_view r p)) ⊎ ((ReadyNow p → ⊥) × (found r p ≡ []))
  compare_cases r p (inl h) = inl (h.0, h.1 ∙ ap (λ k. includes_of (s.includes r p) k) (sym (sees p h.0)))
  compare_cases r p (inr h) = inr h

  pub compare : (r : Rule) (p : Path) → (ReadyNow p × (found r p ≡ by_view r p)) ⊎ ((ReadyNow p → ⊥) × (found r p ≡ []))
  compare r p = compare_cases r p (whole r p)

  less_found_cases : (r : Rule) (p : Path) {y : Path} → (ReadyNow p × (found r p ≡ by_view r p)) ⊎ ((ReadyNow p → ⊥) × (found r p ≡ [])) →
      Among y (found r p) → Among y (by_view r p)
  less_found_cases r p (inl h) m = among_same h.1 m
  less_found_cases r p (inr h) m = elim (among_same h.1 m) [ ]

  pub less_found : (r : Rule) (p y : Path) → Among y (found r p) → Among y (by_view r p)
  less_found r p y m = less_found_cases r p (compare r p) m

  by_found : {r q : Rule} → Needs s.rule_of found r q → NeedsIn s view r q
  by_found needs = needs_more less_found needs

  pub through_found : {r q : Rule} → NeedsThrough s.rule_of found r q → NeedsThrough s.rule_of by_view r q
  through_found (directly needs) = directly (by_found needs)
  through_found (through x needs more) = through x (by_found needs) (through_found more)

  pub needed_view : {r : Rule} → IsNeeded r → NeededIn s b view r
  needed_view needed = needed_more less_found needed

  found_closed : (r : Rule) → Among r now → Within (needs_found r) now
  found_closed r m q n = needs_settled s b view past run sees m (by_found (in_order_needs s.rule_of s.limit {found = found} n))

  view_closed : (r : Rule) → Among r now → Within (needs_view r) now
  view_closed r m q n = needs_settled s b view past run sees m (in_order_needs s.rule_of s.limit {found = by_view} n)

  needed_further : (r q : Rule) → IsNeeded r → Needs s.rule_of found r q → IsNeeded q
  needed_further r q needed needs = is_needed r needed needs

  abbrev roots : List Rule
  roots = rules_at s.rule_of b.requested

  roots_needed : (q : Rule) → Among q roots → IsNeeded q
  roots_needed q m = rule_from {ps = b.requested} (λ p e n. is_requested p n e) m

  -- What is taken first stands in the build order behind settled rules, where no needed rule waits for itself, needs are
  -- alike, and each rule before it would be settled once all that it needs is.
  module _ (no_loop_there : (r : Rule) → IsNeeded r → NeedsThrough s.rule_of found r r → ⊥)
      (alike : (r : Rule) → IsNeeded r → AreAlike now (needs_found r) (needs_view r)) where
    pub stands_behind : {r : Rule} {order whole_order : List Rule} (front behind : List Rule) →
        IsBuildOrder s.rule_of s.limit found b.requested order → order ≡ front ++ r ∷ behind →
        ((y : Rule) → IsNeeded y → Among y front → Within (needs_found y) now → Among y now) → (Among r now → ⊥) →
        IsBuildOrder s.rule_of s.limit by_view b.requested whole_order → StandsBehind whole_order now r
    stands_behind front behind is_order is settles out whole_is =
        let f = first_there s.rule_of s.limit found now found_closed IsNeeded needed_further no_loop_there is_order.visits front behind is
        (λ y m w. settles y (visited_in s.rule_of s.limit found now found_closed IsNeeded needed_further no_loop_there is_order.visits
        roots_needed (among_same (sym is) (among_left _ m))) m w)
        out (λ y m. elim m [ ]) roots_needed in
        let top = roots_needed f.0 (first_head f.1) in
        let g = first_alike IsNeeded (λ x q. Needs s.rule_of found x q) needed_further alike top f.1 (alike_same roots) in
        let l = located needs_view now view_closed s.rule_of found IsNeeded needed_further no_loop_there whole_is.visits g
        (λ y m. elim m [ ]) top in
        record { front = l.front; behind = l.behind; parts = l.parts; all_settled = l.all_done }

-- a build that ended well, at the place after some of its steps
module _ (s : Setting) (b : Build) (view : View) (later past : List Step) (run : IsRun s b (later ++ past)) (succeeds : Succeeds s b (later ++ past))
    (sees : SeesReady s b (later ++ past) view) (found : Found) (whole : IsFoundWhole s b past found) where
  abbrev all : List Rule
  all = settled (later ++ past)

  so_far_run : IsRun s b past
  so_far_run = run_before s b later past run

  sees_now : Agrees s b (settled past) view
  sees_now = agrees_less s b (settled_after later past) sees

  abbrev IsNeededNow : Rule → Type 0
  IsNeededNow r = Needed s.rule_of found b.requested r

  abbrev Ready : Path → Type 0
  Ready p = IsReady s b.after (settled past) p

  settled_later_on : {r : Rule} → IsNeededNow r → Among r all
  settled_later_on needed =
      needed_settled s b view (later ++ past) run sees succeeds (needed_view s b view past so_far_run sees_now found whole needed)

  loop_free : (r : Rule) → IsNeededNow r → NeedsThrough s.rule_of found r r → ⊥
  loop_free r needed t =
      no_loop s b view (later ++ past) run sees (settled_later_on needed) (through_found s b view past so_far_run sees_now found whole t)

  -- a dependency of a settled rule waits for nothing at the end
  at_end : {r : Rule} {p : Path} → Among r all → Among p (dependencies s view r) → IsReady s b.after all p
  at_end {r} m n =
      let prepared = settled_prepared s b (later ++ past) run m in
      prepared.dependencies _ (among_same (prepared_dependencies s b r prepared view sees) n)

  is_short : {r : Rule} → Among r all → length (scanned_files s view r) < s.limit
  is_short {r} m = prepared_short s b r (settled_prepared s b (later ++ past) run m) view sees

  -- a path without a rule that is a dependency at the end waits for nothing
  source_now : {p : Path} → s.rule_of p ≡ None → IsReady s b.after all p → Ready p
  source_now none (is_source bytes e file) = is_source bytes e file
  source_now none (is_made r e m) = none_some (sym none ∙ e)

  waits_cases : {p : Path} (o : Option Rule) → s.rule_of p ≡ o → IsReady s b.after all p → (Ready p → ⊥) → Waits s.rule_of (settled past) p
  waits_cases None none ready unready = absurd (unready (source_now none ready))
  waits_cases (Some q) e ready unready = (q, (e, λ m. unready (is_made q e m)))

  alike_cases : (r : Rule) (p : Path) → (Ready p × (found r p ≡ found_in s view r p)) ⊎ ((Ready p → ⊥) × (found r p ≡ [])) →
      (found r p ≡ found_in s view r p) ⊎ (Ready p → ⊥)
  alike_cases r p (inl h) = inl h.1
  alike_cases r p (inr h) = inr h.0

  ended_alike : (r : Rule) → IsNeededNow r →
      AreAlike (settled past) (needs_in_order s.rule_of s.limit found r) (needs_in_order s.rule_of s.limit (found_in s view) r)
  ended_alike r needed =
      needs_alike (λ p. Ready p → ⊥) s.rule_of (settled past) (found r) (found_in s view r) s.limit r
      (λ p. alike_cases r p (compare s b view past so_far_run sees_now found whole r p))
      (λ p m unready. waits_cases (s.rule_of p) refl (at_end (settled_later_on needed) m) unready)

  faulty_after : {x : Rule} → IsFaulty past x → IsFaulty (later ++ past) x
  faulty_after (has_failed m) = has_failed (among_right later m)
  faulty_after (lacks_one p m) = lacks_one p (among_right later m)

  -- where all that a rule needs is settled, its files are all found
  module _ (x : Rule) (x_all : Among x all) (inner : Within (needs_in_order s.rule_of s.limit found x) (settled past)) where
    member_ready : {p : Path} (o : Option Rule) → s.rule_of p ≡ o → Among p (reach s.limit (found x) x) → Ready p
    member_ready None none m =
        source_now none (at_end x_all (reaches_in (found_in s view x) {r = x} s.limit (is_short x_all)
        (reaches_more {r = x} (less_found s b view past so_far_run sees_now found whole x) (reach_reaches (found x) {r = x} s.limit m))))
    member_ready (Some q) e m =
        is_made q e (inner q (path_rule s.rule_of (x.required ++ reach s.limit (found x) x) (among_right x.required m) e))

    member_found : {p : Path} → (Ready p × (found x p ≡ found_in s view x p)) ⊎ ((Ready p → ⊥) × (found x p ≡ [])) → Ready p →
        found x p ≡ found_in s view x p
    member_found (inl h) ready = h.1
    member_found (inr h) ready = absurd (h.0 ready)

    same_list : scan_list s.limit (found_in s view x) x ≡ scan_list s.limit (found x) x
    same_list =
        same_scan s.limit (found x) (found_in s view x) x
        (λ p m. member_found (compare s b view past so_far_run sees_now found whole x p) (member_ready (s.rule_of p) refl m))

    needs_now : (q : Rule) → Needs s.rule_of found x q → Among q (settled past)
    needs_now q needs =
        inner q (needs_in_order_of s.rule_of s.limit {found = found} (subst (λ l. length l < s.limit) same_list (is_short x_all)) needs)

  passed_settles : {x : Rule} → ((y : Rule) → IsRunning past y → ⊥) → IsNeededNow x → IsPassed s past found x →
      Within (needs_in_order s.rule_of s.limit found x) (settled past) → Among x (settled past)
  passed_settles none needed (is_settled m) w = m
  passed_settles {x} none needed (is_running h) w = absurd (none x h)
  passed_settles none needed (is_faulty h) w = absurd (faulty_unsettled s b run (faulty_after h) (settled_later_on needed))
  passed_settles {x} none needed (waits q needs out) w = absurd (out (needs_now x (settled_later_on needed) w q needs))

  pub ended_behind : {r : Rule} {order whole_order : List Rule} (front behind : List Rule) →
      IsBuildOrder s.rule_of s.limit found b.requested order → order ≡ front ++ r ∷ behind →
      ((y : Rule) → Among y front → IsPassed s past found y) → (Among r (settled past) → ⊥) → ((y : Rule) → IsRunning past y → ⊥) →
      IsBuildOrder s.rule_of s.limit (found_in s view) b.requested whole_order → StandsBehind whole_order (settled past) r
  ended_behind front behind is_order is passed out none whole_is =
      stands_behind s b view past so_far_run sees_now found whole loop_free ended_alike front behind is_order is
      (λ y needed m w. passed_settles none needed (passed y m) w) out whole_is

-- a list that is cut at a member
pub record Cut (rules : List Rule) (r : Rule) : Type 0 where
  pub front : List Rule
  pub behind : List Rule
  pub parts : rules ≡ front ++ r ∷ behind

pub cut_at : {rules : List Rule} {r : Rule} → Among r rules → Cut rules r
cut_at (here {xs = xs}) = record { front = []; behind = xs; parts = refl }
cut_at (there {y = y} m) = let c = cut_at m in record { front = y ∷ c.front; behind = c.behind; parts = ap (λ l. y ∷ l) c.parts }

-- where each begun rule stands behind settled rules, they began in order
module _ (s : Setting) (b : Build) (steps : List Step) (order : List Rule) (run : IsRun s b steps)
    (each : (later past : List Step) (r : Rule) → steps ≡ later ++ Began r ∷ past → StandsBehind order (settled past) r) where
  before_cases : (past : List Step) {r q : Rule} → (h : StandsBehind order (settled past) r) →
      (Among q (settled past) → ⊥) → (q ≡ r → ⊥) → Among q h.front ⊎ Among q (r ∷ h.behind) → StandsBefore order r q
  before_cases past h out other (inl m) = absurd (out (h.all_settled _ m))
  before_cases past h out other (inr here) = absurd (other refl)
  before_cases past {r = r} h out other (inr (there m)) =
      let c = cut_at m in
      record { front = h.front; between = c.front; behind = c.behind; parts = h.parts ∙ ap (λ l. h.front ++ r ∷ l) c.parts }

  begun_before : (later between past : List Step) (r q : Rule) → steps ≡ later ++ Began q ∷ (between ++ Began r ∷ past) →
      StandsBefore order r q
  begun_before later between past r q e =
      let q_run = run_before s b later (Began q ∷ (between ++ Began r ∷ past)) (subst (λ l. IsRun s b l) e run) in
      let q_behind = each later (between ++ Began r ∷ past) q e in
      let r_behind = each (later ++ Began q ∷ between) past r (e ∙ sym (append_assoc later (Began q ∷ between) (Began r ∷ past))) in
      before_cases past r_behind
      (λ m. q_run.0.0.not_done (settled_done (between ++ Began r ∷ past) (settled_after between (Began r ∷ past) q m)))
      (λ same. q_run.0.0.not_began (subst (λ x. Among x (began (between ++ Began r ∷ past))) (sym same) (began_after between (Began r ∷ past) r here)))
      (among_either r_behind.front (among_same r_behind.parts (among_same (sym q_behind.parts) (among_right q_behind.front here))))

  pub begun_in_order : FollowsOrder order steps
  begun_in_order = record { each = each; two = begun_before }

module _ (s : Setting) (b : Build) where
  takes_before_step : (step : Step) (past : List Step) → TakesFirst s b (step ∷ past) → TakesFirst s b past
  takes_before_step (Fresh x) past takes = takes.1
  takes_before_step (Began x) past takes = takes.1
  takes_before_step (Ended x well) past takes = takes
  takes_before_step (Lacks x p) past takes = takes
  takes_before_step Halts past takes = takes

  takes_before : (later past : List Step) → TakesFirst s b (later ++ past) → TakesFirst s b past
  takes_before [] past takes = takes
  takes_before (step ∷ later) past takes = takes_before later past (takes_before_step step (later ++ past) takes)

  module _ (view : View) (steps : List Step) (order : List Rule) (run : IsRun s b steps) (succeeds : Succeeds s b steps) (one : b.jobs ≡ 1)
      (takes : TakesFirst s b steps) (sees : SeesReady s b steps view)
      (is_order : IsBuildOrder s.rule_of s.limit (found_in s view) b.requested order) where
    begun_behind : (later past : List Step) (r : Rule) → steps ≡ later ++ Began r ∷ past → StandsBehind order (settled past) r
    begun_behind later past r e =
        let here_run = run_before s b later (Began r ∷ past) (subst (λ l. IsRun s b l) e run) in
        let taken = (takes_before later (Began r ∷ past) (subst (λ l. TakesFirst s b l) e takes)).0 in
        let same : steps ≡ (later ++ Began r ∷ []) ++ past = e ∙ sym (append_assoc later (Began r ∷ []) past) in
        ended_behind s b view (later ++ Began r ∷ []) past (subst (λ l. IsRun s b l) same run) (subst (λ l. Succeeds s b l) same succeeds)
        (subst (λ l. SeesReady s b l view) same sees) taken.found taken.found_whole taken.front taken.behind taken.is_order taken.parts
        taken.passed (λ m. here_run.0.0.not_done (settled_done past m)) (none_runs s b past here_run.1 one here_run.0.1.room) is_order

    pub follows_order : FollowsOrder order steps
    follows_order = begun_in_order s b steps order run begun_behind
