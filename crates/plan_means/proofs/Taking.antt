-- The order of a tied plan is the build order of the model, and its next rule the one that is taken first.
use Rattle.std.proofs.Common.{◌≡◌, ◌≢◌, ◌<◌, ℕ, true, false, List, [], ◌∷◌, ◌++◌, length, Option, Some, None, refl, sym, subst, ap, ◌∙◌, inl, inr, ◌⊎◌, arith}
use Rattle.std.specs.Prelude.{nat_eq}
use Rattle.std.specs.Option.{option_map}
use Rattle.std.specs.List.{cons_option}
use Rattle.std.proofs.lemmas.List.{map-append}
use Rattle.std.proofs.lemmas.List.Folds.{list_any-append}
use Rattle.std.proofs.lemmas.Option.{slice_get_within}
use Rattle.scons_base.specs.declared.ids.NodeId.{NodeId}
use Rattle.scons_base.specs.declared.ids.RuleId.{RuleId}
use Rattle.rule_graph.specs.Graphs.{RuleGraph, path_of}
use Rattle.rule_graph.specs.Rules.{rule_of}
use Rattle.task_plan.specs.States.{state_of}
use Rattle.task_plan.specs.Named.{stands}
use Rattle.task_plan.specs.Settled.{origin_of}
use Rattle.task_plan.specs.Plans.{Planned}
use Rattle.task_plan.specs.Met.{is_met_from, IsFrom}
use Rattle.task_plan.specs.Watched.{IsNoneReady}
use Rattle.task_plan.specs.Orders.{is_among, maker_of, makers_of, needed_in, needed_of, Visits, nothing_left, met_again, not_known, met_first, IsOrder}
use Rattle.task_plan.specs.Ordered.{IsFirstOf}
use Rattle.task_plan.specs.Rooted.{makers_in}
use Rattle.task_plan.specs.declared.files.Origin.{Origin}
use Rattle.task_plan.specs.declared.files.Origin.TheVariants.{Unmet, Source, Made}
use Rattle.task_plan.specs.declared.states.RuleState.TheVariants.{Unneeded}
use Rattle.task_plan.proofs.MetNeeds.{stands_at}
use Rattle.task_plan.proofs.ReachedLemmas.{first, later, first_or, order_reached}
use Rattle.build_model.specs.Rules.{Rule, Among, here, there}
use Rattle.build_model.specs.Reach.{reach, scan_list}
use Rattle.build_model.specs.Needs.{Found, with_rule, rules_at, needs_in_order, IsBuildOrder, Visits as Goes, nothing_left as goes_nowhere, met_again as goes_again, met_first as goes_into}
use Rattle.build_model.specs.Steps.{running, Step, Build}
use Rattle.build_model.specs.Resting.{whole_found}
use Rattle.build_model.specs.OneJob.{IsPassed, IsTakenFirst, IsTakenInOrder}
use Rattle.build_model.proofs.Lists.{true_false, some_same}
use Rattle.build_means.specs.Rules.{paths_of}
use Rattle.build_means.proofs.Lists.{or_first, or_second}
use Rattle.build_means.specs.Grown.{Begun, begun_setting, rule_numbered}
use Rattle.plan_means.specs.Deciding.{IsTied, HasNoLoop}
use Rattle.plan_means.proofs.Visiting.{has_order}
use Rattle.plan_means.proofs.Single.{one_number}
use Rattle.plan_means.proofs.Knowing.{Knows, rule_made, one_below, need_below, need_at, needed_met}
use Rattle.plan_means.proofs.Needing.{needed_by}
use Rattle.plan_means.proofs.Deciding.{know, found_whole}
use Rattle.plan_means.proofs.Waiting.{IsPlanned, needed_planned, lists_now, passed_cannot}

module _ (b : Begun) (g : RuleGraph) where
  -- the rules with these numbers
  abbrev pub rules_numbered : List RuleId → List Rule
  rules_numbered [] = []
  rules_numbered (r ∷ rules) = with_rule (rule_numbered b g r.0) (rules_numbered rules)

  with_append : (o : Option Rule) (xs ys : List Rule) → with_rule o (xs ++ ys) ≡ with_rule o xs ++ ys
  with_append None xs ys = refl
  with_append (Some r) xs ys = refl

  pub numbered_append : (xs ys : List RuleId) → rules_numbered (xs ++ ys) ≡ rules_numbered xs ++ rules_numbered ys
  numbered_append [] ys = refl
  numbered_append (r ∷ xs) ys =
      ap (with_rule (rule_numbered b g r.0)) (numbered_append xs ys)
      ∙ with_append (rule_numbered b g r.0) (rules_numbered xs) (rules_numbered ys)

  pub numbered_first : (r : RuleId) (rules : List RuleId) (x : Rule) → rule_numbered b g r.0 ≡ Some x →
      rules_numbered (r ∷ rules) ≡ x ∷ rules_numbered rules
  numbered_first r rules x e = ap (λ o. with_rule o (rules_numbered rules)) e

  with_there : (o : Option Rule) (x : Rule) (xs : List Rule) → Among x xs → Among x (with_rule o xs)
  with_there None x xs m = m
  with_there (Some r) x xs m = there m

  numbered_there_by : (n : ℕ) (x : Rule) (r : RuleId) (rules : List RuleId) → rule_numbered b g n ≡ Some x →
      (r.0 ≡ n) ⊎ (is_among n rules ≡ true) →
      (is_among n rules ≡ true → Among x (rules_numbered rules)) → Among x (rules_numbered (r ∷ rules))
  numbered_there_by n x r rules e (inl same) next =
      subst (λ l. Among x l) (sym (numbered_first r rules x (ap (rule_numbered b g) same ∙ e))) here
  numbered_there_by n x r rules e (inr m) next = with_there (rule_numbered b g r.0) x (rules_numbered rules) (next m)

  -- a rule stands among those of its number and others
  pub numbered_there : (n : ℕ) (x : Rule) (rules : List RuleId) → rule_numbered b g n ≡ Some x →
      is_among n rules ≡ true → Among x (rules_numbered rules)
  numbered_there n x [] e m = true_false (sym m)
  numbered_there n x (r ∷ rules) e m = numbered_there_by n x r rules e (first_or n r rules m)
      (numbered_there n x rules e)

  pub record HasNumber (x : Rule) (rules : List RuleId) : Type 0 where
    pub number : ℕ
    pub among : is_among number rules ≡ true
    pub is : rule_numbered b g number ≡ Some x

  has_more : (x : Rule) (r : RuleId) (rules : List RuleId) → HasNumber x rules → HasNumber x (r ∷ rules)
  has_more x r rules h = record { number = h.number; among = later h.number r rules h.among; is = h.is }

  number_by : (x : Rule) (r : RuleId) (rules : List RuleId) (o : Option Rule) → rule_numbered b g r.0 ≡ o →
      Among x (with_rule o (rules_numbered rules)) →
      (Among x (rules_numbered rules) → HasNumber x rules) → HasNumber x (r ∷ rules)
  number_by x r rules None e m next = has_more x r rules (next m)
  number_by x r rules (Some y) e here next = record { number = r.0; among = first r.0 r rules refl; is = e }
  number_by x r rules (Some y) e (there m) next = has_more x r rules (next m)

  -- and what stands there has a number
  pub has_number : (x : Rule) (rules : List RuleId) → Among x (rules_numbered rules) → HasNumber x rules
  has_number x [] m = elim m [ ]
  has_number x (r ∷ rules) m = number_by x r rules (rule_numbered b g r.0) refl m (has_number x rules)

module _ (b : Begun) (g : RuleGraph) (requested : List NodeId) (build : Build) (past : List Step) (plan : Planned)
    (tied : IsTied b g requested build past plan)
    (none : IsNoneReady plan) where
  abbrev the : (number : ℕ) → state_of plan.states number ≢ Unneeded → Knows b g plan number
  the number needed = know b g requested build past plan tied number needed

  abbrev found : Found
  found = whole_found (begun_setting b) build past

  abbrev needs : Rule → List Rule
  needs r = needs_in_order (begun_setting b).rule_of (begun_setting b).limit found r

  file_rule : (number : ℕ) (needed : state_of plan.states number ≢ Unneeded) (n : NodeId) (o : Origin) →
      stands ((the number needed).kept.required ++ (the number needed).kept.deps) n ≡ true →
      origin_of plan.origins n.0 ≡ o → IsFrom g plan.states n.0 o → is_met_from o ≡ true →
      (rules : List RuleId) →
      with_rule ((begun_setting b).rule_of (path_of g.nodes n))
      (rules_numbered b g rules) ≡ rules_numbered b g (cons_option (maker_of o) rules)
  file_rule number needed n Unmet h e from met rules = true_false (sym met)
  file_rule number needed n Source h e from met rules =
      ap (λ o. with_rule o (rules_numbered b g rules))
      (tied.ties.sources number n needed
      (need_at b g requested build.after past plan tied.graph tied.ties number needed n h) e)
  file_rule number needed n (Made m) h e from met rules =
      ap (λ o. with_rule o (rules_numbered b g rules))
      (rule_made b g requested build.after past plan tied.graph tied.ties n m.0
      (need_below b g requested build.after past plan tied.graph tied.ties number needed n h) from.0)

  -- the rules of files that a needed rule needs
  files_rules : (number : ℕ) (needed : state_of plan.states number ≢ Unneeded) (files : List NodeId) →
      ((n : NodeId) → stands files n ≡ true → stands
      ((the number needed).kept.required ++ (the number needed).kept.deps) n ≡ true) →
      rules_at (begun_setting b).rule_of (paths_of g files) ≡ rules_numbered b g (makers_of plan.origins files)
  files_rules number needed [] h = refl
  files_rules number needed (n ∷ files) h =
      let this = h n (stands_at (n ∷ files) 0 n refl) in
      ap (with_rule ((begun_setting b).rule_of (path_of g.nodes n)))
      (files_rules number needed files (λ x m. h x (or_second (nat_eq x.0 n.0) (stands files x) m)))
      ∙ file_rule number needed n (origin_of plan.origins n.0) this refl (tied.ties.plan_for.from.each n.0)
      (needed_met b g requested build.after past plan tied.graph tied.ties number needed n this)
      (makers_of plan.origins files)

  -- what a rule needs, in order
  needs_are : (number : ℕ) (needed : state_of plan.states number ≢ Unneeded) →
      needs (the number needed).rule ≡ rules_numbered b g (needed_of plan.rules plan.origins number)
  needs_are number needed =
      let k = the number needed in
      let lists = lists_now b g requested build past plan tied number needed none in
      ap (rules_at (begun_setting b).rule_of)
      (ap (λ l. l ++ reach (begun_setting b).limit (found k.rule) k.rule)
      (sym (ap (paths_of g) k.keeps.required ∙ k.names.required))
      ∙ ap (λ l. paths_of g k.kept.required ++ l) lists.deps
      ∙ sym (map-append (path_of g.nodes) k.kept.required k.kept.deps))
      ∙ files_rules number needed (k.kept.required ++ k.kept.deps) (λ n h. h)
      ∙ ap (λ o. rules_numbered b g (needed_in plan.origins o)) (sym k.at)

  asked_rule : (n : NodeId) (o : Option ℕ) → stands requested n ≡ true → rule_of g.rules n.0 ≡ o →
      (rules : List RuleId) →
      with_rule ((begun_setting b).rule_of (path_of g.nodes n)) (rules_numbered b g rules)
      ≡ rules_numbered b g (cons_option (option_map (λ (m : ℕ). let r : RuleId = record { 0 = m } in r) o) rules)
  asked_rule n None h e rules = ap (λ o. with_rule o (rules_numbered b g rules)) (tied.ties.asked n h e)
  asked_rule n (Some m) h e rules =
      ap (λ o. with_rule o (rules_numbered b g rules))
      (rule_made b g requested build.after past plan tied.graph tied.ties n m
      (one_below g requested n tied.ties.plan_for.nodes h) e)

  asked_rules : (nodes : List NodeId) → ((n : NodeId) → stands nodes n ≡ true → stands requested n ≡ true) →
      rules_at (begun_setting b).rule_of (paths_of g nodes) ≡ rules_numbered b g (makers_in g nodes)
  asked_rules [] h = refl
  asked_rules (n ∷ nodes) h =
      ap (with_rule ((begun_setting b).rule_of (path_of g.nodes n)))
      (asked_rules nodes (λ x m. h x (or_second (nat_eq x.0 n.0) (stands nodes x) m)))
      ∙ asked_rule n (rule_of g.rules n.0) (h n (stands_at (n ∷ nodes) 0 n refl)) refl (makers_in g nodes)

  -- the rules of what is requested
  roots_are : rules_at (begun_setting b).rule_of build.requested ≡ rules_numbered b g plan.notes.roots
  roots_are =
      ap (rules_at (begun_setting b).rule_of) tied.asked ∙ asked_rules requested (λ n h. h)
      ∙ ap (rules_numbered b g) (sym tied.ties.plan_for.roots)

  -- rules that the plan needs
  abbrev AreNeeded : List RuleId → Type 0
  AreNeeded rules = (n : ℕ) → is_among n rules ≡ true → state_of plan.states n ≢ Unneeded

  needs_needed : (number : ℕ) → state_of plan.states number ≢ Unneeded →
      AreNeeded (needed_of plan.rules plan.origins number)
  needs_needed number needed n h =
      let by = needed_by b g requested build.after past plan tied.graph tied.ties n number needed h in
      (subst (λ (o : Origin). IsFrom g plan.states by.node.0 o) by.origin (tied.ties.plan_for.from.each by.node.0)).1

  not_again : (r : RuleId) (x : Rule) (met : List RuleId) → rule_numbered b g r.0 ≡ Some x →
      is_among r.0 met ≡ false → Among x (rules_numbered b g met) → ⊥
  not_again r x met e out m =
      let h = has_number b g x met m in
      let same : h.number ≡ r.0 = one_number b g tied.graph h.number r.0 x h.is e in
      true_false (sym (ap (λ n. is_among n met) (sym same) ∙ h.among) ∙ out)

  known_below : (number : ℕ) (needed : state_of plan.states number ≢ Unneeded) → number < length plan.rules
  known_below number needed = let k = the number needed in slice_get_within plan.rules number k.kept k.at

  -- the same walk over the rules of the model
  goes : {met rules after order : List RuleId} → AreNeeded rules →
      Visits (length plan.rules) (needed_of plan.rules plan.origins) met rules after order →
      Goes needs (rules_numbered b g met) (rules_numbered b g rules) (rules_numbered b g after)
      (rules_numbered b g order)
  goes all nothing_left = goes_nowhere
  goes all (met_again {met = met} {rules = rules} {after = after} {order = order} {rule = rule} m v) =
      let k = the rule.0 (all rule.0 (first rule.0 rule rules refl)) in
      subst (λ l. Goes needs (rules_numbered b g met) l (rules_numbered b g after) (rules_numbered b g order))
      (sym (numbered_first b g rule rules k.rule k.numbered))
      (goes_again (numbered_there b g rule.0 k.rule met k.numbered m) (goes (λ n h. all n (later n rule rules h)) v))
  goes all (not_known {rules = rules} {rule = rule} le v) =
      absurd (let lt = known_below rule.0 (all rule.0 (first rule.0 rule rules refl)) in omega (arith, lt, le))
  goes all (met_first {met = met} {between = between} {rules = rules} {after = after} {below = below}
      {behind = behind} {rule = rule} lt out v w) =
      let needed = all rule.0 (first rule.0 rule rules refl) in
      let k = the rule.0 needed in
      let inner = goes (needs_needed rule.0 needed) v in
      let inner_here : Goes needs (k.rule ∷ rules_numbered b g met) (needs k.rule) (rules_numbered b g between)
      (rules_numbered b g below) =
      subst (λ l. Goes needs l (needs k.rule) (rules_numbered b g between) (rules_numbered b g below))
      (numbered_first b g rule met k.rule k.numbered)
      (subst (λ l. Goes needs (rules_numbered b g (rule ∷ met)) l (rules_numbered b g between)
      (rules_numbered b g below)) (sym (needs_are rule.0 needed)) inner) in
      let outer = goes (λ n h. all n (later n rule rules h)) w in
      let whole : Goes needs (rules_numbered b g met) (k.rule ∷ rules_numbered b g rules) (rules_numbered b g after)
      (rules_numbered b g below ++ k.rule ∷ rules_numbered b g behind) =
      goes_into (not_again rule k.rule met k.numbered out) inner_here outer in
      let order_is : rules_numbered b g (below ++ rule ∷ behind) ≡ rules_numbered b g
      below ++ k.rule ∷ rules_numbered b g behind =
      numbered_append b g below (rule ∷ behind) ∙ ap (λ l. rules_numbered b g below ++ l)
      (numbered_first b g rule behind k.rule k.numbered) in
      subst (λ l. Goes needs (rules_numbered b g met) l (rules_numbered b g after)
      (rules_numbered b g (below ++ rule ∷ behind))) (sym (numbered_first b g rule rules k.rule k.numbered))
      (subst (λ l. Goes needs (rules_numbered b g met) (k.rule ∷ rules_numbered b g rules) (rules_numbered b g after)
      l) (sym order_is) whole)

  -- the build order of the plan is that of the model
  pub order_is : (order : List RuleId) → IsOrder plan.rules plan.origins plan.notes.roots order →
      IsBuildOrder (begun_setting b).rule_of (begun_setting b).limit found build.requested (rules_numbered b g order)
  order_is order o = record {
    met = rules_numbered b g o.met;
    visits =
        subst (λ l. Goes needs [] l (rules_numbered b g o.met) (rules_numbered b g order)) (sym roots_are)
        (goes tied.ties.plan_for.order.roots o.visits);
  }

  module _ (rule : RuleId) (r : Rule) (is : rule_numbered b g rule.0 ≡ Some r)
      (first_of : (order : List RuleId) → IsOrder plan.rules plan.origins plan.notes.roots order → IsFirstOf plan
      order rule) where
    pub before_passed : (order : List RuleId) (o : IsOrder plan.rules plan.origins plan.notes.roots order)
        (f : IsFirstOf plan order rule) (x : Rule) →
        Among x (rules_numbered b g f.before) → IsPassed (begun_setting b) past found x
    before_passed order o f x m =
        let h = has_number b g x f.before m in
        let in_order : is_among h.number order ≡ true =
        ap (is_among h.number) f.is ∙ list_any-append (λ (y : RuleId). nat_eq y.0 h.number) f.before
        (rule ∷ f.behind) ∙ or_first (is_among h.number f.before) _ h.among in
        let reached = (order_reached plan.rules plan.origins plan.notes.roots order o).only h.number in_order in
        let needed = tied.ties.plan_for.reached.only h.number reached in
        let k = the h.number needed in
        subst (λ (y : Rule). IsPassed (begun_setting b) past found y) (some_same (sym k.numbered ∙ h.is))
        (passed_cannot b g requested build past plan tied h.number needed none (f.none h.number h.among))

    abbrev pub taken_first : IsTakenFirst (begun_setting b) build past r
    taken_first =
        let o = has_order plan.rules plan.origins plan.notes.roots in
        let f = first_of o.order o.is in
        record {
          found = found;
          found_whole = found_whole b g requested build past plan tied;
          order = rules_numbered b g o.order;
          is_order = order_is o.order o.is;
          front = rules_numbered b g f.before;
          behind = rules_numbered b g f.behind;
          parts = ap (rules_numbered b g) f.is ∙ numbered_append b g f.before (rule ∷ f.behind)
              ∙ ap (λ l. rules_numbered b g f.before ++ l) (numbered_first b g rule f.behind r is);
          passed = λ x m. before_passed o.order o.is f x m;
        }

    never_cut : (x : Rule) → IsPlanned b g requested build past plan tied x →
        length (scan_list (begun_setting b).limit (found x) x) < (begun_setting b).limit
    never_cut x p =
        subst (λ (y : Rule). length (scan_list (begun_setting b).limit (found y) y) < (begun_setting b).limit)
        (some_same (sym (the p.number p.needed).numbered ∙ p.is))
        (lists_now b g requested build past plan tied p.number p.needed none).room

    pub taken_in_order : running past < build.jobs → HasNoLoop b build past →
        IsTakenInOrder (begun_setting b) build past r
    taken_in_order room no_loop = record {
      first = taken_first;
      room = room;
      no_cycle = no_loop;
      not_cut = λ x h. never_cut x (needed_planned b g requested build past plan tied none x h);
    }
