-- In the order of a plan that was gone over to its end each rule stands behind all that it needs.
use Rattle.std.proofs.Common.{◌≡◌, ◌≢◌, ◌<◌, ◌⊎◌, inl, inr, ⊎_elim, ◌∙◌, ◌++◌, ℕ, true, List, [], ◌∷◌, length, Some, refl, sym, subst, ap, arith, option_map}
use Rattle.std.specs.List.{cons_option}
use Rattle.std.proofs.lemmas.Option.{slice_get_within}
use Rattle.scons_base.specs.declared.ids.NodeId.{NodeId}
use Rattle.scons_base.specs.declared.ids.RuleId.{RuleId}
use Rattle.rule_graph.specs.Graphs.{RuleGraph}
use Rattle.rule_graph.specs.Rules.{rule_of}
use Rattle.world_api.specs.Around.{Around}
use Rattle.task_plan.specs.States.{state_of}
use Rattle.task_plan.specs.Met.{is_met, is_met_from, IsFrom}
use Rattle.task_plan.specs.Orders.{is_among, maker_of, makers_of, needed_in, needed_of, Visits, nothing_left, met_again, not_known, met_first, IsOrder, IsReached, is_root, is_needed, NeedsThrough as LeadsThrough, AreBehind}
use Rattle.task_plan.specs.Plans.{Planned}
use Rattle.task_plan.specs.Rooted.{makers_in}
use Rattle.task_plan.specs.Settled.{origin_of}
use Rattle.task_plan.specs.Watched.{IsFinished}
use Rattle.task_plan.specs.declared.files.Origin.{Origin}
use Rattle.task_plan.specs.declared.files.Origin.TheVariants.{Unmet, Source, Made}
use Rattle.task_plan.specs.declared.states.RuleState.TheVariants.{Unneeded}
use Rattle.task_plan.proofs.BehindLemmas.{order_behind}
use Rattle.task_plan.proofs.ReachedLemmas.{first, later, first_or, below_or, none_among}
use Rattle.build_model.specs.Rules.{Tree, Rule, Among, here, there}
use Rattle.build_model.specs.Needs.{Found, RuleOf, Needs, NeedsThrough, directly, through}
use Rattle.build_model.proofs.Lists.{true_false, some_same, among_same}
use Rattle.build_model.proofs.Ordering.{in_order_needs}
use Rattle.build_means.specs.Grown.{Begun, rule_numbered}
use Rattle.build_files.specs.declared.inputs.Inputs.{Inputs}
use Rattle.plan_means.proofs.Knowing.{among_stands, needed_met}
use Rattle.plan_means.proofs.Taking.{numbered_there}
use Rattle.scons_report.specs.Overs.{all_fresh, IsOver, needs_over, IsPlannedOrder}
use Rattle.scons_report.proofs.Finished.{kn, s, found, is_made_rule, none_loops, needed_nodes, needs_are, needs_needed, roots_needed, AreNeeded}

module _ (count : ℕ) (needed : ℕ → List RuleId) where
  -- behind which rules one stands
  behind_at : (before front : List RuleId) (rule : RuleId) (rest : List RuleId) → AreBehind count needed before (front ++ rule ∷ rest) →
      (other : ℕ) → is_among other (needed rule.0) ≡ true → other < count →
      ((is_among other front ≡ true) ⊎ (is_among other before ≡ true)) ⊎ LeadsThrough needed other rule.0
  behind_at before [] rule rest (AreBehind.more r new f a) other h lt = ⊎_elim (λ m. inl (inr m)) (λ t. inr t) (f other h lt)
  behind_at before (x ∷ front) rule rest (AreBehind.more r new f a) other h lt =
      ⊎_elim (λ m. inl (⊎_elim (λ k. inl (later other x front k)) (λ k. ⊎_elim (λ e. inl (first other x front e)) (λ n. inr n) (first_or other x before k)) m))
      (λ t. inr t) (behind_at (x ∷ before) front rule rest a other h lt)

module _ (b : Begun) (requested : List NodeId) (t : Tree) (g : RuleGraph) (inputs : Inputs) (plan : Planned) (around : Around)
    (is : IsOver b requested t g inputs plan around) (finished : IsFinished plan) where
  abbrev RuleAt : RuleOf
  RuleAt = (s b requested t g inputs plan around is finished).rule_of

  abbrev By : Found
  By = found b requested t g inputs plan around is finished

  abbrev IsPlanned : ℕ → Type 0
  IsPlanned number = state_of plan.states number ≢ Unneeded

  maker_same : (n : NodeId) (o : Origin) → IsFrom g plan.states n.0 o → is_met_from o ≡ true →
      option_map (λ (r : ℕ). let id : RuleId = record { 0 = r } in id) (rule_of g.rules n.0) ≡ maker_of o
  maker_same n Unmet from met = true_false (sym met)
  maker_same n Source from met = ap (option_map (λ (r : ℕ). let id : RuleId = record { 0 = r } in id)) from
  maker_same n (Made m) from met = ap (option_map (λ (r : ℕ). let id : RuleId = record { 0 = r } in id)) from.0

  makers_same : (nodes : List NodeId) → ((n : NodeId) → Among n nodes → is_met plan.origins n ≡ true) →
      makers_in g nodes ≡ makers_of plan.origins nodes
  makers_same [] met = refl
  makers_same (n ∷ nodes) met =
      ap (λ o. cons_option o (makers_in g nodes)) (maker_same n (origin_of plan.origins n.0) (is.ties.plan_for.from.each n.0) (met n here))
      ∙ ap (cons_option (maker_of (origin_of plan.origins n.0))) (makers_same nodes (λ x m. met x (there m)))

  -- what a needed rule needs by the graph it needs by the plan
  needs_same : (number : ℕ) → IsPlanned number → needs_over g plan number ≡ needed_of plan.rules plan.origins number
  needs_same number needed =
      let k = kn b requested t g inputs plan around is finished number needed in
      ap (makers_in g) (needed_nodes b requested t g inputs plan around is finished number needed)
      ∙ makers_same (k.kept.required ++ k.kept.deps) (λ n m.
      needed_met b g requested t (all_fresh is.made) plan is.now is.ties number needed n (among_stands (k.kept.required ++ k.kept.deps) n m))
      ∙ ap (needed_in plan.origins) (sym k.at)

  abbrev ArePlanned : List RuleId → Type 0
  ArePlanned rules = AreNeeded b requested t g inputs plan around is finished rules

  walks : {met rules after order : List RuleId} → ArePlanned rules → Visits (length g.rules) (needs_over g plan) met rules after order →
      Visits (length plan.rules) (needed_of plan.rules plan.origins) met rules after order
  walks all nothing_left = nothing_left
  walks all (met_again {rules = rules} {rule = rule} m v) = met_again m (walks (λ n h. all n (later n rule rules h)) v)
  walks all (not_known {rules = rules} {rule = rule} le v) =
      let k = kn b requested t g inputs plan around is finished rule.0 (all rule.0 (first rule.0 rule rules refl)) in
      let lt = slice_get_within g.rules rule.0 k.of k.stands in
      absurd (omega (arith, lt, le))
  walks all (met_first {met = met} {between = between} {rules = rules} {below = below} {rule = rule} lt out v w) =
      let needed = all rule.0 (first rule.0 rule rules refl) in
      let k = kn b requested t g inputs plan around is finished rule.0 needed in
      met_first (slice_get_within plan.rules rule.0 k.kept k.at) out
      (subst (λ l. Visits (length plan.rules) (needed_of plan.rules plan.origins) (rule ∷ met) l between below) (needs_same rule.0 needed)
      (walks (needs_needed b requested t g inputs plan around is finished rule.0 needed) v))
      (walks (λ n h. all n (later n rule rules h)) w)

  module _ (order : List RuleId) (o : IsPlannedOrder g plan requested order) where
    plan_order : IsOrder plan.rules plan.origins plan.notes.roots order
    plan_order = record {
      met = o.met;
      visits =
          subst (λ l. Visits (length plan.rules) (needed_of plan.rules plan.origins) [] l o.met order) (sym is.ties.plan_for.roots)
          (walks (roots_needed b requested t g inputs plan around is finished) o.visits);
    }

    planned_by : {met rules after order : List RuleId} → ArePlanned rules → Visits (length g.rules) (needs_over g plan) met rules after order →
        (x : ℕ) → is_among x order ≡ true → IsPlanned x
    planned_by all nothing_left x h = none_among x h
    planned_by all (met_again {rules = rules} {rule = rule} m v) x h = planned_by (λ n k. all n (later n rule rules k)) v x h
    planned_by all (not_known {rules = rules} {rule = rule} le v) x h = planned_by (λ n k. all n (later n rule rules k)) v x h
    planned_by all (met_first {rules = rules} {below = below} {behind = behind} {rule = rule} lt out v w) x h =
        let needed = all rule.0 (first rule.0 rule rules refl) in
        ⊎_elim (λ k. planned_by (needs_needed b requested t g inputs plan around is finished rule.0 needed) v x k)
        (λ k. ⊎_elim (λ e. subst IsPlanned e needed) (λ n. planned_by (λ n k. all n (later n rule rules k)) w x n) k)
        (below_or x below rule behind h)

    -- each rule of the order is needed
    pub order_planned : (x : ℕ) → is_among x order ≡ true → IsPlanned x
    order_planned x h = planned_by (roots_needed b requested t g inputs plan around is finished) o.visits x h

    -- one rule needs another, by their numbers
    abbrev Leads : ℕ → ℕ → Type 0
    Leads number other = (r q : Rule) → rule_numbered b g number ≡ Some r → rule_numbered b g other ≡ Some q → NeedsThrough RuleAt By r q

    one_needs : (number other : ℕ) (needed : IsPlanned number) (r q : Rule) → rule_numbered b g number ≡ Some r → rule_numbered b g other ≡ Some q →
        is_among other (needed_of plan.rules plan.origins number) ≡ true → Needs RuleAt By r q
    one_needs number other needed r q e f h =
        let k = kn b requested t g inputs plan around is finished number needed in
        let among = numbered_there b g other q (needs_over g plan number) f (ap (is_among other) (needs_same number needed) ∙ h) in
        subst (λ (x : Rule). Needs RuleAt By x q) (some_same (sym k.numbered ∙ e))
        (in_order_needs RuleAt (s b requested t g inputs plan around is finished).limit {found = By}
        (among_same (sym (needs_are b requested t g inputs plan around is finished number needed)) among))

    then_needs : {r x q : Rule} → NeedsThrough RuleAt By r x → Needs RuleAt By x q → NeedsThrough RuleAt By r q
    then_needs (directly n) last = through _ n (directly last)
    then_needs (through y n more) last = through y n (then_needs more last)

    next_planned : (number other : ℕ) → IsPlanned number → is_among other (needed_of plan.rules plan.origins number) ≡ true → IsPlanned other
    next_planned number other needed h =
        needs_needed b requested t g inputs plan around is finished number needed other (ap (is_among other) (needs_same number needed) ∙ h)

    reached_leads : (number x : ℕ) → IsPlanned number → IsReached (needed_of plan.rules plan.origins) (needed_of plan.rules plan.origins number) x →
        IsPlanned x × Leads number x
    reached_leads number x needed (is_root h) = (next_planned number x needed h, λ r q e f. directly (one_needs number x needed r q e f h))
    reached_leads number x needed (is_needed other reached h) =
        let before = reached_leads number other needed reached in
        let k = kn b requested t g inputs plan around is finished other before.0 in
        (next_planned other x before.0 h, λ r q e f. then_needs (before.1 r k.rule e k.numbered) (one_needs other x before.0 k.rule q k.numbered f h))

    -- so what a rule needs stands before it
    pub in_front : (front : List RuleId) (rule : RuleId) (rest : List RuleId) → order ≡ front ++ rule ∷ rest → IsPlanned rule.0 →
        (other : ℕ) → is_among other (needs_over g plan rule.0) ≡ true → is_among other front ≡ true
    in_front front rule rest parts needed other h =
        let among : is_among other (needed_of plan.rules plan.origins rule.0) ≡ true = ap (is_among other) (sym (needs_same rule.0 needed)) ∙ h in
        let other_needed = next_planned rule.0 other needed among in
        let k = kn b requested t g inputs plan around is finished rule.0 needed in
        let m = kn b requested t g inputs plan around is finished other other_needed in
        let behind = order_behind plan.rules plan.origins plan.notes.roots order plan_order in
        let lt = slice_get_within plan.rules other m.kept m.at in
        ⊎_elim (λ c. ⊎_elim (λ x. x) (λ x. none_among other x) c)
        (λ (back : LeadsThrough (needed_of plan.rules plan.origins) other rule.0).
        absurd (none_loops RuleAt By is.order (is_made_rule b requested t g inputs plan around is finished rule.0 needed)
        (through m.rule (one_needs rule.0 other needed k.rule m.rule k.numbered m.numbered among)
        ((reached_leads other rule.0 other_needed back).1 m.rule k.rule m.numbered k.numbered))))
        (behind_at (length plan.rules) (needed_of plan.rules plan.origins) [] front rule rest
        (subst (λ l. AreBehind (length plan.rules) (needed_of plan.rules plan.origins) [] l) parts behind) other among lt)
