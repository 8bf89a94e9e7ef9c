-- What a tied plan says of rules that are held is so by the model.
use Rattle.std.proofs.Common.{◌≡◌, ◌≢◌, ◌<◌, ◌+◌, ◌-◌, ℕ, zero, suc, Bool, true, false, ◌&&◌, List, [], ◌∷◌, ◌++◌, length, get_or, Some, refl, sym, subst, ap, ◌∙◌, arith}
use Rattle.std.specs.Prelude.{slice_get}
use Rattle.std.proofs.lemmas.Option.{same_Some, slice_get_within, slice_get-get_or}
use Rattle.std.specs.List.{count_by}
use Rattle.scons_base.specs.declared.ids.NodeId.{NodeId}
use Rattle.scons_base.specs.declared.ids.RuleId.{RuleId}
use Rattle.rule_graph.specs.Graphs.{RuleGraph, path_of}
use Rattle.rule_graph.specs.Rules.{rule_of}
use Rattle.task_plan.specs.States.{state_of, is_waiting, is_running as is_running_state}
use Rattle.task_plan.specs.Named.{stands}
use Rattle.task_plan.specs.Settled.{origin_of, is_settled as is_settled_state}
use Rattle.task_plan.specs.Plans.{Planned}
use Rattle.task_plan.specs.Met.{needs_at, needs_in, is_met_from, IsFrom}
use Rattle.task_plan.specs.Cycles.{is_unsettled, WaitsFor, IsCycle}
use Rattle.task_plan.specs.Orders.{is_among, needed_of}
use Rattle.task_plan.specs.Watched.{IsStill, targets_at, targets_in}
use Rattle.task_plan.specs.Held.{WaitsOn, IsHeldBy, NeedsFault}
use Rattle.task_plan.specs.declared.files.Origin.{Origin}
use Rattle.task_plan.specs.declared.files.Origin.TheVariants.{Unmet, Source, Made}
use Rattle.task_plan.specs.declared.states.RuleState.{RuleState}
use Rattle.task_plan.specs.declared.states.RuleState.TheVariants.{Unneeded, Waiting, Running, Settled, Failed, Lacking}
use Rattle.task_plan.proofs.AdmitLemmas.{waits_needed}
use Rattle.task_plan.proofs.MetNeeds.{stands_at}
use Rattle.task_plan.proofs.RestLemmas.{place_in}
use Rattle.task_plan.proofs.RootLemmas.{needs_made}
use Rattle.build_model.specs.Rules.{Rule, Setting, Among}
use Rattle.build_model.specs.Needs.{Found, Needs, as_required, as_dependency, NeedsThrough, directly, through, Needed}
use Rattle.build_model.specs.Steps.{Step, Build, settled}
use Rattle.build_model.specs.Resting.{IsFaulty, LeavesAtRest, IsUntouched, whole_found}
use Rattle.build_model.proofs.Lists.{true_false, none_some, some_same, among_same}
use Rattle.build_model.proofs.Resting.{faulty_unsettled, leaves_at_rest}
use Rattle.build_model.proofs.Runs.{settled_done}
use Rattle.build_model.proofs.Whole.{reaches_in}
use Rattle.build_means.specs.Rules.{paths_of}
use Rattle.build_means.specs.Grown.{Begun, begun_setting, rule_numbered}
use Rattle.build_means.proofs.Lists.{among_map}
use Rattle.plan_means.specs.Ties.{IsAt, IsNew}
use Rattle.plan_means.specs.Deciding.{IsTied}
use Rattle.plan_means.specs.Holding.{IsHeldBack, HasFault, NeedsItself}
use Rattle.plan_means.proofs.Knowing.{Knows, among_stands, in_needs, in_required, rule_made, needed_met, need_below, need_at}
use Rattle.plan_means.proofs.Needing.{made_of, needs_of}
use Rattle.plan_means.proofs.Deciding.{know, whole_agrees}
use Rattle.plan_means.proofs.Single.{target_of, one_number}
use Rattle.plan_means.proofs.Waiting.{IsPlanned, lists_now, needed_planned}
use Rattle.plan_means.proofs.Resting.{none_runs, is_at_rest}
use Rattle.plan_means.proofs.Running.{faulty_done}

both_first : (a c : Bool) → (a && c) ≡ true → a ≡ true
both_first true c h = refl
both_first false c h = h

both_second : (a c : Bool) → (a && c) ≡ true → c ≡ true
both_second true c h = h
both_second false c h = true_false (sym h)

waits_by : (o : RuleState) → is_waiting o ≡ true → o ≡ Waiting
waits_by Unneeded h = true_false (sym h)
waits_by Waiting h = refl
waits_by Running h = true_false (sym h)
waits_by Settled h = true_false (sym h)
waits_by Failed h = true_false (sym h)
waits_by Lacking h = true_false (sym h)

module _ (b : Begun) (g : RuleGraph) (requested : List NodeId) (build : Build) (past : List Step) (plan : Planned)
    (tied : IsTied b g requested build past plan) where
  abbrev s : Setting
  s = begun_setting b

  abbrev found : Found
  found = whole_found (begun_setting b) build past

  abbrev the : (number : ℕ) → state_of plan.states number ≢ Unneeded → Knows b g plan number
  the number needed = know b g requested build past plan tied number needed

  -- a target of a needed rule is made by it, by the graph
  target_made : (other : ℕ) → state_of plan.states other ≢ Unneeded → (node : NodeId) →
      stands (targets_at plan.rules other) node ≡ true → rule_of g.rules node.0 ≡ Some other
  target_made other needed node h =
      let k = the other needed in
      target_of b g tied.graph k.of other node k.stands
      (ap (λ (l : List NodeId). stands l node) (sym k.keeps.targets) ∙ ap (λ o. stands (targets_in o) node) (sym k.at) ∙ h)

  -- a rule that needs such a target needs that rule
  needs_maker : (number other : ℕ) → state_of plan.states number ≢ Unneeded → (node : NodeId) →
      stands (needs_at plan.rules number) node ≡ true → rule_of g.rules node.0 ≡ Some other →
      is_among other (needed_of plan.rules plan.origins number) ≡ true
  needs_maker number other needed node h made =
      let k = the number needed in
      needs_made g plan number other k.kept node tied.ties.plan_for.from tied.ties.plan_for.met needed k.at
      (ap (λ o. stands (needs_in o) node) (sym k.at) ∙ h) made

  model_needs : (number other : ℕ) (needed : state_of plan.states number ≢ Unneeded)
      (other_needed : state_of plan.states other ≢ Unneeded) →
      is_among other (needed_of plan.rules plan.origins number) ≡ true →
      Needs s.rule_of found (the number needed).rule (the other other_needed).rule
  model_needs number other needed other_needed h =
      needs_of b g requested build.after past plan tied.graph tied.ties found
      (whole_agrees b g requested build past plan tied) other number other_needed needed h

  -- a rule that waits on another one
  record IsWaiter (number other : ℕ) : Type 0 where
    waits : state_of plan.states number ≡ Waiting
    needs : state_of plan.states other ≢ Unneeded → is_among other (needed_of plan.rules plan.origins number) ≡ true

  is_waiter : (number other : ℕ) → WaitsOn plan.states plan.rules plan.notes.waiters number other → IsWaiter number other
  is_waiter number other w =
      let waits = waits_by (state_of plan.states number)
      (both_first (is_waiting (state_of plan.states number)) (stands (needs_at plan.rules number) w.target) w.needs) in
      let need = both_second (is_waiting (state_of plan.states number)) (stands (needs_at plan.rules number) w.target) w.needs in
      record {
        waits = waits;
        needs = λ other_needed. needs_maker number other (waits_needed g plan number waits) w.target need
            (target_made other other_needed w.target w.made);
      }

  -- so is one that a rule at fault holds
  record IsHolder (fault number : ℕ) : Type 0 where
    waits : state_of plan.states number ≡ Waiting
    needs : (r q : Rule) → rule_numbered b g number ≡ Some r → rule_numbered b g fault ≡ Some q →
        NeedsThrough s.rule_of found r q

  one_needs : (number other : ℕ) (needed : state_of plan.states number ≢ Unneeded)
      (other_needed : state_of plan.states other ≢ Unneeded) (r q : Rule) → rule_numbered b g number ≡ Some r →
      rule_numbered b g other ≡ Some q → is_among other (needed_of plan.rules plan.origins number) ≡ true →
      Needs s.rule_of found r q
  one_needs number other needed other_needed r q is is_other h =
      subst (λ (x : Rule). Needs s.rule_of found x q) (some_same (sym (the number needed).numbered ∙ is))
      (subst (λ (y : Rule). Needs s.rule_of found (the number needed).rule y)
      (some_same (sym (the other other_needed).numbered ∙ is_other)) (model_needs number other needed other_needed h))

  holder : (faulty : List RuleId) (fault number : ℕ) → state_of plan.states fault ≢ Unneeded →
      IsHeldBy plan.states plan.rules plan.notes.waiters faulty fault number → IsHolder fault number
  holder faulty fault number fault_needed (IsHeldBy.directly out lt w) =
      let i = is_waiter number fault w in
      let needed = waits_needed g plan number i.waits in
      record {
        waits = i.waits;
        needs = λ r q is is_fault. directly (one_needs number fault needed fault_needed r q is is_fault (i.needs fault_needed));
      }
  holder faulty fault number fault_needed (IsHeldBy.in_turn other out lt w h) =
      let i = is_waiter number other w in
      let next = holder faulty fault other fault_needed h in
      let needed = waits_needed g plan number i.waits in
      let other_needed = waits_needed g plan other next.waits in
      let k = the other other_needed in
      record {
        waits = i.waits;
        needs = λ r q is is_fault. through k.rule
            (one_needs number other needed other_needed r k.rule is k.numbered (i.needs other_needed))
            (next.needs k.rule q k.numbered is_fault);
      }

  pub held_back : (faulty : List RuleId) (fault number : ℕ) → state_of plan.states fault ≢ Unneeded →
      IsHeldBy plan.states plan.rules plan.notes.waiters faulty fault number → IsHeldBack b g build past number fault
  held_back faulty fault number fault_needed h =
      let i = holder faulty fault number fault_needed h in
      let k = the number (waits_needed g plan number i.waits) in
      let q = the fault fault_needed in
      let new : IsNew past k.rule = subst (λ (o : RuleState). IsAt past k.rule o) i.waits (tied.ties.states number k.rule k.numbered) in
      record {
        rule = k.rule;
        is = k.numbered;
        other = q.rule;
        is_other = q.numbered;
        needs = i.needs k.rule q.rule k.numbered q.numbered;
        untouched = (new.not_began, λ m. new.not_done (settled_done past m));
        well = λ f. new.not_done (faulty_done f);
      }

  -- ---- rules that wait for themselves

  -- a rule that another one waits for, both needed
  record IsWaited (a c : RuleId) : Type 0 where
    needed : state_of plan.states a.0 ≢ Unneeded
    other_needed : state_of plan.states c.0 ≢ Unneeded
    among : is_among c.0 (needed_of plan.rules plan.origins a.0) ≡ true

  unsettled_needed : (o : RuleState) → is_unsettled o ≡ true → o ≢ Unneeded
  unsettled_needed o h e = true_false (sym h ∙ ap is_unsettled e)

  maker_needed : (node : ℕ) (m : RuleId) → origin_of plan.origins node ≡ Made m → state_of plan.states m.0 ≢ Unneeded
  maker_needed node m e = (subst (λ (o : Origin). IsFrom g plan.states node o) e (tied.ties.plan_for.from.each node)).1

  is_waited : (a c : RuleId) → WaitsFor plan.states plan.rules plan.origins a c → IsWaited a c
  is_waited a c w =
      let needed = unsettled_needed (state_of plan.states a.0) w.unsettled in
      let files = w.kept.required ++ w.kept.deps in
      let need = ap (λ o. stands (needs_in o) w.needs.file) w.at ∙ stands_at files w.needs.place w.needs.file w.needs.at in
      record {
        needed = needed;
        other_needed = maker_needed w.needs.file.0 c w.needs.made;
        among = needs_maker a.0 c.0 needed w.needs.file need
            (made_of b g requested build.after past plan tied.graph tied.ties w.needs.file c w.needs.made);
      }

  -- one of them needs another one, by the model
  abbrev Leads : RuleId → RuleId → Type 0
  Leads a c = (r q : Rule) → rule_numbered b g a.0 ≡ Some r → rule_numbered b g c.0 ≡ Some q → NeedsThrough s.rule_of found r q

  one_leads : (a c : RuleId) → IsWaited a c → Leads a c
  one_leads a c w r q is is_other = directly (one_needs a.0 c.0 w.needed w.other_needed r q is is_other w.among)

  leads_on : {r x q : Rule} → NeedsThrough s.rule_of found r x → NeedsThrough s.rule_of found x q → NeedsThrough s.rule_of found r q
  leads_on {x = x} (directly n) more = through x n more
  leads_on (through y n rest) more = through y n (leads_on rest more)

  then_leads : (a d c : RuleId) → state_of plan.states d.0 ≢ Unneeded → Leads a d → Leads d c → Leads a c
  then_leads a d c needed first more r q is is_other =
      let k = the d.0 needed in leads_on (first r k.rule is k.numbered) (more k.rule q k.numbered is_other)

  module _ (cycle : List RuleId) (is : IsCycle plan.states plan.rules plan.origins cycle) where
    next : (n : ℕ) (a c : RuleId) → slice_get cycle n ≡ Some a → slice_get cycle (n + 1) ≡ Some c → IsWaited a c
    next n a c at after = is_waited a c (is.chain.each n a c at after)

    last : (n : ℕ) (a : RuleId) → n + 1 ≡ length cycle → slice_get cycle n ≡ Some a → IsWaited a is.first
    last n a e at = is_waited a is.first (is.back.last n a e at)

    -- each leads to the first, over so many behind it
    to_first : (more n : ℕ) (a : RuleId) → n + 1 + more ≡ length cycle → slice_get cycle n ≡ Some a → Leads a is.first
    to_first zero n a e at = one_leads a is.first (last n a (omega (arith, e)) at)
    to_first (suc more) n a e at =
        let there : n + 1 < length cycle = omega (arith, e) in
        let c = get_or cycle (n + 1) a in
        let after : slice_get cycle (n + 1) ≡ Some c = slice_get-get_or cycle (n + 1) a there in
        let w = next n a c at after in
        then_leads a c is.first w.other_needed (one_leads a c w) (to_first more (n + 1) c (omega (arith, e)) after)

    -- and the first to each behind it
    from_first : (n : ℕ) (c : RuleId) → slice_get cycle (n + 1) ≡ Some c → Leads is.first c
    from_first zero c at = one_leads is.first c (next zero is.first c is.at at)
    from_first (suc n) c at =
        let lt = slice_get_within cycle (suc n + 1) c at in
        let there : n + 1 < length cycle = omega (arith, lt) in
        let a = get_or cycle (n + 1) c in
        let before : slice_get cycle (n + 1) ≡ Some a = slice_get-get_or cycle (n + 1) c there in
        let place : suc n ≡ n + 1 = omega arith in
        let w = next (suc n) a c (ap (slice_get cycle) place ∙ before) at in
        then_leads is.first a c w.needed (from_first n a before) (one_leads a c w)

    last_there : (a : RuleId) × (slice_get cycle (length cycle - 1) ≡ Some a)
    last_there = let some = is.some in (get_or cycle (length cycle - 1) is.first, slice_get-get_or cycle (length cycle - 1) is.first (omega (arith, some)))

    first_needed : state_of plan.states is.first.0 ≢ Unneeded
    first_needed = let some = is.some in (last (length cycle - 1) last_there.0 (omega (arith, some)) last_there.1).other_needed

    leads_itself : (n : ℕ) (a : RuleId) → slice_get cycle n ≡ Some a → Leads a a
    leads_itself zero a at r q is_one is_other =
        let lt = slice_get_within cycle zero a at in
        let same : is.first ≡ a = same_Some is.first a (sym is.at ∙ at) in
        subst (λ (x : RuleId). Leads a x) same (to_first (length cycle - 1) zero a (omega (arith, lt)) at) r q is_one is_other
    leads_itself (suc n) a at r q is_one is_other =
        let lt = slice_get_within cycle (suc n) a at in
        let place : n + 1 ≡ suc n = omega arith in
        let far = to_first (length cycle - (suc n + 1)) (suc n) a (omega (arith, lt)) at in
        then_leads a is.first a first_needed far (from_first n a (ap (slice_get cycle) place ∙ at)) r q is_one is_other

    pub needs_itself : (number : ℕ) → is_among number cycle ≡ true → NeedsItself b g build past plan number
    needs_itself number m =
        let a : RuleId = record { 0 = number } in
        let p = place_in cycle a m in
        let needed = self_needed p.0 a p.1 in
        let k = the number needed in
        record {
          needed = needed;
          rule = k.rule;
          is = k.numbered;
          needs = leads_itself p.0 a p.1 k.rule k.rule k.numbered k.numbered;
        }
      where
        self_by : (n : ℕ) (a : RuleId) → slice_get cycle n ≡ Some a → (more : ℕ) → n + 1 + more ≡ length cycle → state_of plan.states a.0 ≢ Unneeded
        self_by n a at zero e = (last n a (omega (arith, e)) at).needed
        self_by n a at (suc more) e =
            let there : n + 1 < length cycle = omega (arith, e) in
            (next n a (get_or cycle (n + 1) a) at (slice_get-get_or cycle (n + 1) a there)).needed

        self_needed : (n : ℕ) (a : RuleId) → slice_get cycle n ≡ Some a → state_of plan.states a.0 ≢ Unneeded
        self_needed n a at =
            let lt = slice_get_within cycle n a at in self_by n a at (length cycle - (n + 1)) (omega (arith, lt))

  -- where nothing is left to do, what needs a rule at fault is held
  module _ (still : IsStill plan) (count : count_by is_running_state plan.states ≡ 0) (faulty : List RuleId)
      (all : (n : ℕ) (x : Rule) → rule_numbered b g n ≡ Some x → IsFaulty past x → is_among n faulty ≡ true) where
    -- the rule with this number makes what one needs
    record NeedsNumber (number : ℕ) (q : Rule) : Type 0 where
      other : ℕ
      is : rule_numbered b g other ≡ Some q
      needed : state_of plan.states other ≢ Unneeded
      needs : is_among other (needed_of plan.rules plan.origins number) ≡ true

    abbrev IsPlannedHere : Rule → Type 0
    IsPlannedHere r = IsPlanned b g requested build past plan tied r

    node_needs_by : (number : ℕ) (needed : state_of plan.states number ≢ Unneeded) (q : Rule) (node : NodeId) →
        stands ((the number needed).kept.required ++ (the number needed).kept.deps) node ≡ true →
        s.rule_of (path_of g.nodes node) ≡ Some q → (o : Origin) → origin_of plan.origins node.0 ≡ o →
        IsFrom g plan.states node.0 o → is_met_from o ≡ true → NeedsNumber number q
    node_needs_by number needed q node h e Unmet is from met = true_false (sym met)
    node_needs_by number needed q node h e Source is from met =
        none_some (sym (tied.ties.sources number node needed
        (need_at b g requested build.after past plan tied.graph tied.ties number needed node h) is) ∙ e)
    node_needs_by number needed q node h e (Made m) is from met =
        let lt = need_below b g requested build.after past plan tied.graph tied.ties number needed node h in
        record {
          other = m.0;
          is = sym (rule_made b g requested build.after past plan tied.graph tied.ties node m.0 lt from.0) ∙ e;
          needed = from.1;
          needs = needs_maker number m.0 needed node
              (need_at b g requested build.after past plan tied.graph tied.ties number needed node h) from.0;
        }

    node_needs : (number : ℕ) (needed : state_of plan.states number ≢ Unneeded) (q : Rule) (node : NodeId) →
        stands ((the number needed).kept.required ++ (the number needed).kept.deps) node ≡ true →
        s.rule_of (path_of g.nodes node) ≡ Some q → NeedsNumber number q
    node_needs number needed q node h e =
        node_needs_by number needed q node h e (origin_of plan.origins node.0) refl (tied.ties.plan_for.from.each node.0)
        (needed_met b g requested build.after past plan tied.graph tied.ties number needed node h)

    needs_number : (number : ℕ) (needed : state_of plan.states number ≢ Unneeded) (q : Rule) →
        Needs s.rule_of found (the number needed).rule q → NeedsNumber number q
    needs_number number needed q (as_required p m e) =
        let k = the number needed in
        let n = among_map (path_of g.nodes) k.kept.required
        (among_same (sym (ap (paths_of g) k.keeps.required ∙ k.names.required)) m) in
        node_needs number needed q n.0
        (in_required k.kept.required k.kept.deps n.0 (among_stands k.kept.required n.0 n.1))
        (ap s.rule_of (sym n.2) ∙ e)
    needs_number number needed q (as_dependency p reached e) =
        let k = the number needed in
        let lists = lists_now b g requested build past plan tied number needed still.scans in
        let m = among_same lists.deps (reaches_in (found k.rule) s.limit lists.room reached) in
        let n = among_map (path_of g.nodes) k.kept.deps m in
        node_needs number needed q n.0
        (in_needs k.kept.required k.kept.deps n.0 (among_stands k.kept.deps n.0 n.1))
        (ap s.rule_of (sym n.2) ∙ e)

    planned_needs : (r q : Rule) (at : IsPlannedHere r) → Needs s.rule_of found r q → NeedsNumber at.number q
    planned_needs r q at n =
        needs_number at.number at.needed q
        (subst (λ (x : Rule). Needs s.rule_of found x q) (some_same (sym at.is ∙ (the at.number at.needed).numbered)) n)

    module _ (q : Rule) (f : IsFaulty past q) where
      leaves : LeavesAtRest s build past found
      leaves = leaves_at_rest s build past found tied.run (is_at_rest b g requested build past plan tied still count)

      untouched : (r : Rule) → NeedsThrough s.rule_of found r q → IsUntouched past r
      untouched r n = leaves.skipped r (record { other = q; needs = n; faulty = f })

      waiting_by : (r : Rule) (at : IsPlannedHere r) → NeedsThrough s.rule_of found r q →
          is_among at.number faulty ≡ false → (o : RuleState) → state_of plan.states at.number ≡ o → IsAt past r o →
          state_of plan.states at.number ≡ Waiting
      waiting_by r at n out Unneeded e is = absurd (at.needed e)
      waiting_by r at n out Waiting e is = e
      waiting_by r at n out Running e is = absurd (none_runs plan.states at.number count e)
      waiting_by r at n out Settled e is = absurd ((untouched r n).1 is)
      waiting_by r at n out Failed e is = true_false (sym (all at.number r at.is is) ∙ out)
      waiting_by r at n out Lacking e is = true_false (sym (all at.number r at.is is) ∙ out)

      is_waiting_rule : (r : Rule) (at : IsPlannedHere r) → NeedsThrough s.rule_of found r q →
          is_among at.number faulty ≡ false → state_of plan.states at.number ≡ Waiting
      is_waiting_rule r at n out =
          waiting_by r at n out (state_of plan.states at.number) refl (tied.ties.states at.number r at.is)

      unsettled_by : (x : Rule) (number : ℕ) → rule_numbered b g number ≡ Some x → (Among x (settled past) → ⊥) →
          (o : RuleState) → state_of plan.states number ≡ o → IsAt past x o → is_settled_state o ≡ false
      unsettled_by x number is out Unneeded e at = refl
      unsettled_by x number is out Waiting e at = refl
      unsettled_by x number is out Running e at = refl
      unsettled_by x number is out Settled e at = absurd (out at)
      unsettled_by x number is out Failed e at = refl
      unsettled_by x number is out Lacking e at = refl

      unsettled_state : (x : Rule) (number : ℕ) → rule_numbered b g number ≡ Some x → (Among x (settled past) → ⊥) →
          is_settled_state (state_of plan.states number) ≡ false
      unsettled_state x number is out =
          unsettled_by x number is out (state_of plan.states number) refl (tied.ties.states number x is)

      fault_at : (r : Rule) (at : IsPlannedHere r) → NeedsThrough s.rule_of found r q → is_among at.number faulty ≡ false →
          HasFault plan faulty at.number
      fault_at r at (directly n) out =
          let k = planned_needs r q at n in
          record {
            fault = k.other;
            stands = all k.other q k.is f;
            needs = NeedsFault.directly out (is_waiting_rule r at (directly n) out) k.needs
                (unsettled_state q k.other k.is (λ m. faulty_unsettled s build tied.run f m));
          }
      fault_at r at (through x n more) out =
          let k = planned_needs r x at n in
          let waits = is_waiting_rule r at (through x n more) out in
          let ax : IsPlannedHere x = record { number = k.other; needed = k.needed; is = k.is } in
          by k waits (is_among k.other faulty) refl (λ e. fault_at x ax more e)
        where
          by : (k : NeedsNumber at.number x) → state_of plan.states at.number ≡ Waiting → (c : Bool) →
              is_among k.other faulty ≡ c → (is_among k.other faulty ≡ false → HasFault plan faulty k.other) →
              HasFault plan faulty at.number
          by k waits true e next = record {
            fault = k.other;
            stands = e;
            needs = NeedsFault.directly out waits k.needs (unsettled_state x k.other k.is (untouched x more).1);
          }
          by k waits false e next =
              let h = next e in
              record { fault = h.fault; stands = h.stands; needs = NeedsFault.in_turn k.other out waits k.needs h.needs }

      pub has_fault : (number : ℕ) (r : Rule) → rule_numbered b g number ≡ Some r →
          Needed s.rule_of found build.requested r → NeedsThrough s.rule_of found r q → is_among number faulty ≡ false →
          HasFault plan faulty number
      has_fault number r is need n out =
          let at = needed_planned b g requested build past plan tied still.scans r need in
          let same : at.number ≡ number = one_number b g tied.graph at.number number r at.is is in
          subst (HasFault plan faulty) same (fault_at r at n (ap (λ x. is_among x faulty) same ∙ out))
