-- A plan as it is loaded is tied to a build without steps.
use Rattle.std.proofs.Common.{◌≡◌, ◌≢◌, ℕ, true, false, List, [], ◌++◌, length, Some, None, refl, sym, subst, ap, ◌∙◌, inl, inr, ◌⊎◌, ⊎_elim}
use Rattle.std.specs.Prelude.{slice_get}
use Rattle.scons_base.specs.declared.ids.NodeId.{NodeId}
use Rattle.rule_graph.specs.Graphs.{RuleGraph, path_of}
use Rattle.rule_graph.specs.Rules.{are_below}
use Rattle.task_plan.specs.States.{state_of}
use Rattle.task_plan.specs.Named.{stands, named_of}
use Rattle.task_plan.specs.Settled.{Kept, first_kept, origin_of, is_scanned}
use Rattle.task_plan.specs.Listed.{included}
use Rattle.task_plan.specs.Plans.{Planned}
use Rattle.task_plan.specs.Met.{IsFrom, IsAskedFor, needs_in, needs_at}
use Rattle.task_plan.specs.Orders.{is_among, makers_of, needed_in, needed_of, IsReached, is_root, is_needed}
use Rattle.task_plan.specs.declared.files.Origin.{Origin}
use Rattle.task_plan.specs.declared.files.Origin.TheVariants.{Source}
use Rattle.task_plan.specs.declared.states.RuleState.{RuleState}
use Rattle.task_plan.specs.declared.states.RuleState.TheVariants.{Unneeded, Waiting}
use Rattle.task_plan.proofs.EnterLemmas.{maker_made}
use Rattle.task_plan.proofs.MetNeeds.{stands_at}
use Rattle.task_plan.proofs.RestLemmas.{place_in}
use Rattle.build_model.specs.Rules.{Tree, Rule}
use Rattle.build_model.specs.Graphs.{rule_at}
use Rattle.build_model.proofs.Lists.{true_false, some_same}
use Rattle.build_means.specs.Grown.{Begun, begun_graph}
use Rattle.plan_means.specs.Planning.{IsGraphNow}
use Rattle.plan_means.specs.Ties.{IsNew, IsAt, IsDecidedState, Ties}
use Rattle.plan_means.specs.Beginning.{AreLookedFor, IsLoaded}
use Rattle.plan_means.proofs.Needing.{maker_in}

module _ (b : Begun) (g : RuleGraph) (requested : List NodeId) (t : Tree) (plan : Planned) (now : IsGraphNow b g)
    (below : are_below (length g.nodes) requested ≡ true) (looked : AreLookedFor b g requested)
    (loaded : IsLoaded g requested plan) where
  kept_first : (number : ℕ) (kept : Kept) (needed : state_of plan.states number ≢ Unneeded) →
      slice_get plan.rules number ≡ Some kept →
      kept ≡ first_kept g (loaded.knows number needed).of
  kept_first number kept needed at = some_same (sym at ∙ (loaded.knows number needed).is)

  nothing_scanned : (number : ℕ) (kept : Kept) (needed : state_of plan.states number ≢ Unneeded) →
      slice_get plan.rules number ≡ Some kept → (file : NodeId) →
      is_scanned kept.found file ≡ false
  nothing_scanned number kept needed at file = ap (λ (k : Kept). is_scanned k.found file)
      (kept_first number kept needed at)

  nothing_found : (number : ℕ) (kept : Kept) (needed : state_of plan.states number ≢ Unneeded) →
      slice_get plan.rules number ≡ Some kept → (file : NodeId) →
      are_below (length g.nodes) (included kept.found file) ≡ true
  nothing_found number kept needed at file = ap (λ (k : Kept). are_below (length g.nodes) (included k.found file))
      (kept_first number kept needed at)

  waits_or : (number : ℕ) (o : RuleState) → state_of plan.states number ≡ o → (o ≡ Unneeded) ⊎ (o ≡ Waiting)
  waits_or number o e = ⊎_elim (λ same. inl (sym e ∙ same)) (λ h. inr (sym e ∙ h.1)) (loaded.states.at number)

  none_decided : (o : RuleState) → (o ≡ Unneeded) ⊎ (o ≡ Waiting) → IsDecidedState o → ⊥
  none_decided o (inl e) h = subst IsDecidedState e h
  none_decided o (inr e) h = subst IsDecidedState e h

  all_new : (r : Rule) → IsNew [] r
  all_new r = record { not_began = λ m. elim m [ ]; not_done = λ m. elim m [ ] }

  at_first : (r : Rule) (o : RuleState) → (o ≡ Unneeded) ⊎ (o ≡ Waiting) → IsAt [] r o
  at_first r o (inl e) = subst (λ (x : RuleState). IsAt [] r x) (sym e) (all_new r)
  at_first r o (inr e) = subst (λ (x : RuleState). IsAt [] r x) (sym e) (all_new r)

  needs_first : (number : ℕ) (needed : state_of plan.states number ≢ Unneeded) (n : NodeId) →
      stands (needs_at plan.rules number) n ≡ true →
      stands ((loaded.knows number needed).of.required ++ named_of (loaded.knows number needed).of) n ≡ true
  needs_first number needed n h = ap (λ o. stands (needs_in o) n) (sym (loaded.knows number needed).is) ∙ h

  asked_next : (number other : ℕ) → state_of plan.states other ≢ Unneeded → IsAskedFor g requested other →
      is_among number (needed_of plan.rules plan.origins other) ≡ true →
      IsAskedFor g requested number
  asked_next number other needed is_asked h =
      let first = loaded.knows other needed in
      let files = first.of.required ++ named_of first.of in
      let among : is_among number (makers_of plan.origins files) ≡ true = ap
      (λ o. is_among number (needed_in plan.origins o)) (sym first.is) ∙ h in
      let place = place_in (makers_of plan.origins files) (record { 0 = number }) among in
      let made = maker_made plan.origins files place.0 (record { 0 = number }) place.1 in
      let of =
      (subst (λ (o : Origin). IsFrom g plan.states made.file.0 o) made.made (loaded.from.each made.file.0)).0 in
      IsAskedFor.needs first.of made.file is_asked first.at (stands_at files made.place made.file made.at) of

  -- what the plan needs is asked for
  reached_asked : {number : ℕ} → IsReached (needed_of plan.rules plan.origins) plan.notes.roots number →
      IsAskedFor g requested number
  reached_asked {number} (is_root h) =
      let of = maker_in g requested number (ap (is_among number) (sym loaded.roots) ∙ h) in IsAskedFor.asked of.node
      of.among of.made
  reached_asked {number} (is_needed other reached h) = asked_next number other (loaded.only.only other reached)
      (reached_asked reached) h

  sources_first : (number : ℕ) (n : NodeId) → state_of plan.states number ≢ Unneeded →
      stands (needs_at plan.rules number) n ≡ true → origin_of plan.origins n.0 ≡ Source →
      rule_at (begun_graph b) b.tree (path_of g.nodes n) ≡ None
  sources_first number n needed need e =
      let first = loaded.knows number needed in
      looked.named number first.of n (reached_asked (loaded.only.each number needed)) first.at
      (needs_first number needed n need)
      (subst (λ (o : Origin). IsFrom g plan.states n.0 o) e (loaded.from.each n.0))

  pub is_tied : Ties b g requested t [] plan
  is_tied = record {
    plan_for = record {
      fits = loaded.fits;
      follow = loaded.follow;
      from = loaded.from;
      met = loaded.met;
      reached = loaded.only;
      sought = loaded.sought;
      complete = loaded.complete;
      order = loaded.order;
      roots = loaded.roots;
      nodes = below;
    };
    sees = record {
      each = λ number kept r needed at numbered file h. true_false (sym h ∙ nothing_scanned number kept needed at file);
      files = λ number kept needed at file h. true_false (sym h ∙ nothing_scanned number kept needed at file);
      nodes = λ number kept needed at file. nothing_found number kept needed at file;
    };
    scanned =
        λ number kept decided at. absurd (none_decided (state_of plan.states number)
        (waits_or number (state_of plan.states number) refl) decided);
    sources = sources_first;
    asked = looked.these;
    states = λ number r numbered. at_first r (state_of plan.states number)
        (waits_or number (state_of plan.states number) refl);
    numbered = λ r m. absurd (⊎_elim (λ h. elim h [ ]) (λ h. elim h [ ]) m);
  }
