-- Why a rule that a tied plan doesn't decide about isn't decided, where all that can be scanned was.
use Rattle.std.proofs.Common.{◌≡◌, ◌≢◌, ◌<◌, ℕ, Bool, true, false, ◌||◌, ◌&&◌, List, [], ◌∷◌, ◌++◌, length, Option, Some, None, refl, sym, subst, ap, ◌∙◌, ⊎_elim}
use Rattle.std.specs.Prelude.{nat_eq}
use Rattle.std.specs.List.{list_all}
use Rattle.scons_base.specs.declared.ids.NodeId.{NodeId}
use Rattle.rule_graph.specs.Graphs.{RuleGraph, path_of}
use Rattle.rule_graph.specs.Rules.{rule_of}
use Rattle.task_plan.specs.States.{state_of}
use Rattle.task_plan.specs.Named.{stands}
use Rattle.task_plan.specs.Settled.{origin_of, is_scanned, is_done, is_done_from, is_settled as is_settled_state}
use Rattle.task_plan.specs.Listed.{included}
use Rattle.task_plan.specs.Plans.{Planned, CanDecide}
use Rattle.task_plan.specs.Met.{is_met, is_met_from, IsFrom}
use Rattle.task_plan.specs.Watched.{IsNoneReady, IsHeldUp}
use Rattle.task_plan.specs.Orders.{is_among}
use Rattle.task_plan.specs.declared.files.Origin.{Origin}
use Rattle.task_plan.specs.declared.files.Origin.TheVariants.{Unmet, Source, Made}
use Rattle.task_plan.specs.declared.states.RuleState.{RuleState}
use Rattle.task_plan.specs.declared.states.RuleState.TheVariants.{Unneeded, Waiting, Running, Settled, Failed, Lacking}
use Rattle.task_plan.proofs.RootLemmas.{needs_made, in_makers}
use Rattle.task_plan.proofs.MetNeeds.{all_stands, stands_at}
use Rattle.task_plan.proofs.NextLemmas.{place_of_stands}
use Rattle.task_plan.proofs.WalkLemmas.{included_none}
use Rattle.build_model.specs.Rules.{Path, Rule, Among}
use Rattle.build_model.specs.Needs.{Found, Needs, as_required, as_dependency, Needed, is_requested, is_needed}
use Rattle.build_model.specs.Steps.{Step, Build, settled, IsReady, is_source, is_made}
use Rattle.build_model.specs.Resting.{whole_found}
use Rattle.build_model.specs.OneJob.{IsPassed, is_settled, is_running, is_faulty, waits}
use Rattle.build_model.proofs.Lists.{true_false, none_some, some_same, among_same}
use Rattle.build_model.proofs.Resting.{faulty_unsettled}
use Rattle.build_model.proofs.Runs.{settled_done}
use Rattle.build_model.proofs.Whole.{reaches_in}
use Rattle.build_means.specs.Rules.{paths_of}
use Rattle.build_means.specs.Grown.{Begun, begun_setting, rule_numbered}
use Rattle.build_means.proofs.Lists.{or_second, among_map}
use Rattle.plan_means.specs.Lists.{AreReach}
use Rattle.plan_means.specs.Ties.{IsAt, IsDecidedState}
use Rattle.plan_means.specs.Deciding.{IsTied}
use Rattle.plan_means.proofs.Names.{stands_all}
use Rattle.plan_means.proofs.Reaching.{lists_are_reach}
use Rattle.plan_means.proofs.Knowing.{Knows, rule_made, among_stands, one_below, in_needs, in_required, needed_met, need_below, need_at}
use Rattle.plan_means.proofs.Needing.{made_of, needs_of}
use Rattle.plan_means.proofs.Deciding.{know, found_whole, whole_agrees, room}

-- one that fails a test that not all pass
record Fails (test : NodeId → Bool) (nodes : List NodeId) : Type 0 where
  node : NodeId
  among : stands nodes node ≡ true
  fails : test node ≡ false

fails_by : (test : NodeId → Bool) (x : NodeId) (nodes : List NodeId) (c : Bool) → test x ≡ c →
    (c && list_all test nodes) ≡ false →
    (list_all test nodes ≡ false → Fails test nodes) → Fails test (x ∷ nodes)
fails_by test x nodes false e h next = record { node = x; among = stands_at (x ∷ nodes) 0 x refl; fails = e }
fails_by test x nodes true e h next =
    let f =
    next h in record {
      node = f.node;
      among = later (nat_eq f.node.0 x.0) (stands nodes f.node) f.among;
      fails =
          f.fails;
    }
  where
    later : (a c : Bool) → c ≡ true → (a || c) ≡ true
    later true c e = refl
    later false c e = e

one_fails : (test : NodeId → Bool) (nodes : List NodeId) → list_all test nodes ≡ false → Fails test nodes
one_fails test [] h = true_false h
one_fails test (x ∷ nodes) h = fails_by test x nodes (test x) refl h (one_fails test nodes)

module _ (b : Begun) (g : RuleGraph) (requested : List NodeId) (build : Build) (past : List Step) (plan : Planned)
    (tied : IsTied b g requested build past plan) where
  abbrev pub found : Found
  found = whole_found (begun_setting b) build past

  abbrev pub the : (number : ℕ) → state_of plan.states number ≢ Unneeded → Knows b g plan number
  the number needed = know b g requested build past plan tied number needed

  -- what isn't settled by its state isn't by the steps
  unsettled_by : (r : Rule) (o : RuleState) → IsAt past r o → is_settled_state o ≡ false → Among r (settled past) → ⊥
  unsettled_by r Unneeded at e m = at.not_done (settled_done past m)
  unsettled_by r Waiting at e m = at.not_done (settled_done past m)
  unsettled_by r Running at e m = at.not_done (settled_done past m)
  unsettled_by r Settled at e m = true_false e
  unsettled_by r Failed at e m = faulty_unsettled (begun_setting b) build tied.run at m
  unsettled_by r Lacking at e m = faulty_unsettled (begun_setting b) build tied.run at m

  pub unsettled : (number : ℕ) (r : Rule) → rule_numbered b g number ≡ Some r →
      is_settled_state (state_of plan.states number) ≡ false → Among r (settled past) → ⊥
  unsettled number r is e = unsettled_by r (state_of plan.states number) (tied.ties.states number r is) e

  -- the rule that makes a file that isn't done
  pub record IsMadeLater (node : NodeId) : Type 0 where
    pub number : ℕ
    pub needed : state_of plan.states number ≢ Unneeded
    pub origin : origin_of plan.origins node.0 ≡ Made (record { 0 = number })
    pub unsettled_state : is_settled_state (state_of plan.states number) ≡ false

  made_later_by : (node : NodeId) (o : Origin) → origin_of plan.origins node.0 ≡ o → IsFrom g plan.states node.0 o →
      is_met_from o ≡ true →
      is_done_from plan.states o ≡ false → IsMadeLater node
  made_later_by node Unmet e from met undone = true_false (sym met)
  made_later_by node Source e from met undone = true_false undone
  made_later_by node (Made m) e from met undone =
      record { number = m.0; needed = from.1; origin = e; unsettled_state = undone }

  pub made_later : (node : NodeId) → is_met plan.origins node ≡ true →
      is_done plan.states plan.origins node ≡ false → IsMadeLater node
  made_later node met undone = made_later_by node (origin_of plan.origins node.0) refl
      (tied.ties.plan_for.from.each node.0) met undone

  -- so the file waits
  waits_by : (node : NodeId) → node.0 < length g.nodes → IsMadeLater node →
      IsReady (begun_setting b) build.after (settled past) (path_of g.nodes node) → ⊥
  waits_by node lt later ready =
      let k = the later.number later.needed in
      let rule = rule_made b g requested build.after past plan tied.graph tied.ties node later.number lt
      (made_of b g requested build.after past plan tied.graph tied.ties node (record { 0 = later.number })
      later.origin) ∙ k.numbered in
      by k.rule rule (unsettled later.number k.rule k.numbered later.unsettled_state) ready
    where
      by : (r : Rule) → (begun_setting b).rule_of (path_of g.nodes node) ≡ Some r → (Among r (settled past) → ⊥) →
          IsReady (begun_setting b) build.after (settled past) (path_of g.nodes node) → ⊥
      by r e out (is_source bytes none file) = none_some (sym none ∙ e)
      by r e out (is_made x is m) = out (subst (λ (y : Rule). Among y (settled past)) (some_same (sym is ∙ e)) m)

  module _ (number : ℕ) (needed : state_of plan.states number ≢ Unneeded) where
    abbrev pub k : Knows b g plan number
    k = the number needed

    files_in_deps : (n : NodeId) → stands k.kept.files n ≡ true → stands k.kept.deps n ≡ true
    files_in_deps n h =
        ap (λ (l : List NodeId). stands l n) k.keeps.follows.deps ∙ stands_all k.kept.named k.kept.files n
        ∙ or_second (stands k.kept.named n) (stands k.kept.files n) h

    need_met : (n : NodeId) → stands (k.kept.required ++ k.kept.deps) n ≡ true → is_met plan.origins n ≡ true
    need_met n h = needed_met b g requested build.after past plan tied.graph tied.ties number needed n h

    need_under : (n : NodeId) → stands (k.kept.required ++ k.kept.deps) n ≡ true → n.0 < length g.nodes
    need_under n h = need_below b g requested build.after past plan tied.graph tied.ties number needed n h

    -- why the rule waits: it needs one that isn't settled
    pub record IsHeldBack : Type 0 where
      pub other : Rule
      pub needs : Needs (begun_setting b).rule_of found k.rule other
      pub unsettled : Among other (settled past) → ⊥

    -- a file that is required or depended on and isn't done holds the rule up
    held_back : (n : NodeId) → stands (k.kept.required ++ k.kept.deps) n ≡ true →
        is_done plan.states plan.origins n ≡ false → IsHeldBack
    held_back n h undone =
        let later = made_later n (need_met n h) undone in
        let other = the later.number later.needed in
        record {
          other = other.rule;
          needs =
              needs_of b g requested build.after past plan tied.graph tied.ties found
              (whole_agrees b g requested build past plan tied) later.number number later.needed needed
              (needs_made g plan number later.number k.kept n tied.ties.plan_for.from tied.ties.plan_for.met needed
              k.at h
              (made_of b g requested build.after past plan tied.graph tied.ties n (record { 0 = later.number })
              later.origin));
          unsettled = unsettled later.number other.rule other.numbered later.unsettled_state;
        }

    held_by : (n : NodeId) → stands (k.kept.required ++ k.kept.deps) n ≡ true →
        is_done plan.states plan.origins n ≡ false →
        IsPassed (begun_setting b) past found k.rule
    held_by n h undone = let back = held_back n h undone in waits back.other back.needs back.unsettled

    pub held_at : IsHeldUp plan k.kept → IsHeldBack
    held_at h = held_back h.file (stands_at (k.kept.required ++ k.kept.deps) h.place h.file h.at) h.undone

    pub held_up : IsHeldUp plan k.kept → IsPassed (begun_setting b) past found k.rule
    held_up h = held_by h.file (stands_at (k.kept.required ++ k.kept.deps) h.place h.file h.at) h.undone

    module _ (none : IsNoneReady plan) where
      unscanned_undone : state_of plan.states number ≡ Waiting → (n : NodeId) → stands k.kept.files n ≡ true →
          is_scanned k.kept.found n ≡ false →
          (c : Bool) → is_done plan.states plan.origins n ≡ c → c ≡ false
      unscanned_undone state n h new false e = refl
      unscanned_undone state n h new true e =
          let p = place_of_stands k.kept.files n h in absurd
          (none.none number k.kept p.0 n state k.at p.1 (record { unscanned = new; done = e }))

      all_scanned : IsDecidedState (state_of plan.states number) → (n : NodeId) → stands k.kept.files n ≡ true →
          is_scanned k.kept.found n ≡ true
      all_scanned decided n h =
          all_stands (λ x. is_scanned k.kept.found x) k.kept.files n (tied.ties.scanned number k.kept decided k.at) h

      waits_now : state_of plan.states number ≡ Waiting → (n : NodeId) → stands k.kept.files n ≡ true →
          is_scanned k.kept.found n ≡ false →
          IsReady (begun_setting b) build.after (settled past) (path_of g.nodes n) → ⊥
      waits_now state n h new ready =
          let need = in_needs k.kept.required k.kept.deps n (files_in_deps n h) in
          let undone = unscanned_undone state n h new (is_done plan.states plan.origins n) refl in
          waits_by n (need_under n need) (made_later n (need_met n need) undone) ready

      unscanned_waits_by : (o : RuleState) → state_of plan.states number ≡ o → (n : NodeId) →
          stands k.kept.files n ≡ true → is_scanned k.kept.found n ≡ false →
          IsReady (begun_setting b) build.after (settled past) (path_of g.nodes n) → ⊥
      unscanned_waits_by Unneeded e n h new ready = needed e
      unscanned_waits_by Waiting e n h new ready = waits_now e n h new ready
      unscanned_waits_by Running e n h new ready = true_false
          (sym (all_scanned (subst IsDecidedState (sym e) tt) n h) ∙ new)
      unscanned_waits_by Settled e n h new ready = true_false
          (sym (all_scanned (subst IsDecidedState (sym e) tt) n h) ∙ new)
      unscanned_waits_by Failed e n h new ready = true_false
          (sym (all_scanned (subst IsDecidedState (sym e) tt) n h) ∙ new)
      unscanned_waits_by Lacking e n h new ready = true_false
          (sym (all_scanned (subst IsDecidedState (sym e) tt) n h) ∙ new)

      includes_by : (n : NodeId) → stands k.kept.files n ≡ true → (c : Bool) → is_scanned k.kept.found n ≡ c →
          found k.rule (path_of g.nodes n) ≡ paths_of g (included k.kept.found n)
      includes_by n h true e = whole_agrees b g requested build past plan tied number needed n e
      includes_by n h false e =
          ⊎_elim (λ r. absurd (unscanned_waits_by (state_of plan.states number) refl n h e r.0))
          (λ r. r.1 ∙ ap (paths_of g) (sym (included_none k.kept.found n e)))
          (found_whole b g requested build past plan tied k.rule (path_of g.nodes n))

      -- by what is found where all is scanned that can be the plan's lists are the model's
      pub lists_now : AreReach g (begun_setting b).limit k.kept (found k.rule) k.rule
      lists_now =
          lists_are_reach g k.of k.rule k.kept (begun_setting b).limit (found k.rule) tied.graph.reading k.is k.names
          k.keeps
          (λ n h. includes_by n h (is_scanned k.kept.found n) refl) (room b g requested build past plan tied)

      passed_by : (o : RuleState) → state_of plan.states number ≡ o →
          (state_of plan.states number ≡ Waiting → IsPassed (begun_setting b) past found k.rule) →
          IsAt past k.rule o → IsPassed (begun_setting b) past found k.rule
      passed_by Unneeded e wait at = absurd (needed e)
      passed_by Waiting e wait at = wait e
      passed_by Running e wait at = is_running at
      passed_by Settled e wait at = is_settled at
      passed_by Failed e wait at = is_faulty at
      passed_by Lacking e wait at = is_faulty at

      -- a needed rule is passed over where it is so if it waits
      pub passed : (state_of plan.states number ≡ Waiting → IsPassed (begun_setting b) past found k.rule) →
          IsPassed (begun_setting b) past found k.rule
      passed wait = passed_by (state_of plan.states number) refl wait (tied.ties.states number k.rule k.numbered)

      scan_stuck : state_of plan.states number ≡ Waiting → Fails (λ n. is_scanned k.kept.found n) k.kept.files →
          list_all (λ n. is_done plan.states plan.origins n) k.kept.deps ≡ true →
          IsPassed (begun_setting b) past found k.rule
      scan_stuck state f deps =
          let dep = files_in_deps f.node f.among in
          let is = all_stands (λ n. is_done plan.states plan.origins n) k.kept.deps f.node deps dep in
          true_false (sym is
          ∙ unscanned_undone state f.node f.among f.fails (is_done plan.states plan.origins f.node) refl)

      stuck_by : state_of plan.states number ≡ Waiting → (CanDecide plan number → ⊥) → (r d f : Bool) →
          list_all (λ n. is_done plan.states plan.origins n) k.kept.required ≡ r →
          list_all (λ n. is_done plan.states plan.origins n) k.kept.deps ≡ d →
          list_all (λ n. is_scanned k.kept.found n) k.kept.files ≡ f → IsPassed (begun_setting b) past found k.rule
      stuck_by state cannot false d f re de fe =
          let x = one_fails (λ n. is_done plan.states plan.origins n) k.kept.required re in
          held_by x.node (in_required k.kept.required k.kept.deps x.node x.among) x.fails
      stuck_by state cannot true false f re de fe =
          let x = one_fails (λ n. is_done plan.states plan.origins n) k.kept.deps de in
          held_by x.node (in_needs k.kept.required k.kept.deps x.node x.among) x.fails
      stuck_by state cannot true true false re de fe = scan_stuck state
          (one_fails (λ n. is_scanned k.kept.found n) k.kept.files fe) de
      stuck_by state cannot true true true re de fe =
          absurd (cannot
          (record
          { kept = k.kept; at = k.at; waits = state; ready = record { required = re; deps = de; scanned = fe } }))

      -- a rule that can't be decided is passed over
      pub passed_cannot : (CanDecide plan number → ⊥) → IsPassed (begun_setting b) past found k.rule
      passed_cannot cannot =
          passed (λ state. stuck_by state cannot (list_all (λ n. is_done plan.states plan.origins n) k.kept.required)
          (list_all (λ n. is_done plan.states plan.origins n) k.kept.deps)
          (list_all (λ n. is_scanned k.kept.found n) k.kept.files) refl refl refl)

  -- a rule of the model that the plan needs
  pub record IsPlanned (r : Rule) : Type 0 where
    pub number : ℕ
    pub needed : state_of plan.states number ≢ Unneeded
    pub is : rule_numbered b g number ≡ Some r

  made_planned : (node : NodeId) (m : ℕ) (r : Rule) → node.0 < length g.nodes → rule_of g.rules node.0 ≡ Some m →
      state_of plan.states m ≢ Unneeded →
      (begun_setting b).rule_of (path_of g.nodes node) ≡ Some r → IsPlanned r
  made_planned node m r lt of needed is = record {
    number = m;
    needed = needed;
    is = sym (rule_made b g requested build.after past plan tied.graph tied.ties node m lt of) ∙ is;
  }

  need_planned_by : (number : ℕ) (needed : state_of plan.states number ≢ Unneeded) (node : NodeId) (o : Origin)
      (r : Rule) →
      stands ((the number needed).kept.required ++ (the number needed).kept.deps) node ≡ true →
      origin_of plan.origins node.0 ≡ o → IsFrom g plan.states node.0 o →
      is_met_from o ≡ true → (begun_setting b).rule_of (path_of g.nodes node) ≡ Some r → IsPlanned r
  need_planned_by number needed node Unmet r h e from met is = true_false (sym met)
  need_planned_by number needed node Source r h e from met is =
      none_some (sym
      (tied.ties.sources number node needed
      (need_at b g requested build.after past plan tied.graph tied.ties number needed node h) e) ∙ is)
  need_planned_by number needed node (Made m) r h e from met is = made_planned node m.0 r
      (need_under number needed node h) from.0 from.1 is

  -- the rule of a file that a needed rule needs
  need_planned : (number : ℕ) (needed : state_of plan.states number ≢ Unneeded) (n : NodeId) (r : Rule) →
      stands ((the number needed).kept.required ++ (the number needed).kept.deps) n ≡ true →
      (begun_setting b).rule_of (path_of g.nodes n) ≡ Some r → IsPlanned r
  need_planned number needed n r h is =
      need_planned_by number needed n (origin_of plan.origins n.0) r h refl (tied.ties.plan_for.from.each n.0)
      (need_met number needed n h) is

  -- and of a requested file
  asked_planned_by : (node : NodeId) (o : Option ℕ) (r : Rule) → stands requested node ≡ true →
      rule_of g.rules node.0 ≡ o →
      (begun_setting b).rule_of (path_of g.nodes node) ≡ Some r → IsPlanned r
  asked_planned_by node None r h e is = none_some (sym (tied.ties.asked node h e) ∙ is)
  asked_planned_by node (Some m) r h e is =
      made_planned node m r (one_below g requested node tied.ties.plan_for.nodes h) e
      (tied.ties.plan_for.order.roots m
      (ap (is_among m) tied.ties.plan_for.roots ∙ in_makers g requested node m h e)) is

  module _ (none : IsNoneReady plan) where
    needs_planned : (number : ℕ) (needed : state_of plan.states number ≢ Unneeded) (r : Rule) →
        Needs (begun_setting b).rule_of found (the number needed).rule r → IsPlanned r
    needs_planned number needed r (as_required p m e) =
        let know_it = the number needed in
        let n = among_map (path_of g.nodes) know_it.kept.required
        (among_same (sym (ap (paths_of g) know_it.keeps.required ∙ know_it.names.required)) m) in
        need_planned number needed n.0 r
        (in_required know_it.kept.required know_it.kept.deps n.0 (among_stands know_it.kept.required n.0 n.1))
        (ap (begun_setting b).rule_of (sym n.2) ∙ e)
    needs_planned number needed r (as_dependency p reached e) =
        let know_it = the number needed in
        let lists = lists_now number needed none in
        let m = among_same lists.deps (reaches_in (found know_it.rule) (begun_setting b).limit lists.room reached) in
        let n = among_map (path_of g.nodes) know_it.kept.deps m in
        need_planned number needed n.0 r
        (in_needs know_it.kept.required know_it.kept.deps n.0 (among_stands know_it.kept.deps n.0 n.1))
        (ap (begun_setting b).rule_of (sym n.2) ∙ e)

    requested_planned : (p : Path) (r : Rule) → Among p build.requested → (begun_setting b).rule_of p ≡ Some r →
        IsPlanned r
    requested_planned p r m e =
        let n = among_map (path_of g.nodes) requested (among_same tied.asked m) in
        let h = among_stands requested n.0 n.1 in
        asked_planned_by n.0 (rule_of g.rules n.0.0) r h refl (ap (begun_setting b).rule_of (sym n.2) ∙ e)

    planned_needs : (q r : Rule) → IsPlanned q → Needs (begun_setting b).rule_of found q r → IsPlanned r
    planned_needs q r at needs =
        let same : (the at.number at.needed).rule ≡ q = some_same (sym (the at.number at.needed).numbered ∙ at.is) in
        needs_planned at.number at.needed r (subst (λ (x : Rule). Needs (begun_setting b).rule_of found x r)
        (sym same) needs)

    -- each rule that is needed the plan needs
    pub needed_planned : (r : Rule) → Needed (begun_setting b).rule_of found build.requested r → IsPlanned r
    needed_planned r (is_requested p m e) = requested_planned p r m e
    needed_planned r (is_needed q h needs) = planned_needs q r (needed_planned q h) needs
