-- What a tied plan decides about may be decided.
use Rattle.std.proofs.Common.{◌≡◌, ◌≢◌, ◌<◌, ℕ, true, false, List, [], ◌∷◌, length, Some, sym, subst, ap, ◌∙◌, inl, inr, ◌⊎◌, ⊎_elim, arith}
use Rattle.scons_base.specs.declared.ids.NodeId.{NodeId}
use Rattle.rule_graph.specs.Graphs.{RuleGraph, path_of}
use Rattle.task_plan.specs.States.{state_of}
use Rattle.task_plan.specs.Settled.{Kept, is_scanned, is_done, deps_in, deps_of, IsReady as IsThrough}
use Rattle.task_plan.specs.Listed.{included}
use Rattle.task_plan.specs.Plans.{Planned, CanDecide}
use Rattle.task_plan.specs.declared.states.RuleState.{RuleState}
use Rattle.task_plan.specs.declared.states.RuleState.TheVariants.{Unneeded}
use Rattle.task_plan.proofs.AdmitLemmas.{waits_needed}
use Rattle.task_plan.proofs.MetNeeds.{all_stands}
use Rattle.build_model.specs.Rules.{Path, Rule, Setting, Among, there}
use Rattle.build_model.specs.Needs.{Needed}
use Rattle.build_model.specs.Contents.{in_tree, found_in, includes_of, IsLawful}
use Rattle.build_model.specs.Steps.{Step, Build, settled, IsReady, is_source, is_made, IsMissing, IsFound, IsWanted, IsDecided, IsLacking, present_dependencies}
use Rattle.build_model.specs.Resting.{IsFoundWhole, whole_found}
use Rattle.build_model.proofs.Lists.{none_some, some_same, among_same, among_left, among_right}
use Rattle.build_model.proofs.Placed.{lawful}
use Rattle.build_model.proofs.Scanning.{all_is_found}
use Rattle.build_means.specs.Rules.{paths_of}
use Rattle.build_means.specs.Grown.{Begun, begun_graph, begun_setting}
use Rattle.build_means.specs.Present.{IsFirstAbsent}
use Rattle.build_means.proofs.Readings.{is_graph}
use Rattle.build_means.proofs.Lists.{among_map}
use Rattle.plan_means.specs.Lists.{Includes, AreReach}
use Rattle.plan_means.specs.Ties.{IsNew, IsAt}
use Rattle.plan_means.specs.Deciding.{IsTied, MayBeDecided}
use Rattle.plan_means.proofs.Reaching.{lists_are_reach}
use Rattle.plan_means.proofs.Knowing.{Knows, knows, among_stands, in_needs, in_required, done_ready}
use Rattle.plan_means.proofs.Needing.{plan_needed}

module _ (b : Begun) (g : RuleGraph) (requested : List NodeId) (build : Build) (past : List Step) (plan : Planned)
    (tied : IsTied b g requested build past plan) where
  abbrev pub s : Setting
  s = begun_setting b

  pub is_lawful : IsLawful s
  is_lawful = lawful (begun_graph b) b.tree (is_graph b.graph tied.graph.read b.law b.hash b.tree)

  pub found_whole : IsFoundWhole s build past (whole_found s build past)
  found_whole = all_is_found s build past is_lawful tied.run

  abbrev pub know : (number : ℕ) → state_of plan.states number ≢ Unneeded → Knows b g plan number
  know number needed = knows b g requested build.after past plan tied.graph tied.ties number needed

  missing_nothing : (r : Rule) (p : Path) → IsMissing s build.after p → found_in s (in_tree build.after) r p ≡ []
  missing_nothing r p missing = ap (λ c. includes_of (s.includes r p) (Some c)) missing.no_file

  whole_seen : (r : Rule) (p : Path) → IsReady s build.after (settled past) p ⊎ IsMissing s build.after p →
      whole_found s build past r p ≡ found_in s (in_tree build.after) r p
  whole_seen r p (inl ready) = ⊎_elim (λ h. h.1) (λ h. absurd (h.0 ready)) (found_whole r p)
  whole_seen r p (inr missing) = ⊎_elim (λ h. h.1) (λ h. h.1 ∙ sym (missing_nothing r p missing)) (found_whole r p)

  -- what was found in a scanned file is what is found
  pub whole_agrees : (number : ℕ) (needed : state_of plan.states number ≢ Unneeded) (file : NodeId) →
      is_scanned (know number needed).kept.found file ≡ true →
      whole_found s build past (know number needed).rule (path_of g.nodes file) ≡ paths_of g
      (included (know number needed).kept.found file)
  whole_agrees number needed file h =
      let k = know number needed in
      let seen = tied.ties.sees.each number k.kept k.rule needed k.at k.numbered file h in
      whole_seen k.rule (path_of g.nodes file) seen.ready ∙ seen.includes

  whole_part : IsFound s build.after (settled past) (whole_found s build past)
  whole_part r p = ⊎_elim (λ h. inr h) (λ h. inl h.1) (found_whole r p)

  -- a rule that the plan needs is wanted
  pub is_wanted : (number : ℕ) (needed : state_of plan.states number ≢ Unneeded) →
      IsWanted s build (settled past) (know number needed).rule
  is_wanted number needed = record {
    found = whole_found s build past;
    is_found = whole_part;
    is_needed =
        subst (λ l. Needed s.rule_of (whole_found s build past) l (know number needed).rule) (sym tied.asked)
        (plan_needed b g requested build.after past plan tied.graph tied.ties (whole_found s build past) whole_agrees
        number needed);
  }

  pub room : length g.nodes < s.limit
  room = let le = tied.graph.room in omega (arith, le)

  module _ (number : ℕ) (can : CanDecide plan number) (goes : plan.halted ≡ false) where
    abbrev pub needed : state_of plan.states number ≢ Unneeded
    needed = waits_needed g plan number can.waits

    abbrev pub k : Knows b g plan number
    k = know number needed

    through : IsThrough plan.states plan.origins k.kept
    through = subst (λ (x : Kept). IsThrough plan.states plan.origins x) (some_same (sym can.at ∙ k.at)) can.ready

    in_tree_agrees : Includes g k.kept (found_in s (in_tree build.after) k.rule)
    in_tree_agrees file h =
        (tied.ties.sees.each number k.kept k.rule needed k.at k.numbered file
        (all_stands (λ n. is_scanned k.kept.found n) k.kept.files file through.scanned h)).includes

    lists : AreReach g s.limit k.kept (found_in s (in_tree build.after) k.rule) k.rule
    lists =
        lists_are_reach g k.of k.rule k.kept s.limit (found_in s (in_tree build.after) k.rule) tied.graph.reading
        k.is k.names k.keeps in_tree_agrees room

    deps_are : paths_of g (deps_of plan.rules number) ≡ paths_of g k.kept.deps
    deps_are = ap (λ o. paths_of g (deps_in o)) k.at

    present_are : present_dependencies s build k.rule ≡ paths_of g (deps_of plan.rules number)
    present_are = lists.deps ∙ sym deps_are

    each_done : (p : Path) → Among p (paths_of g (deps_of plan.rules number)) →
        IsReady s build.after (settled past) p ⊎ IsMissing s build.after p
    each_done p m =
        let n = among_map (path_of g.nodes) k.kept.deps (among_same deps_are m) in
        let h = among_stands k.kept.deps n.0 n.1 in
        subst (λ q. IsReady s build.after (settled past) q ⊎ IsMissing s build.after q) (sym n.2)
        (done_ready b g requested build.after past plan tied.graph tied.ties number needed n.0
        (in_needs k.kept.required k.kept.deps n.0 h)
        (all_stands (λ x. is_done plan.states plan.origins x) k.kept.deps n.0 through.deps h))

    ready_rule : (p : Path) (q : Rule) → s.rule_of p ≡ Some q →
        IsReady s build.after (settled past) p ⊎ IsMissing s build.after p → Among q (settled past)
    ready_rule p q e (inl (is_source bytes none file)) = none_some (sym none ∙ e)
    ready_rule p q e (inl (is_made r is m)) = subst (λ (x : Rule). Among x (settled past)) (some_same (sym is ∙ e)) m
    ready_rule p q e (inr missing) = none_some (sym missing.no_rule ∙ e)

    required_done : (p : Path) (q : Rule) → Among p k.rule.required → s.rule_of p ≡ Some q → Among q (settled past)
    required_done p q m e =
        let n =
        among_map (path_of g.nodes) k.kept.required (among_same
        (sym (ap (paths_of g) k.keeps.required ∙ k.names.required)) m) in
        let h = among_stands k.kept.required n.0 n.1 in
        ready_rule p q e
        (subst (λ x. IsReady s build.after (settled past) x ⊎ IsMissing s build.after x) (sym n.2)
        (done_ready b g requested build.after past plan tied.graph tied.ties number needed n.0
        (in_required k.kept.required k.kept.deps n.0 h)
        (all_stands (λ x. is_done plan.states plan.origins x) k.kept.required n.0 through.required h)))

    new : IsNew past k.rule
    new = subst (λ (o : RuleState). IsAt past k.rule o) can.waits (tied.ties.states number k.rule k.numbered)

    without_missing : (p : Path) → IsReady s build.after (settled past) p ⊎ IsMissing s build.after p →
        (IsMissing s build.after p → ⊥) →
        IsReady s build.after (settled past) p
    without_missing p (inl ready) none = ready
    without_missing p (inr missing) none = absurd (none missing)

    may_decide : ((p : Path) → Among p (paths_of g (deps_of plan.rules number)) → IsMissing s build.after p → ⊥) →
        IsDecided s build past k.rule
    may_decide none = record {
      goes_on = tied.goes_on goes;
      not_began = new.not_began;
      not_done = new.not_done;
      prepared = record {
        wanted = is_wanted number needed;
        whole = lists.room;
        dependencies = λ p m. let n = among_same present_are m in without_missing p (each_done p n) (none p n);
        required = required_done;
      };
    }

    may_lack : (p : Path) → IsFirstAbsent b (paths_of g (deps_of plan.rules number)) build.after p →
        IsLacking s build past k.rule p
    may_lack p absent = record {
      goes_on = tied.goes_on goes;
      not_began = new.not_began;
      not_done = new.not_done;
      wanted = is_wanted number needed;
      whole = lists.room;
      first_missing = record {
        front = absent.front;
        rest = absent.rest;
        parts = present_are ∙ absent.parts;
        is_missing = absent.is_missing;
        front_ready =
            λ q m. without_missing q (each_done q (among_same (sym absent.parts) (among_left (p ∷ absent.rest) m)))
            (absent.front_there q m);
        rest_settled = λ q m. each_done q (among_same (sym absent.parts) (among_right absent.front (there m)));
      };
      required = required_done;
    }

    pub may_be_decided : MayBeDecided b g build past plan number
    may_be_decided =
        record { rule = k.rule; is = k.numbered; dependencies = present_are; decided = may_decide; lacks = may_lack }
