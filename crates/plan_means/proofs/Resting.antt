-- Where a tied plan is still, the build is idle, or at rest.
use Rattle.std.proofs.Common.{◌≡◌, ◌≢◌, ◌+◌, cond, ℕ, zero, suc, Bool, true, false, List, [], ◌∷◌, refl, sym, subst, ap, ◌∙◌, arith}
use Rattle.std.proofs.lemmas.List.Sums.{sum_by-cons}
use Rattle.std.specs.List.{count_by}
use Rattle.std.proofs.lemmas.Option.{slice_get_within}
use Rattle.scons_base.specs.declared.ids.NodeId.{NodeId}
use Rattle.rule_graph.specs.Graphs.{RuleGraph}
use Rattle.task_plan.specs.States.{state_of, is_running as is_running_state}
use Rattle.task_plan.specs.Plans.{Planned}
use Rattle.task_plan.specs.Watched.{IsStill}
use Rattle.task_plan.specs.declared.states.RuleState.{RuleState}
use Rattle.task_plan.specs.declared.states.RuleState.TheVariants.{Unneeded, Waiting, Running, Settled, Failed, Lacking}
use Rattle.task_plan.proofs.ReachedLemmas.{order_reached}
use Rattle.build_model.specs.Rules.{Rule, Among}
use Rattle.build_model.specs.Steps.{Step, Build}
use Rattle.build_model.specs.Resting.{whole_found, IsLeft, is_settled, is_faulty, waits, IsAtRest}
use Rattle.build_model.specs.OneJob.{IsPassed}
use Rattle.build_model.specs.Waiting.{IsIdle}
use Rattle.build_model.proofs.Lists.{true_false, some_same}
use Rattle.build_means.specs.Grown.{Begun, begun_setting}
use Rattle.plan_means.specs.Ties.{IsAt}
use Rattle.plan_means.specs.Deciding.{IsTied}
use Rattle.plan_means.proofs.Visiting.{has_order}
use Rattle.plan_means.proofs.Deciding.{know, found_whole}
use Rattle.plan_means.proofs.Waiting.{IsPlanned, held_up, held_at, passed, needed_planned}
use Rattle.plan_means.proofs.Taking.{rules_numbered, numbered_there}

none_runs_by : (o : RuleState) (n : ℕ) (c : Bool) → is_running_state o ≡ c → cond c 1 0 + n ≡ 0 → o ≡ Running → ⊥
none_runs_by o n true e h same = absurd (let m : 1 + n ≡ 0 = h in omega arith)
none_runs_by o n false e h same = true_false (sym (ap is_running_state same) ∙ e)

rest_by : (n : ℕ) (c : Bool) → cond c 1 0 + n ≡ 0 → n ≡ 0
rest_by n true h = absurd (let m : 1 + n ≡ 0 = h in omega arith)
rest_by n false h = let m : 0 + n ≡ 0 = h in omega arith

count_first : (o : RuleState) (states : List RuleState) → count_by is_running_state (o ∷ states) ≡ 0 →
    cond (is_running_state o) 1 0 + count_by is_running_state states ≡ 0
count_first o states h = sym (sum_by-cons (λ x. cond (is_running_state x) 1 0) o states) ∙ h

-- where the count of those that run is none, none runs
pub none_runs : (states : List RuleState) (number : ℕ) → count_by is_running_state states ≡ 0 →
    state_of states number ≡ Running → ⊥
none_runs [] number h e = true_false (sym (ap is_running_state e))
none_runs (o ∷ states) zero h e = none_runs_by o (count_by is_running_state states) (is_running_state o) refl
    (count_first o states h) e
none_runs (o ∷ states) (suc number) h e = none_runs states number
    (rest_by (count_by is_running_state states) (is_running_state o) (count_first o states h)) e

module _ (b : Begun) (g : RuleGraph) (requested : List NodeId) (build : Build) (past : List Step) (plan : Planned)
    (tied : IsTied b g requested build past plan)
    (still : IsStill plan) where
  passed_still : (r : Rule) → IsPlanned b g requested build past plan tied r →
      IsPassed (begun_setting b) past (whole_found (begun_setting b) build past) r
  passed_still r p =
      let k = know b g requested build past plan tied p.number p.needed in
      subst (λ (x : Rule). IsPassed (begun_setting b) past (whole_found (begun_setting b) build past) x)
      (some_same (sym k.numbered ∙ p.is))
      (passed b g requested build past plan tied p.number p.needed still.scans
      (λ state. held_up b g requested build past plan tied p.number p.needed (still.waits p.number k.kept state k.at)))

  pub is_idle : IsIdle (begun_setting b) build past
  is_idle = record {
    found = whole_found (begun_setting b) build past;
    found_whole = found_whole b g requested build past plan tied;
    passed = λ r h. passed_still r (needed_planned b g requested build past plan tied still.scans r h);
  }

  module _ (count : count_by is_running_state plan.states ≡ 0) where
    left_by : (number : ℕ) (needed : state_of plan.states number ≢ Unneeded) (o : RuleState) →
        state_of plan.states number ≡ o →
        IsAt past (know b g requested build past plan tied number needed).rule o →
        IsLeft (begun_setting b) past (whole_found (begun_setting b) build past)
        (know b g requested build past plan tied number needed).rule
    left_by number needed Unneeded e at = absurd (needed e)
    left_by number needed Waiting e at =
        let k = know b g requested build past plan tied number needed in
        let up = still.waits number k.kept e k.at in
        let h = held_at b g requested build past plan tied number needed up in
        waits h.other h.needs h.unsettled
    left_by number needed Running e at = absurd (none_runs plan.states number count e)
    left_by number needed Settled e at = is_settled at
    left_by number needed Failed e at = is_faulty at
    left_by number needed Lacking e at = is_faulty at

    left_still : (r : Rule) → IsPlanned b g requested build past plan tied r →
        IsLeft (begun_setting b) past (whole_found (begun_setting b) build past) r
    left_still r p =
        let k = know b g requested build past plan tied p.number p.needed in
        subst (λ (x : Rule). IsLeft (begun_setting b) past (whole_found (begun_setting b) build past) x)
        (some_same (sym k.numbered ∙ p.is))
        (left_by p.number p.needed (state_of plan.states p.number) refl (tied.ties.states p.number k.rule k.numbered))

    among_order : (r : Rule) → IsPlanned b g requested build past plan tied r →
        Among r (rules_numbered b g (has_order plan.rules plan.origins plan.notes.roots).order)
    among_order r p =
        let o = has_order plan.rules plan.origins plan.notes.roots in
        let k = know b g requested build past plan tied p.number p.needed in
        let lt = slice_get_within plan.rules p.number k.kept k.at in
        numbered_there b g p.number r o.order p.is
        ((order_reached plan.rules plan.origins plan.notes.roots o.order o.is).all p.number
        (tied.ties.plan_for.reached.each p.number p.needed) lt)

    pub is_at_rest : IsAtRest (begun_setting b) build past (whole_found (begun_setting b) build past)
    is_at_rest = record {
      found_whole = found_whole b g requested build past plan tied;
      rules = rules_numbered b g (has_order plan.rules plan.origins plan.notes.roots).order;
      all = λ r h. among_order r (needed_planned b g requested build past plan tied still.scans r h);
      left = λ r h. left_still r (needed_planned b g requested build past plan tied still.scans r h);
    }
