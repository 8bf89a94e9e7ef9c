-- What a build did by how it stands, and that it succeeded where its plan is finished.
use Rattle.std.proofs.Common.{◌≡◌, ◌≢◌, ℕ, Bool, true, false, List, count_by, ap, refl, sym, subst, ◌∙◌}
use Rattle.task_plan.specs.States.{state_of, is_running}
use Rattle.task_plan.specs.Watched.{IsNoneReady, IsGoingOn, AreGoingOn, IsFinished}
use Rattle.task_plan.specs.declared.states.RuleState.{RuleState}
use Rattle.task_plan.specs.declared.states.RuleState.TheVariants.{Unneeded, Waiting, Running, Settled, Failed, Lacking}
use Rattle.build_model.specs.Rules.{Rule}
use Rattle.build_model.specs.Moments.{Job as Given}
use Rattle.build_model.specs.Needs.{is_requested}
use Rattle.build_model.specs.Resting.{IsFaulty}
use Rattle.build_model.specs.Steps.{Step, is_over}
use Rattle.build_model.specs.Waiting.{WaitsRightly}
use Rattle.build_model.proofs.Ending.{faulty_over}
use Rattle.build_model.proofs.Lists.{true_false}
use Rattle.build_means.specs.Builds.{AllSettled, Runs, Succeeded}
use Rattle.build_means.specs.Laws.{SettledSucceed}
use Rattle.plan_means.specs.Ties.{IsAt as IsAtState}
use Rattle.plan_means.proofs.Deciding.{know}
use Rattle.plan_means.proofs.Resting.{none_runs}
use Rattle.plan_means.proofs.Waiting.{needed_planned}
use Rattle.run_means.specs.Laws.{RunsSo}
use Rattle.run_means.proofs.Keeping.{did}
use Rattle.turn_means.specs.Standing.{Outset, IsOutset, begun_at, setting_at, Standing, Knows, IsAt}
use Rattle.turn_means.proofs.Deciding.{tied}
use Rattle.turn_means.specs.Recording.{build_at}

module _ (o : Outset) (outset : IsOutset o) (jobs : List Given) (s : Standing) (past : List Step) (at : IsAt o jobs s past) where
  pub runs : RunsSo o.wanted o.kept o.counts o.before s.around past
  runs = did o.wanted o.kept o.counts o.before s.around jobs past outset.reading at.way

  module _ (well : s.faulted ≡ false) where
    not_ended : s.ended ≡ false
    not_ended = by s.ended refl
      where
        by : (b : Bool) → s.ended ≡ b → b ≡ false
        by true e = true_false (sym (at.told e) ∙ well)
        by false e = refl

    known : Knows o s past
    known = at.knows not_ended

    none_over : is_over false past ≡ true → {A : Type 0} → A
    none_over e = true_false (sym e ∙ at.well well)

    -- a rule that is needed isn't at fault
    none_faulty : (number : ℕ) (state : RuleState) → state_of s.plan.states number ≡ state → state ≢ Unneeded →
        ((past : List Step) (r : Rule) → IsAtState past r state → IsFaulty past r) → {A : Type 0} → A
    none_faulty number state e needed faulty =
        let k = know (begun_at o) s.graph o.wanted.requested (build_at o s.around) past s.plan
        (tied o outset jobs s past at.way known) number (λ none. needed (sym e ∙ none)) in
        none_over (faulty_over (faulty past k.rule
        (subst (λ x. IsAtState past k.rule x) e (known.ties.states number k.rule k.numbered))))

    pub goes_by : (number : ℕ) (state : RuleState) → state_of s.plan.states number ≡ state →
        (state_of s.plan.states number ≡ Running → ⊥) → IsGoingOn state
    goes_by number Unneeded e none_runs = tt
    goes_by number Waiting e none_runs = tt
    goes_by number Running e none_runs = absurd (none_runs e)
    goes_by number Settled e none_runs = tt
    goes_by number Failed e none_runs = none_faulty number Failed e (λ h. cc h) (λ past r faulty. faulty)
    goes_by number Lacking e none_runs = none_faulty number Lacking e (λ h. cc h) (λ past r faulty. faulty)

    pub goes_on : count_by is_running s.plan.states ≡ 0 → AreGoingOn s.plan
    goes_on none = record { each = λ number. goes_by number (state_of s.plan.states number) refl (none_runs s.plan.states number none) }

    pub succeeds : SettledSucceed → IsNoneReady s.plan → IsFinished s.plan →
        (succeeded : Succeeded o.wanted o.kept o.counts o.before s.around) × (succeeded.runs.steps ≡ past)
    succeeds settled_succeed none_ready finished =
        let by = settled_succeed o.wanted o.kept o.counts o.before s.around outset.reading runs.0
        (subst (λ l. AllSettled o.wanted o.kept o.before s.around l) (sym runs.1) all)
        (subst (λ l. WaitsRightly (setting_at o) (build_at o s.around) l) (sym runs.1) (at.way.waits (at.well well))) in
        (by.0, ap (λ (r : Runs o.wanted o.kept o.counts o.before s.around). r.steps) by.1 ∙ runs.1)
      where
        all : AllSettled o.wanted o.kept o.before s.around past
        all p r m e =
            let planned = needed_planned (begun_at o) s.graph o.wanted.requested (build_at o s.around) past s.plan
            (tied o outset jobs s past at.way known) none_ready r (is_requested p m e) in
            subst (λ state. IsAtState past r state) (finished.each planned.number planned.needed)
            (known.ties.states planned.number r planned.is)
