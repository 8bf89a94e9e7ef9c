use Rattle.std.proofs.Common.{◌≡◌, ◌∙◌, ◌++◌, List, sym, ap, subst, refl}
use Rattle.std.specs.Prelude.{Contains}
use Rattle.std.specs.Arc.{arc_value}
use Rattle.world_api.specs.Around.{Running}
use Rattle.mem_banks.specs.AsStore.{store_of}
use Rattle.world_api.specs.Causes.{HasOutcomeCause}
use Rattle.world_api.specs.declared.job.Outcome.{Outcome}
use Rattle.world_mem.specs.Ending.{faults_after}
use Rattle.world_mem.specs.Kept.{counts_of}
use Rattle.world_mem.specs.AsAround.{around_of}
use Rattle.world_mem.specs.Stamps.{Stamps}
use Rattle.world_mem.specs.Waits.{row_contents}
use Rattle.thread_world.specs.Step.{run_of}
use Rattle.thread_world.proofs.Comes.{place_within, told_at, step_back, run_back, outcome_back}
use Rattle.thread_world.proofs.Kept.{spared_same, step_same}
use Rattle.thread_world.proofs.Passed.{banks_same}
use Rattle.thread_world.proofs.tree.ThreadWorldWorld.wait.Goals as goal

pub end-requires-clause-place : goal.end-requires-clause-place
end-requires-clause-place g c = place_within _ _ _ _ _ _ c.args.self.now.step c.next_place-place.ensures.out

pub end-requires-clause-told : goal.end-requires-clause-told
end-requires-clause-told g c = told_at _ _ _ _ _ _ _ c.args.self.now.step c.next_place-place.ensures.out c.next_place-place.ensures.own.0 c.made_of-made.ensures

pub invariant_of-self-clause-step : goal.invariant_of-self-clause-step
invariant_of-self-clause-step g c =
    step_same _ _ _ _ _ c.end.ensures.keeps.table refl (step_back _ _ _ _ _ _ _ c.args.self.now.step c.next_place-place.ensures.out c.end.ensures.rest)

pub invariant_of-self-clause-spared : goal.invariant_of-self-clause-spared
invariant_of-self-clause-spared g c = spared_same _ _ c.end.ensures.calls c.args.self.now.spared

pub returns-clause-around : goal.returns-clause-around
returns-clause-around g c = λ told. c.end.ensures.around

pub returns-clause-banks : goal.returns-clause-banks
returns-clause-banks g c = λ told bank. let kept = banks_same c.args.self.now.world c.end.new.self (ap store_of c.end.ensures.keeps.banks) bank in record { same = kept.same; no_more = kept.no_more }

pub returns-clause-told : goal.returns-clause-told
returns-clause-told g c = record { told = λ told. told; sure = λ told sure. sure; closed = refl }

pub returns-clause-recalls : goal.returns-clause-recalls
returns-clause-recalls g c = record { later = c.end.ensures.recalls.later; keeps = c.end.ensures.recalls.keeps }

pub returns-clause-time : goal.returns-clause-time
returns-clause-time g c = record { told = c.end.ensures.time.told; each = c.end.ensures.time.each; before = c.end.ensures.time.before; now = c.end.ensures.time.now }

pub returns-clause-cause : goal.returns-clause-cause
returns-clause-cause g c = subst (λ (o : Outcome). HasOutcomeCause o (counts_of c.args.self.now.world.faults) (counts_of c.end.new.self.faults)) (sym c.end.ensures.outcome) c.end.ensures.cause

pub returns-clause-ends : goal.returns-clause-ends
returns-clause-ends g c =
    let old = c.args.self.now.world in
    let ending = c.next_place-place.result.1 in
    let back = c.next_place-place.ensures.out in
    let run : Running = run_of (back.number, arc_value ending.slip) in
    let which = run_back old.state.table (around_of old.state).running _ _ c.next_place-place.result.0 ending c.args.self.now.step back in
    let outcome = c.end.ensures.outcome in
    record {
      place = c.next_place-place.result.0;
      run = run;
      which = which;
      id = c.end.ensures.chosen run ∙ ap (λ (r : Running). r.job.id) (which run);
      outcome = λ had. outcome ∙ outcome_back _ _ _ _ _ ending c.args.self.now.step back c.next_place-place.ensures.own.0 (λ none. had (outcome ∙ none));
      rest = c.end.ensures.rest;
      absent = λ bad path there. c.end.ensures.absent run path (λ done. bad (outcome ∙ done)) (subst (λ (r : Running). Contains r.job.targets path) (sym (which run)) there);
      met = λ done. c.end.ensures.met run (sym outcome ∙ done) ∙ ap (λ (r : Running). (around_of old.state).met ++ row_contents old r) (which run);
      stamps = subst (λ (r : Running). Stamps (Contains r.job.targets) old.state c.end.new.self.state) (which run) (c.end.ensures.stamps run);
      unmet = λ bad. c.end.ensures.unmet (λ done. bad (outcome ∙ done));
    }

pub returns-clause-once : goal.returns-clause-once
returns-clause-once g c = c.end.ensures.once ∙ ap (λ (o : Outcome). faults_after o c.args.self.now.world.faults) (sym c.end.ensures.outcome)
