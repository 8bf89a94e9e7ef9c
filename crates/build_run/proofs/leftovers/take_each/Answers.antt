use Rattle.build_run.proofs.Safely.{takes_here, takes_joined}
use Rattle.std.proofs.Common.{rules, ◌∙◌, ◌<◌, length, Contains, sym, subst, arith}
use Rattle.deciders.specs.declared.recorded.Rec.{Rec}
use Rattle.build_run.specs.Takes.{IsTargetOf}
use Rattle.build_run.proofs.Goings.{goes_on}
use Rattle.build_run.proofs.Leaving.{leaves_as, leaves_on}
use Rattle.build_run.proofs.Taking.{take_inside, take_exit, take_after, takes_on, takes_as, taken_so_far, all_taken}
use Rattle.build_run.proofs.leftovers.take_each.Goals as goal

pub loop-rec-preserved : goal.loop-rec-preserved
loop-rec-preserved g c =
    let before = c.loop-rec.invariant in
    let m = g.W.Disk.meaning in
    let goes = c.take_away.ensures.goes in
    let within : c.loop-rec.rec-index < length c.args.left.now = omega (arith, c.loop-rec-test.true) in
    let there : Contains c.args.left.now c.rec-item.result = (c.loop-rec.rec-index, within, sym c.rec-item.is) in
    let one = takes_as m c.loop-rec.world c.take_away.new.world _ (IsTargetOf c.args.left.now)
    (λ path among. (c.rec-item.result, there, subst (λ (rec : Rec). Contains rec.targets path) c.in_ok-copy.ensures among)) c.take_away.ensures.only in
    record {
      goes = goes_on g.W.Disk.meaning _ _ _ before.goes c.take_away.ensures.goes;
      same = c.in_ok-take_away.ensures.cause ∙ before.same;
      live = c.in_ok-take_away.ensures.live;
      kept = c.in_ok-take_away.ensures.kept;
      safe = takes_joined m (IsTargetOf c.args.left.now) _ _ _ _ before.goes.passes.told goes.passes.told
          (λ t path among. (c.rec-item.result, there, subst (λ (rec : Rec). Contains rec.targets path) c.in_ok-copy.ensures among))
          before.safe c.take_away.ensures.safe;
      gone = λ t.
          let told = goes.passes.told.told t in
          let rest = before.goes.runs told ∙ c.requires.idle (before.goes.passes.told.told told) in
          taken_so_far c.args.left.now c.loop-rec.rec-index c.rec-item.result (m.around c.loop-rec.world) (m.around c.take_away.new.world) (IsTargetOf c.args.left.now) within c.rec-item.is (one t rest)
          (λ path among. c.in_ok-take_away.ensures.gone t path (subst (λ (rec : Rec). Contains rec.targets path) (sym c.in_ok-copy.ensures) among)) (before.gone told);
      only = takes_on m c.args.world.now c.loop-rec.world c.take_away.new.world _ goes.passes.told.told before.goes.runs before.only one;
      rest = leaves_on m c.args.world.now c.loop-rec.world c.take_away.new.world c.args.store.now c.loop-rec.store c.take_away.new.store _
          goes.passes.told.told before.rest
          (leaves_as m c.loop-rec.world c.take_away.new.world c.loop-rec.store c.take_away.new.store _ (IsTargetOf c.args.left.now)
          (λ path among. (c.rec-item.result, there, subst (λ (rec : Rec). Contains rec.targets path) c.in_ok-copy.ensures among)) c.take_away.ensures.rest);
    }

pub take_away-requires-clause-idle : goal.take_away-requires-clause-idle
take_away-requires-clause-idle g c = λ t. let goes = c.loop-rec.invariant.goes in goes.runs t ∙ c.requires.idle (goes.passes.told.told t)

pub returns-in_err-copy-clause-cause : goal.returns-in_err-copy-clause-cause
returns-in_err-copy-clause-cause g c = let r = c.from_residual in take_inside _ _ r.result c.loop-rec.invariant.same r.ensures.1

pub returns-in_err-take_away-clause-cause : goal.returns-in_err-take_away-clause-cause
returns-in_err-take_away-clause-cause g c =
    let r = c.from_residual-in_err-take_away in
    take_after _ _ _ r.result c.loop-rec.invariant.same (take_exit _ _ r.result _ r.ensures.1 c.in_err-take_away.ensures.cause)

pub returns-in_err-take_away-clause-goes : goal.returns-in_err-take_away-clause-goes
returns-in_err-take_away-clause-goes g c = goes_on g.W.Disk.meaning _ _ _ c.loop-rec.invariant.goes c.take_away.ensures.goes

pub returns-in_err-take_away-clause-only : goal.returns-in_err-take_away-clause-only
returns-in_err-take_away-clause-only g c =
    let m = g.W.Disk.meaning in
    let before = c.loop-rec.invariant in
    let there : Contains c.args.left.now c.rec-item.result = (c.loop-rec.rec-index, omega (arith, c.loop-rec-test.true), sym c.rec-item.is) in
    let one = takes_as m c.loop-rec.world c.take_away.new.world _ (IsTargetOf c.args.left.now)
    (λ path among. (c.rec-item.result, there, subst (λ (rec : Rec). Contains rec.targets path) c.in_ok-copy.ensures among)) c.take_away.ensures.only in
    takes_on m c.args.world.now c.loop-rec.world c.take_away.new.world _ c.take_away.ensures.goes.passes.told.told before.goes.runs before.only one

pub returns-clause-gone : goal.returns-clause-gone
returns-clause-gone g c = λ t. all_taken c.args.left.now c.loop-rec.rec-index (g.W.Disk.meaning.around c.loop-rec.world) (omega arith) (c.loop-rec.invariant.gone t)

pub returns-in_err-take_away-clause-rest : goal.returns-in_err-take_away-clause-rest
returns-in_err-take_away-clause-rest g c =
    let m = g.W.Disk.meaning in
    let there : Contains c.args.left.now c.rec-item.result = (c.loop-rec.rec-index, omega (arith, c.loop-rec-test.true), sym c.rec-item.is) in
    let one = leaves_as m c.loop-rec.world c.take_away.new.world c.loop-rec.store c.take_away.new.store _ (IsTargetOf c.args.left.now)
    (λ path among. (c.rec-item.result, there, subst (λ (rec : Rec). Contains rec.targets path) c.in_ok-copy.ensures among)) c.take_away.ensures.rest in
    leaves_on m c.args.world.now c.loop-rec.world c.take_away.new.world c.args.store.now c.loop-rec.store c.take_away.new.store _
    c.take_away.ensures.goes.passes.told.told c.loop-rec.invariant.rest one

pub loop-rec-init : goal.loop-rec-init
loop-rec-init g c = record {
  goes = search rules;
  same = search rules;
  live = search rules;
  kept = search rules;
  gone = search rules;
  only = search rules;
  safe = takes_here g.W.Disk.meaning (IsTargetOf c.args.left.now) g.met.W.Disk.only_now c.args.world.now;
  rest = search rules;
}

pub returns-in_err-take_away-clause-safe : goal.returns-in_err-take_away-clause-safe
returns-in_err-take_away-clause-safe g c =
    let before = c.loop-rec.invariant in
    let there : Contains c.args.left.now c.rec-item.result = (c.loop-rec.rec-index, omega (arith, c.loop-rec-test.true), sym c.rec-item.is) in
    takes_joined g.W.Disk.meaning (IsTargetOf c.args.left.now) _ _ _ _ before.goes.passes.told c.take_away.ensures.goes.passes.told
    (λ t path among. (c.rec-item.result, there, subst (λ (rec : Rec). Contains rec.targets path) c.in_ok-copy.ensures among))
    before.safe c.take_away.ensures.safe
