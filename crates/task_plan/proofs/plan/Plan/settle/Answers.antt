use Rattle.std.proofs.Common.{arith, ◌≡◌, ◌≤◌, ap, length, refl}
use Rattle.task_plan.specs.Watched.{targets_at}
use Rattle.task_plan.specs.declared.states.RuleState.TheVariants.{Settled}
use Rattle.task_plan.proofs.PlanLemmas.{stays_trans}
use Rattle.task_plan.proofs.LeaveLemmas.{leaves_same, leaves_trans}
use Rattle.task_plan.proofs.SettleLemmas.{settling_none, settling_next, settling_past, settling_end, settled_complete}
use Rattle.task_plan.proofs.plan.Plan.settle.Goals as goal
use Rattle.task_plan.proofs.plan.Plan.settle.Goals.{in-Some, in_default}

pub loop-place-init : goal.loop-place-init
loop-place-init c =
    let a = c.decided.new.self in
    record { stays = record { states = refl; halted = refl; rules = refl; origins = refl }; leaves = leaves_same a; settling = settling_none a (targets_at a.rules c.args.rule.0) }

pub loop-place-preserved : goal.loop-place-preserved
loop-place-preserved c =
    let a = c.decided.new.self in
    let b = c.loop-place.self in
    let i = c.loop-place.invariant in
    let same : targets_at b.rules c.args.rule.0 ≡ targets_at a.rules c.args.rule.0 = ap (λ x. targets_at x c.args.rule.0) i.stays.rules in
    elim c.match-target.branch [
      | in-Some w ↦ rw w.self-is (record {
        stays = stays_trans a b w.release.new.self i.stays w.release.ensures.stays;
        leaves = leaves_trans a b w.release.new.self i.leaves w.release.ensures.leaves;
        settling = settling_next a b w.release.new.self (targets_at a.rules c.args.rule.0) c.loop-place.place w.in-Some.target (rw same at w.in-Some.ensures) i.settling w.release.ensures.releases;
      })
      | in_default w ↦ rw w.self-is (record { stays = i.stays; leaves = i.leaves; settling = settling_past a b (targets_at a.rules c.args.rule.0) c.loop-place.place (rw same at w.in_default.ensures) i.settling })
    ]

pub returns-clause-complete : goal.returns-clause-complete
returns-clause-complete c =
    let a = c.args.self.now in
    let b = c.decided.new.self in
    let i = c.loop-place.invariant in
    let d = c.decided.ensures in
    let rules : targets_at b.rules c.args.rule.0 ≡ targets_at a.rules c.args.rule.0 = ap (λ x. targets_at x c.args.rule.0) d.rules in
    let le : length (targets_at b.rules c.args.rule.0) ≤ c.loop-place.place = omega arith in
    let settling = rw rules at (settling_end b c.loop-place.self (targets_at b.rules c.args.rule.0) c.loop-place.place le i.settling) in
    λ t k. settled_complete a b c.args.rule.0 Settled d.decides d.states (λ e. cc) c.loop-place.self t i.stays.states i.stays.origins settling k

pub returns-clause-leaves : goal.returns-clause-leaves
returns-clause-leaves c = leaves_trans c.args.self.now c.decided.new.self c.loop-place.self c.decided.ensures.leaves c.loop-place.invariant.leaves
