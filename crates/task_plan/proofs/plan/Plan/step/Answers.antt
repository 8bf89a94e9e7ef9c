use Rattle.std.proofs.Common.{◌≡◌, ℕ, true, sym}
use Rattle.std.specs.Prelude.{OnOk}
use Rattle.task_plan.specs.Plans.{AreWaiting, CanDecide, is_scan}
use Rattle.task_plan.specs.Met.{AreFrom, AreNodes, AllMet, FindsBy}
use Rattle.task_plan.specs.Admits.{Fits, Knows}
use Rattle.task_plan.specs.Rooted.{AreReached, NeedsNoOthers, news_of}
use Rattle.std.proofs.lemmas.Result.{on_ok_weaker}
use Rattle.task_plan.proofs.PlanLemmas.{goes_on}
use Rattle.task_plan.proofs.AdmitLemmas.{fits_step}
use Rattle.task_plan.proofs.MetNeeds.{on_ok_both, all_met_step, from_step}
use Rattle.task_plan.proofs.TrackLemmas.{waiting_of}
use Rattle.task_plan.proofs.WatchSteps.{targets_of}
use Rattle.task_plan.specs.Queues.{is_open}
use Rattle.task_plan.proofs.OrderSteps.{IsUnscanned, is_unscanned, order_step}
use Rattle.task_plan.proofs.RootSteps.{StaysReached, others_by, reached_step}
use Rattle.task_plan.proofs.WantLemmas.{can_decide}
use Rattle.task_plan.proofs.plan.Plan.step.Goals as goal

pub returns-clause-onward : goal.returns-clause-onward
returns-clause-onward c =
    let i = c.self.inside in
    let w : AreWaiting c.args.self.now.states c.args.self.now.queue = rw (sym c.self.view_is) (waiting_of i.states i.queue i.tasks.items i.files.origins.items i.scannable c.self.invariant) in
    goes_on c.args.self.now c.args.event c.take-taken.new.self.states w c.take-taken.ensures.states

pub returns-clause-fits : goal.returns-clause-fits
returns-clause-fits c =
    let i = c.self.inside in
    let w : AreWaiting c.args.self.now.states c.args.self.now.queue = rw (sym c.self.view_is) (waiting_of i.states i.queue i.tasks.items i.files.origins.items i.scannable c.self.invariant) in
    on_ok_weaker c.take-taken.result (λ k. fits_step c.args.graph.now c.args.self.now c.take-taken.new.self c.args.event w c.take-taken.ensures.states k) c.take-taken.ensures.knows

pub returns-clause-origins : goal.returns-clause-origins
returns-clause-origins c =
    let i = c.self.inside in
    let w : AreWaiting c.args.self.now.states c.args.self.now.queue = rw (sym c.self.view_is) (waiting_of i.states i.queue i.tasks.items i.files.origins.items i.scannable c.self.invariant) in
    let on = goes_on c.args.self.now c.args.event c.take-taken.new.self.states w c.take-taken.ensures.states in
    on_ok_weaker c.take-taken.result (λ d. from_step c.args.graph.now c.args.self.now c.take-taken.new.self c.args.event on d) c.take-taken.ensures.finds

pub returns-clause-needs : goal.returns-clause-needs
returns-clause-needs c =
    let i = c.self.inside in
    let w : AreWaiting c.args.self.now.states c.args.self.now.queue = rw (sym c.self.view_is) (waiting_of i.states i.queue i.tasks.items i.files.origins.items i.scannable c.self.invariant) in
    on_ok_both c.take-taken.result
    (λ k d n f m. all_met_step c.args.graph.now c.args.self.now c.take-taken.new.self c.args.event w c.take-taken.ensures.states k d n f c.follows.ensures c.follows-2.ensures m) c.take-taken.ensures.knows
    c.take-taken.ensures.finds

-- what is needed is reached still, and what was met is for it
reached : (c : goal.After-follows-2) → OnOk c.take-taken.result
    (AreNodes c.args.graph.now c.args.event → Fits c.args.graph.now c.args.self.now → AreFrom c.args.graph.now c.args.self.now → AllMet c.args.self.now → AreReached c.args.self.now → StaysReached c.args.self.now c.take-taken.new.self)
reached c =
    let i = c.self.inside in
    let g = c.args.graph.now in
    let a = c.args.self.now in
    let b = c.take-taken.new.self in
    let e = c.args.event in
    let s = c.take-taken.ensures in
    let w : AreWaiting a.states a.queue = rw (sym c.self.view_is) (waiting_of i.states i.queue i.tasks.items i.files.origins.items i.scannable c.self.invariant) in
    let on = goes_on a e b.states w s.states in
    let un : (r : ℕ) → IsUnscanned a r =
    rw (sym c.self.view_is) (λ r. is_unscanned i.states i.queue i.halted i.tasks.items i.files.origins.items i.scannable i.files.waiters.items i.is_ordered i.roots.items r c.self.invariant) in
    on_ok_both {P = Knows g a e b × FindsBy g a e b} {Q = (b.notes.roots ≡ a.notes.roots) × (is_scan e ≡ true → NeedsNoOthers g a b (news_of a e))} c.take-taken.result
    (λ p q n fits from met r.
    reached_step g a b e on p.0 p.1 from (from_step g a b e on p.1 from) fits (fits_step g a b e w s.states p.0 fits) met
    (all_met_step g a b e w s.states p.0 p.1 n fits c.follows.ensures c.follows-2.ensures met) c.follows.ensures c.follows-2.ensures un q.0 (others_by g a b e w s.states p.1 q.1) r)
    (on_ok_both c.take-taken.result (λ k d. (k, d)) s.knows s.finds) (on_ok_both c.take-taken.result (λ x o. (x, o)) s.roots s.others)

pub returns-clause-only : goal.returns-clause-only
returns-clause-only c = on_ok_weaker c.take-taken.result (λ f n fits from met r. (f n fits from met r).reached) (reached c)

pub returns-clause-sought : goal.returns-clause-sought
returns-clause-sought c = on_ok_weaker c.take-taken.result (λ f n fits from met r. (f n fits from met r).sought) (reached c)

pub returns-clause-complete : goal.returns-clause-complete
returns-clause-complete c =
    let a = c.args.self.now in
    on_ok_both c.take-taken.result (λ f reached n fits from met r k. f n (targets_of c.args.graph.now a fits from) (reached n fits from met r) k) c.take-taken.ensures.complete (returns-clause-only c)

pub returns-clause-order : goal.returns-clause-order
returns-clause-order c =
    let i = c.self.inside in
    let g = c.args.graph.now in
    let a = c.args.self.now in
    let b = c.take-taken.new.self in
    let e = c.args.event in
    let s = c.take-taken.ensures in
    let w : AreWaiting a.states a.queue = rw (sym c.self.view_is) (waiting_of i.states i.queue i.tasks.items i.files.origins.items i.scannable c.self.invariant) in
    let on = goes_on a e b.states w s.states in
    let can : (r : ℕ) → is_open a.queue r ≡ true → CanDecide a r =
    rw (sym c.self.view_is) (λ r h. can_decide i.states i.queue i.halted i.tasks.items i.files.origins.items i.scannable i.files.waiters.items i.is_ordered i.roots.items r c.self.invariant h) in
    let un : (r : ℕ) → IsUnscanned a r =
    rw (sym c.self.view_is) (λ r. is_unscanned i.states i.queue i.halted i.tasks.items i.files.origins.items i.scannable i.files.waiters.items i.is_ordered i.roots.items r c.self.invariant) in
    on_ok_both {P = Knows g a e b × FindsBy g a e b} c.take-taken.result
    (λ p t n fits from met o. order_step g a b e s.states p.0 p.1 from (from_step g a b e on p.1 from) fits (fits_step g a b e w s.states p.0 fits) met c.follows.ensures c.follows-2.ensures un can s.leaves t o)
    (on_ok_both c.take-taken.result (λ k d. (k, d)) s.knows s.finds) s.order
