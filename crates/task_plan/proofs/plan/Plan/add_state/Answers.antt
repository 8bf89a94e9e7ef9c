use Rattle.std.proofs.Common.{arith, ◌≤◌, ◌∷◌, [], ap, refl, sym, length, length-append}
use Rattle.std.proofs.lemmas.Result.{on_ok_weaker}
use Rattle.std.proofs.lemmas.List.{length-map}
use Rattle.task_plan.specs.Settled.{kept_of}
use Rattle.task_plan.specs.declared.states.RuleState.TheVariants.{Unneeded}
use Rattle.task_plan.proofs.TrackLemmas.{tracked_met}
use Rattle.task_plan.proofs.AdmitLemmas.{widens_states}
use Rattle.task_plan.proofs.WidenLemmas.{watch_states}
use Rattle.task_plan.proofs.plan.Plan.add_state.Goals as goal

pub invariant_of-self : goal.invariant_of-self
invariant_of-self c =
    let i = c.self.inside in
    let room = rw (sym c.self.view_is) at c.requires in
    let n = length-map i.tasks.items kept_of in
    let e = c.add.ensures.len in
    let le : length c.add.new.self ≤ length i.tasks.items = omega arith in
    tracked_met i.states c.add.new.self i.queue i.tasks.items i.files.origins.items i.scannable c.add.ensures.meets le c.self.invariant

pub returns-clause-widens : goal.returns-clause-widens
returns-clause-widens c = rw (sym c.self.view_is) (widens_states _ _ c.add.ensures.same refl refl c.add.ensures.longer)

pub returns-clause-more : goal.returns-clause-more
returns-clause-more c =
    let i = c.self.inside in
    let m = length-append i.states (Unneeded ∷ []) in
    rw (sym c.self.view_is) (on_ok_weaker c.add.result (λ e. let n = ap length e in omega arith) c.add.ensures.ok)

pub returns-clause-watch : goal.returns-clause-watch
returns-clause-watch c =
    let i = c.self.inside in
    rw (sym c.self.view_is) (watch_states i.states i.queue i.halted i.tasks.items i.files.origins.items i.scannable i.files.waiters.items i.is_ordered i.roots.items c.add.new.self c.add.ensures.same)
