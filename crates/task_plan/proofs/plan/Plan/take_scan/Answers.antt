use Rattle.std.proofs.Common.{◌≡◌, ◌∙◌, get_or, false, ap, refl, sym}
use Rattle.std.specs.Prelude.{map, slice_get}
use Rattle.std.proofs.lemmas.Result.{on_ok_weaker}
use Rattle.task_plan.specs.States.{state_of}
use Rattle.task_plan.specs.Settled.{next_of}
use Rattle.task_plan.specs.Plans.{Planned}
use Rattle.task_plan.specs.Met.{is_met}
use Rattle.task_plan.specs.Rooted.{news_in, AreReached}
use Rattle.task_plan.proofs.WantLemmas.{planned, unwanted_by}
use Rattle.task_plan.proofs.AdmitLemmas.{scans_none, scans_still}
use Rattle.task_plan.proofs.MetLemmas.{keeps_same, finds_same}
use Rattle.task_plan.proofs.MetNeeds.{finds_unwanted, finds_file_still}
use Rattle.task_plan.proofs.WatchSteps.{complete_halted}
use Rattle.task_plan.proofs.OrderSteps.{takes_same, takes_halted, deps_halted}
use Rattle.task_plan.proofs.RootLemmas.{reached_same}
use Rattle.task_plan.proofs.RootSteps.{others_none}
use Rattle.task_plan.proofs.plan.Plan.take_scan.Goals as goal

pub returns-then-not-contains-clause-scans : goal.returns-then-not-contains-clause-scans
returns-then-not-contains-clause-scans c =
    let i = c.self.inside in
    let is = c.contains.ensures in
    let not = c.if-not-contains.true in
    let unmarked : get_or i.scannable c.args.rule.0 false ≡ false = cc in
    let p = planned i.states i.queue i.halted i.tasks.items i.files.origins.items i.scannable i.files.waiters.items i.is_ordered i.roots.items in
    rw (sym c.self.view_is)
    (scans_none c.args.graph.now p p c.args.rule.0 c.args.found.items (unwanted_by (get_or i.scannable c.args.rule.0 false) (slice_get (map next_of i.tasks.items) c.args.rule.0) unmarked) refl refl)

pub returns-clause-scans : goal.returns-clause-scans
returns-clause-scans c =
    on_ok_weaker c.scanned-taken.result
    (λ s. scans_still c.args.graph.now c.args.self.now c.scanned-taken.new.self c.halt_where.new.self c.args.rule.0 c.args.found.items s c.halt_where.ensures.states c.halt_where.ensures.rules c.halt_where.ensures.origins)
    c.scanned-taken.ensures.scans

pub returns-then-not-contains-clause-finds : goal.returns-then-not-contains-clause-finds
returns-then-not-contains-clause-finds c =
    let i = c.self.inside in
    let is = c.contains.ensures in
    let not = c.if-not-contains.true in
    let unmarked : get_or i.scannable c.args.rule.0 false ≡ false = cc in
    let p = planned i.states i.queue i.halted i.tasks.items i.files.origins.items i.scannable i.files.waiters.items i.is_ordered i.roots.items in
    rw (sym c.self.view_is)
    (finds_unwanted c.args.graph.now p p c.args.rule.0 c.args.found.items (unwanted_by (get_or i.scannable c.args.rule.0 false) (slice_get (map next_of i.tasks.items) c.args.rule.0) unmarked) refl
    (keeps_same p p refl refl) (finds_same c.args.graph.now p p refl))

pub returns-clause-finds : goal.returns-clause-finds
returns-clause-finds c =
    on_ok_weaker c.scanned-taken.result
    (λ d. finds_file_still c.args.graph.now c.args.self.now c.scanned-taken.new.self c.halt_where.new.self c.args.rule.0 c.args.found.items d c.halt_where.ensures.states c.halt_where.ensures.origins)
    c.scanned-taken.ensures.finds

pub returns-clause-complete : goal.returns-clause-complete
returns-clause-complete c =
    let b = c.scanned-taken.new.self in
    let d = c.halt_where.new.self in
    let e = c.halt_where.ensures in
    let back : AreReached d → AreReached b = reached_same d b (sym e.states) (sym e.rules) (sym e.origins) (sym (ap (λ (x : Planned). x.notes.roots) e.rest)) in
    on_ok_weaker c.scanned-taken.result (λ f below reached k. complete_halted b d e.rest (f below (back reached) k)) c.scanned-taken.ensures.complete

pub returns-then-not-contains-clause-order : goal.returns-then-not-contains-clause-order
returns-then-not-contains-clause-order c = λ k. takes_same c.args.self.now c.args.rule.0

pub returns-clause-order : goal.returns-clause-order
returns-clause-order c =
    let a = c.args.self.now in
    let b = c.scanned-taken.new.self in
    let d = c.halt_where.new.self in
    let e = c.halt_where.ensures.rest in
    on_ok_weaker c.scanned-taken.result (λ f k. takes_halted a b d c.args.rule.0 e (f (deps_halted a b d c.args.rule.0 e k))) c.scanned-taken.ensures.order

pub returns-then-not-contains-clause-others : goal.returns-then-not-contains-clause-others
returns-then-not-contains-clause-others c = let a = c.args.self.now in others_none c.args.graph.now a a (news_in (slice_get a.rules c.args.rule.0) c.args.found.items) refl refl

pub returns-clause-others : goal.returns-clause-others
returns-clause-others c =
    let e = c.halt_where.ensures in
    on_ok_weaker c.scanned-taken.result
    (λ k. record {
      each = λ r u ne. k.each r u (λ v. ne (ap (λ s. state_of s r) e.states ∙ v));
      files = record { met = λ n h. k.files.met n (ap (λ o. is_met o n) (sym e.origins) ∙ h) };
    }) c.scanned-taken.ensures.others

pub returns-clause-roots : goal.returns-clause-roots
returns-clause-roots c = on_ok_weaker c.scanned-taken.result (λ e. ap (λ (x : Planned). x.notes.roots) c.halt_where.ensures.rest ∙ e) c.scanned-taken.ensures.roots
