use Rattle.std.proofs.Common.{arith, ◌≡◌, ◌<◌, ◌≤◌, ◌∙◌, length, refl, sym}
use Rattle.std.proofs.lemmas.Option.{same_Some, slice_get_read}
use Rattle.task_plan.proofs.TrackLemmas.{tracked_pass}
use Rattle.task_plan.proofs.WantLemmas.{kept_still}
use Rattle.task_plan.proofs.StandLemmas.{passes_task, passes_none, no_kept}
use Rattle.task_plan.proofs.plan.Plan.pass.Goals as goal

pub invariant_of-self : goal.invariant_of-self
invariant_of-self c =
    let i = c.self.inside in
    let within : c.args.rule.0 < length i.tasks.items = omega (arith, i.tasks.ok.0, c.len.ensures, c.if-number-len.true) in
    let read = slice_get_read i.tasks.items (length i.tasks.items) c.args.rule.0 c.index.result.now refl within c.index.ensures in
    let at = slice_get_read i.tasks.items (length i.tasks.items) c.args.rule.0 c.index_mut.result.now refl within c.index_mut.ensures.value in
    let same : c.index_mut.result.now ≡ c.index.result.now = same_Some _ _ (sym at ∙ read) in
    let p = c.first_undone-place.ensures in
    tracked_pass i.states i.queue i.tasks.items i.files.origins.items i.scannable c.args.rule.0 c.first_undone-place.result c.index_mut.result.now at (rw same p.done) (rw same p.further) c.self.invariant

pub returns-then-number-len-clause-stays : goal.returns-then-number-len-clause-stays
returns-then-number-len-clause-stays c =
    let i = c.self.inside in
    let within : c.args.rule.0 < length i.tasks.items = omega (arith, i.tasks.ok.0, c.len.ensures, c.if-number-len.true) in
    let at = slice_get_read i.tasks.items (length i.tasks.items) c.args.rule.0 c.index_mut.result.now refl within c.index_mut.ensures.value in
    rw (sym c.self.view_is) (record { states = refl; halted = refl; origins = refl; rules = kept_still i.tasks.items c.args.rule.0 c.index_mut.result.now _ at refl })

pub returns-then-number-len-clause-passes : goal.returns-then-number-len-clause-passes
returns-then-number-len-clause-passes c =
    let i = c.self.inside in
    let within : c.args.rule.0 < length i.tasks.items = omega (arith, i.tasks.ok.0, c.len.ensures, c.if-number-len.true) in
    let read = slice_get_read i.tasks.items (length i.tasks.items) c.args.rule.0 c.index.result.now refl within c.index.ensures in
    let at = slice_get_read i.tasks.items (length i.tasks.items) c.args.rule.0 c.index_mut.result.now refl within c.index_mut.ensures.value in
    let same : c.index_mut.result.now ≡ c.index.result.now = same_Some _ _ (sym at ∙ read) in
    rw (sym c.self.view_is)
    (passes_task i.states i.queue i.halted i.tasks.items i.files.origins.items i.scannable i.files.waiters.items i.is_ordered i.roots.items c.args.rule.0 c.index_mut.result.now at c.first_undone-place.result (rw same c.first_undone-place.ensures.undone))

pub returns-else-number-len-clause-passes : goal.returns-else-number-len-clause-passes
returns-else-number-len-clause-passes c =
    let i = c.self.inside in
    let past : length i.tasks.items ≤ c.args.rule.0 = omega (arith, i.tasks.ok.0, c.len.ensures, c.if-number-len.false) in
    rw (sym c.self.view_is) (passes_none _ c.args.rule.0 (λ kept k. no_kept i.tasks.items c.args.rule.0 kept past k))
