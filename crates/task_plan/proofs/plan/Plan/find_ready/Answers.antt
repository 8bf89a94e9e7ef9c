use Rattle.std.proofs.Common.{arith, ◌≡◌, ◌<◌, ◌∙◌, length, refl, sym}
use Rattle.std.proofs.lemmas.Option.{same_Some, slice_get_read}
use Rattle.task_plan.proofs.TrackLemmas.{tracked_ready}
use Rattle.task_plan.proofs.WantLemmas.{kept_still}
use Rattle.task_plan.proofs.StandLemmas.{readies_task, readies_none, no_kept}
use Rattle.task_plan.proofs.plan.Plan.find_ready.Goals as goal
use Rattle.task_plan.proofs.plan.Plan.find_ready.Goals.{else-number-len-via-then-number-len+else-waits, else-number-len-via-else-number-len}

pub invariant_of-self : goal.invariant_of-self
invariant_of-self c =
    let i = c.self.inside in
    let within : c.args.rule.0 < length i.tasks.items = omega (arith, i.tasks.ok.0, c.len.ensures, c.if-number-len.true) in
    let first = slice_get_read i.tasks.items (length i.tasks.items) c.args.rule.0 c.index.result.now refl within c.index.ensures in
    let second = slice_get_read i.tasks.items (length i.tasks.items) c.args.rule.0 c.index-then-waits.result.now refl within c.index-then-waits.ensures in
    let at = slice_get_read i.tasks.items (length i.tasks.items) c.args.rule.0 c.index_mut.result.now refl within c.index_mut.ensures.value in
    let one : c.index_mut.result.now ≡ c.index.result.now = same_Some _ _ (sym at ∙ first) in
    let two : c.index_mut.result.now ≡ c.index-then-waits.result.now = same_Some _ _ (sym at ∙ second) in
    rw c.put.ensures
    (tracked_ready i.states i.queue i.tasks.items i.files.origins.items i.scannable c.args.rule.0 c.next_ready-place.result c.index_mut.result.now c.is_place-is_there.result at
    (c.waits.ensures.waits c.if-waits.true) (rw one c.next_ready-place.ensures.ready) (rw two c.is_place-is_there.ensures.there) c.self.invariant)

pub returns-then-waits-clause-stays : goal.returns-then-waits-clause-stays
returns-then-waits-clause-stays c =
    let i = c.self.inside in
    let within : c.args.rule.0 < length i.tasks.items = omega (arith, i.tasks.ok.0, c.len.ensures, c.if-number-len.true) in
    let at = slice_get_read i.tasks.items (length i.tasks.items) c.args.rule.0 c.index_mut.result.now refl within c.index_mut.ensures.value in
    rw (sym c.self.view_is) (record { states = refl; halted = refl; origins = refl; rules = kept_still i.tasks.items c.args.rule.0 c.index_mut.result.now _ at refl })

pub returns-then-waits-clause-readies : goal.returns-then-waits-clause-readies
returns-then-waits-clause-readies c =
    let i = c.self.inside in
    let within : c.args.rule.0 < length i.tasks.items = omega (arith, i.tasks.ok.0, c.len.ensures, c.if-number-len.true) in
    let first = slice_get_read i.tasks.items (length i.tasks.items) c.args.rule.0 c.index.result.now refl within c.index.ensures in
    let second = slice_get_read i.tasks.items (length i.tasks.items) c.args.rule.0 c.index-then-waits.result.now refl within c.index-then-waits.ensures in
    let at = slice_get_read i.tasks.items (length i.tasks.items) c.args.rule.0 c.index_mut.result.now refl within c.index_mut.ensures.value in
    let one : c.index_mut.result.now ≡ c.index.result.now = same_Some _ _ (sym at ∙ first) in
    let two : c.index_mut.result.now ≡ c.index-then-waits.result.now = same_Some _ _ (sym at ∙ second) in
    rw (sym c.self.view_is, c.put.ensures)
    (readies_task i.states i.queue i.halted i.tasks.items i.files.origins.items i.scannable i.files.waiters.items i.is_ordered i.roots.items c.args.rule.0 c.index_mut.result.now at
    c.next_ready-place.result c.args.start c.is_place-is_there.result (rw one c.next_ready-place.ensures.first) (rw two c.is_place-is_there.ensures.not) c.self.invariant)

pub returns-else-number-len-clause-readies : goal.returns-else-number-len-clause-readies
returns-else-number-len-clause-readies c =
    let i = c.self.inside in
    rw (sym c.self.view_is)
    (readies_none _ c.args.rule.0 c.args.start (λ w kept k. elim c.else-number-len.branch [
      | else-number-len-via-then-number-len+else-waits v ↦ v.waits.ensures.not v.if-waits.false w
      | else-number-len-via-else-number-len v ↦ no_kept i.tasks.items c.args.rule.0 kept (let le = v.if-number-len.false in omega (arith, i.tasks.ok.0, c.len.ensures)) k
    ]))
