use Rattle.std.proofs.Common.{arith, ◌<◌, length, refl, sym}
use Rattle.std.proofs.lemmas.Option.{slice_get_read}
use Rattle.task_plan.proofs.TrackLemmas.{tracked_open}
use Rattle.task_plan.proofs.WantLemmas.{planned}
use Rattle.task_plan.proofs.StandLemmas.{offers_put, offers_none, not_offered, no_kept}
use Rattle.task_plan.proofs.plan.Plan.note_decidable.Goals as goal
use Rattle.task_plan.proofs.plan.Plan.note_decidable.Goals.{else-number-len-via-then-number-len+then-waits+else-is_ready, else-number-len-via-then-number-len+else-waits, else-number-len-via-else-number-len}

pub invariant_of-self : goal.invariant_of-self
invariant_of-self c =
    let i = c.self.inside in
    let within : c.args.rule.0 < length i.tasks.items = omega (arith, i.tasks.ok.0, c.len.ensures, c.if-number-len.true) in
    let at = slice_get_read i.tasks.items (length i.tasks.items) c.args.rule.0 c.index.result.now refl within c.index.ensures in
    tracked_open i.states i.queue c.put.new.self i.tasks.items i.files.origins.items i.scannable c.args.rule.0 c.index.result.now at
    (c.waits.ensures.waits c.if-waits.true) (c.is_ready.ensures.through c.if-is_ready.true) c.put.ensures.others c.self.invariant

pub returns-then-is_ready-clause-offers : goal.returns-then-is_ready-clause-offers
returns-then-is_ready-clause-offers c =
    let i = c.self.inside in
    let within : c.args.rule.0 < length i.tasks.items = omega (arith, i.tasks.ok.0, c.len.ensures, c.if-number-len.true) in
    let at = slice_get_read i.tasks.items (length i.tasks.items) c.args.rule.0 c.index.result.now refl within c.index.ensures in
    rw (sym c.self.view_is)
    (offers_put i.states i.queue i.halted i.tasks.items i.files.origins.items i.scannable i.files.waiters.items i.is_ordered i.roots.items c.args.rule.0 c.index.result.now at c.put.new.self
    c.put.ensures.order c.put.ensures.numbers c.put.ensures.this c.put.ensures.others)

pub returns-else-number-len-clause-offers : goal.returns-else-number-len-clause-offers
returns-else-number-len-clause-offers c =
    let i = c.self.inside in
    rw (sym c.self.view_is)
    (offers_none (planned i.states i.queue i.halted i.tasks.items i.files.origins.items i.scannable i.files.waiters.items i.is_ordered i.roots.items) c.args.rule.0 (λ kept place w k g n f. elim c.else-number-len.branch [
      | else-number-len-via-then-number-len+then-waits+else-is_ready v ↦
          let within : c.args.rule.0 < length i.tasks.items = let lt = v.if-number-len.true in omega (arith, i.tasks.ok.0, c.len.ensures) in
          let at = slice_get_read i.tasks.items (length i.tasks.items) c.args.rule.0 v.index.result.now refl within v.index.ensures in
          not_offered i.states i.queue i.halted i.tasks.items i.files.origins.items i.scannable i.files.waiters.items i.is_ordered i.roots.items c.args.rule.0 v.index.result.now at
          (v.is_ready.ensures.not v.if-is_ready.false) kept place k g n f
      | else-number-len-via-then-number-len+else-waits v ↦ v.waits.ensures.not v.if-waits.false w
      | else-number-len-via-else-number-len v ↦ no_kept i.tasks.items c.args.rule.0 kept (let le = v.if-number-len.false in omega (arith, i.tasks.ok.0, c.len.ensures)) k
    ]))
