use Rattle.std.proofs.Common.{rules, ◌≡◌, ◌∙◌, ◌<◌, sym, ap, subst, Contains, length, map, List}
use Rattle.std.specs.List.{slice_index_or}
use Rattle.std.proofs.lemmas.List.{length-map}
use Rattle.world_api.specs.declared.job.Outcome.TheVariants.{Done}
use Rattle.world_mem.specs.CallCounts.{next}
use Rattle.world_mem.specs.Kept.{running_of}
use Rattle.world_mem.specs.Stamps.{Stamps}
use Rattle.world_mem.specs.Planned.{ends}
use Rattle.world_mem.specs.declared.running.RunningJob.{RunningJob}
use Rattle.act_table.specs.declared.table.ActRow.{ActRow}
use Rattle.world_mem.proofs.ToldPlan.{planned_contents, planned_outcome}
use Rattle.world_mem.proofs.state.State.end_as.Goals as goal

pub refill-requires-clause-planned : goal.refill-requires-clause-planned
refill-requires-clause-planned c =
    let old = c.args.self.now in
    let done : c.args.outcome ≡ Done = search rules in
    let lt : c.args.place < length old.running.items = rw length-map at c.requires.place in
    planned_contents old.table old.running.items c.args.place c.args.outcome c.args.made old.planned lt done c.requires.told

pub returns-then-eq-clause-outcome : goal.returns-then-eq-clause-outcome
returns-then-eq-clause-outcome c =
    let old = c.args.self.now in
    let done : c.args.outcome ≡ Done = search rules in
    let d = c.end.ensures.ended.which in
    planned_outcome old.table c.refill.new.self.table old.running.items c.refill.new.self.running.items c.args.place c.args.outcome c.args.made c.end.result.outcome d
    c.refill.ensures.table c.refill.ensures.running done (c.end.ensures.outcome d) (c.requires.told d)

pub returns-clause-outcome : goal.returns-clause-outcome
returns-clause-outcome c = c.end-2.ensures.outcome c.end-2.ensures.ended.which

pub returns-clause-absent : goal.returns-clause-absent
returns-clause-absent c = λ d path bad own. c.end-2.ensures.absent d path (λ done. bad (sym (c.end-2.ensures.outcome d) ∙ done)) own

pub returns-clause-unmet : goal.returns-clause-unmet
returns-clause-unmet c = λ bad. c.end-2.ensures.unmet (λ done. bad (sym (c.end-2.ensures.outcome c.end-2.ensures.ended.which) ∙ done))

pub returns-then-eq-clause-stamps : goal.returns-then-eq-clause-stamps
returns-then-eq-clause-stamps c = λ d.
    let place = c.args.place in
    let mid = c.refill.new.self in
    let stamps = subst (λ (runs : List RunningJob). Stamps (Contains (slice_index_or (map running_of runs) place d).job.targets) mid c.end.new.self) c.refill.ensures.running (c.end.ensures.stamps d) in
    record { counted = stamps.counted ∙ ap next c.refill.ensures.stamp; stamped = stamps.stamped }
