use Rattle.std.proofs.Common.{arith, ◌≡◌, ◌<◌, Some, length, refl, sym}
use Rattle.std.specs.Prelude.{slice_get}
use Rattle.std.proofs.lemmas.Bool.{ltb-true}
use Rattle.std.proofs.lemmas.Option.{slice_get_read}
use Rattle.task_plan.proofs.StandLemmas.{starts_before, before_position, none_standing}
use Rattle.task_plan.proofs.plan.Plan.scan_start_with.Goals as goal

pub returns-in-Some-get_index_of : goal.returns-in-Some-get_index_of
returns-in-Some-get_index_of c =
    let i = c.self.inside in
    let tasks = c.deref.result.now in
    let found = c.in-Some.ensures.lookup in
    let task = c.in-Some.task.now in
    let within : c.args.rule.0 < length tasks = ltb-true c.args.rule.0 (length tasks) (sym found.0) in
    let read : slice_get tasks c.args.rule.0 ≡ Some task = slice_get_read tasks (length tasks) c.args.rule.0 task refl within found.1 in
    let at : slice_get i.tasks.items c.args.rule.0 ≡ Some task = rw (sym c.deref.ensures.value) read in
    let least = c.min.ensures in
    rw (sym c.self.view_is)
    (starts_before _ i.tasks.items c.args.rule.0 task c.args.node c.min.result refl refl at (omega arith)
    (λ k n lt g. before_position task.reach.files.keys c.args.node c.in-Some-get_index_of.place k n c.in-Some-get_index_of.ensures.index (omega arith) g))

pub returns-in-None-get_index_of : goal.returns-in-None-get_index_of
returns-in-None-get_index_of c =
    let i = c.self.inside in
    let tasks = c.deref.result.now in
    let found = c.in-Some.ensures.lookup in
    let task = c.in-Some.task.now in
    let within : c.args.rule.0 < length tasks = ltb-true c.args.rule.0 (length tasks) (sym found.0) in
    let read : slice_get tasks c.args.rule.0 ≡ Some task = slice_get_read tasks (length tasks) c.args.rule.0 task refl within found.1 in
    let at : slice_get i.tasks.items c.args.rule.0 ≡ Some task = rw (sym c.deref.ensures.value) read in
    rw (sym c.self.view_is)
    (starts_before _ i.tasks.items c.args.rule.0 task c.args.node task.reach.next refl refl at (omega arith)
    (λ k n lt g. none_standing task.reach.files.keys c.args.node k n (sym c.in-None-get_index_of.ensures.found) g))
