use Rattle.std.proofs.Common.{◌∙◌}
use Rattle.world_api.proofs.Looking.{looks_joined}
use Rattle.task_plan.specs.Settled.{deps_of}
use Rattle.build_files.proofs.Truths.{asked}
use Rattle.scons_report.proofs.Finished.{kn}
use Rattle.scons_report.proofs.Going.{none_runs}
use Rattle.scons_report.proofs.Judging.{judged, present_is, ready_on, still_all, targets_are}
use Rattle.scons_report.proofs.dry.look_at.Goals as goal

pub returns-in_err-now-clause-ready : goal.returns-in_err-now-clause-ready
returns-in_err-now-clause-ready g c = λ tells b requested t stamps is.
    let m = g.W.Disk.meaning in
    let read = c.present.ensures in
    ready_on b requested t stamps c.args.graph.now c.args.inputs.now c.args.plan.now (m.around c.args.world.now) is c.present.new.self
    (m.around c.present.new.world) (read.looks.around tells) read.gone
    (read.truth (still_all b requested t stamps c.args.graph.now c.args.inputs.now c.args.plan.now (m.around c.args.world.now) is _) tells b is.over.truth) read.marks

pub returns-in-Record-clause-looks : goal.returns-in-Record-clause-looks
returns-in-Record-clause-looks g c = looks_joined g.W.Disk.meaning _ _ _ c.present.ensures.looks c.list_stale.ensures.looks

pub returns-in-Record-clause-ready : goal.returns-in-Record-clause-ready
returns-in-Record-clause-ready g c = λ tells b requested t stamps is.
    let m = g.W.Disk.meaning in
    let read = c.present.ensures in
    let later = c.list_stale.ensures.looks in
    let mid = later.told.told tells in
    let looks = looks_joined m _ _ _ read.looks later in
    ready_on b requested t stamps c.args.graph.now c.args.inputs.now c.args.plan.now (m.around c.args.world.now) is c.present.new.self
    (m.around c.list_stale.new.world) (looks.around tells) read.gone
    (asked b c.args.graph.now c.present.new.self (m.around c.present.new.world) (m.around c.list_stale.new.world) (later.around tells)
    (read.truth (still_all b requested t stamps c.args.graph.now c.args.inputs.now c.args.plan.now (m.around c.args.world.now) is _) mid b is.over.truth)) read.marks

pub returns-in-Record-clause-lists : goal.returns-in-Record-clause-lists
returns-in-Record-clause-lists g c = λ tells own b requested t stamps front is needed behind are.
    let m = g.W.Disk.meaning in
    let graph = c.args.graph.now in
    let inputs = c.args.inputs.now in
    let plan = c.args.plan.now in
    let old = m.around c.args.world.now in
    let mid = c.list_stale.ensures.looks.told.told tells in
    let asks = c.present.ensures.looks.around mid in
    let k = kn b requested t graph inputs plan old is.over is.finished c.args.rule.0 needed in
    let read = c.in_ok-now.ensures.present (still_all b requested t stamps graph inputs plan old is _) mid b is.over.truth in
    let present = present_is graph c.args.rule.0 _ (deps_of plan.rules c.args.rule.0) inputs.gone.keys old b _ c.in-Record.now c.deps-deps.ensures c.in-Record.is read k.rule k.numbered in
    let targets = targets_are b requested t stamps graph inputs plan old is c.args.rule needed c.in-Record.now present.0 in
    judged b requested t stamps graph inputs plan old is c.args.rule needed c.in-Record.now present.0 (m.around c.present.new.world) asks _ front behind
    c.args.listed.now c.list_stale.new.listed are _ c.deps-deps.ensures c.list_stale.result
    (c.list_stale.ensures.lists tells
    (λ path among. none_runs (m.around c.present.new.world) (asks.running ∙ is.over.idle) path) own present.1 b k.rule is.over.now.grown k.numbered targets)

pub returns-in-Lacks-clause-ready : goal.returns-in-Lacks-clause-ready
returns-in-Lacks-clause-ready g c = λ tells b requested t stamps is.
    let m = g.W.Disk.meaning in
    let read = c.present.ensures in
    ready_on b requested t stamps c.args.graph.now c.args.inputs.now c.args.plan.now (m.around c.args.world.now) is c.present.new.self
    (m.around c.present.new.world) (read.looks.around tells) read.gone
    (read.truth (still_all b requested t stamps c.args.graph.now c.args.inputs.now c.args.plan.now (m.around c.args.world.now) is _) tells b is.over.truth) read.marks
