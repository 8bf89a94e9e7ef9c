use Rattle.world_api.proofs.Looking.{looks_same}
use Rattle.build_run.proofs.Goings.{stays_here}
use Rattle.build_run.proofs.Sites.{looked_at}
use Rattle.build_run.proofs.Starting.{presents_as}
use Rattle.build_run.proofs.decide.present.Goals as goal

pub returns-clause-stays : goal.returns-clause-stays
returns-clause-stays g c = looked_at g.W.Disk.meaning _ _ c.present.result c.present.ensures.looks c.present.ensures.cause

pub returns-then-deps-clause-stays : goal.returns-then-deps-clause-stays
returns-then-deps-clause-stays g c = stays_here g.W.Disk.meaning c.args.world.now

pub returns-then-deps-clause-cause : goal.returns-then-deps-clause-cause
returns-then-deps-clause-cause g c = c.too_many.ensures _

pub returns-then-deps-clause-looks : goal.returns-then-deps-clause-looks
returns-then-deps-clause-looks g c = looks_same g.W.Disk.meaning c.args.world.now

pub returns-clause-presents : goal.returns-clause-presents
returns-clause-presents g c =
    let p = c.present.ensures in
    presents_as g.W.Disk.meaning c.args.graph.now c.args.run.now _ c.args.world.now c.present.new.world c.args.rule c.present.result
    c.deps-deps.result.now c.deps-deps.ensures p.gone p.truth p.present p.only p.marks
