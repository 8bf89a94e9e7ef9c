use Rattle.scons_top.proofs.Stepping.{closed_at, faults_of}
use Rattle.scons_top.proofs.Reported.{closed_found}
use Rattle.scons_top.proofs.Reporting.{closes}
use Rattle.scons_top.proofs.ending.closed.Goals as goal

pub returns-clause-causes : goal.returns-clause-causes
returns-clause-causes c =
    closes _ _ _ _ _ _ _ _ c.report.result c.empty-faults.ensures c.add_all-lacks.ensures.added c.add_all-lacks.ensures.each c.add_all-lacks.ensures.few c.add_unwritten-lost.ensures.adds c.report.ensures.faults
    (λ ne. c.was_wanting.ensures (c.report.ensures.memory ne))

pub returns-clause-ends : goal.returns-clause-ends
returns-clause-ends c = λ all.
    faults_of c.args.step _ _ c.report.ensures.faults
    (closed_at c.args.step c.args.found _ _ _ _ _ c.empty-faults.ensures c.add_all-lacks.ensures.each c.add_unwritten-lost.ensures.adds all)

pub returns-clause-only : goal.returns-clause-only
returns-clause-only c =
    closed_found c.args.found _ _ _ _ _ c.report.result c.empty-faults.ensures c.add_all-lacks.ensures.each c.add_unwritten-lost.ensures.adds c.report.ensures.faults
