use Rattle.scons_top.proofs.Opening.{store_opening, store_refused}
use Rattle.scons_top.proofs.Stepping.{store_stops}
use Rattle.scons_top.proofs.build_step.begin_store.Goals as goal

pub returns-in-Err-clause-stops : goal.returns-in-Err-clause-stops
returns-in-Err-clause-stops g c = store_stops c.from.result _ c.from.ensures.1

pub returns-in-Err-clause-bytes : goal.returns-in-Err-clause-bytes
returns-in-Err-clause-bytes g c = λ t. store_refused (g.W.Disk.meaning.seen c.args.world.now) c.from.result _ c.from.ensures.1 (c.in-Err.ensures.refused t)

pub returns-in-Err-clause-refused : goal.returns-in-Err-clause-refused
returns-in-Err-clause-refused g c = λ t. store_opening (g.W.Disk.meaning.seen c.args.world.now) c.from.result _ c.from.ensures.1 (c.in-Err.ensures.refused t)
