use Rattle.scons_top.proofs.Opening.{store_refused}
use Rattle.scons_top.proofs.Asking.{store_asks}
use Rattle.scons_top.specs.Asked.{NamesNone}
use Rattle.scons_top.proofs.lookups.read_records.Goals as goal

pub returns-in-Err-clause-stops : goal.returns-in-Err-clause-stops
returns-in-Err-clause-stops g c = store_asks NamesNone c.from.result _ c.from.ensures.1

pub returns-in-Err-clause-bytes : goal.returns-in-Err-clause-bytes
returns-in-Err-clause-bytes g c = λ t. store_refused (g.W.Disk.meaning.seen c.args.world.now) c.from.result _ c.from.ensures.1 (c.in-Err.ensures.refused t)
