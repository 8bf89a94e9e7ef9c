use Rattle.scons_top.proofs.Causing.{memory_top}
use Rattle.scons_top.proofs.reading.no_top.Goals as goal

pub returns-in-Err-clause-top : goal.returns-in-Err-clause-top
returns-in-Err-clause-top c = memory_top
