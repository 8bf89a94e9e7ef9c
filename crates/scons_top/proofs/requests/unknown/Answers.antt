use Rattle.scons_top.proofs.Causing.{memory_inside}
use Rattle.scons_top.proofs.requests.unknown.Goals as goal

pub returns-in-Err-clause-inside : goal.returns-in-Err-clause-inside
returns-in-Err-clause-inside c = memory_inside
