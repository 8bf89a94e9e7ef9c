use Rattle.std.proofs.Common.{length}
use Rattle.std.specs.Prelude.{IfOk, IfErr, OnOk, Ok, Err}
use Rattle.scons_rules.specs.Numbers.{each_once, interned, Numbers}
use Rattle.scons_rules.proofs.Naming.{map_same}
use Rattle.scons_rules.proofs.interning.nodes_of.Goals as goal

pub returns-clause-ok : goal.returns-clause-ok
returns-clause-ok c = rw map_same at c.numbers_of.ensures.ok

pub returns-clause-fault : goal.returns-clause-fault
returns-clause-fault c = rw map_same at c.numbers_of.ensures.fault

pub returns-clause-nodes : goal.returns-clause-nodes
returns-clause-nodes c = rw map_same at c.numbers_of.ensures.nodes
