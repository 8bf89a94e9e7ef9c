use Rattle.std.proofs.Common.{arith}
use Rattle.py_heap.proofs.Charges.{charge_fits, charge_passes}
use Rattle.py_heap.proofs.budget.Budget.charge.Goals as goal

pub returns-then-self-units-clause-fault : goal.returns-then-self-units-clause-fault
returns-then-self-units-clause-fault c =
    rw (← c.self.view_is) (charge_passes c.self.inside.total c.self.inside.used c.args.units c.self.invariant (omega arith))

pub returns-clause-ok : goal.returns-clause-ok
returns-clause-ok c =
    rw (← c.self.view_is) (charge_fits c.self.inside.total c.self.inside.used c.args.units c.self.invariant (omega arith))
