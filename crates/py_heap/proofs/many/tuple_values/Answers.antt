use Rattle.std.proofs.Common.{arith}
use Rattle.py_heap.proofs.Counts.{tuples_more}
use Rattle.py_heap.proofs.many.tuple_values.Goals as goal

pub numbers-preserved : goal.numbers-preserved
numbers-preserved c =
    tuples_more c.numbers.number c.in-Some.end c.numbers.made c.push.new.self _ (omega arith) c.numbers.invariant (c.in_ok-push.ensures {u = tt}).ok
