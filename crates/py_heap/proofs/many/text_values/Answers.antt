use Rattle.std.proofs.Common.{arith}
use Rattle.py_heap.proofs.Counts.{texts_more}
use Rattle.py_heap.proofs.many.text_values.Goals as goal

pub numbers-preserved : goal.numbers-preserved
numbers-preserved c =
    texts_more c.numbers.number c.in-Some.end c.numbers.made c.push.new.self _ (omega arith) c.numbers.invariant (c.in_ok-push.ensures {u = tt}).ok
