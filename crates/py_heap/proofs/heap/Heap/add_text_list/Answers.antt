use Rattle.std.proofs.Common.{arith}
use Rattle.py_heap.proofs.heap.Heap.add_text_list.Goals as goal

-- the room that was taken before keeps this from failing
pub returns-in_err-push-clause-err : goal.returns-in_err-push-clause-err
returns-in_err-push-clause-err c = absurd (omega (arith, (c.in_ok-reserve.ensures {u = tt}).ok, (c.in_err-push.ensures {u = tt}).full))
