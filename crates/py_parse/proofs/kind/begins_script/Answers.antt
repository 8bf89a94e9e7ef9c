use Rattle.std.proofs.Common.{refl}
use Rattle.py_parse.proofs.Found.{begins_if_read, begins_if_done}
use Rattle.py_parse.proofs.kind.begins_script.Goals as goal
use Rattle.py_parse.proofs.kind.begins_script.Goals.{in-Ok, in-Err-At, in-Err-TooDeep, in-Err-Memory}

pub returns : goal.returns
returns c =
    elim c.match-read_script.branch [
      | in-Ok w ↦ rw w.result-is (λ t. begins_if_read c.args.tokens.now _ w.in-Ok.ensures, λ b. refl)
      | in-Err-At w ↦ rw (w.result-is, w.is_empty.ensures) (begins_if_done c.args.tokens.now _ _ (rw w.in-Err-At.field-0-is at w.in-Err-At.ensures))
      | in-Err-TooDeep w ↦
          rw (w.result-is, w.is_empty-in-Err-TooDeep.ensures) (begins_if_done c.args.tokens.now _ _ (rw w.in-Err-TooDeep.field-0-is at w.in-Err-TooDeep.ensures))
      | in-Err-Memory w ↦ rw w.result-is tt
    ]
