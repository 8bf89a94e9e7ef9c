use Rattle.std.proofs.Common.{arith}
use Rattle.sign_store.proofs.BlockLemmas.{shown_read, shown_cut}
use Rattle.sign_store.proofs.blocks.needed.Goals as goal
use Rattle.sign_store.proofs.blocks.needed.Goals.{then-whole-len-via-then-whole-len, then-whole-len-via-else-whole-len+then-whole-left}

pub returns-then-whole-len-clause-ends : goal.returns-then-whole-len-clause-ends
returns-then-whole-len-clause-ends c = λ none.
    elim c.then-whole-len.branch [
      | then-whole-len-via-then-whole-len w ↦ shown_read c.args.version c.args.left c.args.front.now (omega arith) (omega arith) c.requires.none
      | then-whole-len-via-else-whole-len+then-whole-left w ↦ shown_cut c.args.version c.args.left c.args.front.now (omega arith) (omega arith)
    ]
