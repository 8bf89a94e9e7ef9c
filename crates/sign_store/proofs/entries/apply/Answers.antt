use Rattle.std.proofs.Common.{subst}
use Rattle.sign_store.specs.declared.entries.Change.{Change}
use Rattle.sign_store.specs.Orders.{IsWholeChange}
use Rattle.sign_store.proofs.NumberLemmas.{ordered_removed}
use Rattle.sign_store.proofs.entries.apply.Goals as goal

pub returns-in-Put-clause-ordered : goal.returns-in-Put-clause-ordered
returns-in-Put-clause-ordered c = λ whole before. c.put.ensures.ordered (subst (λ (x : Change). IsWholeChange x) c.in-Put.is whole) before

pub returns-in-Withdraw-clause-ordered : goal.returns-in-Withdraw-clause-ordered
returns-in-Withdraw-clause-ordered c = λ whole before. ordered_removed c.args.map.now c.remove.new.self c.as_slice.result.now before c.remove.ensures.records c.remove.ensures.numbers
