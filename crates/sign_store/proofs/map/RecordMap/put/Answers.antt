use Rattle.sign_store.proofs.NumberLemmas.{ordered_put}
use Rattle.sign_store.proofs.map.RecordMap.put.Goals as goal

pub returns-clause-ordered : goal.returns-clause-ordered
returns-clause-ordered c = λ whole before.
    ordered_put c.args.self.now c.add.new.self c.set.new.self c.args.rec c.in_ok-number.number whole before c.in_ok-number.ensures.records c.add.ensures.numbers c.in_ok-number.ensures.number c.set.ensures.records
    (c.set.ensures.numbers c.args.rec c.in_ok-number.ensures.record)
