use Rattle.sign_store.proofs.NumberLemmas.{numbers_unset}
use Rattle.sign_store.proofs.map.RecordMap.remove.Goals as goal

pub returns-clause-numbers : goal.returns-clause-numbers
returns-clause-numbers c = numbers_unset c.args.paths.now c.args.self.now.table c.write_each.new.table c.write_each.ensures
