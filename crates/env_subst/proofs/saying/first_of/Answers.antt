use Rattle.env_subst.proofs.saying.first_of.Goals as goal

pub returns-in-Words : goal.returns-in-Words
returns-in-Words c = rw c.in-Words.is (c.first_word.ensures c.args.locals.now)

pub returns-in-Pairs : goal.returns-in-Pairs
returns-in-Pairs c = rw c.in-Pairs.is (c.first_pair.ensures c.args.locals.now)
