use Rattle.env_subst.proofs.Said.{words_said, pairs_said}
use Rattle.env_subst.proofs.content.said.Goals as goal

pub returns-in-Words : goal.returns-in-Words
returns-in-Words c = λ locals. rw c.in-Words.is (words_said locals c.in-Words.words.now)

pub returns-in-Pairs : goal.returns-in-Pairs
returns-in-Pairs c = λ locals. rw c.in-Pairs.is (pairs_said locals c.in-Pairs.pairs.now)
