use Rattle.env_subst.proofs.Said.{words_selected, pairs_selected}
use Rattle.env_subst.proofs.content.taken.Goals as goal

pub returns-in-Words : goal.returns-in-Words
returns-in-Words c = rw (c.in-Words.is, c.selected-in-Words.ensures) (words_selected c.args.selection c.in-Words.words.now)

pub returns-in-Pairs : goal.returns-in-Pairs
returns-in-Pairs c = rw (c.in-Pairs.is, c.selected-in-Pairs.ensures) (pairs_selected c.args.selection c.in-Pairs.pairs.now)
