use Rattle.env_subst.proofs.Said.{words_parts, pairs_parts}
use Rattle.env_subst.proofs.content.shown_parts.Goals as goal

pub returns-in-Items : goal.returns-in-Items
returns-in-Items c = rw c.in-Items.is c.item_parts.ensures

pub returns-in-Words : goal.returns-in-Words
returns-in-Words c = rw c.in-Words.is (words_parts c.args.attribute c.in-Words.words.now _ _ c.is_empty.ensures c.no_parts.ensures)

pub returns-in-Pairs : goal.returns-in-Pairs
returns-in-Pairs c = rw c.in-Pairs.is (pairs_parts c.args.attribute c.in-Pairs.pairs.now _ _ c.is_empty-in-Pairs.ensures c.no_parts-in-Pairs.ensures)
