use Rattle.std.proofs.lemmas.Str.{IsCharBoundary-start}
use Rattle.env_subst.proofs.reading.beginning.Goals as goal

pub invariant_of-result : goal.invariant_of-result
invariant_of-result c = record { boundary = IsCharBoundary-start c.args.text (rw c.as_str-characters.ensures at c.as_str-characters.utf8) }
