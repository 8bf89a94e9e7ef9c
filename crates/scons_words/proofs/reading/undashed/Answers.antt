use Rattle.std.proofs.Common.{lit<}
use Rattle.std.proofs.lemmas.Str.Pattern.{strip_prefix_char}
use Rattle.scons_words.proofs.WordLemmas.{undashed_by}
use Rattle.scons_words.proofs.reading.undashed.Goals as goal

pub returns : goal.returns
returns c = undashed_by _ _ (strip_prefix_char 45 _ _ c.strip_prefix.ensures.cases (lit< tt))
