use Rattle.std.proofs.Common.{lit<}
use Rattle.std.proofs.lemmas.Str.Pattern.{split_once_first}
use Rattle.scons_words.proofs.WordLemmas.{parted_by}
use Rattle.scons_words.proofs.reading.parted.Goals as goal

pub returns : goal.returns
returns c = parted_by c.args.text.now _ (split_once_first 61 c.args.text.now _ c.split_once.ensures.cases (lit< tt))
