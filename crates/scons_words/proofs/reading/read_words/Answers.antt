use Rattle.std.proofs.Common.{◌∙◌, sym}
use Rattle.scons_words.proofs.WordLemmas.{word_more, word_fails}
use Rattle.scons_words.proofs.reading.read_words.Goals as goal

pub loop-place-preserved : goal.loop-place-preserved
loop-place-preserved c = sym (word_more _ _ _ _ _ c.loop-place-test.true c.index-words-place.is c.in-Ok.ensures.ok) ∙ c.loop-place.invariant

pub returns-in-Err-clause-fault : goal.returns-in-Err-clause-fault
returns-in-Err-clause-fault c = λ told. sym c.loop-place.invariant ∙ word_fails _ _ _ _ _ c.loop-place-test.true c.index-words-place.is (c.in-Err.ensures.fault told)
