use Rattle.std.proofs.Common.{◌≡◌, map, take}
use Rattle.scons_top.specs.Asked.{word_of}
use Rattle.scons_top.proofs.requests.words_of.Given as goal

abbrev pub invariant-loop-wish : goal.invariant-loop-wish
invariant-loop-wish l = l.words.items ≡ map word_of (take l.wish-index l.wishes)
