use Rattle.std.proofs.Common.{◌≡◌, drop}
use Rattle.scons_words.specs.Readings.{read_from, read}
use Rattle.scons_words.proofs.reading.read_words.Given as goal

abbrev pub invariant-loop-place : goal.invariant-loop-place
invariant-loop-place l = read_from l.place l.reading (drop l.place l.words) ≡ read l.words
