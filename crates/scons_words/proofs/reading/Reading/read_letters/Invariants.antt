use Rattle.std.proofs.Common.{◌≡◌, length}
use denote.Shadow.{shadow}
use denote.Text.{Utf8}
use Rattle.scons_words.specs.Readings.{behind_dash}
use Rattle.scons_words.proofs.reading.Reading.read_letters.Given as goal

abbrev pub invariant-letters : goal.invariant-letters
invariant-letters l = (behind_dash l.self l.rest ≡ behind_dash l.initial.self l.letters) × shadow (Utf8 l.rest)

abbrev pub decreases-letters : goal.decreases-letters
decreases-letters l = length l.rest
