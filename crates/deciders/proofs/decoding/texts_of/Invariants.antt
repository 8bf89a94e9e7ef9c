use Rattle.std.proofs.Common.{◌≡◌, ◌-◌}
use Rattle.deciders.specs.Reading.{many, text_at}
use Rattle.deciders.proofs.Loop.{with_front}
use Rattle.deciders.proofs.decoding.texts_of.Given as goal

abbrev pub invariant-loop : goal.invariant-loop
invariant-loop l = with_front l.texts.items (many text_at (l.count - l.counter) l.rest) ≡ many text_at l.count l.bytes
