use Rattle.std.proofs.Common.{◌≡◌, ◌-◌}
use Rattle.deciders.specs.Reading.{many, dep_at}
use Rattle.deciders.proofs.Loop.{with_front}
use Rattle.deciders.proofs.decoding.deps_of.Given as goal

abbrev pub invariant-loop : goal.invariant-loop
invariant-loop l = with_front l.deps.items (many (dep_at l.hash) (l.count - l.counter) l.rest) ≡ many (dep_at l.hash) l.count l.bytes
