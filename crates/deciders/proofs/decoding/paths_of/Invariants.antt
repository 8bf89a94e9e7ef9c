use Rattle.std.proofs.Common.{◌≡◌, ◌-◌}
use Rattle.deciders.specs.Reading.{many, path_at}
use Rattle.deciders.proofs.Loop.{with_front}
use Rattle.deciders.proofs.decoding.paths_of.Given as goal

abbrev pub invariant-loop : goal.invariant-loop
invariant-loop l = with_front l.paths.items (many path_at (l.count - l.counter) l.rest) ≡ many path_at l.count l.bytes
