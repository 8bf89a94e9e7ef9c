-- What is seen of the host of scripts, the references that it holds, and what it means by them: each of its answers is a turn of the
-- rules by which scripts are read.
use Rattle.std.specs.Prelude.{ℕ}
use Rattle.py_host.specs.Lent.{lent}
use Rattle.py_host.specs.Meaning.{IsKept, IsDetermined}
use Rattle.py_host.specs.Meaning.{Meaning as HostMeaning}
use Rattle.py_host.proofs.Lending.{lent_kept, lent_determined}
use Rattle.world_api.specs.Meaning.{Meaning}
use Rattle.world_api.specs.Printed.{SinkMeaning}
use Rattle.scons_host.specs.ReadingRules.{reading_rules}
use Rattle.scons_host.specs.Saying.{Seen, seen, Held, held, saying}
use Rattle.scons_host.specs.SayingLaws.{saying_kept, saying_determined}
use Rattle.scons_host.specs.SoFar.{SoFar, so_far}
use Rattle.scons_host.specs.declared.host.ReadingHost.{ReadingHost}

abbrev pub seen_of : {W O : Type 0} → ReadingHost W O → Seen W O SoFar
seen_of h = seen h.world.now h.out.now (so_far h.state.now) h.kept.now

abbrev pub held_of : {W O : Type 0} → ReadingHost W O → Held ℕ
held_of h = held h.world.ghost_name h.out.ghost_name h.state.ghost_name h.kept.ghost_name

abbrev pub host_meaning : {W O : Type 0} → Meaning W → SinkMeaning O → HostMeaning (ReadingHost W O)
host_meaning m p = lent seen_of held_of (saying m p reading_rules)

pub host_kept : {W O : Type 0} (m : Meaning W) (p : SinkMeaning O) → IsKept (host_meaning {W = W} {O = O} m p)
host_kept m p = lent_kept seen_of held_of (saying m p reading_rules) (saying_kept m p reading_rules)

pub host_determined : {W O : Type 0} (m : Meaning W) (p : SinkMeaning O) → IsDetermined (host_meaning {W = W} {O = O} m p)
host_determined m p = lent_determined seen_of held_of (saying m p reading_rules) (saying_determined m p reading_rules)
