-- What an end says of the outside: which of its counts rose, and that no other did.
use Rattle.std.specs.Prelude.{◌≡◌, ◌≤◌, ℕ, Option, Some, None, Result, Ok, Err}
use Rattle.scons_base.specs.Rising.{Rose}
use Rattle.world_api.specs.Causes.{TreeFails}
use Rattle.world_api.specs.Counts.{Counts}
use Rattle.world_api.specs.Looks.{IsTreeAlone}
use Rattle.world_api.specs.Meaning.{Meaning}
use Rattle.world_api.specs.Printed.{SinkMeaning}
use Rattle.scons_host.specs.declared.end.HostEnd.{HostEnd}
use Rattle.scons_host.specs.declared.end.HostEnd.TheVariants as end
use Rattle.scons_host.specs.declared.stop.Stop.{Stop}
use Rattle.scons_host.specs.declared.stop.Stop.TheVariants as stop

-- a stop of the file tree comes where that was at fault, and none of a sink comes; for want of memory a fault of the tree may
-- remain untold; with any other stop nothing was at fault
abbrev pub HasStopCause : Counts → Counts → Stop → Type 0
HasStopCause old new (stop.Tree path) = TreeFails old new
HasStopCause old new stop.Out = ⊥
HasStopCause old new (stop.Here kind) = new ≡ old
HasStopCause old new (stop.There path line kind) = new ≡ old
HasStopCause old new (stop.TooLarge path size) = new ≡ old
HasStopCause old new (stop.TooMany what count) = new ≡ old
HasStopCause old new stop.Memory = IsTreeAlone old new

-- where all was well nothing was at fault, and a stop has its cause
abbrev pub HasLookCause : {T : Type 0} → Counts → Counts → Result T Stop → Type 0
HasLookCause old new (Ok value) = new ≡ old
HasLookCause old new (Err s) = HasStopCause old new s

-- a stop for which nothing outside is at fault
abbrev pub IsInside : Stop → Type 0
IsInside s = (counts : Counts) → HasStopCause counts counts s

-- how often the world, and the sink on which scripts print, were at fault
pub record Outside : Type 0 where
  pub counts : Counts
  pub out : ℕ

abbrev pub at_counts : Counts → ℕ → Outside
at_counts counts out = record { counts = counts; out = out }

abbrev pub outside : {W O : Type 0} → Meaning W → SinkMeaning O → W → O → Outside
outside m o world out = at_counts (m.counts world) (o.faults out)

-- no count fell, and of those of the world none but that of the file tree changed
pub record IsLater (old new : Outside) : Type 0 where
  pub counts : IsTreeAlone old.counts new.counts
  pub out : old.out ≤ new.out

-- the file tree was at fault, and nothing else
pub record TreeFailed (old new : Outside) : Type 0 where
  pub tree : TreeFails old.counts new.counts
  pub out : new.out ≡ old.out

-- the sink was at fault, and nothing else
pub record OutFailed (old new : Outside) : Type 0 where
  pub counts : new.counts ≡ old.counts
  pub out : Rose old.out new.out

-- an end of the file tree or of the sink comes where that was at fault; for want of memory a fault may remain untold; with any
-- other end nothing was at fault
abbrev pub HasEndCause : Outside → Outside → HostEnd → Type 0
HasEndCause old new (end.Tree path) = TreeFailed old new
HasEndCause old new end.Out = OutFailed old new
HasEndCause old new (end.Reading path line kind) = new ≡ old
HasEndCause old new (end.TooLarge path size) = new ≡ old
HasEndCause old new (end.TooMany what count) = new ≡ old
HasEndCause old new end.Memory = IsLater old new

-- where all was well nothing was at fault, and an end has its cause
abbrev pub HasCause : {T : Type 0} → Outside → Outside → Result T HostEnd → Type 0
HasCause old new (Ok value) = new ≡ old
HasCause old new (Err e) = HasEndCause old new e

-- the same of a reading over a world and a sink
abbrev pub ReadingCauses : {W O T : Type 0} → Meaning W → SinkMeaning O → W → O → W → O → Result T HostEnd → Type 0
ReadingCauses m o world out new_world new_out result = HasCause (outside m o world out) (outside m o new_world new_out) result

-- the same of calls on the world alone
abbrev pub WorldCauses : {W T : Type 0} → Meaning W → W → W → Result T HostEnd → Type 0
WorldCauses m world new_world result = (out : ℕ) → HasCause (at_counts (m.counts world) out) (at_counts (m.counts new_world) out) result

-- over a world, the file tree was at fault, and nothing else
abbrev pub TreeFailsOn : {W : Type 0} → Meaning W → W → W → Type 0
TreeFailsOn m world new_world = TreeFails (m.counts world) (m.counts new_world)

-- the end that a look gives has the look's cause, however often the sink was at fault before
abbrev pub EndsLook : {T U : Type 0} → Result T Stop → Result U HostEnd → Type 0
EndsLook look result = (old new : Counts) (out : ℕ) → HasLookCause old new look → HasCause (at_counts old out) (at_counts new out) result

-- an end that is neither of the file tree nor of a sink
abbrev pub IsOwn : HostEnd → Type 0
IsOwn (end.Tree path) = ⊥
IsOwn end.Out = ⊥
IsOwn (end.Reading path line kind) = Unit {0}
IsOwn (end.TooLarge path size) = Unit {0}
IsOwn (end.TooMany what count) = Unit {0}
IsOwn end.Memory = Unit {0}

-- the end that a stop gives, as far as the outside goes
abbrev pub IsEndOf : Stop → HostEnd → Type 0
IsEndOf (stop.Tree path) e = e ≡ end.Tree path
IsEndOf stop.Out e = e ≡ end.Out
IsEndOf (stop.Here kind) e = IsOwn e
IsEndOf (stop.There path line kind) e = IsOwn e
IsEndOf (stop.TooLarge path size) e = IsOwn e
IsEndOf (stop.TooMany what count) e = IsOwn e
IsEndOf stop.Memory e = e ≡ end.Memory

-- what is kept is the end that this stop gives
abbrev pub KeepsEnd : Stop → Option HostEnd → Type 0
KeepsEnd s None = ⊥
KeepsEnd s (Some e) = IsEndOf s e

-- what is kept is an end that has its cause
abbrev pub HasKeptCause : Outside → Outside → Option HostEnd → Type 0
HasKeptCause old new None = ⊥
HasKeptCause old new (Some e) = HasEndCause old new e
