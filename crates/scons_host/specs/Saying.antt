-- What the host over a world and a sink means by rules: each answer is a turn of them, for any files that show what stands around. It
-- says so where the world and the sink tell, and nothing runs.
use Rattle.std.specs.Prelude.{◌≡◌, ◌≤◌, ◌++◌, ℕ, List, []}
use Rattle.scons_base.specs.Rising.{Rose}
use Rattle.py_heap.specs.Heap.{Objects}
use Rattle.py_host.specs.Calls.{Question, Answer, Answered, answers, refuses}
use Rattle.py_host.specs.Extends.{Extends}
use Rattle.py_host.specs.Meaning.{Meaning as HostMeaning}
use Rattle.world_api.specs.Looks.{LooksAtFiles}
use Rattle.world_api.specs.Meaning.{Meaning}
use Rattle.world_api.specs.Printed.{SinkMeaning}
use Rattle.scons_host.specs.declared.end.HostEnd.{HostEnd}
use Rattle.scons_host.specs.declared.end.HostEnd.TheVariants as end
use Rattle.scons_host.specs.declared.kept.Kept.{Kept}
use Rattle.scons_host.specs.Causes.{Outside, outside, HasKeptCause}
use Rattle.scons_host.specs.Files.{Files, Shows}
use Rattle.scons_host.specs.Untold.{untold_if}
use Rattle.scons_host.specs.Plain.{Plain}
use Rattle.scons_host.specs.Prints.{Prints}
use Rattle.scons_host.specs.Says.{IsFrom, Ends}
use Rattle.scons_host.specs.Turns.{Rules, answers_with}

-- what is seen of a host: its world, its sink, what was read so far, and what it keeps of a refusal
pub record Seen (W O S : Type 0) : Type 0 where
  pub world : W
  pub out : O
  pub state : S
  pub kept : Kept

abbrev pub seen : {W O S : Type 0} → W → O → S → Kept → Seen W O S
seen world out state kept = record { world = world; out = out; state = state; kept = kept }

-- the names of the references that a host holds
pub record Held (N : Type 0) : Type 0 where
  pub world : N
  pub out : N
  pub state : N
  pub kept : N

abbrev pub held : {N : Type 0} → N → N → N → N → Held N
held world out state kept = record { world = world; out = out; state = state; kept = kept }

-- an end of the file tree or of the sink
abbrev pub IsOutside : HostEnd → Type 0
IsOutside (end.Tree path) = Unit {0}
IsOutside end.Out = Unit {0}
IsOutside (end.Reading path line kind) = ⊥
IsOutside (end.TooLarge path size) = ⊥
IsOutside (end.TooMany what count) = ⊥
IsOutside end.Memory = ⊥

-- what a plain host would be
abbrev pub plain_of : {W O S : Type 0} → SinkMeaning O → Seen W O S → Plain S HostEnd
plain_of p h = record { state = h.state; printed = p.text h.out; end = untold_if h.kept.end; refusals = h.kept.refusals }

-- the outside is told of, nothing runs, and these are the files that stand around
pub record Sees {W O S : Type 0} (m : Meaning W) (p : SinkMeaning O) (f : Files) (old new : Seen W O S) : Type 0 where
  pub tells : m.tells new.world
  pub told : p.tells new.out
  pub quiet : (m.around old.world).running ≡ []
  pub shows : Shows (m.around old.world) f

-- what no call of the host changes
pub record Keeps {W O S : Type 0} (m : Meaning W) (p : SinkMeaning O) (old new : Seen W O S) : Type 0 where
  pub looks : LooksAtFiles m old.world new.world
  pub prints : Prints p old.out new.out
  pub later : old.kept.refusals ≤ new.kept.refusals

abbrev pub outside_of : {W O S : Type 0} → Meaning W → SinkMeaning O → Seen W O S → Outside
outside_of m p h = outside m p h.world h.out

-- a question that is answered: nothing outside was at fault, and nothing was printed
pub record Serves {W O S : Type 0} (m : Meaning W) (p : SinkMeaning O) (old new : Seen W O S) : Type 0 where
  pub looks : LooksAtFiles m old.world new.world
  pub well : m.counts new.world ≡ m.counts old.world
  pub out : new.out ≡ old.out
  pub kept : new.kept ≡ old.kept

-- one that is refused: it is counted, what is kept tells what was at fault, and nothing was printed
pub record Refuses {W O S : Type 0} (m : Meaning W) (p : SinkMeaning O) (old new : Seen W O S) : Type 0 where
  pub looks : LooksAtFiles m old.world new.world
  pub counted : Rose old.kept.refusals new.kept.refusals
  pub cause : HasKeptCause (outside_of m p old) (outside_of m p new) new.kept.end
  pub out : new.out ≡ old.out

-- a print that is taken: the text stands behind what was printed
pub record Printed {W O S : Type 0} (m : Meaning W) (p : SinkMeaning O) (bytes : List ℕ) (old new : Seen W O S) : Type 0 where
  pub world : new.world ≡ old.world
  pub prints : Prints p old.out new.out
  pub well : p.faults new.out ≡ p.faults old.out
  pub text : p.tells new.out → p.text new.out ≡ p.text old.out ++ bytes
  pub state : new.state ≡ old.state
  pub kept : new.kept ≡ old.kept

-- one that is refused: the sink was at fault
pub record Unprinted {W O S : Type 0} (m : Meaning W) (p : SinkMeaning O) (old new : Seen W O S) : Type 0 where
  pub world : new.world ≡ old.world
  pub prints : Prints p old.out new.out
  pub counted : Rose old.kept.refusals new.kept.refusals
  pub cause : HasKeptCause (outside_of m p old) (outside_of m p new) new.kept.end
  pub end : IsFrom IsOutside (untold_if new.kept.end)

abbrev pub Says : {W O S : Type 0} → Meaning W → SinkMeaning O → Rules Files S HostEnd → (q : Question) → Seen W O S → Objects → Answered (Answer q) → Seen W O S → Objects → Type 0
Says m p r q h o (answers x) k o2 =
    Serves m p h k × ((f : Files) → Sees m p f h k → r.turn f q h.state o ≡ answers_with x k.state o2)
Says m p r q h o refuses k o2 =
    Refuses m p h k × ((f : Files) → Sees m p f h k → Ends IsOutside (r.turn f q h.state o) (untold_if k.kept.end))

abbrev pub Writes : {W O S : Type 0} → Meaning W → SinkMeaning O → List ℕ → Answered (Unit {0}) → Seen W O S → Seen W O S → Type 0
Writes m p text (answers u) h k = Printed m p text h k
Writes m p text refuses h k = Unprinted m p h k

-- the host over a world and a sink that answers by rules
abbrev pub saying : {W O S : Type 0} → Meaning W → SinkMeaning O → Rules Files S HostEnd → HostMeaning (Seen W O S)
saying m p r = record {
  names = λ h name v k. (v ≡ r.name h.state name) × (k ≡ h);
  prints = λ h text a k. Writes m p text a h k;
  replies = λ q h o a k o2. Says m p r q h o a k o2 × Extends o o2;
  keeps = λ h k. Keeps m p h k;
  tells = λ h. ⊥;
  alike = λ h k. Unit {0};
  escaped = λ h k. ⊥;
  refusals = λ h. h.kept.refusals;
}
