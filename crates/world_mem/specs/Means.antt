-- What a world in memory means: it tells all, and counts its faults.
use Rattle.std.specs.Prelude.{◌≡◌, [], ◌+◌, ◌-◌, ℕ, List, max, length, reverse, slice_range}
use Rattle.mem_banks.specs.AsStore.{store_of}
use Rattle.mem_banks.specs.Past.{bytes_in, IsImage}
use Rattle.world_api.specs.Around.{Around}
use Rattle.world_api.specs.Banks.{Banks}
use Rattle.world_api.specs.Counts.{Counts}
use Rattle.world_api.specs.Meaning.{Meaning}
use Rattle.world_api.specs.declared.disk.Bank.{Bank}
use Rattle.world_mem.specs.AsAround.{around_of}
use Rattle.world_mem.specs.AsCourse.{course_of}
use Rattle.world_mem.specs.Kept.{counts_of}
use Rattle.world_mem.specs.Past.{Machine, IsMoment}
use Rattle.world_mem.specs.declared.world.MemWorld.{MemWorld}

abbrev pub machine_of : MemWorld → Machine
machine_of world = record { course = course_of world.state; store = store_of world.banks }

-- Its moments go back to when it was made, stopped or edited.
abbrev pub world_meaning : Meaning MemWorld
world_meaning = record {
  tells = λ w. Unit {0};
  sure = λ w. Unit {0};
  seen = λ w bank. bytes_in (store_of w.banks) bank;
  image = λ w bank bytes. IsImage (store_of w.banks) bank bytes;
  around = λ w. around_of w.state;
  clock = λ w. length w.turns.items;
  left_since = λ w time around banks.
      IsMoment (reverse w.turns.items) (machine_of w) (length w.turns.items - max time w.horizon) around banks;
  closed = λ w. [];
  counts = λ w. counts_of w.faults;
}

-- its parts, each by a word
abbrev pub tells : MemWorld → Type 0
tells world = world_meaning.tells world

abbrev pub seen_in : MemWorld → Banks
seen_in world = world_meaning.seen world

abbrev pub image_in : MemWorld → Bank → List ℕ → Type 0
image_in world = world_meaning.image world

abbrev pub around_in : MemWorld → Around
around_in world = world_meaning.around world

abbrev pub counts_in : MemWorld → Counts
counts_in world = world_meaning.counts world

abbrev pub closed_in : MemWorld → List (List ℕ)
closed_in world = world_meaning.closed world

-- so many bytes of a bank, from a place on
abbrev pub AreReadAt : Bank → ℕ → ℕ → MemWorld → List ℕ → Type 0
AreReadAt bank place count world bytes = bytes ≡ slice_range (seen_in world bank) place (place + count)
