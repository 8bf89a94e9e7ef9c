-- What each event makes of a world in memory.
use Rattle.std.specs.Prelude.{◌≡◌, ℕ, List, [], None, Some, Ok, Err, IsTrue}
use Rattle.world_api.specs.Looks.{Looks}
use Rattle.world_api.specs.Meaning.{IsSettled}
use Rattle.world_api.specs.Statuses.{HasStatus}
use Rattle.world_api.specs.declared.disk.Bank.{Bank}
use Rattle.world_mem.specs.Blocked.{IsKept}
use Rattle.world_mem.specs.ByHand.{Edits, Loses}
use Rattle.world_mem.specs.LeftBy.{LeavesBy}
use Rattle.world_mem.specs.Means.{around_in, seen_in, world_meaning}
use Rattle.world_mem.specs.SinkMeans.{sink_meaning}
use Rattle.world_mem.specs.declared.sink.MemSink.{MemSink}
use Rattle.world_mem.specs.declared.world.MemWorld.{MemWorld}
use Rattle.sign_store.specs.Ends.{image_in}
use Rattle.scons_words.specs.Readings.{read}
use Rattle.scons_words.specs.declared.fault.WordsFault.{WordsFault}
use Rattle.scons_words.specs.declared.words.Words.{Words}
use Rattle.scons_top.specs.Builds.{Builds, RemembersAt}
use Rattle.scons_top.specs.Cleaned.{Cleans}
use Rattle.scons_top.specs.Printed.{RunPrints}
use Rattle.scons_top.specs.Steps.{AllComeAt, ComesTo, LeavesAt, RefusesWords}
use Rattle.scons_top.specs.Stopping.{RunsSafely}
use Rattle.scons_top.specs.declared.report.Report.{Report}

-- a stop now leaves each bank as it reads
abbrev pub AreSettled : MemWorld → Type 0
AreSettled world = (bank : Bank) → IsSettled world_meaning world bank

-- A file was edited by hand: one without a record, in a world whose banks are settled, at a place where a file can stand.
pub record IsEdit (path bytes : List ℕ) (old new : MemWorld) : Type 0 where
  pub settled : AreSettled old
  pub unrecorded : image_in (seen_in old) path ≡ None
  pub free : IsKept (around_in old) path → ⊥
  pub edits : Edits path bytes (around_in old) (around_in new)
  pub banks : new.banks ≡ old.banks

-- A file was removed by hand, or there was none.
pub record IsRemoval (path : List ℕ) (old new : MemWorld) : Type 0 where
  pub loses : Loses path (around_in old) (around_in new)
  pub banks : new.banks ≡ old.banks

-- The command was run with these words, with what it promises of each run; on standard output, where nothing stood, it printed this.
pub record IsRun (words : List (List ℕ)) (old new : MemWorld) (report : Report) (printed : List ℕ) : Type 0 where
  pub comes : (said : Words) → read words ≡ Ok said → ComesTo said report.step
  pub leaves : LeavesAt world_meaning report.step old new
  pub faults : AllComeAt report.step report.faults
  pub status : HasStatus report.status report.faults
  pub dry : (said : Words) → read words ≡ Ok said → IsTrue said.dry → Looks world_meaning old new
  pub cleans : (said : Words) → read words ≡ Ok said → Cleans world_meaning said old new report
  pub builds : (said : Words) → read words ≡ Ok said → Builds world_meaning said old new report
  pub out : MemSink
  pub blank : out.text.items ≡ []
  pub new_out : MemSink
  pub whole : new_out.text.items ≡ printed
  pub prints : (said : Words) → read words ≡ Ok said → RunPrints world_meaning sink_meaning said report.step old out new new_out (Ok report)
  pub refused : (why : WordsFault) → read words ≡ Err why → RefusesWords why old new out new_out report
  pub safe : RunsSafely world_meaning old new
  pub remembers : (said : Words) → read words ≡ Ok said → RemembersAt world_meaning said report.step old new report
  pub idle : (around_in new).running ≡ []

-- The same world, which fails from so many calls on.
pub record IsFused (number : ℕ) (old new : MemWorld) : Type 0 where
  pub calls : new.calls ≡ record old.calls { fuse = Some number }
  pub state : new.state ≡ old.state
  pub banks : new.banks ≡ old.banks

-- A world is what a stop leaves of another one, by the outcome with this number.
pub record IsLeftBy (pick : ℕ) (old new : MemWorld) : Type 0 where
  pub images : (bank : Bank) → world_meaning.image old bank (seen_in new bank)
  pub settled : AreSettled new
  pub left : LeavesBy pick old.state new.state

-- The command was run with these words in a world that fails from so many calls on, and was stopped there.
pub record IsStopped (words : List (List ℕ)) (calls pick : ℕ) (old new : MemWorld) : Type 0 where
  pub fused : MemWorld
  pub same : IsFused calls old fused
  pub ended : MemWorld
  pub report : Report
  pub printed : List ℕ
  pub run : IsRun words fused ended report printed
  pub left : IsLeftBy pick ended new
