-- What a build has booked: the records as its steps leave them, and those that its running rules are to have.
use Rattle.std.specs.Prelude.{◌≡◌, ℕ, Bool, true, List, [], Contains, Result, OnErr}
use Rattle.world_api.specs.Around.{Around}
use Rattle.world_api.specs.Meaning.{Meaning}
use Rattle.deciders.specs.declared.recorded.Rec.{Rec}
use Rattle.sign_store.specs.Putting.{map_with}
use Rattle.sign_store.specs.Stores.{IsTicket, map_of}
use Rattle.sign_store.specs.declared.store.Store.{Store}
use Rattle.build_model.specs.Rules.{Rule, Among}
use Rattle.build_model.specs.Steps.{Step, began}
use Rattle.turn_means.specs.Standing.{Outset}
use Rattle.turn_means.specs.Recording.{AreRecorded, IsRecordOf}
use Rattle.build_run.specs.Goings.{ClearsAt}
use Rattle.build_run.specs.Holds.{Busy}
use Rattle.build_run.specs.Sites.{records_of}
use Rattle.build_run.specs.Withdrawals.{HasNone}
use Rattle.build_run.specs.declared.site.Site.{Site}

-- Whose records are held, which rules run, the store, and whether it has refused.
pub record Book : Type 0 where
  pub held : List Busy
  pub running : List Busy
  pub store : Store
  pub shut : Bool

abbrev pub book_of : {W O E : Type 0} → Site W O E → Book
book_of site = record {
  held = site.run.now.held;
  running = site.run.now.tickets;
  store = site.store.now;
  shut = site.account.now.is_store_shut;
}

-- The record of a ticket is the one that its rule, which began, is to have.
pub record IsBooked (o : Outset) (around : Around) (past : List Step) (store : Store) (busy : Busy) : Type 0 where
  pub rule : Rule
  pub stands : Among rule (began past)
  pub makes : busy.hold.targets ≡ rule.targets
  pub rec : Rec
  pub ticket : IsTicket store rec busy.ticket
  pub same : rec.targets ≡ rule.targets
  pub to_have : IsRecordOf o around rule rec

-- With the held ones the store has the records that these steps leave, and so it is with the tickets of the rules that run.
pub record AreBooked (o : Outset) (around : Around) (past : List Step) (book : Book) : Type 0 where
  pub records : AreRecorded o around past (map_with book.store book.held)
  pub each : (busy : Busy) → Contains book.running busy → IsBooked o around past book.store busy

-- ---- starts that are refused

-- Before a job was refused nothing was touched, or none of its targets has a record any more; or the store has refused.
pub data IsRefusedSo {W O E : Type 0} (m : Meaning W) (targets : List (List ℕ)) (old new : Site W O E) : Type 0 where
  untouched : ClearsAt m [] old.world.now new.world.now → records_of new ≡ records_of old → IsRefusedSo m targets old new
  withdrawn : HasNone (map_of new.store.now) targets → IsRefusedSo m targets old new
  shut : new.account.now.is_store_shut ≡ true → IsRefusedSo m targets old new

abbrev pub RefusesSo : {W O E T R : Type 0} → Meaning W → List (List ℕ) → Site W O E → Site W O E → Result T R → Type 0
RefusesSo m targets old new result = OnErr result (IsRefusedSo m targets old new)
