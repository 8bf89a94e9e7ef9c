-- The tickets of the rules that run or whose records are held, and the store that they are of.
use Rattle.std.specs.Prelude.{◌≡◌, ◌≢◌, ◌⊎◌, ℕ, Bool, false, true, List, [], ◌∷◌, ◌++◌, Contains, Option, IfSome}
use Rattle.world_api.specs.Around.{Finished}
use Rattle.world_api.specs.Meaning.{Meaning}
use Rattle.world_api.specs.declared.job.Ended.{Ended}
use Rattle.deciders.specs.declared.recorded.Rec.{Rec}
use Rattle.sign_store.specs.Stores.{IsOut, IsKept, is_live, map_of}
use Rattle.sign_store.specs.declared.store.Store.{Store}
use Rattle.sign_store.specs.declared.ticket.Ticket.{Ticket}
use Rattle.build_run.specs.Withdrawals.{HasNone}
use Rattle.build_run.specs.Holds.{Busy}

-- the store's ticket is out for a record of these targets
pub record IsTicketFor (store : Store) (ticket : Ticket) (targets : List (List ℕ)) : Type 0 where
  pub rec : Rec
  pub out : IsOut store rec ticket
  pub same : rec.targets ≡ targets

-- no path is among both
abbrev pub ShareNone : List (List ℕ) → List (List ℕ) → Type 0
ShareNone paths others = (path : List ℕ) → Contains paths path → Contains others path → ⊥

-- two tickets keep rooms of their own, for rules that share no target
pub record IsBeside (one other : Busy) : Type 0 where
  pub room : other.ticket.room ≢ one.ticket.room
  pub targets : ShareNone one.hold.targets other.hold.targets

-- a ticket keeps another room than these
abbrev pub HasOwnRoom : Ticket → List Busy → Type 0
HasOwnRoom ticket busies = (busy : Busy) → Contains busies busy → busy.ticket.room ≢ ticket.room

-- the ticket of a rule is out for what the rule makes, of which nothing is recorded
pub record IsOutFor (store : Store) (busy : Busy) : Type 0 where
  pub ticket : IsTicketFor store busy.ticket busy.hold.targets
  pub none : HasNone (map_of store) busy.hold.targets

-- each of these tickets is, beside the others
abbrev pub AreOut : Store → List Busy → Type 0
AreOut store [] = Unit {0}
AreOut store (busy ∷ busies) =
    IsOutFor store busy
    × ((other : Busy) → Contains busies other → IsBeside busy other)
    × AreOut store busies

-- where some are out behind whichever others, so are one that is taken out of them and those that are left
abbrev pub StayOut : List Busy → Option Busy → List Busy → Type 0
StayOut busies taken left = (store : Store) (held : List Busy) → AreOut store (held ++ busies)
    → IfSome taken (λ busy. AreOut store (held ++ busy ∷ left))

-- unless the disk has refused: the store is live, whatever a stop leaves now stands for its map, and the tickets are out
pub record IsStored {W : Type 0} (m : Meaning W) (world : W) (store : Store) (busies : List Busy) (shut : Bool)
    : Type 0 where
  pub live : shut ≡ false → is_live store ≡ true
  pub kept : shut ≡ false → IsKept m world store
  pub outs : shut ≡ false → AreOut store busies

-- these are held still, or none is
abbrev pub KeepsSome : List Busy → List Busy → Type 0
KeepsSome held new_held = (new_held ≡ held) ⊎ (new_held ≡ [])

-- the log goes on with this ending
abbrev pub LogsEnding : {W : Type 0} → Meaning W → W → W → Ended → Type 0
LogsEnding m old new ended = m.tells new → (m.around new).log ≡ (m.around old).log ++ Finished ended.id ended.outcome ∷ []
