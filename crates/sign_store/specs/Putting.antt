-- What puts and a withdrawal leave, at every moment of them and behind them.
use Rattle.std.specs.Prelude.{◌≡◌, ◌≢◌, ◌+◌, ℕ, List, [], ◌∷◌, Contains, length, slice_get, slice_index, Option, None, Some, Result, OnOk}
use Rattle.world_api.specs.Meaning.{Meaning, Throughout}
use Rattle.deciders.specs.declared.recorded.Rec.{Rec}
use Rattle.sign_store.specs.declared.store.Store.{Store}
use Rattle.sign_store.specs.declared.ticket.Ticket.{Ticket}
use Rattle.sign_store.specs.declared.ticket.Ticketed.{Ticketed}
use Rattle.sign_store.specs.Ends.{IsEither, KeepsAt}
use Rattle.sign_store.specs.Staging.{AreStagedIn, IsEntry, Spans}
use Rattle.world_api.specs.Banks.{Banks}
use Rattle.sign_store.specs.Stores.{AreApart, HasRoom, IsKept, IsOut, IsTicket, TakesRoom, map_of, withdrawal_len}
use Rattle.sign_store.specs.Tables.{Map, with_each}

-- a ticket's record, if there is one of its number
abbrev pub record_of : List Rec → Ticket → Option Rec
record_of records ticket = slice_get records ticket.number

abbrev pub with_put : Option Rec → Map → Map
with_put None map = map
with_put (Some rec) map = with_each rec.targets (Some rec) map

-- a map once the records of these tickets are put, in their order
abbrev pub put_over : {T : Type 0} → List Rec → List (Ticketed T) → Map → Map
put_over records [] map = map
put_over records (held ∷ more) map = put_over records more (with_put (record_of records held.ticket) map)

-- the store's map once the records of these tickets are put
abbrev pub map_with : {T : Type 0} → Store → List (Ticketed T) → Map
map_with store held = put_over store.map.records.items held (map_of store)

-- the store's ticket is out, for some record
pub record IsOutAny (store : Store) (ticket : Ticket) : Type 0 where
  pub rec : Rec
  pub out : IsOut store rec ticket

-- a ticket is the store's, for some record
pub record IsTicketAny (store : Store) (ticket : Ticket) : Type 0 where
  pub rec : Rec
  pub is : IsTicket store rec ticket

-- each of these is
abbrev pub AreTickets : {T : Type 0} → Store → List (Ticketed T) → Type 0
AreTickets store [] = Unit {0}
AreTickets store (held ∷ more) = IsTicketAny store held.ticket × AreTickets store more

-- these tickets have other rooms than this one
abbrev pub HasRoomBeside : {T : Type 0} → Ticket → List (Ticketed T) → Type 0
HasRoomBeside {T} ticket held = (other : Ticketed T) → Contains held other → other.ticket.room ≢ ticket.room

-- each of these tickets is out, with a room of its own
abbrev pub AreHeld : {T : Type 0} → Store → List (Ticketed T) → Type 0
AreHeld store [] = Unit {0}
AreHeld store (held ∷ more) = IsOutAny store held.ticket × HasRoomBeside held.ticket more × AreHeld store more

-- a ticket has another room than these, and its record shares no target with theirs
pub record IsApartFrom {T : Type 0} (store : Store) (rec : Rec) (ticket : Ticket) (held : List (Ticketed T)) : Type 0 where
  pub rooms : HasRoomBeside ticket held
  pub targets : (other : Ticketed T) (put : Rec) → Contains held other
      → record_of store.map.records.items other.ticket ≡ Some put → AreApart put.targets rec.targets

-- at every moment the banks stand for the store's map or for that one
abbrev pub IsEitherThroughout : {W : Type 0} → Meaning W → W → W → Store → Map → Type 0
IsEitherThroughout m old new store after = Throughout m old new (IsEither (m.around old) (map_of store) after)

-- the records of held tickets are put: their targets have them now, and all other paths what they had
abbrev pub PutsRecords : {T U E : Type 0} → Store → Store → List (Ticketed T) → Result U E → Type 0
PutsRecords old new held result = AreTickets old held → OnOk result (map_of new ≡ map_with old held)

-- the banks stand for the map before all of them or behind all of them
abbrev pub PutsThroughout : {W T : Type 0} → Meaning W → W → W → Store → List (Ticketed T) → Type 0
PutsThroughout m old new store held = AreHeld store held → IsKept m old store
    → IsEitherThroughout m old new store (map_with store held)

-- behind them a stop leaves what stands for the store's map
abbrev pub PutsKeep : {W T U E : Type 0} → Meaning W → W → W → Store → Store → List (Ticketed T) → Result U E → Type 0
PutsKeep m old new store after held result = AreHeld store held → IsKept m old store → OnOk result (IsKept m new after)

-- the tickets that are apart from them stay out
abbrev pub PutsKeepApart : {T U E : Type 0} → Store → Store → List (Ticketed T) → Result U E → Type 0
PutsKeepApart old new held result = (rec : Rec) (ticket : Ticket) → AreHeld old held → IsApartFrom old rec ticket held
    → IsOut old rec ticket → OnOk result (IsOut new rec ticket)

-- nothing is kept in their rooms any more, and in the others what was kept before
pub record FreesRooms {T : Type 0} (held : List (Ticketed T)) (old new : Store) : Type 0 where
  pub rooms : length new.rooms.items ≡ length old.rooms.items
  pub others : (room : ℕ) → ((other : Ticketed T) → Contains held other → other.ticket.room ≢ room)
      → slice_index new.rooms.items room ≡ slice_index old.rooms.items room
  pub none : (other : Ticketed T) → Contains held other → slice_index new.rooms.items other.ticket.room ≡ 0

-- held tickets, and one that is out beside them
pub record AreOutWith {T : Type 0} (store : Store) (held : List (Ticketed T)) (rec : Rec) (ticket : Ticket) : Type 0 where
  pub are : AreHeld store held
  pub out : IsOut store rec ticket
  pub apart : IsApartFrom store rec ticket held

-- the store's map once these records are put and those of the targets of that one are taken away
abbrev pub map_without : {T : Type 0} → Store → List (Ticketed T) → Rec → Map
map_without store held rec = with_each rec.targets None (map_with store held)

-- the targets of a ticket's record have none now, and all other paths what they have once the held ones are put
abbrev pub WithdrawsRecord : {T U E : Type 0} → Store → Store → List (Ticketed T) → Ticket → Result U E → Type 0
WithdrawsRecord old new held ticket result = (rec : Rec) → AreOutWith old held rec ticket
    → OnOk result (map_of new ≡ map_without old held rec)

abbrev pub WithdrawsThroughout : {W T : Type 0} → Meaning W → W → W → Store → List (Ticketed T) → Ticket → Type 0
WithdrawsThroughout m old new store held ticket = (rec : Rec) → AreOutWith store held rec ticket → IsKept m old store
    → IsEitherThroughout m old new store (map_without store held rec)

abbrev pub WithdrawKeeps : {W T U E : Type 0} → Meaning W → W → W → Store → Store → List (Ticketed T) → Ticket → Result U E → Type 0
WithdrawKeeps m old new store after held ticket result = (rec : Rec) → AreOutWith store held rec ticket
    → IsKept m old store → OnOk result (IsKept m new after)

-- the ticket stays out
abbrev pub StaysOut : {T U E : Type 0} → Store → Store → List (Ticketed T) → Ticket → Result U E → Type 0
StaysOut old new held ticket result = (rec : Rec) → AreOutWith old held rec ticket → OnOk result (IsOut new rec ticket)

-- the tickets with other rooms that are apart from the held ones stay out
abbrev pub WithdrawKeepsOthers : {T U E : Type 0} → Store → Store → List (Ticketed T) → Ticket → Result U E → Type 0
WithdrawKeepsOthers old new held ticket result = (rec other_rec : Rec) (other : Ticket) → AreOutWith old held rec ticket
    → other.room ≢ ticket.room → IsApartFrom old other_rec other held → IsOut old other_rec other
    → OnOk result (IsOut new other_rec other)

-- this room has given so many bytes, and the rooms that are neither it nor theirs none
pub record TakesRoomsBeside {T : Type 0} (held : List (Ticketed T)) (room len : ℕ) (old new : Store) : Type 0 where
  pub rooms : length new.rooms.items ≡ length old.rooms.items
  pub here : slice_index new.rooms.items room + len ≡ slice_index old.rooms.items room
  pub others : (other : ℕ) → other ≢ room
      → ((one : Ticketed T) → Contains held one → one.ticket.room ≢ other)
      → slice_index new.rooms.items other ≡ slice_index old.rooms.items other

-- and in theirs nothing is kept any more
pub record TakesRooms {T : Type 0} (held : List (Ticketed T)) (room len : ℕ) (old new : Store) : Type 0 where
  pub beside : TakesRoomsBeside held room len old new
  pub none : (other : Ticketed T) → Contains held other → slice_index new.rooms.items other.ticket.room ≡ 0

-- the withdrawal has taken its room and no more, nothing is kept for the held tickets, and for others what was kept before
abbrev pub WithdrawTakesRoom : {T U E : Type 0} → Store → Store → List (Ticketed T) → Ticket → Result U E → Type 0
WithdrawTakesRoom old new held ticket result = (rec : Rec) → AreOutWith old held rec ticket
    → OnOk result (TakesRooms held ticket.room (withdrawal_len old rec ticket) old new)

-- an entry has taken its room, and no more
abbrev pub AddTakesRoom : {T E : Type 0} → Store → Store → ℕ → ℕ → Result T E → Type 0
AddTakesRoom old new room len result = HasRoom old room len → OnOk result (TakesRoom room len old new)

-- entries are staged from this place up to the store's end
abbrev pub AreStagedFrom : {W : Type 0} → Meaning W → W → Store → ℕ → Map → Map → Type 0
AreStagedFrom m world store start from map = AreStagedIn m world store.bank start store.end from map

-- the banks have the gate at which the entries ended, and all bytes up to the store's end
abbrev pub SpansIn : Banks → Store → ℕ → Type 0
SpansIn banks store start = Spans start store.end (banks store.bank)

-- an entry is staged in its room
abbrev pub Adds : {W T E : Type 0} → Meaning W → W → W → Store → Store → ℕ → ℕ → List ℕ → Result T E → Type 0
Adds m old new store after start room entry result = (from mid map : Map) → HasRoom store room (length entry)
    → IsEntry mid map entry → AreStagedFrom m old store start from mid → OnOk result (AreStagedFrom m new after start from map)

-- the puts of held tickets are staged, in their order
abbrev pub AddsPuts : {W T U E : Type 0} → Meaning W → W → W → Store → Store → ℕ → List (Ticketed T) → Result U E → Type 0
AddsPuts m old new store after start held result = (from mid : Map) → AreHeld store held
    → AreStagedFrom m old store start from mid
    → OnOk result (AreStagedFrom m new after start from (put_over store.map.records.items held mid))

-- rooms that are none of theirs are as they were
pub record KeepsRoomsBeside {T : Type 0} (held : List (Ticketed T)) (old new : Store) : Type 0 where
  pub rooms : length new.rooms.items ≡ length old.rooms.items
  pub others : (room : ℕ) → ((other : Ticketed T) → Contains held other → other.ticket.room ≢ room)
      → slice_index new.rooms.items room ≡ slice_index old.rooms.items room

-- the puts of held tickets are written: a stop leaves what stands for the map with them, up to the new end
abbrev pub WritesPuts : {W T U E : Type 0} → Meaning W → W → W → Store → Store → List (Ticketed T) → Result U E → Type 0
WritesPuts m old new store after held result = AreHeld store held → IsKept m old store
    → OnOk result (KeepsAt m new after.bank after.end (map_with store held))

-- and so is a withdrawal behind them
abbrev pub WritesWith : {W T U E : Type 0} → Meaning W → W → W → Store → Store → List (Ticketed T) → Ticket → Result U E → Type 0
WritesWith m old new store after held ticket result = (rec : Rec) → AreOutWith store held rec ticket → IsKept m old store
    → OnOk result (KeepsAt m new after.bank after.end (map_without store held rec))

-- in the ticket's room, and in theirs
abbrev pub WritesInRoom : {T U E : Type 0} → Store → Store → List (Ticketed T) → Ticket → Result U E → Type 0
WritesInRoom old new held ticket result = (rec : Rec) → AreOutWith old held rec ticket
    → OnOk result (TakesRoomsBeside held ticket.room (length ticket.withdrawal.items) old new)
