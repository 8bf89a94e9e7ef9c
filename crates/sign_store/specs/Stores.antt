-- What a store stands for, and what its banks are.
use Rattle.std.specs.Prelude.{◌≡◌, ◌≢◌, ◌≤◌, ◌<◌, ◌+◌, ◌-◌, ◌^◌, ◌⊎◌, min, sum, ℕ, Bool, true, List, ◌++◌, ◌∷◌, [], length, slice_index, if◌then◌else◌}
use Rattle.world_api.specs.Banks.{Banks}
use Rattle.world_api.specs.Meaning.{Meaning}
use Rattle.deciders.specs.declared.recorded.Rec.{Rec}
use Rattle.deciders.specs.declared.version.Version.TheVariants.{Two}
use Rattle.deciders.specs.Spelling.{Spells, spelling}
use Rattle.sign_store.specs.declared.store.Store.{Store}
use Rattle.sign_store.specs.declared.ticket.Ticket.{Ticket}
use Rattle.sign_store.specs.declared.view.View.{View}
use Rattle.sign_store.specs.declared.refusals.PrepareRefusal.{PrepareRefusal}
use Rattle.sign_store.specs.declared.refusals.PrepareRefusal.TheVariants as refusal
use Rattle.sign_store.specs.Entries.{entry_of, entries_len, put_payload, withdraw_payload}
use Rattle.sign_store.specs.Maps.{map_in, HasRecord}
use Rattle.sign_store.specs.Beginnings.{IsBegunOver}
use Rattle.sign_store.specs.Ends.{KeepsAt, image_in}
use Rattle.sign_store.specs.Tables.{Map, has_any, is_among}

-- the banks have the gate at which the store's entries end
pub record IsStoredIn (banks : Banks) (store : Store) : Type 0 where
  pub place : store.end < length (banks store.bank)

-- whatever banks the one has, the other has
pub record KeepsBanks (old new : Store) : Type 0 where
  pub bank : new.bank ≡ old.bank
  pub end : new.end ≡ old.end

-- no call on the store was refused by the disk
abbrev pub is_live : Store → Bool
is_live store = store.live

-- the records of paths
abbrev pub map_of : Store → Map
map_of store = map_in store.map

abbrev pub map_of_view : View → Map
map_of_view view = map_in view.map

-- the map of these banks
abbrev pub HasMapOf : Banks → Store → Type 0
HasMapOf banks store = map_of store ≡ image_in banks

abbrev pub ShowsMapOf : Banks → View → Type 0
ShowsMapOf banks view = map_of_view view ≡ image_in banks

-- the store over banks that were these: which one is live, and where its entries end
abbrev pub Begins : Banks → Store → Type 0
Begins banks store = IsBegunOver banks store.map store.bank store.end

-- the store's ticket for this record
pub record IsTicket (store : Store) (rec : Rec) (ticket : Ticket) : Type 0 where
  pub held : HasRecord store.map rec ticket.number
  pub put : ticket.put.items ≡ 1 ∷ entry_of (put_payload rec)
  pub withdrawal : ticket.withdrawal.items ≡ 1 ∷ entry_of (withdraw_payload rec.targets)

-- a ticket of the one is a ticket of the other
pub record KeepsTickets (old new : Store) : Type 0 where
  pub each : (rec : Rec) (ticket : Ticket) → IsTicket old rec ticket → IsTicket new rec ticket

-- whatever a stop leaves now stands for the store's map
abbrev pub IsKept : {W : Type 0} → Meaning W → W → Store → Type 0
IsKept m world store = KeepsAt m world store.bank store.end (map_of store)

-- so many bytes are kept in this room
pub record HasRoom (store : Store) (room len : ℕ) : Type 0 where
  pub inside : room < length store.rooms.items
  pub enough : len ≤ slice_index store.rooms.items room

-- so many bytes fewer are kept in this room, and in the others what was kept before
pub record TakesRoom (room len : ℕ) (old new : Store) : Type 0 where
  pub rooms : length new.rooms.items ≡ length old.rooms.items
  pub here : slice_index new.rooms.items room + len ≡ slice_index old.rooms.items room
  pub others : (other : ℕ) → other ≢ room → slice_index new.rooms.items other ≡ slice_index old.rooms.items other

-- in the rooms but this one is kept what was kept before
pub record KeepsRooms (room : ℕ) (old new : Store) : Type 0 where
  pub rooms : length new.rooms.items ≡ length old.rooms.items
  pub others : (other : ℕ) → other ≢ room → slice_index new.rooms.items other ≡ slice_index old.rooms.items other

-- in this room nothing is kept any more, and in the others what was kept before
pub record FreesRoom (room : ℕ) (old new : Store) : Type 0 where
  pub rooms : KeepsRooms room old new
  pub none : slice_index new.rooms.items room ≡ 0

-- so many bytes are kept in a further room, which is the ticket's
pub record GetsRoom (old new : Store) (len : ℕ) (ticket : Ticket) : Type 0 where
  pub own : ticket.room ≡ length old.rooms.items
  pub rooms : new.rooms.items ≡ old.rooms.items ++ len ∷ []

-- map, bank and rooms are as they were
pub record IsUntouched (old new : Store) : Type 0 where
  pub map : map_of new ≡ map_of old
  pub banks : KeepsBanks old new
  pub rooms : new.rooms.items ≡ old.rooms.items

-- what a withdrawal takes: nothing where no target has a record
abbrev pub withdrawal_len : Store → Rec → Ticket → ℕ
withdrawal_len store rec ticket = if has_any (map_of store) rec.targets then length ticket.withdrawal.items else 0

-- what the entries of a ticket may still take: its put and its withdrawal
abbrev pub owed : Store → Rec → Ticket → ℕ
owed store rec ticket = length ticket.put.items + withdrawal_len store rec ticket

-- the store's ticket is out: its record has its spelling, and its entries have their room
pub record IsOut (store : Store) (rec : Rec) (ticket : Ticket) : Type 0 where
  pub own : IsTicket store rec ticket
  pub spells : Spells Two (spelling Two rec) rec
  pub fits : length (spelling Two rec) ≤ 4294967294
  pub room : HasRoom store ticket.room (owed store rec ticket)

-- what the entries of a record will take
abbrev pub due_for : Store → Rec → ℕ
due_for store rec = entries_len (map_of store) rec (length (put_payload rec))

-- how long the bank is with the entries of all tickets and of this record
abbrev pub len_with : Store → Rec → ℕ
len_with store rec = store.end + 1 + sum store.rooms.items + due_for store rec

-- there is room for the entries of a record
pub record Fits (store : Store) (rec : Rec) : Type 0 where
  pub payload : length (put_payload rec) ≤ 4294967295
  pub bank : len_with store rec ≤ 2 ^ 40

-- the payload of its put is too long for an entry; or else the bank would be too long
abbrev pub IsFull : Store → Rec → ℕ → Type 0
IsFull store rec len =
    ((4294967295 < length (put_payload rec)) × (len ≡ min (length (put_payload rec)) (2 ^ 64 - 1)))
    ⊎ ((length (put_payload rec) ≤ 4294967295) × (2 ^ 40 < len) × (len ≡ len_with store rec))

abbrev pub IsPrepareRefusal : Store → Rec → PrepareRefusal → Type 0
IsPrepareRefusal store rec (refusal.Full len) = IsFull store rec len
IsPrepareRefusal store rec refusal.Memory = Unit {0}

-- a ticket that is out stays so
pub record KeepsOut (old new : Store) : Type 0 where
  pub each : (rec : Rec) (ticket : Ticket) → IsOut old rec ticket → IsOut new rec ticket

-- the same of tickets other than this one
pub record KeepsOthers (but : Ticket) (old new : Store) : Type 0 where
  pub each : (rec : Rec) (ticket : Ticket) → ticket.room ≢ but.room → IsOut old rec ticket → IsOut new rec ticket

-- no path is among both
abbrev pub AreApart : List (List ℕ) → List (List ℕ) → Type 0
AreApart paths others = (path : List ℕ) → is_among paths path ≡ true → is_among others path ≢ true

-- a ticket has a room of its own
pub record IsFresh (old : Store) (ticket : Ticket) : Type 0 where
  pub apart : (rec : Rec) (other : Ticket) → IsOut old rec other → other.room ≢ ticket.room
