-- Groups of tickets: what their entries say, and what is left of the others.
use Rattle.std.proofs.Common.{◌≡◌, ◌≢◌, ◌<◌, ◌≤◌, ◌+◌, ◌-◌, get_or, take, drop, ℕ, zero, suc, Bool, true, false, List, [], ◌∷◌, ◌++◌, length, Contains, Option, Some, None, refl, sym, ap, subst, ◌∙◌, inl, inr, arith}
use Rattle.std.specs.Prelude.{◌⊎◌, slice_index, slice_get, Result, Ok, Err, OnOk, OnErr}
use Rattle.world_api.specs.Meaning.{Meaning}
use Rattle.deciders.specs.declared.recorded.Rec.{Rec}
use Rattle.deciders.specs.declared.version.Version.TheVariants.{Two}
use Rattle.sign_store.specs.declared.entries.Change.TheVariants.{Withdraw}
use Rattle.sign_store.specs.declared.map.RecordMap.{RecordMap}
use Rattle.sign_store.specs.declared.store.Store.{Store}
use Rattle.sign_store.specs.declared.ticket.Ticket.{Ticket}
use Rattle.sign_store.specs.declared.ticket.Ticketed.{Ticketed}
use Rattle.sign_store.specs.Entries.{entry_of, put_payload, withdraw_payload}
use Rattle.sign_store.specs.Forms.{Leads}
use Rattle.sign_store.specs.Maps.{HasRecord, Puts, map_in}
use Rattle.sign_store.specs.Staging.{AreStaged, IsEntry}
use Rattle.sign_store.specs.Stores.{AreApart, IsTicket, IsOut, HasRoom, KeepsRooms, KeepsTickets, TakesRoom, map_of}
use Rattle.sign_store.specs.Putting.{AreHeld, AreOutWith, AreStagedFrom, AreTickets, FreesRooms, HasRoomBeside, IsApartFrom, IsOutAny, IsTicketAny, KeepsRoomsBeside, TakesRooms, TakesRoomsBeside, map_with, map_without, put_over, record_of, with_put}
use Rattle.sign_store.specs.Tables.{Map, has_any, with_each}
use Rattle.deciders.proofs.Sizes.{targets_within}
use Rattle.sign_store.proofs.FormLemmas.{leads_entry, leads_put}
use Rattle.std.proofs.lemmas.Bool.Decides.{eqb_tells}
use Rattle.std.proofs.lemmas.List.{nil_from_length, take_rest}
use Rattle.sign_store.proofs.StageLemmas.{staged_none}
use Rattle.sign_store.proofs.TableLemmas.{none_among}
use Rattle.sign_store.proofs.TicketLemmas.{any_apart, any_less, out_beside, out_still, out_withdrawn, put_has_room, withdrawal_says}

-- ---- what the entries say

pub put_entry : (store : Store) (rec : Rec) (ticket : Ticket) → IsOut store rec ticket → (map : Map) → IsEntry map (with_each rec.targets (Some rec) map) ticket.put.items
put_entry store rec ticket out map = record {
  behind = entry_of (put_payload rec);
  gate = out.own.put;
  leads = subst (λ (x : List ℕ). Leads Two x map (with_each rec.targets (Some rec) map)) (sym out.own.put) (leads_put rec map (record { spells = out.spells; fits = out.fits }));
}

pub withdraw_entry : (store : Store) (rec : Rec) (ticket : Ticket) → IsOut store rec ticket → (map : Map) → IsEntry map (with_each rec.targets None map) ticket.withdrawal.items
withdraw_entry store rec ticket out map = record {
  behind = entry_of (withdraw_payload rec.targets);
  gate = out.own.withdrawal;
  leads = subst (λ (x : List ℕ). Leads Two x map (with_each rec.targets None map)) (sym out.own.withdrawal)
      (leads_entry (Withdraw rec.targets) (withdraw_payload rec.targets) map (let fits = out.fits in omega (arith, fits, targets_within Two rec)) (withdrawal_says rec out.spells));
}

-- ---- elements

pub first_in : {X : Type 0} (xs : List X) (x : X) → Contains (x ∷ xs) x
first_in xs x = (0, omega arith, refl)

pub later_in : {X : Type 0} (xs : List X) (x y : X) → Contains xs y → Contains (x ∷ xs) y
later_in xs x y h = (suc h.0, omega (arith, h.1), h.2)

pub either_in : {X : Type 0} (xs : List X) (x y : X) → Contains (x ∷ xs) y → (x ≡ y) ⊎ Contains xs y
either_in xs x y (zero, lt, is) = inl is
either_in xs x y (suc k, lt, is) = inr (k, omega (arith, lt), is)

pub none_in : {X P : Type 0} (x : X) → Contains [] x → P
none_in {X} {P} x h = absurd (omega (arith, h.1))

-- the first of some, and the rest of them
pub left_parts : {X : Type 0} (left : List X) (one : X) → 1 ≤ length left → one ≡ get_or left 0 one → left ≡ one ∷ take (length left - 1) (drop 1 left)
left_parts [] one some is = absurd (omega (arith, some))
left_parts (x ∷ xs) one some is =
    ap (λ rest. x ∷ rest) (sym (take_rest (x ∷ xs) 1)) ∙ ap (λ y. y ∷ take (length (x ∷ xs) - 1) (drop 1 (x ∷ xs))) (sym is)

-- ---- tickets of a map that is the same

pub ticket_same : (old new : Store) (rec : Rec) (ticket : Ticket) → new.map ≡ old.map → IsTicket old rec ticket → IsTicket new rec ticket
ticket_same old new rec ticket same is = record {
  held = subst (λ (map : RecordMap). HasRecord map rec ticket.number) (sym same) is.held;
  put = is.put;
  withdrawal = is.withdrawal;
}

-- where its room stays a ticket stays out
pub out_same : (old new : Store) (rec : Rec) (ticket : Ticket) → new.map ≡ old.map → length new.rooms.items ≡ length old.rooms.items → slice_index new.rooms.items ticket.room ≡ slice_index old.rooms.items ticket.room
    → IsOut old rec ticket → IsOut new rec ticket
out_same old new rec ticket same rooms here out =
    out_beside old new rec ticket out (ticket_same old new rec ticket same out.own) (ap map_in same) (omega (arith, rooms)) here

pub held_same : {T : Type 0} (old new : Store) (held : List (Ticketed T)) → new.map ≡ old.map → length new.rooms.items ≡ length old.rooms.items
    → ((other : Ticketed T) → Contains held other → slice_index new.rooms.items other.ticket.room ≡ slice_index old.rooms.items other.ticket.room) → AreHeld old held → AreHeld new held
held_same old new [] same rooms each are = tt
held_same old new (one ∷ more) same rooms each are = (
  record { rec = are.0.rec; out = out_same old new are.0.rec one.ticket same rooms (each one (first_in more one)) are.0.out },
  are.1,
  held_same old new more same rooms (λ other h. each other (later_in more one other h)) are.2,
)

-- ---- the map with their records

-- the record of a ticket that is out
pub record_is : (store : Store) (rec : Rec) (ticket : Ticket) → IsTicket store rec ticket → record_of store.map.records.items ticket ≡ Some rec
record_is store rec ticket is = is.held.record_at

pub put_first : {T : Type 0} (store : Store) (one : Ticketed T) (more : List (Ticketed T)) (rec : Rec) (map : Map) → IsTicket store rec one.ticket
    → put_over store.map.records.items (one ∷ more) map ≡ put_over store.map.records.items more (with_each rec.targets (Some rec) map)
put_first store one more rec map is = ap (λ o. put_over store.map.records.items more (with_put o map)) (record_is store rec one.ticket is)

-- what is apart from them has a record as before
pub any_over : {T : Type 0} (store : Store) (held : List (Ticketed T)) (targets : List (List ℕ)) (map : Map) → ((other : Ticketed T) (put : Rec) → Contains held other → record_of store.map.records.items other.ticket ≡ Some put → AreApart put.targets targets)
    → has_any (put_over store.map.records.items held map) targets ≡ has_any map targets
any_over store [] targets map apart = refl
any_over store (one ∷ more) targets map apart =
    any_over store more targets (with_put (record_of store.map.records.items one.ticket) map) (λ other put h is. apart other put (later_in more one other h) is)
    ∙ by (record_of store.map.records.items one.ticket) (apart one)
  where
    by : (o : Option Rec) → ((put : Rec) → Contains (one ∷ more) one → o ≡ Some put → AreApart put.targets targets) → has_any (with_put o map) targets ≡ has_any map targets
    by None so = refl
    by (Some put) so = any_apart map (Some put) put.targets targets (so put (first_in more one) refl)

-- ---- rooms

pub rooms_kept : {T : Type 0} (held : List (Ticketed T)) (store : Store) → KeepsRoomsBeside held store store
rooms_kept held store = record { rooms = refl; others = λ room not. refl }

-- one of them gave of its room
pub rooms_on : {T : Type 0} (held : List (Ticketed T)) (one : Ticketed T) (old mid new : Store) → Contains held one → KeepsRoomsBeside held old mid → KeepsRooms one.ticket.room mid new → KeepsRoomsBeside held old new
rooms_on held one old mid new among first second = record {
  rooms = second.rooms ∙ first.rooms;
  others = λ room not. second.others room (λ e. not one among (sym e)) ∙ first.others room not;
}

-- ---- a run over held tickets, one after another

abbrev pub AreAmong : {X : Type 0} → List X → List X → Type 0
AreAmong {X} some all = (x : X) → Contains some x → Contains all x

-- what was staged so far, and what is left to be
pub record AddedSoFar {W T : Type 0} (m : Meaning W) (world : W) (store : Store) (start : ℕ) (from after : Map) (left : List (Ticketed T)) : Type 0 where
  pub cur : Map
  pub staged : AreStagedFrom m world store start from cur
  pub still : AreHeld store left
  pub reaches : put_over store.map.records.items left cur ≡ after

pub added_next : {W T : Type 0} (m : Meaning W) (old new : W) (store next : Store) (start : ℕ) (from after : Map) (one : Ticketed T) (more : List (Ticketed T))
    → ((from mid map : Map) → HasRoom store one.ticket.room (length one.ticket.put.items) → IsEntry mid map one.ticket.put.items → AreStagedFrom m old store start from mid → AreStagedFrom m new next start from map)
    → next.map ≡ store.map → KeepsRooms one.ticket.room store next → AddedSoFar m old store start from after (one ∷ more) → AddedSoFar m new next start from after more
added_next m old new store next start from after one more adds same rooms so_far =
    let are = so_far.still in
    let rec = are.0.rec in
    let out = are.0.out in
    let put = with_each rec.targets (Some rec) so_far.cur in
    record {
      cur = put;
      staged = adds from so_far.cur put (put_has_room store rec one.ticket out) (put_entry store rec one.ticket out so_far.cur) so_far.staged;
      still = held_same store next more same rooms.rooms (λ other h. rooms.others other.ticket.room (are.1 other h)) are.2;
      reaches = ap (λ (map : RecordMap). put_over map.records.items more put) same ∙ sym (put_first store one more rec so_far.cur out.own) ∙ so_far.reaches;
    }

-- the map that was set so far
pub record HasAny (map : RecordMap) (ticket : Ticket) : Type 0 where
  pub rec : Rec
  pub has : HasRecord map rec ticket.number

abbrev pub HaveAny : {T : Type 0} → RecordMap → List (Ticketed T) → Type 0
HaveAny map [] = Unit {0}
HaveAny map (one ∷ more) = HasAny map one.ticket × HaveAny map more

pub record SetSoFar {T : Type 0} (map : RecordMap) (left : List (Ticketed T)) (after : Map) : Type 0 where
  pub have : HaveAny map left
  pub reaches : put_over map.records.items left (map_in map) ≡ after

have_on : {T : Type 0} (old new : RecordMap) (left : List (Ticketed T)) → ((rec : Rec) (number : ℕ) → HasRecord old rec number → HasRecord new rec number) → HaveAny old left → HaveAny new left
have_on old new [] keeps have = tt
have_on old new (one ∷ more) keeps have = (record { rec = have.0.rec; has = keeps have.0.rec one.ticket.number have.0.has }, have_on old new more keeps have.1)

have_tickets : {T : Type 0} (store : Store) (held : List (Ticketed T)) → AreTickets store held → HaveAny store.map held
have_tickets store [] are = tt
have_tickets store (one ∷ more) are = (record { rec = are.0.rec; has = are.0.is.held }, have_tickets store more are.1)

pub set_first : {T : Type 0} (store : Store) (held : List (Ticketed T)) → AreTickets store held → SetSoFar store.map held (map_with store held)
set_first store held are = record { have = have_tickets store held are; reaches = refl }

pub set_next : {T : Type 0} (old mid new : RecordMap) (one : Ticketed T) (more : List (Ticketed T)) (after : Map) → mid ≡ old → ((rec : Rec) → HasRecord mid rec one.ticket.number → Puts rec mid new)
    → new.records.items ≡ mid.records.items → ((rec : Rec) (number : ℕ) → HasRecord mid rec number → HasRecord new rec number) → SetSoFar old (one ∷ more) after → SetSoFar new more after
set_next old mid new one more after same puts records keeps before =
    let so_far : SetSoFar mid (one ∷ more) after = subst (λ (map : RecordMap). SetSoFar map (one ∷ more) after) (sym same) before in
    let rec = so_far.have.0.rec in
    let has = so_far.have.0.has in
    record {
      have = have_on mid new more keeps so_far.have.1;
      reaches = ap (λ (items : List Rec). put_over items more (map_in new)) records ∙ ap (put_over mid.records.items more) (puts rec has)
          ∙ sym (ap (λ o. put_over mid.records.items more (with_put o (map_in mid))) has.record_at) ∙ so_far.reaches;
    }

-- the rooms that were freed so far
pub record FreedSoFar {T : Type 0} (held left : List (Ticketed T)) (old new : List ℕ) : Type 0 where
  pub rooms : length new ≡ length old
  pub others : (room : ℕ) → ((other : Ticketed T) → Contains held other → other.ticket.room ≢ room) → slice_index new room ≡ slice_index old room
  pub none : (other : Ticketed T) → Contains held other → Contains left other ⊎ (slice_index new other.ticket.room ≡ 0)

pub freed_first : {T : Type 0} (held : List (Ticketed T)) (rooms : List ℕ) → FreedSoFar held held rooms rooms
freed_first held rooms = record { rooms = refl; others = λ room not. refl; none = λ other h. inl h }

pub freed_next : {T : Type 0} (held : List (Ticketed T)) (one : Ticketed T) (more : List (Ticketed T)) (old mid new : List ℕ) → Contains held one → length new ≡ length mid
    → ((other : ℕ) → other ≢ one.ticket.room → slice_index new other ≡ slice_index mid other) → slice_index new one.ticket.room ≡ 0 → FreedSoFar held (one ∷ more) old mid → FreedSoFar held more old new
freed_next {T} held one more old mid new among rooms others none so_far = record {
  rooms = rooms ∙ so_far.rooms;
  others = λ room not. others room (λ e. not one among (sym e)) ∙ so_far.others room not;
  none = λ other h. elim (so_far.none other h) [
    | inl still ↦ elim (either_in more one other still) [
      | inl same ↦ inr (subst (λ (x : Ticketed T). slice_index new x.ticket.room ≡ 0) same none)
      | inr later ↦ inl later
    ]
    | inr gone ↦ inr (elim (eqb_tells other.ticket.room one.ticket.room) [
      | inl eq ↦ ap (slice_index new) eq.1 ∙ none
      | inr ne ↦ others other.ticket.room ne.1 ∙ gone
    ])
  ];
}

pub freed_all : {T : Type 0} (held left : List (Ticketed T)) (old new : Store) → left ≡ [] → FreedSoFar held left old.rooms.items new.rooms.items → FreesRooms held old new
freed_all {T} held left old new none so_far = record {
  rooms = so_far.rooms;
  others = so_far.others;
  none = λ other h. elim (so_far.none other h) [
    | inl still ↦ none_in other (subst (λ (x : List (Ticketed T)). Contains x other) none still)
    | inr gone ↦ gone
  ];
}

-- ---- after the whole

pub tickets_held : {T : Type 0} (store : Store) (held : List (Ticketed T)) → AreHeld store held → AreTickets store held
tickets_held store [] are = tt
tickets_held store (one ∷ more) are = (record { rec = are.0.rec; is = are.0.out.own }, tickets_held store more are.2)

pub tickets_same : {T : Type 0} (old new : Store) (held : List (Ticketed T)) → new.map ≡ old.map → AreTickets old held → AreTickets new held
tickets_same old new [] same are = tt
tickets_same old new (one ∷ more) same are = (record { rec = are.0.rec; is = ticket_same old new are.0.rec one.ticket same are.0.is }, tickets_same old new more same are.1)

pub with_same : {T : Type 0} (old new : Store) (held : List (Ticketed T)) → new.map ≡ old.map → map_with new held ≡ map_with old held
with_same old new held same = ap (λ (map : RecordMap). put_over map.records.items held (map_in map)) same

pub frees_on : {T : Type 0} (held : List (Ticketed T)) (old mid new : Store) → KeepsRoomsBeside held old mid → FreesRooms held mid new → FreesRooms held old new
frees_on held old mid new first second = record {
  rooms = second.rooms ∙ first.rooms;
  others = λ room not. second.others room not ∙ first.others room not;
  none = second.none;
}

pub keeps_tickets : (old mid new : Store) → mid.map ≡ old.map → KeepsTickets mid new → KeepsTickets old new
keeps_tickets old mid new same keeps = record { each = λ rec ticket is. keeps.each rec ticket (ticket_same old mid rec ticket same is) }

pub tickets_stay : (old new : Store) → new.map ≡ old.map → KeepsTickets old new
tickets_stay old new same = record { each = λ rec ticket is. ticket_same old new rec ticket same is }

-- a ticket that is apart from those that were put
pub out_apart : {T : Type 0} (old new : Store) (rec : Rec) (ticket : Ticket) (held : List (Ticketed T)) → IsApartFrom old rec ticket held → FreesRooms held old new → KeepsTickets old new → map_of new ≡ map_with old held
    → IsOut old rec ticket → IsOut new rec ticket
out_apart old new rec ticket held apart frees keeps map out =
    out_still old new rec ticket out (keeps.each rec ticket out.own) frees.rooms (frees.others ticket.room apart.rooms)
    (λ some. sym (any_over old held rec.targets (map_of old) apart.targets) ∙ subst (λ (m : Map). has_any m rec.targets ≡ true) map some)

-- where no target has a record, a withdrawal leaves the map
pub without_none : {T : Type 0} (store : Store) (rec : Rec) (ticket : Ticket) (held : List (Ticketed T)) → IsApartFrom store rec ticket held → has_any (map_of store) rec.targets ≡ false
    → map_with store held ≡ map_without store held rec
without_none store rec ticket held apart none =
    sym (none_among (map_with store held) rec.targets (any_over store held rec.targets (map_of store) apart.targets ∙ none))

-- a withdrawal behind the puts has its room
pub room_apart : {T : Type 0} (old new : Store) (ticket : Ticket) (held : List (Ticketed T)) (len : ℕ) → HasRoomBeside ticket held → KeepsRoomsBeside held old new → HasRoom old ticket.room len → HasRoom new ticket.room len
room_apart old new ticket held len apart keeps has =
    let same = keeps.others ticket.room apart in
    let rooms = keeps.rooms in
    let inside = has.inside in
    let enough = has.enough in
    record { inside = omega (arith, inside, rooms); enough = omega (arith, enough, same) }

pub takes_beside : {T : Type 0} (held : List (Ticketed T)) (ticket : Ticket) (len : ℕ) (old mid new : Store) → HasRoomBeside ticket held → KeepsRoomsBeside held old mid → TakesRoom ticket.room len mid new → TakesRoomsBeside held ticket.room len old new
takes_beside held ticket len old mid new apart keeps takes = record {
  rooms = takes.rooms ∙ keeps.rooms;
  here = takes.here ∙ keeps.others ticket.room apart;
  others = λ other differs not. takes.others other differs ∙ keeps.others other not;
}

-- and once the held rooms are freed
pub takes_all : {T : Type 0} (held : List (Ticketed T)) (ticket : Ticket) (len : ℕ) (old mid new : Store) → HasRoomBeside ticket held → TakesRoomsBeside held ticket.room len old mid → FreesRooms held mid new → TakesRooms held ticket.room len old new
takes_all held ticket len old mid new apart takes frees = record {
  beside = record {
    rooms = frees.rooms ∙ takes.rooms;
    here = let a = takes.here in let b = frees.others ticket.room apart in omega (arith, a, b);
    others = λ other differs not. frees.others other not ∙ takes.others other differs not;
  };
  none = frees.none;
}

-- where nothing was withdrawn
pub takes_none : {T : Type 0} (held : List (Ticketed T)) (ticket : Ticket) (len : ℕ) (old new : Store) → len ≡ 0 → HasRoomBeside ticket held → FreesRooms held old new → TakesRooms held ticket.room len old new
takes_none held ticket len old new none apart frees = record {
  beside = record {
    rooms = frees.rooms;
    here = let b = frees.others ticket.room apart in omega (arith, none, b);
    others = λ other differs not. frees.others other not;
  };
  none = frees.none;
}

-- ---- tickets behind a withdrawal

less_over : {T : Type 0} (store : Store) (held : List (Ticketed T)) (rec other_rec : Rec) (map : Map) → map ≡ map_without store held rec
    → ((other : Ticketed T) (put : Rec) → Contains held other → record_of store.map.records.items other.ticket ≡ Some put → AreApart put.targets other_rec.targets)
    → has_any map other_rec.targets ≡ true → has_any (map_of store) other_rec.targets ≡ true
less_over store held rec other_rec map is apart some =
    sym (any_over store held other_rec.targets (map_of store) apart)
    ∙ any_less (map_with store held) rec.targets other_rec.targets (subst (λ (m : Map). has_any m other_rec.targets ≡ true) is some)

-- another one
pub out_beside_withdrawn : {T : Type 0} (old new : Store) (rec other_rec : Rec) (ticket other : Ticket) (len : ℕ) (held : List (Ticketed T)) → other.room ≢ ticket.room → IsApartFrom old other_rec other held → TakesRooms held ticket.room len old new
    → KeepsTickets old new → map_of new ≡ map_without old held rec → IsOut old other_rec other → IsOut new other_rec other
out_beside_withdrawn old new rec other_rec ticket other len held differs apart takes keeps map out =
    out_still old new other_rec other out (keeps.each other_rec other out.own) takes.beside.rooms (takes.beside.others other.room differs apart.rooms)
    (less_over old held rec other_rec (map_of new) map apart.targets)

-- the one itself
pub out_itself_withdrawn : {T : Type 0} (old new : Store) (rec : Rec) (ticket : Ticket) (held : List (Ticketed T)) → has_any (map_of old) rec.targets ≡ true → TakesRooms held ticket.room (length ticket.withdrawal.items) old new
    → KeepsTickets old new → map_of new ≡ map_without old held rec → IsOut old rec ticket → IsOut new rec ticket
out_itself_withdrawn old new rec ticket held some takes keeps map out =
    out_withdrawn old new rec ticket out (keeps.each rec ticket out.own) some takes.beside.rooms takes.beside.here (map_with old held) map

pub nothing_held : {T : Type 0} (held : List (Ticketed T)) → length held ≡ 0 → held ≡ []
nothing_held held none = nil_from_length held none

-- where none is held a put leaves all
pub put_none : {T : Type 0} (store : Store) (held : List (Ticketed T)) → held ≡ [] → map_of store ≡ map_with store held
put_none {T} store held none = ap (λ (x : List (Ticketed T)). map_with store x) (sym none)

pub free_none : {T : Type 0} (store : Store) (held : List (Ticketed T)) → held ≡ [] → FreesRooms held store store
free_none {T} store held none = record {
  rooms = refl;
  others = λ room not. refl;
  none = λ other h. none_in other (subst (λ (x : List (Ticketed T)). Contains x other) none h);
}

-- after a store whose rooms are the same
pub takes_as : {T : Type 0} (held : List (Ticketed T)) (room len as_len : ℕ) (old new same : Store) → as_len ≡ len → same.rooms.items ≡ new.rooms.items → TakesRooms held room len old new → TakesRooms held room as_len old same
takes_as held room len as_len old new same lens rooms takes = record {
  beside = record {
    rooms = ap length rooms ∙ takes.beside.rooms;
    here = let a = takes.beside.here in omega (arith, a, lens, ap (λ (x : List ℕ). slice_index x room) rooms);
    others = λ other differs not. ap (λ (x : List ℕ). slice_index x other) rooms ∙ takes.beside.others other differs not;
  };
  none = λ other h. ap (λ (x : List ℕ). slice_index x other.ticket.room) rooms ∙ takes.none other h;
}

-- the map once the held records are set and one is taken away
pub set_with : {T : Type 0} (old mid set : Store) (unset : RecordMap) (held : List (Ticketed T)) (rec : Rec) (ticket : Ticket) → mid.map ≡ old.map → (AreTickets mid held → map_of set ≡ map_with mid held) → KeepsTickets mid set
    → ((rec : Rec) → HasRecord set.map rec ticket.number → map_in unset ≡ with_each rec.targets None (map_in set.map)) → AreOutWith old held rec ticket → map_in unset ≡ map_without old held rec
set_with old mid set unset held rec ticket same sets keeps unsets with =
    let is = keeps.each rec ticket (ticket_same old mid rec ticket same with.out.own) in
    unsets rec is.held
    ∙ ap (λ (m : Map). with_each rec.targets None m) (sets (tickets_same old mid held same (tickets_held old held with.are)) ∙ with_same old mid held same)
