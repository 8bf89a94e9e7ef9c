-- The tickets that are out after each call, and the store that stands in the banks.
use Rattle.std.proofs.Common.{◌≡◌, ◌≢◌, ◌∙◌, ◌<◌, ◌≤◌, ℕ, zero, suc, sym, refl, ap, subst, List, [], ◌∷◌, ◌++◌, Bool, true, false, cond, Contains, get_or, length, Option, Some, None, inl, inr, arith}
use Rattle.std.specs.List.{remove}
use Rattle.std.proofs.lemmas.List.{length-map}
use Rattle.std.specs.Prelude.{Result, Ok, Err, OnOk}
use Rattle.std.specs.Str.{bytes_eq}
use Rattle.std.proofs.lemmas.Bool.{false≢true}
use Rattle.std.proofs.lemmas.List.Elements.{Contains-get_or, Contains-append_left, Contains-append_right}
use Rattle.std.proofs.lemmas.Slice.Eq.{bytes_eq-Decides}
use Rattle.scons_base.specs.declared.ids.RuleId.{RuleId}
use Rattle.deciders.specs.declared.recorded.Rec.{Rec}
use Rattle.world_api.specs.Meaning.{Meaning, BanksKept}
use Rattle.sign_store.specs.Putting.{AreHeld, AreOutWith, AreTickets, IsApartFrom, map_with, map_without, put_over, record_of, with_put}
use Rattle.sign_store.specs.Stores.{IsTicket, IsOut, IsKept, IsFresh, KeepsBanks, KeepsOthers, KeepsOut, is_live, map_of}
use Rattle.sign_store.specs.Tables.{Map, has_any, is_among, with_each}
use Rattle.sign_store.proofs.TableLemmas.{none_among}
use Rattle.sign_store.specs.declared.store.Store.{Store}
use Rattle.sign_store.specs.declared.ticket.Ticket.{Ticket}
use Rattle.sign_store.proofs.GroupLemmas.{tickets_held}
use Rattle.sign_store.proofs.Keeping.{kept_as, keeps_on}
use Rattle.task_plan.specs.declared.want.PlanEvent.TheVariants.{DoneOk}
use Rattle.build_model.proofs.Lists.{some_same}
use Rattle.build_means.proofs.Lists.{any_there, map_among, there_any}
use Rattle.run_means.proofs.Lists.{among_contains, contains_among}
use Rattle.build_run.specs.Holds.{Busy, holds_in}
use Rattle.build_run.specs.Outs.{IsTicketFor, IsOutFor, IsBeside, AreOut, HasOwnRoom, IsStored, KeepsSome, ShareNone}
use Rattle.build_run.specs.Withdrawals.{HasNone, AreWithdrawn}
use Rattle.build_run.specs.declared.tickets.Hold.{Hold}
use Rattle.build_run.proofs.Holding.{at_front, further, in_front, in_pushed}

-- ---- paths among others

pub among_in : (paths : List (List ℕ)) (path : List ℕ) → is_among paths path ≡ true → Contains paths path
among_in paths path among =
    let found = any_there (λ other. bytes_eq other path) paths among in
    subst (Contains paths) ((bytes_eq-Decides found.0 path).0 found.2) (among_contains found.1)

pub in_among : (paths : List (List ℕ)) (path : List ℕ) → Contains paths path → is_among paths path ≡ true
in_among paths path h = there_any (λ other. bytes_eq other path) (contains_among paths h) ((bytes_eq-Decides path path).1 refl)

-- ---- lists of tickets

beside_turned : (one other : Busy) → IsBeside one other → IsBeside other one
beside_turned one other b = record { room = λ e. b.room (sym e); targets = λ path here there. b.targets path there here }

outs_still : (old new : Store) (busies : List Busy) → ((busy : Busy) → Contains busies busy → IsOutFor old busy → IsOutFor new busy) → AreOut old busies → AreOut new busies
outs_still old new [] keeps outs = tt
outs_still old new (busy ∷ busies) keeps outs = (
  keeps busy (at_front busies busy) outs.0,
  outs.1,
  outs_still old new busies (λ other h. keeps other (further busies busy other h)) outs.2,
)

outs_push : (store : Store) (busies : List Busy) (new : Busy) → AreOut store busies → IsOutFor store new → ((busy : Busy) → Contains busies busy → IsBeside busy new) → AreOut store (busies ++ new ∷ [])
outs_push store [] new outs t beside = (t, (λ other h. absurd (omega (arith, h.1))), tt)
outs_push store (busy ∷ busies) new outs t beside = (
  outs.0,
  (λ other h. elim (in_pushed busies new other h) [
    | inl before ↦ outs.1 other before
    | inr same ↦ subst (λ (b : Busy). IsBeside busy b) same (beside busy (at_front busies busy))
  ]),
  outs_push store busies new outs.2 t (λ other h. beside other (further busies busy other h)),
)

pub removed_in : (busies : List Busy) (i : ℕ) (other : Busy) → i < length busies → Contains (remove busies i) other → Contains busies other
removed_in [] i other lt h = absurd (omega arith)
removed_in (busy ∷ busies) zero other lt h = further busies busy other h
removed_in (busy ∷ busies) (suc i) other lt h = elim (in_front (remove busies i) busy other h) [
  | inl same ↦ subst (Contains (busy ∷ busies)) same (at_front busies busy)
  | inr more ↦ further busies busy other (removed_in busies i other (omega (arith, lt)) more)
]

-- one that is taken out stays beside those that are left
pub outs_taken : (store : Store) (busies : List Busy) (i : ℕ) (d : Busy) → i < length busies → AreOut store busies → AreOut store (get_or busies i d ∷ remove busies i)
outs_taken store [] i d lt outs = absurd (omega arith)
outs_taken store (busy ∷ busies) zero d lt outs = outs
outs_taken store (busy ∷ busies) (suc i) d lt outs =
    let inside : i < length busies = omega (arith, lt) in
    let rest = outs_taken store busies i d inside outs.2 in
    let taken = get_or busies i d in (
      rest.0,
      (λ other h. elim (in_front (remove busies i) busy other h) [
        | inl same ↦ subst (λ (b : Busy). IsBeside taken b) same (beside_turned busy taken (outs.1 taken (Contains-get_or busies i d inside)))
        | inr more ↦ rest.1 other more
      ]),
      (outs.0, (λ other h. outs.1 other (removed_in busies i other inside h)), rest.2),
    )

-- the same of those behind others that stay
pub outs_taken_behind : (store : Store) (held busies : List Busy) (i : ℕ) (d : Busy) → i < length busies → AreOut store (held ++ busies) → AreOut store (held ++ get_or busies i d ∷ remove busies i)
outs_taken_behind store [] busies i d lt outs = outs_taken store busies i d lt outs
outs_taken_behind store (one ∷ held) busies i d lt outs = (
  outs.0,
  (λ other h. outs.1 other (moved held busies i d other lt h)),
  outs_taken_behind store held busies i d lt outs.2,
)
  where
    moved : (held busies : List Busy) (i : ℕ) (d other : Busy) → i < length busies → Contains (held ++ get_or busies i d ∷ remove busies i) other → Contains (held ++ busies) other
    moved [] busies i d other lt h = elim (in_front (remove busies i) (get_or busies i d) other h) [
      | inl same ↦ subst (Contains busies) same (Contains-get_or busies i d lt)
      | inr more ↦ removed_in busies i other lt more
    ]
    moved (first ∷ held) busies i d other lt h = elim (in_front (held ++ get_or busies i d ∷ remove busies i) first other h) [
      | inl same ↦ subst (Contains (first ∷ (held ++ busies))) same (at_front (held ++ busies) first)
      | inr more ↦ further (held ++ busies) first other (moved held busies i d other lt more)
    ]

pub out_in : (store : Store) (busies : List Busy) (busy : Busy) → AreOut store busies → Contains busies busy → IsOutFor store busy
out_in store [] busy outs h = absurd (omega (arith, h.1))
out_in store (first ∷ busies) busy outs h = elim (in_front busies first busy h) [
  | inl same ↦ subst (IsOutFor store) same outs.0
  | inr more ↦ out_in store busies busy outs.2 more
]

pub held_in : (busies : List Busy) (busy : Busy) → Contains busies busy → Contains (holds_in busies) busy.hold
held_in busies busy h = among_contains (map_among (λ (b : Busy). b.hold) (contains_among busies h))

pub held_count : (busies : List Busy) → length (holds_in busies) ≡ length busies
held_count busies = length-map busies (λ (busy : Busy). busy.hold)

-- ---- the store over calls on the world

pub stored_over : {W : Type 0} (m : Meaning W) (old new : W) (store : Store) (busies : List Busy) (shut : Bool) → (m.tells new → m.tells old) → (m.tells new → BanksKept m old new) → IsStored m old store busies shut → IsStored m new store busies shut
stored_over m old new store busies shut back banks s = record {
  live = s.live;
  kept = λ unshut. keeps_on m old new store.bank store.end (map_of store) back banks (s.kept unshut);
  outs = s.outs;
}

pub stored_first : {W : Type 0} (m : Meaning W) (world : W) (store : Store) (busies : List Busy) (shut : Bool) → busies ≡ [] → is_live store ≡ true → IsKept m world store → IsStored m world store busies shut
stored_first m world store busies shut none live kept = record {
  live = λ unshut. live;
  kept = λ unshut. kept;
  outs = λ unshut. subst (AreOut store) (sym none) tt;
}

-- the same tickets, and a disk that has refused as before
pub stored_alike : {W : Type 0} (m : Meaning W) (world : W) (store : Store) (busies same : List Busy) (shut as_shut : Bool) → same ≡ busies → as_shut ≡ shut → IsStored m world store busies shut → IsStored m world store same as_shut
stored_alike m world store busies same shut as_shut all alike s = record {
  live = λ unshut. s.live (sym alike ∙ unshut);
  kept = λ unshut. s.kept (sym alike ∙ unshut);
  outs = λ unshut. subst (AreOut store) (sym all) (s.outs (sym alike ∙ unshut));
}

-- a store that isn't called any more
pub stored_shut : {W : Type 0} (m : Meaning W) (world : W) (store : Store) (busies : List Busy) (shut : Bool) → shut ≡ true → IsStored m world store busies shut
stored_shut m world store busies shut is = record {
  live = λ unshut. absurd (false≢true (sym unshut ∙ is));
  kept = λ unshut. absurd (false≢true (sym unshut ∙ is));
  outs = λ unshut. absurd (false≢true (sym unshut ∙ is));
}

-- ---- the store over its own calls

-- what had no record has none
abbrev KeepsNone : Store → Store → Type 0
KeepsNone old new = (paths : List (List ℕ)) → HasNone (map_of old) paths → HasNone (map_of new) paths

none_same : (old new : Store) → map_of new ≡ map_of old → KeepsNone old new
none_same old new same paths none path among = ap (λ (m : Map). m path) same ∙ none path among

none_by : (b : Bool) (x : Option Rec) → x ≡ None → cond b None x ≡ None
none_by true x none = refl
none_by false x none = none

others_still : (old new : Store) (ticket : Ticket) (busies : List Busy) → KeepsOthers ticket old new → KeepsNone old new → HasOwnRoom ticket busies → AreOut old busies → AreOut new busies
others_still old new ticket busies keeps nones own =
    outs_still old new busies (λ busy h out.
    let t = out.ticket in
    record {
      ticket = record { rec = t.rec; out = keeps.each t.rec busy.ticket (own busy h) t.out; same = t.same };
      none = nones busy.hold.targets out.none;
    })

-- after a call that keeps map and bank
pub stored_beside : {W : Type 0} (m : Meaning W) (world : W) (old new : Store) (ticket : Ticket) (busies : List Busy) (shut : Bool) → is_live new ≡ is_live old → KeepsBanks old new → map_of new ≡ map_of old
    → KeepsOthers ticket old new → (shut ≡ false → HasOwnRoom ticket busies) → IsStored m world old busies shut → IsStored m world new busies shut
stored_beside m world old new ticket busies shut live banks map keeps own s = record {
  live = λ unshut. live ∙ s.live unshut;
  kept = λ unshut. kept_as m world old new banks map (s.kept unshut);
  outs = λ unshut. others_still old new ticket busies keeps (none_same old new map) (own unshut) (s.outs unshut);
}

-- after a ticket was given out
pub stored_prepared : {W : Type 0} (m : Meaning W) (world : W) (old new : Store) (busies : List Busy) (shut : Bool) → is_live new ≡ is_live old → KeepsBanks old new → map_of new ≡ map_of old → KeepsOut old new
    → IsStored m world old busies shut → IsStored m world new busies shut
stored_prepared m world old new busies shut live banks map keeps s = record {
  live = λ unshut. live ∙ s.live unshut;
  kept = λ unshut. kept_as m world old new banks map (s.kept unshut);
  outs = λ unshut. outs_still old new busies
      (λ busy h out.
      let t = out.ticket in
      record {
        ticket = record { rec = t.rec; out = keeps.each t.rec busy.ticket t.out; same = t.same };
        none = none_same old new map busy.hold.targets out.none;
      })
      (s.outs unshut);
}

-- a new ticket's room is its own
pub own_room : (old : Store) (ticket : Ticket) (busies : List Busy) → IsFresh old ticket → AreOut old busies → HasOwnRoom ticket busies
own_room old ticket busies fresh outs busy h = let t = (out_in old busies busy outs h).ticket in fresh.apart t.rec busy.ticket t.out

-- ---- tickets in front of others

pub outs_front : (store : Store) (held busies : List Busy) → AreOut store (held ++ busies) → AreOut store held
outs_front store [] busies outs = tt
outs_front store (one ∷ held) busies outs = (outs.0, (λ other h. outs.1 other (Contains-append_left held busies other h)), outs_front store held busies outs.2)

pub outs_back : (store : Store) (held busies : List Busy) → AreOut store (held ++ busies) → AreOut store busies
outs_back store [] busies outs = outs
outs_back store (one ∷ held) busies outs = outs_back store held busies outs.2

pub beside_in : (store : Store) (held busies : List Busy) (one other : Busy) → AreOut store (held ++ busies) → Contains held one → Contains busies other → IsBeside one other
beside_in store [] busies one other outs h k = absurd (omega (arith, h.1))
beside_in store (first ∷ held) busies one other outs h k = elim (in_front held first one h) [
  | inl same ↦ subst (λ (x : Busy). IsBeside x other) same (outs.1 other (Contains-append_right held busies other k))
  | inr more ↦ beside_in store held busies one other outs.2 more k
]

-- they are held
pub held_outs : (store : Store) (held : List Busy) → AreOut store held → AreHeld store held
held_outs store [] outs = tt
held_outs store (one ∷ held) outs = (record { rec = outs.0.ticket.rec; out = outs.0.ticket.out }, (λ other h. (outs.1 other h).room), held_outs store held outs.2)

-- a record of what none of them makes is apart from theirs
pub apart_outs : (store : Store) (held : List Busy) (rec : Rec) (ticket : Ticket) (targets : List (List ℕ)) → AreOut store held → HasOwnRoom ticket held → ((busy : Busy) → Contains held busy → ShareNone targets busy.hold.targets) → rec.targets ≡ targets
    → IsApartFrom store rec ticket held
apart_outs store held rec ticket targets outs own apart same = record {
  rooms = own;
  targets = λ other put h is path here there.
      let t = (out_in store held other outs h).ticket in
      let whose : put ≡ t.rec = some_same (sym is ∙ t.out.own.held.record_at) in
      let made : Contains other.hold.targets path = subst (λ (paths : List (List ℕ)). Contains paths path) (ap (λ (r : Rec). r.targets) whose ∙ t.same) (among_in put.targets path here) in
      apart other h path (subst (λ (paths : List (List ℕ)). Contains paths path) same (among_in rec.targets path there)) made;
}

-- a ticket among the others is apart from the held ones
busy_apart : (store : Store) (held busies : List Busy) (busy : Busy) (t : IsTicketFor store busy.ticket busy.hold.targets) → AreOut store (held ++ busies) → Contains busies busy → IsApartFrom store t.rec busy.ticket held
busy_apart store held busies busy t outs h =
    apart_outs store held t.rec busy.ticket busy.hold.targets (outs_front store held busies outs) (λ other k e. (beside_in store held busies other busy outs k h).room (sym e))
    (λ other k path here there. (beside_in store held busies other busy outs k h).targets path there here) t.same

-- what none of them makes has no record once they are put
over_none : (store : Store) (held : List Busy) (map : Map) (path : List ℕ) → ((other : Busy) (put : Rec) → Contains held other → record_of store.map.records.items other.ticket ≡ Some put → is_among put.targets path ≢ true)
    → put_over store.map.records.items held map path ≡ map path
over_none store [] map path not = refl
over_none store (one ∷ held) map path not =
    over_none store held (with_put (record_of store.map.records.items one.ticket) map) path (λ other put h is. not other put (further held one other h) is)
    ∙ by (record_of store.map.records.items one.ticket) (not one)
  where
    differs : (b : Bool) (x y : Option Rec) → b ≢ true → cond b y x ≡ x
    differs true x y no_more = absurd (no_more refl)
    differs false x y no_more = refl

    by : (o : Option Rec) → ((put : Rec) → Contains (one ∷ held) one → o ≡ Some put → is_among put.targets path ≢ true) → with_put o map path ≡ map path
    by None so = refl
    by (Some put) so = differs (is_among put.targets path) (map path) (Some put) (so put (at_front held one) refl)

busy_none : (store : Store) (held busies : List Busy) (busy : Busy) → AreOut store (held ++ busies) → Contains busies busy → IsOutFor store busy → HasNone (map_with store held) busy.hold.targets
busy_none store held busies busy outs h out path among =
    let t = out.ticket in
    let apart = busy_apart store held busies busy t outs h in
    over_none store held (map_of store) path (λ other put k is here. apart.targets other put k is path here (subst (λ (paths : List (List ℕ)). is_among paths path ≡ true) (sym t.same) among))
    ∙ out.none path among

-- after the puts of those in front
pub stored_put : {W : Type 0} (m : Meaning W) (old new : W) (store after : Store) (held busies : List Busy) (shut : Bool) → is_live after ≡ is_live store → (AreHeld store held → IsKept m old store → IsKept m new after)
    → ((rec : Rec) (ticket : Ticket) → AreHeld store held → IsApartFrom store rec ticket held → IsOut store rec ticket → IsOut after rec ticket) → (AreTickets store held → map_of after ≡ map_with store held)
    → IsStored m old store (held ++ busies) shut → IsStored m new after busies shut
stored_put m old new store after held busies shut live keeps apart map s = record {
  live = λ unshut. live ∙ s.live unshut;
  kept = λ unshut. keeps (held_outs store held (outs_front store held busies (s.outs unshut))) (s.kept unshut);
  outs = λ unshut.
      let outs = s.outs unshut in
      let are = held_outs store held (outs_front store held busies outs) in
      let is = map (tickets_held store held are) in
      outs_still store after busies
      (λ busy h out.
      let t = out.ticket in
      record {
        ticket = record { rec = t.rec; out = apart t.rec busy.ticket are (busy_apart store held busies busy t outs h) t.out; same = t.same };
        none = λ path among. ap (λ (m : Map). m path) is ∙ busy_none store held busies busy outs h out path among;
      })
      (outs_back store held busies outs);
}

-- after a withdrawal behind the puts of those in front
pub stored_withdrawn : {W : Type 0} (m : Meaning W) (old new : W) (store after : Store) (held busies : List Busy) (rec : Rec) (ticket : Ticket) (shut : Bool) → shut ≡ false → is_live after ≡ is_live store → IsKept m new after
    → map_of after ≡ map_without store held rec
    → ((other_rec : Rec) (other : Ticket) → other.room ≢ ticket.room → IsApartFrom store other_rec other held → IsOut store other_rec other → IsOut after other_rec other) → HasOwnRoom ticket (held ++ busies)
    → IsStored m old store (held ++ busies) shut → IsStored m new after busies shut
stored_withdrawn m old new store after held busies rec ticket shut is_open live kept map keeps own s =
    let outs = s.outs is_open in
    record {
      live = λ unshut. live ∙ s.live unshut;
      kept = λ unshut. kept;
      outs = λ unshut. outs_still store after busies
          (λ busy h out.
          let t = out.ticket in
          record {
            ticket = record { rec = t.rec; out = keeps t.rec busy.ticket (own busy (Contains-append_right held busies busy h)) (busy_apart store held busies busy t outs h) t.out; same = t.same };
            none = λ path among. ap (λ (m : Map). m path) map ∙ none_by (is_among rec.targets path) (map_with store held path) (busy_none store held busies busy outs h out path among);
          })
          (outs_back store held busies outs);
    }

-- ---- the map with the held records

pub not_among : (paths : List (List ℕ)) (path : List ℕ) → (Contains paths path → ⊥) → is_among paths path ≡ false
not_among paths path not = by (is_among paths path) refl
  where
    by : (b : Bool) → is_among paths path ≡ b → is_among paths path ≡ false
    by true e = absurd (not (among_in paths path e))
    by false e = e

-- a withdrawal leaves it elsewhere
pub kept_elsewhere : (store : Store) (held : List Busy) (rec : Rec) (targets : List (List ℕ)) (map : Map) → rec.targets ≡ targets → map ≡ map_without store held rec → (path : List ℕ) → (Contains targets path → ⊥) → map path ≡ map_with store held path
kept_elsewhere store held rec targets map same is path not =
    ap (λ (m : Map). m path) is
    ∙ ap (λ b. cond b None (map_with store held path)) (not_among rec.targets path (λ h. not (subst (λ (paths : List (List ℕ)). Contains paths path) same h)))

-- what held rules have made stays where a job makes none of it
pub kept_held : (old : Store) (held : List Busy) (new : Store) (new_held : List Busy) (targets : List (List ℕ)) → ((busy : Busy) → Contains held busy → ShareNone targets busy.hold.targets)
    → ((path : List ℕ) → (Contains targets path → ⊥) → map_with new new_held path ≡ map_with old held path) → (busy : Busy) (path : List ℕ) → Contains held busy → Contains busy.hold.targets path → map_with new new_held path ≡ map_with old held path
kept_held old held new new_held targets apart keeps busy path h made = keeps path (λ here. apart busy h path here made)

-- where map and tickets stay it stays
pub held_alike : (old new : Store) (held : List Busy) → map_of new ≡ map_of old → ((one : Busy) (rec : Rec) → Contains held one → IsOut old rec one.ticket → IsTicket new rec one.ticket) → AreOut old held → map_with new held ≡ map_with old held
held_alike old new held same tickets outs = by held (map_of new) tickets outs ∙ ap (put_over old.map.records.items held) same
  where
    by : (held : List Busy) (map : Map) → ((one : Busy) (rec : Rec) → Contains held one → IsOut old rec one.ticket → IsTicket new rec one.ticket) → AreOut old held → put_over new.map.records.items held map ≡ put_over old.map.records.items held map
    by [] map tickets outs = refl
    by (one ∷ held) map tickets outs =
        let out = outs.0.ticket.out in
        let now = (tickets one outs.0.ticket.rec (at_front held one) out).held.record_at in
        by held (with_put (record_of new.map.records.items one.ticket) map) (λ other rec h. tickets other rec (further held one other h)) outs.2
        ∙ ap (λ o. put_over old.map.records.items held (with_put o map)) (now ∙ sym out.own.held.record_at)

-- one more of them
pub held_more : (store : Store) (held : List Busy) (one : Busy) (rec : Rec) → IsTicket store rec one.ticket → map_with store (held ++ one ∷ []) ≡ with_each rec.targets (Some rec) (map_with store held)
held_more store held one rec is = by held (map_of store)
  where
    by : (held : List Busy) (map : Map) → put_over store.map.records.items (held ++ one ∷ []) map ≡ with_each rec.targets (Some rec) (put_over store.map.records.items held map)
    by [] map = ap (λ o. with_put o map) is.held.record_at
    by (first ∷ held) map = by held (with_put (record_of store.map.records.items first.ticket) map)

-- with the ticket of a job that was started
pub stored_added : {W : Type 0} (m : Meaning W) (world : W) (store : Store) (new : Busy) (busies : List Busy) (shut : Bool) → IsOutFor store new → HasOwnRoom new.ticket busies
    → ((hold : Hold) (path : List ℕ) → Contains (holds_in busies) hold → Contains new.hold.targets path → Contains hold.targets path → ⊥)
    → IsStored m world store busies shut → IsStored m world store (busies ++ new ∷ []) shut
stored_added m world store new busies shut out own apart s = record {
  live = s.live;
  kept = s.kept;
  outs = λ unshut. outs_push store busies new (s.outs unshut) out
      (λ busy h. record { room = λ e. own busy h (sym e); targets = λ path there here. apart busy.hold path (held_in busies busy h) here there });
}

-- without the ticket of one that ended otherwise
pub outs_left : (store : Store) (held busies : List Busy) (busy : Busy) → AreOut store (held ++ busy ∷ busies) → AreOut store (held ++ busies)
outs_left store [] busies busy outs = outs.2
outs_left store (one ∷ held) busies busy outs = (outs.0, (λ other h. outs.1 other (wider held other h)), outs_left store held busies busy outs.2)
  where
    wider : (held : List Busy) (other : Busy) → Contains (held ++ busies) other → Contains (held ++ busy ∷ busies) other
    wider [] other h = further busies busy other h
    wider (first ∷ held) other h = elim (in_front (held ++ busies) first other h) [
      | inl same ↦ subst (Contains (first ∷ (held ++ busy ∷ busies))) same (at_front (held ++ busy ∷ busies) first)
      | inr more ↦ further (held ++ busy ∷ busies) first other (wider held other more)
    ]

pub stored_left : {W : Type 0} (m : Meaning W) (world : W) (store : Store) (held : List Busy) (busy : Busy) (busies : List Busy) (shut : Bool) → IsStored m world store (held ++ busy ∷ busies) shut → IsStored m world store (held ++ busies) shut
stored_left m world store held busy busies shut s = record { live = s.live; kept = s.kept; outs = λ unshut. outs_left store held busies busy (s.outs unshut) }

pub own_beside : (store : Store) (held : List Busy) (busy : Busy) (busies : List Busy) → AreOut store (held ++ busy ∷ busies) → HasOwnRoom busy.ticket (held ++ busies)
own_beside store [] busy busies outs other h = (outs.1 other h).room
own_beside store (one ∷ held) busy busies outs other h = elim (in_front (held ++ busies) one other h) [
  | inl same ↦ (λ e. (outs.1 busy (Contains-append_right held (busy ∷ busies) busy (at_front busies busy))).room (sym e ∙ ap (λ (b : Busy). b.ticket.room) (sym same)))
  | inr more ↦ own_beside store held busy busies outs.2 other more
]

pub room_beside : {W : Type 0} (m : Meaning W) (world : W) (store : Store) (held : List Busy) (busy : Busy) (busies : List Busy) (shut : Bool) → IsStored m world store (held ++ busy ∷ busies) shut → shut ≡ false → HasOwnRoom busy.ticket (held ++ busies)
room_beside m world store held busy busies shut s unshut = own_beside store held busy busies (s.outs unshut)

-- ---- withdrawals

none_of : (map new : Map) (targets : List (List ℕ)) → new ≡ with_each targets None map → HasNone new targets
none_of map new targets is path among = ap (λ (m : Map). m path) is ∙ ap (λ b. cond b None (map path)) among

-- none of the targets has a record any more, in the store and in each image
pub withdrawn : {W : Type 0} (m : Meaning W) (world : W) (new : Store) (map : Map) (rec : Rec) (targets : List (List ℕ)) → rec.targets ≡ targets → map_of new ≡ with_each rec.targets None map → IsKept m world new → AreWithdrawn m world new targets
withdrawn m world new map rec targets same is kept =
    let none = subst (HasNone (map_of new)) same (none_of map (map_of new) rec.targets is) in
    record {
      map = none;
      images = λ told banks image path among. ap (λ (m : Map). m path) (kept.each told banks image).image ∙ none path among;
    }

-- nor had one
pub withdrawn_before : {W : Type 0} (m : Meaning W) (world : W) (store : Store) (rec : Rec) (targets : List (List ℕ)) → rec.targets ≡ targets → has_any (map_of store) rec.targets ≡ false → IsKept m world store → AreWithdrawn m world store targets
withdrawn_before m world store rec targets same none kept =
    withdrawn m world store (map_of store) rec targets same (sym (none_among (map_of store) rec.targets none)) kept

-- what a withdrawal asks for
pub out_with : (store : Store) (held busies : List Busy) (ticket : Ticket) (targets : List (List ℕ)) → (t : IsTicketFor store ticket targets) → AreOut store (held ++ busies) → HasOwnRoom ticket (held ++ busies)
    → ((busy : Busy) → Contains held busy → ShareNone targets busy.hold.targets) → AreOutWith store held t.rec ticket
out_with store held busies ticket targets t outs own apart = record {
  are = held_outs store held (outs_front store held busies outs);
  out = t.out;
  apart = apart_outs store held t.rec ticket targets (outs_front store held busies outs) (λ busy h. own busy (Contains-append_left held busies busy h)) apart t.same;
}

pub withdrawn_on : {W : Type 0} (m : Meaning W) (old new : W) (store : Store) (paths : List (List ℕ)) → (m.tells new → m.tells old) → (m.tells new → BanksKept m old new) → AreWithdrawn m old store paths → AreWithdrawn m new store paths
withdrawn_on m old new store paths back kept w = record {
  map = w.map;
  images = λ told banks image. w.images (back told) banks (λ b. (kept told b).no_more (banks b) (image b));
}

pub held_ok : {T E P : Type 0} (r : Result T E) → P → OnOk r P
held_ok (Ok x) p = p
held_ok (Err e) p = tt

pub ticket_still : (old new : Store) (ticket : Ticket) (targets : List (List ℕ)) → (t : IsTicketFor old ticket targets) → IsOut new t.rec ticket → IsTicketFor new ticket targets
ticket_still old new ticket targets t out = record { rec = t.rec; out = out; same = t.same }

-- ---- endings

-- the last of a log
pub last_of : {X : Type 0} (xs : List X) (x y : X) → xs ++ x ∷ [] ≡ xs ++ y ∷ [] → x ≡ y
last_of [] x y same = cc
last_of (first ∷ xs) x y same = let rest : xs ++ x ∷ [] ≡ xs ++ y ∷ [] = cc in last_of xs x y rest

-- one that is taken out of the tickets
pub stored_taken : {W : Type 0} (m : Meaning W) (world : W) (store : Store) (busies left : List Busy) (shut : Bool) → (AreOut store busies → AreOut store left) → IsStored m world store busies shut → IsStored m world store left shut
stored_taken m world store busies left shut outs s = record { live = s.live; kept = s.kept; outs = λ unshut. outs (s.outs unshut) }

-- the plan is told of the rule of this number
pub rule_of : (rule : RuleId) (id : ℕ) → rule.0 ≡ id → DoneOk rule ≡ DoneOk (record { 0 = id })
rule_of rule id same = ap (λ (n : ℕ). DoneOk (record { 0 = n })) same

-- ---- what is held still

pub unheld_still : (held left : List Busy) (targets : List (List ℕ)) → KeepsSome held left → ((busy : Busy) → Contains held busy → ShareNone targets busy.hold.targets) → (busy : Busy) → Contains left busy → ShareNone targets busy.hold.targets
unheld_still held left targets some apart busy h = elim some [
  | inl same ↦ apart busy (subst (λ (all : List Busy). Contains all busy) same h)
  | inr none ↦ absurd (let inside = subst (λ (all : List Busy). Contains all busy) none h in omega (arith, inside.1))
]

pub no_more_held : (held left : List Busy) → KeepsSome held left → length left ≤ length held
no_more_held held left some = elim some [
  | inl same ↦ omega (arith, ap (λ (all : List Busy). length all) same)
  | inr none ↦ omega (arith, ap (λ (all : List Busy). length all) none)
]

own_still : (ticket : Ticket) (held left busies : List Busy) → KeepsSome held left → HasOwnRoom ticket (held ++ busies) → HasOwnRoom ticket (left ++ busies)
own_still ticket held left busies some own other h = elim some [
  | inl same ↦ own other (subst (λ (all : List Busy). Contains (all ++ busies) other) same h)
  | inr none ↦ own other (Contains-append_right held busies other (subst (λ (all : List Busy). Contains (all ++ busies) other) none h))
]

-- a new ticket's room is its own also then
pub own_after : (old : Store) (ticket : Ticket) (held left busies now : List Busy) → IsFresh old ticket → AreOut old (held ++ busies) → KeepsSome held left → now ≡ busies → HasOwnRoom ticket (left ++ now)
own_after old ticket held left busies now fresh outs some same =
    subst (λ (all : List Busy). HasOwnRoom ticket (left ++ all)) (sym same) (own_still ticket held left busies some (own_room old ticket (held ++ busies) fresh outs))

-- what is made by none of both
pub apart_both : (held busies : List Busy) (targets : List (List ℕ)) (hold : Hold) (path : List ℕ) → ((busy : Busy) → Contains held busy → ShareNone targets busy.hold.targets)
    → ((h : Hold) → Contains (holds_in busies) h → ShareNone targets h.targets) → Contains (holds_in (held ++ busies)) hold → Contains targets path → Contains hold.targets path → ⊥
apart_both [] busies targets hold path first second among here there = second hold among path here there
apart_both (one ∷ held) busies targets hold path first second among here there = elim (in_front (holds_in (held ++ busies)) one.hold hold among) [
  | inl same ↦ first one (at_front held one) path here (subst (λ (h : Hold). Contains h.targets path) (sym same) there)
  | inr more ↦ apart_both held busies targets hold path (λ busy h. first busy (further held one busy h)) second more here there
]

pub both_same : (held as_held busies as_busies : List Busy) → held ≡ as_held → busies ≡ as_busies → held ++ busies ≡ as_held ++ as_busies
both_same held as_held busies as_busies first second = ap (λ (all : List Busy). all ++ busies) first ∙ ap (λ (all : List Busy). as_held ++ all) second

-- a ticket where none is held
pub out_alone : (store : Store) (rec : Rec) (ticket : Ticket) → IsOut store rec ticket → AreOutWith {T = Hold} store [] rec ticket
out_alone store rec ticket out = record {
  are = tt;
  out = out;
  apart = record { rooms = λ other h. absurd (omega (arith, h.1)); targets = λ other put h. absurd (omega (arith, h.1)) };
}
