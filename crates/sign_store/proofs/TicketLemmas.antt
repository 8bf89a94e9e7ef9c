-- The entries of a ticket that is out: they say its record, and have their room.
use Rattle.std.proofs.Common.{◌≡◌, ℕ, ◌<◌, ◌≤◌, ◌+◌, Bool, true, false, cond, List, [], ◌∷◌, ◌++◌, length, get_or, Option, Some, None, refl, sym, ap, subst, ◌∙◌, append_assoc, arith}
use Rattle.std.specs.Prelude.{◌≢◌, ◌||◌, ◌&&◌, ◌==◌, not, slice_index, Result, Ok, Err, OnErr}
use Rattle.std.specs.Option.{option_map, is_some}
use Rattle.std.specs.Str.{bytes_eq}
use Rattle.std.proofs.lemmas.Slice.Eq.{bytes_eq-Decides}
use Rattle.std.specs.Int.{w32, to_be_bytes}
use Rattle.std.proofs.lemmas.List.{append-nil, length-append, get_or-take, take_at}
use Rattle.deciders.specs.declared.recorded.Rec.{Rec}
use Rattle.deciders.specs.declared.version.Version.TheVariants.{Two}
use Rattle.deciders.specs.Spelling.{sized, listed, spelling, IsPathText, Spells}
use Rattle.deciders.specs.Reading.{path_at, counted, paths_in}
use Rattle.deciders.proofs.Takings.{path_reader, wide32}
use Rattle.deciders.proofs.Parts.{list_reader}
use Rattle.deciders.proofs.Sizes.{targets_within}
use Rattle.sign_store.specs.declared.entries.Change.TheVariants.{Withdraw}
use Rattle.sign_store.specs.declared.store.Store.{Store}
use Rattle.sign_store.specs.declared.ticket.Ticket.{Ticket}
use Rattle.sign_store.specs.Entries.{entry_of, put_payload, withdraw_payload, entries_len}
use Rattle.sign_store.specs.Images.{change_in}
use Rattle.sign_store.specs.Stores.{IsTicket, IsOut, IsUntouched, HasRoom, AreApart, map_of}
use Rattle.sign_store.specs.Tables.{Map, has_any, with_each, is_among}

-- ---- what the entries say

-- a length, the mark of a put and a spelling, one behind the other
pub put_spelt : (old with_len pushed : List ℕ) (rec : Rec) (len : ℕ) → with_len ≡ old ++ to_be_bytes w32 len → pushed ≡ with_len ++ 1 ∷ [] → len ≡ length (put_payload rec)
    → pushed ++ spelling Two rec ≡ old ++ entry_of (put_payload rec)
put_spelt old with_len pushed rec len lengthened marked is =
    ap (λ (x : List ℕ). x ++ spelling Two rec) (marked ∙ ap (λ (x : List ℕ). x ++ 1 ∷ []) lengthened)
    ∙ append_assoc (old ++ to_be_bytes w32 len) (1 ∷ []) (spelling Two rec)
    ∙ append_assoc old (to_be_bytes w32 len) (1 ∷ spelling Two rec)
    ∙ ap (λ (n : ℕ). old ++ (to_be_bytes w32 n ++ put_payload rec)) is

left_true : (a b : Bool) → (a && b) ≡ true → a ≡ true
left_true true b e = refl
left_true false b e = absurd cc

pub paths_again : (paths : List (List ℕ)) → counted path_at (listed sized paths) ≡ Some (paths, []) → not (length paths == 0) ≡ true → paths_in (listed sized paths) ≡ Some paths
unfolding paths_in
paths_again paths counts some = rw (counts, some) refl

pub withdrawal_says : (rec : Rec) → Spells Two (spelling Two rec) rec → change_in Two (withdraw_payload rec.targets) ≡ Some (Withdraw rec.targets)
withdrawal_says rec spells =
    let again = (list_reader path_at sized IsPathText path_reader).again rec.targets [] spells.parts.targets in
    let counts : counted path_at (listed sized rec.targets) ≡ Some (rec.targets, []) = ap (counted path_at) (sym (append-nil (listed sized rec.targets))) ∙ again in
    let some : not (length rec.targets == 0) ≡ true = left_true _ _ spells.valid in
    ap (option_map Withdraw) (paths_again rec.targets counts some)

-- ---- their room

at_least : (b : Bool) (put withdrawal : ℕ) → put ≤ put + cond b withdrawal 0
at_least true put withdrawal = omega arith
at_least false put withdrawal = omega arith

pub put_has_room : (store : Store) (rec : Rec) (ticket : Ticket) → IsOut store rec ticket → HasRoom store ticket.room (length ticket.put.items)
put_has_room store rec ticket out = record {
  inside = out.room.inside;
  enough = let enough = out.room.enough in omega (arith, enough, at_least (has_any (map_of store) rec.targets) (length ticket.put.items) (length ticket.withdrawal.items));
}

both_owed : (b : Bool) (put withdrawal : ℕ) → b ≡ true → put + cond b withdrawal 0 ≡ put + withdrawal
both_owed true put withdrawal e = refl
both_owed false put withdrawal e = absurd cc

put_owed : (b : Bool) (put withdrawal : ℕ) → b ≡ false → put + cond b withdrawal 0 ≡ put
put_owed true put withdrawal e = absurd cc
put_owed false put withdrawal e = omega arith

pub withdrawal_has_room : (store : Store) (rec : Rec) (ticket : Ticket) → IsOut store rec ticket → has_any (map_of store) rec.targets ≡ true → HasRoom store ticket.room (length ticket.withdrawal.items)
withdrawal_has_room store rec ticket out some = record {
  inside = out.room.inside;
  enough = let enough = out.room.enough in omega (arith, enough, both_owed (has_any (map_of store) rec.targets) (length ticket.put.items) (length ticket.withdrawal.items) some);
}

owed_less : (a b : Bool) (put withdrawal : ℕ) → (a ≡ true → b ≡ true) → put + cond a withdrawal 0 ≤ put + cond b withdrawal 0
owed_less true true put withdrawal so = omega arith
owed_less true false put withdrawal so = let bad = so refl in absurd cc
owed_less false b put withdrawal so = let le = at_least b put withdrawal in omega (arith, le)

-- ---- which targets have a record, after one of the paths was given another, or none

pub any_less : (map : Map) (paths targets : List (List ℕ)) → has_any (with_each paths None map) targets ≡ true → has_any map targets ≡ true
any_less map paths [] e = absurd cc
any_less map paths (path ∷ targets) e = by (is_among paths path) (is_some (map path)) refl refl e (any_less map paths targets)
  where
    by : (b c : Bool) → is_among paths path ≡ b → is_some (map path) ≡ c → has_any (with_each paths None map) (path ∷ targets) ≡ true → (has_any (with_each paths None map) targets ≡ true → has_any map targets ≡ true)
        → has_any map (path ∷ targets) ≡ true
    by b true among some e later = rw some refl
    by true false among some e later = rw some (later (subst (λ (x : Bool). (is_some (cond x None (map path)) || has_any (with_each paths None map) targets) ≡ true) among e))
    by false false among some e later = rw some (later (subst (λ (y : Bool). (y || has_any (with_each paths None map) targets) ≡ true) some (subst (λ (x : Bool). (is_some (cond x None (map path)) || has_any (with_each paths None map) targets) ≡ true) among e)))

same_bytes : (path : List ℕ) → bytes_eq path path ≡ true
same_bytes path = (bytes_eq-Decides path path).1 refl

among_middle : (front : List (List ℕ)) (path : List ℕ) (rest : List (List ℕ)) → is_among (front ++ path ∷ rest) path ≡ true
among_middle [] path rest = rw (same_bytes path) refl
among_middle (first ∷ front) path rest = rw (among_middle front path rest) (or_true (bytes_eq first path))
  where
    or_true : (b : Bool) → (b || true) ≡ true
    or_true true = refl
    or_true false = refl

none_left : (map : Map) (front rest : List (List ℕ)) → has_any (with_each (front ++ rest) None map) rest ≡ false
none_left map front [] = refl
none_left map front (path ∷ rest) =
    let here : is_among (front ++ path ∷ rest) path ≡ true = among_middle front path rest in
    let later : has_any (with_each (front ++ path ∷ rest) None map) rest ≡ false =
    subst (λ (paths : List (List ℕ)). has_any (with_each paths None map) rest ≡ false) (append_assoc front (path ∷ []) rest) (none_left map (front ++ path ∷ []) rest) in
    subst (λ (b : Bool). (is_some (cond b None (map path)) || has_any (with_each (front ++ path ∷ rest) None map) rest) ≡ false) (sym here) later

pub none_withdrawn : (map : Map) (targets : List (List ℕ)) → has_any (with_each targets None map) targets ≡ false
none_withdrawn map targets = none_left map [] targets

not_true : (b : Bool) → b ≢ true → b ≡ false
not_true true e = absurd (e refl)
not_true false e = refl

same_apart : (map : Map) (rec : Option Rec) (paths front rest : List (List ℕ)) → AreApart paths (front ++ rest) → has_any (with_each paths rec map) rest ≡ has_any map rest
same_apart map rec paths front [] apart = refl
same_apart map rec paths front (path ∷ rest) apart =
    let out : is_among paths path ≡ false = not_true (is_among paths path) (λ among. apart path among (among_middle front path rest)) in
    let later = same_apart map rec paths (front ++ path ∷ []) rest (subst (λ (x : List (List ℕ)). AreApart paths x) (sym (append_assoc front (path ∷ []) rest)) apart) in
    rw (out, later) refl

pub any_apart : (map : Map) (rec : Option Rec) (paths targets : List (List ℕ)) → AreApart paths targets → has_any (with_each paths rec map) targets ≡ has_any map targets
any_apart map rec paths targets apart = same_apart map rec paths [] targets apart

-- ---- tickets after a call

-- another one's room stays, and no more is owed
pub out_still : (old new : Store) (rec : Rec) (ticket : Ticket) → IsOut old rec ticket → IsTicket new rec ticket → length new.rooms.items ≡ length old.rooms.items
    → slice_index new.rooms.items ticket.room ≡ slice_index old.rooms.items ticket.room → (has_any (map_of new) rec.targets ≡ true → has_any (map_of old) rec.targets ≡ true) → IsOut new rec ticket
out_still old new rec ticket out own rooms here less = record {
  own = own;
  spells = out.spells;
  fits = out.fits;
  room = record {
    inside = let inside = out.room.inside in omega (arith, inside, rooms);
    enough = let enough = out.room.enough in omega (arith, enough, here, owed_less (has_any (map_of new) rec.targets) (has_any (map_of old) rec.targets) (length ticket.put.items) (length ticket.withdrawal.items) less);
  };
}

pub less_withdrawn : (old new : Map) (paths targets : List (List ℕ)) → new ≡ with_each paths None old → has_any new targets ≡ true → has_any old targets ≡ true
less_withdrawn old new paths targets is some = any_less old paths targets (subst (λ (map : Map). has_any map targets ≡ true) is some)

pub less_apart : (old new : Map) (rec : Option Rec) (paths targets : List (List ℕ)) → new ≡ with_each paths rec old → AreApart paths targets → has_any new targets ≡ true → has_any old targets ≡ true
less_apart old new rec paths targets is apart some = sym (any_apart old rec paths targets apart) ∙ subst (λ (map : Map). has_any map targets ≡ true) is some

-- a ticket whose targets were withdrawn, of this map
pub out_withdrawn : (old new : Store) (rec : Rec) (ticket : Ticket) → IsOut old rec ticket → IsTicket new rec ticket → has_any (map_of old) rec.targets ≡ true → length new.rooms.items ≡ length old.rooms.items
    → slice_index new.rooms.items ticket.room + length ticket.withdrawal.items ≡ slice_index old.rooms.items ticket.room → (map : Map) → map_of new ≡ with_each rec.targets None map → IsOut new rec ticket
out_withdrawn old new rec ticket out own some rooms here before map = record {
  own = own;
  spells = out.spells;
  fits = out.fits;
  room = record {
    inside = let inside = out.room.inside in omega (arith, inside, rooms);
    enough =
        let enough = out.room.enough in
        let none : has_any (map_of new) rec.targets ≡ false = subst (λ (m : Map). has_any m rec.targets ≡ false) (sym map) (none_withdrawn before rec.targets) in
        omega (arith, enough, here, both_owed (has_any (map_of old) rec.targets) (length ticket.put.items) (length ticket.withdrawal.items) some, put_owed (has_any (map_of new) rec.targets) (length ticket.put.items) (length ticket.withdrawal.items) none);
  };
}

-- another one, where the map is the same
pub out_beside : (old new : Store) (rec : Rec) (ticket : Ticket) → IsOut old rec ticket → IsTicket new rec ticket → map_of new ≡ map_of old → length old.rooms.items ≤ length new.rooms.items
    → slice_index new.rooms.items ticket.room ≡ slice_index old.rooms.items ticket.room → IsOut new rec ticket
out_beside old new rec ticket out own map rooms here = record {
  own = own;
  spells = out.spells;
  fits = out.fits;
  room = record {
    inside = let inside = out.room.inside in omega (arith, inside, rooms);
    enough =
        let enough = out.room.enough in
        omega (
          arith,
          enough,
          here,
          owed_less (has_any (map_of new) rec.targets) (has_any (map_of old) rec.targets) (length ticket.put.items) (length ticket.withdrawal.items)
              (λ some. subst (λ (m : Map). has_any m rec.targets ≡ true) map some),
        );
  };
}

-- what the entries of a new ticket take
pub owed_is : (map : Map) (rec : Rec) (put withdrawal : List ℕ) (payload : ℕ) → payload ≡ length (spelling Two rec) + 1 → put ≡ 1 ∷ entry_of (put_payload rec) → withdrawal ≡ 1 ∷ entry_of (withdraw_payload rec.targets)
    → length put + cond (has_any map rec.targets) (length withdrawal) 0 ≡ entries_len map rec payload
owed_is map rec put withdrawal payload payload-is put-is withdrawal-is = by (has_any map rec.targets)
  where
    put-len : length put ≡ 5 + payload
    put-len = omega (arith, ap length put-is, length-append (to_be_bytes w32 (length (put_payload rec))) (put_payload rec), wide32.len (length (put_payload rec)), payload-is)

    withdrawal-len : length withdrawal ≡ 6 + length (listed sized rec.targets)
    withdrawal-len = omega (arith, ap length withdrawal-is, length-append (to_be_bytes w32 (length (withdraw_payload rec.targets))) (withdraw_payload rec.targets), wide32.len (length (withdraw_payload rec.targets)))

    by : (b : Bool) → length put + cond b (length withdrawal) 0 ≡ cond b (length (listed sized rec.targets) + (5 + payload + 6)) (5 + payload)
    by true = omega (arith, put-len, withdrawal-len)
    by false = omega (arith, put-len)

-- the rooms stay where one more is kept
pub kept_room : (old new : List ℕ) (len room : ℕ) → new ≡ old ++ len ∷ [] → room < length old → slice_index new room ≡ slice_index old room
kept_room old new len room is inside =
    ap (λ (x : List ℕ). slice_index x room) is ∙ sym (get_or-take (length old) (old ++ len ∷ []) room 0 inside) ∙ ap (λ (x : List ℕ). get_or x room 0) (take_at old (len ∷ []) (length old) refl)

-- ---- stores after a call

pub untouched : {T E : Type 0} (r : Result T E) (old new : Store) → map_of new ≡ map_of old → new.bank ≡ old.bank → new.end ≡ old.end → new.rooms.items ≡ old.rooms.items → OnErr r (IsUntouched old new)
untouched (Ok x) old new map bank end rooms = tt
untouched (Err e) old new map bank end rooms = record { map = map; banks = record { bank = bank; end = end }; rooms = rooms }

pub no_withdrawal : (b : Bool) (len : ℕ) → b ≡ false → cond b len 0 ≡ 0
no_withdrawal true len e = absurd cc
no_withdrawal false len e = refl

pub whole_withdrawal : (b : Bool) (len : ℕ) → b ≡ true → cond b len 0 ≡ len
whole_withdrawal true len e = refl
whole_withdrawal false len e = absurd cc
