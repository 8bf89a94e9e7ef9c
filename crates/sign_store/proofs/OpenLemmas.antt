-- The steps of opening a store, put together.
use Rattle.std.proofs.Common.{◌≡◌, ℕ, ◌<◌, ◌≤◌, ◌+◌, ◌-◌, ◌^◌, Bool, true, false, cond, eqb, leb, List, [], ◌∷◌, ◌++◌, length, take, drop, refl, sym, ap, subst, ◌∙◌, append_assoc, inl, inr, arith}
use Rattle.std.specs.Prelude.{◌≢◌, ◌&&◌, nat_lt, codes, slice_index, Result, Ok, Err, IfOk, IfErr}
use Rattle.std.specs.Str.{bytes_eq}
use Rattle.std.proofs.lemmas.Bool.{leb-false, ltb-true}
use Rattle.std.proofs.lemmas.List.{take_at, drop_at, drop-drop, length-append, length-take, length-drop}
use Rattle.world_api.specs.declared.disk.Bank.{Bank}
use Rattle.world_api.specs.declared.disk.Bank.TheVariants.{A, B}
use Rattle.world_api.specs.Around.{Around}
use Rattle.world_api.specs.Banks.{Banks, Holds, Torn}
use Rattle.world_api.specs.Meaning.{Meaning, IsImage, IsSettled, BankKept, BanksKept, Throughout, AtEither}
use Rattle.world_api.proofs.Looking.{bank_joined}
use Rattle.world_api.proofs.Moments.{IsNow, begins, chains, weakens, disk_call}
use Rattle.deciders.specs.declared.version.Version.{Version}
use Rattle.deciders.specs.declared.version.Version.TheVariants.{One, Two}
use Rattle.sign_store.specs.declared.head.Edition.{Edition}
use Rattle.sign_store.specs.declared.entries.EndGate.{EndGate}
use Rattle.sign_store.specs.declared.entries.EndGate.TheVariants as gate
use Rattle.sign_store.specs.declared.head.Choice.TheVariants as choice
use Rattle.sign_store.specs.declared.opening.Opened.{Opened}
use Rattle.sign_store.specs.declared.map.RecordMap.{RecordMap}
use Rattle.sign_store.specs.declared.refusals.StoreRefusal.{StoreRefusal}
use Rattle.sign_store.specs.declared.refusals.StoreRefusal.TheVariants as refusal
use Rattle.sign_store.specs.declared.head.Choice.{Choice}
use Rattle.sign_store.specs.declared.head.Head.{Head}
use Rattle.sign_store.specs.declared.head.Head.TheVariants.{Short, Closed, Foreign, Live}
use Rattle.sign_store.specs.Compacts.{compact_bytes}
use Rattle.sign_store.specs.Gates.{IsGate}
use Rattle.sign_store.specs.Heads.{head_of, live_head, mark_of, generation_of, gate_of, edition_of, other_bank}
use Rattle.sign_store.specs.Images.{entries_map, body_of, map_chosen}
use Rattle.sign_store.specs.Ends.{StandsAt, StandsFor, IsLeftOr, KeepsAt, AreSettled, image_in}
use Rattle.sign_store.specs.Forms.{IsSpare}
use Rattle.sign_store.specs.Maps.{map_in}
use Rattle.sign_store.specs.Changing.{ReopensThroughout, Starts, StartsThroughout}
use Rattle.sign_store.specs.Reached.{ReadsBanks, Writes, Endures, KeepsSettled, RestsUnlessFault, LeavesBanks}
use Rattle.sign_store.specs.Readings.{AreSmall, AreReadable, IsRefusal, IsOutside, choice_of}
use Rattle.sign_store.proofs.ReadLemmas.{outside_refuses}
use Rattle.sign_store.specs.Beginnings.{IsAtRest, CanFill, IsFilled, IsMendable, IsOpened, IsCurrent, IsAsBefore, IsCounted, IsWrittenTo, GoesOver, Exchanges, IsDue, IsReopened, IsBegunOver, begun_by}
use Rattle.sign_store.specs.Tables.{Map, nothing}
use Rattle.sign_store.proofs.EndLemmas.{gate_at}
use Rattle.sign_store.proofs.FillLemmas.{choice_at}
use Rattle.sign_store.proofs.BeginLemmas.{torn_end, live_stays, closed_stands, spare_first, spare_beside_a, spare_beside_b, first_live, second_live}
use Rattle.sign_store.proofs.StepLemmas.{endures_then, rest_read, rest_written}

pub same_banks : (a b : Banks) → ((bank : Bank) → b bank ≡ a bank) → b ≡ a
same_banks a b at = λ i. λ bank. at bank i

pub seen_read : {W : Type 0} (m : Meaning W) (a b : W) → ReadsBanks m a b → m.tells b → m.seen b ≡ m.seen a
seen_read m a b reads told = same_banks (m.seen a) (m.seen b) (λ bank. (reads.banks told bank).same)

pub seen_kept : {W : Type 0} (m : Meaning W) (a b : W) → (m.tells b → BanksKept m a b) → m.tells b → m.seen b ≡ m.seen a
seen_kept m a b kept told = same_banks (m.seen a) (m.seen b) (λ bank. (kept told bank).same)

pub image_kept : {W : Type 0} (m : Meaning W) (a b : W) → (m.tells b → BanksKept m a b) → m.tells b → image_in (m.seen b) ≡ image_in (m.seen a)
image_kept m a b kept told = ap image_in (seen_kept m a b kept told)

-- they were kept, and then read
pub kept_read : {W : Type 0} (m : Meaning W) (a b c : W) → (m.tells b → BanksKept m a b) → ReadsBanks m b c → m.tells c → BanksKept m a c
kept_read m a b c kept reads told bank = bank_joined m bank a b c (kept (reads.told.told told) bank) (reads.banks told bank)

-- ---- the banks are synced

pub synced_first : {W : Type 0} (m : Meaning W) (a b : W) → Throughout m a b (AtEither m a b) → (m.tells b → m.around b ≡ m.around a) → (m.tells b → BanksKept m a b) → Throughout m a b (IsAsBefore m a)
synced_first m a b time around kept = disk_call m a b (IsAsBefore m a) time
    (λ told banks image. record { same = around told; image = image })
    (λ told banks image. record { same = around told; image = λ bank. (kept told bank).no_more (banks bank) (image bank) })

settled_kept : {W : Type 0} (m : Meaning W) (bank : Bank) (a b : W) → IsSettled m a bank → BankKept m bank a b → IsSettled m b bank
settled_kept m bank a b settled kept = λ bytes image. settled bytes (kept.no_more bytes image) ∙ sym kept.same

pub both_settled : {W : Type 0} (m : Meaning W) (a b : W) → IsSettled m a A → BankKept m A a b → IsSettled m b B → AreSettled m b
both_settled m a b first kept second A = settled_kept m A a b first kept
both_settled m a b first kept second B = second

-- ---- moments

pub left_before : {W : Type 0} (m : Meaning W) (a b : W) (map : Map) → Throughout m a b (IsAsBefore m a) → Throughout m a b (IsLeftOr m a map)
left_before m a b map run = weakens m a b (IsAsBefore m a) (IsLeftOr m a map) run (λ told around banks is. record { same = is.same; left = inl is.image })

-- banks at rest that stand for a map do so at this moment
stands_now : {W : Type 0} (m : Meaning W) (b : W) (stood : Around) (map : Map) → IsNow m b → IsAtRest m b stood → (m.tells b → image_in (m.seen b) ≡ map) → Throughout m b b (StandsFor stood map)
stands_now m b stood map only rest is = begins m b (StandsFor stood map) only
    (λ told banks image. record { same = rest.around told; image = ap image_in (same_banks (m.seen b) banks (λ bank. rest.settled told bank (banks bank) (image bank))) ∙ is told })

-- what stood for the map from the syncs on
pub left_then : {W : Type 0} (m : Meaning W) (a b c : W) (map : Map) → IsNow m b → Throughout m a b (IsAsBefore m a) → IsAtRest m b (m.around a) → (m.tells b → image_in (m.seen b) ≡ map)
    → Endures m b c (m.around a) map → Throughout m a c (IsLeftOr m a map)
left_then m a b c map only run rest is endures =
    chains m a b c (IsLeftOr m a map) (left_before m a b map run)
    (weakens m b c (StandsFor (m.around a) map) (IsLeftOr m a map) (endures.on b (stands_now m b (m.around a) map only rest is)) (λ told around banks stands. record { same = stands.same; left = inr stands.image }))

-- what stood for the map reads as it
pub still_reads : {W : Type 0} (m : Meaning W) (b c : W) (stood : Around) (map : Map) → IsNow m b → IsAtRest m b stood → (m.tells b → image_in (m.seen b) ≡ map) → Endures m b c stood map
    → (m.tells c → IsImage m c (m.seen c)) → m.tells c → image_in (m.seen c) ≡ map
still_reads m b c stood map only rest is endures reads told = ((endures.on b (stands_now m b stood map only rest is)).now told (m.seen c) (reads told)).image

pub endures_as : {W : Type 0} (m : Meaning W) (a b : W) (stood : Around) (map other : Map) → (m.tells b → m.tells a) → (m.tells a → map ≡ other) → Endures m a b stood map → Endures m a b stood other
endures_as m a b stood map other back same endures = record {
  on = λ from run.
      weakens m from b (StandsFor stood map) (StandsFor stood other)
      (endures.on from (weakens m from a (StandsFor stood other) (StandsFor stood map) run (λ told around banks is. record { same = is.same; image = is.image ∙ sym (same told) })))
      (λ told around banks is. record { same = is.same; image = is.image ∙ same (back told) });
}

pub opened_as : {W : Type 0} (m : Meaning W) (stood : Around) (map other : Map) (world : W) (opened : Opened) → (m.tells world → map ≡ other) → IsOpened m stood map world opened → IsOpened m stood other world opened
opened_as m stood map other world opened same is = record {
  rest = is.rest;
  stands = λ told. subst (λ (x : Map). StandsAt opened.edition.version opened.bank opened.end x (m.seen world)) (same told) (is.stands told);
  counts = is.counts;
  held = λ told. is.held told ∙ same told;
  ordered = is.ordered;
}

pub current_as : {W : Type 0} (m : Meaning W) (stood : Around) (map other : Map) (world : W) (opened : Opened) → (m.tells world → map ≡ other) → IsCurrent m stood map world opened → IsCurrent m stood other world opened
current_as m stood map other world opened same is = record { opens = opened_as m stood map other world opened same is.opens; second = is.second }

-- ---- what was read of a bank that counts

live_long : (bytes : List ℕ) (g : Edition) → head_of bytes ≡ Live g → 17 < length bytes
live_long bytes g e = by (leb (length bytes) 17) refl
  where
    by : (b : Bool) → leb (length bytes) 17 ≡ b → 17 < length bytes
    by true le = let short : Short ≡ Live g = sym (rw le refl) ∙ e in absurd cc
    by false le = leb-false (length bytes) 17 le

pub counted_long : (bank : Bank) (banks : Banks) (g : Edition) → choice_of banks ≡ choice.Live bank g → 17 < length (banks bank)
counted_long A banks g counts = live_long (banks A) g (first_live (head_of (banks A)) (head_of (banks B)) g counts)
counted_long B banks g counts = live_long (banks B) g (second_live (head_of (banks A)) (head_of (banks B)) g counts)

counted_is : (bank : Bank) (banks : Banks) (g : Edition) → choice_of banks ≡ choice.Live bank g → image_in banks ≡ entries_map g.version (body_of (banks bank))
counted_is A banks g counts = ap (λ (c : Choice). map_chosen c (banks A) (banks B)) counts
counted_is B banks g counts = ap (λ (c : Choice). map_chosen c (banks A) (banks B)) counts

-- the bank was read: its end can be mended
pub can_mend : {W : Type 0} (m : Meaning W) (a b : W) (bank : Bank) (end : EndGate) (place : ℕ) (stood : Around) (map read : Map) (edition : Edition) → ReadsBanks m a b → IsCounted m a bank stood map edition
    → (m.tells b → read ≡ entries_map edition.version (body_of (m.seen b bank))) → (m.tells b → 17 < length (m.seen b bank) → IsWrittenTo edition.version place read (m.seen b bank)) → (m.tells b → 17 < length (m.seen b bank) → IsGate end place (m.seen b bank))
    → IsMendable m b bank end place stood map edition
can_mend m a b bank end place stood map read edition reads is read_is written gate_is = record {
  rest = rest_read m a b stood reads is.rest;
  counts = counts;
  written = λ told. subst (λ (x : Map). IsWrittenTo edition.version place x (m.seen b bank)) (same told) (written told (counted_long bank (m.seen b) edition (counts told)));
  gate_is = λ told. gate_is told (counted_long bank (m.seen b) edition (counts told));
}
  where
    counts : m.tells b → choice_of (m.seen b) ≡ choice.Live bank edition
    counts told = ap choice_of (seen_read m a b reads told) ∙ is.counts (reads.told.told told)

    same : m.tells b → read ≡ map
    same told = read_is told ∙ sym (counted_is bank (m.seen b) edition (counts told)) ∙ ap image_in (seen_read m a b reads told) ∙ is.image (reads.told.told told)

pub read_same : {W : Type 0} (m : Meaning W) (a b : W) (bank : Bank) (map read : Map) (stood : Around) (edition : Edition) → ReadsBanks m a b → IsCounted m a bank stood map edition → (m.tells b → read ≡ entries_map edition.version (body_of (m.seen b bank))) → m.tells b → read ≡ map
read_same m a b bank map read stood edition reads is read_is told =
    let counts : choice_of (m.seen b) ≡ choice.Live bank edition = ap choice_of (seen_read m a b reads told) ∙ is.counts (reads.told.told told) in
    read_is told ∙ sym (counted_is bank (m.seen b) edition counts) ∙ ap image_in (seen_read m a b reads told) ∙ is.image (reads.told.told told)

-- ---- where no bank counts

pub can_start : {W : Type 0} (m : Meaning W) (a : W) (stood : Around) → IsAtRest m a stood → (m.tells a → choice_of (m.seen a) ≡ choice.None) → CanFill m a A stood nothing 1
can_start m a stood rest none = record { rest = rest; spare = λ told. spare_first (m.seen a) (none told) }

pub none_is : (banks : Banks) (map : Map) → choice_of banks ≡ choice.None → image_in banks ≡ map → nothing ≡ map
none_is banks map none is = sym (spare_first banks none).now ∙ is

pub if_current_as : {W : Type 0} (m : Meaning W) (stood : Around) (map other : Map) (world : W) (r : Result Opened StoreRefusal) → (m.tells world → map ≡ other) → IfOk r (IsCurrent m stood map world) → IfOk r (IsCurrent m stood other world)
if_current_as m stood map other world (Err e) same is = tt
if_current_as m stood map other world (Ok opened) same is = current_as m stood map other world opened same is

-- the banks were read, and one was made live: they stand for the same map
pub none_endures : {W : Type 0} (m : Meaning W) (b c d : W) (stood : Around) (map : Map) → ReadsBanks m b c → IsAtRest m b stood → (m.tells b → image_in (m.seen b) ≡ map) → (m.tells c → choice_of (m.seen c) ≡ choice.None)
    → (m.tells d → m.tells c) → StartsThroughout m c d → Endures m b d stood map
none_endures m b c d stood map looks rest is none back starts =
    endures_then m b c d stood map (looks.moments stood map)
    (endures_as m c d stood nothing map back (λ told. none_is (m.seen c) map (none told) (ap image_in (seen_read m b c looks told) ∙ is (looks.told.told told)))
    (starts stood (can_start m c stood (rest_read m b c stood looks rest) none)))

pub none_opened : {W : Type 0} (m : Meaning W) (b c d : W) (stood : Around) (map : Map) (r : Result Opened StoreRefusal) → ReadsBanks m b c → IsAtRest m b stood → (m.tells b → image_in (m.seen b) ≡ map)
    → (m.tells c → choice_of (m.seen c) ≡ choice.None) → (m.tells d → m.tells c) → Starts m c d r → IfOk r (IsCurrent m stood map d)
none_opened m b c d stood map r looks rest is none back starts =
    if_current_as m stood nothing map d r
    (λ late. let told = back late in none_is (m.seen c) map (none told) (ap image_in (seen_read m b c looks told) ∙ is (looks.told.told told)))
    (starts stood (can_start m c stood (rest_read m b c stood looks rest) none))

-- the bank that counts was found
pub counted_after : {W : Type 0} (m : Meaning W) (a b : W) (bank : Bank) (stood : Around) (map : Map) (edition : Edition) → ReadsBanks m a b → IsAtRest m a stood → (m.tells a → image_in (m.seen a) ≡ map)
    → (m.tells b → choice_of (m.seen b) ≡ choice.Live bank edition) → IsCounted m b bank stood map edition
counted_after m a b bank stood map edition reads rest is counts = record {
  rest = rest_read m a b stood reads rest;
  counts = counts;
  image = λ told. ap image_in (seen_read m a b reads told) ∙ is (reads.told.told told);
}

-- the banks were read, and the one that counts reopened: they stand for the same map
pub live_endures : {W : Type 0} (m : Meaning W) (b c d : W) (bank : Bank) (edition : Edition) (stood : Around) (map : Map) → ReadsBanks m b c → IsAtRest m b stood → (m.tells b → image_in (m.seen b) ≡ map)
    → (m.tells c → choice_of (m.seen c) ≡ choice.Live bank edition) → ReopensThroughout m c d bank edition → Endures m b d stood map
live_endures m b c d bank edition stood map looks rest is live reopens =
    endures_then m b c d stood map (looks.moments stood map) (reopens stood map (counted_after m b c bank stood map edition looks rest is live))

-- ---- what a refusal leaves

pub settled_read : {W : Type 0} (m : Meaning W) (a b : W) → ReadsBanks m a b → KeepsSettled m a b
settled_read m a b reads = record { on = λ told rest bank. settled_kept m bank a b (rest bank) (reads.banks told bank) }

pub settled_then : {W : Type 0} (m : Meaning W) (a b c : W) → (m.tells c → m.tells b) → KeepsSettled m a b → KeepsSettled m b c → KeepsSettled m a c
settled_then m a b c back first second = record { on = λ told rest. second.on told (first.on (back told) rest) }

pub rests_kept : {W T : Type 0} (m : Meaning W) (a b : W) (r : Result T StoreRefusal) → KeepsSettled m a b → IfErr r (RestsUnlessFault m a b)
rests_kept m a b (Ok x) keeps = tt
rests_kept m a b (Err e) keeps = λ not. keeps

pub rests_then : {W T : Type 0} (m : Meaning W) (a b c : W) (r : Result T StoreRefusal) → (m.tells c → m.tells b) → KeepsSettled m a b → IfErr r (RestsUnlessFault m b c) → IfErr r (RestsUnlessFault m a c)
rests_then m a b c (Ok x) back first second = tt
rests_then m a b c (Err e) back first second = λ not. settled_then m a b c back first (second not)

-- the banks were synced and read
pub left_read : {W : Type 0} (m : Meaning W) (a b c : W) (stood : Around) (e : StoreRefusal) → (m.tells b → BanksKept m a b) → IsAtRest m b stood → ReadsBanks m b c → m.tells c → LeavesBanks m a c e
left_read m a b c stood e kept rest looks told = by e
  where
    settled : AreSettled m c
    settled = (rest_read m b c stood looks rest).settled told

    by : (e : StoreRefusal) → LeavesBanks m a c e
    by refusal.Fault = tt
    by (refusal.Foreign bank) = record { kept = kept_read m a b c kept looks told; settled = settled }
    by (refusal.Large size) = record { kept = kept_read m a b c kept looks told; settled = settled }
    by refusal.Memory = settled

pub if_left_read : {W T : Type 0} (m : Meaning W) (a b c : W) (stood : Around) (r : Result T StoreRefusal) → (m.tells b → BanksKept m a b) → IsAtRest m b stood → ReadsBanks m b c → m.tells c → IfErr r (LeavesBanks m a c)
if_left_read m a b c stood (Ok x) kept rest looks told = tt
if_left_read m a b c stood (Err e) kept rest looks told = left_read m a b c stood e kept rest looks told

-- the same, and what came then was refused from outside
pub left_outside : {W T : Type 0} (m : Meaning W) (a b c d : W) (stood : Around) (r : Result T StoreRefusal) → IsAtRest m b stood → ReadsBanks m b c → (m.tells d → m.tells c) → IfErr r IsOutside → IfErr r (RestsUnlessFault m c d) → m.tells d
    → IfErr r (LeavesBanks m a d)
left_outside m a b c d stood (Ok x) rest looks back out rests told = tt
left_outside m a b c d stood (Err e) rest looks back out rests told = by e out rests
  where
    by : (e : StoreRefusal) → IsOutside e → RestsUnlessFault m c d e → LeavesBanks m a d e
    by refusal.Fault out rests = tt
    by (refusal.Foreign bank) out rests = absurd out
    by (refusal.Large size) out rests = absurd out
    by refusal.Memory out rests = (rests (λ e. cc)).on told ((rest_read m b c stood looks rest).settled (back told))

-- ---- the end is mended

record IsHeld (place : ℕ) (was now : List ℕ) : Type 0 where
  front : take place now ≡ take place was
  behind : drop (place + 1) now ≡ drop (place + 1) was
  inside : place < length now
  gate_is : slice_index now place ≡ 0
  torn : Torn place 1 was now

held_zero : (place : ℕ) (was now : List ℕ) → place ≤ length was → Holds was place (0 ∷ []) now → IsHeld place was now
held_zero place was now within holds =
    let rest = drop (place + 1) was in
    let whole : now ≡ take place was ++ (0 ∷ rest) = holds ∙ append_assoc (take place was) (0 ∷ []) rest in
    let len : length (take place was) ≡ place = omega (arith, length-take place was, within) in
    let front : take place now ≡ take place was = ap (take place) whole ∙ take_at (take place was) (0 ∷ rest) place len in
    let left : drop place now ≡ 0 ∷ rest = ap (drop place) whole ∙ drop_at (take place was) (0 ∷ rest) place len in
    let behind : drop (place + 1) now ≡ rest = sym (drop-drop 1 place now) ∙ ap (drop 1) left in
    let total : length now ≡ place + (1 + length rest) = omega (arith, ap length whole, length-append (take place was) (0 ∷ rest), len) in
    let inside : place < length now = omega (arith, total) in
    record {
      front = front;
      behind = behind;
      inside = inside;
      gate_is = sym (gate_at place now) ∙ ap (λ (x : List ℕ). slice_index x 0) left;
      torn = record { before = front; after = behind; no_shorter = omega (arith, total, length-drop (place + 1) was, within); no_longer = omega (arith, total, length-drop (place + 1) was, within) };
    }

pub mended : {W : Type 0} (m : Meaning W) (a b : W) (bank : Bank) (end : EndGate) (place : ℕ) (stood : Around) (map : Map) (edition : Edition) → end ≢ gate.Closed → Writes m bank a b → (m.tells b → IsSettled m b bank)
    → (m.tells b → Holds (m.seen a bank) place (0 ∷ []) (m.seen b bank)) → IsMendable m a bank end place stood map edition → IsFilled m b bank place stood map edition
mended m a b bank end place stood map edition not writes settled holds can = record {
  rest = rest_written m a b bank stood writes settled can.rest;
  stands = λ told. closed_stands bank place edition map (m.seen b) (counts told) (ended told) (held told).inside (λ e. let bad : 0 ≡ 1 = sym (held told).gate_is ∙ e in absurd (omega (arith, bad)));
  counts = counts;
}
  where
    held : m.tells b → IsHeld place (m.seen a bank) (m.seen b bank)
    held told = held_zero place (m.seen a bank) (m.seen b bank) (can.written (writes.told.told told)).inside (holds told)

    ended : m.tells b → IsWrittenTo edition.version place map (m.seen b bank)
    ended told = torn_end edition.version end place map (m.seen a bank) (m.seen b bank) (can.written (writes.told.told told)) (can.gate_is (writes.told.told told)) not (held told).torn

    counts : m.tells b → choice_of (m.seen b) ≡ choice.Live bank edition
    counts told =
        let before = writes.told.told told in
        choice_at bank (m.seen a) (m.seen b) (λ other differs. (writes.other told other differs).same)
        ∙ live_stays bank edition place (m.seen a) (m.seen b bank) (can.counts before) (can.written before).behind_head (can.written before).long (ended told).long (held told).front

closed_at : {W : Type 0} (m : Meaning W) (a : W) (bank : Bank) (place : ℕ) (stood : Around) (map : Map) (edition : Edition) → IsMendable m a bank gate.Closed place stood map edition → IsFilled m a bank place stood map edition
closed_at m a bank place stood map edition can = record {
  rest = can.rest;
  stands = λ told. closed_stands bank place edition map (m.seen a) (can.counts told) (can.written told) (can.gate_is told).0 (can.gate_is told).1;
  counts = can.counts;
}

-- a gate that is closed already
pub closed_mended : {W : Type 0} (m : Meaning W) (a : W) (bank : Bank) (end : EndGate) (place : ℕ) (stood : Around) (map : Map) (edition : Edition) → end ≡ gate.Closed → IsMendable m a bank end place stood map edition → IsFilled m a bank place stood map edition
closed_mended m a bank end place stood map edition is can =
    closed_at m a bank place stood map edition (subst (λ (e : EndGate). IsMendable m a bank e place stood map edition) is can)

-- ---- going over to the other bank

spare_beside : (bank : Bank) (banks : Banks) (map : Map) (g : Edition) → choice_of banks ≡ choice.Live bank g → image_in banks ≡ map → IsSpare (other_bank bank) map (g.generation + 1) banks
spare_beside A banks map g counts is = spare_beside_a banks map g counts is
spare_beside B banks map g counts is = spare_beside_b banks map g counts is

pub can_go_over : {W : Type 0} (m : Meaning W) (a : W) (stood : Around) (map : Map) (opened : Opened) → IsOpened m stood map a opened → CanFill m a (other_bank opened.bank) stood (map_in opened.map) (opened.edition.generation + 1)
can_go_over m a stood map opened is = record {
  rest = is.rest;
  spare = λ told. spare_beside opened.bank (m.seen a) (map_in opened.map) opened.edition (is.counts told) ((is.stands told).image ∙ sym (is.held told));
}

-- ---- the store

pub current_keeps : {W : Type 0} (m : Meaning W) (stood : Around) (map : Map) (world : W) (opened : Opened) → IsCurrent m stood map world opened → KeepsAt m world opened.bank opened.end (map_in opened.map)
current_keeps m stood map world opened is = record {
  each = λ told banks image.
      subst (λ (s : Banks). StandsAt Two opened.bank opened.end (map_in opened.map) s) (sym (same_banks (m.seen world) banks (λ bank. is.opens.rest.settled told bank (banks bank) (image bank))))
      (subst (λ (x : Map). StandsAt Two opened.bank opened.end x (m.seen world)) (sym (is.opens.held told))
      (subst (λ (v : Version). StandsAt v opened.bank opened.end map (m.seen world)) (is.second told) (is.opens.stands told)));
}

-- ---- a bank of version 1 is exchanged

live_is : (a b : Edition) → ◌≡◌ {A = Head} (Live a) (Live b) → a ≡ b
live_is a b e = cc

two_is_not : ◌≡◌ {A = Version} Two One → ⊥
two_is_not e = absurd cc

-- a generation follows on its own
live_next : (mark : List ℕ) (generation : ℕ) (edition : Edition) → live_head mark generation ≡ Live edition → edition.version ≡ One → edition.generation < 2 ^ 64 - 1
live_next mark generation edition e = by (bytes_eq mark (codes "SCONSIG2")) (bytes_eq mark (codes "SCONSIG1")) (nat_lt generation (2 ^ 64 - 1)) refl e
  where
    by : (two one next : Bool) → nat_lt generation (2 ^ 64 - 1) ≡ next → cond two (Live (edition_of Two generation)) (cond (one && next) (Live (edition_of One generation)) Foreign) ≡ Live edition → edition.version ≡ One → edition.generation < 2 ^ 64 - 1
    by true one next lt e = let same : edition_of Two generation ≡ edition = live_is (edition_of Two generation) edition e in λ is. absurd (two_is_not (ap (λ (x : Edition). x.version) same ∙ is))
    by false true true lt e = let same : edition_of One generation ≡ edition = live_is (edition_of One generation) edition e in λ is. subst (λ (x : Edition). x.generation < 2 ^ 64 - 1) same (ltb-true generation (2 ^ 64 - 1) lt)
    by false true false lt e = absurd cc
    by false false next lt e = absurd cc

head_next : (bytes : List ℕ) (edition : Edition) → head_of bytes ≡ Live edition → edition.version ≡ One → edition.generation < 2 ^ 64 - 1
head_next bytes edition e = by (leb (length bytes) 17) (eqb (gate_of bytes) 1) e
  where
    by : (short gate : Bool) → cond short Short (cond gate (live_head (mark_of bytes) (generation_of bytes)) Closed) ≡ Live edition → edition.version ≡ One → edition.generation < 2 ^ 64 - 1
    by true gate e = absurd cc
    by false true e = live_next (mark_of bytes) (generation_of bytes) edition e
    by false false e = absurd cc

counted_next : (bank : Bank) (banks : Banks) (g : Edition) → choice_of banks ≡ choice.Live bank g → g.version ≡ One → g.generation < 2 ^ 64 - 1
counted_next A banks g counts = head_next (banks A) g (first_live (head_of (banks A)) (head_of (banks B)) g counts)
counted_next B banks g counts = head_next (banks B) g (second_live (head_of (banks A)) (head_of (banks B)) g counts)

is_second : (version : Version) → (version ≡ One → ⊥) → version ≡ Two
is_second One not = absurd (not refl)
is_second Two not = refl

-- a bank that isn't exchanged is of version 2
pub stays_current : {W : Type 0} (m : Meaning W) (world : W) (stood : Around) (map : Map) (opened : Opened) → (opened.edition.version ≡ One → opened.edition.generation < 2 ^ 64 - 1 → ⊥) → IsOpened m stood map world opened → IsCurrent m stood map world opened
stays_current m world stood map opened not is = record {
  opens = is;
  second = λ told. is_second opened.edition.version (λ one. not one (counted_next opened.bank (m.seen world) opened.edition (is.counts told) one));
}

-- ---- which bank is live

pub reopened : (bank : Bank) (edition : Edition) (place : ℕ) (held : RecordMap) (was now : List ℕ) (r : Result Opened StoreRefusal) → now ≡ was → IsWrittenTo edition.version place (map_in held) now
    → IfOk r (GoesOver (record { map = held; bank = bank; edition = edition; end = place })) → IfOk r (λ after. IsReopened bank edition was after.map after.bank after.end)
reopened bank edition place held was now (Err e) same written goes = tt
reopened bank edition place held was now (Ok after) same written goes = record {
  place = place;
  written = subst (λ (h : RecordMap). IsWrittenTo edition.version place (map_in h) was) (sym goes.map) (subst (λ (x : List ℕ). IsWrittenTo edition.version place (map_in held) x) same written);
  exchanges = subst (λ (h : RecordMap). Exchanges bank edition place h after.bank after.end) (sym goes.map) goes.exchanges;
}

pub begun_first : (banks : Banks) (r : Result Opened StoreRefusal) → choice_of banks ≡ choice.None → IfOk r (λ opened. (opened.bank ≡ A) × (opened.end ≡ 17)) → IfOk r (λ after. IsBegunOver banks after.map after.bank after.end)
begun_first banks (Err e) none is = tt
begun_first banks (Ok after) none is = subst (λ (c : Choice). begun_by c banks after.map after.bank after.end) (sym none) is

pub begun_live : (banks : Banks) (bank : Bank) (g : Edition) (r : Result Opened StoreRefusal) → choice_of banks ≡ choice.Live bank g → IfOk r (λ after. IsReopened bank g (banks bank) after.map after.bank after.end)
    → IfOk r (λ after. IsBegunOver banks after.map after.bank after.end)
begun_live banks bank g (Err e) counts is = tt
begun_live banks bank g (Ok after) counts is = subst (λ (c : Choice). begun_by c banks after.map after.bank after.end) (sym counts) is

-- ---- why the banks are refused

pub readable_none : {T : Type 0} (banks : Banks) (r : Result T StoreRefusal) → AreSmall banks → choice_of banks ≡ choice.None → IfOk r (λ _. AreReadable banks)
readable_none banks (Err e) small none = tt
readable_none banks (Ok x) small none = record { small = small; known = λ bank e. let bad : choice.None ≡ choice.Foreign bank = sym none ∙ e in absurd cc }

pub readable_live : {T : Type 0} (banks : Banks) (r : Result T StoreRefusal) (bank : Bank) (g : Edition) → AreSmall banks → choice_of banks ≡ choice.Live bank g → IfOk r (λ _. AreReadable banks)
readable_live banks (Err e) bank g small live = tt
readable_live banks (Ok x) bank g small live = record { small = small; known = λ other e. let bad : choice.Live bank g ≡ choice.Foreign other = sym live ∙ e in absurd cc }

pub refused_outside : {T : Type 0} (banks : Banks) (r : Result T StoreRefusal) → IfErr r IsOutside → IfErr r (IsRefusal banks)
refused_outside banks (Ok x) out = tt
refused_outside banks (Err e) out = outside_refuses banks e out

pub are_small : (banks : Banks) (a b : ℕ) → a ≡ length (banks A) → b ≡ length (banks B) → (a ≤ 2 ^ 40) × (b ≤ 2 ^ 40) → AreSmall banks
are_small banks a b at bt small = record { a = subst (λ (n : ℕ). n ≤ 2 ^ 40) at small.0; b = subst (λ (n : ℕ). n ≤ 2 ^ 40) bt small.1 }

pub gone_over : (opened : Opened) (form : List ℕ) (r : Result Opened StoreRefusal) → IsDue opened.edition opened.end opened.map → form ≡ compact_bytes (opened.edition.generation + 1) opened.map
    → IfOk r (λ after. (after.map ≡ opened.map) × (after.bank ≡ other_bank opened.bank) × (after.end ≡ length form)) → IfOk r (GoesOver opened)
gone_over opened form (Err e) due is over = tt
gone_over opened form (Ok after) due is over = record { map = over.0; exchanges = inl (due, over.1, over.2 ∙ ap length is) }

pub size_is : (banks : Banks) (bank : Bank) (a b size : ℕ) → a ≡ length (banks A) → b ≡ length (banks B) → (bank ≡ A → size ≡ a) → (bank ≡ B → size ≡ b) → size ≡ length (banks bank)
size_is banks A a b size at bt first second = first refl ∙ at
size_is banks B a b size at bt first second = second refl ∙ bt

pub size_small : (bank : Bank) (a b size : ℕ) → (a ≤ 2 ^ 40) × (b ≤ 2 ^ 40) → (bank ≡ A → size ≡ a) → (bank ≡ B → size ≡ b) → size ≤ 2 ^ 40
size_small A a b size small first second = subst (λ (n : ℕ). n ≤ 2 ^ 40) (sym (first refl)) small.0
size_small B a b size small first second = subst (λ (n : ℕ). n ≤ 2 ^ 40) (sym (second refl)) small.1
