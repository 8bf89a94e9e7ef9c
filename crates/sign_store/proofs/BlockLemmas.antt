-- Entries of a bank, a part after the other.
use Rattle.std.proofs.Common.{◌≡◌, ℕ, zero, suc, ◌<◌, ◌≤◌, ◌+◌, ◌-◌, List, [], ◌∷◌, ◌++◌, length, take, drop, get_or, Option, Some, None, refl, sym, ap, subst, ◌∙◌, arith}
use Rattle.std.specs.Prelude.{◌≢◌, slice_index}
use Rattle.std.specs.Int.{w32, from_be_bytes}
use Rattle.std.proofs.lemmas.List.{take-take, take-append-le, take-append-drop, drop-take, drop-drop, drop-append-le, drop_all, length-append, length-take, length-drop, get_or-take, get_or-drop, get_or_append_left, nil_from_length, append-nil}
use Rattle.deciders.specs.declared.version.Version.{Version}
use Rattle.sign_store.specs.declared.blocks.End.{End}
use Rattle.sign_store.specs.declared.entries.Change.{Change}
use Rattle.sign_store.specs.declared.entries.EndGate.{EndGate}
use Rattle.sign_store.specs.declared.entries.EndGate.TheVariants as gate
use Rattle.sign_store.specs.Beginnings.{IsWrittenTo}
use Rattle.sign_store.specs.Blocks.{ShowsEnd, LeadsTo, EndsThere}
use Rattle.sign_store.specs.Forms.{Leads}
use Rattle.sign_store.specs.Gates.{IsGate}
use Rattle.sign_store.specs.Images.{length_in, change_in, entry_in, after_entries, entries_map, body_of}
use Rattle.sign_store.specs.Readings.{IsReadTo}
use Rattle.sign_store.specs.Tables.{Map, nothing}
use Rattle.sign_store.proofs.ImageLemmas.{no_entry}
use Rattle.sign_store.proofs.EndLemmas.{shut_reads_none, gate_at, body_cut}
use Rattle.sign_store.proofs.FormLemmas.{leads_none, leads_then}
use Rattle.sign_store.proofs.ReadLemmas.{no_body}
use Rattle.sign_store.proofs.LocalLemmas.{entry_local, has_entry}

-- ---- bytes that show an end

none_by : (o : Option (Change × ℕ)) → ((entry : Change × ℕ) → o ≡ Some entry → ⊥) → o ≡ None
none_by None not = refl
none_by (Some entry) not = absurd (not entry refl)

length_claimed : (front behind : List ℕ) → 5 ≤ length front → length_in (front ++ behind) ≡ length_in front
length_claimed front behind long =
    ap (λ (x : List ℕ). from_be_bytes w32 (take 4 x)) (drop-append-le 1 front behind (omega (arith, long)))
    ∙ ap (from_be_bytes w32) (take-append-le 4 (drop 1 front) behind (omega (arith, long, length-drop 1 front)))

-- all that is left
pub shown_whole : (version : Version) (left : ℕ) (front : List ℕ) → length front ≡ left → entry_in version front ≡ None → ShowsEnd version left front
shown_whole version left front all none = record {
  none = λ behind sum. ap (λ (x : List ℕ). entry_in version (front ++ x)) (nil_from_length behind (omega (arith, all, sum))) ∙ ap (entry_in version) (append-nil front) ∙ none;
  there = λ some. omega (arith, all, some);
}

-- a gate that isn't open
pub shown_shut : (version : Version) (left : ℕ) (front : List ℕ) → 0 < length front → slice_index front 0 ≢ 1 → ShowsEnd version left front
shown_shut version left front some shut = record {
  none = λ behind sum. shut_reads_none version (front ++ behind) (λ e. shut (sym (get_or_append_left front behind 0 0 some) ∙ e));
  there = λ left. some;
}

no_change : (version : Version) (payload : List ℕ) → slice_index payload 0 ≢ 1 → slice_index payload 0 ≢ 2 → change_in version payload ≡ None
no_change version [] one two = refl
no_change version (zero ∷ rest) one two = refl
no_change version (suc zero ∷ rest) one two = absurd (one refl)
no_change version (suc (suc zero) ∷ rest) one two = absurd (two refl)
no_change version (suc (suc (suc byte)) ∷ rest) one two = refl

first_of_payload : (version : Version) (n : ℕ) (bytes : List ℕ) → slice_index bytes 5 ≢ 1 → slice_index bytes 5 ≢ 2 → change_in version (take n (drop 5 bytes)) ≡ None
first_of_payload version zero bytes one two = refl
first_of_payload version (suc n) bytes one two =
    let same : slice_index (take (suc n) (drop 5 bytes)) 0 ≡ slice_index bytes 5 = get_or-take (suc n) (drop 5 bytes) 0 0 (omega arith) ∙ get_or-drop 5 bytes 0 0 in
    no_change version (take (suc n) (drop 5 bytes)) (λ e. one (sym same ∙ e)) (λ e. two (sym same ∙ e))

-- a payload that is no change
pub shown_other : (version : Version) (left : ℕ) (front : List ℕ) → 6 ≤ length front → slice_index front 5 ≢ 1 → slice_index front 5 ≢ 2 → ShowsEnd version left front
shown_other version left front long one two = record {
  none = λ behind sum. none_by (entry_in version (front ++ behind)) (λ entry e.
      let same : slice_index (front ++ behind) 5 ≡ slice_index front 5 = get_or_append_left front behind 0 5 (omega (arith, long)) in
      let none = first_of_payload version (length_in (front ++ behind)) (front ++ behind) (λ k. one (sym same ∙ k)) (λ k. two (sym same ∙ k)) in
      let some = (has_entry version (front ++ behind) entry e).says in
      absurd cc);
  there = λ left. omega (arith, long);
}

-- a payload that was there whole
pub shown_read : (version : Version) (left : ℕ) (front : List ℕ) → 5 ≤ length front → length_in front + 5 ≤ length front → entry_in version front ≡ None → ShowsEnd version left front
shown_read version left front long whole none = record {
  none = λ behind sum. none_by (entry_in version (front ++ behind)) (λ entry e.
      let has = has_entry version (front ++ behind) entry e in
      let size : entry.1 ≤ length front = omega (arith, has.size, length_claimed front behind long, whole) in
      let again = entry_local version (front ++ behind) (drop entry.1 front) entry e in
      let cut : take entry.1 (front ++ behind) ++ drop entry.1 front ≡ front = ap (λ (x : List ℕ). x ++ drop entry.1 front) (take-append-le entry.1 front behind size) ∙ take-append-drop entry.1 front in
      let some : entry_in version front ≡ Some entry = sym (ap (entry_in version) cut) ∙ again in
      absurd cc);
  there = λ left. omega (arith, long);
}

-- a payload that is cut
pub shown_cut : (version : Version) (left : ℕ) (front : List ℕ) → 5 ≤ length front → left < length_in front + 5 → ShowsEnd version left front
shown_cut version left front long cut = record {
  none = λ behind sum. none_by (entry_in version (front ++ behind)) (λ entry e.
      let has = has_entry version (front ++ behind) entry e in
      absurd (omega (arith, has.room, length_claimed front behind long, cut, sum, length-append front behind)));
  there = λ left. omega (arith, long);
}

-- ---- a part of a bank

pub leads_at_head : (version : Version) (map : Map) (bank : List ℕ) → LeadsTo version 17 map map bank
leads_at_head version map bank = subst (λ (x : List ℕ). Leads version x map map) (sym (drop_all 17 (take 17 bank) (omega (arith, length-take 17 bank)))) (leads_none version map)

-- entries that were read of a part
pub part_leads : (version : Version) (was now part : List ℕ) (place n len : ℕ) (from mid map : Map) → now ≡ was → 17 ≤ place → place + n ≤ length was → part ≡ take n (drop place now) → len ≤ length part
    → IsReadTo version len mid map part → LeadsTo version place from mid was → LeadsTo version (place + len) from map now
part_leads version was now part place n len from mid map same head inside is fits reads leads =
    let long : length part ≤ n = omega (arith, ap length is, length-take n (drop place now)) in
    let end : place + len ≤ length now = omega (arith, ap length same, inside, fits, long) in
    let upto = take (place + len) now in
    let cut : body_of upto ≡ body_of (take place upto) ++ drop place upto = body_cut place upto head (omega (arith, length-take (place + len) now, end)) in
    let front : take place upto ≡ take place now = take-take place (place + len) now (omega arith) in
    let back : drop place upto ≡ take len part = drop-take place len now ∙ sym (take-take len n (drop place now) (omega (arith, fits, long))) ∙ sym (ap (take len) is) in
    let joined : body_of upto ≡ body_of (take place now) ++ take len part = cut ∙ ap (λ (x : List ℕ). body_of x ++ drop place upto) front ∙ ap (λ (x : List ℕ). body_of (take place now) ++ x) back in
    subst (λ (x : List ℕ). Leads version x from map) (sym joined)
    (leads_then version (body_of (take place now)) (take len part) from mid map (subst (λ (x : List ℕ). Leads version (body_of (take place x)) from mid) (sym same) leads) (record { on = reads.reads }))

-- what is behind them begins what is left
front_is : (now part : List ℕ) (place n len : ℕ) → part ≡ take n (drop place now) → len ≤ length part → drop len part ≡ take (n - len) (drop (place + len) now)
front_is now part place n len is fits =
    let long : length part ≤ n = omega (arith, ap length is, length-take n (drop place now)) in
    let sum : n ≡ len + (n - len) = omega (arith, fits, long) in
    ap (drop len) is ∙ ap (λ (k : ℕ). drop len (take k (drop place now))) sum ∙ drop-take len (n - len) (drop place now) ∙ ap (take (n - len)) (drop-drop len place now)

pub part_ends : (version : Version) (now part : List ℕ) (place n len left : ℕ) → part ≡ take n (drop place now) → len ≤ length part → length now ≡ place + len + left → ShowsEnd version left (drop len part) → entry_in version (drop (place + len) now) ≡ None
part_ends version now part place n len left is fits size shows =
    let rest = drop (place + len) now in
    let whole : drop len part ++ drop (n - len) rest ≡ rest = ap (λ (x : List ℕ). x ++ drop (n - len) rest) (front_is now part place n len is fits) ∙ take-append-drop (n - len) rest in
    sym (ap (entry_in version) whole)
    ∙ shows.none (drop (n - len) rest) (omega (arith, sym (length-append (drop len part) (drop (n - len) rest)) ∙ ap length whole, length-drop (place + len) now, size))

none_left : (left : ℕ) → (0 < left → ⊥) → left ≡ 0
none_left zero not = refl
none_left (suc left) not = absurd (not (omega arith))

pub part_gate : (version : Version) (end : EndGate) (now part : List ℕ) (place n len left : ℕ) → part ≡ take n (drop place now) → len ≤ length part → length now ≡ place + len + left → ShowsEnd version left (drop len part)
    → IsGate end 0 (drop len part) → IsGate end (place + len) now
part_gate version end now part place n len left is fits size shows at = by end at
  where
    byte : 0 < length (drop len part) → (place + len < length now) × (slice_index (drop len part) 0 ≡ slice_index now (place + len))
    byte some =
        let front = front_is now part place n len is fits in
        let cut = length-take (n - len) (drop (place + len) now) in
        let more : 0 < n - len = omega (arith, some, ap length front, cut) in (
          omega (arith, some, ap length front, cut, length-drop (place + len) now),
          ap (λ (x : List ℕ). get_or x 0 0) front ∙ get_or-take (n - len) (drop (place + len) now) 0 0 more ∙ gate_at (place + len) now,
        )

    by : (end : EndGate) → IsGate end 0 (drop len part) → IsGate end (place + len) now
    by gate.Closed at = let b = byte at.0 in (b.0, λ e. at.1 (b.1 ∙ e))
    by gate.Open at = let b = byte at.0 in (b.0, sym b.1 ∙ at.1)
    by gate.Missing at = (let none : left ≡ 0 = none_left left (λ some. let there = shows.there some in omega (arith, there, at)) in omega (arith, none, size))

-- ---- a bank that was read

pub end_written : (version : Version) (end : End) (from map : Map) (bank : List ℕ) → from ≡ nothing → 17 ≤ end.place → 17 < length bank → end.place ≤ length bank → EndsThere version from map bank end → IsWrittenTo version end.place map bank
end_written version end from map bank is head long inside there = record {
  behind_head = head;
  long = long;
  inside = inside;
  entries = subst (λ (m : Map). (behind : List ℕ) → after_entries version (length (body_of (take end.place bank) ++ behind)) m (body_of (take end.place bank) ++ behind) ≡ after_entries version (length behind) map behind) is there.leads.on;
  none = there.none;
}

pub short_map : (version : Version) (map : Map) (bank : List ℕ) → length bank ≤ 17 → map ≡ nothing → map ≡ entries_map version (body_of bank)
short_map version map bank short is = is ∙ sym (no_entry version 0 nothing [] refl) ∙ ap (entries_map version) (no_body bank short)
