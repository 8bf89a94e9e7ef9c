-- The bytes of a bank at the end of its entries: what a torn write leaves there, and what an opened gate adds.
use Rattle.std.proofs.Common.{◌≡◌, ℕ, ◌^◌, ◌<◌, ◌≤◌, ◌+◌, ◌-◌, Bool, true, false, cond, ltb, leb, List, [], ◌∷◌, ◌++◌, length, take, drop, get_or, Option, Some, None, refl, sym, ap, subst, ◌∙◌, append_assoc, inl, inr, arith}
use Rattle.std.specs.Prelude.{◌≢◌, ◌⊎◌, ◌||◌, ◌==◌, not, slice_index, nat_lt}
use Rattle.std.specs.Int.{w32, w64, from_be_bytes, to_be_bytes}
use Rattle.std.proofs.lemmas.Bool.{le-ltb, le-leb, lt-leb}
use Rattle.std.proofs.lemmas.Bool.Decides.{eqb_tells}
use Rattle.std.proofs.lemmas.List.{take_at, drop_at, take-append-drop, take-take, drop-take, drop_more, drop-append-le, length-append, length-take, get_or-take, get_or-drop}
use Rattle.world_api.specs.declared.disk.Bank.{Bank}
use Rattle.world_api.specs.declared.disk.Bank.TheVariants.{A, B}
use Rattle.world_api.specs.Banks.{Banks, Torn}
use Rattle.deciders.proofs.Takings.{wide32}
use Rattle.deciders.specs.declared.version.Version.{Version}
use Rattle.sign_store.specs.declared.head.Edition.{Edition}
use Rattle.sign_store.specs.declared.entries.Change.{Change}
use Rattle.sign_store.specs.declared.head.Head.{Head}
use Rattle.sign_store.specs.declared.head.Choice.TheVariants as choice
use Rattle.sign_store.specs.Heads.{gate_of, mark_of, generation_of, head_of, chosen, edition_of}
use Rattle.sign_store.specs.Entries.{entry_of}
use Rattle.sign_store.specs.Images.{length_in, payload_in, change_in, entry_in, after_entries, entries_map, body_of}
use Rattle.sign_store.specs.Ends.{EndsAt, StandsAt, image_in, with_bank}
use Rattle.sign_store.specs.Forms.{Leads}
use Rattle.sign_store.specs.Tables.{Map}
use Rattle.sign_store.proofs.ImageLemmas.{no_entry}

-- ---- an entry that was spelt is read

payload_read : (payload behind : List ℕ) → length payload < 2 ^ 32 → payload_in (1 ∷ (entry_of payload ++ behind)) ≡ Some payload
payload_read payload behind fits =
    let spelt : entry_of payload ++ behind ≡ to_be_bytes w32 (length payload) ++ (payload ++ behind) = append_assoc (to_be_bytes w32 (length payload)) payload behind in
    let len = wide32.len (length payload) in
    let whole = length-append (to_be_bytes w32 (length payload)) (payload ++ behind) in
    let parts = length-append payload behind in
    let long : ltb (length (1 ∷ (to_be_bytes w32 (length payload) ++ (payload ++ behind)))) 5 ≡ false = le-ltb _ _ (omega (arith, whole, len)) in
    let number : length_in (1 ∷ (to_be_bytes w32 (length payload) ++ (payload ++ behind))) ≡ length payload = ap (from_be_bytes w32) (take_at (to_be_bytes w32 (length payload)) (payload ++ behind) 4 len) ∙ wide32.again (length payload) fits in
    let rest : drop 5 (1 ∷ (to_be_bytes w32 (length payload) ++ (payload ++ behind))) ≡ payload ++ behind = drop_at (to_be_bytes w32 (length payload)) (payload ++ behind) 4 len in
    let room : leb (length payload) (length (1 ∷ (to_be_bytes w32 (length payload) ++ (payload ++ behind))) - 5) ≡ true = le-leb _ _ (omega (arith, whole, len, parts)) in
    ap (λ (x : List ℕ). payload_in (1 ∷ x)) spelt ∙ rw (long, number, room, rest, take_at payload behind (length payload) refl) refl

pub entry_again : (version : Version) (change : Change) (payload behind : List ℕ) → length payload < 2 ^ 32 → change_in version payload ≡ Some change
    → entry_in version (1 ∷ (entry_of payload ++ behind)) ≡ Some (change, length payload + 5)
entry_again version change payload behind fits says = rw (payload_read payload behind fits, says) refl

-- ---- the entries end at a gate that isn't open

guarded : (b c : Bool) (x : Option (List ℕ)) → c ≡ false → cond (b || not c) None x ≡ None
guarded true c x shut = refl
guarded false c x shut = rw shut refl

not_open : (bytes : List ℕ) → slice_index bytes 0 ≢ 1 → (slice_index bytes 0 == 1) ≡ false
not_open bytes closed = elim (eqb_tells (slice_index bytes 0) 1) [ inl eq ↦ absurd (closed eq.1) | inr ne ↦ ne.0 ]

pub shut_reads_none : (version : Version) (bytes : List ℕ) → slice_index bytes 0 ≢ 1 → entry_in version bytes ≡ None
shut_reads_none version bytes closed =
    let none : payload_in bytes ≡ None = guarded (nat_lt (length bytes) 5) (slice_index bytes 0 == 1) _ (not_open bytes closed) in
    rw none refl

pub gate_at : (place : ℕ) (bank : List ℕ) → slice_index (drop place bank) 0 ≡ slice_index bank place
gate_at place bank = get_or-drop place bank 0 0 ∙ ap (λ n. get_or bank n 0) (plus_none place)
  where
    plus_none : (n : ℕ) → n + 0 ≡ n
    plus_none n = omega arith

pub body_cut : (place : ℕ) (bank : List ℕ) → 17 ≤ place → place ≤ length bank → body_of bank ≡ body_of (take place bank) ++ drop place bank
body_cut place bank head inside =
    ap body_of (sym (take-append-drop place bank)) ∙ drop-append-le 17 (take place bank) (drop place bank) (omega (arith, length-take place bank))

pub ends_map : (version : Version) (place : ℕ) (map : Map) (bank : List ℕ) → EndsAt version place map bank → entries_map version (body_of bank) ≡ map
ends_map version place map bank ends =
    ap (entries_map version) (body_cut place bank ends.behind_head (omega (arith, ends.inside))) ∙ ends.entries (drop place bank)
    ∙ no_entry version (length (drop place bank)) map (drop place bank) (shut_reads_none version (drop place bank) (λ e. ends.closed (sym (gate_at place bank) ∙ e)))

pub still : (version : Version) (place : ℕ) (map : Map) (was now : List ℕ) → EndsAt version place map was → take place now ≡ take place was → place < length now → slice_index now place ≢ 1 → EndsAt version place map now
still version place map was now ends same inside closed = record {
  behind_head = ends.behind_head;
  inside = inside;
  closed = closed;
  entries = λ behind. subst (λ (front : List ℕ). entries_map version (body_of front ++ behind) ≡ after_entries version (length behind) map behind) (sym same) (ends.entries behind);
}

-- entries behind a gate that was opened
pub opened : (version : Version) (place : ℕ) (map after : Map) (was now entries rest : List ℕ) → EndsAt version place map was → take place now ≡ take place was → place < length now
    → drop place now ≡ entries ++ 0 ∷ rest → Leads version entries map after → EndsAt version (place + length entries) after now
opened version place map after was now entries rest ends same inside behind leads =
    let front = take place now in
    let front-len : length front ≡ place = omega (arith, length-take place now) in
    let next : ℕ = place + length entries in
    let whole : now ≡ (front ++ entries) ++ (0 ∷ rest) = sym (take-append-drop place now) ∙ ap (λ (x : List ℕ). front ++ x) behind ∙ sym (append_assoc front entries (0 ∷ rest)) in
    let len : length (front ++ entries) ≡ next = omega (arith, length-append front entries, front-len) in
    let total = length-append (front ++ entries) (0 ∷ rest) in
    let cut : take next now ≡ front ++ entries = ap (take next) whole ∙ take_at (front ++ entries) (0 ∷ rest) next len in
    let left : drop next now ≡ 0 ∷ rest = ap (drop next) whole ∙ drop_at (front ++ entries) (0 ∷ rest) next len in
    let end_gate : slice_index now next ≡ 0 = sym (gate_at next now) ∙ ap (λ (x : List ℕ). slice_index x 0) left in
    record {
      behind_head = omega (arith, ends.behind_head);
      inside = omega (arith, ap length whole, total, len);
      closed = λ e. let bad : 0 ≡ 1 = sym end_gate ∙ e in absurd (omega (arith, bad));
      entries = λ more.
          let body : body_of (take next now) ++ more ≡ body_of front ++ (entries ++ more) =
          ap (λ (x : List ℕ). body_of x ++ more) cut ∙ ap (λ (x : List ℕ). x ++ more) (drop-append-le 17 front entries (omega (arith, front-len, ends.behind_head))) ∙ append_assoc (body_of front) entries more in
          ap (entries_map version) body ∙ subst (λ (x : List ℕ). entries_map version (body_of x ++ (entries ++ more)) ≡ after_entries version (length (entries ++ more)) map (entries ++ more)) (sym same) (ends.entries (entries ++ more))
          ∙ leads.on more;
    }

-- ---- heads, and the bank that counts

part_same : (n m place : ℕ) (was now : List ℕ) → n + m ≤ place → take place now ≡ take place was → take m (drop n now) ≡ take m (drop n was)
part_same n m place was now le same =
    let front : take (n + m) now ≡ take (n + m) was = sym (take-take (n + m) place now le) ∙ ap (take (n + m)) same ∙ take-take (n + m) place was le in
    sym (drop-take n m now) ∙ ap (drop n) front ∙ drop-take n m was

pub head_same : (place : ℕ) (was now : List ℕ) → 17 ≤ place → place < length was → place < length now → take place now ≡ take place was → head_of now ≡ head_of was
head_same place was now head in_was in_now same =
    let long : leb (length now) 17 ≡ false = lt-leb _ _ (omega (arith, head, in_now)) in
    let was-long : leb (length was) 17 ≡ false = lt-leb _ _ (omega (arith, head, in_was)) in
    let gate : gate_of now ≡ gate_of was = sym (get_or-take place now 0 0 (omega (arith, head))) ∙ ap (λ (x : List ℕ). get_or x 0 0) same ∙ get_or-take place was 0 0 (omega (arith, head)) in
    let mark : mark_of now ≡ mark_of was = part_same 1 8 place was now (omega (arith, head)) same in
    let generation : generation_of now ≡ generation_of was = ap (from_be_bytes w64) (part_same 9 8 place was now (omega (arith, head)) same) in
    rw (long, was-long, gate, mark, generation) refl

pub stands_for : (bank : Bank) (place : ℕ) (map : Map) (banks : Banks) (edition : Edition) → chosen (head_of (banks A)) (head_of (banks B)) ≡ choice.Live bank edition → EndsAt edition.version place map (banks bank) → image_in banks ≡ map
stands_for A place map banks edition counts ends = rw counts (ends_map edition.version place map (banks A) ends)
stands_for B place map banks edition counts ends = rw counts (ends_map edition.version place map (banks B) ends)

pub ends_with : (version : Version) (bank : Bank) (place : ℕ) (map : Map) (was : List ℕ) (banks : Banks) → StandsAt version bank place map (with_bank bank was banks) → EndsAt version place map was
ends_with version A place map was banks stands = stands.ends
ends_with version B place map was banks stands = stands.ends

-- the bank still counts, with other entries
pub stays : (version : Version) (bank : Bank) (place next : ℕ) (map after : Map) (was : List ℕ) (banks : Banks) → StandsAt version bank place map (with_bank bank was banks) → take place (banks bank) ≡ take place was → place < length (banks bank)
    → EndsAt version next after (banks bank) → StandsAt version bank next after banks
stays version A place next map after was banks stands same inside ends =
    let head = head_same place was (banks A) stands.ends.behind_head stands.ends.inside inside same in
    let counts = ap (λ (h : Head). chosen h (head_of (banks B))) head ∙ stands.counts in
    record { generation = stands.generation; counts = counts; ends = ends; image = stands_for A next after banks (edition_of version stands.generation) counts ends }
stays version B place next map after was banks stands same inside ends =
    let head = head_same place was (banks B) stands.ends.behind_head stands.ends.inside inside same in
    let counts = ap (λ (h : Head). chosen (head_of (banks A)) h) head ∙ stands.counts in
    record { generation = stands.generation; counts = counts; ends = ends; image = stands_for B next after banks (edition_of version stands.generation) counts ends }

-- ---- torn writes

-- behind the gate: the map stays
pub torn_behind : (version : Version) (bank : Bank) (place from len : ℕ) (map : Map) (was : List ℕ) (banks : Banks) → place < from → StandsAt version bank place map (with_bank bank was banks) → Torn from len was (banks bank) → StandsAt version bank place map banks
torn_behind version bank place from len map was banks behind stands torn =
    let ends = ends_with version bank place map was banks stands in
    let now = banks bank in
    let same : take place now ≡ take place was = sym (take-take place from now (omega (arith, behind))) ∙ ap (take place) torn.before ∙ take-take place from was (omega (arith, behind)) in
    let inside : place < length now = omega (arith, ends.inside, torn.no_shorter) in
    let gate : slice_index now place ≡ slice_index was place = sym (get_or-take from now place 0 behind) ∙ ap (λ (x : List ℕ). get_or x place 0) torn.before ∙ get_or-take from was place 0 behind in
    stays version bank place place map map was banks stands same inside (still version place map was now ends same inside (λ e. ends.closed (sym gate ∙ e)))

-- the gate was opened
pub gate_opened : (version : Version) (bank : Bank) (place : ℕ) (map after : Map) (was entries rest : List ℕ) (banks : Banks) → StandsAt version bank place map (with_bank bank was banks)
    → 1 ∷ drop (place + 1) was ≡ entries ++ 0 ∷ rest → Leads version entries map after
    → take place (banks bank) ≡ take place was → drop (place + 1) (banks bank) ≡ drop (place + 1) was → place < length (banks bank) → slice_index (banks bank) place ≡ 1
    → StandsAt version bank (place + length entries) after banks
gate_opened version bank place map after was entries rest banks stands behind leads same kept inside gate =
    let now = banks bank in
    let there : drop place now ≡ entries ++ 0 ∷ rest =
    drop_more now place 0 inside ∙ ap (λ (g : ℕ). g ∷ drop (place + 1) now) gate ∙ ap (λ (x : List ℕ). 1 ∷ x) kept ∙ behind in
    stays version bank place _ map after was banks stands same inside
    (opened version place map after was now entries rest (ends_with version bank place map was banks stands) same inside there leads)

-- the gate itself: the map stays, or is the one behind the entries
pub torn_gate : (version : Version) (bank : Bank) (place : ℕ) (map after : Map) (was entries rest : List ℕ) (banks : Banks) → StandsAt version bank place map (with_bank bank was banks)
    → 1 ∷ drop (place + 1) was ≡ entries ++ 0 ∷ rest → Leads version entries map after → Torn place 1 was (banks bank)
    → (image_in banks ≡ map) ⊎ (image_in banks ≡ after)
torn_gate version bank place map after was entries rest banks stands behind leads torn =
    let ends = ends_with version bank place map was banks stands in
    let inside : place < length (banks bank) = omega (arith, ends.inside, torn.no_shorter) in
    elim (eqb_tells (slice_index (banks bank) place) 1) [
      | inl open_now ↦ inr ((gate_opened version bank place map after was entries rest banks stands behind leads torn.before torn.after inside open_now.1).image)
      | inr shut_now ↦ inl ((stays version bank place place map map was banks stands torn.before inside (still version place map was (banks bank) ends torn.before inside shut_now.1)).image)
    ]
