-- Beginning a store: its end is mended, and another bank is filled, while the banks stand for the same map.
use Rattle.std.proofs.Common.{◌≡◌, ℕ, ◌<◌, ◌≤◌, ◌+◌, Bool, true, false, cond, List, ◌∷◌, ◌++◌, length, take, drop, get_or, None, refl, sym, ap, subst, ◌∙◌, inl, inr, arith}
use Rattle.std.specs.Prelude.{◌≢◌, ◌⊎◌, not, slice_index, nat_lt}
use Rattle.std.proofs.lemmas.Bool.{lt-ltb, le-ltb}
use Rattle.std.proofs.lemmas.Bool.Decides.{eqb_tells}
use Rattle.std.proofs.lemmas.List.{take-take, drop_more, length-drop}
use Rattle.world_api.specs.declared.disk.Bank.{Bank}
use Rattle.world_api.specs.declared.disk.Bank.TheVariants.{A, B}
use Rattle.world_api.specs.Banks.{Banks, Torn}
use Rattle.sign_store.specs.declared.entries.EndGate.{EndGate}
use Rattle.sign_store.specs.declared.entries.EndGate.TheVariants.{Closed, Open, Missing}
use Rattle.deciders.specs.declared.version.Version.{Version}
use Rattle.deciders.specs.declared.version.Version.TheVariants.{Two}
use Rattle.sign_store.specs.declared.head.Edition.{Edition}
use Rattle.sign_store.specs.declared.head.Head.{Head}
use Rattle.sign_store.specs.declared.head.Head.TheVariants as head
use Rattle.sign_store.specs.declared.head.Choice.{Choice}
use Rattle.sign_store.specs.declared.head.Choice.TheVariants as choice
use Rattle.sign_store.specs.Heads.{head_of, chosen, edition_of}
use Rattle.sign_store.specs.Images.{payload_in, entry_in, after_entries, entries_map, body_of, map_chosen}
use Rattle.sign_store.specs.Ends.{EndsAt, StandsAt, image_in, with_bank}
use Rattle.sign_store.specs.Forms.{IsSpare}
use Rattle.sign_store.specs.Gates.{IsGate}
use Rattle.sign_store.specs.Readings.{choice_of}
use Rattle.sign_store.specs.Beginnings.{IsWrittenTo}
use Rattle.sign_store.specs.Tables.{Map, nothing}
use Rattle.sign_store.proofs.ImageLemmas.{no_entry}
use Rattle.sign_store.proofs.EndLemmas.{shut_reads_none, gate_at, body_cut, head_same, stands_for}

-- ---- the end of the entries

-- a bank whose entries end here stands for their map
pub written_map : (version : Version) (place : ℕ) (map : Map) (bank : List ℕ) → IsWrittenTo version place map bank → entries_map version (body_of bank) ≡ map
written_map version place map bank is =
    ap (entries_map version) (body_cut place bank is.behind_head is.inside) ∙ is.entries (drop place bank) ∙ no_entry version (length (drop place bank)) map (drop place bank) is.none

short_none : (version : Version) (bytes : List ℕ) → length bytes < 5 → entry_in version bytes ≡ None
short_none version bytes lt = let none : payload_in bytes ≡ None = rw (lt-ltb (length bytes) 5 lt) refl in rw none refl

-- the last gate, whatever it becomes: no entry is there still
torn_none : (version : Version) (gate : EndGate) (place : ℕ) (map : Map) (was now : List ℕ) → IsWrittenTo version place map was → IsGate gate place was → gate ≢ Closed → Torn place 1 was now → entry_in version (drop place now) ≡ None
torn_none version Closed place map was now is at not torn = absurd (not refl)
torn_none version Open place map was now is at not torn = elim (eqb_tells (slice_index now place) 1) [
  | inl eq ↦
      let in_now : place < length now = (let l = at.0 in let s = torn.no_shorter in omega (arith, l, s)) in
      let same : drop place now ≡ drop place was =
      drop_more now place 0 in_now ∙ ap (λ (g : ℕ). g ∷ drop (place + 1) now) (eq.1 ∙ sym at.1) ∙ ap (λ (x : List ℕ). get_or was place 0 ∷ x) torn.after ∙ sym (drop_more was place 0 at.0) in
      ap (entry_in version) same ∙ is.none
  | inr ne ↦ shut_reads_none version (drop place now) (λ e. ne.1 (sym (gate_at place now) ∙ e))
]
torn_none version Missing place map was now is at not torn =
    short_none version (drop place now) (let longer = torn.no_longer in omega (arith, length-drop place now, longer, at))

pub torn_end : (version : Version) (gate : EndGate) (place : ℕ) (map : Map) (was now : List ℕ) → IsWrittenTo version place map was → IsGate gate place was → gate ≢ Closed → Torn place 1 was now → IsWrittenTo version place map now
torn_end version gate place map was now is at not torn = record {
  behind_head = is.behind_head;
  long = let l = is.long in let s = torn.no_shorter in omega (arith, l, s);
  inside = let l = is.inside in let s = torn.no_shorter in omega (arith, l, s);
  entries = λ behind. subst (λ (x : List ℕ). entries_map version (body_of x ++ behind) ≡ after_entries version (length behind) map behind) (sym torn.before) (is.entries behind);
  none = torn_none version gate place map was now is at not torn;
}

-- where this bank counts, its head is not what a write behind the head changes
pub live_stays : (bank : Bank) (edition : Edition) (place : ℕ) (s : Banks) (now : List ℕ) → choice_of s ≡ choice.Live bank edition → 17 ≤ place → 17 < length (s bank) → 17 < length now → take place now ≡ take place (s bank)
    → choice_of (with_bank bank now s) ≡ choice.Live bank edition
live_stays bank edition place s now counts le long long_now same = by bank counts long same
  where
    front : (was : List ℕ) → take place now ≡ take place was → take 17 now ≡ take 17 was
    front was same = sym (take-take 17 place now le) ∙ ap (take 17) same ∙ take-take 17 place was le

    by : (bank : Bank) → choice_of s ≡ choice.Live bank edition → 17 < length (s bank) → take place now ≡ take place (s bank) → choice_of (with_bank bank now s) ≡ choice.Live bank edition
    by A counts long same = ap (λ (h : Head). chosen h (head_of (s B))) (head_same 17 (s A) now (omega arith) long long_now (front (s A) same)) ∙ counts
    by B counts long same = ap (λ (h : Head). chosen (head_of (s A)) h) (head_same 17 (s B) now (omega arith) long long_now (front (s B) same)) ∙ counts

counted_map : (bank : Bank) (edition : Edition) (s : Banks) (map : Map) → choice_of s ≡ choice.Live bank edition → entries_map edition.version (body_of (s bank)) ≡ map → image_in s ≡ map
counted_map A edition s map counts is = rw counts is
counted_map B edition s map counts is = rw counts is

pub bank_with : (bank : Bank) (now : List ℕ) (s : Banks) → with_bank bank now s bank ≡ now
bank_with A now s = refl
bank_with B now s = refl

pub torn_mend : (bank : Bank) (gate : EndGate) (place : ℕ) (edition : Edition) (map : Map) (s : Banks) (now : List ℕ) → choice_of s ≡ choice.Live bank edition → IsWrittenTo edition.version place map (s bank) → IsGate gate place (s bank) → gate ≢ Closed
    → Torn place 1 (s bank) now → image_in (with_bank bank now s) ≡ map
torn_mend bank gate place edition map s now counts is at not torn =
    let after = torn_end edition.version gate place map (s bank) now is at not torn in
    counted_map bank edition (with_bank bank now s) map (live_stays bank edition place s now counts is.behind_head is.long after.long torn.before)
    (ap (λ (x : List ℕ). entries_map edition.version (body_of x)) (bank_with bank now s) ∙ written_map edition.version place map now after)

-- a closed gate at the end
pub closed_stands : (bank : Bank) (place : ℕ) (edition : Edition) (map : Map) (banks : Banks) → choice_of banks ≡ choice.Live bank edition → IsWrittenTo edition.version place map (banks bank) → place < length (banks bank) → slice_index (banks bank) place ≢ 1
    → StandsAt edition.version bank place map banks
closed_stands bank place edition map banks counts is inside closed =
    let ends : EndsAt edition.version place map (banks bank) = record { behind_head = is.behind_head; inside = inside; closed = closed; entries = is.entries } in
    record { generation = edition.generation; counts = counts; ends = ends; image = stands_for bank place map banks edition counts ends }

-- ---- what was read of a live bank

-- ---- which bank may be written

blank_none : (h : Head) → (h ≡ head.Short) ⊎ (h ≡ head.Closed) → (other : Head) → chosen h other ≡ chosen head.Short other
blank_none h (inl e) other = ap (λ (x : Head). chosen x other) e
blank_none h (inr e) head.Short = ap (λ (x : Head). chosen x head.Short) e
blank_none h (inr e) head.Closed = ap (λ (x : Head). chosen x head.Closed) e
blank_none h (inr e) head.Foreign = ap (λ (x : Head). chosen x head.Foreign) e
blank_none h (inr e) (head.Live g) = ap (λ (x : Head). chosen x (head.Live g)) e

none_blank : (h : Head) → (h ≡ head.Short) ⊎ (h ≡ head.Closed) → (other : Head) → chosen other h ≡ chosen other head.Short
none_blank h (inl e) other = ap (chosen other) e
none_blank h (inr e) head.Short = ap (chosen head.Short) e
none_blank h (inr e) head.Closed = ap (chosen head.Closed) e
none_blank h (inr e) head.Foreign = ap (chosen head.Foreign) e
none_blank h (inr e) (head.Live g) = ap (chosen (head.Live g)) e

-- where no bank counts, bank A may be written
pub spare_first : (banks : Banks) → choice_of banks ≡ choice.None → IsSpare A nothing 1 banks
spare_first banks none = record {
  now = rw none refl;
  blank = λ bytes is. rw (blank_none (head_of bytes) is (head_of (banks B)), short_none_of (head_of (banks A)) (head_of (banks B)) none) refl;
  newer = λ bytes is. rw is (live_of (head_of (banks A)) (head_of (banks B)) none);
}
  where
    short_none_of : (a b : Head) → chosen a b ≡ choice.None → chosen head.Short b ≡ choice.None
    short_none_of a head.Short e = refl
    short_none_of a head.Closed e = refl
    short_none_of head.Short head.Foreign e = absurd cc
    short_none_of head.Closed head.Foreign e = absurd cc
    short_none_of head.Foreign head.Foreign e = absurd cc
    short_none_of (head.Live g) head.Foreign e = absurd cc
    short_none_of head.Short (head.Live h) e = absurd cc
    short_none_of head.Closed (head.Live h) e = absurd cc
    short_none_of head.Foreign (head.Live h) e = absurd cc
    short_none_of (head.Live g) (head.Live h) e = by (nat_lt g.generation h.generation) e
      where
        by : {X : Type 0} (b : Bool) → (cond b (choice.Live B h) (choice.Live A g)) ≡ choice.None → X
        by true e = absurd cc
        by false e = absurd cc

    live_of : (a b : Head) → chosen a b ≡ choice.None → chosen (head.Live (edition_of Two 1)) b ≡ choice.Live A (edition_of Two 1)
    live_of a head.Short e = refl
    live_of a head.Closed e = refl
    live_of a head.Foreign e = let bad = short_none_of a head.Foreign e in absurd cc
    live_of a (head.Live h) e = let bad = short_none_of a (head.Live h) e in absurd cc

-- the head of the bank that counts
pub first_live : (a b : Head) (g : Edition) → chosen a b ≡ choice.Live A g → a ≡ head.Live g
first_live head.Foreign b g e = absurd cc
first_live head.Short head.Short g e = absurd cc
first_live head.Short head.Closed g e = absurd cc
first_live head.Short head.Foreign g e = absurd cc
first_live head.Short (head.Live h) g e = absurd cc
first_live head.Closed head.Short g e = absurd cc
first_live head.Closed head.Closed g e = absurd cc
first_live head.Closed head.Foreign g e = absurd cc
first_live head.Closed (head.Live h) g e = absurd cc
first_live (head.Live k) head.Short g e = let same : ◌≡◌ {A = Choice} (choice.Live A k) (choice.Live A g) = e in cc
first_live (head.Live k) head.Closed g e = let same : ◌≡◌ {A = Choice} (choice.Live A k) (choice.Live A g) = e in cc
first_live (head.Live k) head.Foreign g e = absurd cc
first_live (head.Live k) (head.Live h) g e = by (nat_lt k.generation h.generation) e
  where
    by : (b : Bool) → cond b (choice.Live B h) (choice.Live A k) ≡ choice.Live A g → ◌≡◌ {A = Head} (head.Live k) (head.Live g)
    by true e = absurd cc
    by false e = cc

pub second_live : (a b : Head) (g : Edition) → chosen a b ≡ choice.Live B g → b ≡ head.Live g
second_live head.Foreign b g e = absurd cc
second_live head.Short head.Short g e = absurd cc
second_live head.Short head.Closed g e = absurd cc
second_live head.Short head.Foreign g e = absurd cc
second_live head.Short (head.Live h) g e = cc
second_live head.Closed head.Short g e = absurd cc
second_live head.Closed head.Closed g e = absurd cc
second_live head.Closed head.Foreign g e = absurd cc
second_live head.Closed (head.Live h) g e = cc
second_live (head.Live k) head.Short g e = absurd cc
second_live (head.Live k) head.Closed g e = absurd cc
second_live (head.Live k) head.Foreign g e = absurd cc
second_live (head.Live k) (head.Live h) g e = by (nat_lt k.generation h.generation) e
  where
    by : (b : Bool) → cond b (choice.Live B h) (choice.Live A k) ≡ choice.Live B g → ◌≡◌ {A = Head} (head.Live h) (head.Live g)
    by true e = cc
    by false e = absurd cc

-- where one bank counts, the other may be written in the next generation
pub spare_beside_a : (banks : Banks) (map : Map) (g : Edition) → choice_of banks ≡ choice.Live A g → image_in banks ≡ map → IsSpare B map (g.generation + 1) banks
spare_beside_a banks map g counts is =
    let live = first_live (head_of (banks A)) (head_of (banks B)) g counts in
    record {
      now = is;
      blank = λ bytes blank.
          let still : chosen (head_of (banks A)) (head_of bytes) ≡ choice.Live A g = none_blank (head_of bytes) blank (head_of (banks A)) ∙ ap (λ (h : Head). chosen h head.Short) live in
          counted_map A g (with_bank B bytes banks) map still (sym (ap (λ (c : Choice). map_chosen c (banks A) (banks B)) counts) ∙ is);
      newer = λ bytes newer. rw (live, newer, lt-ltb g.generation (g.generation + 1) (omega arith)) refl;
    }

pub spare_beside_b : (banks : Banks) (map : Map) (g : Edition) → choice_of banks ≡ choice.Live B g → image_in banks ≡ map → IsSpare A map (g.generation + 1) banks
spare_beside_b banks map g counts is =
    let live = second_live (head_of (banks A)) (head_of (banks B)) g counts in
    record {
      now = is;
      blank = λ bytes blank.
          let still : chosen (head_of bytes) (head_of (banks B)) ≡ choice.Live B g = blank_none (head_of bytes) blank (head_of (banks B)) ∙ ap (chosen head.Short) live in
          counted_map B g (with_bank A bytes banks) map still (sym (ap (λ (c : Choice). map_chosen c (banks A) (banks B)) counts) ∙ is);
      newer = λ bytes newer. rw (live, newer, le-ltb (g.generation + 1) g.generation (omega arith)) refl;
    }
