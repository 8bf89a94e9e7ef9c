-- A bank is filled while another one counts: at every moment of it the banks stand for the same map.
use Rattle.std.proofs.Common.{◌≡◌, ℕ, ◌<◌, ◌≤◌, Bool, true, false, leb, List, [], ◌∷◌, ◌++◌, length, take, drop, get_or, refl, sym, ap, subst, ◌∙◌, append_assoc, inl, inr, arith}
use Rattle.std.specs.Prelude.{◌≢◌, ◌==◌, slice_index}
use Rattle.std.proofs.lemmas.Bool.{le-leb, lt-leb, leb-true, leb-false}
use Rattle.std.proofs.lemmas.Bool.Decides.{eqb_tells}
use Rattle.std.proofs.lemmas.List.{take_at, drop_at, drop_more, length-append, get_or-take}
use Rattle.world_api.specs.declared.disk.Bank.{Bank}
use Rattle.world_api.specs.declared.disk.Bank.TheVariants.{A, B}
use Rattle.world_api.specs.Around.{Around}
use Rattle.world_api.specs.Banks.{Banks, Torn}
use Rattle.world_api.specs.Meaning.{Meaning, IsSettled, BankKept, Throughout}
use Rattle.world_api.proofs.Moments.{weakens}
use Rattle.deciders.specs.declared.version.Version.TheVariants.{Two}
use Rattle.sign_store.specs.declared.head.Head.TheVariants.{Closed}
use Rattle.sign_store.specs.declared.head.Choice.TheVariants as choice
use Rattle.sign_store.specs.Heads.{head_of, gate_of, edition_of}
use Rattle.sign_store.specs.Images.{entries_map, body_of}
use Rattle.sign_store.specs.Ends.{EndsAt, StandsAt, StandsFor, IsTornFrom, AreSettled, image_in, with_bank}
use Rattle.sign_store.specs.Forms.{IsBlank, IsSpare, IsShut, IsForm}
use Rattle.sign_store.specs.Readings.{choice_of}
use Rattle.sign_store.specs.Tables.{Map}
use Rattle.sign_store.proofs.EndLemmas.{stands_for, gate_at}

-- ---- settled banks

other_than : (b : Bank) → Bank
other_than A = B
other_than B = A

image_at : (bank : Bank) (s banks : Banks) → ((other : Bank) → other ≢ bank → banks other ≡ s other) → image_in banks ≡ image_in (with_bank bank (banks bank) s)
image_at A s banks same = ap (λ (x : List ℕ). image_in (with_bank A (banks A) (λ b. x))) (same B (λ e. absurd cc))
image_at B s banks same = ap (λ (x : List ℕ). image_in (with_bank B (banks B) (λ b. x))) (same A (λ e. absurd cc))

pub choice_at : (bank : Bank) (s banks : Banks) → ((other : Bank) → other ≢ bank → banks other ≡ s other) → choice_of banks ≡ choice_of (with_bank bank (banks bank) s)
choice_at A s banks same = ap (λ (x : List ℕ). choice_of (with_bank A (banks A) (λ b. x))) (same B (λ e. absurd cc))
choice_at B s banks same = ap (λ (x : List ℕ). choice_of (with_bank B (banks B) (λ b. x))) (same A (λ e. absurd cc))

-- a torn write of settled banks after which each outcome stands for the map
pub harmless : {W : Type 0} (m : Meaning W) (old new : W) (bank : Bank) (place len : ℕ) (stood : Around) (map : Map) → (m.tells old → m.around old ≡ stood) → (m.tells old → AreSettled m old)
    → (m.tells old → (now : List ℕ) → Torn place len (m.seen old bank) now → image_in (with_bank bank now (m.seen old)) ≡ map) → Throughout m old new (IsTornFrom m old bank place len) → Throughout m old new (StandsFor stood map)
harmless m old new bank place len stood map around settled torn run = weakens m old new (IsTornFrom m old bank place len) (StandsFor stood map) run
    (λ told a banks from.
    let before = run.told told in
    let is = settled before bank from.was from.stood in
    record {
      same = from.same ∙ around before;
      image = image_at bank (m.seen old) banks (λ other not. settled before other (banks other) (from.others other not))
          ∙ torn before (banks bank) (subst (λ (x : List ℕ). Torn place len x (banks bank)) is from.torn);
    })

-- a bank that was synced, and one that no call wrote
pub settled_on : {W : Type 0} (m : Meaning W) (old new : W) (bank : Bank) → AreSettled m old → IsSettled m new bank → ((other : Bank) → other ≢ bank → BankKept m other old new) → AreSettled m new
settled_on m old new bank before here kept b = by bank b before here kept
  where
    by : (bank b : Bank) → AreSettled m old → IsSettled m new bank → ((other : Bank) → other ≢ bank → BankKept m other old new) → IsSettled m new b
    by A A before here kept = here
    by A B before here kept = let k = kept B (λ e. absurd cc) in λ bytes image. before B bytes (k.no_more bytes image) ∙ sym k.same
    by B A before here kept = let k = kept A (λ e. absurd cc) in λ bytes image. before A bytes (k.no_more bytes image) ∙ sym k.same
    by B B before here kept = here

-- ---- gates

not_eq : (n : ℕ) → n ≢ 1 → (n == 1) ≡ false
not_eq n closed = elim (eqb_tells n 1) [ inl eq ↦ absurd (closed eq.1) | inr ne ↦ ne.0 ]

pub shut_blank : (bank : List ℕ) → slice_index bank 0 ≢ 1 → IsBlank bank
shut_blank bank closed = by (leb (length bank) 17) refl
  where
    by : (b : Bool) → leb (length bank) 17 ≡ b → IsBlank bank
    by true e = inl (rw e refl)
    by false e = inr (rw (e, not_eq (gate_of bank) closed) refl)

pub short_blank : (bank : List ℕ) → length bank ≤ 17 → IsBlank bank
short_blank bank le = inl (rw (le-leb (length bank) 17 le) refl)

-- where nothing but the gate may be otherwise, and it is as it was, all is as it was
pub same_gate : (was now : List ℕ) → Torn 0 1 was now → 0 < length was → slice_index now 0 ≡ slice_index was 0 → now ≡ was
same_gate was now torn there gate =
    let after : drop 1 now ≡ drop 1 was = torn.after in
    let there_now : 0 < length now = omega (arith, there, torn.no_shorter) in
    drop_more now 0 0 there_now ∙ ap (λ (g : ℕ). g ∷ drop 1 now) gate ∙ ap (λ (x : List ℕ). get_or was 0 0 ∷ x) after ∙ sym (drop_more was 0 0 there)

open_gate : (bank : List ℕ) → 17 < length bank → (head_of bank ≡ Closed → ⊥) → slice_index bank 0 ≡ 1
open_gate bank long not_closed = elim (eqb_tells (gate_of bank) 1) [
  | inl eq ↦ eq.1
  | inr ne ↦ absurd (not_closed (rw (lt-leb (length bank) 17 long, ne.0) refl))
]

-- while the gate of a bank is closed
pub torn_close : (to : Bank) (map : Map) (generation : ℕ) (s : Banks) (now : List ℕ) → IsSpare to map generation s → (head_of (s to) ≡ Closed → ⊥) → Torn 0 1 (s to) now → image_in (with_bank to now s) ≡ map
torn_close to map generation s now spare not_closed torn = by (leb (length (s to)) 17) refl
  where
    same_bank : (bank : Bank) → image_in (with_bank bank (s bank) s) ≡ image_in s
    same_bank A = refl
    same_bank B = refl

    by : (b : Bool) → leb (length (s to)) 17 ≡ b → image_in (with_bank to now s) ≡ map
    by true e = spare.blank now (short_blank now (let le = leb-true (length (s to)) 17 e in let longer = torn.no_longer in omega (arith, le, longer)))
    by false e =
        let long : 17 < length (s to) = leb-false (length (s to)) 17 e in
        elim (eqb_tells (slice_index now 0) 1) [
          | inl eq ↦ ap (λ (x : List ℕ). image_in (with_bank to x s)) (same_gate (s to) now torn (omega (arith, long)) (eq.1 ∙ sym (open_gate (s to) long not_closed))) ∙ same_bank to ∙ spare.now
          | inr ne ↦ spare.blank now (shut_blank now ne.1)
        ]

-- what stands behind a closed gate doesn't count
pub torn_behind_shut : (to : Bank) (map : Map) (generation len : ℕ) (s : Banks) (now : List ℕ) → IsSpare to map generation s → IsShut (s to) → Torn 1 len (s to) now → image_in (with_bank to now s) ≡ map
torn_behind_shut to map generation len s now spare shut torn =
    let gate : slice_index now 0 ≡ slice_index (s to) 0 = sym (get_or-take 1 now 0 0 (omega arith)) ∙ ap (λ (x : List ℕ). get_or x 0 0) torn.before ∙ get_or-take 1 (s to) 0 0 (omega arith) in
    spare.blank now (shut_blank now (λ e. shut.closed (sym gate ∙ e)))

-- ---- a form behind an open gate

filled : (generation : ℕ) (map : Map) (form rest : List ℕ) → IsForm generation map form → EndsAt Two (length form) map (1 ∷ (form ++ rest))
filled generation map form rest is =
    let whole : 1 ∷ (form ++ rest) ≡ (1 ∷ is.front) ++ (0 ∷ rest) = ap (λ (x : List ℕ). 1 ∷ (x ++ rest)) is.is ∙ ap (λ (x : List ℕ). 1 ∷ x) (append_assoc is.front (0 ∷ []) rest) in
    let len : length (1 ∷ is.front) ≡ length form = omega (arith, ap length is.is, length-append is.front (0 ∷ [])) in
    let cut : take (length form) (1 ∷ (form ++ rest)) ≡ 1 ∷ is.front = ap (take (length form)) whole ∙ take_at (1 ∷ is.front) (0 ∷ rest) (length form) len in
    let left : drop (length form) (1 ∷ (form ++ rest)) ≡ 0 ∷ rest = ap (drop (length form)) whole ∙ drop_at (1 ∷ is.front) (0 ∷ rest) (length form) len in
    let gate : slice_index (1 ∷ (form ++ rest)) (length form) ≡ 0 = sym (gate_at (length form) (1 ∷ (form ++ rest))) ∙ ap (λ (x : List ℕ). slice_index x 0) left in
    record {
      behind_head = omega (arith, len, is.long);
      inside = omega (arith, ap length whole, length-append (1 ∷ is.front) (0 ∷ rest), len);
      closed = λ e. let bad : 0 ≡ 1 = sym gate ∙ e in absurd (omega (arith, bad));
      entries = λ behind. ap (λ (x : List ℕ). entries_map Two (body_of x ++ behind)) cut ∙ is.leads.on behind;
    }

pub filled_counts : (to : Bank) (map : Map) (generation : ℕ) (form rest : List ℕ) (s banks : Banks) → IsSpare to map generation s → IsForm generation map form
    → ((other : Bank) → other ≢ to → banks other ≡ s other) → banks to ≡ 1 ∷ (form ++ rest) → choice_of banks ≡ choice.Live to (edition_of Two generation)
filled_counts to map generation form rest s banks spare form_is others here =
    let whole : banks to ≡ 1 ∷ (form_is.front ++ (0 ∷ rest)) = here ∙ ap (λ (x : List ℕ). 1 ∷ (x ++ rest)) form_is.is ∙ ap (λ (x : List ℕ). 1 ∷ x) (append_assoc form_is.front (0 ∷ []) rest) in
    choice_at to s banks others ∙ spare.newer (banks to) (ap head_of whole ∙ form_is.head rest)

pub filled_stands : (to : Bank) (map : Map) (generation : ℕ) (form rest : List ℕ) (s banks : Banks) → IsSpare to map generation s → IsForm generation map form
    → ((other : Bank) → other ≢ to → banks other ≡ s other) → banks to ≡ 1 ∷ (form ++ rest) → StandsAt Two to (length form) map banks
filled_stands to map generation form rest s banks spare form_is others here =
    let counts = filled_counts to map generation form rest s banks spare form_is others here in
    let ends : EndsAt Two (length form) map (banks to) = subst (λ (x : List ℕ). EndsAt Two (length form) map x) (sym here) (filled generation map form rest form_is) in
    record { generation = generation; counts = counts; ends = ends; image = stands_for to (length form) map banks (edition_of Two generation) counts ends }

-- while the gate is opened before a form
pub torn_open : (to : Bank) (map : Map) (generation : ℕ) (form rest : List ℕ) (s : Banks) (now : List ℕ) → IsSpare to map generation s → IsForm generation map form → drop 1 (s to) ≡ form ++ rest → 0 < length (s to)
    → Torn 0 1 (s to) now → image_in (with_bank to now s) ≡ map
torn_open to map generation form rest s now spare form_is behind there torn =
    elim (eqb_tells (slice_index now 0) 1) [
      | inl eq ↦
          (filled_stands to map generation form rest s (with_bank to now s) spare form_is (others to)
          (here to ∙ drop_more now 0 0 (omega (arith, there, torn.no_shorter)) ∙ ap (λ (g : ℕ). g ∷ drop 1 now) eq.1 ∙ ap (λ (x : List ℕ). 1 ∷ x) (torn.after ∙ behind))).image
      | inr ne ↦ spare.blank now (shut_blank now ne.1)
    ]
  where
    here : (bank : Bank) → with_bank bank now s bank ≡ now
    here A = refl
    here B = refl

    others : (bank : Bank) → (other : Bank) → other ≢ bank → with_bank bank now s other ≡ s other
    others A A not = absurd (not refl)
    others A B not = refl
    others B A not = refl
    others B B not = absurd (not refl)

-- the bank is spare still, whatever was written to it
pub spare_on : (to : Bank) (map : Map) (generation : ℕ) (s new : Banks) → IsSpare to map generation s → ((other : Bank) → other ≢ to → new other ≡ s other) → image_in new ≡ map → IsSpare to map generation new
spare_on A map generation s new spare same now = record {
  now = now;
  blank = λ bytes is. ap (λ (x : List ℕ). image_in (with_bank A bytes (λ b. x))) (same B (λ e. absurd cc)) ∙ spare.blank bytes is;
  newer = λ bytes is. ap (λ (x : List ℕ). choice_of (with_bank A bytes (λ b. x))) (same B (λ e. absurd cc)) ∙ spare.newer bytes is;
}
spare_on B map generation s new spare same now = record {
  now = now;
  blank = λ bytes is. ap (λ (x : List ℕ). image_in (with_bank B bytes (λ b. x))) (same A (λ e. absurd cc)) ∙ spare.blank bytes is;
  newer = λ bytes is. ap (λ (x : List ℕ). choice_of (with_bank B bytes (λ b. x))) (same A (λ e. absurd cc)) ∙ spare.newer bytes is;
}
