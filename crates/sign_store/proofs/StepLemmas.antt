-- The steps of beginning a store, one after another.
use Rattle.std.proofs.Common.{◌≡◌, ℕ, ◌<◌, ◌+◌, Bool, true, false, leb, List, [], ◌∷◌, ◌++◌, length, take, drop, refl, sym, ap, subst, ◌∙◌, append_assoc, arith}
use Rattle.std.specs.Prelude.{◌≢◌, ◌&&◌, ◌-◌, ◌^◌, nat_lt, slice_index, codes, if◌then◌else◌}
use Rattle.std.specs.Str.{bytes_eq}
use Rattle.std.proofs.lemmas.Bool.{leb-false, lt-leb}
use Rattle.std.proofs.lemmas.List.{length-append, length-take}
use Rattle.world_api.specs.declared.disk.Bank.{Bank}
use Rattle.world_api.specs.declared.disk.Bank.TheVariants.{A, B}
use Rattle.world_api.specs.Around.{Around}
use Rattle.world_api.specs.Banks.{Banks, Holds}
use Rattle.world_api.specs.Meaning.{Meaning, IsImage, IsSettled, Throughout}
use Rattle.world_api.proofs.Moments.{chains}
use Rattle.deciders.specs.declared.version.Version.TheVariants.{One, Two}
use Rattle.sign_store.specs.declared.head.Edition.{Edition}
use Rattle.sign_store.specs.declared.entries.EndGate.{EndGate}
use Rattle.sign_store.specs.declared.entries.EndGate.TheVariants as gate
use Rattle.sign_store.specs.declared.head.Head.TheVariants.{Short, Closed, Foreign, Live}
use Rattle.sign_store.specs.Heads.{head_of, mark_of, generation_of, edition_of, live_head}
use Rattle.sign_store.specs.Ends.{StandsFor, IsTornFrom, image_in, with_bank}
use Rattle.sign_store.specs.Forms.{IsShut, IsForm}
use Rattle.sign_store.specs.Reached.{ReadsBanks, Writes, Endures}
use Rattle.sign_store.specs.Readings.{choice_of}
use Rattle.sign_store.specs.Beginnings.{IsAtRest, CanFill, IsFilled, IsMendable}
use Rattle.sign_store.specs.Tables.{Map}
use Rattle.sign_store.proofs.WriteLemmas.{held_behind}
use Rattle.sign_store.proofs.FillLemmas.{harmless, settled_on, torn_close, torn_behind_shut, torn_open, filled_stands, filled_counts, spare_on}
use Rattle.sign_store.proofs.BeginLemmas.{torn_mend}

-- ---- moments

pub endures_same : {W : Type 0} (m : Meaning W) (w : W) (stood : Around) (map : Map) → Endures m w w stood map
endures_same m w stood map = record { on = λ from run. run }

pub endures_then : {W : Type 0} (m : Meaning W) (a b c : W) (stood : Around) (map : Map) → Endures m a b stood map → Endures m b c stood map → Endures m a c stood map
endures_then m a b c stood map first second = record { on = λ from run. second.on from (first.on from run) }

pub endures_run : {W : Type 0} (m : Meaning W) (a b : W) (stood : Around) (map : Map) → Throughout m a b (StandsFor stood map) → Endures m a b stood map
endures_run m a b stood map run = record { on = λ from before. chains m from a b (StandsFor stood map) before run }

-- ---- banks at rest

pub rest_read : {W : Type 0} (m : Meaning W) (a b : W) (stood : Around) → ReadsBanks m a b → IsAtRest m a stood → IsAtRest m b stood
rest_read m a b stood reads rest = record {
  around = λ told. reads.around told ∙ rest.around (reads.told.told told);
  settled = λ told bank bytes image. let kept = reads.banks told bank in rest.settled (reads.told.told told) bank bytes (kept.no_more bytes image) ∙ sym kept.same;
}

pub rest_written : {W : Type 0} (m : Meaning W) (a b : W) (bank : Bank) (stood : Around) → Writes m bank a b → (m.tells b → IsSettled m b bank) → IsAtRest m a stood → IsAtRest m b stood
rest_written m a b bank stood writes settled rest = record {
  around = λ told. writes.around told ∙ rest.around (writes.told.told told);
  settled = λ told. settled_on m a b bank (rest.settled (writes.told.told told)) (settled told) (writes.other told);
}

same_image : (s t : Banks) → ((bank : Bank) → t bank ≡ s bank) → image_in t ≡ image_in s
same_image s t same = ap (λ (x : List ℕ). image_in (with_bank A x t)) (same A) ∙ ap (λ (x : List ℕ). image_in (with_bank A (s A) (λ b. x))) (same B)

same_choice : (s t : Banks) → ((bank : Bank) → t bank ≡ s bank) → choice_of t ≡ choice_of s
same_choice s t same = ap (λ (x : List ℕ). choice_of (with_bank A x t)) (same A) ∙ ap (λ (x : List ℕ). choice_of (with_bank A (s A) (λ b. x))) (same B)

pub image_read : {W : Type 0} (m : Meaning W) (a b : W) → ReadsBanks m a b → m.tells b → image_in (m.seen b) ≡ image_in (m.seen a)
image_read m a b reads told = same_image (m.seen a) (m.seen b) (λ bank. (reads.banks told bank).same)

pub choice_read : {W : Type 0} (m : Meaning W) (a b : W) → ReadsBanks m a b → m.tells b → choice_of (m.seen b) ≡ choice_of (m.seen a)
choice_read m a b reads told = same_choice (m.seen a) (m.seen b) (λ bank. (reads.banks told bank).same)

-- ---- filling

pub fill_read : {W : Type 0} (m : Meaning W) (a b : W) (to : Bank) (stood : Around) (map : Map) (generation : ℕ) → ReadsBanks m a b → CanFill m a to stood map generation → CanFill m b to stood map generation
fill_read m a b to stood map generation reads can = record {
  rest = rest_read m a b stood reads can.rest;
  spare = λ told.
      let before = can.spare (reads.told.told told) in
      spare_on to map generation (m.seen a) (m.seen b) before (λ other not. (reads.banks told other).same) (image_read m a b reads told ∙ before.now);
}

-- after a write at every moment of which the banks stand for the map
pub fill_written : {W : Type 0} (m : Meaning W) (a b : W) (to : Bank) (stood : Around) (map : Map) (generation : ℕ) → Writes m to a b → (m.tells b → IsSettled m b to) → (m.tells b → IsImage m b (m.seen b))
    → Throughout m a b (StandsFor stood map) → CanFill m a to stood map generation → CanFill m b to stood map generation
fill_written m a b to stood map generation writes settled reads run can = record {
  rest = rest_written m a b to stood writes settled can.rest;
  spare = λ told. spare_on to map generation (m.seen a) (m.seen b) (can.spare (writes.told.told told)) (λ other not. (writes.other told other not).same) ((run.now told (m.seen b) (reads told)).image);
}

pub close_moments : {W : Type 0} (m : Meaning W) (a b : W) (to : Bank) (stood : Around) (map : Map) (generation : ℕ) → (m.tells a → head_of (m.seen a to) ≡ Closed → ⊥) → Throughout m a b (IsTornFrom m a to 0 1)
    → CanFill m a to stood map generation → Throughout m a b (StandsFor stood map)
close_moments m a b to stood map generation not_closed run can = harmless m a b to 0 1 stood map can.rest.around can.rest.settled
    (λ told now torn. torn_close to map generation (m.seen a) now (can.spare told) (not_closed told) torn) run

pub behind_shut_moments : {W : Type 0} (m : Meaning W) (a b : W) (to : Bank) (len : ℕ) (stood : Around) (map : Map) (generation : ℕ) → (m.tells a → IsShut (m.seen a to)) → Throughout m a b (IsTornFrom m a to 1 len)
    → CanFill m a to stood map generation → Throughout m a b (StandsFor stood map)
behind_shut_moments m a b to len stood map generation shut run can = harmless m a b to 1 len stood map can.rest.around can.rest.settled
    (λ told now torn. torn_behind_shut to map generation len (m.seen a) now (can.spare told) (shut told) torn) run

-- what stands behind the gate once the form is written
pub form_behind : (form was now : List ℕ) → IsShut was → Holds was 1 form now → drop 1 now ≡ form ++ drop (1 + length form) was
form_behind form was now shut holds = held_behind 0 was now form (let there = shut.there in omega (arith, there)) holds

pub form_there : (form was now : List ℕ) → IsShut was → Holds was 1 form now → 0 < length now
form_there form was now shut holds =
    let there = shut.there in
    let parts : now ≡ take 1 was ++ (form ++ drop (1 + length form) was) = holds ∙ append_assoc (take 1 was) form (drop (1 + length form) was) in
    omega (arith, ap length parts, length-append (take 1 was) (form ++ drop (1 + length form) was), length-take 1 was, there)

pub open_moments : {W : Type 0} (m : Meaning W) (a b : W) (to : Bank) (stood : Around) (map : Map) (generation : ℕ) (form : List ℕ) (rest : m.tells a → List ℕ) → IsForm generation map form → (m.tells a → 0 < length (m.seen a to))
    → ((told : m.tells a) → drop 1 (m.seen a to) ≡ form ++ rest told) → Throughout m a b (IsTornFrom m a to 0 1) → CanFill m a to stood map generation → Throughout m a b (StandsFor stood map)
open_moments m a b to stood map generation form rest is there behind run can = harmless m a b to 0 1 stood map can.rest.around can.rest.settled
    (λ told now torn. torn_open to map generation form (rest told) (m.seen a) now (can.spare told) is (behind told) (there told) torn) run

pub fill_done : {W : Type 0} (m : Meaning W) (a b : W) (to : Bank) (stood : Around) (map : Map) (generation : ℕ) (form : List ℕ) (rest : m.tells a → List ℕ) → IsForm generation map form → ((told : m.tells a) → drop 1 (m.seen a to) ≡ form ++ rest told)
    → Writes m to a b → (m.tells b → IsSettled m b to) → (m.tells b → Holds (m.seen a to) 0 (1 ∷ []) (m.seen b to)) → CanFill m a to stood map generation → IsFilled m b to (length form) stood map (edition_of Two generation)
fill_done m a b to stood map generation form rest is behind writes settled holds can = record {
  rest = rest_written m a b to stood writes settled can.rest;
  stands = λ told.
      let before = writes.told.told told in
      filled_stands to map generation form (rest before) (m.seen a) (m.seen b) (can.spare before) is (λ other not. (writes.other told other not).same) (here told before);
  counts = λ told.
      let before = writes.told.told told in
      filled_counts to map generation form (rest before) (m.seen a) (m.seen b) (can.spare before) is (λ other not. (writes.other told other not).same) (here told before);
}
  where
    here : (told : m.tells b) (before : m.tells a) → m.seen b to ≡ 1 ∷ (form ++ rest before)
    here told before = holds told ∙ ap (λ (x : List ℕ). 1 ∷ x) (behind before)

-- ---- a closed gate is shut

closed_long : (bank : List ℕ) → head_of bank ≡ Closed → 17 < length bank
closed_long bank e = by (leb (length bank) 17) refl
  where
    by : (b : Bool) → leb (length bank) 17 ≡ b → 17 < length bank
    by true le = let short : Short ≡ Closed = sym (rw le refl) ∙ e in absurd cc
    by false le = leb-false (length bank) 17 le

pub closed_shut : (bank : List ℕ) → head_of bank ≡ Closed → IsShut bank
closed_shut bank e = record {
  there = let long = closed_long bank e in omega (arith, long);
  closed = λ gate. not_open gate (closed_long bank e);
}
  where
    opens : (mark : List ℕ) (generation : ℕ) → live_head mark generation ≡ Closed → ⊥
    opens mark generation e = by (bytes_eq mark (codes "SCONSIG2")) (bytes_eq mark (codes "SCONSIG1") && nat_lt generation (2 ^ 64 - 1)) e
      where
        by : (two one : Bool) → (if two then Live (edition_of Two generation) else (if one then Live (edition_of One generation) else Foreign)) ≡ Closed → ⊥
        by true one e = absurd cc
        by false true e = absurd cc
        by false false e = absurd cc

    not_open : slice_index bank 0 ≡ 1 → 17 < length bank → ⊥
    not_open gate long =
        let at : head_of bank ≡ live_head (mark_of bank) (generation_of bank) = rw (lt-leb (length bank) 17 long, gate) refl in
        opens (mark_of bank) (generation_of bank) (sym at ∙ e)

pub zero_shut : (was now : List ℕ) → Holds was 0 (0 ∷ []) now → IsShut now
zero_shut was now holds = subst IsShut (sym holds) (record { there = omega arith; closed = λ e. absurd cc })

-- ---- mending

pub mend_moments : {W : Type 0} (m : Meaning W) (a b : W) (bank : Bank) (end : EndGate) (place : ℕ) (stood : Around) (map : Map) (edition : Edition) → end ≢ gate.Closed → Throughout m a b (IsTornFrom m a bank place 1)
    → IsMendable m a bank end place stood map edition → Throughout m a b (StandsFor stood map)
mend_moments m a b bank end place stood map edition not run can = harmless m a b bank place 1 stood map can.rest.around can.rest.settled
    (λ told now torn. torn_mend bank end place edition map (m.seen a) now (can.counts told) (can.written told) (can.gate_is told) not torn) run
