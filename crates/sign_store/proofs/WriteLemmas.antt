-- What holds at every moment of a write, of a sync behind it, and of what is written behind a gate that isn't open.
use Rattle.std.proofs.Common.{◌≡◌, ℕ, ◌<◌, ◌≤◌, ◌+◌, List, [], ◌∷◌, ◌++◌, length, take, drop, refl, sym, ap, subst, ◌∙◌, append_assoc, inl, arith}
use Rattle.std.specs.Prelude.{◌≢◌, slice_index}
use Rattle.std.proofs.lemmas.List.{take_at, drop_at, drop-drop, length-append, length-take}
use Rattle.world_api.specs.declared.disk.Bank.{Bank}
use Rattle.world_api.specs.declared.disk.Bank.TheVariants.{A, B}
use Rattle.world_api.specs.Around.{Around}
use Rattle.world_api.specs.Banks.{Banks, Holds, Torn, Follows}
use Rattle.world_api.specs.Meaning.{Meaning, IsImage, IsSettled, BankKept, BanksKept, Throughout, AtEither}
use Rattle.world_api.proofs.Moments.{disk_call, chains, weakens}
use Rattle.deciders.specs.declared.version.Version.TheVariants.{Two}
use Rattle.sign_store.specs.Ends.{StandsAt, StandsFor, KeepsAt, IsEither, IsTornFrom, with_bank}
use Rattle.sign_store.specs.Tables.{Map}
use Rattle.sign_store.proofs.EndLemmas.{torn_behind, gate_at}

torn_same : (place len : ℕ) (bytes : List ℕ) → Torn place len bytes bytes
torn_same place len bytes = record { before = refl; after = refl; no_shorter = omega arith; no_longer = omega arith }

-- a moment as at entry
pub torn_none : {W : Type 0} (m : Meaning W) (old : W) (bank : Bank) (place len : ℕ) (around : Around) (banks : Banks) → around ≡ m.around old → IsImage m old banks → IsTornFrom m old bank place len around banks
torn_none m old bank place len around banks same image = record {
  same = same;
  others = λ other not. image other;
  was = banks bank;
  stood = image bank;
  torn = torn_same place len (banks bank);
}

-- a moment as after the write
torn_once : {W : Type 0} (m : Meaning W) (old mid : W) (bank : Bank) (place len : ℕ) (around : Around) (banks : Banks) → around ≡ m.around old → Follows (Torn place len) (m.image old bank) (m.image mid bank)
    → ((other : Bank) → other ≢ bank → BankKept m other old mid) → IsImage m mid banks → IsTornFrom m old bank place len around banks
torn_once m old mid bank place len around banks same follows kept image =
    let from = follows (banks bank) (image bank) in
    record {
      same = same;
      others = λ other not. (kept other not).no_more (banks other) (image other);
      was = from.0;
      stood = from.1;
      torn = from.2;
    }

-- a write alone
pub write_moments : {W : Type 0} (m : Meaning W) (old mid : W) (bank : Bank) (place len : ℕ) → Throughout m old mid (AtEither m old mid)
    → (m.tells mid → m.around mid ≡ m.around old) → (m.tells mid → Follows (Torn place len) (m.image old bank) (m.image mid bank))
    → (m.tells mid → (other : Bank) → other ≢ bank → BankKept m other old mid) → Throughout m old mid (IsTornFrom m old bank place len)
write_moments m old mid bank place len time around follows kept = disk_call m old mid (IsTornFrom m old bank place len) time
    (λ told banks image. torn_none m old bank place len (m.around mid) banks (around told) image)
    (λ told banks image. torn_once m old mid bank place len (m.around mid) banks (around told) (follows told) (kept told) image)

-- a call behind it that wrote nothing
pub sync_moments : {W : Type 0} (m : Meaning W) (old mid new : W) (P : Around → Banks → Type 0) → Throughout m old mid P → Throughout m mid new (AtEither m mid new)
    → (m.tells new → m.around new ≡ m.around mid) → (m.tells new → BanksKept m mid new) → Throughout m old new P
sync_moments m old mid new P first time around kept = chains m old mid new P first (disk_call m mid new P time
    (λ told banks image. subst (λ (a : Around). P a banks) (sym (around told)) (first.now (time.told told) banks image))
    (λ told banks image. subst (λ (a : Around). P a banks) (sym (around told)) (first.now (time.told told) banks (λ b. (kept told b).no_more (banks b) (image b)))))

-- ---- behind a gate

pub image_with : {W : Type 0} (m : Meaning W) (old : W) (bank : Bank) (was : List ℕ) (banks : Banks) → ((other : Bank) → other ≢ bank → m.image old other (banks other)) → m.image old bank was → IsImage m old (with_bank bank was banks)
image_with m old A was banks others stood A = stood
image_with m old A was banks others stood B = others B (λ e. absurd cc)
image_with m old B was banks others stood A = others A (λ e. absurd cc)
image_with m old B was banks others stood B = stood

-- what stands behind a gate that isn't open
pub behind_stands : {W : Type 0} (m : Meaning W) (old : W) (bank : Bank) (place from len : ℕ) (map : Map) (around : Around) (banks : Banks) → place < from → m.tells old → KeepsAt m old bank place map → IsTornFrom m old bank from len around banks
    → StandsAt Two bank place map banks
behind_stands m old bank place from len map around banks behind told keeps torn =
    torn_behind Two bank place from len map torn.was banks behind (keeps.each told (with_bank bank torn.was banks) (image_with m old bank torn.was banks torn.others torn.stood)) torn.torn

pub behind_moments : {W : Type 0} (m : Meaning W) (old mid : W) (bank : Bank) (place from len : ℕ) (map : Map) → place < from → KeepsAt m old bank place map → Throughout m old mid (IsTornFrom m old bank from len)
    → Throughout m old mid (StandsFor (m.around old) map)
behind_moments m old mid bank place from len map behind keeps run = weakens m old mid (IsTornFrom m old bank from len) (StandsFor (m.around old) map) run
    (λ told around banks torn. record { same = torn.same; image = (behind_stands m old bank place from len map around banks behind (run.told told) keeps torn).image })

pub behind_keeps : {W : Type 0} (m : Meaning W) (old mid : W) (bank : Bank) (place from len : ℕ) (map : Map) → place < from → KeepsAt m old bank place map → Throughout m old mid (IsTornFrom m old bank from len) → KeepsAt m mid bank place map
behind_keeps m old mid bank place from len map behind keeps run = record {
  each = λ told banks image. behind_stands m old bank place from len map (m.around mid) banks behind (run.told told) keeps (run.now told banks image);
}

-- a map that all stands for is one of two
pub either_first : {W : Type 0} (m : Meaning W) (old new : W) (stood : Around) (map after : Map) → Throughout m old new (StandsFor stood map) → Throughout m old new (IsEither stood map after)
either_first m old new stood map after run = weakens m old new (StandsFor stood map) (IsEither stood map after) run (λ told around banks at. record { same = at.same; map = inl at.image })

-- the written bytes stand behind the gate
pub held_behind : (place : ℕ) (was now bytes : List ℕ) → place + 1 ≤ length was → Holds was (place + 1) bytes now → drop (place + 1) now ≡ bytes ++ drop (place + 1 + length bytes) was
held_behind place was now bytes inside holds =
    ap (drop (place + 1)) (holds ∙ append_assoc (take (place + 1) was) bytes (drop (place + 1 + length bytes) was))
    ∙ drop_at (take (place + 1) was) (bytes ++ drop (place + 1 + length bytes) was) (place + 1) (omega (arith, length-take (place + 1) was))

held_inside : (place : ℕ) (was now bytes : List ℕ) → place < length was → Holds was (place + 1) bytes now → place < length now
held_inside place was now bytes inside holds =
    let parts : now ≡ take (place + 1) was ++ (bytes ++ drop (place + 1 + length bytes) was) = holds ∙ append_assoc (take (place + 1) was) bytes (drop (place + 1 + length bytes) was) in
    omega (arith, ap length parts, length-append (take (place + 1) was) (bytes ++ drop (place + 1 + length bytes) was), length-take (place + 1) was, inside)

-- the gate alone was written
pub record IsGateOpen (place : ℕ) (was now : List ℕ) : Type 0 where
  pub front : take place now ≡ take place was
  pub behind : drop (place + 1) now ≡ drop (place + 1) was
  pub inside : place < length now
  pub gate : slice_index now place ≡ 1

pub held_gate : (place : ℕ) (was now : List ℕ) → place < length was → Holds was place (1 ∷ []) now → IsGateOpen place was now
held_gate place was now inside holds =
    let front-len : length (take place was) ≡ place = omega (arith, length-take place was) in
    let parts : now ≡ take place was ++ (1 ∷ drop (place + 1) was) = holds ∙ append_assoc (take place was) (1 ∷ []) (drop (place + 1) was) in
    let rest : drop place now ≡ 1 ∷ drop (place + 1) was = ap (drop place) parts ∙ drop_at (take place was) (1 ∷ drop (place + 1) was) place front-len in
    record {
      front = ap (take place) parts ∙ take_at (take place was) (1 ∷ drop (place + 1) was) place front-len;
      behind = sym (drop-drop 1 place now) ∙ ap (drop 1) rest;
      inside = omega (arith, ap length parts, length-append (take place was) (1 ∷ drop (place + 1) was), front-len);
      gate = sym (gate_at place now) ∙ ap (λ (x : List ℕ). slice_index x 0) rest;
    }
