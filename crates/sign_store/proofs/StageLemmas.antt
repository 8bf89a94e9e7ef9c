-- Entries that are written behind a closed gate, and the gate that is opened in front of them.
use Rattle.std.proofs.Common.{◌≡◌, ℕ, zero, suc, ◌<◌, ◌≤◌, ◌+◌, ◌-◌, Bool, List, [], ◌∷◌, ◌++◌, length, take, drop, refl, sym, ap, subst, ◌∙◌, append_assoc, inl, inr, arith}
use Rattle.std.specs.Prelude.{◌≢◌, ◌⊎◌, ◌==◌, min, slice_index, if◌then◌else◌, Result, Ok, Err, OnOk}
use Rattle.std.proofs.lemmas.Bool.{cases_lt}
use Rattle.std.proofs.lemmas.Bool.Decides.{eqb_tells}
use Rattle.std.proofs.lemmas.List.{take_at, drop-take, drop-append-le, length-append, length-take, length-drop, nil_from_length}
use Rattle.world_api.specs.declared.disk.Bank.{Bank}
use Rattle.world_api.specs.Around.{Around}
use Rattle.world_api.specs.Banks.{Banks, Holds}
use Rattle.world_api.specs.Meaning.{Meaning, IsImage, IsSettled, BankKept, BanksKept, Throughout, AtEither}
use Rattle.world_api.proofs.Moments.{IsNow, begins, chains, weakens, disk_call}
use Rattle.deciders.specs.declared.version.Version.{Version}
use Rattle.deciders.specs.declared.version.Version.TheVariants.{Two}
use Rattle.sign_store.specs.Images.{after_entries}
use Rattle.sign_store.specs.Ends.{StandsAt, StandsFor, KeepsAt, IsEither, IsTornFrom, with_bank}
use Rattle.sign_store.specs.Forms.{Leads}
use Rattle.sign_store.specs.Staging.{AreStaged, AreStagedIn, IsEntry, IsStaging, Publishes, PublishesThroughout, Spans, StaysBehind}
use Rattle.sign_store.specs.Tables.{Map}
use Rattle.sign_store.proofs.EndLemmas.{torn_gate, gate_opened}
use Rattle.sign_store.proofs.WriteLemmas.{behind_keeps, behind_moments, either_first, held_behind, held_gate, image_with}
use Rattle.sign_store.proofs.FormLemmas.{leads_none, leads_then}

-- ---- the bytes

pub leads_nothing : (version : Version) (from map : Map) → Leads version [] from map → from ≡ map
unfolding after_entries
leads_nothing version from map leads = leads.on []

pub staged_none : (end : ℕ) (map : Map) (bank : List ℕ) → AreStaged end end map map bank
staged_none end map bank = record { entries = []; rest = 1 ∷ drop (end + 1) bank; are = refl; upto = omega arith; leads = leads_none Two map }

-- where none was written it leads nowhere
pub staged_nowhere : (end : ℕ) (from map : Map) (bank : List ℕ) → AreStaged end end from map bank → from ≡ map
staged_nowhere end from map bank staged =
    let upto = staged.upto in
    let none : staged.entries ≡ [] = nil_from_length staged.entries (omega (arith, upto)) in
    leads_nothing Two from map (subst (λ (x : List ℕ). Leads Two x from map) none staged.leads)

take_first : (n : ℕ) (x : ℕ) (xs : List ℕ) → 0 < n → take n (x ∷ xs) ≡ x ∷ take (n - 1) xs
take_first zero x xs some = absurd (omega (arith, some))
take_first (suc n) x xs some = let same : n ≡ suc n - 1 = omega arith in ap (λ k. x ∷ take k xs) same

-- what is written at their end leaves them
pub front_stays : (end place : ℕ) (from map : Map) (was now bytes : List ℕ) → (staged : AreStaged end place from map was) → end < place → place ≤ length was → Holds was place bytes now
    → 1 ∷ drop (end + 1) now ≡ staged.entries ++ (bytes ++ drop (place + length bytes) was)
front_stays end place from map was now bytes staged behind inside holds =
    let n = length staged.entries in
    let more = bytes ++ drop (place + length bytes) was in
    let upto = staged.upto in
    let some : 0 < n = omega (arith, upto, behind) in
    let front-len : length (take place was) ≡ place = omega (arith, length-take place was, inside) in
    let parts : now ≡ take place was ++ more = holds ∙ append_assoc (take place was) bytes (drop (place + length bytes) was) in
    let cut : drop (end + 1) now ≡ drop (end + 1) (take place was) ++ more = ap (drop (end + 1)) parts ∙ drop-append-le (end + 1) (take place was) more (omega (arith, front-len, behind)) in
    let at : end + 1 + (n - 1) ≡ place = omega (arith, upto, some) in
    let front : drop (end + 1) (take place was) ≡ take (n - 1) (drop (end + 1) was) = ap (λ k. drop (end + 1) (take k was)) (sym at) ∙ drop-take (end + 1) (n - 1) was in
    let entries : 1 ∷ take (n - 1) (drop (end + 1) was) ≡ staged.entries = sym (take_first n 1 (drop (end + 1) was) some) ∙ ap (take n) staged.are ∙ take_at staged.entries staged.rest n refl in
    ap (λ (x : List ℕ). 1 ∷ x) (cut ∙ ap (λ (x : List ℕ). x ++ more) front) ∙ ap (λ (x : List ℕ). x ++ more) entries

-- one entry more
pub staged_next : (end place : ℕ) (from mid map : Map) (was now entry : List ℕ) → AreStaged end place from mid was → IsEntry mid map entry → end < place → place ≤ length was → Holds was place entry now
    → AreStaged end (place + length entry) from map now
staged_next end place from mid map was now entry staged is behind inside holds =
    let rest = drop (place + length entry) was in
    let upto = staged.upto in
    record {
      entries = staged.entries ++ entry;
      rest = rest;
      are = front_stays end place from mid was now entry staged behind inside holds ∙ sym (append_assoc staged.entries entry rest);
      upto = omega (arith, upto, length-append staged.entries entry);
      leads = leads_then Two staged.entries entry from mid map staged.leads is.leads;
    }

-- the first of them, whose gate is there already
pub staged_first : (end : ℕ) (from mid map : Map) (was now entry : List ℕ) → AreStaged end end from mid was → IsEntry mid map entry → end < length was → Holds was (end + 1) (drop 1 entry) now
    → AreStaged end (end + length entry) from map now
staged_first end from mid map was now entry staged is inside holds =
    let rest = drop (end + 1 + length (drop 1 entry)) was in
    record {
      entries = entry;
      rest = rest;
      are = ap (λ (x : List ℕ). 1 ∷ x) (held_behind end was now (drop 1 entry) (omega (arith, inside)) holds)
          ∙ ap (λ (x : List ℕ). 1 ∷ (drop 1 x ++ rest)) is.gate ∙ sym (ap (λ (x : List ℕ). x ++ rest) is.gate);
      upto = refl;
      leads = subst (λ (m : Map). Leads Two entry m map) (sym (staged_nowhere end from mid was staged)) is.leads;
    }

held_len : (place : ℕ) (was now bytes : List ℕ) → place ≤ length was → Holds was place bytes now → (length was ≤ length now) × (place + length bytes ≤ length now)
held_len place was now bytes inside holds =
    let parts : now ≡ take place was ++ (bytes ++ drop (place + length bytes) was) = holds ∙ append_assoc (take place was) bytes (drop (place + length bytes) was) in
    let whole = ap length parts in
    let front = length-append (take place was) (bytes ++ drop (place + length bytes) was) in
    let back = length-append bytes (drop (place + length bytes) was) in
    let taken = length-take place was in
    let left = length-drop (place + length bytes) was in
    (omega (arith, whole, front, back, taken, left, inside), omega (arith, whole, front, back, taken, left, inside))

-- the bank is no shorter, and has what was written
pub spans_on : (end place to : ℕ) (was now bytes : List ℕ) → Spans end place was → to ≤ length was → place ≤ to + length bytes → Holds was to bytes now → Spans end (to + length bytes) now
spans_on end place to was now bytes spans inside far holds =
    let lens = held_len to was now bytes inside holds in
    let a = lens.0 in
    let b = lens.1 in
    record { gate = let g = spans.gate in omega (arith, g, a); inside = b }

-- ---- an entry at the place up to which others were written: the gate of the first stands already

stage_at : (end place skip : ℕ) → end ≤ place → skip ≡ (if place == end then 1 else 0) → ((place ≡ end) × (skip ≡ 1)) ⊎ ((end < place) × (skip ≡ 0))
stage_at end place skip le is = elim (eqb_tells place end) [
  | inl eq ↦ inl (eq.1, is ∙ ap (λ (b : Bool). if b then 1 else 0) eq.0)
  | inr ne ↦ inr (further (ne.1), is ∙ ap (λ (b : Bool). if b then 1 else 0) ne.0)
]
  where
    further : place ≢ end → end < place
    further differs = elim (cases_lt end place) [ inl lt ↦ lt | inr far ↦ absurd (differs (omega (arith, le, far))) ]

pub stage_behind : (end place skip : ℕ) → end ≤ place → skip ≡ (if place == end then 1 else 0) → end < place + skip
stage_behind end place skip le is = elim (stage_at end place skip le is) [
  | inl first ↦ (let a = first.0 in let b = first.1 in omega (arith, a, b))
  | inr next ↦ (let a = next.0 in omega (arith, a))
]

pub stage_inside : (end place skip : ℕ) (bank : List ℕ) → end ≤ place → skip ≡ (if place == end then 1 else 0) → Spans end place bank → place + skip ≤ length bank
stage_inside end place skip bank le is spans =
    let gate = spans.gate in
    let inside = spans.inside in
    elim (stage_at end place skip le is) [
      | inl first ↦ (let a = first.0 in let b = first.1 in omega (arith, a, b, gate))
      | inr next ↦ (let b = next.1 in omega (arith, b, inside))
    ]

module _ (end place skip : ℕ) (was now entry bytes : List ℕ) (le : end ≤ place) (is : skip ≡ (if place == end then 1 else 0)) (part : bytes ≡ drop (min skip (length entry)) entry)
    (spans : Spans end place was) (holds : Holds was (place + skip) bytes now) where
  pub stage_spans : Spans end (place + length entry) now
  stage_spans =
      let lens = held_len (place + skip) was now bytes (stage_inside end place skip was le is spans) holds in
      let a = lens.0 in
      let b = lens.1 in
      let gate = spans.gate in
      let len : length bytes + min skip (length entry) ≡ length entry = omega (arith, ap length part, length-drop (min skip (length entry)) entry) in
      record { gate = omega (arith, gate, a); inside = omega (arith, b, len) }

  pub stage_staged : (from mid map : Map) → IsEntry mid map entry → AreStaged end place from mid was → AreStaged end (place + length entry) from map now
  stage_staged from mid map entry_is staged = elim (stage_at end place skip le is) [
    | inl first ↦
        let at = first.0 in
        let one = first.1 in
        let cut : min skip (length entry) ≡ 1 = omega (arith, one, ap length entry_is.gate) in
        let whole : drop (min skip (length entry)) entry ≡ drop 1 entry = ap (λ n. drop n entry) cut in
        let to : place + skip ≡ end + 1 = omega (arith, at, one) in
        let written : Holds was (end + 1) (drop 1 entry) now =
        subst (λ n. Holds was n (drop 1 entry) now) to (subst (λ (b : List ℕ). Holds was (place + skip) b now) (part ∙ whole) holds) in
        subst (λ n. AreStaged end (n + length entry) from map now) (sym at)
        (staged_first end from mid map was now entry (subst (λ n. AreStaged end n from mid was) at staged) entry_is spans.gate written)
    | inr next ↦
        let none = next.1 in
        let cut : min skip (length entry) ≡ 0 = omega (arith, none) in
        let whole : drop (min skip (length entry)) entry ≡ entry = ap (λ n. drop n entry) cut in
        let to : place + skip ≡ place = omega (arith, none) in
        let written : Holds was place entry now = subst (λ n. Holds was n entry now) to (subst (λ (b : List ℕ). Holds was (place + skip) b now) (part ∙ whole) holds) in
        staged_next end place from mid map was now entry staged entry_is next.0 spans.inside written
  ]

-- what an Ok gives of what is told
pub told_ok : {T E G H K : Type 0} (r : Result T E) → (G → OnOk r H) → (G → H → K) → OnOk r (G → K)
told_ok (Ok x) written so = λ told. so told (written told)
told_ok (Err e) written so = tt

pub ok_told : {T E G H K : Type 0} (r : Result T E) → (G → OnOk r H) → (G → H → K) → G → OnOk r K
ok_told (Ok x) written so told = so told (written told)
ok_told (Err e) written so told = tt

-- ---- the moments

-- something was written there, and no more
pub behind_written : {W : Type 0} (m : Meaning W) (old new : W) (bank : Bank) (end to len : ℕ) → end < to → Throughout m old new (IsTornFrom m old bank to len) → StaysBehind m old new bank end
behind_written m old new bank end to len behind run = record {
  moments = λ map keeps. behind_moments m old new bank end to len map behind keeps run;
  keeps = λ map keeps. behind_keeps m old new bank end to len map behind keeps run;
}

pub behind_same : {W : Type 0} (m : Meaning W) (w : W) (bank : Bank) (end : ℕ) → IsNow m w → StaysBehind m w w bank end
behind_same m w bank end only = record {
  moments = λ map keeps. begins m w (StandsFor (m.around w) map) only (λ told banks image. record { same = refl; image = (keeps.each told banks image).image });
  keeps = λ map keeps. keeps;
}

pub behind_then : {W : Type 0} (m : Meaning W) (old mid new : W) (bank : Bank) (end : ℕ) → (m.tells mid → m.around mid ≡ m.around old) → StaysBehind m old mid bank end → StaysBehind m mid new bank end → StaysBehind m old new bank end
behind_then m old mid new bank end around first second = record {
  moments = λ map keeps.
      let run = second.moments map (first.keeps map keeps) in
      chains m old mid new (StandsFor (m.around old) map) (first.moments map keeps)
      (weakens m mid new (StandsFor (m.around mid) map) (StandsFor (m.around old) map) run
      (λ told a banks at. record { same = at.same ∙ around (run.told told); image = at.image }));
  keeps = λ map keeps. second.keeps map (first.keeps map keeps);
}

-- the gate behind them was closed and synced, and then the gate in front of them opened
pub publish_moments : {W : Type 0} (m : Meaning W) (old mid new : W) (bank : Bank) (end place : ℕ) (from map : Map) → end < place → IsStaging m old bank end place from map
    → Throughout m old mid (IsTornFrom m old bank place 1) → (m.tells mid → m.tells old) → (m.tells mid → IsSettled m mid bank) → (m.tells old → place ≤ length (m.seen old bank))
    → (m.tells mid → Holds (m.seen old bank) place (0 ∷ []) (m.seen mid bank)) → (m.tells mid → m.around mid ≡ m.around old)
    → Throughout m mid new (IsTornFrom m mid bank end 1) → Throughout m old new (IsEither (m.around old) from map)
publish_moments m old mid new bank end place from map behind staging first back settled inside holds around second =
    chains m old mid new (IsEither (m.around old) from map) (either_first m old mid (m.around old) from map (behind_moments m old mid bank end place 1 from behind staging.keeps first))
    (weakens m mid new (IsTornFrom m mid bank end 1) (IsEither (m.around old) from map) second
    (λ told a banks torn.
    let told_mid = second.told told in
    let told_old = back told_mid in
    let is : torn.was ≡ m.seen mid bank = settled told_mid torn.was torn.stood in
    let stands = (behind_keeps m old mid bank end place 1 from behind staging.keeps first).each told_mid (with_bank bank torn.was banks) (image_with m mid bank torn.was banks torn.others torn.stood) in
    let staged = staging.staged told_old in
    let there = ap (λ (x : List ℕ). 1 ∷ drop (end + 1) x) is ∙ front_stays end place from map (m.seen old bank) (m.seen mid bank) (0 ∷ []) staged behind (inside told_old) (holds told_mid) in
    record {
      same = torn.same ∙ around told_mid;
      map = torn_gate Two bank end from map torn.was staged.entries (drop (place + 1) (m.seen old bank)) banks stands there staged.leads torn.torn;
    }))

-- what stands behind it
pub publish_keeps : {W : Type 0} (m : Meaning W) (old mid new : W) (bank : Bank) (end place : ℕ) (from map : Map) → end < place → IsStaging m old bank end place from map
    → Throughout m old mid (IsTornFrom m old bank place 1) → (m.tells mid → m.tells old) → (m.tells new → m.tells mid) → (m.tells old → Spans end place (m.seen old bank)) → (m.tells mid → IsImage m mid (m.seen mid))
    → (m.tells mid → Holds (m.seen old bank) place (0 ∷ []) (m.seen mid bank))
    → (m.tells new → IsSettled m new bank) → (m.tells new → Holds (m.seen mid bank) end (1 ∷ []) (m.seen new bank)) → (m.tells new → (other : Bank) → other ≢ bank → BankKept m other mid new)
    → KeepsAt m new bank place map
publish_keeps m old mid new bank end place from map behind staging first back_old back spans reads holds settled gate others = record {
  each = λ told banks image.
      let told_mid = back told in
      let told_old = back_old told_mid in
      let was = m.seen mid bank in
      let span = spans told_old in
      let is : banks bank ≡ m.seen new bank = settled told (banks bank) (image bank) in
      let stands = (behind_keeps m old mid bank end place 1 from behind staging.keeps first).each told_mid (with_bank bank was banks) (image_with m mid bank was banks (λ other not. (others told other not).no_more (banks other) (image other)) (reads told_mid bank)) in
      let staged = staging.staged told_old in
      let there = front_stays end place from map (m.seen old bank) was (0 ∷ []) staged behind span.inside (holds told_mid) in
      let long = (held_len place (m.seen old bank) was (0 ∷ []) span.inside (holds told_mid)).0 in
      let open_gate = held_gate end was (m.seen new bank) (let g = span.gate in omega (arith, g, long)) (gate told) in
      let now = gate_opened Two bank end from map was staged.entries (drop (place + 1) (m.seen old bank)) banks stands there staged.leads
      (ap (take end) is ∙ open_gate.front) (ap (drop (end + 1)) is ∙ open_gate.behind) (subst (λ (x : List ℕ). end < length x) (sym is) open_gate.inside) (ap (λ (x : List ℕ). slice_index x end) is ∙ open_gate.gate) in
      subst (λ (n : ℕ). StandsAt Two bank n map banks) (sym staged.upto) now;
}

-- where nothing was written, a sync alone
pub sync_either : {W : Type 0} (m : Meaning W) (old new : W) (bank : Bank) (end : ℕ) (from map : Map) → IsStaging m old bank end end from map → Throughout m old new (AtEither m old new)
    → (m.tells new → m.around new ≡ m.around old) → (m.tells new → BanksKept m old new) → Throughout m old new (IsEither (m.around old) from map)
sync_either m old new bank end from map staging time around kept = disk_call m old new (IsEither (m.around old) from map) time
    (λ told banks image. record { same = around told; map = inl (staging.keeps.each (time.told told) banks image).image })
    (λ told banks image. record { same = around told; map = inl (staging.keeps.each (time.told told) banks (λ b. (kept told b).no_more (banks b) (image b))).image })

pub sync_keeps : {W : Type 0} (m : Meaning W) (old new : W) (bank : Bank) (end : ℕ) (from map : Map) → (m.tells new → m.tells old) → (m.tells new → BanksKept m old new) → IsStaging m old bank end end from map → KeepsAt m new bank end map
sync_keeps m old new bank end from map back kept staging = record {
  each = λ told banks image.
      let before = back told in
      subst (λ (x : Map). StandsAt Two bank end x banks) (staged_nowhere end from map (m.seen old bank) (staging.staged before))
      (staging.keeps.each before banks (λ b. (kept told b).no_more (banks b) (image b)));
}

-- a run behind the gate, and then the gate: the whole
pub group_moments : {W : Type 0} (m : Meaning W) (old mid new : W) (bank : Bank) (end : ℕ) (from map : Map) → (m.tells mid → m.around mid ≡ m.around old) → KeepsAt m old bank end from → StaysBehind m old mid bank end
    → Throughout m mid new (IsEither (m.around mid) from map) → Throughout m old new (IsEither (m.around old) from map)
group_moments m old mid new bank end from map around keeps first second =
    chains m old mid new (IsEither (m.around old) from map) (either_first m old mid (m.around old) from map (first.moments from keeps))
    (weakens m mid new (IsEither (m.around mid) from map) (IsEither (m.around old) from map) second
    (λ told a banks at. record { same = at.same ∙ around (second.told told); map = at.map }))

-- the same where the bank is told by an equation
pub group_written : {W : Type 0} (m : Meaning W) (old mid new : W) (bank as_bank : Bank) (end place : ℕ) (from map : Map) → as_bank ≡ bank → (m.tells mid → m.around mid ≡ m.around old) → KeepsAt m old bank end from → StaysBehind m old mid bank end
    → AreStagedIn m mid as_bank end place from map → PublishesThroughout m mid new as_bank end place → Throughout m old new (IsEither (m.around old) from map)
group_written m old mid new bank as_bank end place from map same around keeps first staged publishes =
    group_moments m old mid new bank end from map around keeps first
    (publishes from map (record { keeps = subst (λ (b : Bank). KeepsAt m mid b end from) (sym same) (first.keeps from keeps); staged = staged }))

pub group_kept : {W T E : Type 0} (m : Meaning W) (old mid new : W) (bank as_bank : Bank) (end place : ℕ) (from map : Map) (result : Result T E) → as_bank ≡ bank → KeepsAt m old bank end from → StaysBehind m old mid bank end
    → AreStagedIn m mid as_bank end place from map → Publishes m mid new as_bank end place result → OnOk result (KeepsAt m new as_bank place map)
group_kept m old mid new bank as_bank end place from map result same keeps first staged publishes =
    publishes from map (record { keeps = subst (λ (b : Bank). KeepsAt m mid b end from) (sym same) (first.keeps from keeps); staged = staged })

pub behind_as : {W : Type 0} (m : Meaning W) (old new : W) (bank as_bank : Bank) (end : ℕ) → as_bank ≡ bank → StaysBehind m old new as_bank end → StaysBehind m old new bank end
behind_as m old new bank as_bank end same stays = subst (λ (b : Bank). StaysBehind m old new b end) same stays

pub staged_at : (start end : ℕ) (map : Map) (bank : List ℕ) → start ≡ end → AreStaged start end map map bank
staged_at start end map bank same = subst (λ n. AreStaged start n map map bank) same (staged_none start map bank)
