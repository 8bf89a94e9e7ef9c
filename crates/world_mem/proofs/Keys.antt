-- A map whose keys are bytes, before and after a write at some bytes.
use Rattle.std.proofs.Common.{◌≡◌, ◌∙◌, sym, ℕ, List, Bool, true, false, cond, Option, subst, inl, inr}
use Rattle.std.specs.BTreeMap.{BTreeMap, UpdatesBy, get_by}
use Rattle.std.specs.Cmp.Lexicographic.{slice_cmp, bytes_decides, nat_list_cmp_total, nat_list_eq_equiv}
use Rattle.std.specs.Global.{Vec}
use Rattle.std.specs.Map.{lookup, KeepsOthers, IsKeyTest, AreApart}
use Rattle.std.specs.Ordering.{nat_cmp, is_eq}
use Rattle.std.specs.Str.{bytes_eq}
use Rattle.std.proofs.lemmas.Bool.{cases_Bool, cond-true, cond-false}
use Rattle.std.proofs.lemmas.Cmp.{eq_by_cmp_equiv}
use Rattle.std.proofs.lemmas.Map.Text.{is_eq-slice_cmp}

module _ {K : Type 0} (eq : K → K → Bool) (test : K → Bool) where
  other_entries : {X : Type 0} (old new : List (K × X)) → KeepsOthers eq test old new → (other : K → Bool) → IsKeyTest eq other → AreApart test other → lookup other new ≡ lookup other old
  unfolding KeepsOthers
  other_entries old new h = h

apart : (bs cs ks : List ℕ) → bytes_eq bs cs ≡ false → is_eq (slice_cmp nat_cmp bs ks) ≡ true → is_eq (slice_cmp nat_cmp cs ks) ≡ false
apart bs cs ks n y =
    let same : bytes_eq bs ks ≡ true = sym (is_eq-slice_cmp bs ks) ∙ y in
    is_eq-slice_cmp cs ks ∙ nat_list_eq_equiv.symm cs ks ∙ sym (nat_list_eq_equiv.congr bs ks cs same) ∙ n

-- after a write at the bytes bs, the value there is w, and at other bytes what it was
pub updated_at : {X : Type 0} (bs : List ℕ) (m n : BTreeMap (Vec ℕ) X) (w : Option X)
    → UpdatesBy (λ x y. slice_cmp nat_cmp x.items y.items) (λ k. slice_cmp nat_cmp bs k.items) m n w
    → (cs : List ℕ) → get_by (λ k. slice_cmp nat_cmp cs k.items) n ≡ cond (bytes_eq bs cs) w (get_by (λ k. slice_cmp nat_cmp cs k.items) m)
updated_at bs m n w h cs =
    let here : bytes_eq bs cs ≡ true → get_by (λ k. slice_cmp nat_cmp cs k.items) n ≡ cond (bytes_eq bs cs) w (get_by (λ k. slice_cmp nat_cmp cs k.items) m) =
    λ y. subst (λ l. get_by (λ k. slice_cmp nat_cmp l k.items) n ≡ w) ((bytes_decides bs cs).0 y) h.1 ∙ sym (cond-true (bytes_eq bs cs) w _ y) in
    let there : bytes_eq bs cs ≡ false → get_by (λ k. slice_cmp nat_cmp cs k.items) n ≡ cond (bytes_eq bs cs) w (get_by (λ k. slice_cmp nat_cmp cs k.items) m) =
    λ e. other_entries _ _ _ _ h.3 _ (λ x y. (eq_by_cmp_equiv nat_list_cmp_total).congr cs x.items y.items) (λ k. apart bs cs k.items e) ∙ sym (cond-false (bytes_eq bs cs) w _ e) in
    elim (cases_Bool (bytes_eq bs cs)) [ inl y ↦ here y | inr e ↦ there e ]
