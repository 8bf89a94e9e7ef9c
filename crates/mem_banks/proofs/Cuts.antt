-- An outcome step by step, from the newest change back.
use Rattle.std.proofs.Common.{◌≡◌, ◌∙◌, sym, refl, ap, subst, inl, inr, arith, ℕ, true, false, List, [], ◌∷◌, ◌+◌, ◌-◌, ◌<◌, ◌≤◌, length, take, reverse, get_or, Result, Ok, Err, OnOk}
use Rattle.std.proofs.lemmas.List.{reverse-append, take_more, take-take, length-take-le}
use Rattle.std.proofs.lemmas.Bool.{cases_Bool}
use Rattle.world_api.specs.declared.disk.Bank.{Bank}
use Rattle.world_api.specs.declared.disk.Bank.TheVariants.{A, B}
use Rattle.world_api.specs.Banks.{Torn}
use Rattle.mem_banks.specs.declared.change.Change.{Change}
use Rattle.mem_banks.specs.declared.change.Change.TheVariants.{Wrote, Synced}
use Rattle.mem_banks.specs.declared.change.Write.{Write}
use Rattle.mem_banks.specs.Past.{bytes_in, same_bank, choice, restored, without_last, IsLeft, IsWhole, IsAt, Stands}
use Rattle.mem_banks.proofs.Images.{either_true, either_false, either_by, chosen, other_chosen, only_one}
use Rattle.mem_banks.proofs.Splices.{torn_same}

-- what is whole is so of each bank
pub at_of : (changes : List Change) (a b saved : List ℕ) (bank : Bank) → IsWhole changes a b saved
    → IsAt bank changes (bytes_in (record { a = a; b = b; changes = changes; saved = saved }) bank) saved
at_of [] a b saved A whole = whole.0
at_of [] a b saved B whole = whole.1
at_of (Synced other ∷ older) a b saved A whole = at_of older a b saved A whole
at_of (Synced other ∷ older) a b saved B whole = at_of older a b saved B whole
at_of (Wrote w ∷ older) a b saved A whole =
    let rest = at_of older (choice (same_bank w.bank A) (restored w a saved) a) (choice (same_bank w.bank B) (restored w b saved) b) (without_last w.kept saved) A whole.1 in
    let P : List ℕ → Type 0 = λ bytes. IsAt A older bytes (without_last w.kept saved) in (
      whole.0.kept,
      either_by (same_bank w.bank A) _ _
          (λ is. (subst (λ bytes. Stands w bytes saved) (chosen (same_bank w.bank A) a b is) whole.0, subst P (chosen (same_bank w.bank A) (restored w a saved) a is) rest))
          (λ is. subst P (other_chosen (same_bank w.bank A) (restored w a saved) a is) rest),
    )
at_of (Wrote w ∷ older) a b saved B whole =
    let rest = at_of older (choice (same_bank w.bank A) (restored w a saved) a) (choice (same_bank w.bank B) (restored w b saved) b) (without_last w.kept saved) B whole.1 in
    let P : List ℕ → Type 0 = λ bytes. IsAt B older bytes (without_last w.kept saved) in (
      whole.0.kept,
      either_by (same_bank w.bank B) _ _
          (λ is. (subst (λ bytes. Stands w bytes saved) (other_chosen (same_bank w.bank A) a b (only_one w.bank is)) whole.0, subst P (chosen (same_bank w.bank B) (restored w b saved) b is) rest))
          (λ is. subst P (other_chosen (same_bank w.bank B) (restored w b saved) b is) rest),
    )

-- what stands may be left
pub left_at : (bank : Bank) (changes : List Change) (bytes saved : List ℕ) → IsAt bank changes bytes saved → IsLeft bank changes bytes saved bytes
left_at bank [] bytes saved at = refl
left_at bank (Synced other ∷ older) bytes saved at = either_by (same_bank other bank) _ _ (λ is. refl) (λ is. left_at bank older bytes saved at)
left_at bank (Wrote w ∷ older) bytes saved at = either_by (same_bank w.bank bank) _ _
    (λ is. let here = either_true (same_bank w.bank bank) _ _ is at.1 in
    (restored w bytes saved, left_at bank older (restored w bytes saved) (without_last w.kept saved) here.1, here.0.torn))
    (λ is. left_at bank older bytes (without_last w.kept saved) (either_false (same_bank w.bank bank) _ _ is at.1))

-- a write that is lost
pub lost : (bank : Bank) (w : Write) (older : List Change) (bytes saved c : List ℕ) → same_bank w.bank bank ≡ true
    → IsLeft bank older (restored w bytes saved) (without_last w.kept saved) c → IsLeft bank (Wrote w ∷ older) bytes saved c
lost bank w older bytes saved c is left = either_by (same_bank w.bank bank) _ _
    (λ y. (c, left, torn_same w.place w.count c)) (λ n. absurd (let e : true ≡ false = sym is ∙ n in cc e))

-- a write that is cut short
pub cut_short : (bank : Bank) (w : Write) (older : List Change) (bytes saved c : List ℕ) → same_bank w.bank bank ≡ true
    → IsAt bank (Wrote w ∷ older) bytes saved → Torn w.place w.count (restored w bytes saved) c → IsLeft bank (Wrote w ∷ older) bytes saved c
cut_short bank w older bytes saved c is at torn = either_by (same_bank w.bank bank) _ _
    (λ y. let here = either_true (same_bank w.bank bank) _ _ is at.1 in
    (restored w bytes saved, left_at bank older (restored w bytes saved) (without_last w.kept saved) here.1, torn))
    (λ n. absurd (let e : true ≡ false = sym is ∙ n in cc e))

-- the write of this bank stands
pub stands_here : (bank : Bank) (w : Write) (older : List Change) (bytes saved : List ℕ) → same_bank w.bank bank ≡ true
    → IsAt bank (Wrote w ∷ older) bytes saved → Stands w bytes saved
stands_here bank w older bytes saved is at = (either_true (same_bank w.bank bank) _ _ is at.1).0

-- a change of the other bank
pub passed_write : (bank : Bank) (w : Write) (older : List Change) (bytes saved c : List ℕ) → same_bank w.bank bank ≡ false
    → IsLeft bank older bytes (without_last w.kept saved) c → IsLeft bank (Wrote w ∷ older) bytes saved c
passed_write bank w older bytes saved c is left = either_by (same_bank w.bank bank) _ _
    (λ y. absurd (let e : true ≡ false = sym y ∙ is in cc e)) (λ n. left)

pub passed_sync : (bank other : Bank) (older : List Change) (bytes saved c : List ℕ) → same_bank other bank ≡ false
    → IsLeft bank older bytes saved c → IsLeft bank (Synced other ∷ older) bytes saved c
passed_sync bank other older bytes saved c is left = either_by (same_bank other bank) _ _
    (λ y. absurd (let e : true ≡ false = sym y ∙ is in cc e)) (λ n. left)

-- the changes up to one more, newest first
pub one_more : (changes : List Change) (k : ℕ) (d : Change) → k < length changes → reverse (take (k + 1) changes) ≡ get_or changes k d ∷ reverse (take k changes)
one_more changes k d lt = ap reverse (take_more changes k d lt) ∙ reverse-append (take k changes) (get_or changes k d ∷ [])

-- what was saved before so many bytes more
pub shorter : (saved : List ℕ) (end kept : ℕ) → end ≤ length saved → without_last kept (take end saved) ≡ take (end - kept) saved
shorter saved end kept within =
    ap (λ n. take (n - kept) (take end saved)) (length-take-le end saved within) ∙ take-take (end - kept) end saved (omega arith)

pub on_ok : {T E : Type 0} (r : Result T E) (P Q : Type 0) → (P → Q) → OnOk r P → OnOk r Q
on_ok (Ok x) P Q f p = f p
on_ok (Err e) P Q f p = tt

-- what stands in a bank has room in it
pub at_small : (bank : Bank) (changes : List Change) (bytes saved : List ℕ) → IsAt bank changes bytes saved → length bytes ≤ 4194304
at_small bank [] bytes saved at = at
at_small bank (Synced other ∷ older) bytes saved at = at_small bank older bytes saved at
at_small bank (Wrote w ∷ older) bytes saved at = elim (cases_Bool (same_bank w.bank bank)) [
  | inl y ↦
      let here = either_true (same_bank w.bank bank) _ _ y at.1 in
      let before = at_small bank older (restored w bytes saved) (without_last w.kept saved) here.1 in
      let longer = here.0.torn.no_longer in
      let room = here.0.room in
      omega (arith, before, longer, room)
  | inr n ↦ at_small bank older bytes (without_last w.kept saved) (either_false (same_bank w.bank bank) _ _ n at.1)
]

-- and so has whatever a stop leaves of it
pub left_small : (bank : Bank) (changes : List Change) (bytes saved c : List ℕ) → IsAt bank changes bytes saved
    → IsLeft bank changes bytes saved c → length c ≤ 4194304
left_small bank [] bytes saved c at left = subst (λ x. length x ≤ 4194304) (sym left) at
left_small bank (Synced other ∷ older) bytes saved c at left = elim (cases_Bool (same_bank other bank)) [
  | inl y ↦ subst (λ x. length x ≤ 4194304) (sym (either_true (same_bank other bank) _ _ y left)) (at_small bank older bytes saved at)
  | inr n ↦ left_small bank older bytes saved c at (either_false (same_bank other bank) _ _ n left)
]
left_small bank (Wrote w ∷ older) bytes saved c at left = elim (cases_Bool (same_bank w.bank bank)) [
  | inl y ↦
      let here = either_true (same_bank w.bank bank) _ _ y at.1 in
      let cut = either_true (same_bank w.bank bank) _ _ y left in
      let before = left_small bank older (restored w bytes saved) (without_last w.kept saved) cut.0 here.1 cut.1 in
      let longer = cut.2.no_longer in
      let room = here.0.room in
      omega (arith, before, longer, room)
  | inr n ↦ left_small bank older bytes (without_last w.kept saved) c (either_false (same_bank w.bank bank) _ _ n at.1) (either_false (same_bank w.bank bank) _ _ n left)
]
