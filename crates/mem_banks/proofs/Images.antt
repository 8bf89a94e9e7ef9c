-- What a stop may leave, over what it could leave before.
use Rattle.std.proofs.Common.{◌≡◌, ◌≢◌, ◌∙◌, sym, refl, ap, subst, inl, inr, ℕ, Bool, true, false, List, [], ◌∷◌, ◌++◌, ◌≤◌, length, drop, length-append, length-drop, arith, cond, ◌+◌}
use Rattle.std.proofs.lemmas.Bool.{cases_Bool}
use Rattle.std.proofs.lemmas.List.{length-take}
use Rattle.world_api.specs.declared.disk.Bank.{Bank}
use Rattle.world_api.specs.declared.disk.Bank.TheVariants.{A, B}
use Rattle.world_api.specs.Banks.{Torn}
use Rattle.mem_banks.specs.declared.change.Change.{Change}
use Rattle.mem_banks.specs.declared.change.Change.TheVariants.{Wrote, Synced}
use Rattle.mem_banks.specs.declared.change.Write.{Write}
use Rattle.mem_banks.specs.Past.{Store, bytes_in, same_bank, choice, Either, restored, without_last, overwritten, spliced, write_of, wrote, synced, back, IsLeft, IsImage, IsWhole, Stands, is_dirty}
use Rattle.mem_banks.proofs.Splices.{undone, without_last_append, splice_torn}

pub either_true : (b : Bool) (P Q : Type 0) → b ≡ true → Either b P Q → P
either_true true P Q is h = h
either_true false P Q is h = absurd (cc is)

pub either_false : (b : Bool) (P Q : Type 0) → b ≡ false → Either b P Q → Q
either_false true P Q is h = absurd (cc is)
either_false false P Q is h = h

pub either_by : (b : Bool) (P Q : Type 0) → (b ≡ true → P) → (b ≡ false → Q) → Either b P Q
either_by true P Q yes' no' = yes' refl
either_by false P Q yes' no' = no' refl

pub same_self : (b : Bank) → same_bank b b ≡ true
same_self A = refl
same_self B = refl

pub not_same : (b other : Bank) → other ≢ b → same_bank b other ≡ false
not_same A A apart = absurd (apart refl)
not_same A B apart = refl
not_same B A apart = refl
not_same B B apart = absurd (apart refl)

pub only_one : (x : Bank) → same_bank x B ≡ true → same_bank x A ≡ false
only_one A is = absurd (cc is)
only_one B is = refl

pub chosen : (b : Bool) (x y : List ℕ) → b ≡ true → choice b x y ≡ x
chosen b x y is = ap (λ t. choice t x y) is

pub other_chosen : (b : Bool) (x y : List ℕ) → b ≡ false → choice b x y ≡ y
other_chosen b x y is = ap (λ t. choice t x y) is

module _ (w : Write) (older : List Change) (a b saved : List ℕ) where
  abbrev pub now : Store
  now = record { a = a; b = b; changes = Wrote w ∷ older; saved = saved }

  pub back_here : (bank : Bank) → same_bank w.bank bank ≡ true → bytes_in (back now) bank ≡ restored w (bytes_in now bank) saved
  back_here A is = chosen (same_bank w.bank A) (restored w a saved) a is
  back_here B is = chosen (same_bank w.bank B) (restored w b saved) b is

  pub back_there : (bank : Bank) → same_bank w.bank bank ≡ false → bytes_in (back now) bank ≡ bytes_in now bank
  back_there A is = other_chosen (same_bank w.bank A) (restored w a saved) a is
  back_there B is = other_chosen (same_bank w.bank B) (restored w b saved) b is

  pub image_here : (bank : Bank) (c : List ℕ) → same_bank w.bank bank ≡ true → IsImage now bank c
      → (before : List ℕ) × IsImage (back now) bank before × Torn w.place w.count before c
  image_here bank c is left = let h = either_true (same_bank w.bank bank) _ _ is left in
      (h.0, subst (λ bytes. IsLeft bank older bytes (without_last w.kept saved) h.0) (sym (back_here bank is)) h.1, h.2)

  pub image_there : (bank : Bank) (c : List ℕ) → same_bank w.bank bank ≡ false → IsImage now bank c → IsImage (back now) bank c
  image_there bank c is left =
      subst (λ bytes. IsLeft bank older bytes (without_last w.kept saved) c) (sym (back_there bank is)) (either_false (same_bank w.bank bank) _ _ is left)

  stands_at : (bank : Bank) → same_bank w.bank bank ≡ true → choice (same_bank w.bank A) a b ≡ bytes_in now bank
  stands_at A is = chosen (same_bank w.bank A) a b is
  stands_at B is = other_chosen (same_bank w.bank A) a b (only_one w.bank is)

-- a stop may leave the bytes as they read
pub reads : (changes : List Change) (a b saved : List ℕ) (bank : Bank) → IsWhole changes a b saved
    → IsLeft bank changes (bytes_in (record { a = a; b = b; changes = changes; saved = saved }) bank) saved (bytes_in (record { a = a; b = b; changes = changes; saved = saved }) bank)
reads [] a b saved bank whole = refl
reads (Synced other ∷ older) a b saved A whole = either_by (same_bank other A) _ _ (λ is. refl) (λ is. reads older a b saved A whole)
reads (Synced other ∷ older) a b saved B whole = either_by (same_bank other B) _ _ (λ is. refl) (λ is. reads older a b saved B whole)
reads (Wrote w ∷ older) a b saved bank whole =
    let was = reads older (choice (same_bank w.bank A) (restored w a saved) a) (choice (same_bank w.bank B) (restored w b saved) b) (without_last w.kept saved) bank whole.1 in
    let P : List ℕ → Type 0 = λ bytes. IsLeft bank older bytes (without_last w.kept saved) bytes in
    either_by (same_bank w.bank bank) _ _
    (λ is. (
      restored w (bytes_in (now w older a b saved) bank) saved,
      subst P (back_here w older a b saved bank is) was,
      subst (λ bytes. Torn w.place w.count (restored w bytes saved) bytes) (stands_at w older a b saved bank is) whole.0.torn,
    ))
    (λ is. subst P (back_there w older a b saved bank is) was)

pub reads_store : (s : Store) (bank : Bank) → IsWhole s.changes s.a s.b s.saved → IsImage s bank (bytes_in s bank)
reads_store s bank whole = reads s.changes s.a s.b s.saved bank whole

-- what was not written since its last sync is left as it reads
pub clean : (bank : Bank) (changes : List Change) (bytes saved c : List ℕ) → is_dirty bank changes ≡ false → IsLeft bank changes bytes saved c → c ≡ bytes
clean bank [] bytes saved c is left = left
clean bank (Synced other ∷ older) bytes saved c is left = elim (cases_Bool (same_bank other bank)) [
  | inl y ↦ either_true (same_bank other bank) _ _ y left
  | inr n ↦ clean bank older bytes saved c (sym (ap (λ t. cond t false (is_dirty bank older)) n) ∙ is) (either_false (same_bank other bank) _ _ n left)
]
clean bank (Wrote w ∷ older) bytes saved c is left = elim (cases_Bool (same_bank w.bank bank)) [
  | inl y ↦ absurd (let e : true ≡ false = sym (ap (λ t. cond t true (is_dirty bank older)) y) ∙ is in cc e)
  | inr n ↦ clean bank older bytes (without_last w.kept saved) c (sym (ap (λ t. cond t true (is_dirty bank older)) n) ∙ is) (either_false (same_bank w.bank bank) _ _ n left)
]

-- a write, taken back
pub back_wrote : (bank : Bank) (place : ℕ) (xs : List ℕ) (count : ℕ) (s : Store) → place ≤ length (bytes_in s bank) → back (wrote bank place xs count s) ≡ s
back_wrote A place xs count s within = λ i. record {
  a = undone s.a xs place within s.saved i;
  b = s.b;
  changes = s.changes;
  saved = without_last_append s.saved (overwritten place xs s.a) i;
}
back_wrote B place xs count s within = λ i. record {
  a = s.a;
  b = undone s.b xs place within s.saved i;
  changes = s.changes;
  saved = without_last_append s.saved (overwritten place xs s.b) i;
}

pub image_wrote : (bank : Bank) (place : ℕ) (xs : List ℕ) (count : ℕ) (s : Store) (c : List ℕ) → place ≤ length (bytes_in s bank)
    → IsImage (wrote bank place xs count s) bank c → (before : List ℕ) × IsImage s bank before × Torn place count before c
image_wrote bank place xs count s c within left =
    let w = write_of bank place xs count (bytes_in s bank) in let new = wrote bank place xs count s in
    let h = image_here w s.changes new.a new.b new.saved bank c (same_self bank) left in
    (h.0, subst (λ t. IsImage t bank h.0) (back_wrote bank place xs count s within) h.1, h.2)

pub image_other : (bank : Bank) (place : ℕ) (xs : List ℕ) (count : ℕ) (s : Store) (other : Bank) (c : List ℕ) → place ≤ length (bytes_in s bank) → other ≢ bank
    → IsImage (wrote bank place xs count s) other c → IsImage s other c
image_other bank place xs count s other c within apart left =
    let w = write_of bank place xs count (bytes_in s bank) in let new = wrote bank place xs count s in
    subst (λ t. IsImage t other c) (back_wrote bank place xs count s within)
    (image_there w s.changes new.a new.b new.saved other c (not_same bank other apart) left)

pub wrote_here : (bank : Bank) (place : ℕ) (xs : List ℕ) (count : ℕ) (s : Store) → bytes_in (wrote bank place xs count s) bank ≡ spliced place xs (bytes_in s bank)
wrote_here A place xs count s = refl
wrote_here B place xs count s = refl

pub wrote_other : (bank : Bank) (place : ℕ) (xs : List ℕ) (count : ℕ) (s : Store) (other : Bank) → other ≢ bank → bytes_in (wrote bank place xs count s) other ≡ bytes_in s other
wrote_other A place xs count s A apart = absurd (apart refl)
wrote_other A place xs count s B apart = refl
wrote_other B place xs count s A apart = refl
wrote_other B place xs count s B apart = absurd (apart refl)

-- a synced bank is left as it reads, and the other as before
pub image_synced : (bank : Bank) (s : Store) (c : List ℕ) → IsImage (synced bank s) bank c → c ≡ bytes_in s bank
image_synced A s c left = left
image_synced B s c left = left

pub images_synced : (bank : Bank) (s : Store) (other : Bank) (c : List ℕ) → IsWhole s.changes s.a s.b s.saved → IsImage (synced bank s) other c → IsImage s other c
images_synced A s A c whole left = subst (λ x. IsImage s A x) (sym left) (reads_store s A whole)
images_synced A s B c whole left = left
images_synced B s A c whole left = left
images_synced B s B c whole left = subst (λ x. IsImage s B x) (sym left) (reads_store s B whole)

pub synced_bytes : (bank : Bank) (s : Store) (other : Bank) → bytes_in (synced bank s) other ≡ bytes_in s other
synced_bytes bank s A = refl
synced_bytes bank s B = refl

stands : (bank : Bank) (place : ℕ) (xs : List ℕ) (count : ℕ) (s : Store) → place ≤ length (bytes_in s bank) → length xs ≤ count → place + count ≤ 4194304
    → Stands (write_of bank place xs count (bytes_in s bank)) (spliced place xs (bytes_in s bank)) (s.saved ++ overwritten place xs (bytes_in s bank))
stands bank place xs count s within small room =
    let old = bytes_in s bank in let over = overwritten place xs old in
    let torn = splice_torn old xs place within count small in
    let a = length-append s.saved over in let b = length-take (length xs) (drop place old) in let d = length-drop place old in
    let more = torn.no_shorter in record {
      kept = omega (arith, a);
      count = omega (arith, b, small);
      room = room;
      size = omega (arith, b, d, within);
      within = more;
      torn = subst (λ bytes. Torn place count bytes (spliced place xs old)) (sym (undone old xs place within s.saved)) torn;
    }

-- a write keeps the record whole
pub wrote_whole : (bank : Bank) (place : ℕ) (xs : List ℕ) (count : ℕ) (s : Store) → place ≤ length (bytes_in s bank) → length xs ≤ count → place + count ≤ 4194304
    → IsWhole s.changes s.a s.b s.saved → let new = wrote bank place xs count s in IsWhole new.changes new.a new.b new.saved
wrote_whole A place xs count s within small room whole = let P : Store → Type 0 = λ t. IsWhole t.changes t.a t.b t.saved in
    (stands A place xs count s within small room, subst P (sym (back_wrote A place xs count s within)) whole)
wrote_whole B place xs count s within small room whole = let P : Store → Type 0 = λ t. IsWhole t.changes t.a t.b t.saved in
    (stands B place xs count s within small room, subst P (sym (back_wrote B place xs count s within)) whole)
