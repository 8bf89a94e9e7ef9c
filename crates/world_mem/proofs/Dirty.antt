-- A bank that was written since its last sync may be left otherwise than it reads.
use Rattle.std.proofs.Common.{◌≡◌, ◌≢◌, ◌∙◌, sym, refl, ap, subst, inl, inr, arith, ℕ, zero, suc, true, false, List, [], ◌∷◌, ◌++◌, ◌+◌, ◌<◌, ◌≤◌, length, take, get_or, cond, append_assoc, Contains}
use Rattle.std.proofs.lemmas.Bool.{cases_Bool}
use Rattle.std.proofs.Math.Seq.{get_or-append_seam}
use Rattle.std.proofs.lemmas.List.{length-take-le}
use Rattle.world_api.specs.Banks.{Torn}
use Rattle.world_api.specs.declared.disk.Bank.{Bank}
use Rattle.mem_banks.specs.AsStore.{store_of}
use Rattle.mem_banks.specs.Past.{Store, IsImage, write_of, wrote, synced, bytes_in, same_bank, is_dirty, restored, spliced, without_last, IsLeft, IsAt}
use Rattle.mem_banks.specs.declared.banks.MemBanks.{MemBanks}
use Rattle.mem_banks.specs.declared.change.Change.{Change}
use Rattle.mem_banks.specs.declared.change.Change.TheVariants.{Wrote, Synced}
use Rattle.mem_banks.specs.declared.change.Write.{Write}
use Rattle.mem_banks.proofs.Cuts.{at_of, cut_short, passed_write, passed_sync, stands_here}
use Rattle.mem_banks.proofs.Images.{either_false}
use Rattle.mem_banks.proofs.Splices.{splice_torn}

-- what is torn twice in one range is torn in it
torn_again : (place count : ℕ) (x y z : List ℕ) → Torn place count x y → Torn place count y z → Torn place count x z
torn_again place count x y z one two = record {
  before = two.before ∙ one.before;
  after = two.after ∙ one.after;
  no_shorter = let a = one.no_shorter in let b = two.no_shorter in omega (arith, a, b);
  no_longer = let a = one.no_longer in let b = two.no_longer in omega (arith, a, b);
}

-- another byte at a place
abbrev another : ℕ → List ℕ → List ℕ
another place bytes = spliced place (suc (get_or bytes place 0) ∷ []) bytes

stands_at : (place x : ℕ) (bytes rest : List ℕ) → place ≤ length bytes → get_or ((take place bytes ++ x ∷ []) ++ rest) place 0 ≡ x
stands_at place x bytes rest within =
    ap (λ l. get_or l place 0) (append_assoc (take place bytes) (x ∷ []) rest)
    ∙ ap (λ n. get_or (take place bytes ++ x ∷ rest) n 0) (sym (length-take-le place bytes within))
    ∙ get_or-append_seam (take place bytes) x rest 0

is_other : (place : ℕ) (bytes : List ℕ) → place ≤ length bytes → another place bytes ≢ bytes
is_other place bytes within same =
    let at = sym (stands_at place (suc (get_or bytes place 0)) bytes _ within) ∙ ap (λ l. get_or l place 0) same in omega (arith, at)

-- each write of these counts a byte at least
abbrev pub EachCounts : List Change → Type 0
EachCounts changes = (write : Write) → Contains changes (Wrote write) → 0 < write.count

older_count : (change : Change) (older : List Change) → EachCounts (change ∷ older) → EachCounts older
older_count change older each write at = each write (suc at.0, omega (arith, at.1), at.2)

counts_more : (w : Write) (older : List Change) → 0 < w.count → EachCounts older → EachCounts (Wrote w ∷ older)
counts_more w older some each write (zero, lt, at) = let same : w ≡ write = cc at in subst (λ (x : Write). 0 < x.count) same some
counts_more w older some each write (suc k, lt, at) = each write (k, omega (arith, lt), at)

counts_still : (bank : Bank) (older : List Change) → EachCounts older → EachCounts (Synced bank ∷ older)
counts_still bank older each write (zero, lt, at) = absurd (cc at)
counts_still bank older each write (suc k, lt, at) = each write (k, omega (arith, lt), at)

pub counts_none : (changes : List Change) → changes ≡ [] → EachCounts changes
counts_none changes none write at = absurd (let lt : at.0 < 0 = subst (λ (l : List Change). at.0 < length l) none at.1 in omega (arith, lt))

pub counts_wrote : (s new : Store) (bank : Bank) (place count : ℕ) (xs : List ℕ) → new ≡ wrote bank place xs count s → 0 < count → EachCounts s.changes → EachCounts new.changes
counts_wrote s new bank place count xs is some each =
    subst (λ (t : Store). EachCounts t.changes) (sym is) (counts_more (write_of bank place xs count (bytes_in s bank)) s.changes some each)

pub counts_synced : (s new : Store) (bank : Bank) → new ≡ synced bank s → EachCounts s.changes → EachCounts new.changes
counts_synced s new bank is each = subst (λ (t : Store). EachCounts t.changes) (sym is) (counts_still bank s.changes each)

-- some stop leaves another bank than it reads
abbrev Moves : Bank → List Change → List ℕ → List ℕ → Type 0
Moves bank changes bytes saved = (outcome : List ℕ) × IsLeft bank changes bytes saved outcome × (outcome ≢ bytes)

moves : (bank : Bank) (changes : List Change) (bytes saved : List ℕ) → IsAt bank changes bytes saved → EachCounts changes → is_dirty bank changes ≡ true
    → Moves bank changes bytes saved
moves bank [] bytes saved at each dirty = absurd (let e : false ≡ true = dirty in cc e)
moves bank (Synced other ∷ older) bytes saved at each dirty = elim (cases_Bool (same_bank other bank)) [
  | inl y ↦ absurd (let e : false ≡ true = sym (ap (λ t. cond t false (is_dirty bank older)) y) ∙ dirty in cc e)
  | inr n ↦
      let rest = moves bank older bytes saved at (older_count (Synced other) older each) (sym (ap (λ t. cond t false (is_dirty bank older)) n) ∙ dirty) in
      (rest.0, passed_sync bank other older bytes saved rest.0 n rest.1, rest.2)
]
moves bank (Wrote w ∷ older) bytes saved at each dirty = elim (cases_Bool (same_bank w.bank bank)) [
  | inl y ↦
      let stands = stands_here bank w older bytes saved y at in
      let counts : 0 < w.count = each w (0, omega arith, refl) in
      let within : w.place ≤ length bytes = let a = stands.size in let b = stands.within in omega (arith, a, b) in
      let torn = torn_again w.place w.count (restored w bytes saved) bytes (another w.place bytes) stands.torn (splice_torn bytes (suc (get_or bytes w.place 0) ∷ []) w.place within w.count (omega (arith, counts))) in
      (another w.place bytes, cut_short bank w older bytes saved (another w.place bytes) y at torn, is_other w.place bytes within)
  | inr n ↦
      let rest = moves bank older bytes (without_last w.kept saved) (either_false (same_bank w.bank bank) _ _ n at.1) (older_count (Wrote w) older each) (sym (ap (λ t. cond t true (is_dirty bank older)) n) ∙ dirty) in
      (rest.0, passed_write bank w older bytes saved rest.0 n rest.1, rest.2)
]

pub dirty_moves : (banks : MemBanks) (bank : Bank) → ((write : Write) → Contains (store_of banks).changes (Wrote write) → 0 < write.count)
    → is_dirty bank (store_of banks).changes ≡ true → ((outcome : List ℕ) → IsImage (store_of banks) bank outcome → outcome ≡ bytes_in (store_of banks) bank) → ⊥
dirty_moves banks bank each dirty only =
    let s = store_of banks in
    let moved = moves bank s.changes (bytes_in s bank) s.saved (at_of s.changes s.a s.b s.saved bank banks.whole) each dirty in
    moved.2 (only moved.0 moved.1)
