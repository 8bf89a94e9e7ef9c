-- Each way of cutting a write comes by some pick.
use Rattle.std.proofs.Common.{◌≡◌, ◌≢◌, ◌∙◌, sym, refl, ap, inl, inr, arith, ℕ, zero, suc, Bool, true, false, List, [], ◌∷◌, ◌+◌, ◌*◌, ◌/◌, ◌^◌, ◌<◌, ◌≤◌}
use Rattle.std.proofs.lemmas.Bool.{cases_Bool}
use Rattle.std.proofs.lemmas.Nat.{mod-mul-add, div-mul-add}
use Rattle.world_api.specs.declared.disk.Bank.{Bank}
use Rattle.world_api.specs.declared.disk.Bank.TheVariants.{A, B}
use Rattle.mem_banks.specs.declared.change.Change.{Change}
use Rattle.mem_banks.specs.declared.change.Change.TheVariants.{Wrote, Synced}
use Rattle.mem_banks.specs.declared.change.Write.{Write}
use Rattle.mem_banks.specs.declared.outcome.Cut.{Cut}
use Rattle.mem_banks.specs.declared.outcome.Cut.TheVariants.{Stands, Lost, Half, Junk}
use Rattle.mem_banks.specs.Past.{Store, bytes_in, one_of, back, same_bank, choice, restored, spliced, without_last}
use Rattle.mem_banks.specs.Picks.{cut_at, cut_short, torn_part, left_by, left_as, left_of, ago, IsSince, EachCutHasPick}
use Rattle.mem_banks.proofs.Images.{chosen, other_chosen, back_here, back_there}

-- a write that is torn stands in part, over what was there before it
pub torn_over : (cut : Cut) (w : Write) (bytes saved : List ℕ) → cut ≢ Stands → cut ≢ Lost
    → cut_short cut w bytes saved ≡ spliced w.place (torn_part cut w bytes) (restored w bytes saved)
torn_over Stands w bytes saved stands lost = absurd (stands refl)
torn_over Lost w bytes saved stands lost = absurd (lost refl)
torn_over Half w bytes saved stands lost = refl
torn_over Junk w bytes saved stands lost = refl

module _ (cut : Cut) (bank : Bank) (w : Write) (older : List Change) (bytes saved : List ℕ) where
  passed : (lost : ℕ) → same_bank w.bank bank ≡ false
      → left_by cut lost bank (Wrote w ∷ older) bytes saved ≡ left_by cut lost bank older bytes (without_last w.kept saved)
  passed zero is = other_chosen (same_bank w.bank bank) (cut_short cut w bytes saved) (left_by cut zero bank older bytes (without_last w.kept saved)) is
  passed (suc lost) is = other_chosen (same_bank w.bank bank) (left_by cut lost bank older (restored w bytes saved) (without_last w.kept saved)) (left_by cut (suc lost) bank older bytes (without_last w.kept saved)) is

  lost_more : (lost : ℕ) → same_bank w.bank bank ≡ true
      → left_by cut (suc lost) bank (Wrote w ∷ older) bytes saved ≡ left_by cut lost bank older (restored w bytes saved) (without_last w.kept saved)
  lost_more lost is = chosen (same_bank w.bank bank) (left_by cut lost bank older (restored w bytes saved) (without_last w.kept saved)) (left_by cut (suc lost) bank older bytes (without_last w.kept saved)) is

  cut_here : same_bank w.bank bank ≡ true → left_by cut 0 bank (Wrote w ∷ older) bytes saved ≡ cut_short cut w bytes saved
  cut_here is = chosen (same_bank w.bank bank) (cut_short cut w bytes saved) (left_by cut 0 bank older bytes (without_last w.kept saved)) is

-- all stands where none is lost and the newest stands
whole : (bank : Bank) (changes : List Change) (bytes saved : List ℕ) → left_by Stands 0 bank changes bytes saved ≡ bytes
whole bank [] bytes saved = refl
whole bank (Synced other ∷ older) bytes saved = elim (cases_Bool (same_bank other bank)) [
  | inl y ↦ chosen (same_bank other bank) bytes (left_by Stands 0 bank older bytes saved) y
  | inr n ↦ other_chosen (same_bank other bank) bytes (left_by Stands 0 bank older bytes saved) n ∙ whole bank older bytes saved
]
whole bank (Wrote w ∷ older) bytes saved = elim (cases_Bool (same_bank w.bank bank)) [
  | inl y ↦ cut_here Stands bank w older bytes saved y
  | inr n ↦ passed Stands bank w older bytes saved 0 n ∙ whole bank older bytes (without_last w.kept saved)
]

since_none : (bank : Bank) (count : ℕ) → IsSince bank count []
since_none bank zero = tt
since_none bank (suc count) = tt

-- what is left of banks where so many writes are lost
abbrev left_in : Cut → Bank → ℕ → Store → List ℕ
left_in cut bank lost s = left_by cut lost bank s.changes (bytes_in s bank) s.saved

-- the writes of a bank since some moment, lost: as if it were that moment
abbrev Until : Cut → Bank → ℕ → Store → Type 0
Until cut bank count s = (writes : ℕ) × (writes ≤ count) × ((lost : ℕ) → left_in cut bank (writes + lost) s ≡ left_in cut bank lost (ago count s))

until : (cut : Cut) (bank : Bank) (count : ℕ) (changes : List Change) (a b saved : List ℕ) → IsSince bank count changes
    → Until cut bank count (record { a = a; b = b; changes = changes; saved = saved })
until cut bank zero changes a b saved since =
    (0, omega arith, λ lost. ap (λ n. left_by cut n bank changes (one_of bank a b) saved) (let e : 0 + lost ≡ lost = omega arith in e))
until cut bank (suc count) [] a b saved since =
    let rest = until cut bank count [] a b saved (since_none bank count) in (rest.0, omega (arith, rest.1), rest.2)
until cut bank (suc count) (Synced other ∷ older) a b saved since =
    let rest = until cut bank count older a b saved since.1 in
    let bytes = one_of bank a b in
    (rest.0, omega (arith, rest.1), λ lost. other_chosen (same_bank other bank) bytes (left_by cut (rest.0 + lost) bank older bytes saved) since.0 ∙ rest.2 lost)
until cut bank (suc count) (Wrote w ∷ older) a b saved since =
    let before = without_last w.kept saved in
    let rest = until cut bank count older (choice (same_bank w.bank A) (restored w a saved) a) (choice (same_bank w.bank B) (restored w b saved) b) before since.1 in
    let bytes = one_of bank a b in elim (cases_Bool (same_bank w.bank bank)) [
      | inl y ↦ (
        suc rest.0,
        omega (arith, rest.1),
        λ lost.
            ap (λ n. left_by cut n bank (Wrote w ∷ older) bytes saved) (let e : suc rest.0 + lost ≡ suc (rest.0 + lost) = omega arith in e)
            ∙ lost_more cut bank w older bytes saved (rest.0 + lost) y
            ∙ ap (λ c. left_by cut (rest.0 + lost) bank older c before) (sym (back_here w older a b saved bank y))
            ∙ rest.2 lost,
      )
      | inr n ↦ (
        rest.0,
        omega (arith, rest.1),
        λ lost.
            passed cut bank w older bytes saved (rest.0 + lost) n
            ∙ ap (λ c. left_by cut (rest.0 + lost) bank older c before) (sym (back_there w older a b saved bank n))
            ∙ rest.2 lost,
      )
    ]

-- the pick of this rest over 4, by which so many are lost
picked : (rest lost : ℕ) (store : Store) (bank : Bank) → rest < 4
    → left_of (lost * 4 + rest) store bank ≡ left_as (cut_at rest) lost bank store.changes (bytes_in store bank) store.saved
picked rest lost store bank small =
    ap (λ r. left_as (cut_at r) ((lost * 4 + rest) / 4) bank store.changes (bytes_in store bank) store.saved) (mod-mul-add lost 4 rest small)
    ∙ ap (λ q. left_as (cut_at rest) q bank store.changes (bytes_in store bank) store.saved) (div-mul-add lost 4 rest small)

module _ (store : Store) (bank : Bank) (count : ℕ) (w : Write) (older : List Change)
    (small : count + 1 < 2 ^ 30) (since : IsSince bank count store.changes) (at : (ago count store).changes ≡ Wrote w ∷ older) (same : same_bank w.bank bank ≡ true) where
  abbrev earlier : Store
  earlier = ago count store

  reached : (cut : Cut) → Until cut bank count store
  reached cut = until cut bank count store.changes store.a store.b store.saved since

  abbrev Comes : Cut → Type 0
  Comes cut = (pick : ℕ) × (pick < 2 ^ 32) × (left_of pick store bank ≡ cut_short cut w (bytes_in earlier bank) earlier.saved)

  cut_then : (cut : Cut) → left_in cut bank 0 earlier ≡ cut_short cut w (bytes_in earlier bank) earlier.saved
  cut_then cut = ap (λ changes. left_by cut 0 bank changes (bytes_in earlier bank) earlier.saved) at ∙ cut_here cut bank w older (bytes_in earlier bank) earlier.saved same

  lost_then : left_in Stands bank 1 earlier ≡ cut_short Lost w (bytes_in earlier bank) earlier.saved
  lost_then = ap (λ changes. left_by Stands 1 bank changes (bytes_in earlier bank) earlier.saved) at
      ∙ lost_more Stands bank w older (bytes_in earlier bank) earlier.saved 0 same
      ∙ whole bank older (restored w (bytes_in earlier bank) earlier.saved) (without_last w.kept earlier.saved)

  -- a pick of this rest cuts the newest write of that moment
  comes_by : (rest lost : ℕ) (out : List ℕ) → rest < 4 → lost ≤ count + 1
      → left_as (cut_at rest) lost bank store.changes (bytes_in store bank) store.saved ≡ out
      → (pick : ℕ) × (pick < 2 ^ 32) × (left_of pick store bank ≡ out)
  comes_by rest lost out over few is = (lost * 4 + rest, omega (arith, over, few, small), picked rest lost store bank over ∙ is)

  comes : (cut : Cut) → Comes cut
  comes Stands = let way = reached Stands in
      comes_by 0 (way.0 + 0) _ (omega arith) (omega (arith, way.1)) (way.2 0 ∙ cut_then Stands)
  comes Lost = let way = reached Stands in
      comes_by 0 (way.0 + 1) _ (omega arith) (omega (arith, way.1)) (way.2 1 ∙ lost_then)
  comes Half = let way = reached Half in
      comes_by 2 (way.0 + 0) _ (omega arith) (omega (arith, way.1)) (way.2 0 ∙ cut_then Half)
  comes Junk = let way = reached Junk in
      comes_by 3 (way.0 + 0) _ (omega arith) (omega (arith, way.1)) (way.2 0 ∙ cut_then Junk)

pub each_cut_has_pick : EachCutHasPick
each_cut_has_pick store bank cut count w older small since at same = comes store bank count w older small since at same cut
