-- Writes into slots.
use Rattle.std.proofs.Common.{◌≡◌, ◌∙◌, sym, refl, ℕ, List, [], ◌∷◌, ◌++◌, Bool, true, false, cond, Option, Some, None, ap}
use Rattle.std.specs.Cmp.Lexicographic.{bytes_decides}
use Rattle.std.specs.Option.{option_map}
use Rattle.std.specs.Str.{bytes_eq}
use Rattle.world_api.specs.Act.{Content, Given}
use Rattle.world_mem.specs.declared.slots.Slot.{Slot}
use Rattle.world_mem.specs.declared.slots.Slot.TheVariants.{Settled}
use Rattle.world_mem.specs.InSlots.{file_with, written, taken, emptied, settled}

write_if : (b : Bool) (slot found : Slot) (old : Option Slot) → (b ≡ true → old ≡ Some found) → cond b (Some slot) old ≡ cond b (option_map (λ _. slot) old) old
write_if true slot found old h = rw (h refl) refl
write_if false slot found old h = refl

-- a write at a path that has a slot
pub written_at : (f : List ℕ → Option Slot) (at other : List ℕ) (slot found : Slot) → f at ≡ Some found → cond (bytes_eq at other) (Some slot) (f other) ≡ written at slot other (f other)
written_at f at other slot found h = write_if (bytes_eq at other) slot found (f other) (λ y. ap f (sym ((bytes_decides at other).0 y)) ∙ h)

-- what is listed last is written first
pub settled-push : (stamp : ℕ) (made : Given) (entry : List ℕ × Content) (path : List ℕ) (old : Option Slot) → settled stamp (made ++ entry ∷ []) path old ≡ settled stamp made path (written entry.0 (Settled (file_with stamp entry.0 entry.1)) path old)
settled-push stamp [] entry path old = refl
settled-push stamp (x ∷ xs) entry path old = ap (written x.0 (Settled (file_with stamp x.0 x.1)) path) (settled-push stamp xs entry path old)

-- a file taken away at a path that has a slot
pub taken_at : (f : List ℕ → Option Slot) (at other : List ℕ) (new : Slot) → Some new ≡ emptied (f at) → cond (bytes_eq at other) (Some new) (f other) ≡ taken at other (f other)
taken_at f at other new is = take_if (bytes_eq at other) new (f other) (λ y. is ∙ ap (λ path. emptied (f path)) ((bytes_decides at other).0 y))
  where
    take_if : (b : Bool) (new : Slot) (old : Option Slot) → (b ≡ true → Some new ≡ emptied old) → cond b (Some new) old ≡ cond b (emptied old) old
    take_if true new old h = h refl
    take_if false new old h = refl

-- where there is no slot nothing is taken away
pub taken_none : (f : List ℕ → Option Slot) (at other : List ℕ) → f at ≡ None → f other ≡ taken at other (f other)
taken_none f at other is = none_if (bytes_eq at other) (f other) (λ y. sym (ap f ((bytes_decides at other).0 y)) ∙ is)
  where
    none_if : (b : Bool) (old : Option Slot) → (b ≡ true → old ≡ None) → old ≡ cond b (emptied old) old
    none_if true old h = h refl ∙ sym (ap emptied (h refl))
    none_if false old h = refl
