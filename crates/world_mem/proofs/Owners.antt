-- The slots that are kept for running jobs, after a put, a write, a mark and an ending.
use Rattle.std.proofs.Common.{◌≡◌, ◌∙◌, ◌⊎◌, refl, ap, ℕ, suc, zero, List, [], ◌∷◌, Bool, true, false, ◌||◌, cond, Option, Some, None, map, inl, inr, arith, Contains}
use Rattle.std.specs.Cmp.Lexicographic.{bytes_decides}
use Rattle.std.specs.List.{list_any}
use Rattle.std.specs.Option.{option_map}
use Rattle.std.specs.Str.{bytes_eq}
use Rattle.std.proofs.lemmas.Bool.{cases_Bool, cond-false}
use Rattle.std.proofs.lemmas.Map.Views.{Contains-from_any}
use Rattle.world_api.specs.Act.{Given}
use Rattle.world_mem.specs.declared.slots.File.{File}
use Rattle.world_mem.specs.declared.slots.Slot.{Slot}
use Rattle.world_mem.specs.declared.slots.Slot.TheVariants.{Settled}
use Rattle.world_mem.specs.InSlots.{mark_of, file_with, written, marked, settled}
use Rattle.world_mem.specs.Kept.{is_target}
use Rattle.world_mem.specs.declared.running.RunningJob.{RunningJob}
use Rattle.world_mem.proofs.Marks.{in_front, behind}

or_one : (a b : Bool) → (a ≡ true) ⊎ (b ≡ true) → (a || b) ≡ true
or_one true b h = refl
or_one false b h = elim h [ inl e ↦ absurd (let x : false ≡ true = e in cc x) | inr y ↦ y ]

or_second : (a b : Bool) → a ≡ false → (a || b) ≡ true → b ≡ true
or_second true b n h = absurd (let x : true ≡ false = n in cc x)
or_second false b n h = h

-- a running job makes a path
abbrev pub IsTarget : List RunningJob → List ℕ → Type 0
IsTarget running path = (run : RunningJob) × Contains running run × Contains run.job.targets path

pub any_of : {X : Type 0} (p : X → Bool) (xs : List X) (x : X) → Contains xs x → p x ≡ true → list_any p xs ≡ true
any_of p [] x h y = absurd (omega (arith, h.1))
any_of p (z ∷ zs) x (zero, lt, at) y = or_one (p z) (list_any p zs) (inl (ap p at ∙ y))
any_of p (z ∷ zs) x (suc k, lt, at) y = or_one (p z) (list_any p zs) (inr (any_of p zs x (k, omega (arith, lt), at) y))

pub is_target-of : (running : List RunningJob) (path : List ℕ) → IsTarget running path → is_target running path ≡ true
is_target-of running path t = any_of (λ run. list_any (bytes_eq path) run.job.targets) running t.0 t.1 (any_of (bytes_eq path) t.0.job.targets path t.2 ((bytes_decides path path).1 refl))

pub target_of : (running : List RunningJob) (path : List ℕ) → is_target running path ≡ true → IsTarget running path
target_of [] path h = absurd (let x : false ≡ true = h in cc x)
target_of (run ∷ rest) path h = elim (cases_Bool (list_any (bytes_eq path) run.job.targets)) [
  | inl y ↦ (run, (0, omega arith, refl), Contains-from_any (λ x y. (bytes_decides x y).0) path run.job.targets y)
  | inr n ↦ let later = target_of rest path (or_second (list_any (bytes_eq path) run.job.targets) (is_target rest path) n h) in (later.0, (suc later.1.0, omega (arith, later.1.1), later.1.2), later.2)
]

pub put-unmarked : (b : Bool) (content : Option File) (old : Option Slot) → mark_of old ≡ None → mark_of (cond b (Some (Settled content)) old) ≡ None
put-unmarked true content old h = refl
put-unmarked false content old h = h

fewer_if : (b : Bool) (content : Option File) (old : Option Slot) (id : ℕ) → mark_of (cond b (option_map (λ _. Settled content) old) old) ≡ Some id → mark_of old ≡ Some id
fewer_if true content None id h = h
fewer_if true content (Some slot) id h = absurd (let e : None ≡ Some id = h in cc e)
fewer_if false content old id h = h

-- a write of what is settled marks nothing
pub fewer-written : (at : List ℕ) (content : Option File) (path : List ℕ) (old : Option Slot) (id : ℕ) → mark_of (written at (Settled content) path old) ≡ Some id → mark_of old ≡ Some id
fewer-written at content path old id h = fewer_if (bytes_eq at path) content old id h

pub fewer-marked : (targets : List (List ℕ)) (content : Option File) (path : List ℕ) (old : Option Slot) (id : ℕ) → mark_of (marked targets (Settled content) path old) ≡ Some id → mark_of old ≡ Some id
fewer-marked [] content path old id h = h
fewer-marked (x ∷ xs) content path old id h = fewer-written x content path old id (fewer-marked xs content path (written x (Settled content) path old) id h)

pub fewer-settled : (stamp : ℕ) (made : Given) (path : List ℕ) (old : Option Slot) (id : ℕ) → mark_of (settled stamp made path old) ≡ Some id → mark_of old ≡ Some id
fewer-settled stamp [] path old id h = h
fewer-settled stamp (x ∷ xs) path old id h = fewer-settled stamp xs path old id (fewer_if (bytes_eq x.0 path) (file_with stamp x.0 x.1) (settled stamp xs path old) id h)

none_if : (b : Bool) (content : Option File) (old : Option Slot) → (b ≡ true) ⊎ (mark_of old ≡ None) → mark_of (cond b (option_map (λ _. Settled content) old) old) ≡ None
none_if true content None h = refl
none_if true content (Some slot) h = refl
none_if false content old h = elim h [ inl e ↦ absurd (let x : false ≡ true = e in cc x) | inr none ↦ none ]

still_unmarked : (targets : List (List ℕ)) (content : Option File) (path : List ℕ) (old : Option Slot) → mark_of old ≡ None → mark_of (marked targets (Settled content) path old) ≡ None
still_unmarked [] content path old h = h
still_unmarked (x ∷ xs) content path old h = still_unmarked xs content path (written x (Settled content) path old) (none_if (bytes_eq x path) content old (inr h))

-- what is settled is unmarked
pub unmarked-marked : (targets : List (List ℕ)) (content : Option File) (path : List ℕ) (old : Option Slot) → Contains targets path → mark_of (marked targets (Settled content) path old) ≡ None
unmarked-marked [] content path old h = absurd (omega (arith, h.1))
unmarked-marked (x ∷ xs) content path old (zero, lt, at) = still_unmarked xs content path (written x (Settled content) path old) (none_if (bytes_eq x path) content old (inl ((bytes_decides x path).1 at)))
unmarked-marked (x ∷ xs) content path old (suc k, lt, at) = unmarked-marked xs content path (written x (Settled content) path old) (k, omega (arith, lt), at)

pub unmarked-settled : (stamp : ℕ) (made : Given) (path : List ℕ) (old : Option Slot) → Contains (map (λ entry. entry.0) made) path → mark_of (settled stamp made path old) ≡ None
unmarked-settled stamp [] path old h = absurd (omega (arith, h.1))
unmarked-settled stamp (x ∷ xs) path old (zero, lt, at) = none_if (bytes_eq x.0 path) (file_with stamp x.0 x.1) (settled stamp xs path old) (inl ((bytes_decides x.0 path).1 at))
unmarked-settled stamp (x ∷ xs) path old (suc k, lt, at) = none_if (bytes_eq x.0 path) (file_with stamp x.0 x.1) (settled stamp xs path old) (inr (unmarked-settled stamp xs path old (k, omega (arith, lt), at)))

-- a mark leaves what stands at a path, or the path is a target
pub marked-where : (targets : List (List ℕ)) (slot : Slot) (path : List ℕ) (old : Option Slot) → (marked targets slot path old ≡ old) ⊎ Contains targets path
marked-where [] slot path old = inl refl
marked-where (x ∷ xs) slot path old = elim (cases_Bool (bytes_eq x path)) [
  | inl y ↦ inr (in_front x xs path ((bytes_decides x path).0 y))
  | inr n ↦
      let same : written x slot path old ≡ old = cond-false (bytes_eq x path) (option_map (λ _. slot) old) old n in
      elim (marked-where xs slot path old) [ inl kept ↦ inl (ap (marked xs slot path) same ∙ kept) | inr h ↦ inr (behind x xs path h) ]
]
