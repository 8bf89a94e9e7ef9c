-- Which reason holds for a target of a rule.
use Rattle.std.specs.Prelude.{◌≡◌, ◌≢◌, ◌⊎◌, ℕ, suc, ◌<◌, Bool, true, false, List, [], ◌∷◌, map, Option, Some, None}
use Rattle.std.specs.List.{zip}
use Rattle.world_api.specs.declared.decider.Decider.{Decider}
use Rattle.world_api.specs.declared.decider.Decider.TheVariants.{Content, Newer, Match, ContentMatch}
use Rattle.deciders.specs.declared.recorded.Dep.{Dep}
use Rattle.deciders.specs.declared.recorded.Rec.{Rec}
use Rattle.deciders.specs.Records.{name_of}
use Rattle.deciders.specs.Changes.{IsAfter, DiffersInBoth}
use Rattle.explain_report.specs.declared.reason.Reason.{Reason}
use Rattle.explain_report.specs.declared.reason.Reason.TheVariants.{Always, Absent, NoRecord, Action, Newly, Gone, Moved, Changed}
use Rattle.explain_report.specs.Order.{number}

-- P holds of an item
abbrev pub Somewhere : {A : Type 0} → (A → Type 0) → List A → Type 0
Somewhere P [] = ⊥
Somewhere P (x ∷ xs) = P x ⊎ Somewhere P xs

-- the first item of which P holds has this place, where the first of all has the place `start`
abbrev pub FirstFrom : {A : Type 0} → ℕ → (A → Type 0) → List A → ℕ → Type 0
FirstFrom start P [] place = ⊥
FirstFrom start P (x ∷ xs) place = (P x × (place ≡ start)) ⊎ ((¬ (P x)) × FirstFrom (suc start) P xs place)

abbrev pub First : {A : Type 0} → (A → Type 0) → List A → ℕ → Type 0
First = FirstFrom 0

-- the same work and function of digests, for the same targets, by the same signed lines
pub record IsSameWork (old now : Rec) : Type 0 where
  pub work : now.work ≡ old.work
  pub hash : now.hash ≡ old.hash
  pub targets : now.targets ≡ old.targets
  pub signed : now.signed ≡ old.signed

-- none of the others has its name
abbrev pub IsNew : List Dep → Dep → Type 0
IsNew others dep = ¬ (Somewhere (λ (other : Dep). dep.name ≡ other.name) others)

-- The recorded dependency and the one of now: whether the decider calls it changed. `stamp` is that of the first target.
-- By content a record of now has no stamps, and one that has was kept under another decider.
abbrev pub Differs : Decider → Option ℕ → Dep × Dep → Type 0
Differs Content stamp deps = (deps.0.digest ≢ deps.1.digest) ⊎ (deps.0.stamp ≢ None)
Differs Newer stamp deps = IsAfter stamp deps.1.stamp
Differs Match stamp deps = deps.0.stamp ≢ deps.1.stamp
Differs ContentMatch stamp deps = DiffersInBoth deps

-- A reason holds for the target at `place`: of a rule by this decider, that is always built or isn't, whose record of now is
-- `now`; the target is `present` as a file or isn't, `stamp` is that of the first target, and `old` what was recorded.
abbrev pub Holds : Decider → Bool → Rec → ℕ → Bool → Option ℕ → Option Rec → Reason → Type 0
Holds decider always now place present stamp old (Always x) = (x ≡ place) × (always ≡ true)
Holds decider always now place present stamp old (Absent x) = (x ≡ place) × (present ≡ false)
Holds decider always now place present stamp old (NoRecord x) = (x ≡ place) × (old ≡ None)
Holds decider always now place present stamp None (Action x) = ⊥
Holds decider always now place present stamp (Some old) (Action x) = (x ≡ place) × ¬ (IsSameWork old now)
Holds decider always now place present stamp None (Newly x d) = ⊥
Holds decider always now place present stamp (Some old) (Newly x d) = (x ≡ place) × First (IsNew old.deps) now.deps d
Holds decider always now place present stamp None (Gone x d) = ⊥
Holds decider always now place present stamp (Some old) (Gone x d) = (x ≡ place) × First (IsNew now.deps) old.deps d
Holds decider always now place present stamp None (Moved x) = ⊥
Holds decider always now place present stamp (Some old) (Moved x) = (x ≡ place) × (map name_of now.deps ≢ map name_of old.deps)
Holds decider always now place present stamp None (Changed x d) = ⊥
Holds decider always now place present stamp (Some old) (Changed x d) = (x ≡ place) × First (Differs decider stamp) (zip old.deps now.deps) d

-- no reason holds whose number is below this one
abbrev pub NoneBelow : ℕ → Decider → Bool → Rec → ℕ → Bool → Option ℕ → Option Rec → Type 0
NoneBelow n decider always now place present stamp old =
    (other : Reason) → number other < n → Holds decider always now place present stamp old other → ⊥

-- The first reason that holds for the target; None where none holds.
abbrev pub IsReason : Decider → Bool → Rec → ℕ → Bool → Option ℕ → Option Rec → Option Reason → Type 0
IsReason decider always now place present stamp old None =
    (reason : Reason) → Holds decider always now place present stamp old reason → ⊥
IsReason decider always now place present stamp old (Some reason) =
    Holds decider always now place present stamp old reason × NoneBelow (number reason) decider always now place present stamp old
