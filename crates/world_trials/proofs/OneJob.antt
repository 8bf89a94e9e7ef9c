-- A world in which no job runs yet, and one of one target starts.
use Rattle.std.proofs.Common.{◌≡◌, sym, subst, ℕ, zero, suc, List, [], ◌∷◌, None, length, arith, Contains, refl}
use Rattle.world_api.specs.Around.{Around}
use Rattle.world_api.specs.Calls.{CanStart}
use Rattle.world_api.specs.declared.job.Job.{Job}

pub idle_of : {X : Type 0} (xs : List X) → length xs ≡ 0 → xs ≡ []
idle_of [] e = refl
idle_of (x ∷ xs) e = absurd (omega (arith, e))

nothing_in : {X : Type 0} {P : Type 0} (xs : List X) (x : X) → xs ≡ [] → Contains xs x → P
nothing_in xs x none h = absurd (let at : Contains [] x = subst (λ l. Contains l x) none h in omega (arith, at.1))

-- where nothing runs a job may start whose targets are no files
pub can_start : (job : Job) (around : Around) → around.running ≡ [] → ((path : List ℕ) → Contains job.targets path → around.tree path ≡ None) → CanStart job around
can_start job around none clear = record {
  new_id = λ run h. nothing_in around.running run none h;
  own_targets = λ run path h own. nothing_in around.running run none h;
  settled = λ run path h dep. nothing_in around.running run none h;
  clear = clear;
}

-- the only path of a list
pub only_path : (paths : List (List ℕ)) (p path : List ℕ) → paths ≡ p ∷ [] → Contains paths path → path ≡ p
only_path paths p path same h = at_front (subst (λ l. Contains l path) same h)
  where
    at_front : Contains (p ∷ []) path → path ≡ p
    at_front (zero, lt, at) = sym at
    at_front (suc n, lt, at) = absurd (omega (arith, lt))
