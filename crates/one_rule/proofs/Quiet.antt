-- A world in which nothing runs.
use Rattle.std.proofs.Common.{◌≡◌, ◌<◌, ℕ, List, [], length, arith, subst}
use Rattle.std.specs.Prelude.{Contains}
use Rattle.world_api.specs.Around.{Around, Running, IsRunningTarget}
use Rattle.world_api.specs.Calls.{Asks}

none_contained : {X : Type 0} (xs : List X) (x : X) → xs ≡ [] → Contains xs x → ⊥
none_contained xs x empty contained =
    let short = subst (λ (ys : List _). contained.0 < length ys) empty contained.1 in
    omega arith

pub no_target : (running : List Running) (path : List ℕ) → running ≡ [] → IsRunningTarget running path → ⊥
no_target running path idle target = none_contained running target.0 idle target.1

-- a look at the files changes none of them
pub same_file : (old new : Around) (path : List ℕ) → old.running ≡ [] → Asks old new → new.tree path ≡ old.tree path
same_file old new path idle asks = asks.files path (no_target old.running path idle)
