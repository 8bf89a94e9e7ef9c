-- How many files went by a removal.
use Rattle.std.proofs.Common.{◌≡◌, ◌∙◌, ◌+◌, ◌&&◌, sym, refl, ap, ℕ, List, Bool, true, false, not, cond, Option, Some, None, is_some}
use Rattle.std.specs.Option.{option_map}
use Rattle.world_api.specs.Act.{Content}
use Rattle.world_mem.specs.AsAround.{around_of}
use Rattle.world_mem.specs.EachCall.{went}
use Rattle.world_mem.specs.declared.state.State.{State}

-- a file stands, whatever is asked of it
pub stands : {A B : Type 0} (f : A → B) (file : Option A) → is_some (option_map f file) ≡ is_some file
stands f None = refl
stands f (Some file) = refl

went_if : (removed : Bool) (old new : Content) → removed ≡ is_some old → new ≡ None
    → ◌≡◌ {A = ℕ} (cond (is_some old && not (is_some new)) 1 0) (cond removed 1 0)
went_if removed None new is none = ap (λ b. cond b 1 0) (sym is)
went_if removed (Some bytes) new is none =
    ap (λ (k : Content). cond (is_some (Some bytes) && not (is_some k)) 1 0) none ∙ ap (λ b. cond b 1 0) (sym is)

-- one removal more where a file stood, and none where there was none
pub used : (old new : State) (path : List ℕ) (removed : Bool) → removed ≡ is_some ((around_of old).tree path) → (around_of new).tree path ≡ None
    → new.removals ≡ old.removals + cond removed 1 0 → new.removals ≡ old.removals + went path (around_of old) (around_of new)
used old new path removed is none more =
    more ∙ ap (λ n. old.removals + n) (sym (went_if removed ((around_of old).tree path) ((around_of new).tree path) is none))

-- none went where nothing changed
pub still_none : (content : Content) → ◌≡◌ {A = ℕ} (cond (is_some content && not (is_some content)) 1 0) 0
still_none None = refl
still_none (Some bytes) = refl
