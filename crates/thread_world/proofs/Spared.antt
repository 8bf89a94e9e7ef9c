-- A call goes on where no call is listed as one that fails, and there is no fuse.
use Rattle.std.proofs.Common.{◌≡◌, ◌∙◌, ap, refl, ℕ, List, Option, None, Result, Ok, Err, inl, inr, sym}
use Rattle.std.specs.Prelude.{◌↔◌, ◌⊎◌, IsOk, IsErr, OnErr}
use Rattle.world_mem.specs.CallCounts.{Fails, count_of, is_listed, verdict_by, verdict_of}
use Rattle.world_mem.specs.Refuses.{IsGoneAnyway}
use Rattle.world_mem.specs.declared.calls.Call.{Call}
use Rattle.world_mem.specs.declared.calls.Call.TheVariants.{Remove, Start}
use Rattle.world_mem.specs.declared.calls.Calls.{Calls}
use Rattle.world_mem.specs.declared.calls.Verdict.TheVariants.{Goes, Listed}
use Rattle.world_mem.specs.declared.world.MemWorld.{MemWorld}
use Rattle.thread_world.specs.Step.{IsSpared}

pub goes : (call : Call) (calls : Calls) → IsSpared calls → verdict_of call calls ≡ Goes
goes call calls spared =
    ap (λ (fuse : Option ℕ). verdict_by fuse (is_listed calls.failing.items call (count_of call calls))) spared.fuse
    ∙ ap (λ (failing : List (Call × ℕ)). verdict_by None (is_listed failing call (count_of call calls))) spared.listed

pub no_failure : (call : Call) (calls : Calls) → IsSpared calls → Fails call calls → ⊥
no_failure call calls spared fails = fails (goes call calls spared)

-- a call that fails in no case is well
pub well : {T E : Type 0} (result : Result T E) (F : Type 0) → (F → ⊥) → IsErr result ↔ F → IsOk result
well (Ok x) F never exactly = refl
well (Err e) F never exactly = absurd (never (exactly.0 refl))

-- of two causes the one that comes in no case is none
pub other_cause : (X F Y : Type 0) → (F → ⊥) → X ↔ (F ⊎ Y) → X ↔ Y
other_cause X F Y never exactly = (
  λ x. elim (exactly.0 x) [
    | inl f ↦ absurd (never f)
    | inr y ↦ y
  ],
  λ y. exactly.1 (inr y),
)

-- a start that is refused is refused for the other reason
pub blocked : (calls : Calls) (Y : Type 0) → IsSpared calls → Fails Start calls ⊎ Y → Y
blocked calls Y spared (inl f) = absurd (no_failure Start calls spared f)
blocked calls Y spared (inr y) = y

-- no removal that fails takes the file nevertheless
pub not_gone : (world : MemWorld) → IsSpared world.calls → IsGoneAnyway world → ⊥
not_gone world spared gone = (let differ : Goes ≡ Listed = sym (goes Remove world.calls spared) ∙ gone.listed in cc differ)

-- a refusal leaves what it leaves but in a case that doesn't come
pub left : {T E : Type 0} (result : Result T E) (F P : Type 0) → (F → ⊥) → OnErr result ((F → ⊥) → P) → OnErr result P
left (Ok x) F P never stays = tt
left (Err e) F P never stays = stays never
