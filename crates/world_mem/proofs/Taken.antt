-- What stands in the slots is what is taken: a file or a target of a running job.
use Rattle.std.proofs.Common.{◌≡◌, ◌⊎◌, sym, refl, ap, subst, ℕ, List, true, false, Option, Some, None, is_some, inl, inr, Contains}
use Rattle.world_api.specs.Around.{Running, IsRunningTarget}
use Rattle.world_mem.specs.AsAround.{around_of}
use Rattle.world_mem.specs.Blocked.{IsTaken}
use Rattle.world_mem.specs.InSlots.{slot_at, content_of, mark_of, Stands, holds_live}
use Rattle.world_mem.specs.Kept.{running_of}
use Rattle.world_mem.specs.declared.slots.Slot.{Slot}
use Rattle.world_mem.specs.declared.slots.Slot.TheVariants as slot
use Rattle.world_mem.specs.declared.state.State.{State}
use Rattle.world_mem.proofs.Below.{live_of}
use Rattle.world_mem.proofs.Membership.{contains_map, contains_unmap}
use Rattle.world_mem.proofs.Owners.{target_of}

live_cases : (o : Option Slot) → holds_live o ≡ true → (is_some (content_of o) ≡ true) ⊎ ((id : ℕ) × (mark_of o ≡ Some id))
live_cases None h = absurd (let e : false ≡ true = h in cc e)
live_cases (Some (slot.Running id)) h = inr (id, refl)
live_cases (Some (slot.Settled None)) h = absurd (let e : false ≡ true = h in cc e)
live_cases (Some (slot.Settled (Some file))) h = inl refl

pub taken : (state : State) (path : List ℕ) → Stands state.slots path → IsTaken (around_of state) path
taken state path live = elim (live_cases (slot_at state.slots path) live) [
  | inl file ↦ inl file
  | inr mark ↦ let owner = target_of state.running.items path (state.marks path mark.0 mark.1) in inr (running_of owner.0, contains_map running_of state.running.items owner.0 owner.1, owner.2)
]

pub stands : (state : State) (path : List ℕ) → IsTaken (around_of state) path → Stands state.slots path
stands state path is = elim is [
  | inl file ↦ live_of (slot_at state.slots path) file
  | inr target ↦
      let owner = contains_unmap running_of state.running.items target.0 target.1 in
      ap holds_live (state.owned owner.0 path owner.1 (subst (λ (run : Running). Contains run.job.targets path) (sym owner.2) target.2))
]

mark_some : (o : Option Slot) → is_some (mark_of o) ≡ true → (id : ℕ) × (mark_of o ≡ Some id)
mark_some None h = absurd (let e : false ≡ true = h in cc e)
mark_some (Some (slot.Running id)) h = (id, refl)
mark_some (Some (slot.Settled file)) h = absurd (let e : false ≡ true = h in cc e)

pub made : (state : State) (path : List ℕ) → is_some (mark_of (slot_at state.slots path)) ≡ true → IsRunningTarget (around_of state).running path
made state path kept =
    let mark = mark_some (slot_at state.slots path) kept in
    let owner = target_of state.running.items path (state.marks path mark.0 mark.1) in
    (running_of owner.0, contains_map running_of state.running.items owner.0 owner.1, owner.2)

pub is_kept_for : (state : State) (path : List ℕ) → IsRunningTarget (around_of state).running path → is_some (mark_of (slot_at state.slots path)) ≡ true
is_kept_for state path target =
    let owner = contains_unmap running_of state.running.items target.0 target.1 in
    ap (λ (o : Option Slot). is_some (mark_of o)) (state.owned owner.0 path owner.1 (subst (λ (run : Running). Contains run.job.targets path) (sym owner.2) target.2))
