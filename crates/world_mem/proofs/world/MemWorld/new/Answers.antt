use Rattle.std.proofs.Common.{◌≡◌, subst, ap, arith, ℕ, List, length}
use Rattle.std.proofs.lemmas.Result.{err_from_is_err_and}
use Rattle.std.proofs.lemmas.List.{length-reverse}
use Rattle.std.proofs.Common.{◌↔◌, ◌⊎◌, IsTrue}
use Rattle.world_mem.specs.AsAround.{around_of}
use Rattle.world_mem.specs.Standing.{is_always}
use Rattle.world_mem.specs.Blocked.{IsRefused, IsFirstRefused, HasBelow, HasFile}
use Rattle.world_mem.specs.declared.refusal.NewRefusal.TheVariants.{Place}
use Rattle.mem_banks.specs.AsStore.{store_of}
use Rattle.mem_banks.specs.Past.{bytes_in, IsLeft}
use Rattle.mem_banks.specs.declared.change.Change.{Change}
use Rattle.world_mem.proofs.Dirty.{counts_none}
use Rattle.world_mem.proofs.Unmade.{unmade_of}
use Rattle.world_mem.proofs.world.MemWorld.new.Goals as goal

pub returns-in_err-state-clause-place : goal.returns-in_err-state-clause-place
returns-in_err-state-clause-place c =
    let p = err_from_is_err_and c.from_residual.result c.from_residual.ensures.1 in
    rw (p.1, p.2) (subst (λ (files : List (List ℕ × List ℕ)). (place : ℕ) → c.in_err-state.field-0.0 ≡ Place place → IsFirstRefused files place) c.deref.ensures.value c.in_err-state.ensures.place)

pub invariant_of-result-clause-unmade : goal.invariant_of-result-clause-unmade
invariant_of-result-clause-unmade c = unmade_of c.in_ok-state.state

pub invariant_of-result-clause-recorded_within : goal.invariant_of-result-clause-recorded_within
invariant_of-result-clause-recorded_within c =
    let none = ap length c.in_ok-banks.ensures.changes in
    let count = length-reverse c.in_ok-banks.banks.changes.items in
    omega (arith, none, count, c.in_ok-banks.banks.changes.ok.0, c.in_ok-state.ensures.removals)

pub invariant_of-result-clause-counts : goal.invariant_of-result-clause-counts
invariant_of-result-clause-counts c = counts_none (store_of c.in_ok-banks.banks).changes c.in_ok-banks.ensures.changes

pub returns-clause-stand : goal.returns-clause-stand
returns-clause-stand c =
    subst (λ (files : List (List ℕ × List ℕ)). (place : ℕ) → IsRefused files place → ⊥) c.deref.ensures.value c.in_ok-state.ensures.stand

pub returns-clause-dirs : goal.returns-clause-dirs
returns-clause-dirs c =
    subst (λ (files : List (List ℕ × List ℕ)). (dir : List ℕ) → IsTrue ((around_of c.in_ok-state.state).dirs dir) ↔ (IsTrue (is_always dir) ⊎ HasBelow (HasFile files) dir)) c.deref.ensures.value c.in_ok-state.ensures.dirs

pub returns-clause-room : goal.returns-clause-room
returns-clause-room c =
    let none = ap length c.in_ok-banks.ensures.changes in
    let count = length-reverse c.in_ok-banks.banks.changes.items in
    omega (arith, none, count, c.in_ok-banks.banks.changes.ok.0, c.in_ok-state.ensures.removals)

pub returns-clause-settled : goal.returns-clause-settled
returns-clause-settled c = λ bank outcome left.
    let store = store_of c.in_ok-banks.banks in
    subst (λ (changes : List Change). IsLeft bank changes (bytes_in store bank) store.saved outcome) c.in_ok-banks.ensures.changes left
