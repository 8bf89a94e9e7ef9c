-- Which stamp a file has once it is settled.
use Rattle.std.proofs.Common.{◌≡◌, ◌∙◌, sym, refl, ap, subst, ℕ, zero, suc, List, [], ◌∷◌, Bool, true, false, cond, Option, Some, None, IsSome, arith, Contains}
use Rattle.std.specs.Cmp.Lexicographic.{bytes_decides}
use Rattle.std.specs.Option.{option_map}
use Rattle.std.specs.Str.{bytes_eq}
use Rattle.world_api.specs.Act.{Content, Given}
use Rattle.world_api.specs.Around.{IsRunningTarget, Running}
use Rattle.world_mem.specs.AsAround.{around_of}
use Rattle.world_mem.specs.CallCounts.{next}
use Rattle.world_mem.specs.InSlots.{slot_at, content_of, stamp_at, file_with, settled}
use Rattle.world_mem.specs.Kept.{running_of}
use Rattle.world_mem.specs.Left.{names, Cover}
use Rattle.world_mem.specs.Stamps.{Stamps}
use Rattle.world_mem.specs.declared.slots.File.{File}
use Rattle.world_mem.specs.declared.slots.Slot.{Slot}
use Rattle.world_mem.specs.declared.slots.Slot.TheVariants.{Settled}
use Rattle.world_mem.specs.declared.state.State.{State}
use Rattle.world_mem.proofs.Membership.{contains_unmap}

on_some : (stamp : ℕ) (name : List ℕ) (content : Content) (old : Option Slot)
    → IsSome (content_of (option_map (λ _. Settled (file_with stamp name content)) old)) → stamp_at (option_map (λ _. Settled (file_with stamp name content)) old) ≡ stamp
on_some stamp name content None some = absurd (let x : false ≡ true = some in cc x)
on_some stamp name None (Some slot) some = absurd (let x : false ≡ true = some in cc x)
on_some stamp name (Some bytes) (Some slot) some = refl

stamped_if : (b : Bool) (stamp : ℕ) (name : List ℕ) (content : Content) (old : Option Slot) → (b ≡ false → IsSome (content_of old) → stamp_at old ≡ stamp)
    → IsSome (content_of (cond b (option_map (λ _. Settled (file_with stamp name content)) old) old))
    → stamp_at (cond b (option_map (λ _. Settled (file_with stamp name content)) old) old) ≡ stamp
stamped_if true stamp name content old rest some = on_some stamp name content old some
stamped_if false stamp name content old rest some = rest refl some

further : (x : List ℕ) (xs : List (List ℕ)) (path : List ℕ) → Contains (x ∷ xs) path → (x ≡ path → ⊥) → Contains xs path
further x xs path (zero, lt, at) apart = absurd (apart at)
further x xs path (suc k, lt, at) apart = (k, omega (arith, lt), at)

-- a file that is settled has the stamp of the settling
pub settled_stamp : (stamp : ℕ) (given : Given) (path : List ℕ) (old : Option Slot) → Contains (names given) path
    → IsSome (content_of (settled stamp given path old)) → stamp_at (settled stamp given path old) ≡ stamp
settled_stamp stamp [] path old own some = absurd (omega (arith, own.1))
settled_stamp stamp (x ∷ xs) path old own some =
    stamped_if (bytes_eq x.0 path) stamp x.0 x.1 (settled stamp xs path old)
    (λ off. settled_stamp stamp xs path old (further x.0 (names xs) path own (λ same. let e : true ≡ false = sym ((bytes_decides x.0 path).1 same) ∙ off in cc e)))
    some

-- a file that was put there has its own stamp, and each other the one that it had
pub put_stamp : (b : Bool) (file : File) (old : Option Slot) → file.stamp ≡ 0 → stamp_at old ≡ 0 → stamp_at (cond b (Some (Settled (Some file))) old) ≡ 0
put_stamp true file old fresh was = fresh
put_stamp false file old fresh was = was

-- the targets of the jobs that ran, settled at what a stop leaves
pub stamps_left : (old new : State) (left : Given) → ((path : List ℕ) → slot_at new.slots path ≡ settled new.stamp left path (slot_at old.slots path))
    → new.stamp ≡ next old.stamp → Cover old.running.items left → Stamps (IsRunningTarget (around_of old).running) old new
stamps_left old new left slots counted covers = record {
  counted = counted;
  stamped = λ path target some.
      let run = contains_unmap running_of old.running.items target.0 target.1 in
      let own : Contains run.0.job.targets path = subst (λ (r : Running). Contains r.job.targets path) (sym run.2) target.2 in
      ap stamp_at (slots path)
      ∙ settled_stamp new.stamp left path (slot_at old.slots path) (covers run.0 path run.1 own) (subst (λ (o : Option Slot). IsSome (content_of o)) (slots path) some);
}
