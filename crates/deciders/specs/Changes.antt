-- When the record of now says that a rule has changed.
use Rattle.std.specs.Prelude.{◌≡◌, ◌≢◌, ◌⊎◌, ℕ, ◌<◌, map, Any, Option, Some, None}
use Rattle.std.specs.List.{zip}
use Rattle.world_api.specs.declared.decider.Decider.{Decider}
use Rattle.world_api.specs.declared.decider.Decider.TheVariants.{Content, Newer, Match, ContentMatch}
use Rattle.deciders.specs.declared.recorded.Dep.{Dep}
use Rattle.deciders.specs.declared.recorded.Rec.{Rec}
use Rattle.deciders.specs.Records.{name_of}

-- the same action and the same function of digests, over dependencies of the same names in the same order
pub record IsSameAction (old now : Rec) : Type 0 where
  pub work : now.work ≡ old.work
  pub hash : now.hash ≡ old.hash
  pub targets : now.targets ≡ old.targets
  pub signed : now.signed ≡ old.signed
  pub names : map name_of now.deps ≡ map name_of old.deps

abbrev pub stamp_of : Dep → Option ℕ
stamp_of dep = dep.stamp

-- changed after the target was
abbrev pub IsAfter : Option ℕ → Option ℕ → Type 0
IsAfter None stamp = ⊥
IsAfter (Some target) None = ⊥
IsAfter (Some target) (Some stamp) = target < stamp

-- another time of change, and another content
abbrev pub DiffersInBoth : Dep × Dep → Type 0
DiffersInBoth deps = (deps.0.stamp ≢ deps.1.stamp) × (deps.0.digest ≢ deps.1.digest)

-- content: the record is another one
-- timestamp-newer: a dependency has changed after the target
-- timestamp-match: a dependency has another time of change than the recorded one
-- content-timestamp: a dependency has another time of change and another content
abbrev pub HasChanged : Decider → Rec → Rec → Option ℕ → Type 0
HasChanged Content old now target = now ≢ old
HasChanged Newer old now target = ¬ (IsSameAction old now) ⊎ Any (λ dep. IsAfter target dep.stamp) now.deps
HasChanged Match old now target = ¬ (IsSameAction old now) ⊎ (map stamp_of now.deps ≢ map stamp_of old.deps)
HasChanged ContentMatch old now target = ¬ (IsSameAction old now) ⊎ Any DiffersInBoth (zip old.deps now.deps)
