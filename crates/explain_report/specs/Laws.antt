-- What is so of the reasons of every rule.
use Rattle.std.specs.Prelude.{◌≡◌, ◌↔◌, ℕ, false, is_some, slice_get, Option, Some, None}
use Rattle.std.specs.List.{AllByRecursion}
use Rattle.world_api.specs.declared.decider.Decider.{Decider}
use Rattle.world_api.specs.declared.decider.Decider.TheVariants.{Content}
use Rattle.deciders.specs.declared.recorded.Dep.{Dep}
use Rattle.deciders.specs.declared.recorded.Rec.{Rec}
use Rattle.deciders.specs.Records.{IsValid}
use Rattle.build_model.specs.Rules.{Path, Tree, Stamps, Rule}
use Rattle.build_model.specs.Stale.{first_stamp}
use Rattle.build_means.specs.Due.{is_due}
use Rattle.build_means.specs.Rules.{decider_of}
use Rattle.build_means.specs.Records.{record_in, records_in}
use Rattle.explain_report.specs.declared.reason.Reason.{Reason}
use Rattle.explain_report.specs.Reasons.{Holds}

-- by content a record has no stamps
abbrev pub HasNoStamps : Decider → Rec → Type 0
HasNoStamps decider rec = decider ≡ Content → AllByRecursion (λ (dep : Dep). dep.stamp ≡ None) rec.deps

-- a rule by this decider, its record of now and what a store has, all of them valid
pub record AreRecords (r : Rule) (decider : Decider) (kept : Path → Option Rec) (now : Rec) : Type 0 where
  pub by : r.decider ≡ decider_of decider
  pub targets : now.targets ≡ r.targets
  pub valid : IsValid now
  pub stamps : HasNoStamps decider now
  pub kept_valid : (p : Path) (old : Rec) → kept p ≡ Some old → IsValid old

-- a reason holds for a target of the rule, by what stood before the build
abbrev pub HoldsIn : Rule → Tree → Stamps → (Path → Option Rec) → Decider → Rec → Reason → Type 0
HoldsIn r tree stamps kept decider now reason = (p : Path) × (place : ℕ) × (slice_get r.targets place ≡ Some p) ×
    Holds decider r.always now place (is_some (tree p)) (first_stamp stamps r.targets) (kept p) reason

-- A rule is found due exactly where one of the reasons holds for one of its targets.
abbrev pub DueWhereReason : Type 0
DueWhereReason = (r : Rule) (tree : Tree) (stamps : Stamps) (kept : Path → Option Rec) (decider : Decider) (now : Rec) →
    AreRecords r decider kept now →
    (is_due r tree stamps (records_in kept) (record_in now) ≡ false) ↔
    ((reason : Reason) → HoldsIn r tree stamps kept decider now reason → ⊥)
