-- The reason of a whole rule.
use Rattle.std.specs.Prelude.{◌≡◌, ◌⊎◌, ℕ, ◌<◌, true, false, is_some, slice_get, List, [], ◌∷◌, length, Option, Some, None, MatchOption}
use Rattle.world_api.specs.declared.decider.Decider.{Decider}
use Rattle.deciders.specs.declared.recorded.Rec.{Rec}
use Rattle.build_model.specs.Rules.{Path, Tree, Stamps, Rule}
use Rattle.build_model.specs.Stale.{first_stamp}
use Rattle.build_means.specs.Due.{is_due}
use Rattle.build_means.specs.Records.{record_in, records_in}
use Rattle.explain_report.specs.declared.reason.Reason.{Reason}
use Rattle.explain_report.specs.Order.{number, place_of, least}
use Rattle.explain_report.specs.Reasons.{IsReason}
use Rattle.explain_report.specs.Laws.{AreRecords, HoldsIn}

-- the one is told before the other: it has a smaller number, or the same and an earlier target
abbrev pub IsBefore : Reason → Reason → Type 0
IsBefore a b = (number a < number b) ⊎ ((number a ≡ number b) × (place_of a < place_of b))

-- The reason of a rule holds for one of its targets, and none that holds for any is told before it.
pub record IsReasonOfRule (r : Rule) (tree : Tree) (stamps : Stamps) (kept : Path → Option Rec) (decider : Decider) (now : Rec) (reason : Reason) : Type 0 where
  pub holds : HoldsIn r tree stamps kept decider now reason
  pub first : (other : Reason) → HoldsIn r tree stamps kept decider now other → ¬ (IsBefore other reason)

abbrev pub least_with : Reason → Option Reason → Option Reason
least_with a None = Some a
least_with a (Some b) = Some (least a b)

-- the least of some answers, where there is a reason among them
abbrev pub least_of : List (Option Reason) → Option Reason
least_of [] = None
least_of (None ∷ answers) = least_of answers
least_of (Some reason ∷ answers) = least_with reason (least_of answers)

-- an answer for each target
pub record AreAnswers (r : Rule) (tree : Tree) (stamps : Stamps) (kept : Path → Option Rec) (decider : Decider) (now : Rec) (answers : List (Option Reason)) : Type 0 where
  pub as_many : length answers ≡ length r.targets
  pub each : (place : ℕ) (p : Path) (answer : Option Reason) → slice_get r.targets place ≡ Some p → slice_get answers place ≡ Some answer →
      IsReason decider r.always now place (is_some (tree p)) (first_stamp stamps r.targets) (kept p) answer

-- The least of the answers for a rule's targets is the reason of the rule, which is found due; where no answer has a reason,
-- the rule isn't due.
abbrev pub LeastIsReason : Type 0
LeastIsReason = (r : Rule) (tree : Tree) (stamps : Stamps) (kept : Path → Option Rec) (decider : Decider) (now : Rec) →
    AreRecords r decider kept now → (answers : List (Option Reason)) → AreAnswers r tree stamps kept decider now answers →
    MatchOption (least_of answers) (is_due r tree stamps (records_in kept) (record_in now) ≡ false)
    (λ reason. (is_due r tree stamps (records_in kept) (record_in now) ≡ true) × IsReasonOfRule r tree stamps kept decider now reason)
