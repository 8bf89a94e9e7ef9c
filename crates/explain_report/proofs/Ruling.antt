-- The least of the answers for a rule's targets is the reason of the rule.
use Rattle.std.proofs.Common.{◌≡◌, ℕ, ◌<◌, Bool, true, false, List, [], ◌∷◌, get_or, length, Option, Some, None, refl, inl, inr, arith}
use Rattle.std.specs.Prelude.{slice_get, is_some, MatchOption}
use Rattle.std.proofs.lemmas.Option.{slice_get-get_or, slice_get_within}
use Rattle.world_api.specs.declared.decider.Decider.{Decider}
use Rattle.deciders.specs.declared.recorded.Rec.{Rec}
use Rattle.build_model.specs.Rules.{Path, Tree, Stamps, Rule}
use Rattle.build_model.specs.Stale.{first_stamp}
use Rattle.build_means.specs.Due.{is_due}
use Rattle.build_means.specs.Laws.{ChangesAreAlike}
use Rattle.build_means.specs.Records.{record_in, records_in}
use Rattle.explain_report.specs.declared.reason.Reason.{Reason}
use Rattle.explain_report.specs.declared.reason.Reason.TheVariants.{Always, Absent, NoRecord, Action, Newly, Gone, Moved, Changed}
use Rattle.explain_report.specs.Order.{place_of}
use Rattle.explain_report.specs.Reasons.{Holds, IsReason}
use Rattle.explain_report.specs.Laws.{AreRecords, HoldsIn}
use Rattle.explain_report.specs.Rules.{IsBefore, IsReasonOfRule, least_of, AreAnswers}
use Rattle.explain_report.proofs.Due.{due_alike}
use Rattle.explain_report.proofs.Leasts.{not_before, Told, told}

stands_at : {A : Type 0} (xs : List A) (place : ℕ) → place < length xs → (x : A) × (slice_get xs place ≡ Some x)
stands_at [] place lt = absurd (omega (arith, lt))
stands_at (x ∷ xs) place lt = (get_or (x ∷ xs) place x, slice_get-get_or (x ∷ xs) place x lt)

-- a reason that holds is of the target that it is asked for
holds_place : (decider : Decider) (always : Bool) (now : Rec) (place : ℕ) (present : Bool) (stamp : Option ℕ) (old : Option Rec) (reason : Reason) →
    Holds decider always now place present stamp old reason → place_of reason ≡ place
holds_place decider always now place present stamp old (Always x) h = h.0
holds_place decider always now place present stamp old (Absent x) h = h.0
holds_place decider always now place present stamp old (NoRecord x) h = h.0
holds_place decider always now place present stamp None (Action x) h = absurd h
holds_place decider always now place present stamp (Some old) (Action x) h = h.0
holds_place decider always now place present stamp None (Newly x d) h = absurd h
holds_place decider always now place present stamp (Some old) (Newly x d) h = h.0
holds_place decider always now place present stamp None (Gone x d) h = absurd h
holds_place decider always now place present stamp (Some old) (Gone x d) h = h.0
holds_place decider always now place present stamp None (Moved x) h = absurd h
holds_place decider always now place present stamp (Some old) (Moved x) h = h.0
holds_place decider always now place present stamp None (Changed x d) h = absurd h
holds_place decider always now place present stamp (Some old) (Changed x d) h = h.0

-- the first that holds for a target has none before it there
none_before : (decider : Decider) (always : Bool) (now : Rec) (place : ℕ) (present : Bool) (stamp : Option ℕ) (old : Option Rec) (reason other : Reason) →
    IsReason decider always now place present stamp old (Some reason) → Holds decider always now place present stamp old other → IsBefore other reason → ⊥
none_before decider always now place present stamp old reason other is h (inl lt) = is.1 other lt h
none_before decider always now place present stamp old reason other is h (inr k) =
    omega (arith, k.1, holds_place decider always now place present stamp old reason is.0, holds_place decider always now place present stamp old other h)

module _ (alike : ChangesAreAlike) (r : Rule) (tree : Tree) (stamps : Stamps) (stored : Path → Option Rec) (decider : Decider) (now : Rec) (are : AreRecords r decider stored now) (answers : List (Option Reason)) (each : AreAnswers r tree stamps stored decider now answers) where
  abbrev due : Bool
  due = is_due r tree stamps (records_in stored) (record_in now)

  abbrev Answers : Path → ℕ → Option Reason → Type 0
  Answers p place answer = IsReason decider r.always now place (is_some (tree p)) (first_stamp stamps r.targets) (stored p) answer

  answer_at : (place : ℕ) (p : Path) → slice_get r.targets place ≡ Some p → (answer : Option Reason) × (slice_get answers place ≡ Some answer) × Answers p place answer
  answer_at place p there =
      let at = stands_at answers place (omega (arith, each.as_many, slice_get_within r.targets place p there)) in
      (at.0, at.1, each.each place p at.0 there at.1)

  is_true : (b : Bool) → due ≡ b → (due ≡ false → ⊥) → due ≡ true
  is_true true e n = e
  is_true false e n = absurd (n e)

  ends : (m : Option Reason) → Told answers m → MatchOption m (due ≡ false) (λ reason. (due ≡ true) × IsReasonOfRule r tree stamps stored decider now reason)
  ends None none = (due_alike alike r tree stamps stored decider now are).1 (λ reason h. by h.0 h.1 h.2 reason h.3 (answer_at h.1 h.0 h.2))
    where
      by : (p : Path) (place : ℕ) → slice_get r.targets place ≡ Some p → (reason : Reason) →
          Holds decider r.always now place (is_some (tree p)) (first_stamp stamps r.targets) (stored p) reason →
          (answer : Option Reason) × (slice_get answers place ≡ Some answer) × Answers p place answer → ⊥
      by p place there reason h (None, at, is) = is reason h
      by p place there reason h (Some a, at, is) = none place a at
  ends (Some reason) least =
      let target = stands_at r.targets least.place (omega (arith, each.as_many, slice_get_within answers least.place (Some reason) least.stands)) in
      let is = each.each least.place target.0 (Some reason) target.1 least.stands in
      let holds : HoldsIn r tree stamps stored decider now reason = (target.0, least.place, target.1, is.0) in (
        is_true due refl (λ e. (due_alike alike r tree stamps stored decider now are).0 e reason holds),
        record { holds = holds; first = λ other h. by other h.0 h.1 h.2 h.3 (answer_at h.1 h.0 h.2) },
      )
    where
      by : (other : Reason) (p : Path) (place : ℕ) → slice_get r.targets place ≡ Some p →
          Holds decider r.always now place (is_some (tree p)) (first_stamp stamps r.targets) (stored p) other →
          (answer : Option Reason) × (slice_get answers place ≡ Some answer) × Answers p place answer → IsBefore other reason → ⊥
      by other p place there h (None, at, is) before = is other h
      by other p place there h (Some a, at, is) before =
          not_before other a reason (none_before decider r.always now place (is_some (tree p)) (first_stamp stamps r.targets) (stored p) a other is h)
          (least.first place a at) before

  pub least_is_reason : MatchOption (least_of answers) (due ≡ false) (λ reason. (due ≡ true) × IsReasonOfRule r tree stamps stored decider now reason)
  least_is_reason = ends (least_of answers) (told answers)
