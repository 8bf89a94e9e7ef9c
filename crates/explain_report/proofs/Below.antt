-- No reason holds below a number, where none of those holds that have a smaller one.
use Rattle.std.proofs.Common.{◌≡◌, ℕ, Bool, true, false, map, Option, Some, sym, ◌∙◌, arith, zip}
use Rattle.world_api.specs.declared.decider.Decider.{Decider}
use Rattle.deciders.specs.declared.recorded.Rec.{Rec}
use Rattle.deciders.specs.Records.{name_of}
use Rattle.build_means.proofs.Lists.{true_false, none_some}
use Rattle.explain_report.specs.declared.reason.Reason.{Reason}
use Rattle.explain_report.specs.declared.reason.Reason.TheVariants.{Always, Absent, NoRecord, Action, Newly, Gone, Moved, Changed}
use Rattle.explain_report.specs.Reasons.{Somewhere, IsSameWork, IsNew, Differs, Holds, NoneBelow}
use Rattle.explain_report.proofs.Firsts.{first_some}

module _ (decider : Decider) (always : Bool) (now : Rec) (place : ℕ) (present : Bool) (stamp : Option ℕ) (old : Option Rec) where
  pub below_always : NoneBelow 1 decider always now place present stamp old
  below_always (Always x) lt h = omega arith
  below_always (Absent x) lt h = omega arith
  below_always (NoRecord x) lt h = omega arith
  below_always (Action x) lt h = omega arith
  below_always (Newly x d) lt h = omega arith
  below_always (Gone x d) lt h = omega arith
  below_always (Moved x) lt h = omega arith
  below_always (Changed x d) lt h = omega arith

  pub below_absent : always ≡ false → NoneBelow 2 decider always now place present stamp old
  below_absent e (Always x) lt h = true_false (sym h.1 ∙ e)
  below_absent e (Absent x) lt h = omega arith
  below_absent e (NoRecord x) lt h = omega arith
  below_absent e (Action x) lt h = omega arith
  below_absent e (Newly x d) lt h = omega arith
  below_absent e (Gone x d) lt h = omega arith
  below_absent e (Moved x) lt h = omega arith
  below_absent e (Changed x d) lt h = omega arith

  pub below_no_record : always ≡ false → present ≡ true → NoneBelow 3 decider always now place present stamp old
  below_no_record e f (Always x) lt h = true_false (sym h.1 ∙ e)
  below_no_record e f (Absent x) lt h = true_false (sym f ∙ h.1)
  below_no_record e f (NoRecord x) lt h = omega arith
  below_no_record e f (Action x) lt h = omega arith
  below_no_record e f (Newly x d) lt h = omega arith
  below_no_record e f (Gone x d) lt h = omega arith
  below_no_record e f (Moved x) lt h = omega arith
  below_no_record e f (Changed x d) lt h = omega arith

-- a file that has a record, of a rule that isn't always built
module _ (decider : Decider) (now : Rec) (place : ℕ) (stamp : Option ℕ) (old : Rec) where
  abbrev Below : ℕ → Type 0
  Below n = NoneBelow n decider false now place true stamp (Some old)

  pub below_action : Below 4
  below_action (Always x) lt h = true_false (sym h.1)
  below_action (Absent x) lt h = true_false h.1
  below_action (NoRecord x) lt h = none_some (sym h.1)
  below_action (Action x) lt h = omega arith
  below_action (Newly x d) lt h = omega arith
  below_action (Gone x d) lt h = omega arith
  below_action (Moved x) lt h = omega arith
  below_action (Changed x d) lt h = omega arith

  module _ (work : IsSameWork old now) where
    pub below_newly : Below 5
    below_newly (Always x) lt h = true_false (sym h.1)
    below_newly (Absent x) lt h = true_false h.1
    below_newly (NoRecord x) lt h = none_some (sym h.1)
    below_newly (Action x) lt h = h.1 work
    below_newly (Newly x d) lt h = omega arith
    below_newly (Gone x d) lt h = omega arith
    below_newly (Moved x) lt h = omega arith
    below_newly (Changed x d) lt h = omega arith

    module _ (none_new : Somewhere (IsNew old.deps) now.deps → ⊥) where
      pub below_gone : Below 6
      below_gone (Always x) lt h = true_false (sym h.1)
      below_gone (Absent x) lt h = true_false h.1
      below_gone (NoRecord x) lt h = none_some (sym h.1)
      below_gone (Action x) lt h = h.1 work
      below_gone (Newly x d) lt h = none_new (first_some (IsNew old.deps) 0 now.deps d h.1)
      below_gone (Gone x d) lt h = omega arith
      below_gone (Moved x) lt h = omega arith
      below_gone (Changed x d) lt h = omega arith

      module _ (none_gone : Somewhere (IsNew now.deps) old.deps → ⊥) where
        pub below_moved : Below 7
        below_moved (Always x) lt h = true_false (sym h.1)
        below_moved (Absent x) lt h = true_false h.1
        below_moved (NoRecord x) lt h = none_some (sym h.1)
        below_moved (Action x) lt h = h.1 work
        below_moved (Newly x d) lt h = none_new (first_some (IsNew old.deps) 0 now.deps d h.1)
        below_moved (Gone x d) lt h = none_gone (first_some (IsNew now.deps) 0 old.deps d h.1)
        below_moved (Moved x) lt h = omega arith
        below_moved (Changed x d) lt h = omega arith

        module _ (names : map name_of now.deps ≡ map name_of old.deps) where
          pub below_changed : Below 8
          below_changed (Always x) lt h = true_false (sym h.1)
          below_changed (Absent x) lt h = true_false h.1
          below_changed (NoRecord x) lt h = none_some (sym h.1)
          below_changed (Action x) lt h = h.1 work
          below_changed (Newly x d) lt h = none_new (first_some (IsNew old.deps) 0 now.deps d h.1)
          below_changed (Gone x d) lt h = none_gone (first_some (IsNew now.deps) 0 old.deps d h.1)
          below_changed (Moved x) lt h = h.1 names
          below_changed (Changed x d) lt h = omega arith

          pub none_holds : (Somewhere (Differs decider stamp) (zip old.deps now.deps) → ⊥) → (reason : Reason) →
              Holds decider false now place true stamp (Some old) reason → ⊥
          none_holds none (Always x) h = true_false (sym h.1)
          none_holds none (Absent x) h = true_false h.1
          none_holds none (NoRecord x) h = none_some (sym h.1)
          none_holds none (Action x) h = h.1 work
          none_holds none (Newly x d) h = none_new (first_some (IsNew old.deps) 0 now.deps d h.1)
          none_holds none (Gone x d) h = none_gone (first_some (IsNew now.deps) 0 old.deps d h.1)
          none_holds none (Moved x) h = h.1 names
          none_holds none (Changed x d) h = none (first_some (Differs decider stamp) 0 (zip old.deps now.deps) d h.1)
