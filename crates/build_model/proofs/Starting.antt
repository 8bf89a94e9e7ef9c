-- A build that ended well settled each rule that is needed, and started exactly those that are due.
use Rattle.std.proofs.Common.{List, ◌∷◌, inl, inr, ◌⊎◌}
use Rattle.build_model.specs.Rules.{Rule, Setting, Among}
use Rattle.build_model.specs.Contents.{in_tree, found_in}
use Rattle.build_model.specs.Needs.{IsCycle}
use Rattle.build_model.specs.Stale.{IsDue}
use Rattle.build_model.specs.Steps.{Step, Fresh, Build, settled, began, Succeeds, present_record}
use Rattle.build_model.specs.Laws.{TestsDue, IsBuild, NeededIn, AnyDecider}
use Rattle.build_model.proofs.Ready.{tree_agrees, wanted_needed}
use Rattle.build_model.proofs.Runs.{begun_prepared, began_due, fresh_of, fresh_or_began, began_once, needed_settled, no_cycle}

module _ (s : Setting) (b : Build) (steps : List Step) (build : IsBuild s b steps) where
  tree_needed : {r : Rule} → Among r (began steps) → NeededIn s b (in_tree b.after) r
  tree_needed m = wanted_needed s b (begun_prepared s b steps build.run m).wanted (tree_agrees s b (settled steps))

  began_if_due : {r : Rule} → TestsDue s b r → IsDue b.before b.stamps_before b.records r (present_record s b r) →
      Among (Fresh r) steps ⊎ Among r (began steps) → Among r (began steps)
  began_if_due tests due (inr m) = m
  began_if_due {r} tests due (inl m) =
      absurd (tests.spared (fresh_of s b m build.run).not_due due)

  pub any_decider : ((r : Rule) → NeededIn s b (in_tree b.after) r → TestsDue s b r) → Succeeds s b steps → AnyDecider s b steps
  any_decider tests succeeds = record {
    needed = λ r needed. needed_settled s b (in_tree b.after) steps build.run (tree_agrees s b (settled steps)) succeeds needed;
    starts = record {
      only = λ r m. (tree_needed m, (tests r (tree_needed m)).due (began_due s b steps build.run m));
      all = λ r needed due. began_if_due (tests r needed) due (fresh_or_began s b steps build.run
          (needed_settled s b (in_tree b.after) steps build.run (tree_agrees s b (settled steps)) succeeds needed));
      once = began_once s b steps build.run;
    };
  }

  pub none_over_cycle : (r : Rule) (rs : List Rule) → Succeeds s b steps → NeededIn s b (in_tree b.after) r →
      IsCycle s.rule_of (found_in s (in_tree b.after)) (r ∷ rs) → ⊥
  none_over_cycle r rs succeeds needed cycle =
      no_cycle s b (in_tree b.after) steps r rs build.run (tree_agrees s b (settled steps)) succeeds needed cycle
