-- What runs by the steps runs by the plan, and a plan stays tied while actions run.
use Rattle.std.proofs.Common.{◌≡◌, ℕ, false, List, Some, refl, sym, ap, ◌∙◌, inl, inr, ◌⊎◌}
use Rattle.scons_base.specs.declared.ids.NodeId.{NodeId}
use Rattle.rule_graph.specs.Graphs.{RuleGraph, path_of}
use Rattle.task_plan.specs.States.{state_of}
use Rattle.task_plan.specs.Settled.{Kept}
use Rattle.task_plan.specs.Plans.{Planned}
use Rattle.task_plan.specs.declared.states.RuleState.{RuleState}
use Rattle.task_plan.specs.declared.states.RuleState.TheVariants.{Unneeded, Waiting, Running, Settled, Failed, Lacking}
use Rattle.build_model.specs.Rules.{Path, Tree, Rule, Among, here, there}
use Rattle.build_model.specs.Contents.{includes_of}
use Rattle.build_model.specs.Steps.{Step, Fresh, Began, Ended, Lacks, Halts, settled, done, IsReady, is_source, is_made, IsMissing, IsRunning}
use Rattle.build_model.specs.Resting.{IsFaulty, has_failed, lacks_one}
use Rattle.build_model.proofs.Runs.{settled_done}
use Rattle.build_means.specs.Grown.{Begun, begun_setting, rule_numbered}
use Rattle.plan_means.specs.Ties.{IsAt, IsSeen, Ties}
use Rattle.plan_means.specs.Stepping.{StaysSettled}

failed_done : {r : Rule} {past : List Step} → Among (Ended r false) past → Among r (done past)
failed_done here = here
failed_done (there {y = Fresh x} m) = there (failed_done m)
failed_done (there {y = Began x} m) = failed_done m
failed_done (there {y = Ended x well} m) = there (failed_done m)
failed_done (there {y = Lacks x p} m) = there (failed_done m)
failed_done (there {y = Halts} m) = failed_done m

lacking_done : {r : Rule} {p : Path} {past : List Step} → Among (Lacks r p) past → Among r (done past)
lacking_done here = here
lacking_done (there {y = Fresh x} m) = there (lacking_done m)
lacking_done (there {y = Began x} m) = lacking_done m
lacking_done (there {y = Ended x well} m) = there (lacking_done m)
lacking_done (there {y = Lacks x q} m) = there (lacking_done m)
lacking_done (there {y = Halts} m) = lacking_done m

pub faulty_done : {r : Rule} {past : List Step} → IsFaulty past r → Among r (done past)
faulty_done (has_failed m) = failed_done m
faulty_done (lacks_one p m) = lacking_done m

running_by : (past : List Step) (r : Rule) (o : RuleState) → IsAt past r o → IsRunning past r → o ≡ Running
running_by past r Unneeded at runs = absurd (at.not_began runs.began)
running_by past r Waiting at runs = absurd (at.not_began runs.began)
running_by past r Running at runs = refl
running_by past r Settled at runs = absurd (runs.not_done (settled_done past at))
running_by past r Failed at runs = absurd (runs.not_done (faulty_done at))
running_by past r Lacking at runs = absurd (runs.not_done (faulty_done at))

pub running_known : (b : Begun) (g : RuleGraph) (requested : List NodeId) (t : Tree) (past : List Step)
    (plan : Planned) (number : ℕ) (r : Rule) →
    Ties b g requested t past plan → rule_numbered b g number ≡ Some r → IsRunning past r →
    state_of plan.states number ≡ Running
running_known b g requested t past plan number r ties is runs = running_by past r (state_of plan.states number)
    (ties.states number r is) runs

module _ (b : Begun) (g : RuleGraph) (requested : List NodeId) (t u : Tree) (past : List Step) (plan : Planned)
    (stays : StaysSettled b past t u)
    (ties : Ties b g requested t past plan) where
  same_at : (p : Path) → IsReady (begun_setting b) t (settled past) p ⊎ IsMissing (begun_setting b) t p → t p ≡ u p
  same_at p (inl (is_source bytes none file)) = stays.sources p none
  same_at p (inl (is_made r is m)) = stays.made p r is m
  same_at p (inr missing) = stays.sources p missing.no_rule

  ready_stays : (p : Path) → IsReady (begun_setting b) t (settled past) p ⊎ IsMissing (begun_setting b) t p →
      IsReady (begun_setting b) u (settled past) p ⊎ IsMissing (begun_setting b) u p
  ready_stays p (inl (is_source bytes none file)) = inl (is_source bytes none (sym (stays.sources p none) ∙ file))
  ready_stays p (inl (is_made r is m)) = inl (is_made r is m)
  ready_stays p (inr missing) =
      inr (record { no_rule = missing.no_rule; no_file = sym (stays.sources p missing.no_rule) ∙ missing.no_file })

  seen_stays : (r : Rule) (kept : Kept) (file : NodeId) → IsSeen b g t past r kept file → IsSeen b g u past r kept file
  seen_stays r kept file seen = record {
    ready = ready_stays (path_of g.nodes file) seen.ready;
    includes =
        ap (λ c. includes_of ((begun_setting b).includes r (path_of g.nodes file)) (Some c))
        (sym (same_at (path_of g.nodes file) seen.ready)) ∙ seen.includes;
  }

  pub changes_keep : Ties b g requested u past plan
  changes_keep = record {
    plan_for = ties.plan_for;
    sees = record {
      each = λ number kept r needed at numbered file h. seen_stays r kept file
          (ties.sees.each number kept r needed at numbered file h);
      files = ties.sees.files;
      nodes = ties.sees.nodes;
    };
    scanned = ties.scanned;
    sources = ties.sources;
    asked = ties.asked;
    states = ties.states;
    numbered = ties.numbered;
  }
