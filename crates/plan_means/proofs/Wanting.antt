-- A file that a tied plan wants scanned next may be scanned.
use Rattle.std.proofs.Common.{◌≡◌, ◌≢◌, ℕ, true, List, ◌++◌, sym, ap, ◌∙◌}
use Rattle.std.specs.Prelude.{slice_get}
use Rattle.scons_base.specs.declared.ids.NodeId.{NodeId}
use Rattle.rule_graph.specs.Graphs.{RuleGraph}
use Rattle.task_plan.specs.States.{state_of}
use Rattle.task_plan.specs.Named.{stands}
use Rattle.task_plan.specs.Settled.{Kept}
use Rattle.task_plan.specs.Plans.{Planned, IsScannedNext}
use Rattle.task_plan.specs.declared.states.RuleState.TheVariants.{Unneeded}
use Rattle.task_plan.proofs.AdmitLemmas.{waits_needed}
use Rattle.task_plan.proofs.MetNeeds.{stands_at}
use Rattle.build_model.specs.Rules.{Tree}
use Rattle.build_model.specs.Steps.{Step}
use Rattle.build_model.proofs.Lists.{some_same}
use Rattle.build_means.specs.Grown.{Begun}
use Rattle.build_means.proofs.Lists.{or_second}
use Rattle.plan_means.specs.Planning.{IsGraphNow}
use Rattle.plan_means.specs.Ties.{Ties}
use Rattle.plan_means.specs.Scanning.{MayBeScanned}
use Rattle.plan_means.proofs.Names.{stands_all}
use Rattle.plan_means.proofs.Knowing.{Knows, knows, in_needs, need_below, done_ready}

module _ (b : Begun) (g : RuleGraph) (requested : List NodeId) (t : Tree) (past : List Step) (plan : Planned)
    (number : ℕ)
    (file : NodeId) (now : IsGraphNow b g) (ties : Ties b g requested t past plan)
    (next : IsScannedNext plan number file) where
  abbrev needed : state_of plan.states number ≢ Unneeded
  needed = waits_needed g plan number next.ready.waits

  abbrev k : Knows b g plan number
  k = knows b g requested t past plan now ties number needed

  in_files : stands k.kept.files file ≡ true
  in_files =
      let same : next.ready.kept ≡ k.kept = some_same (sym next.ready.at ∙ k.at) in
      stands_at k.kept.files next.ready.place file (ap (λ (x : Kept). slice_get x.files next.ready.place) (sym same)
      ∙ next.ready.is_file)

  in_deps : stands k.kept.deps file ≡ true
  in_deps =
      ap (λ (l : List NodeId). stands l file) k.keeps.follows.deps ∙ stands_all k.kept.named k.kept.files file
      ∙ or_second (stands k.kept.named file) (stands k.kept.files file) in_files

  need : stands (k.kept.required ++ k.kept.deps) file ≡ true
  need = in_needs k.kept.required k.kept.deps file in_deps

  pub may_be_scanned : MayBeScanned b g t past number file
  may_be_scanned = record {
    rule = k.rule;
    is = k.numbered;
    node = need_below b g requested t past plan now ties number needed file need;
    ready = done_ready b g requested t past plan now ties number needed file need next.ready.can.done;
  }
