use Rattle.std.proofs.Common.{◌≡◌, ◌∙◌, subst, sym, refl, ap, [], ◌∷◌, Some, None}
use Rattle.build_model.specs.Rules.{Path, Record}
use Rattle.sign_store.specs.Ends.{image_in}
use Rattle.sign_store.specs.Tables.{Map, nothing}
use Rattle.build_means.specs.Records.{records_in}
use Rattle.build_run.specs.Safe.{BuildsSafely}
use Rattle.world_mem.specs.AsAround.{around_of}
use Rattle.scons_base.specs.declared.ids.NodeId.{NodeId}
use Rattle.rule_graph.specs.Graphs.{RuleGraph}
use Rattle.sign_store.specs.Stores.{map_of}
use Rattle.build_means.specs.Builds.{Wanted, setting_in}
use Rattle.build_run.specs.Outsets.{wanted_of, BuildRuns, BuildSucceeds}
use Rattle.world_mem.specs.Means.{world_meaning}
use Rattle.build_samples.specs.Copies.{copy_graph, target_node}
use Rattle.build_samples.specs.Samples.{options, wanted}
use Rattle.build_samples.proofs.sample.built.Goals as goal

asked : (g : RuleGraph) (node : NodeId) → g ≡ copy_graph → node ≡ target_node → wanted_of g (node ∷ []) options ≡ wanted
asked g node graph target =
    ap (λ (g : RuleGraph). wanted_of g (node ∷ []) options) graph ∙ ap (λ (n : NodeId). wanted_of copy_graph (n ∷ []) options) target

-- where no record is kept none is found
none_recorded : {P : Type 0} (map : Map) (path : Path) (rec : Record) → map ≡ nothing → records_in map path ≡ Some rec → P
none_recorded map path rec empty e =
    let none : None ≡ Some rec = sym (ap (λ (kept : Map). records_in kept path) empty) ∙ e in
    absurd (cc)

pub build-end-requires : goal.build-end-requires
build-end-requires c =
    let outset = c.requires.outset in
    record { unclosed = refl; idle = λ told. outset.idle; live = outset.live; kept = outset.kept }

pub returns : goal.returns
returns c =
    let old = c.args.begun.0 in
    let store = c.args.begun.1 in
    let map = map_of store in
    let new = c.build-end.new.world in
    let behind = map_of c.build-end.new.store in
    let asks = asked c.args.graph c.args.target c.requires.graph c.requires.target in
    record {
      old = old;
      store = store;
      outset = c.requires.outset;
      runs = subst (λ (w : Wanted). BuildRuns world_meaning w map old new behind c.build-end.result) asks c.build-end.ensures.runs tt tt refl;
      succeeds = λ none enough.
          subst (λ (w : Wanted). BuildSucceeds world_meaning w map old new behind c.build-end.result) asks c.build-end.ensures.succeeds none enough
          tt tt refl;
      safe = subst (λ (w : Wanted). BuildsSafely world_meaning w old new) asks c.build-end.ensures.safe (setting_in wanted (around_of old.state))
          (λ told sure. record { acts = refl; digests = refl })
          (λ told sure banks image left is_left.
          let empty = (c.requires.outset.kept.each told banks image).image ∙ c.requires.outset.empty in
          record {
            at_targets = λ path rec e. none_recorded (image_in banks) path rec empty e;
            true_of_files = λ path rec bytes e file. none_recorded (image_in banks) path rec empty e;
          })
          refl;
    }
