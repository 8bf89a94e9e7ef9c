use Rattle.std.proofs.Common.{◌≡◌, List, take}
use Rattle.scons_base.specs.declared.ids.NodeId.{NodeId}
use Rattle.world_api.specs.Looks.{Looks}
use Rattle.sign_store.specs.Stores.{map_of_view}
use Rattle.build_model.specs.Rules.{Stamps}
use Rattle.build_means.specs.Grown.{Begun}
use Rattle.build_means.specs.Records.{records_in}
use Rattle.build_files.specs.Dueness.{HaveOwnDigests}
use Rattle.scons_report.specs.Overs.{AreListed, IsPlannedOrder, IsReadyToList}
use Rattle.scons_report.proofs.dry.list_all.Given as goal

abbrev pub invariant-loop-rule : goal.invariant-loop-rule
invariant-loop-rule g l =
    let m = g.W.Disk.meaning in
    let kept = map_of_view l.view in
    record {
      looks : Looks m l.fn.world l.world;
      counts : m.counts l.world ≡ m.counts l.fn.world;
      lists : m.tells l.world → HaveOwnDigests kept → (b : Begun) (requested : List NodeId) (stamps : Stamps) →
          IsReadyToList b requested b.tree stamps l.graph l.fn.inputs l.plan (m.around l.fn.world) →
          IsPlannedOrder l.graph l.plan requested l.order →
          IsReadyToList b requested b.tree stamps l.graph l.inputs l.plan (m.around l.world)
          × AreListed b b.tree stamps (records_in kept) l.graph (take l.rule-index l.order) l.listed;
    }
