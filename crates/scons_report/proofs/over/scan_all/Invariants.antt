use Rattle.std.proofs.Common.{◌≡◌, List}
use Rattle.scons_base.specs.declared.ids.NodeId.{NodeId}
use Rattle.world_api.specs.Looks.{Looks}
use Rattle.build_model.specs.Rules.{Tree}
use Rattle.build_means.specs.Grown.{Begun}
use Rattle.scons_report.specs.Overs.{IsOver}
use Rattle.scons_report.proofs.over.scan_all.Given as goal

abbrev pub invariant-loop-turn : goal.invariant-loop-turn
invariant-loop-turn g l =
    let m = g.W.Disk.meaning in
    record {
      looks : Looks m l.fn.world l.world;
      counts : m.counts l.world ≡ m.counts l.fn.world;
      gone : l.inputs.gone ≡ l.fn.inputs.gone;
      over : m.tells l.world → (b : Begun) (requested : List NodeId) (t : Tree) →
          IsOver b requested t l.fn.graph l.fn.inputs l.fn.plan (m.around l.fn.world) → IsOver b requested t l.graph l.inputs l.plan (m.around l.world);
    }
