use Rattle.std.proofs.Common.{◌≡◌, take}
use Rattle.world_api.specs.Looks.{Looks}
use Rattle.build_model.specs.Rules.{Rule}
use Rattle.build_means.specs.Grown.{Begun}
use Rattle.build_means.specs.Rules.{decider_of, paths_of}
use Rattle.build_files.specs.Kept.{AreTrue, SameGone, StaysTrue, past, stamp_past}
use Rattle.build_files.specs.Marked.{KeepsMarks}
use Rattle.build_files.specs.Presence.{AreStill}
use Rattle.build_files.specs.Reading.{ReadsOnly}
use Rattle.build_files.proofs.Presence.{AreThere}
use Rattle.build_files.proofs.inputs.Inputs.present.Given as goal

abbrev pub invariant-loop-node : goal.invariant-loop-node
invariant-loop-node g l =
    let m = g.W.Disk.meaning in
    record {
      looks : Looks m l.fn.world l.world;
      counts : m.counts l.world ≡ m.counts l.fn.world;
      gone : SameGone l.fn.self l.self;
      only : ReadsOnly l.nodes l.fn.self l.self;
      marks : KeepsMarks l.graph l.fn.self l.graph l.self;
      truth : AreStill l.graph (m.around l.fn.world) l.nodes → StaysTrue m l.graph l.fn.self l.fn.world l.graph l.self l.world;
      there : AreStill l.graph (m.around l.fn.world) l.nodes → m.tells l.world → (b : Begun) → AreTrue b l.graph l.fn.self (m.around l.fn.world)
          → (r : Rule) → r.decider ≡ decider_of l.decider
          → AreThere b r (past l.fn.self.gone.keys (m.around l.fn.world).tree) (stamp_past l.fn.self.gone.keys (m.around l.fn.world))
          (paths_of l.graph (take l.node-index l.nodes)) l.deps.items;
    }
