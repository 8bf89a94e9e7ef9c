use Rattle.std.proofs.Common.{◌≡◌}
use Rattle.world_api.specs.Looks.{Looks}
use Rattle.build_files.specs.Leftovers.{AtRest}
use Rattle.build_files.proofs.Left.{AreLeftSoFar}
use Rattle.build_files.proofs.leftovers.leftovers_of.Given as goal

abbrev pub invariant-loop-rec : goal.invariant-loop-rec
invariant-loop-rec g l =
    let m = g.W.Disk.meaning in
    record {
      looks : Looks m l.fn.world l.world;
      counts : m.counts l.world ≡ m.counts l.fn.world;
      left : AtRest m l.world → AreLeftSoFar l.graph (m.around l.world) l.copies l.rec-index l.left;
    }
