use Rattle.std.proofs.Common.{◌≡◌, true}
use Rattle.sign_store.specs.Stores.{IsKept, is_live}
use Rattle.build_run.specs.Goings.{Goes}
use Rattle.build_run.specs.Outsets.{Leaves}
use Rattle.build_run.specs.Safe.{TakesSafely}
use Rattle.build_run.specs.Takes.{Takes, IsTargetOf}
use Rattle.build_run.proofs.Taking.{AreTakenSoFar}
use Rattle.build_run.proofs.leftovers.take_each.Given as goal

abbrev pub invariant-loop-rec : goal.invariant-loop-rec
invariant-loop-rec g l =
    let m = g.W.Disk.meaning in
    record {
      goes : Goes m l.fn.world l.world;
      same : m.counts l.world ≡ m.counts l.fn.world;
      live : is_live l.store ≡ true;
      kept : IsKept m l.world l.store;
      gone : m.tells l.world → AreTakenSoFar l.left l.rec-index (m.around l.world);
      only : Takes m l.fn.world l.world (IsTargetOf l.left);
      safe : TakesSafely m (IsTargetOf l.left) l.fn.world l.world;
      rest : Leaves m l.fn.world l.fn.store l.world l.store (IsTargetOf l.left);
    }
