use Rattle.std.proofs.Common.{◌≡◌, ℕ, ◌<◌, List, None, get_or, Contains}
use Rattle.build_run.specs.Goings.{ClearsAt, Stays}
use Rattle.build_run.specs.Takes.{Takes}
use Rattle.build_run.specs.Safe.{GoesSafely}
use Rattle.build_run.proofs.clear.remove_all.Given as goal

abbrev pub invariant-loop-target : goal.invariant-loop-target
invariant-loop-target g l =
    let m = g.W.Disk.meaning in
    record {
      stays : Stays m l.fn.world l.world;
      same : m.counts l.world ≡ m.counts l.fn.world;
      gone : m.tells l.world → (k : ℕ) (d : List ℕ) → k < l.target-index → (m.around l.world).tree (get_or l.targets k d) ≡ None;
      only : Takes m l.fn.world l.world (Contains l.targets);
      safe : GoesSafely m l.fn.world l.world;
      clears : ClearsAt m l.targets l.fn.world l.world;
    }
