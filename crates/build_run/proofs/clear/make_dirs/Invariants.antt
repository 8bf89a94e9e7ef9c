use Rattle.std.proofs.Common.{◌≡◌, []}
use Rattle.build_run.specs.Goings.{ClearsAt, Stays}
use Rattle.build_run.specs.Safe.{GoesSafely}
use Rattle.build_run.proofs.clear.make_dirs.Given as goal

abbrev pub invariant-loop-target : goal.invariant-loop-target
invariant-loop-target g l =
    let m = g.W.Disk.meaning in
    record {
      stays : Stays m l.fn.world l.world;
      same : m.counts l.world ≡ m.counts l.fn.world;
      safe : GoesSafely m l.fn.world l.world;
      clears : ClearsAt m [] l.fn.world l.world;
    }
