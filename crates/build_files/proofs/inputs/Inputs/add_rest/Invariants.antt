use Rattle.std.proofs.Common.{◌≡◌, [], drop}
use Rattle.world_api.specs.Looks.{Looks}
use Rattle.build_files.specs.Kept.{SameGone, StaysTrue}
use Rattle.build_files.specs.Reading.{ReadsOnly}
use Rattle.build_files.specs.Marked.{AreGoneOverBut, KeepsSought}
use Rattle.build_files.specs.Searched.{GrowsTo}
use Rattle.build_files.proofs.inputs.Inputs.add_rest.Given as goal

abbrev pub invariant-loop-place : goal.invariant-loop-place
invariant-loop-place g l = record {
  looks : Looks g.W.Disk.meaning l.fn.world l.world;
  counts : g.W.Disk.meaning.counts l.world ≡ g.W.Disk.meaning.counts l.fn.world;
  grows : GrowsTo l.fn.graph l.graph;
  gone : SameGone l.fn.self l.self;
  only : ReadsOnly [] l.fn.self l.self;
  over : AreGoneOverBut l.fn.graph l.fn.self l.fn.rules.items → AreGoneOverBut l.graph l.self (drop l.place l.rules.items);
  sought : KeepsSought l.fn.graph l.fn.self l.graph l.self;
  truth : StaysTrue g.W.Disk.meaning l.fn.graph l.fn.self l.fn.world l.graph l.self l.world;
}
