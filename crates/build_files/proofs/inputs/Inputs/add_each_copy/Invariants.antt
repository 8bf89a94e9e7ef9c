use Rattle.std.proofs.Common.{◌≡◌, [], take}
use Rattle.world_api.specs.Looks.{Looks}
use Rattle.build_files.specs.Kept.{SameGone, StaysTrue}
use Rattle.build_files.specs.Reading.{ReadsOnly}
use Rattle.build_files.specs.Marked.{AreAllSought, PutsBehind}
use Rattle.build_files.specs.Searched.{GrowsTo}
use Rattle.build_files.proofs.inputs.Inputs.add_each_copy.Given as goal

abbrev pub invariant-loop-node : goal.invariant-loop-node
invariant-loop-node g l = record {
  looks : Looks g.W.Disk.meaning l.fn.world l.world;
  counts : g.W.Disk.meaning.counts l.world ≡ g.W.Disk.meaning.counts l.fn.world;
  grows : GrowsTo l.fn.graph l.graph;
  gone : SameGone l.fn.self l.self;
  only : ReadsOnly [] l.fn.self l.self;
  puts : PutsBehind l.fn.graph l.fn.self l.graph l.self l.fn.rules.items l.rules.items;
  sought : AreAllSought l.graph l.self (take l.node-index l.nodes);
  truth : StaysTrue g.W.Disk.meaning l.fn.graph l.fn.self l.fn.world l.graph l.self l.world;
}
