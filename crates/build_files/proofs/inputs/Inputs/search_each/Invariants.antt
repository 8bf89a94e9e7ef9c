use Rattle.std.proofs.Common.{◌≡◌, [], List, take}
use Rattle.world_api.specs.Looks.{Looks}
use Rattle.build_model.specs.Rules.{Path}
use Rattle.build_means.specs.Grown.{Begun}
use Rattle.build_files.specs.Kept.{AreTrue, SameGone, StaysTrue}
use Rattle.build_files.specs.Reading.{ReadsOnly}
use Rattle.build_files.specs.Marked.{KeepsMarks}
use Rattle.build_files.specs.Searched.{AreDirs, AreNodesOf, HasMore, meant}
use Rattle.build_files.proofs.inputs.Inputs.search_each.Given as goal

abbrev pub invariant-loop-include : goal.invariant-loop-include
invariant-loop-include g l = record {
  looks : Looks g.W.Disk.meaning l.fn.world l.world;
  counts : g.W.Disk.meaning.counts l.world ≡ g.W.Disk.meaning.counts l.fn.world;
  grows : HasMore l.fn.graph l.graph;
  gone : SameGone l.fn.self l.self;
  only : ReadsOnly [] l.fn.self l.self;
  marks : KeepsMarks l.fn.graph l.fn.self l.graph l.self;
  truth : StaysTrue g.W.Disk.meaning l.fn.graph l.fn.self l.fn.world l.graph l.self l.world;
  found : (paths : List Path) (file : Path) → AreDirs l.dirs paths file → g.W.Disk.meaning.tells l.world → (b : Begun)
      → AreTrue b l.fn.graph l.fn.self (g.W.Disk.meaning.around l.fn.world)
      → AreNodesOf l.graph (meant b paths file (take l.include-index l.includes)) l.found.items;
}
