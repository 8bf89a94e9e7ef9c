use Rattle.std.proofs.Common.{◌≡◌, ◌∷◌, [], None, take}
use Rattle.std.specs.Prelude.{find, flat_map}
use Rattle.world_api.specs.Looks.{Looks}
use Rattle.build_means.specs.Copies.{is_known}
use Rattle.build_means.specs.Grown.{Begun}
use Rattle.build_files.specs.Kept.{AreTrue, SameGone, StaysTrue}
use Rattle.build_files.specs.Reading.{ReadsOnly}
use Rattle.build_files.specs.Marked.{KeepsMarks}
use Rattle.build_files.specs.Searched.{HasMore}
use Rattle.build_files.proofs.inputs.Inputs.search_places.Given as goal

abbrev pub invariant-loop-path : goal.invariant-loop-path
invariant-loop-path g l = record {
  looks : Looks g.W.Disk.meaning l.fn.world l.world;
  counts : g.W.Disk.meaning.counts l.world ≡ g.W.Disk.meaning.counts l.fn.world;
  grows : HasMore l.fn.graph l.graph;
  gone : SameGone l.fn.self l.self;
  only : ReadsOnly [] l.fn.self l.self;
  marks : KeepsMarks l.fn.graph l.fn.self l.graph l.self;
  truth : StaysTrue g.W.Disk.meaning l.fn.graph l.fn.self l.fn.world l.graph l.self l.world;
  passed : g.W.Disk.meaning.tells l.world → (b : Begun) → AreTrue b l.fn.graph l.fn.self (g.W.Disk.meaning.around l.fn.world)
      → find (is_known b.graph b.tree) (flat_map (λ path. path ∷ []) (take l.path-index l.path-items)) ≡ None;
}
