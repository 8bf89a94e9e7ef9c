use Rattle.std.proofs.Common.{◌≡◌, take}
use Rattle.sign_store.specs.Ends.{image_in}
use Rattle.build_files.specs.Leftovers.{AtRest}
use Rattle.scons_top.specs.Finding.{AreOf}
use Rattle.scons_top.specs.Naming.{AreThere}
use Rattle.scons_top.specs.Requested.{KnowsNodes}
use Rattle.scons_top.specs.Watching.{Watches}
use Rattle.scons_top.proofs.members.check_members.Given as goal

abbrev pub invariant-loop-member : goal.invariant-loop-member
invariant-loop-member g l = record {
  watches : Watches g.W.Disk.meaning l.fn.world l.world;
  same : g.W.Disk.meaning.counts l.world ≡ g.W.Disk.meaning.counts l.fn.world;
  knows : KnowsNodes l.graph l.fn.lookups.below → KnowsNodes l.graph l.lookups.below;
  of : AreOf g.W.Disk.meaning l.graph l.fn.world l.fn.lookups → AreOf g.W.Disk.meaning l.graph l.world l.lookups;
  there : AreOf g.W.Disk.meaning l.graph l.fn.world l.fn.lookups → AtRest g.W.Disk.meaning l.world →
      AreThere l.graph (g.W.Disk.meaning.around l.world) (image_in (g.W.Disk.meaning.seen l.world)) (take l.member-index l.members);
}
