use Rattle.std.proofs.Common.{◌≡◌, ◌≤◌, ◌+◌, ◌-◌, length}
use Rattle.world_api.specs.Meaning.{Told}
use Rattle.sign_store.specs.Blocks.{LeadsTo}
use Rattle.sign_store.specs.Maps.{map_in}
use Rattle.sign_store.specs.Orders.{IsOrdered}
use Rattle.sign_store.specs.Reached.{ReadsBanks}
use Rattle.sign_store.proofs.blocks.load_bank.Given as goal

abbrev pub invariant-loop-part : goal.invariant-loop-part
invariant-loop-part g l = record {
  head : 17 ≤ l.place;
  fits : l.place ≤ l.size;
  want : l.want ≤ l.size + 131072;
  told : Told g.W.Disk.meaning l.fn.world l.world;
  looks : ReadsBanks g.W.Disk.meaning l.fn.world l.world;
  kept : g.W.Disk.meaning.counts l.world ≡ g.W.Disk.meaning.counts l.fn.world;
  size : g.W.Disk.meaning.tells l.world → l.size ≡ length (g.W.Disk.meaning.seen l.world l.bank);
  leads : g.W.Disk.meaning.tells l.world → LeadsTo l.version l.place (map_in l.fn.map) (map_in l.map) (g.W.Disk.meaning.seen l.world l.bank);
  ordered : IsOrdered l.fn.map → IsOrdered l.map;
}

abbrev pub decreases-loop-part : goal.decreases-loop-part
decreases-loop-part g l = (l.size - l.place) + (l.size + 131072 - l.want)
