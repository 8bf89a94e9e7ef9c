use Rattle.std.proofs.Common.{◌≡◌, length}
use Rattle.sign_store.specs.Putting.{AreTickets, map_with}
use Rattle.sign_store.specs.Stores.{KeepsBanks, KeepsTickets, is_live}
use Rattle.sign_store.proofs.GroupLemmas.{AreAmong, FreedSoFar, SetSoFar}
use Rattle.sign_store.proofs.store.Store.set_each.Given as goal

abbrev pub invariant-loop-left : goal.invariant-loop-left
invariant-loop-left g l = record {
  map : AreTickets l.fn.self l.held → SetSoFar l.self.map l.left (map_with l.fn.self l.held);
  freed : FreedSoFar l.held l.left l.fn.self.rooms.items l.self.rooms.items;
  records : l.self.map.records.items ≡ l.fn.self.map.records.items;
  tickets : KeepsTickets l.fn.self l.self;
  live : is_live l.self ≡ is_live l.fn.self;
  banks : KeepsBanks l.fn.self l.self;
  among : AreAmong l.left l.held;
}

abbrev pub decreases-loop-left : goal.decreases-loop-left
decreases-loop-left g l = length l.left
