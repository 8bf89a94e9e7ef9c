use Rattle.std.proofs.Common.{◌≡◌, ◌≤◌, length}
use Rattle.sign_store.specs.Putting.{AreHeld, AreStagedFrom, KeepsRoomsBeside, SpansIn, put_over}
use Rattle.sign_store.specs.Reached.{Writes}
use Rattle.sign_store.specs.Staging.{StaysBehind}
use Rattle.sign_store.specs.Stores.{is_live}
use Rattle.sign_store.specs.Tables.{Map}
use Rattle.sign_store.proofs.GroupLemmas.{AddedSoFar, AreAmong}
use Rattle.sign_store.proofs.store.Store.add_puts.Given as goal

abbrev pub invariant-loop-left : goal.invariant-loop-left
invariant-loop-left g l =
    let m = g.W.Disk.meaning in
    record {
      map : l.self.map ≡ l.fn.self.map;
      bank : l.self.bank ≡ l.fn.self.bank;
      behind : l.start ≤ l.self.end;
      live : is_live l.self ≡ is_live l.fn.self;
      within : m.tells l.world → SpansIn (m.seen l.world) l.self l.start;
      writes : Writes m l.fn.self.bank l.fn.world l.world;
      counts : m.counts l.world ≡ m.counts l.fn.world;
      stays : StaysBehind m l.fn.world l.world l.fn.self.bank l.start;
      staged : (from mid : Map) → AreHeld l.fn.self l.held → AreStagedFrom m l.fn.world l.fn.self l.start from mid
          → AddedSoFar m l.world l.self l.start from (put_over l.fn.self.map.records.items l.held mid) l.left;
      rooms : KeepsRoomsBeside l.held l.fn.self l.self;
      among : AreAmong l.left l.held;
    }

abbrev pub decreases-loop-left : goal.decreases-loop-left
decreases-loop-left g l = length l.left
