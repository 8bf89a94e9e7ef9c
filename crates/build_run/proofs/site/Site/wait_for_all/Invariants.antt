use Rattle.std.proofs.Common.{◌≡◌, ◌≤◌, ◌+◌, true, length}
use Rattle.build_run.specs.Along.{StaysAlong}
use Rattle.build_run.specs.Endings.{SiteCounts}
use Rattle.build_run.specs.FaultTexts.{SiteKeepsTold}
use Rattle.build_run.specs.Faulted.{SiteKeepsFaulted}
use Rattle.build_run.specs.Output.{IsQuiet}
use Rattle.build_run.specs.Noted.{SiteStaysNoting}
use Rattle.build_run.specs.Reasons.{SiteKeepsReason}
use Rattle.build_run.specs.Safe.{SiteGoesSafely}
use Rattle.build_run.specs.Sites.{IsSound, SiteAccounts, SitePasses}
use Rattle.build_run.proofs.site.Site.wait_for_all.Given as goal

abbrev pub invariant-loop-turn : goal.invariant-loop-turn
invariant-loop-turn g l =
    let m = g.W.Disk.meaning in
    record {
      passes : SitePasses m l.fn.self l.self;
      accounts : SiteAccounts m g.O.Sink.meaning g.E.Sink.meaning l.fn.self l.self;
      left : m.tells l.self.world.now → length l.self.run.now.tickets + l._turn ≤ l.running;
      sound : IsSound m l.self;
      safe : SiteGoesSafely m l.fn.self l.self;
      quiet : IsQuiet m l.fn.self l.self;
      reason : SiteKeepsReason l.fn.self l.self;
      texts : SiteKeepsTold g.E.Sink.meaning l.fn.self l.self;
      noting : SiteStaysNoting l.fn.self l.self;
      counts : SiteCounts m l.fn.self l.self;
      faulted : SiteKeepsFaulted m l.fn.self l.self;
      same : l._turn ≡ 0 → l.self ≡ l.fn.self;
      halted : l.fn.self.run.now.plan.halted ≡ true → l.self.run.now.plan.halted ≡ true;
      along : l.fn.self.run.now.plan.halted ≡ true → StaysAlong m l.fn.self l.self;
    }
