use Rattle.build_run.specs.Along.{StaysAlong}
use Rattle.build_run.specs.Endings.{SiteCounts}
use Rattle.build_run.specs.FaultTexts.{SiteKeepsTold}
use Rattle.build_run.specs.Faulted.{GoesFaulted}
use Rattle.build_run.specs.Output.{PrintsAlong}
use Rattle.build_run.specs.Noted.{SiteStaysNoting}
use Rattle.build_run.specs.Reasons.{SiteKeepsReason}
use Rattle.build_run.specs.Safe.{TurnsSafely}
use Rattle.build_run.specs.Sites.{IsSound, SiteAccounts, SitePasses}
use Rattle.build_run.proofs.site.Site.take_turns.Given as goal

abbrev pub invariant-loop-turn : goal.invariant-loop-turn
invariant-loop-turn g l =
    let m = g.W.Disk.meaning in
    record {
      passes : SitePasses m l.fn.self l.self;
      accounts : SiteAccounts m g.O.Sink.meaning g.E.Sink.meaning l.fn.self l.self;
      sound : IsSound m l.self;
      along : StaysAlong m l.fn.self l.self;
      printing : PrintsAlong m g.O.Sink.meaning l.fn.self l.self;
      safe : TurnsSafely m l.fn.self l.self;
      reason : SiteKeepsReason l.fn.self l.self;
      texts : SiteKeepsTold g.E.Sink.meaning l.fn.self l.self;
      noting : SiteStaysNoting l.fn.self l.self;
      counts : SiteCounts m l.fn.self l.self;
      faulted : GoesFaulted m l.fn.self l.self;
    }
