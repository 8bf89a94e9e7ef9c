use Rattle.build_run.proofs.Noting.{noting_on}
use Rattle.std.proofs.Common.{refl, rules}
use Rattle.build_run.proofs.Stopping.{site_rests}
use Rattle.build_run.proofs.Turning.{turn_then, turns_on}
use Rattle.build_run.proofs.Alongs.{along_on, memory_along, rests_by, rests_halted, turn_along}
use Rattle.build_run.proofs.Printing.{prints_on, quiet_prints, turn_prints}
use Rattle.build_run.specs.Ledgers.{ledger_of}
use Rattle.build_run.proofs.Causing.{wanted}
use Rattle.build_run.proofs.Sites.{site_on}
use Rattle.build_run.proofs.Endings.{counts_still, site_counts_on, site_counts_tell}
use Rattle.build_run.proofs.Faulted.{turns_faulted, wants_faulted}
use Rattle.build_run.proofs.site.Site.take_turns.Goals as goal

pub loop-turn-preserved : goal.loop-turn-preserved
loop-turn-preserved g c =
    let m = g.W.Disk.meaning in
    let before = c.loop-turn.invariant in
    let turn = c.take_turn-done.ensures in
    let tell = c.tell.ensures in
    let p = site_on m _ _ _ (site_on m _ _ _ before.passes turn.passes) tell.passes in
    let told = site_on m _ _ _ turn.passes tell.passes in
    record {
      passes = record {
        same = record { graph = p.same.graph; store = p.same.store; world = p.same.world; out = p.same.out; err = p.same.err; run = p.same.run; account = p.same.account; options = p.same.options };
        passes = p.passes;
      };
      accounts = λ start a. tell.accounts start (turn.ends start (before.accounts start a));
      sound = tell.sound turn.sound;
      along = along_on m _ _ _ told.passes.told before.along
          (turn_along m _ _ _ _ tell.passes.passes.told turn.passes.same.options _ (c.want-wanted.ensures.wanted (search rules)) turn.along tell.along);
      counts = site_counts_on m c.args.self.now c.take_turn-done.new.self c.tell.new.self tell.passes.passes.told.told
          (site_counts_on m c.args.self.now c.loop-turn.self c.take_turn-done.new.self turn.passes.passes.told.told before.counts turn.counts)
          (site_counts_tell m c.take_turn-done.new.self c.tell.new.self tell.still tell.want);
      faulted = turns_faulted m c.args.self.now c.loop-turn.self c.take_turn-done.new.self c.tell.new.self _ _ tell.passes.passes.told turn.passes.passes.told (c.want-wanted.ensures.wanted (search rules)) before.along before.faulted
          turn.faulted tell.faulted;
      safe = turns_on m _ _ _ before.passes.passes.told told.passes.told before.along before.safe
          (turn_then m _ _ _ tell.passes.passes.told (turn.safe (c.want-wanted.ensures.wanted (search rules))) tell.safe);
      printing = prints_on m g.O.Sink.meaning _ _ _ told.passes.told before.along before.printing
          (turn_prints m g.O.Sink.meaning _ _ _ _ _ tell.passes.passes.told (c.want-wanted.ensures.wanted (search rules)) turn.printing tell.quiet tell.still
          tell.ends);
      texts = λ start has. tell.texts start (turn.texts start (before.texts start has));
      reason = λ r. tell.reason turn.last (turn.reason (before.reason r));
      noting = λ n. tell.noting turn.fails (noting_on c.loop-turn.self c.take_turn-done.new.self turn.plan turn.noted (before.noting n));
    }

pub returns-then-eq-clause-still : goal.returns-then-eq-clause-still
returns-then-eq-clause-still g c =
    rests_by g.W.Disk.meaning c.args.self.now c.loop-turn.self c.loop-turn.invariant.along (c.want-wanted.ensures.still (search rules))

pub returns-clause-still : goal.returns-clause-still
returns-clause-still g c = rests_halted g.W.Disk.meaning c.args.self.now c.tell-2.new.self (c.tell-2.ensures.halts refl)

pub returns-clause-along : goal.returns-clause-along
returns-clause-along g c =
    along_on g.W.Disk.meaning c.args.self.now c.loop-turn.self c.tell-2.new.self c.tell-2.ensures.passes.passes.told c.loop-turn.invariant.along
    (memory_along g.W.Disk.meaning c.loop-turn.self c.tell-2.new.self c.tell-2.ensures.along)

pub loop-turn-init : goal.loop-turn-init
loop-turn-init g c = record {
  passes = search rules;
  accounts = search rules;
  sound = search rules;
  along = search rules;
  printing = record { told = λ t. t; prints = λ tells sure shows o outset along start is. is };
  safe = λ s along safe.
      site_rests g.W.Disk.meaning g.met.W.Disk.only_now c.args.self.now c.args.self.now refl refl refl refl (λ unshut. unshut) s safe;
  reason = λ r. r;
  texts = λ start has. has;
  counts = counts_still g.W.Disk.meaning c.args.self.now.world.now c.args.self.now.account.now c.args.self.now.account.now (λ ample. ample);
  noting = λ n. n;
  faulted = λ tells sure o outset along has. has;
}

pub returns-clause-noting : goal.returns-clause-noting
returns-clause-noting g c = λ n. c.tell-2.ensures.noting tt (c.loop-turn.invariant.noting n)

pub returns-clause-safe : goal.returns-clause-safe
returns-clause-safe g c =
    turn_then g.W.Disk.meaning c.args.self.now c.loop-turn.self c.tell-2.new.self c.tell-2.ensures.passes.passes.told c.loop-turn.invariant.safe
    c.tell-2.ensures.safe

pub returns-clause-printing : goal.returns-clause-printing
returns-clause-printing g c =
    prints_on g.W.Disk.meaning g.O.Sink.meaning c.args.self.now c.loop-turn.self c.tell-2.new.self c.tell-2.ensures.passes.passes.told
    c.loop-turn.invariant.along c.loop-turn.invariant.printing
    (quiet_prints g.W.Disk.meaning g.O.Sink.meaning c.loop-turn.self c.tell-2.new.self c.tell-2.ensures.quiet)

pub returns-clause-texts : goal.returns-clause-texts
returns-clause-texts g c = λ start has. c.tell-2.ensures.texts start (c.loop-turn.invariant.texts start has)

pub returns-clause-accounts : goal.returns-clause-accounts
returns-clause-accounts g c = λ start a.
    c.tell-2.ensures.accounts start (wanted start (ledger_of c.loop-turn.self.account.now) _ (c.loop-turn.invariant.accounts start a))

pub returns-clause-counts : goal.returns-clause-counts
returns-clause-counts g c =
    let m = g.W.Disk.meaning in
    let last = c.tell-2.ensures in
    site_counts_on m c.args.self.now c.loop-turn.self c.tell-2.new.self last.passes.passes.told.told c.loop-turn.invariant.counts
    (site_counts_tell m c.loop-turn.self c.tell-2.new.self last.still last.want)

pub returns-clause-faulted : goal.returns-clause-faulted
returns-clause-faulted g c =
    wants_faulted g.W.Disk.meaning c.args.self.now c.loop-turn.self c.tell-2.new.self c.tell-2.ensures.passes.passes.told c.loop-turn.invariant.faulted
    c.tell-2.ensures.faulted
