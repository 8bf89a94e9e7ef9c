use Rattle.build_run.proofs.Noting.{noting_on}
use Rattle.std.proofs.Common.{◌∙◌, List, ap, arith, length, refl, rules}
use Rattle.std.specs.Prelude.{Ok}
use Rattle.task_plan.specs.Plans.{Planned}
use Rattle.task_plan.specs.declared.want.Want.TheVariants as want
use Rattle.build_run.specs.Holds.{Busy}
use Rattle.build_run.proofs.Alongs.{along_on, turn_along, waits_halted}
use Rattle.build_run.proofs.Printing.{quiet_around, quiet_on}
use Rattle.build_run.proofs.Sites.{site_on}
use Rattle.build_run.proofs.Stopping.{site_rests, site_safely_on}
use Rattle.build_run.proofs.Endings.{counts_still, none_left, site_counts_on, site_counts_tell}
use Rattle.build_run.proofs.site.Site.wait_for_all.Goals as goal

pub loop-turn-preserved : goal.loop-turn-preserved
loop-turn-preserved g c =
    let m = g.W.Disk.meaning in
    let before = c.loop-turn.invariant in
    let ending = c.take_ending-event.ensures in
    let tell = c.tell.ensures in
    let p = site_on m _ _ _ (site_on m _ _ _ before.passes ending.passes) tell.passes in
    let told = site_on m _ _ _ ending.passes tell.passes in
    record {
      passes = record {
        same = record { graph = p.same.graph; store = p.same.store; world = p.same.world; out = p.same.out; err = p.same.err; run = p.same.run; account = p.same.account; options = p.same.options };
        passes = p.passes;
      };
      accounts = λ start a. tell.accounts start (ending.accounts start (before.accounts start a));
      left = λ t.
          let told_mid = tell.passes.passes.told.told t in
          omega (arith, ending.takes.fewer told_mid, before.left (ending.passes.passes.told.told told_mid), ap (λ (busies : List Busy). length busies) tell.tickets);
      sound = tell.sound ending.sound;
      counts = site_counts_on m c.args.self.now c.take_ending-event.new.self c.tell.new.self tell.passes.passes.told.told
          (site_counts_on m c.args.self.now c.loop-turn.self c.take_ending-event.new.self ending.passes.passes.told.told before.counts ending.counts)
          (site_counts_tell m c.take_ending-event.new.self c.tell.new.self tell.still tell.want);
      faulted = λ t o has.
          let mid = tell.passes.passes.told.told t in
          tell.faulted o (ending.faulted mid o (before.faulted (ending.passes.passes.told.told mid) o has));
      safe = site_safely_on m _ _ _ tell.passes.passes.told (site_safely_on m _ _ _ ending.passes.passes.told before.safe ending.safe) tell.safe;
      quiet = quiet_on m _ _ _ tell.passes.passes.told (quiet_on m _ _ _ ending.passes.passes.told before.quiet ending.quiet) tell.quiet;
      texts = λ start has. tell.texts start (ending.texts start (before.texts start has));
      reason = λ r. tell.reason tt (ending.reason (before.reason r));
      noting = λ n. tell.noting ending.fails (noting_on c.loop-turn.self c.take_ending-event.new.self ending.halted ending.noted (before.noting n));
      same = λ e. absurd (omega (arith, e));
      halted = λ e. tell.halted (ap (λ (p : Planned). p.halted) ending.halted ∙ before.halted e);
      along = λ e. along_on m _ _ _ told.passes.told (before.along e)
          (turn_along m c.loop-turn.self c.take_ending-event.new.self c.tell.new.self (Ok c.take_ending-event.result) tell.passes.passes.told
          ending.passes.same.options want.Wait (waits_halted c.loop-turn.self (before.halted e)) ending.along tell.along);
    }

pub loop-turn-init : goal.loop-turn-init
loop-turn-init g c = record {
  passes = search rules;
  accounts = search rules;
  left = search rules;
  sound = search rules;
  safe = site_rests g.W.Disk.meaning g.met.W.Disk.only_now c.args.self.now c.args.self.now refl refl refl refl (λ unshut. unshut);
  quiet = quiet_around g.W.Disk.meaning c.args.self.now c.args.self.now refl refl (λ e. e) (λ t. refl);
  reason = λ r. r;
  texts = λ start has. has;
  counts = counts_still g.W.Disk.meaning c.args.self.now.world.now c.args.self.now.account.now c.args.self.now.account.now (λ ample. ample);
  noting = λ n. n;
  faulted = λ t o has. has;
  same = search rules;
  halted = search rules;
  along = search rules;
}

pub returns-after-loop-turn-clause-idle : goal.returns-after-loop-turn-clause-idle
returns-after-loop-turn-clause-idle g c = λ t.
    let is = c.loop-turn.invariant in
    none_left c.loop-turn.self.run.now.tickets (g.W.Disk.meaning.around c.loop-turn.self.world.now).running
    (omega (arith, is.left t, c.loop-turn-test.false, c.loop-turn.auto)) (is.sound.joined.runs t)
