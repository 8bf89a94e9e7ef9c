use Rattle.build_run.proofs.Stopping.{site_safely_on}
use Rattle.std.proofs.Common.{◌≡◌, ◌<◌, ◌≤◌, ◌∙◌, ◌++◌, ◌∷◌, [], ℕ, List, Some, Contains, ap, false, length, subst, sym}
use Rattle.world_api.specs.Around.{Around, Finished}
use Rattle.world_api.specs.declared.job.Outcome.TheVariants.{Done}
use Rattle.sign_store.specs.Tables.{Map, with_each}
use Rattle.build_run.specs.Holds.{Busy}
use Rattle.build_run.specs.Sites.{most_jobs}
use Rattle.build_run.specs.declared.building.Options.{Options}
use Rattle.build_run.proofs.EndingOn.{may_take}
use Rattle.build_run.proofs.Sites.{site_on, site_puts}
use Rattle.build_run.proofs.Booking.{puts_book}
use Rattle.build_run.proofs.Printing.{quiet_on, quiet_put}
use Rattle.build_run.proofs.Endings.{site_counts_on, site_counts_put}
use Rattle.build_run.proofs.site.Site.take_ending.Goals as goal

pub take_ended-requires-clause-some : goal.take_ended-requires-clause-some
take_ended-requires-clause-some g c = subst (λ (busies : List Busy). 0 < length busies) (sym c.put_if_few.ensures.puts.tickets) c.requires.some

pub take_ended-requires-clause-waits : goal.take_ended-requires-clause-waits
take_ended-requires-clause-waits g c = λ fewer.
    let puts = c.put_if_few.ensures.puts in
    let now = c.put_if_few.new.self in
    c.put_if_few.ensures.waits
    (subst (λ (o : Options). length c.args.self.now.run.now.tickets < most_jobs o) puts.same.options
    (subst (λ (busies : List Busy). length busies < most_jobs now.options) puts.tickets fewer))

pub returns-clause-passes : goal.returns-clause-passes
returns-clause-passes g c =
    let m = g.W.Disk.meaning in
    site_on m _ _ _ (site_puts m _ _ c.put_if_few.ensures.puts) c.take_ended.ensures.passes

pub returns-clause-accounts : goal.returns-clause-accounts
returns-clause-accounts g c = λ start a. c.take_ended.ensures.accounts start (c.put_if_few.ensures.accounts start a)

pub returns-clause-takes : goal.returns-clause-takes
returns-clause-takes g c =
    let puts = c.put_if_few.ensures.puts in
    let takes = c.take_ended.ensures.takes in
    let told = c.take_ended.ensures.passes.passes.told.told in
    let kept = λ (unshut : c.take_ended.new.self.account.now.is_store_shut ≡ false). c.put_if_few.ensures.kept (takes.shut unshut) in
    record {
      fewer = λ t. takes.fewer t ∙ ap (λ (busies : List Busy). length busies) puts.tickets;
      no_more = subst (λ (n : ℕ). length c.take_ended.new.self.run.now.tickets ≤ n) (ap (λ (busies : List Busy). length busies) puts.tickets) takes.no_more;
      done = λ t id log. takes.done t id (log ∙ ap (λ (around : Around). around.log ++ Finished id Done ∷ []) (sym (puts.around (told t))));
      only = λ t rule e. takes.only t rule e ∙ ap (λ (around : Around). around.log ++ Finished rule.0 Done ∷ []) (puts.around (told t));
      puts = λ rule e.
          let put = takes.puts rule e in
          record {
            busy = put.busy;
            among = subst (λ (busies : List Busy). Contains busies put.busy) puts.tickets put.among;
            own = put.own;
            puts = λ unshut rec is.
                put.puts unshut rec (c.put_if_few.ensures.tickets.each rec put.busy.ticket is)
                ∙ ap (λ (m : Map). with_each rec.targets (Some rec) m) (kept unshut);
          };
      kept = λ other unshut. takes.kept other unshut ∙ kept unshut;
      out = takes.out ∙ puts.out;
      shut = λ unshut. puts.shut (takes.shut unshut);
    }

pub returns-clause-along : goal.returns-clause-along
returns-clause-along g c = λ t sure o outset along wanted.
    let m = g.W.Disk.meaning in
    let site = c.args.self.now in
    let mid = c.put_if_few.new.self in
    let put = c.put_if_few.ensures in
    let told = c.take_ended.ensures.passes.passes.told.told t in
    let first = put.puts.goes.passes.told.told told in
    c.take_ended.ensures.along t sure o outset
    (may_take m o outset site mid along (put.puts.around told) put.puts.same.options put.known put.held put.kept put.stands
    (puts_book m site mid put.puts put.tickets put.kept)
    (c.requires.sound.joined.runs first) wanted)

pub returns-clause-safe : goal.returns-clause-safe
returns-clause-safe g c =
    site_safely_on g.W.Disk.meaning c.args.self.now c.put_if_few.new.self _ c.take_ended.ensures.passes.passes.told c.put_if_few.ensures.safe
    c.take_ended.ensures.safe

pub returns-clause-quiet : goal.returns-clause-quiet
returns-clause-quiet g c =
    let m = g.W.Disk.meaning in
    let put = c.put_if_few.ensures in
    quiet_on m c.args.self.now c.put_if_few.new.self _ c.take_ended.ensures.passes.passes.told
    (quiet_put m c.args.self.now c.put_if_few.new.self put.puts put.stands) c.take_ended.ensures.quiet

pub returns-clause-texts : goal.returns-clause-texts
returns-clause-texts g c = λ start has. c.take_ended.ensures.texts start (c.put_if_few.ensures.texts start has)

pub returns-clause-noted : goal.returns-clause-noted
returns-clause-noted g c = λ rule n. c.take_ended.ensures.noted rule (c.put_if_few.ensures.noted rule n)

pub returns-clause-counts : goal.returns-clause-counts
returns-clause-counts g c =
    let m = g.W.Disk.meaning in
    let put = c.put_if_few.ensures in
    let ended = c.take_ended.ensures in
    site_counts_on m c.args.self.now c.put_if_few.new.self c.take_ended.new.self ended.passes.passes.told.told
    (site_counts_put m c.args.self.now c.put_if_few.new.self put.puts put.want) ended.counts

pub returns-clause-faulted : goal.returns-clause-faulted
returns-clause-faulted g c = λ t o has.
    let told = c.take_ended.ensures.passes.passes.told.told t in
    c.take_ended.ensures.faulted t o (c.put_if_few.ensures.faulted told o has)
