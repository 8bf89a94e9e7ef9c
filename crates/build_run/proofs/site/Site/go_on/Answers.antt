use Rattle.build_run.proofs.Noting.{noting_on}
use Rattle.build_run.proofs.Turning.{turn_then}
use Rattle.world_api.proofs.Moments.{tells_on}
use Rattle.std.proofs.Common.{◌∙◌, ap}
use Rattle.world_api.specs.Around.{Around}
use Rattle.build_run.proofs.Alongs.{goes_to_rest, still_at_rest}
use Rattle.build_run.proofs.Printing.{prints_on, quiet_on, quiet_prints, quiet_put}
use Rattle.build_run.proofs.Sites.{site_on, site_puts}
use Rattle.build_run.proofs.Endings.{site_counts_on, site_counts_put}
use Rattle.build_run.proofs.site.Site.go_on.Goals as goal

pub returns-clause-noting : goal.returns-clause-noting
returns-clause-noting g c = λ n.
    noting_on c.wait_for_all.new.self c.put_held.new.self c.put_held.ensures.known.plan c.put_held.ensures.noted
    (c.wait_for_all.ensures.noting (c.take_turns.ensures.noting n))

pub put_held-requires : goal.put_held-requires
put_held-requires g c = c.wait_for_all.ensures.sound.stored

pub returns-clause-passes : goal.returns-clause-passes
returns-clause-passes g c =
    let m = g.W.Disk.meaning in
    site_on m _ _ _ (site_on m _ _ _ c.take_turns.ensures.passes c.wait_for_all.ensures.passes) (site_puts m _ _ c.put_held.ensures.puts)

pub returns-clause-accounts : goal.returns-clause-accounts
returns-clause-accounts g c = λ start a. c.put_held.ensures.accounts start (c.wait_for_all.ensures.accounts start (c.take_turns.ensures.accounts start a))

pub returns-clause-idle : goal.returns-clause-idle
returns-clause-idle g c = λ t.
    let puts = c.put_held.ensures.puts in
    ap (λ (around : Around). around.running) (puts.around t) ∙ c.wait_for_all.ensures.idle (puts.goes.passes.told.told t)

pub returns-clause-on : goal.returns-clause-on
returns-clause-on g c =
    let puts = c.put_held.ensures.puts in
    goes_to_rest g.W.Disk.meaning _ _ _ _ puts.goes.passes.told c.wait_for_all.ensures.passes.passes.told c.take_turns.ensures.along
    (c.wait_for_all.ensures.along c.take_turns.ensures.halts) puts c.put_held.ensures.tickets c.put_held.ensures.known c.put_held.ensures.stands
    c.put_held.ensures.held c.put_held.ensures.kept

pub returns-clause-still : goal.returns-clause-still
returns-clause-still g c =
    let puts = c.put_held.ensures.puts in
    still_at_rest g.W.Disk.meaning _ _ _ _ puts.goes.passes.told c.take_turns.ensures.still c.take_turns.ensures.halts
    c.wait_for_all.ensures.none c.wait_for_all.ensures.halted c.put_held.ensures.known

pub returns-clause-safe : goal.returns-clause-safe
returns-clause-safe g c =
    let m = g.W.Disk.meaning in
    turn_then m c.args.self.now c.wait_for_all.new.self _ c.put_held.ensures.puts.goes.passes.told
    (turn_then m c.args.self.now c.take_turns.new.self c.wait_for_all.new.self c.wait_for_all.ensures.passes.passes.told c.take_turns.ensures.safe
    c.wait_for_all.ensures.safe)
    c.put_held.ensures.safe

pub returns-clause-stored : goal.returns-clause-stored
returns-clause-stored g c = c.put_held.ensures.stored.kept

pub returns-clause-reason : goal.returns-clause-reason
returns-clause-reason g c = λ reason. c.put_held.ensures.reason (c.wait_for_all.ensures.reason (c.take_turns.ensures.reason reason))

pub returns-clause-printing : goal.returns-clause-printing
returns-clause-printing g c =
    let m = g.W.Disk.meaning in
    let p = g.O.Sink.meaning in
    let waits = c.wait_for_all.ensures in
    let put = c.put_held.ensures in
    let told = put.puts.goes.passes.told in
    let mid = c.take_turns.new.self in
    prints_on m p c.args.self.now mid _ (tells_on m mid.world.now c.wait_for_all.new.self.world.now _ waits.passes.passes.told told)
    c.take_turns.ensures.along c.take_turns.ensures.printing
    (quiet_prints m p mid _ (quiet_on m mid c.wait_for_all.new.self _ told waits.quiet (quiet_put m c.wait_for_all.new.self _ put.puts put.stands)))

pub returns-clause-texts : goal.returns-clause-texts
returns-clause-texts g c = λ start has. c.put_held.ensures.texts start (c.wait_for_all.ensures.texts start (c.take_turns.ensures.texts start has))

pub returns-clause-counts : goal.returns-clause-counts
returns-clause-counts g c =
    let m = g.W.Disk.meaning in
    let waits = c.wait_for_all.ensures in
    let put = c.put_held.ensures in
    site_counts_on m c.args.self.now c.wait_for_all.new.self c.put_held.new.self put.puts.goes.passes.told.told
    (site_counts_on m c.args.self.now c.take_turns.new.self c.wait_for_all.new.self waits.passes.passes.told.told c.take_turns.ensures.counts waits.counts)
    (site_counts_put m c.wait_for_all.new.self c.put_held.new.self put.puts put.want)

pub returns-clause-faulted : goal.returns-clause-faulted
returns-clause-faulted g c = λ tells sure o outset along has.
    let waits = c.wait_for_all.ensures in
    let put = c.put_held.ensures in
    let first = put.puts.goes.passes.told.told tells in
    let is = put.puts.goes.passes.told.sure tells sure in
    let told = waits.passes.passes.told in
    put.faulted tells o (waits.faulted first o (c.take_turns.ensures.faulted (told.told first) (told.sure first is) o outset along has))
