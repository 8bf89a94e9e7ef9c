use Rattle.std.proofs.Common.{arith}
use Rattle.sign_store.specs.Maps.{map_in}
use Rattle.sign_store.proofs.StepLemmas.{endures_then}
use Rattle.sign_store.proofs.OpenLemmas.{can_mend, read_same, reopened, counted_long, settled_read, settled_then, rests_kept, rests_then}
use Rattle.sign_store.proofs.opening.reopen.Goals as goal

pub returns-in_err-read-clause-moments : goal.returns-in_err-read-clause-moments
returns-in_err-read-clause-moments g c = λ stood map is. c.read_bank.ensures.looks.moments stood map

pub returns-in_err-mend-clause-moments : goal.returns-in_err-mend-clause-moments
returns-in_err-mend-clause-moments g c = λ stood map is.
    let m = g.W.Disk.meaning in
    let read = c.in_ok-read.read in
    let can = can_mend m c.args.world.now c.read_bank.new.world c.args.bank read.gate read.end stood map (map_in read.map) c.args.edition c.read_bank.ensures.looks is c.in_ok-read.ensures.map
    (λ told long. c.in_ok-read.ensures.written told (omega (arith, long, c.read_bank.ensures.size told))) (λ told long. c.in_ok-read.ensures.gate told (omega (arith, long, c.read_bank.ensures.size told))) in
    endures_then m c.args.world.now c.read_bank.new.world c.mend.new.world stood map (c.read_bank.ensures.looks.moments stood map) (c.mend.ensures.moments stood map c.args.edition can)

pub returns-clause-moments : goal.returns-clause-moments
returns-clause-moments g c = λ stood map is.
    let m = g.W.Disk.meaning in
    let read = c.in_ok-read.read in
    let can = can_mend m c.args.world.now c.read_bank.new.world c.args.bank read.gate read.end stood map (map_in read.map) c.args.edition c.read_bank.ensures.looks is c.in_ok-read.ensures.map
    (λ told long. c.in_ok-read.ensures.written told (omega (arith, long, c.read_bank.ensures.size told))) (λ told long. c.in_ok-read.ensures.gate told (omega (arith, long, c.read_bank.ensures.size told))) in
    let filled = c.in_ok-mend.ensures.mended stood map c.args.edition can in
    endures_then m c.args.world.now c.read_bank.new.world c.compact.new.world stood map (c.read_bank.ensures.looks.moments stood map)
    (endures_then m c.read_bank.new.world c.mend.new.world c.compact.new.world stood map (c.mend.ensures.moments stood map c.args.edition can)
    (c.compact.ensures.moments stood map (record {
      rest = filled.rest;
      stands = filled.stands;
      counts = filled.counts;
      held = λ told. read_same m c.args.world.now c.read_bank.new.world c.args.bank map (map_in read.map) stood c.args.edition c.read_bank.ensures.looks is c.in_ok-read.ensures.map (c.mend.ensures.told.told told);
      ordered = c.in_ok-read.ensures.ordered;
    })))

pub returns-clause-opened : goal.returns-clause-opened
returns-clause-opened g c = λ stood map is.
    let m = g.W.Disk.meaning in
    let read = c.in_ok-read.read in
    let can = can_mend m c.args.world.now c.read_bank.new.world c.args.bank read.gate read.end stood map (map_in read.map) c.args.edition c.read_bank.ensures.looks is c.in_ok-read.ensures.map
    (λ told long. c.in_ok-read.ensures.written told (omega (arith, long, c.read_bank.ensures.size told))) (λ told long. c.in_ok-read.ensures.gate told (omega (arith, long, c.read_bank.ensures.size told))) in
    let filled = c.in_ok-mend.ensures.mended stood map c.args.edition can in
    c.compact.ensures.opened stood map (record {
      rest = filled.rest;
      stands = filled.stands;
      counts = filled.counts;
      held = λ told. read_same m c.args.world.now c.read_bank.new.world c.args.bank map (map_in read.map) stood c.args.edition c.read_bank.ensures.looks is c.in_ok-read.ensures.map (c.mend.ensures.told.told told);
      ordered = c.in_ok-read.ensures.ordered;
    })

pub returns-clause-over : goal.returns-clause-over
returns-clause-over g c = λ told counts.
    let m = g.W.Disk.meaning in
    let read = c.in_ok-read.read in
    let told1 = c.mend.ensures.told.told (c.compact.ensures.told.told told) in
    let told0 = c.read_bank.ensures.looks.told.told told1 in
    let long = counted_long c.args.bank (m.seen c.args.world.now) c.args.edition counts in
    reopened c.args.bank c.args.edition read.end read.map (m.seen c.args.world.now c.args.bank) (m.seen c.read_bank.new.world c.args.bank) c.compact.result
    (c.read_bank.ensures.looks.banks told1 c.args.bank).same
    (c.in_ok-read.ensures.written told1 (omega (arith, long, c.requires.size told0)))
    (c.compact.ensures.over c.in_ok-read.ensures.ordered)

pub returns-in_err-read-clause-rests : goal.returns-in_err-read-clause-rests
returns-in_err-read-clause-rests g c =
    rests_kept g.W.Disk.meaning c.args.world.now c.read_bank.new.world c.from_residual.result (settled_read g.W.Disk.meaning c.args.world.now c.read_bank.new.world c.read_bank.ensures.looks)

pub returns-clause-rests : goal.returns-clause-rests
returns-clause-rests g c =
    let m = g.W.Disk.meaning in
    rests_then m c.args.world.now c.mend.new.world c.compact.new.world c.compact.result c.compact.ensures.told.told
    (settled_then m c.args.world.now c.read_bank.new.world c.mend.new.world c.mend.ensures.told.told (settled_read m c.args.world.now c.read_bank.new.world c.read_bank.ensures.looks) c.in_ok-mend.ensures.settled)
    c.compact.ensures.rests
