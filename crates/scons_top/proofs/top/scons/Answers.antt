use Rattle.std.specs.Prelude.{Ok}
use Rattle.scons_top.proofs.Serving.{cut_ended, run_at, run_ended}
use Rattle.scons_top.proofs.Telling.{tells_stopped}
use Rattle.scons_top.proofs.Completing.{completes}
use Rattle.scons_top.proofs.Wording.{report_words, stop_words}
use Rattle.scons_top.proofs.Opening.{reported_bytes, stopped_bytes}
use Rattle.scons_top.proofs.Refusing.{report_opens, stop_opens}
use Rattle.scons_top.proofs.Clearing.{cleans_report, cleans_stop}
use Rattle.scons_top.proofs.Asking.{none_told, told_alone}
use Rattle.scons_top.proofs.Keeping.{remembers_at}
use Rattle.scons_top.proofs.Stepping.{alone_as, comes_as, leaves_as, faults_as, alone_at, not_refused, one_at, refuses, reports_refused, usage_told, usage_reported}
use Rattle.std.proofs.Common.{inl, inr}
use Rattle.scons_top.proofs.Following.{follows_as, follows_ended}
use Rattle.scons_top.proofs.top.scons.Goals as goal

pub returns-in-Err-clause-causes : goal.returns-in-Err-clause-causes
returns-in-Err-clause-causes g c = c.ended.ensures.causes _ _ _ c.in-Err.ensures.reports

pub returns-in-Ok-clause-builds : goal.returns-in-Ok-clause-builds
returns-in-Ok-clause-builds g c = λ said is ask tells sure. inl (c.in-Ok.ensures.builds said is ask tells sure)

pub returns-in-Err-clause-builds : goal.returns-in-Err-clause-builds
returns-in-Err-clause-builds g c = λ said is ask tells sure. inr (c.ended.ensures.fails, c.ended.ensures.skipped, c.in-Err.ensures.builds said is ask tells sure)

pub returns-in-Ok-clause-comes : goal.returns-in-Ok-clause-comes
returns-in-Ok-clause-comes g c = λ said is. comes_as said _ _ c.in-Ok.ensures.ends.ends (c.in-Ok.ensures.comes said is)

pub returns-in-Err-clause-comes : goal.returns-in-Err-clause-comes
returns-in-Err-clause-comes g c = λ said is. comes_as said _ _ c.ended.ensures.at (c.in-Err.ensures.comes said is)

pub returns-in-Ok-clause-leaves : goal.returns-in-Ok-clause-leaves
returns-in-Ok-clause-leaves g c = leaves_as g.W.Disk.meaning _ _ _ _ c.in-Ok.ensures.ends.ends c.in-Ok.ensures.leaves

pub returns-in-Err-clause-leaves : goal.returns-in-Err-clause-leaves
returns-in-Err-clause-leaves g c = leaves_as g.W.Disk.meaning _ _ _ _ c.ended.ensures.at c.in-Err.ensures.leaves

pub returns-in-Ok-clause-remembers : goal.returns-in-Ok-clause-remembers
returns-in-Ok-clause-remembers g c = λ said is.
    remembers_at g.W.Disk.meaning g.met.W.Disk.only_now said _ _ _ c.in-Ok.report (returns-in-Ok-clause-comes g c said is) (returns-in-Ok-clause-leaves g c)
    (returns-in-Ok-clause-builds g c said is)

pub returns-in-Err-clause-remembers : goal.returns-in-Err-clause-remembers
returns-in-Err-clause-remembers g c = λ said is.
    remembers_at g.W.Disk.meaning g.met.W.Disk.only_now said _ _ _ c.ended.result (returns-in-Err-clause-comes g c said is) (returns-in-Err-clause-leaves g c)
    (returns-in-Err-clause-builds g c said is)

pub returns-in-Ok-clause-faults : goal.returns-in-Ok-clause-faults
returns-in-Ok-clause-faults g c = faults_as _ _ _ c.in-Ok.ensures.ends.ends c.in-Ok.ensures.ends.faults

pub returns-in-Err-clause-faults : goal.returns-in-Err-clause-faults
returns-in-Err-clause-faults g c = faults_as _ _ _ c.ended.ensures.at (alone_at _ _ _ c.ended.ensures.alone c.in-Err.ensures.ends)

pub returns-in-Ok-clause-refused : goal.returns-in-Ok-clause-refused
returns-in-Ok-clause-refused g c = λ why is. reports_refused why _ _ _ _ _ c.in-Ok.report (c.in-Ok.ensures.refused why is)

pub returns-in-Err-clause-refused : goal.returns-in-Err-clause-refused
returns-in-Err-clause-refused g c = λ why is. refuses why _ _ _ _ _ _ c.ended.result (c.in-Err.ensures.refused why is) c.ended.ensures.at c.ended.ensures.told

pub returns-in-Ok-clause-usage : goal.returns-in-Ok-clause-usage
returns-in-Ok-clause-usage g c = λ place kind has. usage_reported _ _ _ place kind c.in-Ok.ensures.ends.faults c.in-Ok.ensures.past has

pub returns-in-Err-clause-usage : goal.returns-in-Err-clause-usage
returns-in-Err-clause-usage g c = λ place kind has. c.in-Err.ensures.usage place kind (usage_told _ _ place kind c.ended.ensures.alone has)

pub returns-in-Ok-clause-cleans : goal.returns-in-Ok-clause-cleans
returns-in-Ok-clause-cleans g c = λ said is.
    cleans_report g.W.Disk.meaning said _ _ _ c.in-Ok.report c.in-Ok.ensures.ends.ends (c.in-Ok.ensures.cleans said is)

pub returns-in-Err-clause-cleans : goal.returns-in-Err-clause-cleans
returns-in-Err-clause-cleans g c = λ said is.
    cleans_stop g.W.Disk.meaning said c.take_words.new.at c.args.world.now c.take_words.new.world c.in-Err.stop c.ended.result c.ended.ensures.at c.ended.ensures.fails (c.in-Err.ensures.cleans said is)

pub returns-in-Ok-clause-bytes : goal.returns-in-Ok-clause-bytes
returns-in-Ok-clause-bytes g c = λ t. reported_bytes _ _ c.in-Ok.report c.in-Ok.ensures.ends.ends (c.in-Ok.ensures.bytes t)

pub returns-in-Err-clause-bytes : goal.returns-in-Err-clause-bytes
returns-in-Err-clause-bytes g c = λ t. stopped_bytes _ _ _ c.ended.result c.ended.ensures.at c.ended.ensures.alone (c.in-Err.ensures.bytes t)

pub returns-in-Ok-clause-unknown : goal.returns-in-Ok-clause-unknown
returns-in-Ok-clause-unknown g c = λ said is word has. none_told _ word c.in-Ok.ensures.late has

pub returns-in-Err-clause-unknown : goal.returns-in-Err-clause-unknown
returns-in-Err-clause-unknown g c = λ said is word has. c.in-Err.ensures.unknown said is word (told_alone _ _ word c.ended.ensures.alone has)

pub returns-in-Ok-clause-prints : goal.returns-in-Ok-clause-prints
returns-in-Ok-clause-prints g c = λ said is.
    run_at g.W.Disk.meaning g.O.Sink.meaning said _ _ c.args.world.now c.take_words.new.world c.args.out.now c.take_words.new.out (Ok c.in-Ok.report) c.in-Ok.ensures.ends.ends (c.in-Ok.ensures.prints said is)

pub returns-in-Err-clause-prints : goal.returns-in-Err-clause-prints
returns-in-Err-clause-prints g c = λ said is.
    let m = g.W.Disk.meaning in
    let p = g.O.Sink.meaning in
    let old = c.args.world.now in
    let new = c.take_words.new.world in
    let out = c.args.out.now in
    let after = c.take_words.new.out in
    run_at m p said _ _ old new out after (Ok c.ended.result) c.ended.ensures.at
    (run_ended m p said c.take_words.new.at old new out after c.in-Err.stop c.ended.result c.ended.ensures.fails (cut_ended c.in-Err.stop c.ended.result c.ended.ensures.told) (c.in-Err.ensures.prints said is))

pub returns-in-Err-clause-tells : goal.returns-in-Err-clause-tells
returns-in-Err-clause-tells g c = tells_stopped g.E.Sink.meaning _ _ c.ended.new.err c.ended.result c.in-Err.ensures.tells c.ended.ensures.tells

pub returns-in-Ok-clause-alone : goal.returns-in-Ok-clause-alone
returns-in-Ok-clause-alone g c = alone_as _ _ _ c.in-Ok.ensures.ends.ends c.in-Ok.ensures.ends.alone

pub returns-in-Err-clause-alone : goal.returns-in-Err-clause-alone
returns-in-Err-clause-alone g c = one_at _ _ c.ended.ensures.one

pub returns-in-Ok-clause-opens : goal.returns-in-Ok-clause-opens
returns-in-Ok-clause-opens g c = λ t. report_opens _ _ c.in-Ok.report c.in-Ok.ensures.ends.ends (c.in-Ok.ensures.bytes t)

pub returns-in-Err-clause-opens : goal.returns-in-Err-clause-opens
returns-in-Err-clause-opens g c = λ t. stop_opens _ _ _ c.ended.result c.ended.ensures.at c.ended.ensures.alone c.ended.ensures.told (c.in-Err.ensures.bytes t)

pub returns-in-Ok-clause-completes : goal.returns-in-Ok-clause-completes
returns-in-Ok-clause-completes g c = λ said is.
    completes _ _ c.in-Ok.report (λ place kind has. not_refused _ said _ is (returns-in-Ok-clause-usage g c place kind has)) (returns-in-Ok-clause-faults g c)
    c.in-Ok.ensures.reports c.in-Ok.ensures.status

pub returns-in-Err-clause-completes : goal.returns-in-Err-clause-completes
returns-in-Err-clause-completes g c = λ said is.
    completes _ _ c.ended.result (λ place kind has. not_refused _ said _ is (returns-in-Err-clause-usage g c place kind has)) (returns-in-Err-clause-faults g c)
    (returns-in-Err-clause-causes g c) c.ended.ensures.status

pub returns-in-Ok-clause-asks : goal.returns-in-Ok-clause-asks
returns-in-Ok-clause-asks g c = λ said is t. report_words said _ _ _ c.in-Ok.report c.in-Ok.ensures.ends.ends c.in-Ok.ensures.late (c.in-Ok.ensures.asks said is t)

pub returns-in-Err-clause-asks : goal.returns-in-Err-clause-asks
returns-in-Err-clause-asks g c = λ said is t. stop_words said _ _ _ _ c.ended.result c.ended.ensures.at c.ended.ensures.alone (c.in-Err.ensures.asks said is t)

pub returns-in-Ok-clause-follows : goal.returns-in-Ok-clause-follows
returns-in-Ok-clause-follows g c = λ said is.
    follows_as g.W.Disk.meaning g.O.Sink.meaning said _ _ c.args.world.now c.args.out.now c.take_words.new.world c.take_words.new.out (Ok c.in-Ok.report) c.in-Ok.ensures.ends.ends
    (c.in-Ok.ensures.follows said is)

pub returns-in-Err-clause-follows : goal.returns-in-Err-clause-follows
returns-in-Err-clause-follows g c = λ said is.
    let m = g.W.Disk.meaning in
    let p = g.O.Sink.meaning in
    let old = c.args.world.now in
    let new = c.take_words.new.world in
    let out = c.args.out.now in
    let after = c.take_words.new.out in
    follows_as m p said _ _ old out new after (Ok c.ended.result) c.ended.ensures.at
    (follows_ended m p said old out new after c.in-Err.stop c.ended.result c.ended.ensures.fails c.ended.ensures.skipped c.ended.ensures.alone
    (cut_ended c.in-Err.stop c.ended.result c.ended.ensures.told) c.take_words.new.at (c.in-Err.ensures.follows said is))
