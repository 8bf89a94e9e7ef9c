use Rattle.scons_top.specs.Printed.{RunPrints}
use Rattle.scons_top.proofs.Serving.{run_load, run_words}
use Rattle.scons_top.proofs.Telling.{none_told, stops_silent}
use Rattle.scons_top.proofs.Opening.{words_end, load_ends}
use Rattle.scons_top.specs.Cleaned.{RunCleans}
use Rattle.scons_top.specs.declared.step.Step.TheVariants as step
use Rattle.scons_top.proofs.Stepping.{words_at, ends_exit, refused_words, not_refused, usage_words, usage_load, usage_run, load_comes, run_comes, none_loads, not_words, past_load, past_run}
use Rattle.scons_top.proofs.Asking.{unknown_else, unknown_said}
use Rattle.scons_top.proofs.Stopping.{steps_here}
use Rattle.std.proofs.Common.{inl, subst}
use Rattle.world_api.proofs.Looking.{looks_same}
use Rattle.scons_words.specs.Readings.{read}
use Rattle.scons_words.specs.declared.words.Words.{Words}
use Rattle.scons_top.specs.Builds.{RunBuilds}
use Rattle.scons_top.specs.Finding.{RunTellsWords}
use Rattle.scons_top.proofs.Wording.{run_untold}
use Rattle.scons_top.proofs.Building.{no_load, stops, words_said}
use Rattle.scons_top.proofs.Causing.{exit_report, words_stop}
use Rattle.scons_top.specs.Scripted.{RunFollows}
use Rattle.scons_top.proofs.top.take_words.Goals as goal

pub returns-in_err-words-clause-reports : goal.returns-in_err-words-clause-reports
returns-in_err-words-clause-reports g c = exit_report _ _ c.from_residual.result _ c.from_residual.ensures.1 (words_stop _ _)

pub returns-in-Some-clause-reports : goal.returns-in-Some-clause-reports
returns-in-Some-clause-reports g c = c.load.ensures.reports _ _

pub returns-in_err-words-clause-builds : goal.returns-in_err-words-clause-builds
returns-in_err-words-clause-builds g c = λ said is.
    let m = g.W.Disk.meaning in
    stops m said c.args.world.now c.args.world.now c.from_residual.result _ c.from_residual.ensures.1 (inl (looks_same m c.args.world.now))

pub returns-in-Some-clause-builds : goal.returns-in-Some-clause-builds
returns-in-Some-clause-builds g c = λ said is.
    let words = c.in_ok-words.words in
    let world = c.args.world.now in
    subst (λ (s : Words). RunBuilds g.W.Disk.meaning s world world c.load.result)
    (words_said (read c.args.words.now) words said c.in_ok-words.ensures.ok is) (no_load words c.in-Some.rules c.in-Some.is)

pub returns-clause-builds : goal.returns-clause-builds
returns-clause-builds g c = λ said is.
    subst (λ (s : Words). RunBuilds g.W.Disk.meaning s c.args.world.now c.run.new.world c.run.result)
    (words_said (read c.args.words.now) c.in_ok-words.words said c.in_ok-words.ensures.ok is) c.run.ensures.builds

pub returns-in_err-words-clause-safe : goal.returns-in_err-words-clause-safe
returns-in_err-words-clause-safe g c = steps_here g.W.Disk.meaning g.met.W.Disk.only_now c.args.world.now

pub returns-in-Some-clause-safe : goal.returns-in-Some-clause-safe
returns-in-Some-clause-safe g c = steps_here g.W.Disk.meaning g.met.W.Disk.only_now c.args.world.now

pub returns-in_err-words-clause-leaves : goal.returns-in_err-words-clause-leaves
returns-in_err-words-clause-leaves g c = looks_same g.W.Disk.meaning c.args.world.now

pub returns-in-Some-clause-leaves : goal.returns-in-Some-clause-leaves
returns-in-Some-clause-leaves g c = looks_same g.W.Disk.meaning c.args.world.now

pub returns-clause-leaves : goal.returns-clause-leaves
returns-clause-leaves g c = c.run.ensures.leaves

pub returns-in_err-words-clause-ends : goal.returns-in_err-words-clause-ends
returns-in_err-words-clause-ends g c = ends_exit step.Words c.from_residual.result _ c.from_residual.ensures.1 (words_at _)

pub returns-in-Some-clause-ends : goal.returns-in-Some-clause-ends
returns-in-Some-clause-ends g c = c.load.ensures.ends

pub returns-clause-ends : goal.returns-clause-ends
returns-clause-ends g c = c.run.ensures.ends

pub returns-in-Some-clause-comes : goal.returns-in-Some-clause-comes
returns-in-Some-clause-comes g c = λ said is. load_comes c.in_ok-words.words said c.in-Some.rules (words_said (read c.args.words.now) c.in_ok-words.words said c.in_ok-words.ensures.ok is) c.in-Some.is

pub returns-clause-comes : goal.returns-clause-comes
returns-clause-comes g c = λ said is. run_comes c.in_ok-words.words said _ (words_said (read c.args.words.now) c.in_ok-words.words said c.in_ok-words.ensures.ok is) c.in-None.is c.run.ensures.comes

pub returns-in_err-words-clause-refused : goal.returns-in_err-words-clause-refused
returns-in_err-words-clause-refused g c = λ why is.
    refused_words c.args.world.now c.args.out.now c.from_residual.result _ why (read c.args.words.now) c.from_residual.ensures.1 c.in_err-words.ensures.fault is

pub returns-in-Some-clause-refused : goal.returns-in-Some-clause-refused
returns-in-Some-clause-refused g c = λ why is. not_refused (read c.args.words.now) c.in_ok-words.words why c.in_ok-words.ensures.ok is

pub returns-clause-refused : goal.returns-clause-refused
returns-clause-refused g c = λ why is. not_refused (read c.args.words.now) c.in_ok-words.words why c.in_ok-words.ensures.ok is

pub returns-in_err-words-clause-usage : goal.returns-in_err-words-clause-usage
returns-in_err-words-clause-usage g c = usage_words c.from_residual.result _ (read c.args.words.now) c.from_residual.ensures.1 c.in_err-words.ensures.fault

pub returns-in-Some-clause-usage : goal.returns-in-Some-clause-usage
returns-in-Some-clause-usage g c = usage_load (read c.args.words.now) c.load.result c.load.ensures.ends

pub returns-clause-usage : goal.returns-clause-usage
returns-clause-usage g c = usage_run _ c.in_ok-words.words (read c.args.words.now) c.run.result c.run.ensures.ends c.run.ensures.comes

pub returns-in-Some-clause-past : goal.returns-in-Some-clause-past
returns-in-Some-clause-past g c = past_load c.load.result

pub returns-clause-past : goal.returns-clause-past
returns-clause-past g c = past_run c.in_ok-words.words _ c.run.result c.run.ensures.comes

pub returns-clause-load : goal.returns-clause-load
returns-clause-load g c = λ said is some. none_loads c.in_ok-words.words said (words_said (read c.args.words.now) c.in_ok-words.words said c.in_ok-words.ensures.ok is) c.in-None.is some

pub returns-in_err-words-clause-cleans : goal.returns-in_err-words-clause-cleans
returns-in_err-words-clause-cleans g c = λ said is at. absurd (let no = at in cc)

pub returns-in-Some-clause-cleans : goal.returns-in-Some-clause-cleans
returns-in-Some-clause-cleans g c = λ said is at. absurd (let no = at in cc)

pub returns-clause-cleans : goal.returns-clause-cleans
returns-clause-cleans g c = λ said is.
    subst (λ (s : Words). RunCleans g.W.Disk.meaning s c.run.new.at c.args.world.now c.run.new.world c.run.result)
    (words_said (read c.args.words.now) c.in_ok-words.words said c.in_ok-words.ensures.ok is) c.run.ensures.cleans

pub returns-in_err-words-clause-bytes : goal.returns-in_err-words-clause-bytes
returns-in_err-words-clause-bytes g c = λ t. words_end _ c.from_residual.result (returns-in_err-words-clause-ends g c)

pub returns-in-Some-clause-bytes : goal.returns-in-Some-clause-bytes
returns-in-Some-clause-bytes g c = λ t. load_ends _ c.load.result c.load.ensures.ends

pub returns-clause-bytes : goal.returns-clause-bytes
returns-clause-bytes g c = c.run.ensures.bytes

pub returns-in_err-words-clause-unknown : goal.returns-in_err-words-clause-unknown
returns-in_err-words-clause-unknown g c = λ said is. unknown_else said step.Words c.from_residual.result (λ word h. h) (returns-in_err-words-clause-ends g c)

pub returns-in-Some-clause-unknown : goal.returns-in-Some-clause-unknown
returns-in-Some-clause-unknown g c = λ said is. unknown_else said step.Load c.load.result (λ word h. h) c.load.ensures.ends

pub returns-clause-unknown : goal.returns-clause-unknown
returns-clause-unknown g c = λ said is.
    unknown_said c.in_ok-words.words said c.run.result (words_said (read c.args.words.now) c.in_ok-words.words said c.in_ok-words.ensures.ok is) c.run.ensures.unknown

pub returns-in_err-words-clause-prints : goal.returns-in_err-words-clause-prints
returns-in_err-words-clause-prints g c = λ said is.
    run_words g.W.Disk.meaning g.O.Sink.meaning said c.args.world.now c.args.world.now c.args.out.now c.from_residual.result

pub returns-in-Some-clause-prints : goal.returns-in-Some-clause-prints
returns-in-Some-clause-prints g c = λ said is.
    let words = c.in_ok-words.words in
    let world = c.args.world.now in
    subst (λ (s : Words). RunPrints g.W.Disk.meaning g.O.Sink.meaning s step.Load world c.args.out.now world c.load.new.out c.load.result)
    (words_said (read c.args.words.now) words said c.in_ok-words.ensures.ok is)
    (run_load g.W.Disk.meaning g.O.Sink.meaning words c.in-Some.rules world world c.args.out.now c.load.new.out c.load.result c.in-Some.is c.load.ensures.prints)

pub returns-clause-prints : goal.returns-clause-prints
returns-clause-prints g c = λ said is.
    subst (λ (s : Words). RunPrints g.W.Disk.meaning g.O.Sink.meaning s c.run.new.at c.args.world.now c.args.out.now c.run.new.world c.run.new.out c.run.result)
    (words_said (read c.args.words.now) c.in_ok-words.words said c.in_ok-words.ensures.ok is) c.run.ensures.prints

pub returns-in_err-words-clause-tells : goal.returns-in_err-words-clause-tells
returns-in_err-words-clause-tells g c = stops_silent g.E.Sink.meaning c.args.err.now _ c.from_residual.result c.from_residual.ensures.1

pub returns-in-Some-clause-tells : goal.returns-in-Some-clause-tells
returns-in-Some-clause-tells g c = none_told g.E.Sink.meaning c.args.err.now c.load.result c.load.ensures.faults

pub returns-in_err-words-clause-asks : goal.returns-in_err-words-clause-asks
returns-in_err-words-clause-asks g c = λ said is.
    run_untold g.W.Disk.meaning said step.Words c.args.world.now c.args.world.now c.from_residual.result (λ word h. h) (λ is. let no = is in cc) (λ behind. behind) (returns-in_err-words-clause-ends g c)

pub returns-in-Some-clause-asks : goal.returns-in-Some-clause-asks
returns-in-Some-clause-asks g c = λ said is.
    run_untold g.W.Disk.meaning said step.Load c.args.world.now c.args.world.now c.load.result (λ word h. h) (λ is. let no = is in cc) (λ behind. behind) c.load.ensures.ends

pub returns-clause-asks : goal.returns-clause-asks
returns-clause-asks g c = λ said is.
    subst (λ (s : Words). RunTellsWords g.W.Disk.meaning s c.run.new.at c.args.world.now c.run.new.world c.run.result)
    (words_said (read c.args.words.now) c.in_ok-words.words said c.in_ok-words.ensures.ok is) c.run.ensures.asks

pub returns-in_err-words-clause-follows : goal.returns-in_err-words-clause-follows
returns-in_err-words-clause-follows g c = λ said is told tells. tt

pub returns-in-Some-clause-follows : goal.returns-in-Some-clause-follows
returns-in-Some-clause-follows g c = λ said is told tells. tt

pub returns-clause-follows : goal.returns-clause-follows
returns-clause-follows g c = λ said is.
    subst (λ (s : Words). RunFollows g.W.Disk.meaning g.O.Sink.meaning s c.run.new.at c.args.world.now c.args.out.now c.run.new.world c.run.new.out c.run.result)
    (words_said (read c.args.words.now) c.in_ok-words.words said c.in_ok-words.ensures.ok is) c.run.ensures.follows
