use Rattle.std.proofs.Common.{arith, ◌∙◌}
use Rattle.world_api.proofs.Looking.{files_joined}
use Rattle.scons_host.proofs.Showing.{front, rest}
use Rattle.scons_reading.specs.Graphs.{standing_in}
use Rattle.scons_rules.specs.Libraries.{found_in}
use Rattle.scons_reading.proofs.Finding.{found_step, found_end}
use Rattle.scons_reading.proofs.rules.found.Goals as goal

pub returns-in_err-find-clause-looks : goal.returns-in_err-find-clause-looks
returns-in_err-find-clause-looks g c = files_joined g.W.Disk.meaning c.args.world.now c.loop-library.world c.find.new.world c.loop-library.invariant.looks c.find.ensures.looks

pub loop-library-preserved : goal.loop-library-preserved
loop-library-preserved g c =
    let m = g.W.Disk.meaning in
    let there = c.loop-library.invariant.looks in
    let on = c.find.ensures.looks in
    record {
      looks = files_joined m c.args.world.now c.loop-library.world c.find.new.world there on;
      same = c.in_ok-find.ensures.cause ∙ c.loop-library.invariant.same;
      shown = λ f s.
          found_step c.args.wanted.now c.loop-library.library-index (found_in (standing_in f)) c.library-item.result c.loop-library.libraries c.find.new.libraries _ (omega arith) c.library-item.is
          (c.loop-library.invariant.shown f (front m c.args.world.now c.loop-library.world c.find.new.world f on s))
          (c.in_ok-find.ensures.ok f (rest m c.args.world.now c.loop-library.world c.find.new.world f there on s));
    }

pub returns-clause-ok : goal.returns-clause-ok
returns-clause-ok g c = λ f s.
    found_end c.args.wanted.now c.loop-library.library-index (found_in (standing_in f)) c.loop-library.libraries _ (omega arith) (c.loop-library.invariant.shown f s)
