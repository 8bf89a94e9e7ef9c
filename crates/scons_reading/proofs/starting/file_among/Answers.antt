use Rattle.std.proofs.Common.{sym, ◌∙◌, arith}
use Rattle.world_api.proofs.Looking.{files_joined}
use Rattle.scons_host.proofs.Showing.{front, rest}
use Rattle.scons_reading.specs.Firsts.{is_file}
use Rattle.scons_reading.proofs.Finding.{name_stands, name_missing, name_none}
use Rattle.scons_reading.proofs.starting.file_among.Goals as goal

pub returns-in_err-is_file-clause-looks : goal.returns-in_err-is_file-clause-looks
returns-in_err-is_file-clause-looks g c = files_joined g.W.Disk.meaning c.args.world.now c.loop-name.world c.is_file.new.world c.loop-name.invariant.looks c.is_file.ensures.looks

pub returns-then-branch-clause-looks : goal.returns-then-branch-clause-looks
returns-then-branch-clause-looks g c = files_joined g.W.Disk.meaning c.args.world.now c.loop-name.world c.is_file.new.world c.loop-name.invariant.looks c.is_file.ensures.looks

pub returns-then-branch-clause-ok : goal.returns-then-branch-clause-ok
returns-then-branch-clause-ok g c = λ f s.
    let m = g.W.Disk.meaning in
    let there = c.loop-name.invariant.looks in
    let on = c.is_file.ensures.looks in
    sym (name_stands c.args.names.now c.loop-name.name-index _ c.in_ok-path.path (is_file f) c.in_ok-path.ensures (omega arith)
    (sym c.if-branch.true ∙ c.in_ok-is_file.ensures.ok f (rest m c.args.world.now c.loop-name.world c.is_file.new.world f there on s))
    (c.loop-name.invariant.shown f (front m c.args.world.now c.loop-name.world c.is_file.new.world f on s)))

pub loop-name-preserved : goal.loop-name-preserved
loop-name-preserved g c =
    let m = g.W.Disk.meaning in
    let there = c.loop-name.invariant.looks in
    let on = c.is_file.ensures.looks in
    record {
      looks = files_joined m c.args.world.now c.loop-name.world c.is_file.new.world there on;
      same = c.in_ok-is_file.ensures.cause ∙ c.loop-name.invariant.same;
      shown = λ f s.
          name_missing c.args.names.now c.loop-name.name-index _ c.in_ok-path.path (is_file f) c.in_ok-path.ensures (omega arith)
          (sym c.if-branch.false ∙ c.in_ok-is_file.ensures.ok f (rest m c.args.world.now c.loop-name.world c.is_file.new.world f there on s))
          (c.loop-name.invariant.shown f (front m c.args.world.now c.loop-name.world c.is_file.new.world f on s));
    }

pub returns-clause-ok : goal.returns-clause-ok
returns-clause-ok g c = λ f s. sym (name_none c.args.names.now c.loop-name.name-index (is_file f) (omega arith) (c.loop-name.invariant.shown f s))
