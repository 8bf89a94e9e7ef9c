use Rattle.std.proofs.Common.{arith, ◌∙◌, Some, ap, sym}
use Rattle.world_api.proofs.Looking.{files_joined}
use Rattle.scons_host.proofs.Showing.{front, rest}
use Rattle.scons_reading.specs.Firsts.{is_file}
use Rattle.scons_rules.specs.Libraries.{or_known}
use Rattle.scons_reading.proofs.Finding.{first_here, first_later, first_none}
use Rattle.scons_reading.proofs.rules.first_found.Goals as goal

pub returns-in_err-is_file-clause-looks : goal.returns-in_err-is_file-clause-looks
returns-in_err-is_file-clause-looks g c = files_joined g.W.Disk.meaning c.args.world.now c.loop-file.world c.is_file.new.world c.loop-file.invariant.looks c.is_file.ensures.looks

pub returns-in_err-copy-clause-looks : goal.returns-in_err-copy-clause-looks
returns-in_err-copy-clause-looks g c = files_joined g.W.Disk.meaning c.args.world.now c.loop-file.world c.is_file.new.world c.loop-file.invariant.looks c.is_file.ensures.looks

pub returns-then-branch-clause-looks : goal.returns-then-branch-clause-looks
returns-then-branch-clause-looks g c = files_joined g.W.Disk.meaning c.args.world.now c.loop-file.world c.is_file.new.world c.loop-file.invariant.looks c.is_file.ensures.looks

pub loop-file-preserved : goal.loop-file-preserved
loop-file-preserved g c =
    let m = g.W.Disk.meaning in
    let there = c.loop-file.invariant.looks in
    let on = c.is_file.ensures.looks in
    record {
      looks = files_joined m c.args.world.now c.loop-file.world c.is_file.new.world there on;
      same = c.in_ok-is_file.ensures.cause ∙ c.loop-file.invariant.same;
      shown = λ f s.
          first_later c.args.asked.now c.loop-file.file-index (λ a. is_file f a.file) c.file-item.result _ (omega arith) c.file-item.is
          (sym c.if-branch.false ∙ c.in_ok-is_file.ensures.ok f (rest m c.args.world.now c.loop-file.world c.is_file.new.world f there on s))
          (c.loop-file.invariant.shown f (front m c.args.world.now c.loop-file.world c.is_file.new.world f on s));
    }

pub returns-then-branch-clause-ok : goal.returns-then-branch-clause-ok
returns-then-branch-clause-ok g c = λ f s.
    let m = g.W.Disk.meaning in
    let there = c.loop-file.invariant.looks in
    let on = c.is_file.ensures.looks in
    ap Some c.in_ok-copy.ensures
    ∙ sym (ap (or_known c.args.known.now) (first_here c.args.asked.now c.loop-file.file-index (λ a. is_file f a.file) c.file-item.result _ (omega arith) c.file-item.is
    (sym c.if-branch.true ∙ c.in_ok-is_file.ensures.ok f (rest m c.args.world.now c.loop-file.world c.is_file.new.world f there on s))
    (c.loop-file.invariant.shown f (front m c.args.world.now c.loop-file.world c.is_file.new.world f on s))))

pub returns-clause-ok : goal.returns-clause-ok
returns-clause-ok g c = λ f s.
    c.in_ok-copy_of.ensures ∙ sym (ap (or_known c.args.known.now) (first_none c.args.asked.now c.loop-file.file-index (λ a. is_file f a.file) _ (omega arith) (c.loop-file.invariant.shown f s)))
