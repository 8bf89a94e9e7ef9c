use Rattle.std.proofs.Common.{arith, ◌∙◌, sym}
use Rattle.scons_decls.specs.State.{declared_of}
use Rattle.scons_rules.proofs.Finding.{next_asked, surely_known, none_by}
use Rattle.scons_rules.proofs.libraries.candidates.Goals as goal

pub returns-then-is_some : goal.returns-then-is_some
returns-then-is_some c = λ f.
    surely_known f c.ask_in.new.wanted _ _ (sym c.is_some.ensures ∙ c.if-is_some.true)
    (next_asked f (declared_of c.args.state.now) c.args.file.now c.args.dirs.now c.loop-dir.dir-index c.dir-item.result _ _ _ (omega arith) c.dir-item.is (c.loop-dir.invariant.found f)
    (c.in_ok-ask_in.ensures f))

pub loop-dir-preserved : goal.loop-dir-preserved
loop-dir-preserved c = record {
  unknown = none_by c.ask_in.new.wanted.known (sym c.is_some.ensures ∙ c.if-is_some.false);
  found = λ f.
      next_asked f (declared_of c.args.state.now) c.args.file.now c.args.dirs.now c.loop-dir.dir-index c.dir-item.result _ _ _ (omega arith) c.dir-item.is (c.loop-dir.invariant.found f)
      (c.in_ok-ask_in.ensures f);
}
