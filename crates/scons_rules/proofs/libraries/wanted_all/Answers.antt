use Rattle.std.proofs.Common.{arith, ◌+◌, ◌∙◌, ap, sym, map, drop}
use Rattle.std.specs.Prelude.{Err}
use Rattle.std.proofs.lemmas.List.{map_push}
use Rattle.std.proofs.lemmas.Result.{err_from_is_err_and}
use Rattle.scons_rules.specs.Expanding.{expanding}
use Rattle.scons_rules.specs.Libraries.{library, each_library, found_in}
use Rattle.scons_rules.proofs.Stepping.{behind, each_step, each_stop, each_all}
use Rattle.scons_rules.proofs.libraries.wanted_all.Goals as goal

pub returns-in_err-wanted_one-clause-fault : goal.returns-in_err-wanted_one-clause-fault
returns-in_err-wanted_one-clause-fault c =
    let told = err_from_is_err_and c.from_residual.result c.from_residual.ensures.1 in
    rw told.1 (λ other f.
    each_stop (library f (expanding c.args.rule.now) c.args.dirs.now) c.args.items.now c.loop-item.item-index c.item-item.result _ c.in_err-wanted_one.field-0.0 _ (omega arith)
    (c.loop-item.invariant f) (ap (library f (expanding c.args.rule.now) c.args.dirs.now) (sym c.item-item.is) ∙ c.in_err-wanted_one.ensures.fault (λ h. other (told.2 ∙ h)) f)
    ∙ ap Err (sym told.2))

pub loop-item-preserved : goal.loop-item-preserved
loop-item-preserved c = λ f.
    ap (λ l. behind l (each_library f (expanding c.args.rule.now) c.args.dirs.now (drop (c.loop-item.item-index + 1) c.args.items.now)))
    (ap (map (found_in f)) c.in_ok-push.ensures.ok ∙ map_push (found_in f) c.loop-item.wanted c.in_ok-wanted_one.field-0)
    ∙ each_step (library f (expanding c.args.rule.now) c.args.dirs.now) c.args.items.now c.loop-item.item-index c.item-item.result (map (found_in f) c.loop-item.wanted)
    (found_in f c.in_ok-wanted_one.field-0) _ (omega arith) (c.loop-item.invariant f)
    (ap (library f (expanding c.args.rule.now) c.args.dirs.now) (sym c.item-item.is) ∙ c.in_ok-wanted_one.ensures.ok f)

pub returns-clause-ok : goal.returns-clause-ok
returns-clause-ok c = λ f.
    each_all (library f (expanding c.args.rule.now) c.args.dirs.now) c.args.items.now c.loop-item.item-index (map (found_in f) c.loop-item.wanted) _ (omega arith) (c.loop-item.invariant f)
