use Rattle.std.proofs.lemmas.Result.{err_from_is_err_and}
use Rattle.py_compare.proofs.Growths.{shown_not, shown_too_big}
use Rattle.py_compare.proofs.showing.show_of.Goals as goal

pub returns-in_err-show_onto-clause-fault : goal.returns-in_err-show_onto-clause-fault
returns-in_err-show_onto-clause-fault c =
    let p = err_from_is_err_and c.from_residual.result c.from_residual.ensures.1 in
    rw (p.1, p.2) (λ n. shown_not c.args.heap.now c.args.budget.now c.args.a c.args.quoted _ (let stopped = c.in_err-show_onto.ensures.fault n in cc))

pub returns-in_err-shown-clause-fault : goal.returns-in_err-shown-clause-fault
returns-in_err-shown-clause-fault c =
    let p = err_from_is_err_and c.from_residual-in_err-shown.result c.from_residual-in_err-shown.ensures.1 in
    rw (p.1, p.2)
    (λ n. shown_too_big c.args.heap.now c.args.budget.now c.args.a c.args.quoted c.show_onto.new.text c.show_onto.new.budget _ (let grew = c.in_ok-show_onto.ensures.ok in cc) (let told = c.in_err-shown.ensures in cc))
