use Rattle.std.proofs.Common.{arith, refl}
use Rattle.py_tree.specs.Tree.{word}
use Rattle.py_parse.specs.Grammar as grammar
use Rattle.py_parse.proofs.Cases.{stopped, taken_shorter, map_more}
use Rattle.py_parse.proofs.Loops.{continues_start, continues_more, continues_last, continues_fault, names_unfit, names_last, names_more}
use Rattle.py_parse.proofs.names.parse_names.Goals as goal

pub names-init : goal.names-init
names-init c = λ d. continues_start d grammar.names _ _ (rw c.new-found.ensures.items refl)

pub returns-in_default : goal.returns-in_default
returns-in_default c = λ d. continues_fault d grammar.names _ _ _ _ _ (c.names.invariant d) (names_unfit d _ c.in_default.ensures)

pub returns-in_err-copy : goal.returns-in_err-copy
returns-in_err-copy c = stopped _ _ _ c.from_residual.ensures.1

pub returns-in_err-push : goal.returns-in_err-push
returns-in_err-push c = stopped _ _ _ c.from_residual-in_err-push.ensures.1

pub returns-in_default-strip : goal.returns-in_default-strip
returns-in_default-strip c =
    let e = map_more word _ _ _ c.in_ok-push.ensures.items in
    let f = rw c.in_ok-copy.ensures at e in
    λ d. continues_last d grammar.names _ _ _ _ _ _ (c.names.invariant d) (names_last d _ _ _ _ c.in-Some.ensures c.in_default-strip.ensures) f

pub names-smaller : goal.names-smaller
names-smaller c =
    let h = taken_shorter c.in-Some.ensures.taking in
    let i = taken_shorter c.in-Some-strip.ensures in
    omega (arith, h, i)

pub names-preserved : goal.names-preserved
names-preserved c =
    let e = map_more word _ _ _ c.in_ok-push.ensures.items in
    let f = rw c.in_ok-copy.ensures at e in
    λ d. continues_more d grammar.names _ _ _ _ _ _ (c.names.invariant d) (names_more d _ _ _ _ _ _ c.in-Some.ensures c.in-Some-strip.ensures) f
