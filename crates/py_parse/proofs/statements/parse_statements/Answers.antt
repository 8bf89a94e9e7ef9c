use Rattle.std.proofs.Common.{arith, refl}
use Rattle.py_tree.specs.Tree.{simple_tree}
use Rattle.py_parse.specs.Grammar as grammar
use Rattle.py_parse.specs.Reading.{Reads, pick}
use Rattle.py_parse.proofs.Cases.{stopped_by, taken_shorter, map_more}
use Rattle.py_parse.proofs.Loops.{continues_start, continues_more, continues_last, continues_fault, read_shorter}
use Rattle.py_parse.proofs.Simples.{Divided, statements_fault, statements_unfit, statements_end, statements_end_mark, statements_further}
use Rattle.py_parse.proofs.statements.parse_statements.Goals as goal

pub statements-init : goal.statements-init
statements-init c = continues_start _ _ _ _ (rw c.new-found.ensures.items refl)

pub returns-in_err-statement : goal.returns-in_err-statement
returns-in_err-statement c =
    stopped_by _ _ (Reads c.args.depth (pick (grammar.small c.args.site) c.statements.rest.now) c.statements.rest.now) (Reads c.args.depth (pick (grammar.statements c.args.site) c.args.tokens.now) c.args.tokens.now)
    c.in_err-statement.field-0.0 c.from_residual.ensures.1
    (λ w rest r. continues_fault _ _ _ _ _ _ _ c.statements.invariant (statements_fault _ _ _ _ _ r)) c.in_err-statement.ensures

pub returns-in-Some : goal.returns-in-Some
returns-in-Some c =
    let e = map_more simple_tree _ _ _ c.in_ok-push.ensures.items in
    continues_last _ _ _ _ _ _ _ _ c.statements.invariant (statements_end _ _ _ _ _ _ _ c.in_ok-statement.ensures c.in-Some.ensures) e

pub returns-in_default-strip : goal.returns-in_default-strip
returns-in_default-strip c =
    continues_fault _ _ _ _ _ _ _ c.statements.invariant (statements_unfit _ _ _ _ _ c.in_ok-statement.ensures c.in_default.ensures c.in_default-strip.ensures)

pub returns-in-Some-strip-2 : goal.returns-in-Some-strip-2
returns-in-Some-strip-2 c =
    let e = map_more simple_tree _ _ _ c.in_ok-push.ensures.items in
    let a : Divided c.args.depth c.args.site c.statements.rest.now (simple_tree c.in_ok-statement.statement) c.in-Some-strip.next.now =
    record { first_rest = c.in_ok-statement.after.now; first = c.in_ok-statement.ensures; no_end = c.in_default.ensures; divider = _; taking = c.in-Some-strip.ensures } in
    continues_last _ _ _ _ _ _ _ _ c.statements.invariant (statements_end_mark _ _ _ _ _ _ _ a c.in-Some-strip-2.ensures) e

pub statements-smaller : goal.statements-smaller
statements-smaller c =
    let h = read_shorter c.in_ok-statement.ensures in
    let i = taken_shorter c.in-Some-strip.ensures in
    omega (arith, h, i)

pub statements-preserved : goal.statements-preserved
statements-preserved c =
    let e = map_more simple_tree _ _ _ c.in_ok-push.ensures.items in
    let a : Divided c.args.depth c.args.site c.statements.rest.now (simple_tree c.in_ok-statement.statement) c.in-Some-strip.next.now =
    record { first_rest = c.in_ok-statement.after.now; first = c.in_ok-statement.ensures; no_end = c.in_default.ensures; divider = _; taking = c.in-Some-strip.ensures } in
    continues_more _ _ _ _ _ _ _ _ c.statements.invariant (statements_further _ _ _ _ _ a c.in_default-strip-2.ensures) e
