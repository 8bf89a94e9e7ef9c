use Rattle.py_tree.specs.Tree.{expr_tree}
use Rattle.py_parse.specs.Grammar as grammar
use Rattle.py_parse.specs.Reading.{Reads, pick}
use Rattle.py_parse.proofs.Cases.{stopped_by}
use Rattle.py_parse.proofs.Paths.{assignment_fault0}
use Rattle.py_parse.proofs.Simples.{assign_fault, assign_ok, augment_fault, augment_ok, expression_ok}
use Rattle.py_parse.proofs.assignment.parse_assignment.Goals as goal

pub returns-in_err-target : goal.returns-in_err-target
returns-in_err-target c =
    stopped_by _ _ (Reads c.args.depth (pick grammar.exprs c.args.tokens.now) c.args.tokens.now) (Reads c.args.depth grammar.assignment c.args.tokens.now)
    c.in_err-target.field-0.0 c.from_residual.ensures.1 (λ w rest r. assignment_fault0 c.args.depth r) c.in_err-target.ensures

pub returns-in_err-value : goal.returns-in_err-value
returns-in_err-value c =
    let p = rw c.is_targets.ensures at c.in-Some.ensures in
    stopped_by _ _ (Reads c.args.depth (pick grammar.exprs c.in-Some.rest.now) c.in-Some.rest.now) (Reads c.args.depth grammar.assignment c.args.tokens.now)
    c.in_err-value.field-0.0 c.from_residual-in_err-value.ensures.1
    (λ w rest r. assign_fault c.args.depth (expr_tree c.in_ok-target.target) c.args.tokens.now c.in_ok-target.rest.now c.in-Some.rest.now rest c.in-Some.mark.now w c.in_ok-target.ensures p r)
    c.in_err-value.ensures

pub returns-in-Some : goal.returns-in-Some
returns-in-Some c = let p = rw c.is_targets.ensures at c.in-Some.ensures in assign_ok _ _ _ _ _ _ _ _ c.in_ok-target.ensures p c.in_ok-value.ensures

pub returns-in_err-value-2 : goal.returns-in_err-value-2
returns-in_err-value-2 c =
    let h = rw c.is_targets.ensures at c.in_default.ensures in
    let p = rw c.is_place.ensures at c.in-Some-strip_where.ensures in
    stopped_by _ _ (Reads c.args.depth (pick grammar.exprs c.in-Some-strip_where.rest.now) c.in-Some-strip_where.rest.now) (Reads c.args.depth grammar.assignment c.args.tokens.now)
    c.in_err-value-2.field-0.0 c.from_residual-in_err-value-2.ensures.1
    (λ w rest r. augment_fault c.args.depth (expr_tree c.in_ok-target.target) c.args.tokens.now c.in_ok-target.rest.now c.in-Some-strip_where.rest.now rest c.in-Some-strip_where.mark.now w (record { first = c.in_ok-target.ensures; no_assign = h }) p r)
    c.in_err-value-2.ensures

pub returns-in-Some-strip_where : goal.returns-in-Some-strip_where
returns-in-Some-strip_where c =
    let h = rw c.is_targets.ensures at c.in_default.ensures in
    let p = rw c.is_place.ensures at c.in-Some-strip_where.ensures in
    augment_ok _ _ _ _ _ _ _ _ _ (record { first = c.in_ok-target.ensures; no_assign = h }) p c.in-Some-augment_of.ensures c.in_ok-value-2.ensures

pub returns : goal.returns
returns c =
    let h = rw c.is_targets.ensures at c.in_default.ensures in
    let i = rw c.is_place.ensures at c.in_default-strip_where.ensures in
    expression_ok _ _ _ _ (record { first = c.in_ok-target.ensures; no_assign = h }) i
