use Rattle.std.proofs.Common.{refl, ap, sym, ◌∙◌, arith}
use Rattle.py_tree.specs.Tree.{expr_tree, link_tree, operation_tree, operation, field}
use Rattle.py_tree.proofs.Views.{expr_tree-Not, expr_tree-Negative, operation_tree-Operation, piece_tree-Field}
use Rattle.py_parse.specs.Reading.{fault, r_unopened, r_read, r_part_fault}
use Rattle.py_parse.proofs.Cases.{agrees_over, stopped_by, taken_shorter, map_more, given_at}
use Rattle.py_parse.proofs.Loops.{read_shorter, continues_more, continues_end, continues_fault, operations_none, operations_fault, operations_more, links_none, links_fault, links_more}
use Rattle.py_parse.proofs.Paths.{chained_fault0, chained_fault1, chained_ok, not_deep0, not_fault1, not_ok, unnegated_tail_answers, minus_deep0, minus_fault1, minus_ok, plain_tail_answers, posted_fault0, posted_fault1, posted_ok, bracketed_deep0, bracketed_tail, bracketed_tail_answers, leaf_tail, call_link_deep0, call_link_tail, call_link_tail_answers, index_link_deep0, index_link_tail, index_link_tail_answers}
use Rattle.py_parse.proofs.Choices.{expr_fault0, expr_plain, expr_deep, expr_choice_answers, test_fault0, test_unfit1, test_fault2, test_ok}
use Rattle.py_parse.proofs.TextPieces.{text_tail, text_tail_answers, start_tail, start_tail_answers, pieces_begin, pieces_end, pieces_stay, field_deep, field_fault0, field_unfit1, field_ok, field_then, field_broken}
use Rattle.py_parse.proofs.Ways.{display_begins, link_begins, display_closes, link_closes, display_shrinks, link_shrinks, agrees_shorter, compare_fault, compare_tail, compares_none, compares_some}
use Rattle.py_parse.proofs.expression.+expression.Goals as goal

-- conditional expressions
pub parse_choice-returns-in_err-value : goal.parse_choice-returns-in_err-value
parse_choice-returns-in_err-value n c = stopped_by _ _ _ _ _ c.from_residual.ensures.1 (λ w r h. expr_fault0 _ h) c.in_err-value.ensures

pub parse_choice-returns-in_default : goal.parse_choice-returns-in_default
parse_choice-returns-in_default n c = expr_plain _ c.in_ok-value.ensures c.in_default.ensures

pub parse_choice-returns-then-depth-eq0 : goal.parse_choice-returns-then-depth-eq0
parse_choice-returns-then-depth-eq0 n c = expr_deep _ c.in_ok-value.ensures c.if-depth-eq0.true c.in-Some.ensures

pub parse_choice-returns : goal.parse_choice-returns
parse_choice-returns n c = expr_choice_answers _ _ _ _ _ _ _ _ c.in_ok-value.ensures c.if-depth-eq0.false c.in-Some.ensures c.parse_test.ensures

pub parse_test-returns-in_err-test : goal.parse_test-returns-in_err-test
parse_test-returns-in_err-test n c = stopped_by _ _ _ _ _ c.from_residual.ensures.1 (λ w r h. test_fault0 _ _ _ h) c.in_err-test.ensures

pub parse_test-returns-in_default : goal.parse_test-returns-in_default
parse_test-returns-in_default n c = test_unfit1 _ _ _ c.in_ok-test.ensures c.in_default.ensures

pub parse_test-returns-in_err-other : goal.parse_test-returns-in_err-other
parse_test-returns-in_err-other n c =
    stopped_by _ _ _ _ _ c.from_residual-in_err-other.ensures.1 (λ w r h. test_fault2 _ _ _ c.in_ok-test.ensures c.in-Some.ensures h) c.in_err-other.ensures

pub parse_test-returns : goal.parse_test-returns
parse_test-returns n c = test_ok _ _ _ c.in_ok-test.ensures c.in-Some.ensures c.in_ok-other.ensures c.in_ok-whole.ensures

pub parse_wanted-returns-then-plain : goal.parse_wanted-returns-then-plain
parse_wanted-returns-then-plain n c = rw c.if-plain.true c.parse_chain.ensures

pub parse_wanted-returns-else-plain : goal.parse_wanted-returns-else-plain
parse_wanted-returns-else-plain n c = rw c.if-plain.false c.parse_choice.ensures

-- operators of one level
pub parse_chain-returns-in_err-first : goal.parse_chain-returns-in_err-first
parse_chain-returns-in_err-first n c =
    stopped_by _ _ _ _ _ c.from_residual.ensures.1 (λ w r h. chained_fault0 _ _ h) c.in_err-first.ensures

pub parse_chain-returns-in_err-operand : goal.parse_chain-returns-in_err-operand
parse_chain-returns-in_err-operand n c =
    stopped_by _ _ _ _ _ c.from_residual-in_err-operand.ensures.1
    (λ w r h. chained_fault1 _ _ c.operations.invariant.0 (continues_fault _ _ _ _ _ _ _ c.operations.invariant.1 (operations_fault _ _ _ _ _ _ _ _ c.in-Some.ensures h)))
    c.in_err-operand.ensures

pub parse_chain-operations-smaller : goal.parse_chain-operations-smaller
parse_chain-operations-smaller n c =
    let h = taken_shorter c.in-Some.ensures.taking in
    let i = read_shorter c.in_ok-operand.ensures in
    omega (arith, h, i)

pub parse_chain-operations-preserved : goal.parse_chain-operations-preserved
parse_chain-operations-preserved n c =
    let e = map_more operation_tree _ _ _ c.in_ok-push.ensures.items in
    let v = operation_tree-Operation _ _ _ ∙ ap (λ x. operation c.in-Some.line c.in-Some.operator (expr_tree x)) c.into_inner.ensures in
    (c.operations.invariant.0, continues_more _ _ _ _ _ _ _ _ c.operations.invariant.1 (operations_more _ _ _ _ _ _ _ _ _ c.in-Some.ensures c.in_ok-operand.ensures v) e)

pub parse_chain-returns : goal.parse_chain-returns
parse_chain-returns n c =
    chained_ok _ _ c.operations.invariant.0 (continues_end _ _ _ _ _ _ c.operations.invariant.1 (operations_none _ _ _ c.in_default.ensures)) c.in_ok-chain.ensures

-- `not`
pub parse_not-returns-in_default : goal.parse_not-returns-in_default
parse_not-returns-in_default n c = unnegated_tail_answers _ _ _ _ c.in_default.ensures c.parse_comparison.ensures

pub parse_not-returns-then-depth-eq0 : goal.parse_not-returns-then-depth-eq0
parse_not-returns-then-depth-eq0 n c = not_deep0 _ c.if-depth-eq0.true c.in-Some.ensures

pub parse_not-returns-in_err-operand : goal.parse_not-returns-in_err-operand
parse_not-returns-in_err-operand n c =
    stopped_by _ _ _ _ _ c.from_residual.ensures.1 (λ w r h. not_fault1 _ c.if-depth-eq0.false c.in-Some.ensures h) c.in_err-operand.ensures

pub parse_not-returns : goal.parse_not-returns
parse_not-returns n c =
    not_ok _ c.if-depth-eq0.false c.in-Some.ensures c.in_ok-operand.ensures (ap expr_tree c.in_ok-negation.ensures.ok ∙ expr_tree-Not _ _)

-- comparisons
pub parse_comparison-returns-in_err-left : goal.parse_comparison-returns-in_err-left
parse_comparison-returns-in_err-left n c = stopped_by _ _ _ _ _ c.from_residual.ensures.1 (λ w r h. compare_fault _ h) c.in_err-left.ensures

pub parse_comparison-returns-in_err-next : goal.parse_comparison-returns-in_err-next
parse_comparison-returns-in_err-next n c =
    stopped_by _ _ _ _ _ c.from_residual-in_err-next.ensures.1 (λ w r h. compare_tail _ c.in_ok-left.ensures (h _ _)) c.in_err-next.ensures

pub parse_comparison-returns-in_default : goal.parse_comparison-returns-in_default
parse_comparison-returns-in_default n c = compare_tail _ c.in_ok-left.ensures (compares_none _ _ c.in_default.is c.in_ok-next.ensures _ _)

pub parse_comparison-returns-in_err-right : goal.parse_comparison-returns-in_err-right
parse_comparison-returns-in_err-right n c =
    stopped_by _ _ _ _ _ c.from_residual-in_err-right.ensures.1
    (λ w r h. compare_tail _ c.in_ok-left.ensures (compares_some _ _ _ c.in-Some.is c.in_ok-next.ensures _ _ _ (r_part_fault h))) c.in_err-right.ensures

pub parse_comparison-returns : goal.parse_comparison-returns
parse_comparison-returns n c =
    compare_tail _ c.in_ok-left.ensures (compares_some _ _ _ c.in-Some.is c.in_ok-next.ensures _ _ _ (r_read _ _ c.in_ok-right.ensures (given_at c.in_ok-whole.ensures)))

-- unary minus
pub parse_unary-returns-in_default : goal.parse_unary-returns-in_default
parse_unary-returns-in_default n c = plain_tail_answers _ _ _ _ c.in_default.ensures c.parse_post.ensures

pub parse_unary-returns-then-depth-eq0 : goal.parse_unary-returns-then-depth-eq0
parse_unary-returns-then-depth-eq0 n c = minus_deep0 _ c.if-depth-eq0.true c.in-Some.ensures

pub parse_unary-returns-in_err-operand : goal.parse_unary-returns-in_err-operand
parse_unary-returns-in_err-operand n c =
    stopped_by _ _ _ _ _ c.from_residual.ensures.1 (λ w r h. minus_fault1 _ c.if-depth-eq0.false c.in-Some.ensures h) c.in_err-operand.ensures

pub parse_unary-returns : goal.parse_unary-returns
parse_unary-returns n c =
    minus_ok _ c.if-depth-eq0.false c.in-Some.ensures c.in_ok-operand.ensures (ap expr_tree c.in_ok-negative.ensures.ok ∙ expr_tree-Negative _ _)

-- what stands behind an atom
pub parse_post-returns-in_err-atom : goal.parse_post-returns-in_err-atom
parse_post-returns-in_err-atom n c = stopped_by _ _ _ _ _ c.from_residual.ensures.1 (λ w r h. posted_fault0 _ h) c.in_err-atom.ensures

pub parse_post-returns-in_err-link : goal.parse_post-returns-in_err-link
parse_post-returns-in_err-link n c =
    stopped_by _ _ _ _ _ c.from_residual-in_err-link.ensures.1
    (λ w r h. posted_fault1 _ c.links.invariant.0 (continues_fault _ _ _ _ _ _ _ c.links.invariant.1 (links_fault _ _ _ _ (sym c.sees.ensures ∙ c.links-test.true) h)))
    c.in_err-link.ensures.found

pub parse_post-links-preserved : goal.parse_post-links-preserved
parse_post-links-preserved n c =
    let e = map_more link_tree _ _ _ c.in_ok-push.ensures.items in
    (c.links.invariant.0, continues_more _ _ _ _ _ _ _ _ c.links.invariant.1 (links_more _ _ _ _ _ (sym c.sees.ensures ∙ c.links-test.true) c.in_ok-link.ensures.found refl) e)

pub parse_post-returns : goal.parse_post-returns
parse_post-returns n c =
    posted_ok _ c.links.invariant.0 (continues_end _ _ _ _ _ _ c.links.invariant.1 (links_none _ _ (sym c.sees.ensures ∙ c.links-test.false))) c.in_ok-post.ensures

-- atoms
pub parse_atom-returns-in_default : goal.parse_atom-returns-in_default
parse_atom-returns-in_default n c = c.parse_text.ensures

pub parse_atom-returns-then-depth-eq0 : goal.parse_atom-returns-then-depth-eq0
parse_atom-returns-then-depth-eq0 n c = bracketed_deep0 _ c.if-depth-eq0.true c.in-Some.ensures

pub parse_atom-returns-in_err-next : goal.parse_atom-returns-in_err-next
parse_atom-returns-in_err-next n c =
    stopped_by _ _ _ _ _ c.from_residual.ensures.1 (λ w r h. bracketed_tail _ c.if-depth-eq0.false c.in-Some.ensures (h _)) c.in_err-next.ensures

pub parse_atom-returns : goal.parse_atom-returns
parse_atom-returns n c =
    bracketed_tail_answers _ _ _ _ _ _ c.if-depth-eq0.false c.in-Some.ensures (c.parse_display.ensures _ _ c.in_ok-next.ensures)

-- texts
pub parse_text-returns-in_err-next : goal.parse_text-returns-in_err-next
parse_text-returns-in_err-next n c =
    stopped_by _ _ _ _ _ c.from_residual.ensures.1 (λ w r h. text_tail _ c.requires c.in-Some.ensures (h _)) c.in_err-next.ensures.goes

pub parse_text-returns-in-Some : goal.parse_text-returns-in-Some
parse_text-returns-in-Some n c = text_tail_answers _ _ _ _ _ _ c.requires c.in-Some.ensures (c.parse_pieces.ensures _ _ c.in_ok-next.ensures.goes)

pub parse_text-returns-in_err-next-2 : goal.parse_text-returns-in_err-next-2
parse_text-returns-in_err-next-2 n c =
    stopped_by _ _ _ _ _ c.from_residual-in_err-next-2.ensures.1
    (λ w r h. start_tail _ _ c.new.ensures.items c.requires c.in_default.ensures c.in-Some-strip.ensures (h _)) c.in_err-next-2.ensures.goes

pub parse_text-returns-in-Some-strip : goal.parse_text-returns-in-Some-strip
parse_text-returns-in-Some-strip n c =
    start_tail_answers _ _ _ _ _ _ _ c.new.ensures.items c.requires c.in_default.ensures c.in-Some-strip.ensures
    (c.parse_pieces-in-Some-strip.ensures _ _ c.in_ok-next-2.ensures.goes)

pub parse_text-returns : goal.parse_text-returns
parse_text-returns n c =
    agrees_over _ _ _ _ (λ o q. leaf_tail _ c.requires c.in_default.ensures c.in_default-strip.ensures (q _)) c.take_leaf.ensures

pub parse_pieces-fields-init : goal.parse_pieces-fields-init
parse_pieces-fields-init n c = λ b ts g o r. pieces_begin _ _ b ts _ _ _ o c.in-Field.is g r

pub parse_pieces-returns-in_err-field : goal.parse_pieces-returns-in_err-field
parse_pieces-returns-in_err-field n c = λ b ts g.
    stopped_by _ _ _ _ _ c.from_residual.ensures.1 (λ w r h. c.fields.invariant b ts g (fault w r) (field_broken _ _ h)) c.in_err-field.ensures.found

pub parse_pieces-returns-in_err-texts : goal.parse_pieces-returns-in_err-texts
parse_pieces-returns-in_err-texts n c = λ b ts g.
    stopped_by _ _ _ _ _ c.from_residual-in_err-texts.ensures.1
    (λ w r h. c.fields.invariant b ts g (fault w r) (field_then _ _ c.in_ok-field.ensures.found (h _))) c.in_err-texts.ensures.goes

pub parse_pieces-returns-in-Ended-2 : goal.parse_pieces-returns-in-Ended-2
parse_pieces-returns-in-Ended-2 n c = λ b ts g.
    c.boxed-in-Ended-2.ensures _ _ _ (c.fields.invariant b ts g _ (field_then _ _ c.in_ok-field.ensures.found (pieces_end _ _ _ _ _ _ _ c.in-Ended-2.is c.in_ok-texts.ensures.goes)))

pub parse_pieces-fields-smaller : goal.parse_pieces-fields-smaller
parse_pieces-fields-smaller n c =
    let h = pieces_stay _ _ _ _ c.in-Field-2.is c.in_ok-texts.ensures.stays in
    let i = c.in_ok-field.ensures.shorter in
    omega (arith, h, i)

pub parse_pieces-fields-preserved : goal.parse_pieces-fields-preserved
parse_pieces-fields-preserved n c = λ b ts g o r.
    let s = pieces_begin _ _ _ _ _ _ _ o c.in-Field-2.is c.in_ok-texts.ensures.goes r in
    c.fields.invariant b ts g o (field_then _ _ c.in_ok-field.ensures.found s)

-- a field
pub parse_field-returns-in_default-clause-found : goal.parse_field-returns-in_default-clause-found
parse_field-returns-in_default-clause-found n c = r_unopened c.in_default.ensures

pub parse_field-returns-then-depth-eq0-clause-found : goal.parse_field-returns-then-depth-eq0-clause-found
parse_field-returns-then-depth-eq0-clause-found n c = field_deep _ c.if-depth-eq0.true c.in-Some.ensures

pub parse_field-returns-in_err-value-clause-found : goal.parse_field-returns-in_err-value-clause-found
parse_field-returns-in_err-value-clause-found n c =
    stopped_by _ _ _ _ _ c.from_residual.ensures.1 (λ w r h. field_fault0 _ c.if-depth-eq0.false c.in-Some.ensures h) c.in_err-value.ensures

pub parse_field-returns-in_default-strip-clause-found : goal.parse_field-returns-in_default-strip-clause-found
parse_field-returns-in_default-strip-clause-found n c =
    field_unfit1 _ c.if-depth-eq0.false c.in-Some.ensures c.in_ok-value.ensures c.in_default-strip.ensures

pub parse_field-returns-clause-found : goal.parse_field-returns-clause-found
parse_field-returns-clause-found n c =
    field_ok _ c.if-depth-eq0.false c.in-Some.ensures c.in_ok-value.ensures c.in-Some-strip.ensures
    (piece_tree-Field _ _ ∙ ap (λ e. field c.in-Some.brace.now.line (expr_tree e)) c.into_inner-value.ensures)

pub parse_field-returns-clause-shorter : goal.parse_field-returns-clause-shorter
parse_field-returns-clause-shorter n c =
    let h = taken_shorter c.in-Some.ensures in
    let i = read_shorter c.in_ok-value.ensures in
    let j = taken_shorter c.in-Some-strip.ensures in
    omega (arith, h, i, j)

-- calls and subscripts
pub parse_link-returns-then-depth-eq0-clause-found : goal.parse_link-returns-then-depth-eq0-clause-found
parse_link-returns-then-depth-eq0-clause-found n c = call_link_deep0 _ c.if-depth-eq0.true c.in-Some.ensures

pub parse_link-returns-in_err-next-clause-found : goal.parse_link-returns-in_err-next-clause-found
parse_link-returns-in_err-next-clause-found n c =
    stopped_by _ _ _ _ _ c.from_residual.ensures.1 (λ w r h. call_link_tail _ c.if-depth-eq0.false c.in-Some.ensures (h _)) c.in_err-next.ensures

pub parse_link-returns-in-Some-clause-found : goal.parse_link-returns-in-Some-clause-found
parse_link-returns-in-Some-clause-found n c =
    call_link_tail_answers _ _ _ _ _ _ c.if-depth-eq0.false c.in-Some.ensures (c.parse_brackets.ensures _ _ c.in_ok-next.ensures)

pub parse_link-returns-in-Some-clause-shorter : goal.parse_link-returns-in-Some-clause-shorter
parse_link-returns-in-Some-clause-shorter n c =
    agrees_shorter _ _ _ _ _ (c.parse_brackets.ensures _ _ c.in_ok-next.ensures) (taken_shorter c.in-Some.ensures)

pub parse_link-returns-then-depth-eq0-2-clause-found : goal.parse_link-returns-then-depth-eq0-2-clause-found
parse_link-returns-then-depth-eq0-2-clause-found n c = index_link_deep0 _ c.in_default.ensures c.if-depth-eq0-2.true c.in-Some-strip.ensures

pub parse_link-returns-in_err-next-2-clause-found : goal.parse_link-returns-in_err-next-2-clause-found
parse_link-returns-in_err-next-2-clause-found n c =
    stopped_by _ _ _ _ _ c.from_residual-in_err-next-2.ensures.1 (λ w r h. index_link_tail _ c.in_default.ensures c.if-depth-eq0-2.false c.in-Some-strip.ensures (h _)) c.in_err-next-2.ensures

pub parse_link-returns-in-Some-strip-clause-found : goal.parse_link-returns-in-Some-strip-clause-found
parse_link-returns-in-Some-strip-clause-found n c =
    index_link_tail_answers _ _ _ _ _ _ c.in_default.ensures c.if-depth-eq0-2.false c.in-Some-strip.ensures (c.parse_brackets-in-Some-strip.ensures _ _ c.in_ok-next-2.ensures)

pub parse_link-returns-in-Some-strip-clause-shorter : goal.parse_link-returns-in-Some-strip-clause-shorter
parse_link-returns-in-Some-strip-clause-shorter n c =
    agrees_shorter _ _ _ _ _ (c.parse_brackets-in-Some-strip.ensures _ _ c.in_ok-next-2.ensures) (taken_shorter c.in-Some-strip.ensures)

-- the expressions in brackets
pub parse_display-expressions-init : goal.parse_display-expressions-init
parse_display-expressions-init n c = λ b ts g o r. display_begins _ b ts _ _ _ _ o c.in-More.is c.in_ok-open.ensures.ok g r

pub parse_display-returns-in_err-value : goal.parse_display-returns-in_err-value
parse_display-returns-in_err-value n c = λ b ts g.
    stopped_by _ _ _ _ _ c.from_residual-in_err-value.ensures.1 (λ w r h. c.expressions.invariant b ts g (fault w r) (r_part_fault h))
    (rw (c.is_plain.ensures, c.deref.ensures) at c.in_err-value.ensures)

pub parse_display-returns-in_err-display : goal.parse_display-returns-in_err-display
parse_display-returns-in_err-display n c = λ b ts g.
    stopped_by _ _ _ _ _ c.from_residual-in_err-display.ensures.1
    (λ w r h. c.expressions.invariant b ts g (fault w r) (r_read _ _ (rw (c.is_plain.ensures, c.deref.ensures) at c.in_ok-value.ensures) (h _))) c.in_err-display.ensures.goes

pub parse_display-returns-in-Closed-2 : goal.parse_display-returns-in-Closed-2
parse_display-returns-in-Closed-2 n c = λ b ts g.
    c.boxed-in-Closed-2.ensures _ _ _ (c.expressions.invariant b ts g _ (r_read _ _ (rw (c.is_plain.ensures, c.deref.ensures) at c.in_ok-value.ensures) (display_closes _ _ _ _ _ _ c.in-Closed-2.is c.in_ok-display.ensures.goes)))

pub parse_display-expressions-smaller : goal.parse_display-expressions-smaller
parse_display-expressions-smaller n c =
    let h = display_shrinks _ _ _ _ c.in-More-2.is c.in_ok-display.ensures.shrinks in
    let i = read_shorter c.in_ok-value.ensures in
    omega (arith, h, i)

pub parse_display-expressions-preserved : goal.parse_display-expressions-preserved
parse_display-expressions-preserved n c = λ b ts g o r.
    let s = display_begins _ _ _ _ _ _ _ o c.in-More-2.is c.in_ok-open-in-More-2.ensures.ok c.in_ok-display.ensures.goes r in
    c.expressions.invariant b ts g o (r_read _ _ (rw (c.is_plain.ensures, c.deref.ensures) at c.in_ok-value.ensures) s)

pub parse_brackets-expressions-init : goal.parse_brackets-expressions-init
parse_brackets-expressions-init n c = λ b ts g o r. link_begins _ b ts _ _ _ _ o c.in-More.is c.in_ok-open.ensures.ok g r

pub parse_brackets-returns-in_err-value : goal.parse_brackets-returns-in_err-value
parse_brackets-returns-in_err-value n c = λ b ts g.
    stopped_by _ _ _ _ _ c.from_residual-in_err-value.ensures.1 (λ w r h. c.expressions.invariant b ts g (fault w r) (r_part_fault h)) c.in_err-value.ensures

pub parse_brackets-returns-in_err-link : goal.parse_brackets-returns-in_err-link
parse_brackets-returns-in_err-link n c = λ b ts g.
    stopped_by _ _ _ _ _ c.from_residual-in_err-link.ensures.1
    (λ w r h. c.expressions.invariant b ts g (fault w r) (r_read _ _ c.in_ok-value.ensures (h _))) c.in_err-link.ensures.goes

pub parse_brackets-returns-in-Closed-2 : goal.parse_brackets-returns-in-Closed-2
parse_brackets-returns-in-Closed-2 n c = λ b ts g.
    c.expressions.invariant b ts g _ (r_read _ _ c.in_ok-value.ensures (link_closes _ _ _ _ _ _ c.in-Closed-2.is c.in_ok-link.ensures.goes))

pub parse_brackets-expressions-smaller : goal.parse_brackets-expressions-smaller
parse_brackets-expressions-smaller n c =
    let h = link_shrinks _ _ _ _ c.in-More-2.is c.in_ok-link.ensures.shrinks in
    let i = read_shorter c.in_ok-value.ensures in
    omega (arith, h, i)

pub parse_brackets-expressions-preserved : goal.parse_brackets-expressions-preserved
parse_brackets-expressions-preserved n c = λ b ts g o r.
    let s = link_begins _ _ _ _ _ _ _ o c.in-More-2.is c.in_ok-open-in-More-2.ensures.ok c.in_ok-link.ensures.goes r in
    c.expressions.invariant b ts g o (r_read _ _ c.in_ok-value.ensures s)
