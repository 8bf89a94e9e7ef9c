use Rattle.std.proofs.Common.{arith, ◌≡◌, ◌∙◌, ◌∷◌, List, map, length, ap, sym, refl, subst, w64}
use Rattle.std.proofs.lemmas.Int.{ints}
use mir.Val.{to_z, of_z}
use Rattle.py_tree.specs.Tree.{trees, words, joined, expr_tree, operation_tree, link_tree, pair_tree, piece_tree}
use Rattle.py_tree.specs.declared.expr.Expr.{Expr}
use Rattle.py_tree.specs.declared.expr.Operation.{Operation}
use Rattle.py_tree.specs.declared.expr.Link.{Link}
use Rattle.py_tree.specs.declared.expr.Pair.{Pair}
use Rattle.py_tree.specs.declared.expr.Piece.{Piece}
use Rattle.py_tree.proofs.Views.{expr_tree-Name, expr_tree-Integer, expr_tree-Text, expr_tree-Constant, expr_tree-Group, expr_tree-Tuple, expr_tree-List, expr_tree-Comprehension, expr_tree-Dict, expr_tree-Post, expr_tree-Negative, expr_tree-Not, expr_tree-Chain, expr_tree-Compare, expr_tree-Choice, expr_tree-Joined}
use Rattle.py_heap.specs.declared.value.Value.TheVariants as v
use Rattle.py_heap.specs.Given.{given_text}
use Rattle.py_operators.specs.Binary.{binary_of}
use Rattle.py_meaning.specs.States.{goes_on}
use Rattle.py_meaning.specs.Jobs.{eval, eval_all, operations, links}
use Rattle.py_meaning.specs.Plans.{first, after}
use Rattle.py_meaning.specs.Expressions.{flat_pairs, named_line}
use Rattle.py_meaning.specs.Loops.{walk_of}
use Rattle.py_meaning.specs.Lookup.{found_in}
use Rattle.py_meaning.specs.Joined.{fields_of}
use Rattle.py_heap.specs.Heap.{truth_of}
use Rattle.py_state.specs.Stores.{state_of}
use Rattle.py_steps.specs.Desks.{Stacks, tasks_of, values_of}
use Rattle.py_steps.specs.declared.task.Task.TheVariants as task
use Rattle.py_steps.specs.Todos.{left, gives_on, all_on, made_on, one_of}
use Rattle.py_steps.specs.Leads.{Stops}
use Rattle.py_steps.proofs.Beginnings.{as_tree, before, evaluated, walked, integer_begins, integer_stops, text_begins, text_stops, constant_begins, group_begins, tuple_begins, list_begins, dict_begins, comprehension_begins, post_begins, negative_begins, not_begins, chain_begins, compare_begins}
use Rattle.py_steps.proofs.Going.{given, pushed, pushed_two}
use Rattle.py_steps.proofs.Joining.{joined_begins}
use Rattle.py_steps.proofs.Picking.{choice_begins}
use Rattle.py_steps.proofs.Naming.{named_leads_as, unnamed_stops_as}
use Rattle.py_steps.proofs.Stepping.{leads_on, stops_value}
use Rattle.py_steps.proofs.expressions.evaluate.Goals as goal

pub returns-in_ok-give-in-Ok-clause-leads : goal.returns-in_ok-give-in-Ok-clause-leads
returns-in_ok-give-in-Ok-clause-leads g c =
    λ k r h3 d. named_leads_as (found_in (state_of c.args.machine.now c.args.frame.now) c.in-Name.name) c.in-Name.line c.in-Name.name c.in-Ok.value (tasks_of c.args.desk.now) (values_of c.args.desk.now) (state_of c.args.machine.now c.args.frame.now) (ap expr_tree c.in-Name.is ∙ expr_tree-Name c.in-Name.line c.in-Name.name) refl c.in-Ok.ensures.ok (given c.args.desk.now c.give.new.self c.in-Ok.value (state_of c.args.machine.now c.args.frame.now) c.in_ok-give-in-Ok.ensures) d

pub returns-in-Err-clause-leads : goal.returns-in-Err-clause-leads
returns-in-Err-clause-leads g c =
    λ k. unnamed_stops_as g.H.Host.meaning k c.args.host.now c.named.new.host (found_in (state_of c.args.machine.now c.args.frame.now) c.in-Name.name) c.in-Name.line c.in-Name.name (tasks_of c.args.desk.now) (values_of c.args.desk.now) (state_of c.args.machine.now c.args.frame.now) c.in-Err.stop (ap expr_tree c.in-Name.is ∙ expr_tree-Name c.in-Name.line c.in-Name.name) refl c.in-Err.ensures.fault

pub returns-in_ok-give-in-Ok-above_zero-clause-leads : goal.returns-in_ok-give-in-Ok-above_zero-clause-leads
returns-in_ok-give-in-Ok-above_zero-clause-leads g c =
    let same_value : to_z w64 (of_z w64 c.in-Ok-above_zero.value) ≡ c.in-Ok-above_zero.value = omega (arith, ints) in
    λ k. leads_on (as_tree (tasks_of c.args.desk.now) (values_of c.args.desk.now) (state_of c.args.machine.now c.args.frame.now) (ap expr_tree c.in-Integer.is ∙ expr_tree-Integer c.in-Integer.line c.in-Integer.value) (integer_begins c.in-Integer.line c.in-Integer.value c.in-Ok-above_zero.value (tasks_of c.args.desk.now) (values_of c.args.desk.now) (state_of c.args.machine.now c.args.frame.now) (sym c.above_zero.ensures ∙ c.in-Ok-above_zero.is)))
    (given c.args.desk.now c.give-in-Ok-above_zero.new.self _ (state_of c.args.machine.now c.args.frame.now) c.in_ok-give-in-Ok-above_zero.ensures ∙ ap (λ i. left (tasks_of c.args.desk.now) (v.Int i ∷ (values_of c.args.desk.now)) (goes_on (state_of c.args.machine.now c.args.frame.now))) same_value)

pub returns-in-Err-above_zero-clause-leads : goal.returns-in-Err-above_zero-clause-leads
returns-in-Err-above_zero-clause-leads g c =
    λ k. subst (λ stop. Stops g.H.Host.meaning k (before (expr_tree c.args.expr.now) (tasks_of c.args.desk.now) (values_of c.args.desk.now) (state_of c.args.machine.now c.args.frame.now)) c.args.host.now stop c.args.host.now) (sym c.value_fault.ensures.stop)
    (stops_value g.H.Host.meaning k c.args.host.now c.in-Integer.line (state_of c.args.machine.now c.args.frame.now) c.in-Err-above_zero.fault (λ p. (as_tree (tasks_of c.args.desk.now) (values_of c.args.desk.now) (state_of c.args.machine.now c.args.frame.now) (ap expr_tree c.in-Integer.is ∙ expr_tree-Integer c.in-Integer.line c.in-Integer.value) (integer_stops c.in-Integer.line c.in-Integer.value c.in-Err-above_zero.fault (tasks_of c.args.desk.now) (values_of c.args.desk.now) (state_of c.args.machine.now c.args.frame.now) (sym c.above_zero.ensures ∙ c.in-Err-above_zero.is)))))

pub returns-in_ok-give-in-Ok-text-clause-leads : goal.returns-in_ok-give-in-Ok-text-clause-leads
returns-in_ok-give-in-Ok-text-clause-leads g c =
    λ k. leads_on (as_tree (tasks_of c.args.desk.now) (values_of c.args.desk.now) (state_of c.args.machine.now c.args.frame.now) (ap expr_tree c.in-Text.is ∙ expr_tree-Text c.in-Text.line c.in-Text.text) (text_begins c.in-Text.line c.in-Text.text c.in-Ok-text.value c.text.new.self (tasks_of c.args.desk.now) (values_of c.args.desk.now) (state_of c.args.machine.now c.args.frame.now) (ap (given_text c.args.machine.now.heap) (sym c.as_str.ensures) ∙ c.in-Ok-text.ensures.ok)))
    (given c.args.desk.now c.give-in-Ok-text.new.self c.in-Ok-text.value _ c.in_ok-give-in-Ok-text.ensures)

pub returns-in-Err-text-clause-leads : goal.returns-in-Err-text-clause-leads
returns-in-Err-text-clause-leads g c =
    λ k. subst (λ stop. Stops g.H.Host.meaning k (before (expr_tree c.args.expr.now) (tasks_of c.args.desk.now) (values_of c.args.desk.now) (state_of c.args.machine.now c.args.frame.now)) c.args.host.now stop c.args.host.now) (sym c.value_fault-in-Err-text.ensures.stop)
    (stops_value g.H.Host.meaning k c.args.host.now c.in-Text.line (state_of c.args.machine.now c.args.frame.now) c.in-Err-text.fault (λ p. (as_tree (tasks_of c.args.desk.now) (values_of c.args.desk.now) (state_of c.args.machine.now c.args.frame.now) (ap expr_tree c.in-Text.is ∙ expr_tree-Text c.in-Text.line c.in-Text.text) (text_stops c.in-Text.line c.in-Text.text c.in-Err-text.fault (tasks_of c.args.desk.now) (values_of c.args.desk.now) (state_of c.args.machine.now c.args.frame.now) (ap (given_text c.args.machine.now.heap) (sym c.as_str.ensures) ∙ c.in-Err-text.ensures.fault p)))))

pub returns-in_ok-give-in-Constant-clause-leads : goal.returns-in_ok-give-in-Constant-clause-leads
returns-in_ok-give-in-Constant-clause-leads g c =
    λ k. leads_on (as_tree (tasks_of c.args.desk.now) (values_of c.args.desk.now) (state_of c.args.machine.now c.args.frame.now) (ap expr_tree c.in-Constant.is ∙ expr_tree-Constant c.in-Constant.line c.in-Constant.constant) (constant_begins c.in-Constant.line c.in-Constant.constant (tasks_of c.args.desk.now) (values_of c.args.desk.now) (state_of c.args.machine.now c.args.frame.now)))
    (given c.args.desk.now c.give-in-Constant.new.self _ (state_of c.args.machine.now c.args.frame.now) c.in_ok-give-in-Constant.ensures ∙ ap (λ x. left (tasks_of c.args.desk.now) (x ∷ (values_of c.args.desk.now)) (goes_on (state_of c.args.machine.now c.args.frame.now))) c.constant_value.ensures)

pub returns-in_ok-push-in-Group-clause-leads : goal.returns-in_ok-push-in-Group-clause-leads
returns-in_ok-push-in-Group-clause-leads g c =
    λ k. leads_on (as_tree (tasks_of c.args.desk.now) (values_of c.args.desk.now) (state_of c.args.machine.now c.args.frame.now) (ap expr_tree c.in-Group.is ∙ expr_tree-Group c.in-Group.line c.in-Group.inner) (group_begins c.in-Group.line (expr_tree c.in-Group.inner.value) (tasks_of c.args.desk.now) (values_of c.args.desk.now) (state_of c.args.machine.now c.args.frame.now)))
    (pushed c.args.desk.now c.push.new.self _ (state_of c.args.machine.now c.args.frame.now) c.in_ok-push-in-Group.ensures ∙ ap (λ x. before (expr_tree x) (tasks_of c.args.desk.now) (values_of c.args.desk.now) (state_of c.args.machine.now c.args.frame.now)) c.deref.ensures)

pub returns-in_ok-push-in-Tuple-2-clause-leads : goal.returns-in_ok-push-in-Tuple-2-clause-leads
returns-in_ok-push-in-Tuple-2-clause-leads g c =
    λ k. leads_on (as_tree (tasks_of c.args.desk.now) (values_of c.args.desk.now) (state_of c.args.machine.now c.args.frame.now) (ap expr_tree c.in-Tuple.is ∙ expr_tree-Tuple c.in-Tuple.line c.in-Tuple.items c.in-Tuple.trailing_comma) (tuple_begins c.in-Tuple.line (trees (map expr_tree c.in-Tuple.items.items)) c.in-Tuple.trailing_comma (tasks_of c.args.desk.now) (values_of c.args.desk.now) (state_of c.args.machine.now c.args.frame.now)))
    (pushed_two c.args.desk.now c.push-in-Tuple.new.self c.push-in-Tuple-2.new.self _ _ (state_of c.args.machine.now c.args.frame.now) c.in_ok-push-in-Tuple.ensures c.in_ok-push-in-Tuple-2.ensures
    ∙ ap (λ base. first (eval_all ((trees (map expr_tree c.as_slice.result.now)))) (state_of c.args.machine.now c.args.frame.now) (all_on (values_of c.args.desk.now) (left (task.Tuple c.in-Tuple.line base ∷ (tasks_of c.args.desk.now))))) c.height-base.ensures
    ∙ ap (λ (xs : List Expr). first (eval_all ((trees (map expr_tree xs)))) (state_of c.args.machine.now c.args.frame.now) (all_on (values_of c.args.desk.now) (left (task.Tuple c.in-Tuple.line (length (values_of c.args.desk.now)) ∷ (tasks_of c.args.desk.now))))) c.as_slice.ensures.value)

pub returns-in_ok-push-in-List-2-clause-leads : goal.returns-in_ok-push-in-List-2-clause-leads
returns-in_ok-push-in-List-2-clause-leads g c =
    λ k. leads_on (as_tree (tasks_of c.args.desk.now) (values_of c.args.desk.now) (state_of c.args.machine.now c.args.frame.now) (ap expr_tree c.in-List.is ∙ expr_tree-List c.in-List.line c.in-List.items) (list_begins c.in-List.line (trees (map expr_tree c.in-List.items.items)) (tasks_of c.args.desk.now) (values_of c.args.desk.now) (state_of c.args.machine.now c.args.frame.now)))
    (pushed_two c.args.desk.now c.push-in-List.new.self c.push-in-List-2.new.self _ _ (state_of c.args.machine.now c.args.frame.now) c.in_ok-push-in-List.ensures c.in_ok-push-in-List-2.ensures
    ∙ ap (λ base. first (eval_all ((trees (map expr_tree c.as_slice-in-List.result.now)))) (state_of c.args.machine.now c.args.frame.now) (all_on (values_of c.args.desk.now) (left (task.List c.in-List.line base ∷ (tasks_of c.args.desk.now))))) c.height-base-in-List.ensures
    ∙ ap (λ (xs : List Expr). first (eval_all ((trees (map expr_tree xs)))) (state_of c.args.machine.now c.args.frame.now) (all_on (values_of c.args.desk.now) (left (task.List c.in-List.line (length (values_of c.args.desk.now)) ∷ (tasks_of c.args.desk.now))))) c.as_slice-in-List.ensures.value)

pub returns-in_ok-push-in-Dict-2-clause-leads : goal.returns-in_ok-push-in-Dict-2-clause-leads
returns-in_ok-push-in-Dict-2-clause-leads g c =
    λ k. leads_on (as_tree (tasks_of c.args.desk.now) (values_of c.args.desk.now) (state_of c.args.machine.now c.args.frame.now) (ap expr_tree c.in-Dict.is ∙ expr_tree-Dict c.in-Dict.line c.in-Dict.pairs) (dict_begins c.in-Dict.line (trees (map pair_tree c.in-Dict.pairs.items)) (tasks_of c.args.desk.now) (values_of c.args.desk.now) (state_of c.args.machine.now c.args.frame.now)))
    (pushed_two c.args.desk.now c.push-in-Dict.new.self c.push-in-Dict-2.new.self _ _ (state_of c.args.machine.now c.args.frame.now) c.in_ok-push-in-Dict.ensures c.in_ok-push-in-Dict-2.ensures
    ∙ ap (λ base. first (eval_all (flat_pairs (trees (map pair_tree c.as_slice-in-Dict.result.now)))) (state_of c.args.machine.now c.args.frame.now) (all_on (values_of c.args.desk.now) (left (task.Dict c.in-Dict.line base ∷ (tasks_of c.args.desk.now))))) c.height-base-in-Dict.ensures
    ∙ ap (λ (xs : List Pair). first (eval_all (flat_pairs (trees (map pair_tree xs)))) (state_of c.args.machine.now c.args.frame.now) (all_on (values_of c.args.desk.now) (left (task.Dict c.in-Dict.line (length (values_of c.args.desk.now)) ∷ (tasks_of c.args.desk.now))))) c.as_slice-in-Dict.ensures.value)

pub returns-in_ok-evaluate-in-Comprehension-clause-leads : goal.returns-in_ok-evaluate-in-Comprehension-clause-leads
returns-in_ok-evaluate-in-Comprehension-clause-leads g c =
    λ k. leads_on (as_tree (tasks_of c.args.desk.now) (values_of c.args.desk.now) (state_of c.args.machine.now c.args.frame.now) (ap expr_tree c.in-Comprehension.is ∙ expr_tree-Comprehension c.in-Comprehension.line c.in-Comprehension.item c.in-Comprehension.names c.in-Comprehension.source c.in-Comprehension.tests) (comprehension_begins c.in-Comprehension.line (expr_tree c.in-Comprehension.item.value) (words c.in-Comprehension.names.items) (expr_tree c.in-Comprehension.source.value) (trees (map expr_tree c.in-Comprehension.tests.items)) (tasks_of c.args.desk.now) (values_of c.args.desk.now) (state_of c.args.machine.now c.args.frame.now)))
    (evaluated c.args.desk.now c.evaluate.new.self _ c.in-Comprehension.source.value _ (state_of c.args.machine.now c.args.frame.now) c.in_ok-evaluate-in-Comprehension.ensures c.deref-in-Comprehension-2.ensures
    ∙ ap (λ (e : Expr). after (expr_tree c.in-Comprehension.source.value) (state_of c.args.machine.now c.args.frame.now) (λ x s. walked c.in-Comprehension.line (expr_tree e) (words c.as_slice-in-Comprehension.result.now) (trees (map expr_tree c.as_slice-in-Comprehension-2.result.now)) (values_of c.args.desk.now) (left (tasks_of c.args.desk.now)) s (walk_of s.objects x))) c.deref-in-Comprehension.ensures
    ∙ ap (λ names. after (expr_tree c.in-Comprehension.source.value) (state_of c.args.machine.now c.args.frame.now) (λ x s. walked c.in-Comprehension.line (expr_tree c.in-Comprehension.item.value) (words names) (trees (map expr_tree c.as_slice-in-Comprehension-2.result.now)) (values_of c.args.desk.now) (left (tasks_of c.args.desk.now)) s (walk_of s.objects x))) c.as_slice-in-Comprehension.ensures.value
    ∙ ap (λ (tests : List Expr). after (expr_tree c.in-Comprehension.source.value) (state_of c.args.machine.now c.args.frame.now) (λ x s. walked c.in-Comprehension.line (expr_tree c.in-Comprehension.item.value) (words c.in-Comprehension.names.items) (trees (map expr_tree tests)) (values_of c.args.desk.now) (left (tasks_of c.args.desk.now)) s (walk_of s.objects x))) c.as_slice-in-Comprehension-2.ensures.value)

pub returns-in_ok-evaluate-in-Post-clause-leads : goal.returns-in_ok-evaluate-in-Post-clause-leads
returns-in_ok-evaluate-in-Post-clause-leads g c =
    let named = c.named_line-named.ensures ∙ ap (λ (e : Expr). named_line (expr_tree e)) c.deref-in-Post.ensures in
    λ k. leads_on (as_tree (tasks_of c.args.desk.now) (values_of c.args.desk.now) (state_of c.args.machine.now c.args.frame.now) (ap expr_tree c.in-Post.is ∙ expr_tree-Post c.in-Post.atom c.in-Post.links) (post_begins (expr_tree c.in-Post.atom.value) (trees (map link_tree c.in-Post.links.items)) c.named_line-named.result (tasks_of c.args.desk.now) (values_of c.args.desk.now) (state_of c.args.machine.now c.args.frame.now) named))
    (evaluated c.args.desk.now c.evaluate-in-Post.new.self _ c.in-Post.atom.value _ (state_of c.args.machine.now c.args.frame.now) c.in_ok-evaluate-in-Post.ensures c.deref-in-Post-2.ensures
    ∙ ap (λ (ls : List Link). after (expr_tree c.in-Post.atom.value) (state_of c.args.machine.now c.args.frame.now) (λ x s. first (links x c.named_line-named.result (trees (map link_tree ls))) s (gives_on (values_of c.args.desk.now) (left (tasks_of c.args.desk.now))))) c.as_slice-links.ensures.value)

pub returns-in_ok-evaluate-in-Negative-clause-leads : goal.returns-in_ok-evaluate-in-Negative-clause-leads
returns-in_ok-evaluate-in-Negative-clause-leads g c =
    λ k. leads_on (as_tree (tasks_of c.args.desk.now) (values_of c.args.desk.now) (state_of c.args.machine.now c.args.frame.now) (ap expr_tree c.in-Negative.is ∙ expr_tree-Negative c.in-Negative.line c.in-Negative.operand) (negative_begins c.in-Negative.line (expr_tree c.in-Negative.operand.value) (tasks_of c.args.desk.now) (values_of c.args.desk.now) (state_of c.args.machine.now c.args.frame.now)))
    (evaluated c.args.desk.now c.evaluate-in-Negative.new.self _ c.in-Negative.operand.value _ (state_of c.args.machine.now c.args.frame.now) c.in_ok-evaluate-in-Negative.ensures c.deref-in-Negative.ensures)

pub returns-in_ok-evaluate-in-Not-clause-leads : goal.returns-in_ok-evaluate-in-Not-clause-leads
returns-in_ok-evaluate-in-Not-clause-leads g c =
    λ k. leads_on (as_tree (tasks_of c.args.desk.now) (values_of c.args.desk.now) (state_of c.args.machine.now c.args.frame.now) (ap expr_tree c.in-Not.is ∙ expr_tree-Not c.in-Not.line c.in-Not.operand) (not_begins c.in-Not.line (expr_tree c.in-Not.operand.value) (tasks_of c.args.desk.now) (values_of c.args.desk.now) (state_of c.args.machine.now c.args.frame.now)))
    (evaluated c.args.desk.now c.evaluate-in-Not.new.self _ c.in-Not.operand.value _ (state_of c.args.machine.now c.args.frame.now) c.in_ok-evaluate-in-Not.ensures c.deref-in-Not.ensures)

pub returns-in_ok-evaluate-in-Chain-clause-leads : goal.returns-in_ok-evaluate-in-Chain-clause-leads
returns-in_ok-evaluate-in-Chain-clause-leads g c =
    λ k. leads_on (as_tree (tasks_of c.args.desk.now) (values_of c.args.desk.now) (state_of c.args.machine.now c.args.frame.now) (ap expr_tree c.in-Chain.is ∙ expr_tree-Chain c.in-Chain.first c.in-Chain.rest) (chain_begins (expr_tree c.in-Chain.first.value) (trees (map operation_tree c.in-Chain.rest.items)) (tasks_of c.args.desk.now) (values_of c.args.desk.now) (state_of c.args.machine.now c.args.frame.now)))
    (evaluated c.args.desk.now c.evaluate-in-Chain.new.self _ c.in-Chain.first.value _ (state_of c.args.machine.now c.args.frame.now) c.in_ok-evaluate-in-Chain.ensures c.deref-in-Chain.ensures
    ∙ ap (λ (os : List Operation). after (expr_tree c.in-Chain.first.value) (state_of c.args.machine.now c.args.frame.now) (λ x s. first (operations x (trees (map operation_tree os))) s (gives_on (values_of c.args.desk.now) (left (tasks_of c.args.desk.now))))) c.as_slice-in-Chain.ensures.value)

pub returns-in_ok-evaluate-in-Compare-clause-leads : goal.returns-in_ok-evaluate-in-Compare-clause-leads
returns-in_ok-evaluate-in-Compare-clause-leads g c =
    λ k. leads_on (as_tree (tasks_of c.args.desk.now) (values_of c.args.desk.now) (state_of c.args.machine.now c.args.frame.now) (ap expr_tree c.in-Compare.is ∙ expr_tree-Compare c.in-Compare.line c.in-Compare.comparison c.in-Compare.left c.in-Compare.right) (compare_begins c.in-Compare.line c.in-Compare.comparison c.comparison_op-op.result (expr_tree c.in-Compare.left.value) (expr_tree c.in-Compare.right.value) (tasks_of c.args.desk.now) (values_of c.args.desk.now) (state_of c.args.machine.now c.args.frame.now) c.comparison_op-op.ensures))
    (evaluated c.push-in-Compare.new.self c.evaluate-in-Compare.new.self _ c.in-Compare.left.value _ (state_of c.args.machine.now c.args.frame.now) c.in_ok-evaluate-in-Compare.ensures c.deref-in-Compare.ensures
    ∙ ap (λ (d : Stacks). after (expr_tree c.in-Compare.left.value) (state_of c.args.machine.now c.args.frame.now) (λ x s. after (expr_tree c.deref-in-Compare-2.result.now) s (λ y s2. left d.tasks (y ∷ x ∷ d.values) (goes_on s2)))) c.in_ok-push-in-Compare.ensures
    ∙ ap (λ (e : Expr). after (expr_tree c.in-Compare.left.value) (state_of c.args.machine.now c.args.frame.now) (λ x s. after (expr_tree e) s (λ y s2. made_on c.in-Compare.line s2 (binary_of c.comparison_op-op.result s2.objects s2.units x y) (values_of c.args.desk.now) (left (tasks_of c.args.desk.now))))) c.deref-in-Compare-2.ensures)

pub returns-in_ok-evaluate-in-Choice-clause-leads : goal.returns-in_ok-evaluate-in-Choice-clause-leads
returns-in_ok-evaluate-in-Choice-clause-leads g c =
    λ k. leads_on (as_tree (tasks_of c.args.desk.now) (values_of c.args.desk.now) (state_of c.args.machine.now c.args.frame.now) (ap expr_tree c.in-Choice.is ∙ expr_tree-Choice c.in-Choice.line c.in-Choice.value c.in-Choice.test c.in-Choice.other) (choice_begins c.in-Choice.line (expr_tree c.in-Choice.value.value) (expr_tree c.in-Choice.test.value) (expr_tree c.in-Choice.other.value) (tasks_of c.args.desk.now) (values_of c.args.desk.now) (state_of c.args.machine.now c.args.frame.now)))
    (evaluated c.args.desk.now c.evaluate-in-Choice.new.self _ c.in-Choice.test.value _ (state_of c.args.machine.now c.args.frame.now) c.in_ok-evaluate-in-Choice.ensures c.deref-in-Choice.ensures
    ∙ ap (λ (e : Expr). after (expr_tree c.in-Choice.test.value) (state_of c.args.machine.now c.args.frame.now) (λ x s. first (eval (one_of (truth_of s.objects x) (expr_tree e) (expr_tree c.deref-in-Choice-3.result.now))) s (gives_on (values_of c.args.desk.now) (left (tasks_of c.args.desk.now))))) c.deref-in-Choice-2.ensures
    ∙ ap (λ (e : Expr). after (expr_tree c.in-Choice.test.value) (state_of c.args.machine.now c.args.frame.now) (λ x s. first (eval (one_of (truth_of s.objects x) (expr_tree c.in-Choice.value.value) (expr_tree e))) s (gives_on (values_of c.args.desk.now) (left (tasks_of c.args.desk.now))))) c.deref-in-Choice-3.ensures)

pub returns-in_ok-push-in-Joined-2-clause-leads : goal.returns-in_ok-push-in-Joined-2-clause-leads
returns-in_ok-push-in-Joined-2-clause-leads g c =
    λ k. leads_on (as_tree (tasks_of c.args.desk.now) (values_of c.args.desk.now) (state_of c.args.machine.now c.args.frame.now) (ap expr_tree c.in-Joined.is ∙ expr_tree-Joined c.in-Joined.line c.in-Joined.pieces ∙ ap (λ (xs : List Piece). joined c.in-Joined.line (trees (map piece_tree xs))) (sym c.as_slice-pieces.ensures.value)) (joined_begins c.in-Joined.line c.as_slice-pieces.result (tasks_of c.args.desk.now) (values_of c.args.desk.now) (state_of c.args.machine.now c.args.frame.now)))
    (pushed_two c.args.desk.now c.push-in-Joined.new.self c.push-in-Joined-2.new.self _ _ (state_of c.args.machine.now c.args.frame.now) c.in_ok-push-in-Joined.ensures c.in_ok-push-in-Joined-2.ensures
    ∙ ap (λ base. first (eval_all (fields_of (trees (map piece_tree c.as_slice-pieces.result.now)))) (state_of c.args.machine.now c.args.frame.now) (all_on (values_of c.args.desk.now) (left (task.Join c.in-Joined.line c.as_slice-pieces.result base ∷ (tasks_of c.args.desk.now))))) c.height-base-in-Joined.ensures)
