use Rattle.std.proofs.Common.{◌∙◌, map, ap}
use Rattle.py_tree.specs.Tree.{trees, line_tree}
use Rattle.py_meaning.specs.Arguments.{parameters_by}
use Rattle.py_meaning.specs.LocalNames.{local_names}
use Rattle.py_steps.specs.Todos.{parameters_in}
use Rattle.py_steps.proofs.Definitions.{defines_at, function_is}
use Rattle.py_steps.proofs.statements.define.Goals as goal

pub returns : goal.returns
returns c =
    let ps = parameters_in c.args.definition in
    defines_at c.args.definition c.args.base c.args.desk.now c.take_above.new.self c.args.machine.now c.add_function.new.self c.bind.new.self c.args.frame.now c.bind.new.frame c.in_ok-values.values.items _ c.in_ok-value.value
    c.in_ok-values.ensures.values c.in_ok-values.ensures.left
    (function_is _ _ _ _ _ _ _ _ _ _ c.in_ok-copy.ensures (ap (λ f. f.script) c.frame.view_is) (c.in_ok-parameters.ensures ∙ ap (parameters_by ps) c.as_slice.ensures.value) (c.in_ok-locals.ensures ∙ ap (λ ls. local_names ps (trees (map line_tree ls))) (c.as_slice-2.ensures.value ∙ ap (λ b. b.items) c.deref.ensures)) (ap (λ b. trees (map line_tree b.items)) c.in_ok-clone.ensures.cases))
    c.in_ok-value.ensures.ok c.in_ok-value.ensures.added c.in_ok-bind.ensures
