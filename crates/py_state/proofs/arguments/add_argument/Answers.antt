use Rattle.std.proofs.Common.{List, ap, sym, ◌∙◌}
use Rattle.py_tree.proofs.Views.{argument_tree-Positional}
use Rattle.py_heap.specs.declared.value.Value.{Value}
use Rattle.py_host.specs.Calls.{Arguments, arguments_of}
use Rattle.py_state.proofs.Forms.{positional}
use Rattle.py_state.proofs.arguments.add_argument.Goals as goal

pub returns-in_ok-push-in-Positional : goal.returns-in_ok-push-in-Positional
returns-in_ok-push-in-Positional c =
    let given : List Value → Arguments = λ vs. record { positional = vs; named = c.args.args.now.named } in
    rw (c.in-Positional.is, argument_tree-Positional c.in-Positional.value)
    (ap given c.in_ok-push-in-Positional.ensures.items ∙ sym (positional c.in-Positional.value (arguments_of c.args.args.now) c.args.value))
