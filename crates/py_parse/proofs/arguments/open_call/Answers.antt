use Rattle.py_tree.specs.Tree.{argument_tree}
use Rattle.std.proofs.Common.{sym}
use Rattle.py_parse.proofs.Steps.{link_continues_over}
use Rattle.py_parse.proofs.Puts.{none, call_opens, call_empty}
use Rattle.py_parse.proofs.arguments.open_call.Goals as goal

pub returns-then-sees : goal.returns-then-sees
returns-then-sees c = λ d o r. call_opens _ _ (none argument_tree _ c.new-arguments.ensures.items) (sym c.if-sees.ensures) r

pub returns : goal.returns
returns c = link_continues_over _ _ _ _ _ (λ d o r. call_empty _ _ (none argument_tree _ c.new-arguments.ensures.items) (sym c.if-sees.ensures) r) c.close_call.ensures.goes
