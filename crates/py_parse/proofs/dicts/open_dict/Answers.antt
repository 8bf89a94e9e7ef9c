use Rattle.py_tree.specs.Tree.{pair_tree}
use Rattle.std.proofs.Common.{sym}
use Rattle.py_parse.proofs.Steps.{continues_over}
use Rattle.py_parse.proofs.Puts.{none, dict_opens, dict_empty}
use Rattle.py_parse.proofs.dicts.open_dict.Goals as goal

pub returns-then-sees : goal.returns-then-sees
returns-then-sees c = λ d o r. dict_opens _ _ (none pair_tree _ c.new-pairs.ensures.items) (sym c.if-sees.ensures) r

pub returns : goal.returns
returns c = continues_over _ _ _ _ _ (λ d o r. dict_empty _ _ (none pair_tree _ c.new-pairs.ensures.items) (sym c.if-sees.ensures) r) c.close_dict.ensures.goes
