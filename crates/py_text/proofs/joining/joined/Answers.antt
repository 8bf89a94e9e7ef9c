use Rattle.std.proofs.Common.{◌∙◌}
use Rattle.py_text.proofs.JoinLemmas.{joined_now}
use Rattle.py_text.proofs.joining.joined.Goals as goal

pub returns : goal.returns
returns c = (c.in_ok-join.ensures {u = tt}).ok ∙ joined_now c.args.separator.now c.args.parts.now
