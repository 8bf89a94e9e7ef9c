use Rattle.std.proofs.Common.{◌∙◌, chars}
use Rattle.std.proofs.lemmas.Str.{encodes-chars}
use Rattle.py_text.proofs.OrderLemmas.{order_kept}
use Rattle.py_text.proofs.order.compare.Goals as goal

pub returns : goal.returns
returns c = c.cmp.ensures ∙ rw (encodes-chars c.args.a.now c.utf8.a, encodes-chars c.args.b.now c.utf8.b) at (order_kept (chars c.args.a.now) (chars c.args.b.now))
