use Rattle.std.proofs.Common.{sym}
use Rattle.env_vars.proofs.grown.grow_list.Goals as goal

pub returns-clause-ok : goal.returns-clause-ok
returns-clause-ok c = rw (sym (c.if-is_word_variable.ensures {u = tt})) c.grow_items.ensures.ok
