use Rattle.std.proofs.Common.{sym}
use Rattle.env_vars.proofs.added.added_to.Goals as goal

pub returns-in-List-2 : goal.returns-in-List-2
returns-in-List-2 c = rw (c.in-List-2.is, sym (c.if-is_word_variable.ensures {u = tt}), ← c.as_slice-in-List-2.ensures) c.added_to_items.ensures
