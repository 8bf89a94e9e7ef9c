use Rattle.std.proofs.Common.{sym}
use Rattle.std.proofs.lemmas.Bool.{iff_false}
use Rattle.py_state.proofs.Walks.{none_begins}
use Rattle.py_state.proofs.walk.char_from.Goals as goal

pub returns-then-not-is_char_boundary-clause-told : goal.returns-then-not-is_char_boundary-clause-told
returns-then-not-is_char_boundary-clause-told c =
    sym (none_begins c.args.text.now c.args.at (iff_false c.is_char_boundary.ensures.test c.if-not-is_char_boundary.true))
