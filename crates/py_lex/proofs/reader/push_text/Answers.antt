use Rattle.py_lex.proofs.TokenLists.{with_text-append}
use Rattle.py_lex.proofs.reader.push_text.Goals as goal

pub returns-in-Some : goal.returns-in-Some
returns-in-Some c = rw (c.in-Some.ensures.items, with_text-append) c.push_behind.ensures
