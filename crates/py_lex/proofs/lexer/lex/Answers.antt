use Rattle.py_lex.proofs.One.{only_at, refused_at}
use Rattle.py_lex.proofs.Writing.{written_at}
use Rattle.py_lex.proofs.lexer.lex.Goals as goal

pub returns-clause-only : goal.returns-clause-only
returns-clause-only c = only_at c.args.bytes.now _ c.lex_bytes.ensures

pub returns-clause-refused : goal.returns-clause-refused
returns-clause-refused c = refused_at c.args.bytes.now _ c.lex_bytes.ensures

pub returns-clause-written : goal.returns-clause-written
returns-clause-written c = written_at c.args.bytes.now _ c.lex_bytes.ensures
