use Rattle.py_parse.proofs.Found.{only_at, refused_at}
use Rattle.py_parse.proofs.parser.parse.Goals as goal

pub returns-clause-only : goal.returns-clause-only
returns-clause-only c = only_at c.args.tokens.now _ (rw c.as_slice.ensures at c.parse_tokens.ensures)

pub returns-clause-refused : goal.returns-clause-refused
returns-clause-refused c = refused_at c.args.tokens.now _ (rw c.as_slice.ensures at c.parse_tokens.ensures)
