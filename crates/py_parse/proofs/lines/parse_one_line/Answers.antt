use Rattle.py_tree.proofs.Views.{line_tree-Simple}
use Rattle.py_parse.specs.Grammar as grammar
use Rattle.py_parse.specs.Reading.{Reads, pick}
use Rattle.py_parse.proofs.Cases.{stopped_by}
use Rattle.py_parse.proofs.Paths.{one_line_fault0}
use Rattle.py_parse.proofs.Blocks.{one_line_block}
use Rattle.py_parse.proofs.lines.parse_one_line.Goals as goal

pub returns-in_err-statements : goal.returns-in_err-statements
returns-in_err-statements c =
    stopped_by _ _ (Reads c.args.depth (pick (grammar.statements c.args.site) c.args.tokens.now) c.args.tokens.now) (Reads c.args.depth (pick (grammar.block c.args.site) c.args.tokens.now) c.args.tokens.now)
    c.in_err-statements.field-0.0 c.from_residual.ensures.1 (λ w rest r. one_line_fault0 c.args.depth c.args.site c.requires r) c.in_err-statements.ensures

pub returns : goal.returns
returns c = rw (c.in_ok-push.ensures.items, c.new-lines.ensures.items) (one_line_block _ _ _ _ _ _ c.requires c.in_ok-statements.ensures (line_tree-Simple c.in_ok-statements.statements))
