use Rattle.std.proofs.Common.{sym, ◌∙◌}
use Rattle.py_parse.specs.Grammar as grammar
use Rattle.py_parse.specs.Reading.{Reads, pick}
use Rattle.py_parse.proofs.Cases.{stopped_by}
use Rattle.py_parse.proofs.Simples.{returned_none, return_fault, return_ok}
use Rattle.py_parse.proofs.statements.parse_return.Goals as goal

pub returns-then-not-sees : goal.returns-then-not-sees
returns-then-not-sees c = returned_none _ _ _ (sym c.if-not-sees.ensures)

pub returns-in_err-value : goal.returns-in_err-value
returns-in_err-value c =
    stopped_by _ _ (Reads c.args.depth (pick grammar.exprs c.args.tokens.now) c.args.tokens.now) (Reads c.args.depth (grammar.return_body c.args.line) c.args.tokens.now)
    c.in_err-value.field-0.0 c.from_residual.ensures.1
    (λ w rest r. return_fault c.args.depth c.args.line c.args.tokens.now rest w (sym c.sees.ensures ∙ c.if-not-sees.false) r) c.in_err-value.ensures

pub returns : goal.returns
returns c = return_ok _ _ _ _ _ (sym c.sees.ensures ∙ c.if-not-sees.false) c.in_ok-value.ensures
