use Rattle.std.proofs.Common.{refl}
use Rattle.py_parse.specs.Grammar as grammar
use Rattle.py_parse.specs.Agrees as agrees
use Rattle.py_parse.specs.Reading.{Reads, pick}
use Rattle.py_parse.proofs.Cases.{stopped_by}
use Rattle.py_parse.proofs.Paths.{parameters_fault0, parameters_unfit1, parameters_ok}
use Rattle.py_parse.proofs.parameters.parse_parameters.Goals as goal

pub returns-in_err-parameters : goal.returns-in_err-parameters
returns-in_err-parameters c =
    stopped_by _ _ (Reads c.args.depth (pick agrees.no_params c.args.tokens.now) c.args.tokens.now) (Reads c.args.depth (pick grammar.parameters c.args.tokens.now) c.args.tokens.now)
    c.in_err-parameters.field-0.0 c.from_residual.ensures.1 (λ w rest r. parameters_fault0 c.args.depth r) c.in_err-parameters.ensures

pub returns-in_default : goal.returns-in_default
returns-in_default c = parameters_unfit1 _ c.in_ok-parameters.ensures c.in_default.ensures

pub returns : goal.returns
returns c = parameters_ok _ c.in_ok-parameters.ensures c.in-Some.ensures refl
