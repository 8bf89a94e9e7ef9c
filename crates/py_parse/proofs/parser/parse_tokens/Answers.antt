use Rattle.py_parse.specs.Reading.{unfit, deep}
use Rattle.py_parse.specs.Kinds.{too_deep}
use Rattle.py_parse.proofs.Shorter.{shorter}
use Rattle.py_parse.proofs.Top.{tree_of}
use Rattle.py_parse.proofs.Faults.{deep_is, unfit_is}
use Rattle.py_parse.proofs.Found.{fault_found}
use Rattle.py_parse.proofs.parser.parse_tokens.Goals as goal

pub overflow_sub-tokens : goal.overflow_sub-tokens
overflow_sub-tokens c = shorter (rw c.in-Err-At.field-0-is at c.in-Err-At.ensures)

pub overflow_sub-tokens-in-Err-TooDeep : goal.overflow_sub-tokens-in-Err-TooDeep
overflow_sub-tokens-in-Err-TooDeep c = shorter (rw c.in-Err-TooDeep.field-0-is at c.in-Err-TooDeep.ensures)

pub returns-in-Ok : goal.returns-in-Ok
returns-in-Ok c = tree_of c.args.tokens.now _ c.in-Ok.ensures

pub returns-in_ok-kind-in-Err-At : goal.returns-in_ok-kind-in-Err-At
returns-in_ok-kind-in-Err-At c =
    let r = rw c.in-Err-At.field-0-is at c.in-Err-At.ensures in
    let front = c.split_at.result.0.now in
    let back = c.split_at.result.1.now in
    rw c.fault_at.ensures
    (fault_found c.args.tokens.now c.in-Err-At.rest.now front back unfit c.in_ok-kind-in-Err-At.kind r c.split_at.ensures.front c.split_at.ensures.back
    (λ q. c.in_ok-kind-in-Err-At.ensures (unfit_is front back q)))

pub returns-in-Err-TooDeep : goal.returns-in-Err-TooDeep
returns-in-Err-TooDeep c =
    let r = rw c.in-Err-TooDeep.field-0-is at c.in-Err-TooDeep.ensures in
    let front = c.split_at-in-Err-TooDeep.result.0.now in
    let back = c.split_at-in-Err-TooDeep.result.1.now in
    rw c.fault_at-in-Err-TooDeep.ensures
    (fault_found c.args.tokens.now c.in-Err-TooDeep.rest.now front back deep _ r c.split_at-in-Err-TooDeep.ensures.front c.split_at-in-Err-TooDeep.ensures.back
    (λ q. too_deep (deep_is front back q)))
