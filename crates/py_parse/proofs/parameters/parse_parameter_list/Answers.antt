use Rattle.std.proofs.Common.{arith, refl}
use Rattle.py_tree.specs.Tree.{parameter_tree}
use Rattle.py_parse.proofs.Cases.{taken_shorter, map_more}
use Rattle.py_parse.proofs.Params.{params_start, params_none, params_end, params_last, params_more, params_default_answers}
use Rattle.py_parse.proofs.parameters.parse_parameter_list.Goals as goal

pub parameters-init : goal.parameters-init
parameters-init c = params_start _ _ _ _ c.new-seen.ensures (rw c.new-found.ensures.items refl)

pub returns-in_default : goal.returns-in_default
returns-in_default c = params_end _ _ _ _ _ _ c.parameters.invariant (params_none _ _ _ c.in_default.ensures)

pub returns-in-Some-strip : goal.returns-in-Some-strip
returns-in-Some-strip c =
    let r = rw c.in_ok-name.ensures at c.parse_defaults.ensures in
    params_default_answers _ _ _ _ _ _ _ _ _ _ _ _ c.parameters.invariant c.in-Some.ensures c.in-Some-strip.ensures r

pub returns-in_default-strip-2 : goal.returns-in_default-strip-2
returns-in_default-strip-2 c =
    let e = map_more parameter_tree _ _ _ c.in_ok-push.ensures.items in
    let f = rw c.in_ok-name.ensures at e in
    params_last _ _ _ _ _ _ _ _ _ c.parameters.invariant c.in-Some.ensures c.in_default-strip.ensures c.in_default-strip-2.ensures f

pub parameters-smaller : goal.parameters-smaller
parameters-smaller c =
    let h = taken_shorter c.in-Some.ensures.taking in
    let i = taken_shorter c.in-Some-strip-2.ensures in
    omega (arith, h, i)

pub parameters-preserved : goal.parameters-preserved
parameters-preserved c =
    let e = map_more parameter_tree _ _ _ c.in_ok-push.ensures.items in
    let f = rw c.in_ok-name.ensures at e in
    let g = rw (c.in_ok-copy.ensures, c.in_ok-name.ensures) at c.in_ok-insert.ensures in
    params_more _ _ _ _ _ _ _ _ _ _ _ _ c.parameters.invariant c.in-Some.ensures c.in_default-strip.ensures c.in-Some-strip-2.ensures g f
