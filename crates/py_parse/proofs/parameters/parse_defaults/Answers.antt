use Rattle.std.proofs.Common.{map, arith}
use Rattle.py_tree.specs.Tree.{expr_tree, parameter_tree}
use Rattle.py_parse.specs.Grammar as grammar
use Rattle.py_parse.specs.Reading.{Reads, pick}
use Rattle.py_parse.specs.Agrees.{defaults_from}
use Rattle.py_parse.proofs.Cases.{stopped_by, taken_shorter, map_more}
use Rattle.py_parse.proofs.Loops.{read_shorter}
use Rattle.py_parse.proofs.Params.{Defaulted, defaults_fault, defaults_end, no_comma, last_comma, defaults_unfit, defaults_more}
use Rattle.py_parse.proofs.parameters.parse_defaults.Goals as goal

pub returns-in_err-value : goal.returns-in_err-value
returns-in_err-value c =
    stopped_by _ _ (Reads c.args.depth (pick grammar.expr c.defaults.rest.now) c.defaults.rest.now)
    (Reads c.args.depth (defaults_from c.args.seen (map parameter_tree c.args.found.items) c.args.line c.args.name) c.args.tokens.now)
    c.in_err-value.field-0.0 c.from_residual.ensures.1 (λ w rest r. c.defaults.invariant _ (defaults_fault _ _ _ _ _ _ _ _ r)) c.in_err-value.ensures

pub returns-in_default : goal.returns-in_default
returns-in_default c =
    let a : Defaulted c.args.depth c.insert.new.self c.defaults.seen (map parameter_tree c.push.new.self.items) (map parameter_tree c.defaults.found.items) c.defaults.line c.defaults.name c.defaults.rest.now c.in_ok-value.after.now =
    record { value = expr_tree c.in_ok-value.value; reading = c.in_ok-value.ensures; seen_is = rw c.in_ok-copy.ensures at c.in_ok-insert.ensures; found_is = map_more parameter_tree _ _ _ c.in_ok-push.ensures.items } in
    c.defaults.invariant _ (defaults_end _ _ _ _ _ _ _ _ _ _ a (no_comma _ _ _ c.in_default.ensures))

pub returns-in_default-take_fresh : goal.returns-in_default-take_fresh
returns-in_default-take_fresh c =
    let a : Defaulted c.args.depth c.insert.new.self c.defaults.seen (map parameter_tree c.push.new.self.items) (map parameter_tree c.defaults.found.items) c.defaults.line c.defaults.name c.defaults.rest.now c.in_ok-value.after.now =
    record { value = expr_tree c.in_ok-value.value; reading = c.in_ok-value.ensures; seen_is = rw c.in_ok-copy.ensures at c.in_ok-insert.ensures; found_is = map_more parameter_tree _ _ _ c.in_ok-push.ensures.items } in
    c.defaults.invariant _ (defaults_end _ _ _ _ _ _ _ _ _ _ a (last_comma _ _ _ _ _ c.in-Some.ensures c.in_default-take_fresh.ensures))

pub returns-in_default-strip : goal.returns-in_default-strip
returns-in_default-strip c =
    let a : Defaulted c.args.depth c.insert.new.self c.defaults.seen (map parameter_tree c.push.new.self.items) (map parameter_tree c.defaults.found.items) c.defaults.line c.defaults.name c.defaults.rest.now c.in_ok-value.after.now =
    record { value = expr_tree c.in_ok-value.value; reading = c.in_ok-value.ensures; seen_is = rw c.in_ok-copy.ensures at c.in_ok-insert.ensures; found_is = map_more parameter_tree _ _ _ c.in_ok-push.ensures.items } in
    c.defaults.invariant _ (defaults_unfit _ _ _ _ _ _ _ _ _ _ _ _ _ _ a c.in-Some.ensures c.in-Some-take_fresh.ensures c.in_default-strip.ensures)

pub defaults-smaller : goal.defaults-smaller
defaults-smaller c =
    let h = read_shorter c.in_ok-value.ensures in
    let i = taken_shorter c.in-Some.ensures in
    let j = taken_shorter c.in-Some-take_fresh.ensures.taking in
    let k = taken_shorter c.in-Some-strip.ensures in
    omega (arith, h, i, j, k)

pub defaults-preserved : goal.defaults-preserved
defaults-preserved c =
    let a : Defaulted c.args.depth c.insert.new.self c.defaults.seen (map parameter_tree c.push.new.self.items) (map parameter_tree c.defaults.found.items) c.defaults.line c.defaults.name c.defaults.rest.now c.in_ok-value.after.now =
    record { value = expr_tree c.in_ok-value.value; reading = c.in_ok-value.ensures; seen_is = rw c.in_ok-copy.ensures at c.in_ok-insert.ensures; found_is = map_more parameter_tree _ _ _ c.in_ok-push.ensures.items } in
    λ o r. c.defaults.invariant _ (defaults_more _ _ _ _ _ _ _ _ _ _ _ _ _ _ _ _ o a c.in-Some.ensures c.in-Some-take_fresh.ensures c.in-Some-strip.ensures (rw c.in_ok-name.ensures at r))
