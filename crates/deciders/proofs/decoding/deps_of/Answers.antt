use Rattle.std.proofs.lemmas.Result.{err_from_is_err_and}
use Rattle.deciders.specs.Reading.{many, dep_at}
use Rattle.deciders.proofs.Loop.{goes_on, ends, is_done}
use Rattle.deciders.proofs.decoding.deps_of.Goals as goal

pub returns-in_err-dep : goal.returns-in_err-dep
returns-in_err-dep c =
    let p = err_from_is_err_and c.from_residual.result c.from_residual.ensures.1 in
    rw (p.1, p.2) (ends (dep_at c.args.hash) c.in_err-dep.field-0.0 c.loop.deps.items c.args.count c.loop.counter c.loop.rest.now (many (dep_at c.args.hash) c.args.count c.args.bytes.now) c.loop-test.true c.in_err-dep.ensures c.loop.invariant)

pub loop-preserved : goal.loop-preserved
loop-preserved c =
    rw c.in_ok-push.ensures.items (goes_on (dep_at c.args.hash) c.loop.deps.items c.args.count c.loop.counter c.loop.rest.now c.in_ok-dep.dep c.in_ok-dep.behind.now (many (dep_at c.args.hash) c.args.count c.args.bytes.now) c.loop-test.true c.in_ok-dep.ensures c.loop.invariant)

pub returns : goal.returns
returns c = is_done (dep_at c.args.hash) c.loop.deps.items c.args.count c.loop.counter c.loop.rest.now (many (dep_at c.args.hash) c.args.count c.args.bytes.now) c.loop-test.false c.loop.invariant
