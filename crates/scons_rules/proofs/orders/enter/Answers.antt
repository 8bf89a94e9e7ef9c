use Rattle.std.proofs.Common.{length, ◌-◌}
use Rattle.scons_rules.specs.Walks.{left_of, gone_of}
use Rattle.scons_rules.proofs.Walking.{entered_none, entered_some, on_ok}
use Rattle.scons_rules.proofs.orders.enter.Goals as goal

pub returns-in-None-clause-enters : goal.returns-in-None-clause-enters
returns-in-None-clause-enters c =
    let n = length c.args.lists.now in
    let left = left_of c.args.walk.now in
    entered_none c.args.lists.now n left c.args.place (n - length left) (gone_of c.args.walk.now) c.get.result c.get.ensures.lookup c.in-None.is

pub returns-in-Some-clause-enters : goal.returns-in-Some-clause-enters
returns-in-Some-clause-enters c =
    let n = length c.args.lists.now in
    on_ok c.begin.result c.begin.ensures (λ begins.
    entered_some c.args.lists.now n (left_of c.args.walk.now) (left_of c.begin.new.walk) c.args.place (gone_of c.args.walk.now) (gone_of c.begin.new.walk) c.get.result
    c.in-Some.list c.as_slice.result.now c.get.ensures.lookup c.in-Some.is c.as_slice.ensures begins)
