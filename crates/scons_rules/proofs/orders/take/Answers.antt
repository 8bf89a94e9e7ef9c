use Rattle.scons_rules.specs.Walks.{left_of, gone_of}
use Rattle.scons_rules.proofs.Walking.{member_taken, inner_taken, on_ok, both_ok}
use Rattle.scons_rules.proofs.orders.take.Goals as goal

pub returns-in-Member : goal.returns-in-Member
returns-in-Member c =
    on_ok c.find.result c.find.ensures.found (λ found.
    member_taken c.args.lists.now c.args.step.now c.in-Member.member (left_of c.args.walk.now) (left_of c.find.new.walk) (gone_of c.args.walk.now) (gone_of c.find.new.walk)
    c.in-Member.is c.find.ensures.left found)

pub returns-in-Inner : goal.returns-in-Inner
returns-in-Inner c =
    on_ok c.enter.result (both_ok _ _ c.enter.result c.enter.ensures.fits c.enter.ensures.enters) (λ e.
    inner_taken c.args.lists.now c.args.step.now c.in-Inner.place (left_of c.args.walk.now) (left_of c.enter.new.walk) (gone_of c.args.walk.now) (gone_of c.enter.new.walk)
    c.in-Inner.is e.0 e.1)
