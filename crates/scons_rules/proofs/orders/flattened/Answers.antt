use Rattle.scons_rules.specs.Walks.{left_of, gone_of}
use Rattle.scons_rules.proofs.Walking.{begun_at}
use Rattle.scons_rules.proofs.orders.flattened.Goals as goal

pub returns : goal.returns
returns c =
    begun_at c.args.lists.now c.args.place (left_of c.new-walk.result) (left_of c.enter.new.walk) (gone_of c.new-walk.result) (gone_of c.enter.new.walk) (gone_of c.go_over.new.walk)
    c.new-walk.ensures.left c.new-walk.ensures.gone c.in_ok-enter.ensures.enters c.in_ok-go_over.ensures
