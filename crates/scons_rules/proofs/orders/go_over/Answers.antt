use Rattle.std.proofs.Common.{length}
use Rattle.scons_rules.specs.Walks.{left_of, gone_of}
use Rattle.scons_rules.proofs.Walking.{over_done, none_popped}
use Rattle.scons_rules.proofs.orders.go_over.Goals as goal

pub returns-in-None : goal.returns-in-None
returns-in-None c =
    over_done c.args.lists.now (length c.args.lists.now) (left_of c.steps.walk) (gone_of c.steps.walk) _ (none_popped c.steps.walk.left.items c.pop.new.self.items _ _ c.in-None.ensures.items c.in-None.ensures.rest c.in-None.ensures.cases) c.steps.invariant
