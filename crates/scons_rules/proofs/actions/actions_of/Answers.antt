use Rattle.scons_rules.specs.Expanding.{expanding}
use Rattle.scons_rules.proofs.Acting.{ends, nothing_left}
use Rattle.scons_rules.proofs.actions.actions_of.Goals as goal

pub returns-in-None-clause-ok : goal.returns-in-None-clause-ok
returns-in-None-clause-ok c =
    ends (expanding c.args.rule.now) c.actions.actions _
    (nothing_left c.actions.actions.left.items c.pop.new.self.items _ _ c.in-None.ensures.items c.in-None.ensures.rest c.in-None.ensures.cases) c.actions.invariant
