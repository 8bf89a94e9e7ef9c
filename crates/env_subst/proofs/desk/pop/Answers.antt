use Rattle.env_subst.proofs.Stacks.{popped}
use Rattle.env_subst.proofs.desk.pop.Goals as goal

pub returns : goal.returns
returns c = λ locals. popped locals _ _ _ _ _ c.pop.ensures.items c.pop.ensures.rest c.pop.ensures.cases
