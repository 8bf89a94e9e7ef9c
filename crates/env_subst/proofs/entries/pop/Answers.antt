use Rattle.env_subst.proofs.EntrySteps.{frame_popped}
use Rattle.env_subst.proofs.entries.pop.Goals as goal

pub returns : goal.returns
returns c = λ locals. frame_popped locals _ _ _ _ _ c.pop.ensures.items c.pop.ensures.rest c.pop.ensures.cases
