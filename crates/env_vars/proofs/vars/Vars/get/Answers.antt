use Rattle.std.proofs.Common.{◌∙◌}
use Rattle.env_vars.proofs.VarLemmas.{value_at_is}
use Rattle.env_vars.proofs.vars.Vars.get.Goals as goal

pub returns : goal.returns
returns c = rw (← c.self.view_is) (c.get.ensures.value ∙ value_at_is c.self.inside.vars.entries c.args.name.now)
