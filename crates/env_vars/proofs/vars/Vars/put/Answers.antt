use Rattle.std.proofs.Common.{◌∙◌, ap}
use Rattle.env_vars.specs.Vars.{vars_of}
use Rattle.env_vars.proofs.VarLemmas.{put_is}
use Rattle.env_vars.proofs.vars.Vars.put.Goals as goal

pub returns-clause-ok : goal.returns-clause-ok
returns-clause-ok c =
    rw (← c.self.view_is) (ap vars_of (c.in_ok-insert.ensures {u = tt}).entries ∙ put_is c.self.inside.vars.entries c.args.name c.args.value)
