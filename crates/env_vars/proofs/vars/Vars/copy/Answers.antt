use Rattle.std.proofs.Common.{◌∙◌, ap}
use Rattle.env_vars.specs.Vars.{vars_of, put_all}
use Rattle.env_vars.proofs.VarLemmas.{put_all_new}
use Rattle.env_vars.proofs.vars.Vars.copy.Goals as goal

pub returns : goal.returns
returns c =
    c.in_ok-put_all.ensures {u = tt} ∙ ap (λ start. put_all (vars_of start) c.args.self.now) (c.in_ok-vars.ensures {u = tt}).empty
    ∙ (rw c.self.view_is at (put_all_new c.self.inside.vars.entries c.len.ensures.unique))
