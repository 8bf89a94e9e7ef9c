use Rattle.std.proofs.Common.{◌≡◌, ◌∙◌, ap, sym, None}
use Rattle.std.specs.Prelude.{string_bytes}
use Rattle.env_vars.specs.Vars.{value_at, vars_of}
use Rattle.env_vars.proofs.VarLemmas.{put_is, value_at_is, on_err_true}
use Rattle.env_vars.proofs.vars.Vars.swap.Goals as goal

pub returns-in_err-insert-clause-absent : goal.returns-in_err-insert-clause-absent
returns-in_err-insert-clause-absent c =
    let none : value_at (vars_of c.self.inside.vars.entries) (string_bytes c.args.name) ≡ None =
    sym (value_at_is c.self.inside.vars.entries (string_bytes c.args.name)) ∙ (c.in_err-insert.ensures {u = tt}).absent in
    on_err_true c.from_residual.result (rw (← c.self.view_is) none)

pub returns-clause-old : goal.returns-clause-old
returns-clause-old c =
    rw (← c.self.view_is) ((c.in_ok-insert.ensures {u = tt}).old ∙ value_at_is c.self.inside.vars.entries (string_bytes c.args.name))

pub returns-clause-ok : goal.returns-clause-ok
returns-clause-ok c =
    rw (← c.self.view_is) (ap vars_of (c.in_ok-insert.ensures {u = tt}).entries ∙ put_is c.self.inside.vars.entries c.args.name c.args.value)
