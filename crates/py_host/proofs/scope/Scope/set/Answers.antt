use Rattle.std.proofs.Common.{◌∙◌, ap}
use Rattle.py_host.specs.Names.{names_in, with_name}
use Rattle.py_host.proofs.Tables.{with_is}
use Rattle.py_host.proofs.scope.Scope.set.Goals as goal

pub returns-clause-ok : goal.returns-clause-ok
returns-clause-ok c =
    rw (← c.self.view_is) (ap names_in (c.in_ok-insert.ensures {u = tt}).entries ∙ with_is c.self.inside.names.entries c.into_string.result c.args.value
    ∙ ap (λ n. with_name (names_in c.self.inside.names.entries) n c.args.value) c.into_string.ensures)
