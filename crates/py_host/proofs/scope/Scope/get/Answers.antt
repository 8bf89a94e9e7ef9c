use Rattle.std.proofs.Common.{◌∙◌}
use Rattle.py_host.proofs.Tables.{value_is}
use Rattle.py_host.proofs.scope.Scope.get.Goals as goal

pub returns : goal.returns
returns c = rw (← c.self.view_is) (c.copied.ensures ∙ c.get.ensures.value ∙ value_is c.self.inside.names.entries c.args.name.now)
