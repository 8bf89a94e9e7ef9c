use Rattle.std.proofs.Common.{◌∙◌, ap}
use Rattle.std.specs.Prelude.{is_some}
use Rattle.scons_decls.proofs.Rows.{value_at_is}
use Rattle.scons_decls.proofs.aliases.Aliases.contains_key.Goals as goal

pub returns : goal.returns
returns c = rw (← c.self.view_is) (c.contains_key.ensures ∙ ap is_some (value_at_is c.self.inside.aliases.entries c.args.name.now))
