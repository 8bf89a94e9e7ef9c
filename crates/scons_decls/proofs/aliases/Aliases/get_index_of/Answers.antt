use Rattle.std.proofs.Common.{◌∙◌}
use Rattle.scons_decls.proofs.Rows.{place_is}
use Rattle.scons_decls.proofs.aliases.Aliases.get_index_of.Goals as goal

pub returns : goal.returns
returns c = rw (← c.self.view_is) (c.get_index_of.ensures.index ∙ place_is c.self.inside.aliases.entries c.args.name.now)
