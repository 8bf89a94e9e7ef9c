use Rattle.std.proofs.Common.{◌∙◌}
use Rattle.scons_decls.proofs.Rows.{value_at_is}
use Rattle.scons_decls.proofs.numbers.Numbers.get.Goals as goal

pub returns : goal.returns
returns c = rw (← c.self.view_is) (c.copied.ensures ∙ c.get.ensures.value ∙ value_at_is c.self.inside.numbers.entries c.args.name.now)
