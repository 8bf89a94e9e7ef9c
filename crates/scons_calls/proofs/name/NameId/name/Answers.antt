use Rattle.std.proofs.Common.{◌∙◌, ap}
use Rattle.scons_calls.specs.Names.{name_in}
use Rattle.scons_calls.proofs.Rows.{written}
use Rattle.scons_calls.proofs.name.NameId.name.Goals as goal

pub returns : goal.returns
returns c = c.name_in.ensures ∙ ap (λ rows. name_in rows c.args.self.0) written
