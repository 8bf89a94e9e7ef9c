use Rattle.std.proofs.Common.{◌∙◌, ap}
use Rattle.scons_calls.specs.Names.{text_in}
use Rattle.scons_calls.proofs.Rows.{written}
use Rattle.scons_calls.proofs.name.NameId.text.Goals as goal

pub returns : goal.returns
returns c = c.text_in.ensures ∙ ap (λ rows. text_in rows c.args.self.0) written
