use Rattle.std.proofs.Common.{◌∙◌, ap}
use Rattle.scons_calls.specs.Binding.{place_of}
use Rattle.scons_calls.proofs.Rows.{parameter_written}
use Rattle.scons_calls.proofs.bind.place_of.Goals as goal

pub returns : goal.returns
returns c = c.place_among.ensures ∙ parameter_written c.args.name.now c.signature.inside.parameters.now ∙ ap (λ sig. place_of sig c.args.name.now) c.signature.view_is
