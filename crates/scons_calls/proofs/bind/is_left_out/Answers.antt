use Rattle.std.proofs.Common.{◌∙◌, ap}
use Rattle.scons_calls.specs.Binding.{is_left_out}
use Rattle.scons_calls.proofs.Rows.{left_out_written}
use Rattle.scons_calls.proofs.bind.is_left_out.Goals as goal

pub returns : goal.returns
returns c = c.is_among.ensures ∙ left_out_written c.args.name.now c.signature.inside.left_out.now ∙ ap (λ sig. is_left_out sig c.args.name.now) c.signature.view_is
