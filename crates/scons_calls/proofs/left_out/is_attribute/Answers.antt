use Rattle.std.proofs.Common.{◌∙◌}
use Rattle.scons_calls.proofs.Rows.{attributes_left_out_written}
use Rattle.scons_calls.proofs.left_out.is_attribute.Goals as goal

pub returns : goal.returns
returns c = c.is_among.ensures ∙ attributes_left_out_written c.args.text.now
