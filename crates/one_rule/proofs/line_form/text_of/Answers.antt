use Rattle.one_rule.proofs.LineParts.{command_ascii}
use Rattle.one_rule.proofs.line_form.text_of.Goals as goal

pub ascii-requires : goal.ascii-requires
ascii-requires c = command_ascii c.args.line.now c.requires
