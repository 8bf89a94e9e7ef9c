use Rattle.std.proofs.Common.{◌++◌, rules}
use Rattle.env_pieces.specs.Lines.{lines_in}
use Rattle.env_pieces.proofs.LineCuts.{lines_step, lines_end}
use Rattle.env_pieces.proofs.lines.push_lines.Goals as goal

pub lines-preserved : goal.lines-preserved
lines-preserved c = (
  lines_step c.args.mode c.lines.forms c.push.new.self (c.args.forms.now ++ lines_in c.args.mode c.args.text.now) c.lines.rest.now c.in_ok-line_form.field-0 _ (c.in-Some.line, c.in-Some.after)
      c.split_once.ensures.cases c.in-Some.is (c.in_ok-line_form.ensures {u = tt}) (c.in_ok-push.ensures {u = tt}).ok c.lines.invariant.0,
  search rules,
)

pub returns : goal.returns
returns c =
    lines_end c.args.mode c.lines.forms c.push-2.new.self (c.args.forms.now ++ lines_in c.args.mode c.args.text.now) c.lines.rest.now c.in_ok-line_form-2.field-0 _
    c.split_once.ensures.cases c.in_default.is (c.in_ok-line_form-2.ensures {u = tt}) (c.in_ok-push-2.ensures {u = tt}).ok c.lines.invariant.0
