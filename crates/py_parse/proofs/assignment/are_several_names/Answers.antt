use Rattle.std.proofs.Common.{◌≤◌, length, sym, ◌∙◌, arith}
use Rattle.py_parse.proofs.Targets.{several_targets, few_targets}
use Rattle.py_parse.proofs.assignment.are_several_names.Goals as goal

pub returns-then-exprs-lt2 : goal.returns-then-exprs-lt2
returns-then-exprs-lt2 c = λ line. let h : length c.args.exprs.now ≤ 1 = omega arith in few_targets line c.args.exprs.now h

pub returns : goal.returns
returns c = λ line. let h : 2 ≤ length c.args.exprs.now = omega arith in c.are_names.ensures ∙ sym (several_targets line c.args.exprs.now h)
