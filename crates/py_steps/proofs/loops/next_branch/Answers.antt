use Rattle.std.proofs.Common.{refl}
use Rattle.py_steps.proofs.Branches.{branch_comes, none_comes}
use Rattle.py_steps.proofs.loops.next_branch.Goals as goal

pub returns-in_default : goal.returns-in_default
returns-in_default c = none_comes c.args.branches.now c.args.otherwise c.args.desk.now c.push.new.self c.in_default.ensures.cases c.in_ok-push.ensures

pub returns : goal.returns
returns c = branch_comes c.args.branches.now c.in-Some.branch c.in-Some.rest c.args.otherwise _ c.args.desk.now c.evaluate.new.self c.in-Some.ensures.cases.0 refl c.in_ok-evaluate.ensures
