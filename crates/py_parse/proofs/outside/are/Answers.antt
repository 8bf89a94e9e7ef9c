use Rattle.std.proofs.Common.{sym, ◌∙◌}
use Rattle.py_parse.proofs.Cases.{empty_list}
use Rattle.py_parse.proofs.Ends.{are_fewer}
use Rattle.py_parse.proofs.outside.are.Goals as goal

pub returns-in_default : goal.returns-in_default
returns-in_default c =
    let e = empty_list c.loop-terminal.rest.now c.in_default.ensures.cases in
    sym (c.loop-terminal.invariant ∙ are_fewer c.args.wanted.now c.loop-terminal.terminal-index c.loop-terminal.rest.now c.loop-terminal-test.true e)
