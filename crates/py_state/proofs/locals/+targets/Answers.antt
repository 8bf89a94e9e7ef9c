use Rattle.std.proofs.Common.{sym}
use Rattle.py_state.proofs.Forms.{no_target}
use Rattle.py_state.proofs.locals.+targets.Goals as goal

pub add_target-returns-in_default : goal.add_target-returns-in_default
add_target-returns-in_default t c = sym (no_target c.args.target.now c.args.names.now.keys c.in_default.not-Name c.in_default.not-Tuple)
