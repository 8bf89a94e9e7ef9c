use Rattle.std.proofs.Common.{arith}
use Rattle.deciders.proofs.Sizes.{fit_paths}
use Rattle.sign_store.proofs.ticket.push_withdraw.Goals as goal

pub push_paths-requires-clause-count : goal.push_paths-requires-clause-count
push_paths-requires-clause-count c = (fit_paths c.args.paths.now (omega arith)).0

pub push_paths-requires-clause-each : goal.push_paths-requires-clause-each
push_paths-requires-clause-each c = (fit_paths c.args.paths.now (omega arith)).1
