use Rattle.scons_top.proofs.Opening.{bytes_memory}
use Rattle.scons_top.proofs.Asking.{asked_memory}
use Rattle.scons_top.specs.Asked.{NamesNone}
use Rattle.scons_top.proofs.Causing.{inner_memory}
use Rattle.scons_top.proofs.requests.made.Goals as goal

pub returns-in_err-copy-clause-step : goal.returns-in_err-copy-clause-step
returns-in_err-copy-clause-step c = inner_memory c.from_residual.result c.from_residual.ensures.1

pub returns-in_err-copy-clause-stops : goal.returns-in_err-copy-clause-stops
returns-in_err-copy-clause-stops c = asked_memory NamesNone c.from_residual.result c.from_residual.ensures.1

pub returns-in_err-copy-clause-bytes : goal.returns-in_err-copy-clause-bytes
returns-in_err-copy-clause-bytes c = λ banks. bytes_memory banks c.from_residual.result c.from_residual.ensures.1
