use Rattle.scons_top.proofs.Opening.{bytes_memory, node_bytes}
use Rattle.scons_top.proofs.Stepping.{node_step}
use Rattle.scons_top.proofs.Asking.{node_stops, asked_memory}
use Rattle.scons_top.specs.Asked.{NamesNone}
use Rattle.scons_top.proofs.Causing.{inner_memory}
use Rattle.scons_top.proofs.requests.node_request.Goals as goal

pub returns-in_err-intern-clause-step : goal.returns-in_err-intern-clause-step
returns-in_err-intern-clause-step c = node_step c.from_residual.result c.from_residual.ensures.1

pub returns-in_err-nodes-clause-step : goal.returns-in_err-nodes-clause-step
returns-in_err-nodes-clause-step c = inner_memory c.from_residual-in_err-nodes.result c.from_residual-in_err-nodes.ensures.1

pub returns-in_err-intern-clause-stops : goal.returns-in_err-intern-clause-stops
returns-in_err-intern-clause-stops c = node_stops c.from_residual.result c.from_residual.ensures.1

pub returns-in_err-nodes-clause-stops : goal.returns-in_err-nodes-clause-stops
returns-in_err-nodes-clause-stops c = asked_memory NamesNone c.from_residual-in_err-nodes.result c.from_residual-in_err-nodes.ensures.1

pub returns-in_err-nodes-clause-bytes : goal.returns-in_err-nodes-clause-bytes
returns-in_err-nodes-clause-bytes c = λ banks. bytes_memory banks c.from_residual-in_err-nodes.result c.from_residual-in_err-nodes.ensures.1

pub returns-in_err-intern-clause-bytes : goal.returns-in_err-intern-clause-bytes
returns-in_err-intern-clause-bytes c = λ banks. node_bytes banks c.from_residual.result c.from_residual.ensures.1
