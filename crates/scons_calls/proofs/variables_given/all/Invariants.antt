use Rattle.std.proofs.Common.{◌≡◌, drop}
use Rattle.scons_calls.specs.Results.{along}
use Rattle.scons_calls.specs.Requests.{one_variable, all_variables}
use Rattle.scons_calls.proofs.variables_given.all.Given as goal

abbrev pub invariant-names : goal.invariant-names
invariant-names l = along (one_variable l.heap l.objects l.signature) l.variables (drop l.at l.named) ≡ all_variables l.heap l.objects l.signature l.named
