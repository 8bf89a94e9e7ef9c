use Rattle.std.proofs.Common.{◌≡◌, drop, map}
use Rattle.std.specs.List.{enumerate_from}
use Rattle.scons_calls.specs.Results.{along, and_one}
use Rattle.scons_calls.specs.Binding.{argument_by, arguments_by}
use Rattle.scons_calls.specs.Signatures.{parameter_of}
use Rattle.py_host.specs.Calls.{arguments_of}
use Rattle.scons_calls.proofs.bind.arguments.Given as goal

abbrev pub invariant-loop-place : goal.invariant-loop-place
invariant-loop-place l = along (λ xs a. and_one xs (argument_by l.heap l.objects (arguments_of l.args) a)) l.arguments (drop l.place (enumerate_from 0 (map parameter_of l.parameters))) ≡ arguments_by l.heap l.objects (arguments_of l.args) (map parameter_of l.parameters)
