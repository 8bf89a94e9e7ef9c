use Rattle.std.proofs.Common.{◌≡◌, drop, map}
use Rattle.std.specs.List.{enumerate_from}
use Rattle.scons_calls.specs.Results.{along}
use Rattle.scons_calls.specs.Binding.{stands}
use Rattle.scons_calls.specs.Signatures.{parameter_of}
use Rattle.py_host.specs.Calls.{arguments_of}
use Rattle.scons_calls.proofs.bind.test_needed.Given as goal

abbrev pub invariant-loop-place : goal.invariant-loop-place
invariant-loop-place l = along (λ u p. stands (arguments_of l.args) p) tt (drop l.place (enumerate_from 0 (map parameter_of l.parameters))) ≡ along (λ u p. stands (arguments_of l.args) p) tt (enumerate_from 0 (map parameter_of l.parameters))
