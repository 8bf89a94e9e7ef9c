use Rattle.std.proofs.Common.{◌≡◌, drop}
use Rattle.scons_calls.specs.Results.{along, and_more, each_joined}
use Rattle.scons_calls.specs.Variables.{macro_by}
use Rattle.scons_calls.proofs.variables.macros.Given as goal

abbrev pub invariant-loop-value : goal.invariant-loop-value
invariant-loop-value l = along (λ xs a. and_more xs (macro_by l.heap l.objects a)) l.items (drop l.value-index l.values) ≡ each_joined (macro_by l.heap l.objects) l.values
