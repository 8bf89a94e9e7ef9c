use Rattle.std.proofs.Common.{◌≡◌, drop}
use Rattle.scons_calls.specs.Results.{along}
use Rattle.scons_calls.specs.Binding.{name_fits, names_fit}
use Rattle.py_host.specs.Calls.{arguments_of}
use Rattle.std.specs.Prelude.{length}
use Rattle.scons_calls.proofs.bind.test_names.Given as goal

abbrev pub invariant-names : goal.invariant-names
invariant-names l = along (λ u pair. name_fits l.signature (length l.args.positional.items) pair) tt (drop l.at l.args.named) ≡ names_fit l.signature (arguments_of l.args)
