use Rattle.std.proofs.Common.{◌≡◌}
use Rattle.scons_calls.specs.Things.{with_first_names}
use Rattle.scons_calls.proofs.objects.Objects.add_first_names.Given as goal

abbrev pub invariant-loop-place : goal.invariant-loop-place
invariant-loop-place l = l.self ≡ with_first_names l.place l.fn.self
