use Rattle.std.proofs.Common.{◌≡◌, drop}
use Rattle.scons_calls.specs.Results.{along, and_one, each}
use Rattle.scons_host.specs.Sharing.{value_at}
use Rattle.scons_host.proofs.scopes.values_of.Given as goal

abbrev pub invariant-loop-name : goal.invariant-loop-name
invariant-loop-name l =
    let one = value_at l.locals l.globals in
    along (λ xs a. and_one xs (one a)) l.values.items (drop l.name-index l.names) ≡ each one l.names
