use Rattle.std.proofs.Common.{◌≡◌, drop}
use Rattle.scons_calls.specs.Results.{along}
use Rattle.scons_host.specs.Sharing.{imported_name}
use Rattle.scons_host.specs.SoFar.{so_far}
use Rattle.scons_host.proofs.scopes.import_names.Given as goal

abbrev pub invariant-loop-name : goal.invariant-loop-name
invariant-loop-name l =
    along (imported_name (so_far l.state)) l.scope (drop l.name-index l.names) ≡ along (imported_name (so_far l.state)) l.fn.scope l.names
