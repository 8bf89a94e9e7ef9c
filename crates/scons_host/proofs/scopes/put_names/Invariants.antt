use Rattle.std.proofs.Common.{◌≡◌, drop}
use Rattle.scons_calls.specs.Results.{along}
use Rattle.scons_host.specs.Sharing.{exported_name}
use Rattle.scons_host.proofs.scopes.put_names.Given as goal

abbrev pub invariant-loop-name : goal.invariant-loop-name
invariant-loop-name l =
    along (exported_name l.locals l.globals) l.scope (drop l.name-index l.names) ≡ along (exported_name l.locals l.globals) l.fn.scope l.names
