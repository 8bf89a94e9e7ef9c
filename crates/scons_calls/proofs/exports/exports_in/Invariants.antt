use Rattle.std.proofs.Common.{◌≡◌, drop}
use Rattle.scons_calls.specs.Results.{along}
use Rattle.scons_calls.specs.Kinds.{exported_one, no_exports}
use Rattle.scons_calls.proofs.exports.exports_in.Given as goal

abbrev pub invariant-loop-item : goal.invariant-loop-item
invariant-loop-item l = along (exported_one l.heap) l.exports (drop l.item-index l.items) ≡ along (exported_one l.heap) no_exports l.items
