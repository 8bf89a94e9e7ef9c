use Rattle.std.proofs.Common.{◌≡◌, drop}
use Rattle.scons_calls.specs.Requests.{named_all}
use Rattle.scons_calls.proofs.exports.put_named.Given as goal

abbrev pub invariant-names : goal.invariant-names
invariant-names l = named_all l.values (drop l.at l.named) ≡ named_all l.fn.values l.named
