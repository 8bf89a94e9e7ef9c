use Rattle.std.proofs.Common.{◌≡◌, drop}
use Rattle.scons_calls.specs.Kinds.{pairs_in}
use Rattle.scons_calls.specs.Results.{along}
use Rattle.scons_host.specs.Asked.{set_pair}
use Rattle.scons_host.specs.SoFar.{so_far}
use Rattle.scons_host.proofs.asked.put_builders.Given as goal

abbrev pub invariant-pairs : goal.invariant-pairs
invariant-pairs l =
    let step = set_pair l.heap l.place l.env.0 in
    along step (so_far l.state) (drop l.at (pairs_in l.heap l.dict.0)) ≡ along step (so_far l.fn.state) (pairs_in l.heap l.dict.0)
