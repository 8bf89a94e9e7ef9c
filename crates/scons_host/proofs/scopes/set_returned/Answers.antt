use Rattle.std.proofs.Common.{arith, ◌-◌, get_or, length}
use Rattle.std.proofs.lemmas.Option.{slice_get-get_or}
use Rattle.scons_host.proofs.Keeping.{last_returned}
use Rattle.scons_host.proofs.scopes.set_returned.Goals as goal

pub returns-then-count-gt0 : goal.returns-then-count-gt0
returns-then-count-gt0 c =
    let calls = c.args.calls.now in
    let call = c.index-calls-count.result in
    last_returned calls (get_or calls (length calls - 1) call) c.args.returned
    (slice_get-get_or calls (length calls - 1) call (omega (arith, c.if-count-gt0.true)))
