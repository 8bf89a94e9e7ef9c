use Rattle.std.proofs.Common.{◌≡◌, take}
use Rattle.scons_top.specs.Sinks.{Printed}
use Rattle.scons_top.specs.RunLines.{requests_text}
use Rattle.scons_top.proofs.ending.tell_requests.Given as goal

abbrev pub invariant-loop-request : goal.invariant-loop-request
invariant-loop-request g l =
    let m = g.O.Sink.meaning in
    record {
      faults : m.faults l.out ≡ m.faults l.fn.out;
      prints : Printed m l.fn.out l.out (requests_text l.fn.words l.fn.graph l.fn.started (take l.request-index l.requests));
    }
