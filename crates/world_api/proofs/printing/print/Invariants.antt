use Rattle.std.proofs.Common.{length}
use Rattle.world_api.specs.Printing.{Prints, Cuts}
use Rattle.world_api.proofs.printing.print.Given as goal

-- Whatever the rest does to the sink, the whole text does to it.
abbrev pub invariant-loop-rest : goal.invariant-loop-rest
invariant-loop-rest g l =
    let meaning = g.S.Sink.meaning in
    record {
      prints : (new : g.row.S.Denot) → Prints meaning l.sink new l.rest → Prints meaning l.fn.sink new l.text;
      cuts : (new : g.row.S.Denot) → Cuts meaning l.sink new l.rest → Cuts meaning l.fn.sink new l.text;
    }

abbrev pub decreases-loop-rest : goal.decreases-loop-rest
decreases-loop-rest g l = length l.rest
