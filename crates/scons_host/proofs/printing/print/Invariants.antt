use Rattle.std.proofs.Common.{◌≡◌, ◌++◌, length}
use Rattle.scons_host.specs.Prints.{Prints}
use Rattle.scons_host.proofs.printing.print.Given as goal

abbrev pub invariant-loop-rest : goal.invariant-loop-rest
invariant-loop-rest g l = record {
  prints : Prints g.S.Sink.meaning l.fn.sink l.sink;
  text : g.S.Sink.meaning.tells l.sink → g.S.Sink.meaning.text l.sink ++ l.rest ≡ g.S.Sink.meaning.text l.fn.sink ++ l.text;
  faults : g.S.Sink.meaning.faults l.sink ≡ g.S.Sink.meaning.faults l.fn.sink;
}

abbrev pub decreases-loop-rest : goal.decreases-loop-rest
decreases-loop-rest g l = length l.rest
