use Rattle.std.proofs.Common.{inr}
use Rattle.scons_top.proofs.Printing.{some_none, up_to_unless}
use Rattle.scons_top.proofs.build_step.tell_end.Goals as goal

pub returns-then-loses_out-clause-prints : goal.returns-then-loses_out-clause-prints
returns-then-loses_out-clause-prints g c = inr (c.loses_out.ensures c.if-loses_out.true, some_none g.O.Sink.meaning c.args.out.now _)

pub returns-clause-prints : goal.returns-clause-prints
returns-clause-prints g c = up_to_unless g.O.Sink.meaning _ _ _ _ c.tell_ending.result c.tell_ending.ensures.prints
