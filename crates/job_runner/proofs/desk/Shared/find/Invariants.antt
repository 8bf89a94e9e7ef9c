use Rattle.std.proofs.Common.{◌≡◌}
use Rattle.job_runner.specs.Outs.{out_of}
use Rattle.job_runner.proofs.desk.Shared.find.Given as goal

abbrev pub invariant-loop : goal.invariant-loop
invariant-loop g l = out_of l.out ≡ out_of l.fn.out
