use Rattle.std.proofs.Common.{refl}
use Rattle.build_run.specs.Along.{stepped, wanted}
use Rattle.build_run.proofs.Telling.{took, was_scan}
use Rattle.build_run.proofs.turns.step.Goals as goal

pub returns-in-Ok-clause-steps : goal.returns-in-Ok-clause-steps
returns-in-Ok-clause-steps c =
    let is = c.in-Ok.ensures in
    stepped (record {
      states = is.states;
      knows = is.knows;
      fits = is.fits;
      follow = is.follow;
      origins = is.origins;
      needs = is.needs;
      only = is.only;
      sought = is.sought;
      roots = is.roots;
      complete = is.complete;
      order = is.order;
    }) (took c.args.plan.now.halted c.args.event c.step.new.self.halted is.halted) refl

pub returns-in-Err-clause-steps : goal.returns-in-Err-clause-steps
returns-in-Err-clause-steps c =
    wanted c.want_memory.ensures.ends.ended c.want_memory.ensures.ends.faulted (was_scan c.args.event c.in-Err.ensures.memory)
