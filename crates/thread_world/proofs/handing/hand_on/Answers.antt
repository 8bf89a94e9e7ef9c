use Rattle.std.proofs.Common.{◌≡◌, ◌∙◌, ap, sym, Some}
use Rattle.world_api.specs.Act.{Given}
use Rattle.world_api.specs.declared.job.Job.{Job}
use Rattle.act_table.specs.Filled.{contents_of}
use Rattle.world_mem.specs.declared.event.Event.TheVariants.{Started}
use Rattle.thread_world.proofs.Kept.{keeps_of}
use Rattle.thread_world.proofs.handing.hand_on.Goals as goal

pub returns-in_err-entering-clause-keeps : goal.returns-in_err-entering-clause-keeps
returns-in_err-entering-clause-keeps g c = keeps_of _ _ _ _ _ c.prepare.ensures.each

pub returns-in_err-slip-clause-keeps : goal.returns-in_err-slip-clause-keeps
returns-in_err-slip-clause-keeps g c = keeps_of _ _ _ _ _ c.prepare.ensures.each

pub returns-in_err-hand_in-clause-keeps : goal.returns-in_err-hand_in-clause-keeps
returns-in_err-hand_in-clause-keeps g c = keeps_of _ _ _ _ _ c.prepare.ensures.each

pub returns-clause-keeps : goal.returns-clause-keeps
returns-clause-keeps g c = keeps_of _ _ _ _ _ c.prepare.ensures.each

pub returns-clause-handed : goal.returns-clause-handed
returns-clause-handed g c =
    let ready = c.in_ok-entering.ensures.ready.ready in
    let handed = c.in_ok-hand_in.ensures.ok in
    record {
      ready = c.in_ok-entering.ensures.ready;
      job = c.in_ok-entering.ensures.job;
      event = c.in_ok-entering.ensures.event ∙ ap (λ (j : Job). Started j c.prepare.new.self.faults) (sym c.in_ok-entering.ensures.job);
      number = handed.0;
      slip = c.in_ok-slip.slip;
      is = record {
        job = c.in_ok-slip.ensures.job ∙ ready.started;
        given = c.in_ok-slip.ensures.given ∙ ap (λ (given : Given). Some (contents_of given)) ready.given;
        table = c.in_ok-slip.ensures.table;
      };
      list = handed.1;
    }
