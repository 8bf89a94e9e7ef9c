use Rattle.std.proofs.Common.{◌∙◌, sym, ap}
use Rattle.act_table.specs.Filled.{contents_of}
use Rattle.world_mem.specs.declared.running.RunningJob.{RunningJob}
use Rattle.act_table.proofs.Filled.{refilled_same}
use Rattle.world_mem.proofs.PutBack.{put_back}
use Rattle.world_mem.proofs.entry.put_made.Goals as goal

pub returns-clause-items : goal.returns-clause-items
returns-clause-items c =
    let run = c.index_mut-run.result.now in
    let is = c.index_mut-run.ensures.value in
    put_back c.args.running.now.items c.args.place run c.refill.new.self c.requires.place is
    (c.refill.ensures ∙ refilled_same run.made c.args.made (c.requires.planned run ∙ ap (λ (r : RunningJob). contents_of r.made) (sym is)))
