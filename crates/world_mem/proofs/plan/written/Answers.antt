use Rattle.std.proofs.Common.{◌≡◌, ◌∙◌}
use Rattle.world_mem.proofs.Plain.{written_done}
use Rattle.world_mem.proofs.plan.written.Goals as goal

pub returns-in-Ok-clause-outcome : goal.returns-in-Ok-clause-outcome
returns-in-Ok-clause-outcome c =
    (written_done c.as_slice.result.now c.args.texts.now c.as_slice-2.result.now c.args.given.now c.in-Ok.content
    c.as_slice.ensures (c.as_slice-2.ensures ∙ c.in_ok-contents.ensures) c.in-Ok.ensures).0

pub returns-in-Ok-clause-content : goal.returns-in-Ok-clause-content
returns-in-Ok-clause-content c =
    (written_done c.as_slice.result.now c.args.texts.now c.as_slice-2.result.now c.args.given.now c.in-Ok.content
    c.as_slice.ensures (c.as_slice-2.ensures ∙ c.in_ok-contents.ensures) c.in-Ok.ensures).1
