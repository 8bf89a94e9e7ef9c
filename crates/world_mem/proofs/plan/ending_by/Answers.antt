use Rattle.std.proofs.Common.{◌≡◌, ◌∙◌, List, ℕ, Result, Ok, Err, Option, IfOk, map, ap}
use Rattle.world_mem.specs.Planned.{gives, makes}
use Rattle.world_mem.specs.Table.{content_made}
use Rattle.world_mem.proofs.Membership.{map_same}
use Rattle.world_mem.proofs.plan.ending_by.Goals as goal

pub returns-clause-made : goal.returns-clause-made
returns-clause-made c =
    c.in_ok-made.ensures
    ∙ map_same (λ target. (target, gives c.in_ok-outcome.recipe target)) (λ target. (target, content_made c.args.table.now c.args.job.now.work c.args.job.now.signed c.args.job.now.targets c.args.given.now target)) c.args.job.now.targets
    (λ target. ap (λ (content : Option (List ℕ)). (target, content)) (c.in_ok-outcome.ensures.recipe target))
