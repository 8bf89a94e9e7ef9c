use Rattle.world_mem.specs.Table.{law_of}
use Rattle.world_mem.proofs.plan.recipe_of.Goals as goal

pub returns-in_ok-first_content-in-Copy-clause-recipe : goal.returns-in_ok-first_content-in-Copy-clause-recipe
returns-in_ok-first_content-in-Copy-clause-recipe c = λ target.
    rw c.in-Copy.is (c.in_ok-first_content-in-Copy.ensures (law_of c.args.table.now) c.args.job.now.signed c.args.job.now.targets target)
