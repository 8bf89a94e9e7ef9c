use Rattle.act_table.proofs.Filled.{set_with}
use Rattle.act_table.proofs.contents.put_content.Goals as goal

pub returns-clause-items : goal.returns-clause-items
returns-clause-items c = set_with c.args.items.now.items c.args.place c.args.content c.index_mut.result.now c.requires c.index_mut.ensures.value
