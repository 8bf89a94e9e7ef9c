use Rattle.std.proofs.Common.{refl}
use Rattle.world_mem.specs.declared.calls.Call.TheVariants.{List}
use Rattle.thread_world.proofs.Kept.{step_same, spared_counted}
use Rattle.thread_world.proofs.Spared.{no_failure}
use Rattle.thread_world.proofs.tree.ThreadWorldWorld.list.Goals as goal

pub invariant_of-self-clause-step : goal.invariant_of-self-clause-step
invariant_of-self-clause-step g c = step_same _ _ _ _ _ c.list.ensures.each.table (c.list.ensures.around tt).running c.args.self.now.step

pub invariant_of-self-clause-spared : goal.invariant_of-self-clause-spared
invariant_of-self-clause-spared g c = spared_counted List _ _ c.list.ensures.each.counted c.args.self.now.spared

pub returns-clause-banks : goal.returns-clause-banks
returns-clause-banks g c = λ told bank. record { same = (c.list.ensures.banks told bank).same; no_more = (c.list.ensures.banks told bank).no_more }

pub returns-clause-told : goal.returns-clause-told
returns-clause-told g c = record { told = λ told. told; sure = λ told sure. sure; closed = refl }

pub returns-clause-recalls : goal.returns-clause-recalls
returns-clause-recalls g c = record { later = c.list.ensures.recalls.later; keeps = c.list.ensures.recalls.keeps }

pub returns-clause-time : goal.returns-clause-time
returns-clause-time g c = record { told = c.list.ensures.time.told; each = c.list.ensures.time.each; before = c.list.ensures.time.before; now = c.list.ensures.time.now }

pub returns-clause-never : goal.returns-clause-never
returns-clause-never g c = λ fault. no_failure List _ c.args.self.now.spared (c.list.ensures.exactly.0 fault)
