use Rattle.std.proofs.Common.{refl}
use Rattle.world_mem.specs.declared.calls.Call.TheVariants.{Remove}
use Rattle.thread_world.proofs.Kept.{step_same, spared_counted}
use Rattle.thread_world.proofs.Spared.{no_failure, not_gone, other_cause, left}
use Rattle.thread_world.proofs.tree.ThreadWorldWorld.remove.Goals as goal

pub invariant_of-self-clause-step : goal.invariant_of-self-clause-step
invariant_of-self-clause-step g c = step_same _ _ _ _ _ c.remove.ensures.each.table (c.remove.ensures.around tt).running c.args.self.now.step

pub invariant_of-self-clause-spared : goal.invariant_of-self-clause-spared
invariant_of-self-clause-spared g c = spared_counted Remove _ _ c.remove.ensures.each.counted c.args.self.now.spared

pub returns-clause-banks : goal.returns-clause-banks
returns-clause-banks g c = λ told bank. record { same = (c.remove.ensures.banks told bank).same; no_more = (c.remove.ensures.banks told bank).no_more }

pub returns-clause-told : goal.returns-clause-told
returns-clause-told g c = record { told = λ told. told; sure = λ told sure. sure; closed = refl }

pub returns-clause-recalls : goal.returns-clause-recalls
returns-clause-recalls g c = record { later = c.remove.ensures.recalls.later; keeps = c.remove.ensures.recalls.keeps }

pub returns-clause-time : goal.returns-clause-time
returns-clause-time g c = record { told = c.remove.ensures.time.told; each = c.remove.ensures.time.each; before = c.remove.ensures.time.before; now = c.remove.ensures.time.now }

pub returns-clause-exactly : goal.returns-clause-exactly
returns-clause-exactly g c = other_cause _ _ _ (no_failure Remove _ c.args.self.now.spared) c.remove.ensures.exactly

pub returns-clause-stays : goal.returns-clause-stays
returns-clause-stays g c = left _ _ _ (not_gone _ c.args.self.now.spared) c.remove.ensures.stays
