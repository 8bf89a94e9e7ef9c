use Rattle.std.proofs.Common.{refl}
use Rattle.world_mem.specs.declared.calls.Call.TheVariants.{Stamp}
use Rattle.thread_world.proofs.Kept.{step_same, spared_counted}
use Rattle.thread_world.proofs.Spared.{no_failure, well}
use Rattle.thread_world.proofs.tree.ThreadWorldWorld.stamp.Goals as goal

pub invariant_of-self-clause-step : goal.invariant_of-self-clause-step
invariant_of-self-clause-step g c = step_same _ _ _ _ _ c.stamp.ensures.each.table (c.stamp.ensures.around tt).running c.args.self.now.step

pub invariant_of-self-clause-spared : goal.invariant_of-self-clause-spared
invariant_of-self-clause-spared g c = spared_counted Stamp _ _ c.stamp.ensures.each.counted c.args.self.now.spared

pub returns-clause-banks : goal.returns-clause-banks
returns-clause-banks g c = λ told bank. record { same = (c.stamp.ensures.banks told bank).same; no_more = (c.stamp.ensures.banks told bank).no_more }

pub returns-clause-told : goal.returns-clause-told
returns-clause-told g c = record { told = λ told. told; sure = λ told sure. sure; closed = refl }

pub returns-clause-recalls : goal.returns-clause-recalls
returns-clause-recalls g c = record { later = c.stamp.ensures.recalls.later; keeps = c.stamp.ensures.recalls.keeps }

pub returns-clause-time : goal.returns-clause-time
returns-clause-time g c = record { told = c.stamp.ensures.time.told; each = c.stamp.ensures.time.each; before = c.stamp.ensures.time.before; now = c.stamp.ensures.time.now }

pub returns-clause-never : goal.returns-clause-never
returns-clause-never g c = well c.stamp.result _ (no_failure Stamp _ c.args.self.now.spared) c.stamp.ensures.exactly
