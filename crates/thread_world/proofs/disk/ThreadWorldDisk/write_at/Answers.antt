use Rattle.std.proofs.Common.{refl}
use Rattle.world_mem.specs.declared.calls.Call.TheVariants.{WriteAt}
use Rattle.thread_world.proofs.Kept.{step_state, spared_counted}
use Rattle.thread_world.proofs.Spared.{no_failure, other_cause}
use Rattle.thread_world.proofs.disk.ThreadWorldDisk.write_at.Goals as goal

pub invariant_of-self-clause-step : goal.invariant_of-self-clause-step
invariant_of-self-clause-step g c = step_state _ _ _ c.write_at.ensures.each.state c.args.self.now.step

pub invariant_of-self-clause-spared : goal.invariant_of-self-clause-spared
invariant_of-self-clause-spared g c = spared_counted WriteAt _ _ c.write_at.ensures.each.counted c.args.self.now.spared

pub returns-clause-other : goal.returns-clause-other
returns-clause-other g c = λ told other off. record { same = (c.write_at.ensures.other told other off).same; no_more = (c.write_at.ensures.other told other off).no_more }

pub returns-clause-told : goal.returns-clause-told
returns-clause-told g c = record { told = λ told. told; sure = λ told sure. sure; closed = refl }

pub returns-clause-recalls : goal.returns-clause-recalls
returns-clause-recalls g c = record { later = c.write_at.ensures.recalls.later; keeps = c.write_at.ensures.recalls.keeps }

pub returns-clause-time : goal.returns-clause-time
returns-clause-time g c = record { told = c.write_at.ensures.time.told; each = c.write_at.ensures.time.each; before = c.write_at.ensures.time.before; now = c.write_at.ensures.time.now }

pub returns-clause-exactly : goal.returns-clause-exactly
returns-clause-exactly g c = other_cause _ _ _ (no_failure WriteAt _ c.args.self.now.spared) c.write_at.ensures.exactly
