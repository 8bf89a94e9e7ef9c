use Rattle.std.proofs.Common.{refl}
use Rattle.world_mem.specs.declared.calls.Call.TheVariants.{Sync}
use Rattle.thread_world.proofs.Kept.{step_state, spared_counted}
use Rattle.thread_world.proofs.Spared.{no_failure, other_cause}
use Rattle.thread_world.proofs.disk.ThreadWorldDisk.sync.Goals as goal

pub invariant_of-self-clause-step : goal.invariant_of-self-clause-step
invariant_of-self-clause-step g c = step_state _ _ _ c.sync.ensures.each.state c.args.self.now.step

pub invariant_of-self-clause-spared : goal.invariant_of-self-clause-spared
invariant_of-self-clause-spared g c = spared_counted Sync _ _ c.sync.ensures.each.counted c.args.self.now.spared

pub returns-clause-banks : goal.returns-clause-banks
returns-clause-banks g c = λ told bank. record { same = (c.sync.ensures.banks told bank).same; no_more = (c.sync.ensures.banks told bank).no_more }

pub returns-clause-told : goal.returns-clause-told
returns-clause-told g c = record { told = λ told. told; sure = λ told sure. sure; closed = refl }

pub returns-clause-recalls : goal.returns-clause-recalls
returns-clause-recalls g c = record { later = c.sync.ensures.recalls.later; keeps = c.sync.ensures.recalls.keeps }

pub returns-clause-time : goal.returns-clause-time
returns-clause-time g c = record { told = c.sync.ensures.time.told; each = c.sync.ensures.time.each; before = c.sync.ensures.time.before; now = c.sync.ensures.time.now }

pub returns-clause-exactly : goal.returns-clause-exactly
returns-clause-exactly g c = other_cause _ _ _ (no_failure Sync _ c.args.self.now.spared) c.sync.ensures.exactly
