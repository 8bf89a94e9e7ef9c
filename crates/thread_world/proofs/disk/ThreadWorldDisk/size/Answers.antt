use Rattle.std.proofs.Common.{refl}
use Rattle.world_mem.specs.declared.calls.Call.TheVariants.{Size}
use Rattle.thread_world.proofs.Kept.{step_state, spared_counted}
use Rattle.thread_world.proofs.Spared.{no_failure, well}
use Rattle.thread_world.proofs.disk.ThreadWorldDisk.size.Goals as goal

pub invariant_of-self-clause-step : goal.invariant_of-self-clause-step
invariant_of-self-clause-step g c = step_state _ _ _ c.size.ensures.each.state c.args.self.now.step

pub invariant_of-self-clause-spared : goal.invariant_of-self-clause-spared
invariant_of-self-clause-spared g c = spared_counted Size _ _ c.size.ensures.each.counted c.args.self.now.spared

pub returns-clause-banks : goal.returns-clause-banks
returns-clause-banks g c = λ told bank. record { same = (c.size.ensures.banks told bank).same; no_more = (c.size.ensures.banks told bank).no_more }

pub returns-clause-told : goal.returns-clause-told
returns-clause-told g c = record { told = λ told. told; sure = λ told sure. sure; closed = refl }

pub returns-clause-recalls : goal.returns-clause-recalls
returns-clause-recalls g c = record { later = c.size.ensures.recalls.later; keeps = c.size.ensures.recalls.keeps }

pub returns-clause-time : goal.returns-clause-time
returns-clause-time g c = record { told = c.size.ensures.time.told; each = c.size.ensures.time.each; before = c.size.ensures.time.before; now = c.size.ensures.time.now }

pub returns-clause-never : goal.returns-clause-never
returns-clause-never g c = well c.size.result _ (no_failure Size _ c.args.self.now.spared) c.size.ensures.exactly
