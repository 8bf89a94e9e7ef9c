use Rattle.std.proofs.Common.{refl}
use Rattle.world_mem.specs.declared.calls.Call.TheVariants.{Kind}
use Rattle.thread_world.proofs.Kept.{step_same, spared_counted}
use Rattle.thread_world.proofs.Spared.{no_failure, well}
use Rattle.thread_world.proofs.tree.ThreadWorldWorld.kind.Goals as goal

pub invariant_of-self-clause-step : goal.invariant_of-self-clause-step
invariant_of-self-clause-step g c = step_same _ _ _ _ _ c.kind.ensures.each.table (c.kind.ensures.around tt).running c.args.self.now.step

pub invariant_of-self-clause-spared : goal.invariant_of-self-clause-spared
invariant_of-self-clause-spared g c = spared_counted Kind _ _ c.kind.ensures.each.counted c.args.self.now.spared

pub returns-clause-banks : goal.returns-clause-banks
returns-clause-banks g c = λ told bank. record { same = (c.kind.ensures.banks told bank).same; no_more = (c.kind.ensures.banks told bank).no_more }

pub returns-clause-told : goal.returns-clause-told
returns-clause-told g c = record { told = λ told. told; sure = λ told sure. sure; closed = refl }

pub returns-clause-recalls : goal.returns-clause-recalls
returns-clause-recalls g c = record { later = c.kind.ensures.recalls.later; keeps = c.kind.ensures.recalls.keeps }

pub returns-clause-time : goal.returns-clause-time
returns-clause-time g c = record { told = c.kind.ensures.time.told; each = c.kind.ensures.time.each; before = c.kind.ensures.time.before; now = c.kind.ensures.time.now }

pub returns-clause-never : goal.returns-clause-never
returns-clause-never g c = well c.kind.result _ (no_failure Kind _ c.args.self.now.spared) c.kind.ensures.exactly
