use Rattle.std.proofs.Common.{refl}
use Rattle.world_mem.specs.declared.calls.Call.TheVariants.{TopPath}
use Rattle.thread_world.proofs.Kept.{step_same, spared_counted}
use Rattle.thread_world.proofs.Spared.{no_failure}
use Rattle.thread_world.proofs.tree.ThreadWorldWorld.top_path.Goals as goal

pub invariant_of-self-clause-step : goal.invariant_of-self-clause-step
invariant_of-self-clause-step g c = step_same _ _ _ _ _ c.top_path.ensures.each.table (c.top_path.ensures.around tt).running c.args.self.now.step

pub invariant_of-self-clause-spared : goal.invariant_of-self-clause-spared
invariant_of-self-clause-spared g c = spared_counted TopPath _ _ c.top_path.ensures.each.counted c.args.self.now.spared

pub returns-clause-banks : goal.returns-clause-banks
returns-clause-banks g c = λ told bank. record { same = (c.top_path.ensures.banks told bank).same; no_more = (c.top_path.ensures.banks told bank).no_more }

pub returns-clause-told : goal.returns-clause-told
returns-clause-told g c = record { told = λ told. told; sure = λ told sure. sure; closed = refl }

pub returns-clause-recalls : goal.returns-clause-recalls
returns-clause-recalls g c = record { later = c.top_path.ensures.recalls.later; keeps = c.top_path.ensures.recalls.keeps }

pub returns-clause-time : goal.returns-clause-time
returns-clause-time g c = record { told = c.top_path.ensures.time.told; each = c.top_path.ensures.time.each; before = c.top_path.ensures.time.before; now = c.top_path.ensures.time.now }

pub returns-clause-never : goal.returns-clause-never
returns-clause-never g c = λ fault. no_failure TopPath _ c.args.self.now.spared (c.top_path.ensures.exactly.0 fault)
