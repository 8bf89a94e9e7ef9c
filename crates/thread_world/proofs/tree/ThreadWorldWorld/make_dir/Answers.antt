use Rattle.std.proofs.Common.{refl}
use Rattle.world_mem.specs.declared.calls.Call.TheVariants.{MakeDir}
use Rattle.thread_world.proofs.Kept.{step_same, spared_counted, running_made}
use Rattle.thread_world.proofs.Spared.{no_failure, other_cause}
use Rattle.thread_world.proofs.tree.ThreadWorldWorld.make_dir.Goals as goal

pub invariant_of-self-clause-step : goal.invariant_of-self-clause-step
invariant_of-self-clause-step g c = step_same _ _ _ _ _ c.make_dir.ensures.each.table (running_made _ _ _ _ (c.make_dir.ensures.made tt) (c.make_dir.ensures.refused tt)) c.args.self.now.step

pub invariant_of-self-clause-spared : goal.invariant_of-self-clause-spared
invariant_of-self-clause-spared g c = spared_counted MakeDir _ _ c.make_dir.ensures.each.counted c.args.self.now.spared

pub returns-clause-banks : goal.returns-clause-banks
returns-clause-banks g c = λ told bank. record { same = (c.make_dir.ensures.banks told bank).same; no_more = (c.make_dir.ensures.banks told bank).no_more }

pub returns-clause-told : goal.returns-clause-told
returns-clause-told g c = record { told = λ told. told; sure = λ told sure. sure; closed = refl }

pub returns-clause-recalls : goal.returns-clause-recalls
returns-clause-recalls g c = record { later = c.make_dir.ensures.recalls.later; keeps = c.make_dir.ensures.recalls.keeps }

pub returns-clause-time : goal.returns-clause-time
returns-clause-time g c = record { told = c.make_dir.ensures.time.told; each = c.make_dir.ensures.time.each; before = c.make_dir.ensures.time.before; now = c.make_dir.ensures.time.now }

pub returns-clause-exactly : goal.returns-clause-exactly
returns-clause-exactly g c = other_cause _ _ _ (no_failure MakeDir _ c.args.self.now.spared) c.make_dir.ensures.exactly
