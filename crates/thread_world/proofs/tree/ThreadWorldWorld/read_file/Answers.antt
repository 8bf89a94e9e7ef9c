use Rattle.std.proofs.Common.{refl}
use Rattle.world_mem.specs.declared.calls.Call.TheVariants.{ReadFile}
use Rattle.thread_world.proofs.Kept.{step_same, spared_counted}
use Rattle.thread_world.proofs.Spared.{no_failure}
use Rattle.thread_world.proofs.tree.ThreadWorldWorld.read_file.Goals as goal

pub invariant_of-self-clause-step : goal.invariant_of-self-clause-step
invariant_of-self-clause-step g c = step_same _ _ _ _ _ c.read_file.ensures.each.table (c.read_file.ensures.around tt).running c.args.self.now.step

pub invariant_of-self-clause-spared : goal.invariant_of-self-clause-spared
invariant_of-self-clause-spared g c = spared_counted ReadFile _ _ c.read_file.ensures.each.counted c.args.self.now.spared

pub returns-clause-banks : goal.returns-clause-banks
returns-clause-banks g c = λ told bank. record { same = (c.read_file.ensures.banks told bank).same; no_more = (c.read_file.ensures.banks told bank).no_more }

pub returns-clause-told : goal.returns-clause-told
returns-clause-told g c = record { told = λ told. told; sure = λ told sure. sure; closed = refl }

pub returns-clause-recalls : goal.returns-clause-recalls
returns-clause-recalls g c = record { later = c.read_file.ensures.recalls.later; keeps = c.read_file.ensures.recalls.keeps }

pub returns-clause-time : goal.returns-clause-time
returns-clause-time g c = record { told = c.read_file.ensures.time.told; each = c.read_file.ensures.time.each; before = c.read_file.ensures.time.before; now = c.read_file.ensures.time.now }

pub returns-clause-never : goal.returns-clause-never
returns-clause-never g c = λ fault. no_failure ReadFile _ c.args.self.now.spared (c.read_file.ensures.exactly.0 fault)
