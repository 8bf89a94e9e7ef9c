use Rattle.std.proofs.Common.{refl}
use Rattle.mem_banks.specs.AsStore.{store_of}
use Rattle.world_mem.specs.declared.past.Turn.TheVariants.{Tree}
use Rattle.world_mem.proofs.Passing.{turn_recalls, turn_tree}
use Rattle.world_mem.proofs.Unmade.{unmade_of}
use Rattle.world_mem.proofs.world.MemWorld.enter.Goals as goal

pub invariant_of-self-clause-unmade : goal.invariant_of-self-clause-unmade
invariant_of-self-clause-unmade c = unmade_of c.enter_ready.new.self

pub returns-clause-recalls : goal.returns-clause-recalls
returns-clause-recalls c = turn_recalls Tree _ _ (record { turns = c.push.ensures.items; horizon = refl; since = c.args.self.now.since; machine = λ i. record { course = c.enter_ready.ensures.back i; store = store_of c.args.self.now.banks } })

pub returns-clause-time : goal.returns-clause-time
returns-clause-time c = turn_tree Tree _ _ (record { turns = c.push.ensures.items; horizon = refl; since = c.args.self.now.since; machine = λ i. record { course = c.enter_ready.ensures.back i; store = store_of c.args.self.now.banks } })

pub returns-clause-started : goal.returns-clause-started
returns-clause-started c = λ event. c.enter_ready.ensures.started c.args.self.now.faults event
