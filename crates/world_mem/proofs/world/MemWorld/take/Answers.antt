use Rattle.std.proofs.Common.{refl}
use Rattle.mem_banks.specs.AsStore.{store_of}
use Rattle.world_mem.specs.declared.past.Turn.TheVariants.{Tree}
use Rattle.world_mem.proofs.Passing.{idle_recalls, idle_tree, turn_recalls, turn_tree}
use Rattle.world_mem.proofs.Unmade.{unmade_of}
use Rattle.world_mem.proofs.Went.{used}
use Rattle.world_mem.proofs.world.MemWorld.take.Goals as goal

pub invariant_of-self-clause-unmade : goal.invariant_of-self-clause-unmade
invariant_of-self-clause-unmade c = unmade_of c.remove.new.self

pub invariant_of-self-2-clause-unmade : goal.invariant_of-self-2-clause-unmade
invariant_of-self-2-clause-unmade c = unmade_of c.remove.new.self

pub returns-then-not-remove-clause-recalls : goal.returns-then-not-remove-clause-recalls
returns-then-not-remove-clause-recalls c = idle_recalls _ _ (record { turns = refl; horizon = refl; machine = λ i. record { course = c.remove.ensures.same c.if-not-remove.true i; store = store_of c.args.self.now.banks } })

pub returns-then-not-remove-clause-time : goal.returns-then-not-remove-clause-time
returns-then-not-remove-clause-time c = idle_tree _ _ (record { turns = refl; horizon = refl; machine = λ i. record { course = c.remove.ensures.same c.if-not-remove.true i; store = store_of c.args.self.now.banks } })

pub returns-clause-recalls : goal.returns-clause-recalls
returns-clause-recalls c = turn_recalls Tree _ _ (record { turns = c.push.ensures.items; horizon = refl; since = c.args.self.now.since; machine = λ i. record { course = c.remove.ensures.back c.if-not-remove.false i; store = store_of c.args.self.now.banks } })

pub returns-clause-time : goal.returns-clause-time
returns-clause-time c = turn_tree Tree _ _ (record { turns = c.push.ensures.items; horizon = refl; since = c.args.self.now.since; machine = λ i. record { course = c.remove.ensures.back c.if-not-remove.false i; store = store_of c.args.self.now.banks } })

pub returns-then-not-remove-clause-removals : goal.returns-then-not-remove-clause-removals
returns-then-not-remove-clause-removals c = used c.args.self.now.state c.remove.new.self c.args.path.now c.remove.result c.remove.ensures.stood c.remove.ensures.gone c.remove.ensures.removals

pub returns-clause-removals : goal.returns-clause-removals
returns-clause-removals c = used c.args.self.now.state c.remove.new.self c.args.path.now c.remove.result c.remove.ensures.stood c.remove.ensures.gone c.remove.ensures.removals
