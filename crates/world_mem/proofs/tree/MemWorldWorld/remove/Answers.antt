use Rattle.world_mem.proofs.tree.MemWorldWorld.remove.Goals as goal

pub returns-then-eq-3-clause-recalls : goal.returns-then-eq-3-clause-recalls
returns-then-eq-3-clause-recalls c = record { later = c.take.ensures.recalls.later; keeps = c.take.ensures.recalls.keeps }

pub returns-then-eq-3-clause-time : goal.returns-then-eq-3-clause-time
returns-then-eq-3-clause-time c = record { told = c.take.ensures.time.told; each = c.take.ensures.time.each; before = c.take.ensures.time.before; now = c.take.ensures.time.now }

pub returns-clause-recalls : goal.returns-clause-recalls
returns-clause-recalls c = record { later = c.take.ensures.recalls.later; keeps = c.take.ensures.recalls.keeps }

pub returns-clause-time : goal.returns-clause-time
returns-clause-time c = record { told = c.take.ensures.time.told; each = c.take.ensures.time.each; before = c.take.ensures.time.before; now = c.take.ensures.time.now }
