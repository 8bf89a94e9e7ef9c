use Rattle.std.proofs.Common.{refl, ap, ◌∙◌, map}
use Rattle.world_mem.specs.Kept.{running_of}
use Rattle.world_mem.specs.Standing.{is_dir}
use Rattle.world_mem.specs.declared.dirs.Dirs.{Dirs}
use Rattle.world_mem.proofs.Without.{map_without}
use Rattle.mem_banks.specs.AsStore.{store_of}
use Rattle.world_mem.specs.declared.past.Turn.TheVariants.{Tree}
use Rattle.world_mem.proofs.Passing.{turn_recalls, turn_tree}
use Rattle.world_mem.proofs.Unmade.{unmade_of}
use Rattle.world_mem.proofs.world.MemWorld.end.Goals as goal

pub invariant_of-self-clause-unmade : goal.invariant_of-self-clause-unmade
invariant_of-self-clause-unmade c = unmade_of c.end_as-ended.new.self

pub returns-clause-recalls : goal.returns-clause-recalls
returns-clause-recalls c = turn_recalls Tree _ _ (record { turns = c.push.ensures.items; horizon = refl; since = c.args.self.now.since; machine = λ i. record { course = c.end_as-ended.ensures.back i; store = store_of c.args.self.now.banks } })

pub returns-clause-time : goal.returns-clause-time
returns-clause-time c = turn_tree Tree _ _ (record { turns = c.push.ensures.items; horizon = refl; since = c.args.self.now.since; machine = λ i. record { course = c.end_as-ended.ensures.back i; store = store_of c.args.self.now.banks } })

pub returns-clause-rest : goal.returns-clause-rest
returns-clause-rest c = ap (map running_of) c.end_as-ended.ensures.rest ∙ map_without running_of c.args.self.now.state.running.items c.args.place

pub returns-clause-dirs : goal.returns-clause-dirs
returns-clause-dirs c = λ dir. ap (λ (dirs : Dirs). is_dir dirs dir) c.end_as-ended.ensures.dirs
