use Rattle.std.proofs.Common.{◌≡◌, ◌≢◌, ◌∙◌, ◌%◌, refl, sym, ap, map, subst, Option, Some, ℕ, length, slice_index, slice_index_or, Contains}
use Rattle.world_mem.specs.AsAround.{around_of}
use Rattle.world_mem.specs.CallCounts.{count_of}
use Rattle.world_mem.specs.declared.calls.Call.TheVariants.{Wait}
use Rattle.mem_banks.specs.AsStore.{store_of}
use Rattle.world_mem.specs.declared.past.Turn.TheVariants.{Tree}
use Rattle.std.specs.List.{remove}
use Rattle.world_mem.specs.Kept.{running_of}
use Rattle.world_mem.specs.Stamps.{Stamps}
use Rattle.world_mem.specs.Standing.{is_dir}
use Rattle.world_mem.specs.declared.dirs.Dirs.{Dirs}
use Rattle.world_api.specs.declared.job.Outcome.{Outcome}
use Rattle.world_api.specs.declared.job.Outcome.TheVariants.{NoMemory}
use Rattle.world_mem.proofs.Plain.{cut_memory}
use Rattle.world_mem.proofs.Passing.{turn_recalls, turn_tree}
use Rattle.world_mem.proofs.Unmade.{unmade_of}
use Rattle.world_mem.proofs.Without.{map_without}
use Rattle.world_mem.proofs.tree.MemWorldWorld.wait.Goals as goal

pub invariant_of-self-clause-unmade : goal.invariant_of-self-clause-unmade
invariant_of-self-clause-unmade c = unmade_of c.end-ended.new.self

pub returns-clause-cause : goal.returns-clause-cause
returns-clause-cause c = c.after-self.ensures.cause

pub returns-clause-recalls : goal.returns-clause-recalls
returns-clause-recalls c = turn_recalls Tree _ _ (record { turns = c.push.ensures.items; horizon = refl; since = c.args.self.now.since; machine = λ i. record { course = c.end-ended.ensures.back i; store = store_of c.args.self.now.banks } })

pub returns-clause-time : goal.returns-clause-time
returns-clause-time c = turn_tree Tree _ _ (record { turns = c.push.ensures.items; horizon = refl; since = c.args.self.now.since; machine = λ i. record { course = c.end-ended.ensures.back i; store = store_of c.args.self.now.banks } })

pub returns-clause-stamps : goal.returns-clause-stamps
returns-clause-stamps c = λ d.
    let running = (around_of c.args.self.now.state).running in
    let place : c.place_of-place.result ≡ slice_index c.args.self.now.orders.items (count_of Wait c.args.self.now.calls) % length running = cc in
    subst (λ (n : ℕ). Stamps (Contains (slice_index_or running n d).job.targets) c.args.self.now.state c.end-ended.new.self) place (c.end-ended.ensures.stamps d)

pub returns-clause-no_memory : goal.returns-clause-no_memory
returns-clause-no_memory c =
    c.end-ended.ensures.no_memory (subst (λ (cut : Option Outcome). cut ≢ Some NoMemory) (sym c.cut_of-cut.ensures) (cut_memory c.next.result))

pub returns-clause-absent : goal.returns-clause-absent
returns-clause-absent c = λ d path bad own.
    let running = (around_of c.args.self.now.state).running in
    let place : c.place_of-place.result ≡ slice_index c.args.self.now.orders.items (count_of Wait c.args.self.now.calls) % length running = cc in
    c.end-ended.ensures.absent d path bad (subst (λ (n : ℕ). Contains (slice_index_or running n d).job.targets path) (sym place) own)

pub returns-clause-rest : goal.returns-clause-rest
returns-clause-rest c =
    let runs = c.args.self.now.state.running.items in
    let running = (around_of c.args.self.now.state).running in
    let place : c.place_of-place.result ≡ slice_index c.args.self.now.orders.items (count_of Wait c.args.self.now.calls) % length running = cc in
    ap (map running_of) c.end-ended.ensures.rest ∙ map_without running_of runs c.place_of-place.result ∙ ap (remove running) place

pub returns-clause-dirs : goal.returns-clause-dirs
returns-clause-dirs c = λ dir. ap (λ (dirs : Dirs). is_dir dirs dir) c.end-ended.ensures.dirs
