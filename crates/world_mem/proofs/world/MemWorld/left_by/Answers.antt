use Rattle.std.proofs.Common.{◌≡◌, ◌∙◌, ap, arith, vec_len, ℕ, List}
use Rattle.std.specs.List.{flat_map}
use Rattle.mem_banks.specs.AsStore.{store_of}
use Rattle.mem_banks.specs.Past.{IsImage, bytes_in, synced_in}
use Rattle.mem_banks.specs.Picks.{left_of}
use Rattle.world_api.specs.declared.disk.Bank.{Bank}
use Rattle.world_mem.specs.Left.{names, left_over}
use Rattle.world_mem.specs.declared.running.RunningJob.{RunningJob}
use Rattle.std.specs.Global.{Vec}
use Rattle.world_mem.proofs.Unmade.{unmade_of}
use Rattle.world_mem.proofs.LeftTargets.{covers, of_either, only_targets}
use Rattle.world_mem.proofs.LeftOver.{over_names, makings_of}
use Rattle.world_mem.proofs.world.MemWorld.left_by.Goals as goal

pub returns-clause-targets : goal.returns-clause-targets
returns-clause-targets c =
    let state = c.widen_met.new.self in
    c.in_ok-targets.ensures ∙ ap (left_over c.args.pick) (makings_of state.table state.running.items state.planned)

pub returns-clause-covers : goal.returns-clause-covers
returns-clause-covers c =
    let state = c.widen_met.new.self in
    covers state.table state.running.items c.in_ok-targets.targets state.planned
    (ap names c.in_ok-targets.ensures ∙ over_names c.args.pick (flat_map (λ (run : RunningJob). run.made) state.running.items))

pub returns-clause-only : goal.returns-clause-only
returns-clause-only c =
    let state = c.widen_met.new.self in
    only_targets state.table state.running.items c.in_ok-targets.targets state.planned
    (ap names c.in_ok-targets.ensures ∙ over_names c.args.pick (flat_map (λ (run : RunningJob). run.made) state.running.items))

pub returns-clause-image : goal.returns-clause-image
returns-clause-image c =
    of_either (λ (bank : Bank) (bytes : List ℕ). IsImage (store_of c.args.self.now.banks) bank bytes) c.in_ok-a.a.items c.in_ok-b.b.items c.in_ok-a.ensures.image c.in_ok-b.ensures.image

pub returns-clause-picked : goal.returns-clause-picked
returns-clause-picked c =
    let store = store_of c.args.self.now.banks in
    of_either (λ (bank : Bank) (bytes : List ℕ). bytes ≡ left_of c.args.pick store bank) c.in_ok-a.a.items c.in_ok-b.b.items c.in_ok-a.ensures.picked c.in_ok-b.ensures.picked

pub returns-clause-stands : goal.returns-clause-stands
returns-clause-stands c = λ zero.
    let store = store_of c.args.self.now.banks in
    of_either (λ (bank : Bank) (bytes : List ℕ). bytes ≡ bytes_in store bank) c.in_ok-a.a.items c.in_ok-b.b.items (c.in_ok-a.ensures.stands zero) (c.in_ok-b.ensures.stands zero)

pub returns-clause-lost : goal.returns-clause-lost
returns-clause-lost c = λ one.
    let store = store_of c.args.self.now.banks in
    of_either (λ (bank : Bank) (bytes : List ℕ). bytes ≡ synced_in store bank) c.in_ok-a.a.items c.in_ok-b.b.items (c.in_ok-a.ensures.lost one) (c.in_ok-b.ensures.lost one)

pub invariant_of-self : goal.invariant_of-self
invariant_of-self c =
    let same = ap (λ (running : Vec RunningJob). vec_len running) c.widen_met.ensures.running in
    record {
      unmade = unmade_of c.widen_met.new.self;
      turns_room = omega (arith, same, c.widen_met.ensures.removals);
      since = c.args.self.now.since;
      recorded_within = omega (arith, c.widen_met.ensures.removals);
      turns_capacity = c.args.self.now.turns_capacity;
      counts = c.args.self.now.counts;
    }
