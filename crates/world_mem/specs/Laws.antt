-- The laws of a disk and a world, for a world in memory.
use Rattle.std.proofs.Common.{◌≡◌, ◌<◌, ◌-◌, inl, ℕ, zero, suc, List, [], ◌∷◌, max, length, reverse, subst, refl, arith}
use Rattle.mem_banks.specs.AsStore.{store_of}
use Rattle.mem_banks.proofs.Images.{reads_store}
use Rattle.world_api.specs.Around.{Around}
use Rattle.world_api.specs.Banks.{Banks}
use Rattle.world_api.specs.Calls.{IsClosed}
use Rattle.world_api.specs.Meaning as meaning
use Rattle.world_mem.specs.Means.{machine_of, world_meaning}
use Rattle.world_mem.specs.Past.{Machine, IsHere, IsMoment}
use Rattle.world_mem.specs.declared.past.Turn.{Turn}
use Rattle.world_mem.specs.declared.world.MemWorld.{MemWorld}

pub none_closed : {P : Type 0} → (path : List ℕ) → IsClosed [] path → P
none_closed path closed = absurd (let lt : closed.1.0 < 0 = closed.1.1 in omega arith)

pub reads_as_of : (w : MemWorld) → meaning.IsImage world_meaning w (world_meaning.seen w)
reads_as_of w bank = reads_store (store_of w.banks) bank w.banks.whole

pub here_now : (turns : List Turn) (machine : Machine) (n : ℕ) (around : Around) (banks : Banks)
    → IsHere machine around banks → IsMoment turns machine n around banks
here_now turns machine zero around banks here = here
here_now [] machine (suc n) around banks here = here
here_now (turn ∷ older) machine (suc n) around banks here = inl here

pub counts_now_of : (w : MemWorld) (time : ℕ) (banks : Banks) → meaning.IsImage world_meaning w banks
    → world_meaning.left_since w time (world_meaning.around w) banks
counts_now_of w time banks image =
    let since = length w.turns.items - max time w.horizon in
    here_now (reverse w.turns.items) (machine_of w) since (world_meaning.around w) banks (refl, image)

pub only_now_of : (w : MemWorld) (around : Around) (banks : Banks)
    → world_meaning.left_since w (world_meaning.clock w) around banks
    → (around ≡ world_meaning.around w) × meaning.IsImage world_meaning w banks
only_now_of w around banks left =
    let none : length w.turns.items - max (length w.turns.items) w.horizon ≡ 0 = omega arith in
    subst (λ n. IsMoment (reverse w.turns.items) (machine_of w) n around banks) none left
