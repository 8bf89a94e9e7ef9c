-- A record of moments that begins anew.
use Rattle.std.proofs.Common.{◌≡◌, ◌-◌, ℕ, List, max, length, reverse, subst, arith}
use Rattle.world_api.specs.Around.{Around}
use Rattle.world_api.specs.Banks.{Banks}
use Rattle.world_mem.specs.Past.{Machine, IsMoment, IsHere}
use Rattle.world_mem.specs.declared.past.Turn.{Turn}

pub anew_by : (turns : List Turn) (machine : Machine) (horizon : ℕ) → horizon ≡ length turns → (time : ℕ) (around : Around) (banks : Banks)
    → IsMoment (reverse turns) machine (length turns - max time horizon) around banks → IsHere machine around banks
anew_by turns machine horizon at time around banks left =
    let none : length turns - max time horizon ≡ 0 = omega (arith, at) in
    subst (λ n. IsMoment (reverse turns) machine n around banks) none left
