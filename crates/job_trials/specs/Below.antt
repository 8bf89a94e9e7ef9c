-- Ids that were given out in order.
use Rattle.std.specs.Prelude.{◌<◌, ℕ, List, Contains}
use Rattle.world_api.specs.Around.{Running}

-- each running job has an id below this one
abbrev pub AreBelow : ℕ → List Running → Type 0
AreBelow next running = (run : Running) → Contains running run → run.job.id < next
