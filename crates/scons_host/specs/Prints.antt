-- What is so over any number of calls that only print on a sink.
use Rattle.std.specs.Prelude.{◌≡◌, ◌++◌, ◌≤◌, ℕ, List}
use Rattle.world_api.specs.Printed.{SinkMeaning}

-- the sink was printed on: what it had printed stands, and more behind it
pub record Prints {S : Type 0} (m : SinkMeaning S) (old new : S) : Type 0 where
  pub told : m.tells new → m.tells old
  pub text : m.tells new → (more : List ℕ) × (m.text new ≡ m.text old ++ more)
  pub faults : m.faults old ≤ m.faults new
