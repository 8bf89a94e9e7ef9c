-- What the job of a slip comes to.
use Rattle.std.specs.Prelude.{◌≡◌, ◌≢◌, ℕ, Bool, true, List, Option, Some, Contains}
use Rattle.std.specs.Arc.{arc_value}
use Rattle.world_api.specs.Act.{Content}
use Rattle.world_api.specs.declared.job.Outcome.{Outcome}
use Rattle.world_api.specs.declared.job.Outcome.TheVariants.{NoMemory}
use Rattle.job_runner.specs.declared.slip.Slip.{Slip}
use Rattle.job_runner.specs.declared.slip.Ending.{Ending}

-- how a job ends, and what it makes at each target where that is known
pub record Answer : Type 0 where
  pub outcome : Outcome
  pub made : Option (List Content)

abbrev pub answer_of : Ending → Answer
answer_of ending = record { outcome = ending.outcome; made = ending.made }

-- where the definition tells what the ending's own slip comes to, the ending is that, or want of memory
abbrev pub IsAnswer : (Slip → Option Answer) → Ending → Type 0
IsAnswer told ending = (answer : Answer) → told (arc_value ending.slip) ≡ Some answer → ending.outcome ≢ NoMemory → answer_of ending ≡ answer

-- it is an answer, and a run gave it
abbrev pub Gives : (Slip → Option Answer) → (Ending → Bool) → Ending → Type 0
Gives told gave ending = IsAnswer told ending × (gave ending ≡ true)

-- each of these endings is
abbrev pub AreGiven : (Slip → Option Answer) → (Ending → Bool) → List (ℕ × Ending) → Type 0
AreGiven told gave ended = (number : ℕ) (ending : Ending) → Contains ended (number, ending) → Gives told gave ending
