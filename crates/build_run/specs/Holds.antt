-- What running jobs keep to themselves.
use Rattle.std.specs.Prelude.{◌≢◌, ◌==◌, ℕ, List, [], ◌∷◌, map, Contains, if◌then◌else◌}
use Rattle.world_api.specs.declared.job.Job.{Job}
use Rattle.world_api.specs.Around.{Running}
use Rattle.sign_store.specs.declared.ticket.Ticketed.{Ticketed}
use Rattle.build_run.specs.declared.tickets.Hold.{Hold}

-- a rule, with the ticket for its record
abbrev pub Busy : Type 0
Busy = Ticketed Hold

abbrev pub hold_for : Job → Hold
hold_for job = record { rule = record { 0 = job.id }; targets = job.targets; deps = job.deps }

abbrev pub hold_of : Running → Hold
hold_of run = hold_for run.job

-- what the running jobs keep to themselves
abbrev pub holds_of : List Running → List Hold
holds_of running = map hold_of running

-- what the rules of these tickets keep to themselves
abbrev pub holds_in : List Busy → List Hold
holds_in busies = map (λ busy. busy.hold) busies

-- those that are left without the first of this number
abbrev pub without : ℕ → List Hold → List Hold
without id [] = []
without id (hold ∷ holds) = if hold.rule.0 == id then holds else hold ∷ without id holds

-- a job has another number, makes nothing that is made or read there, and reads nothing that is made there
pub record KeepsApart (job : Job) (hold : Hold) : Type 0 where
  pub new_id : hold.rule.0 ≢ job.id
  pub made : (path : List ℕ) → Contains job.targets path → Contains hold.targets path → ⊥
  pub read : (path : List ℕ) → Contains job.targets path → Contains hold.deps path → ⊥
  pub settled : (path : List ℕ) → Contains job.deps path → Contains hold.targets path → ⊥

-- no number stands twice
abbrev pub AreApart : List Hold → Type 0
AreApart [] = Unit {0}
AreApart (hold ∷ holds) = ((other : Hold) → Contains holds other → other.rule.0 ≢ hold.rule.0) × AreApart holds
