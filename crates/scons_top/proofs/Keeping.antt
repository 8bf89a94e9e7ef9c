-- What a run kept of its records, by the step at which it ended.
use Rattle.std.proofs.Common.{◌≡◌, ◌≢◌, ◌⊎◌, [], inl, inr}
use Rattle.world_api.specs.Laws.{HasOnlyNow}
use Rattle.world_api.specs.Looks.{Looks}
use Rattle.world_api.specs.Meaning.{Meaning}
use Rattle.scons_words.specs.declared.words.Words.{Words}
use Rattle.scons_top.specs.Builds.{Builds, EndsBefore, HasBuilt, RemembersAt}
use Rattle.scons_top.specs.Remembered.{LeavesRecords}
use Rattle.scons_top.specs.Steps.{ComesTo, LeavesAt}
use Rattle.scons_top.specs.declared.report.Report.{Report}
use Rattle.scons_top.specs.declared.step.Step.{Step}
use Rattle.scons_top.specs.declared.step.Step.TheVariants as step
use Rattle.scons_top.proofs.Remembered.{banks_looked, records_before, records_of}

module _ {W : Type 0} (m : Meaning W) (only : HasOnlyNow m) (said : Words) (old new : W) where
  looked : Looks m old new → LeavesRecords m old new
  looked looks = records_of m old new (banks_looked m only old new looks)

  built_or : (report : Report) → HasBuilt m said old new report ⊎ ((report.status ≢ 0) × (report.skipped ≡ []) × EndsBefore m old new) →
      HasBuilt m said old new report ⊎ LeavesRecords m old new
  built_or report (inl built) = inl built
  built_or report (inr early) = inr (records_before m only old new early.2)

  pub remembers_at : (at : Step) (report : Report) → ComesTo said at → LeavesAt m at old new → Builds m said old new report →
      RemembersAt m said at old new report
  remembers_at step.Words report comes leaves builds = looked leaves
  remembers_at step.Load report comes leaves builds = looked leaves
  remembers_at step.Top report comes leaves builds = looked leaves
  remembers_at step.Reading report comes leaves builds = looked leaves
  remembers_at step.Help report comes leaves builds = looked leaves
  remembers_at step.Requests report comes leaves builds = looked leaves
  remembers_at step.Cleaning report comes leaves builds = records_of m old new leaves.moments
  remembers_at step.Store report comes leaves builds = records_before m only old new leaves
  remembers_at step.Listing report comes leaves builds = looked leaves
  remembers_at step.Building report comes leaves builds = λ tells sure. built_or report
      (builds (record { load = comes.0; help = comes.1.0; clean = comes.1.1; dry = comes.1.2 }) tells sure)
