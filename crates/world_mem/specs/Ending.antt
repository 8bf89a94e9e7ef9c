-- How an ending is cut, and what it counts.
use Rattle.std.specs.Prelude.{Option, Some, None, pos}
use Rattle.world_api.specs.declared.job.Outcome.{Outcome}
use Rattle.world_api.specs.declared.job.Outcome.TheVariants.{Done, Failed, Broken, NoMemory}
use Rattle.world_mem.specs.CallCounts.{next}
use Rattle.world_mem.specs.declared.calls.Verdict.{Verdict}
use Rattle.world_mem.specs.declared.calls.Verdict.TheVariants.{Goes, Listed, Spent}
use Rattle.world_mem.specs.declared.event.Faults.{Faults}

-- a listed ending fails with status 1, one after the fuse is spent is broken
abbrev pub cut_of : Verdict → Option Outcome
cut_of Goes = None
cut_of Listed = Some (Failed (pos 1))
cut_of Spent = Some Broken

abbrev pub faults_after : Outcome → Faults → Faults
faults_after Done faults = faults
faults_after (Failed code) faults = record faults { action = next faults.action }
faults_after Broken faults = record faults { start = next faults.start }
faults_after NoMemory faults = faults
