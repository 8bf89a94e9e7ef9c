-- What a build has found so far, and that its causes are accounted for from call to call.
use Rattle.std.specs.Prelude.{◌≡◌, ◌++◌, ◌∷◌, [], Bool, true, false, ℕ, List, All, Result, Ok, Err}
use Rattle.scons_base.specs.Rising.{Rose}
use Rattle.world_api.specs.Counts.{Counts}
use Rattle.world_api.specs.Meaning.{Meaning}
use Rattle.world_api.specs.Printed.{SinkMeaning}
use Rattle.world_api.specs.declared.job.Outcome.{Outcome}
use Rattle.world_api.specs.declared.job.Outcome.TheVariants as outcome
use Rattle.rule_graph.specs.declared.build_fault.BuildFault.{BuildFault}
use Rattle.rule_graph.specs.declared.build_fault.BuildFault.TheVariants as fault
use Rattle.build_files.specs.declared.end.ListEnd.{ListEnd}
use Rattle.build_files.specs.declared.end.ListEnd.TheVariants as end
use Rattle.build_run.specs.Causes.{Outside, outside, IsLater, HasCause, AreCounted, AreTold}
use Rattle.build_run.specs.declared.account.Account.{Account}
use Rattle.build_run.specs.declared.end.BuildEnd.{BuildEnd}

-- the faults that were found, whether the store isn't called any more, and whether memory was wanting
pub record Ledger : Type 0 where
  pub faults : List BuildFault
  pub shut : Bool
  pub memory : Bool

abbrev pub ledger_of : Account → Ledger
ledger_of account = record { faults = account.faults.items; shut = account.is_store_shut; memory = account.memory }

abbrev pub ledger_of_end : BuildEnd → Ledger
ledger_of_end answer = record { faults = answer.faults; shut = false; memory = answer.memory }

abbrev pub blank : Ledger
blank = record { faults = []; shut = false; memory = false }

-- one fault more
abbrev pub with_fault : Ledger → BuildFault → Ledger
with_fault ledger fault = record { faults = ledger.faults ++ fault ∷ []; shut = ledger.shut; memory = ledger.memory }

abbrev pub wanting : Ledger → Ledger
wanting ledger = record { faults = ledger.faults; shut = ledger.shut; memory = true }

abbrev pub with_end : Ledger → ListEnd → Ledger
with_end ledger (end.Fault fault) = with_fault ledger fault
with_end ledger end.Memory = wanting ledger

abbrev pub with_done : {T : Type 0} → Ledger → Result T ListEnd → Ledger
with_done ledger (Ok value) = ledger
with_done ledger (Err e) = with_end ledger e

-- with what is to be reported of the ending of this target's action
abbrev pub with_outcome : Ledger → List ℕ → Outcome → Ledger
with_outcome ledger target outcome.Done = ledger
with_outcome ledger target (outcome.Failed code) = with_fault ledger (fault.ActionFailed target code)
with_outcome ledger target outcome.Broken = with_fault ledger (fault.StartFault target)
with_outcome ledger target outcome.NoMemory = wanting ledger

-- the disk has refused, which is one fault more
abbrev pub with_shut : Ledger → Ledger
with_shut ledger = record { faults = ledger.faults ++ fault.StoreFault ∷ []; shut = true; memory = ledger.memory }

-- since a start no count fell, each fault has its cause, of none there are more than its count rose by, and it has its cause that
-- the store isn't called any more; unless memory was wanting each count that changed is told
pub record Accounted (start now : Outside) (ledger : Ledger) : Type 0 where
  pub later : IsLater start now
  pub each : All (HasCause start now) ledger.faults
  pub counted : AreCounted start now ledger.faults
  pub told : ledger.memory ≡ false → AreTold start now ledger.faults
  pub shut : ledger.shut ≡ true → Rose start.counts.disk_faults now.counts.disk_faults

-- What was accounted for is so still.
abbrev pub Accounts : Outside → Ledger → Outside → Ledger → Type 0
Accounts old before new after = (start : Outside) → Accounted start old before → Accounted start new after

-- an account into which this went, with no call outside
pub record Keeps (old : Account) (with : Ledger) (new : Account) : Type 0 where
  pub shut : new.is_store_shut ≡ old.is_store_shut
  pub accounts : (now : Outside) → Accounts now with now (ledger_of new)

-- an account into which this went, over calls on standard error, whatever else lies outside
pub record Reports {E : Type 0} (e : SinkMeaning E) (err : E) (old : Account) (with : Ledger) (new_err : E) (new : Account)
    : Type 0 where
  pub shut : new.is_store_shut ≡ old.is_store_shut
  pub accounts : (counts : Counts) (out : ℕ)
      → Accounts (outside counts out (e.faults err)) with (outside counts out (e.faults new_err)) (ledger_of new)

-- what was accounted for is so still, over calls on the world and both sinks
abbrev pub AllAccounts : {W O E : Type 0} → Meaning W → SinkMeaning O → SinkMeaning E → W → O → E → Account → W → O → E → Account → Type 0
AllAccounts m o e world out err account new_world new_out new_err new_account =
    Accounts (outside (m.counts world) (o.faults out) (e.faults err)) (ledger_of account)
    (outside (m.counts new_world) (o.faults new_out) (e.faults new_err)) (ledger_of new_account)
