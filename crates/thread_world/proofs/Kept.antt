-- What stays as it was over a call.
use Rattle.std.proofs.Common.{◌≡◌, ◌<◌, ◌∙◌, sym, ap, subst, ℕ, List, [], map, arith}
use Rattle.job_runner.specs.declared.slip.Slip.{Slip}
use Rattle.std.specs.Prelude.{Contains, Result, Ok, Err, OnOk, OnErr}
use Rattle.world_api.specs.Around.{Around, Running}
use Rattle.world_api.specs.Calls.{Asks, MakesDir}
use Rattle.world_api.specs.Counts.{Counts}
use Rattle.world_mem.specs.AsAround.{around_of}
use Rattle.world_mem.specs.CallCounts.{counted, burned}
use Rattle.world_mem.specs.EachCall.{Keeps, TreeCall}
use Rattle.world_mem.specs.declared.calls.Call.{Call}
use Rattle.world_mem.specs.declared.calls.Calls.{Calls}
use Rattle.world_mem.specs.declared.state.State.{State}
use Rattle.act_table.specs.declared.table.ActRow.{ActRow}
use Rattle.world_mem.specs.declared.world.MemWorld.{MemWorld}
use Rattle.thread_world.specs.Step.{InStep, IsSpared, run_of}

pub step_same : (rows rows' : List ActRow) (running running' : List Running) (out : List (ℕ × Slip)) → rows' ≡ rows → running' ≡ running → InStep rows running out → InStep rows' running' out
step_same rows rows' running running' out same_rows same step =
    subst (λ (r : List ActRow). InStep r running' out) (sym same_rows) (subst (λ (r : List Running). InStep rows r out) (sym same) step)

pub step_state : (old new : State) (out : List (ℕ × Slip)) → new ≡ old → InStep old.table (around_of old).running out → InStep new.table (around_of new).running out
step_state old new out same step = subst (λ (s : State). InStep s.table (around_of s).running out) (sym same) step

pub spared_counted : (call : Call) (old new : Calls) → new ≡ counted call old → IsSpared old → IsSpared new
spared_counted call old new is spared = record {
  listed = ap (λ (c : Calls). c.failing.items) is ∙ spared.listed;
  fuse = ap (λ (c : Calls). c.fuse) is ∙ ap burned spared.fuse;
}

pub spared_same : (old new : Calls) → new ≡ old → IsSpared old → IsSpared new
spared_same old new is spared = subst IsSpared (sym is) spared

pub running_made : {T E : Type 0} (path : List ℕ) (result : Result T E) (old new : Around) → OnOk result (MakesDir path old new) → OnErr result (Asks old new) → new.running ≡ old.running
running_made path (Ok x) old new made refused = made.running
running_made path (Err e) old new made refused = refused.running

pub step_none : (rows : List ActRow) (running : List Running) (out : List (ℕ × Slip)) → running ≡ [] → out ≡ [] → InStep rows running out
step_none rows running out idle empty = record {
  same = idle ∙ ap (map run_of) (sym empty);
  whole = λ entry here. absurd (let lt = (subst (λ (slips : List (ℕ × Slip)). Contains slips entry) empty here).1 in omega (arith, lt));
}

pub keeps_of : (call : Call) (fault : Counts → Counts) (refused : Type 0) (old new : MemWorld) → TreeCall call fault refused old new → Keeps old new
keeps_of call fault refused old new each =
    record { banks = each.banks; table = each.table; orders = each.orders; removals = each.removals }
