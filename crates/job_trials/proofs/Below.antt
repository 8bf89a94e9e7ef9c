-- The jobs that run, over starts and endings: how many, with ids below a next one.
use Rattle.std.proofs.Common.{◌≡◌, ◌∙◌, ◌<◌, ◌+◌, sym, ap, subst, ℕ, suc, List, [], ◌∷◌, ◌++◌, length, arith, inl, inr, length-append}
use Rattle.std.specs.Prelude.{Contains}
use Rattle.std.proofs.lemmas.List.Elements.{Contains-append_left, Contains-append_right, Contains-append_cases}
use Rattle.world_api.specs.Around.{Around, Running, given_of}
use Rattle.world_api.specs.Calls.{CanStart, Ends, IsOpen, Starts}
use Rattle.world_api.specs.Counts.{Counts}
use Rattle.world_api.specs.declared.job.Ended.{Ended}
use Rattle.world_api.specs.declared.job.Job.{Job}
use Rattle.world_mem.proofs.Membership.{push_all}
use Rattle.world_mem.specs.Laws.{none_closed}
use Rattle.job_trials.specs.Below.{AreBelow}

none : {A : Type 0} (paths : List (List ℕ)) (path : List ℕ) → paths ≡ [] → Contains paths path → A
none paths path empty here = absurd (let at : Contains [] path = subst (λ (ps : List (List ℕ)). Contains ps path) empty here in let lt : at.0 < 0 = at.1 in omega (arith, lt))

pub can_start : (job : Job) (around : Around) (next : ℕ) → job.id ≡ next → job.targets ≡ [] → job.deps ≡ [] → AreBelow next around.running → CanStart job around
can_start job around next id targets deps below = record {
  new_id = λ run here same. let lt = below run here in omega (arith, lt, same, id);
  own_targets = λ run path here own. none job.targets path targets own;
  settled = λ run path here own. none job.deps path deps own;
  clear = λ path own. none job.targets path targets own;
}

pub all_open : (job : Job) → IsOpen [] job
all_open job = record { targets = λ path own closed. none_closed path closed; deps = λ path own closed. none_closed path closed }

pub below_none : (next : ℕ) (running : List Running) → running ≡ [] → AreBelow next running
below_none next running idle run here = absurd (let at : Contains [] run = subst (λ (runs : List Running). Contains runs run) idle here in let lt : at.0 < 0 = at.1 in omega (arith, lt))

pub below_same : (next : ℕ) (running running' : List Running) → running' ≡ running → AreBelow next running → AreBelow next running'
below_same next running running' is below = λ run here. below run (subst (λ (runs : List Running). Contains runs run) is here)

pub below_more : (next : ℕ) (running running' : List Running) (run : Running) → running' ≡ running ++ run ∷ [] → run.job.id ≡ next → AreBelow next running → AreBelow (next + 1) running'
below_more next running running' run is id below = λ other here.
    push_all (λ r. r.job.id < next + 1) running run (λ r h. let lt = below r h in omega (arith, lt)) (omega (arith, id)) other
    (subst (λ (runs : List Running). Contains runs other) is here)

later : (x : Running) (xs : List Running) (y : Running) → Contains xs y → Contains (x ∷ xs) y
later x xs y here = (suc here.0, omega (arith, here.1), here.2)

pub below_less : (sure : Type 0) (ended : Ended) (next : ℕ) (old new : Around) → Ends sure ended old new → AreBelow next old.running → AreBelow next new.running
below_less sure ended next old new ends below = λ run here.
    below run (subst (λ (runs : List Running). Contains runs run) (sym ends.was) (elim (Contains-append_cases ends.front ends.back run (subst (λ (runs : List Running). Contains runs run) ends.running here)) [
      | inl front ↦ Contains-append_left ends.front (ends.which ∷ ends.back) run front
      | inr back ↦ Contains-append_right ends.front (ends.which ∷ ends.back) run (later ends.which ends.back run back)
    ]))

pub fewer : (sure : Type 0) (ended : Ended) (old new : Around) → Ends sure ended old new → length new.running + 1 ≡ length old.running
fewer sure ended old new ends =
    let was = ap (λ (runs : List Running). length runs) ends.was in
    let is = ap (λ (runs : List Running). length runs) ends.running in
    omega (arith, was, is, length-append ends.front (ends.which ∷ ends.back), length-append ends.front ends.back)

pub more : (job : Job) (counts : Counts) (old new : Around) → Starts job counts old new → length new.running ≡ length old.running + 1
more job counts old new started =
    ap (λ (runs : List Running). length runs) started.running ∙ length-append old.running (record { job = job; given = given_of old.tree job.deps } ∷ [])
