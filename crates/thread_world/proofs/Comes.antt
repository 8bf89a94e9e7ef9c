-- An ending that the pool gave is the one that the job at its place has by the table.
use Rattle.std.proofs.Common.{◌≡◌, ◌≢◌, ◌∙◌, ◌<◌, sym, ap, subst, refl, ℕ, zero, suc, List, [], ◌∷◌, ◌++◌, Option, Some, None, map, length, arith, inl, inr}
use Rattle.std.specs.Prelude.{Contains, slice_get, slice_index_or}
use Rattle.std.specs.List.{remove}
use Rattle.std.specs.Arc.{arc_value}
use Rattle.job_runner.specs.Answers.{Answer, IsAnswer}
use Rattle.job_runner.specs.Outs.{ReturnsAt}
use Rattle.job_runner.specs.declared.slip.Ending.{Ending}
use Rattle.job_runner.specs.declared.slip.Slip.{Slip}
use Rattle.job_runner.proofs.Found.{map_remove}
use Rattle.world_api.specs.Act.{Content}
use Rattle.world_api.specs.Around.{Running}
use Rattle.world_api.specs.declared.job.Outcome.{Outcome}
use Rattle.world_api.specs.declared.job.Outcome.TheVariants.{Done, NoMemory}
use Rattle.world_mem.specs.Planned.{makes, ends}
use Rattle.act_table.specs.Filled.{contents_of, paired}
use Rattle.world_mem.specs.Told.{IsTold}
use Rattle.act_table.specs.declared.table.ActRow.{ActRow}
use Rattle.world_mem.proofs.Membership.{still_in}
use Rattle.thread_world.specs.Comes.{answer_by, comes_by, comes_to}
use Rattle.thread_world.specs.Step.{InStep, IsWhole, listed, run_of}

abbrev Out : Type 0
Out = ℕ × Slip

within : (out : List Out) (place : ℕ) (entry : Out) → slice_get out place ≡ Some entry → place < length out
within [] place entry at = absurd cc
within (x ∷ out) zero entry at = omega arith
within (x ∷ out) (suc place) entry at = let later = within out place entry at in omega (arith, later)

abbrev unwrapped : (x : Out) (o : Option Out) → Out
unwrapped x None = x
unwrapped x (Some y) = y

at_place : (out : List Out) (place : ℕ) (entry d : Out) → slice_get out place ≡ Some entry → slice_index_or out place d ≡ entry
at_place [] place entry d at = absurd cc
at_place (x ∷ out) zero entry d at = ap (unwrapped x) at
at_place (x ∷ out) (suc place) entry d at = at_place out place entry d at

run_at : (out : List Out) (place : ℕ) (entry : Out) (d : Running) → slice_get out place ≡ Some entry → slice_index_or (map run_of out) place d ≡ run_of entry
run_at [] place entry d at = absurd cc
run_at (x ∷ out) zero entry d at = ap (λ (o : Option Out). run_of (unwrapped x o)) at
run_at (x ∷ out) (suc place) entry d at = run_at out place entry d at

there : (out : List Out) (place : ℕ) (entry : Out) → slice_get out place ≡ Some entry → Contains out entry
there out place entry at = (place, within out place entry at, at_place out place entry entry at)

long_map : (out : List Out) → length (map run_of out) ≡ length out
long_map [] = refl
long_map (x ∷ out) = ap suc (long_map out)

runs_within : (running : List Running) (out : List Out) (place : ℕ) (entry : Out) → running ≡ map run_of out → slice_get out place ≡ Some entry → place < length running
runs_within running out place entry same at =
    let inside = within out place entry at in
    let long : length running ≡ length out = ap (λ (runs : List Running). length runs) same ∙ long_map out in
    omega (arith, inside, long)

came : (rows : List ActRow) (slip : Slip) (whole : IsWhole rows slip) → comes_to slip ≡ Some (answer_by rows slip.job (paired slip.job.deps (listed slip.given)))
came rows slip whole =
    ap (λ (table : Option (List ActRow)). comes_by table slip.given slip.job) whole.table
    ∙ ap (λ (given : Option (List Content)). comes_by (Some rows) given slip.job) whole.given

told : (rows : List ActRow) (number : ℕ) (ending : Ending) (made : List Content) → IsWhole rows (arc_value ending.slip) → IsAnswer comes_to ending → made ≡ listed ending.made
    → IsTold rows (run_of (number, arc_value ending.slip)) ending.outcome made
told rows number ending made whole own is_made =
    let slip = arc_value ending.slip in
    let answer = answer_by rows slip.job (paired slip.job.deps (listed slip.given)) in
    let not_wanting : ending.outcome ≡ Done → ending.outcome ≢ NoMemory = λ done none. (let x : Done ≡ NoMemory = sym done ∙ none in cc x) in
    record {
      ends = λ done. sym (ap (λ (a : Answer). a.outcome) (own answer (came rows slip whole) (not_wanting done))) ∙ done;
      contents = λ done. is_made ∙ ap (λ (a : Answer). listed a.made) (own answer (came rows slip whole) (not_wanting done));
    }

pub place_within : (rows : List ActRow) (running : List Running) (out out' : List Out) (place : ℕ) (ending : Ending) → InStep rows running out → ReturnsAt place ending out out'
    → place < length running
place_within rows running out out' place ending step back = runs_within running out place (back.number, arc_value ending.slip) step.same back.own

pub told_at : (rows : List ActRow) (running : List Running) (out out' : List Out) (place : ℕ) (ending : Ending) (made : List Content) → InStep rows running out → ReturnsAt place ending out out'
    → IsAnswer comes_to ending → made ≡ listed ending.made → (d : Running) → IsTold rows (slice_index_or running place d) ending.outcome made
told_at rows running out out' place ending made step back own is_made d =
    let entry : Out = (back.number, arc_value ending.slip) in
    let is : slice_index_or running place d ≡ run_of entry = ap (λ (runs : List Running). slice_index_or runs place d) step.same ∙ run_at out place entry d back.own in
    subst (λ (run : Running). IsTold rows run ending.outcome made) (sym is) (told rows back.number ending made (step.whole entry (there out place entry back.own)) own is_made)

-- which job it is
pub run_back : (rows : List ActRow) (running : List Running) (out out' : List Out) (place : ℕ) (ending : Ending) → InStep rows running out → (back : ReturnsAt place ending out out')
    → (d : Running) → slice_index_or running place d ≡ run_of (back.number, arc_value ending.slip)
run_back rows running out out' place ending step back d =
    ap (λ (runs : List Running). slice_index_or runs place d) step.same ∙ run_at out place (back.number, arc_value ending.slip) d back.own

-- it ends as the table says, or for want of memory
pub outcome_back : (rows : List ActRow) (running : List Running) (out out' : List Out) (place : ℕ) (ending : Ending) → InStep rows running out → (back : ReturnsAt place ending out out')
    → IsAnswer comes_to ending → ending.outcome ≢ NoMemory
    → ending.outcome ≡ ends rows (run_of (back.number, arc_value ending.slip)).job (run_of (back.number, arc_value ending.slip)).given
outcome_back rows running out out' place ending step back own had =
    let slip = arc_value ending.slip in
    let entry : Out = (back.number, slip) in
    let whole = step.whole entry (there out place entry back.own) in
    ap (λ (a : Answer). a.outcome) (own (answer_by rows slip.job (paired slip.job.deps (listed slip.given))) (came rows slip whole) had)

pub step_back : (rows : List ActRow) (running running' : List Running) (out out' : List Out) (place : ℕ) (ending : Ending) → InStep rows running out → ReturnsAt place ending out out'
    → running' ≡ remove running place → InStep rows running' out'
step_back rows running running' out out' place ending step back rest = record {
  same = rest ∙ ap (λ (runs : List Running). remove runs place) step.same ∙ sym (map_remove run_of out place) ∙ ap (map run_of) (sym back.rest);
  whole = λ entry here. step.whole entry (still_in out place entry (within out place (back.number, arc_value ending.slip) back.own) (subst (λ (slips : List Out). Contains slips entry) back.rest here));
}
