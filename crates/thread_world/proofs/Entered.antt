-- A job that was handed in and started.
use Rattle.std.proofs.Common.{◌≡◌, ◌∙◌, sym, ap, subst, refl, ℕ, List, [], ◌∷◌, ◌++◌, Option, Some, map, inl, inr}
use Rattle.std.specs.Prelude.{Contains}
use Rattle.std.proofs.lemmas.List.{map-append}
use Rattle.std.proofs.lemmas.List.Elements.{Contains-push_cases}
use Rattle.job_runner.specs.declared.slip.Slip.{Slip}
use Rattle.world_api.specs.Act.{Content, Given}
use Rattle.world_api.specs.Around.{Running, Tree, given_of}
use Rattle.world_api.specs.declared.job.Job.{Job}
use Rattle.act_table.specs.Filled.{contents_of, paired}
use Rattle.act_table.specs.declared.table.ActRow.{ActRow}
use Rattle.world_mem.proofs.Membership.{push_all}
use Rattle.thread_world.specs.Handed.{IsSlipFor}
use Rattle.thread_world.specs.Step.{InStep, IsWhole, listed, run_of}

abbrev in_front : Tree → List ℕ → Given → Given
in_front tree dep rest = (dep, tree dep) ∷ rest

paired_own : (tree : Tree) (deps : List (List ℕ)) → paired deps (contents_of (given_of tree deps)) ≡ given_of tree deps
paired_own tree [] = refl
paired_own tree (dep ∷ deps) = ap (in_front tree dep) (paired_own tree deps)

as_run : (rows : List ActRow) (tree : Tree) (job : Job) (number : ℕ) (slip : Slip) → IsSlipFor rows tree job slip → run_of (number, slip) ≡ record { job = job; given = given_of tree job.deps }
as_run rows tree job number slip is =
    ap (λ (j : Job). record { job = j; given = paired j.deps (listed slip.given) }) is.job
    ∙ ap (λ (g : Option (List Content)). record { job = job; given = paired job.deps (listed g) }) is.given
    ∙ ap (λ (g : Given). record { job = job; given = g }) (paired_own tree job.deps)

pub step_entered : (rows : List ActRow) (tree : Tree) (of_job : Job) (number : ℕ) (slip : Slip) (running running' : List Running) (out out' : List (ℕ × Slip)) → IsSlipFor rows tree of_job slip
    → InStep rows running out → running' ≡ running ++ record { job = of_job; given = given_of tree of_job.deps } ∷ [] → out' ≡ out ++ (number, slip) ∷ [] → InStep rows running' out'
step_entered rows tree of_job number slip running running' out out' is step started handed = record {
  same = started
      ∙ ap (λ (runs : List Running). runs ++ record { job = of_job; given = given_of tree of_job.deps } ∷ []) step.same
      ∙ ap (λ (run : Running). map run_of out ++ run ∷ []) (sym (as_run rows tree of_job number slip is))
      ∙ sym (map-append run_of out ((number, slip) ∷ []))
      ∙ ap (map run_of) (sym handed);
  whole = λ entry here.
      push_all (λ e. IsWhole rows e.1) out (number, slip) step.whole (record { table = is.table; given = is.given ∙ ap (λ (g : Option (List Content)). Some (listed g)) (sym is.given) }) entry
      (subst (λ (slips : List (ℕ × Slip)). Contains slips entry) handed here);
}
