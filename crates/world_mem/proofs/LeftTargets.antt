-- What a stop leaves is left at every target of a running job, and of each bank.
use Rattle.std.proofs.Common.{◌≡◌, ◌∙◌, sym, refl, ap, subst, inl, inr, ℕ, suc, zero, List, [], ◌∷◌, ◌++◌, arith, Contains, map}
use Rattle.std.specs.List.{flat_map}
use Rattle.std.proofs.lemmas.List.Elements.{Contains-append_left, Contains-append_right, Contains-append_cases}
use Rattle.mem_banks.specs.Past.{one_of}
use Rattle.std.proofs.lemmas.List.{map-append}
use Rattle.world_api.specs.Act.{Content, Given}
use Rattle.world_api.specs.Around.{IsRunningTarget}
use Rattle.world_api.specs.declared.disk.Bank.{Bank}
use Rattle.world_api.specs.declared.disk.Bank.TheVariants.{A, B}
use Rattle.world_mem.specs.Kept.{running_of}
use Rattle.world_mem.specs.Left.{names, Cover}
use Rattle.world_mem.specs.Planned.{makes}
use Rattle.world_mem.specs.Table.{content_made}
use Rattle.world_mem.specs.declared.running.RunningJob.{RunningJob}
use Rattle.act_table.specs.declared.table.ActRow.{ActRow}
use Rattle.world_mem.proofs.Membership.{names_of_pairs, contains_map}

in_flat : {X : Type 0} (f : X → List (List ℕ)) (xs : List X) (x : X) (path : List ℕ) → Contains xs x → Contains (f x) path → Contains (flat_map f xs) path
in_flat f [] x path h p = absurd (omega (arith, h.1))
in_flat f (y ∷ xs) x path (zero, lt, at) p = Contains-append_left (f y) (flat_map f xs) path (subst (λ z. Contains (f z) path) (sym at) p)
in_flat f (y ∷ xs) x path (suc k, lt, at) p = Contains-append_right (f y) (flat_map f xs) path (in_flat f xs x path (k, omega (arith, lt), at) p)

from_flat : {X : Type 0} (f : X → List (List ℕ)) (xs : List X) (path : List ℕ) → Contains (flat_map f xs) path → (x : X) × Contains xs x × Contains (f x) path
from_flat f [] path h = absurd (omega (arith, h.1))
from_flat f (x ∷ xs) path h = elim (Contains-append_cases (f x) (flat_map f xs) path h) [
  | inl here ↦ (x, (0, omega arith, refl), here)
  | inr later ↦ let found = from_flat f xs path later in (found.0, (suc found.1.0, omega (arith, found.1.1), found.1.2), found.2)
]

names_flat : (running : List RunningJob) → names (flat_map (λ (run : RunningJob). run.made) running) ≡ flat_map (λ (run : RunningJob). names run.made) running
names_flat [] = refl
names_flat (run ∷ rest) =
    map-append (λ (entry : List ℕ × Content). entry.0) run.made (flat_map (λ (run : RunningJob). run.made) rest) ∙ ap (λ (paths : List (List ℕ)). names run.made ++ paths) (names_flat rest)

made_at : (rows : List ActRow) (run : RunningJob) → run.made ≡ makes rows run.job run.given → names run.made ≡ run.job.targets
made_at rows run planned =
    ap names planned
    ∙ names_of_pairs (λ target. content_made rows run.job.work run.job.signed run.job.targets run.given target) run.job.targets

pub covers : (rows : List ActRow) (running : List RunningJob) (given : Given)
    → ((run : RunningJob) → Contains running run → run.made ≡ makes rows run.job run.given)
    → names given ≡ names (flat_map (λ (run : RunningJob). run.made) running) → Cover running given
covers rows running given planned are run path here own =
    let made : names run.made ≡ run.job.targets = made_at rows run (planned run here) in
    let in_made : Contains (names run.made) path = subst (λ (ns : List (List ℕ)). Contains ns path) (sym made) own in
    subst (λ (ns : List (List ℕ)). Contains ns path) (sym (are ∙ names_flat running)) (in_flat (λ (run : RunningJob). names run.made) running run path here in_made)

-- and at nothing else
pub only_targets : (rows : List ActRow) (running : List RunningJob) (given : Given)
    → ((run : RunningJob) → Contains running run → run.made ≡ makes rows run.job run.given)
    → names given ≡ names (flat_map (λ (run : RunningJob). run.made) running)
    → (path : List ℕ) → Contains (names given) path → IsRunningTarget (map running_of running) path
only_targets rows running given planned are path h =
    let found = from_flat (λ (run : RunningJob). names run.made) running path (subst (λ (ns : List (List ℕ)). Contains ns path) (are ∙ names_flat running) h) in
    let own : Contains found.0.job.targets path = subst (λ (ns : List (List ℕ)). Contains ns path) (made_at rows found.0 (planned found.0 found.1)) found.2 in
    (running_of found.0, contains_map running_of running found.0 found.1, own)

-- what holds of either bank
pub of_either : (P : Bank → List ℕ → Type 0) (a b : List ℕ) → P A a → P B b → (bank : Bank) → P bank (one_of bank a b)
of_either P a b of_a of_b A = of_a
of_either P a b of_a of_b B = of_b
