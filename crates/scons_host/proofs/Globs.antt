-- What Glob comes to, step by step.
use Rattle.std.proofs.Common.{◌≡◌, ◌≢◌, ◌∙◌, ℕ, List, Result, Ok, Err, ap, sym}
use Rattle.std.specs.Prelude.{IfErr, IsErrAnd}
use Rattle.std.specs.List.{flat_map}
use Rattle.py_heap.specs.declared.value.Value.{Value}
use Rattle.py_heap.specs.Heap.{Objects}
use Rattle.scons_decls.specs.declared.fault.NameFault.{NameFault}
use Rattle.scons_decls.specs.declared.given.Given.{Given}
use Rattle.scons_calls.specs.Results.{and_then}
use Rattle.scons_calls.specs.Values.{nodes_value}
use Rattle.scons_host.specs.declared.stop.Refusal.{Refusal}
use Rattle.scons_host.specs.declared.stop.Refusal.TheVariants as refusal
use Rattle.scons_host.specs.declared.stop.Stop.{Stop}
use Rattle.scons_host.specs.Asked.{Step, put_in}
use Rattle.scons_host.specs.Files.{Files}
use Rattle.scons_host.specs.Globbing.{matched, dirs_of, glob}
use Rattle.scons_host.specs.Refusals.{of_name, of_refusal, told_by}
use Rattle.scons_host.specs.Shown.{SamePaths, IsTold}
use Rattle.scons_host.specs.SoFar.{SoFar}
use Rattle.scons_host.proofs.Ordered.{among_same}
use Rattle.scons_host.proofs.Refusing.{told_exit}

module _ (f : Files) (s : SoFar) (h : Objects) (env : ℕ) (pattern : List ℕ) where
  abbrev behind : Result (List (List ℕ)) Refusal → Step Value
  behind dirs = and_then dirs (λ ds. matched s h env pattern (flat_map f.listed ds))

  pub matched_same : (files others : List (List ℕ)) → SamePaths files others → matched s h env pattern others ≡ matched s h env pattern files
  matched_same files others same =
      ap (λ (nodes : Result (List Given) NameFault). and_then (told_by of_name nodes) (λ ns. put_in s (nodes_value s.objects h ns))) (sym (among_same s.declared env pattern files others same))

  -- the files of the directories that are looked in
  pub glob_gives : (dirs files : List (List ℕ)) (r : Step Value) → dirs_of s env pattern ≡ Ok dirs → SamePaths files (flat_map f.listed dirs) → matched s h env pattern files ≡ r → glob f s h env pattern ≡ r
  glob_gives dirs files r looked same made = ap behind looked ∙ matched_same files (flat_map f.listed dirs) same ∙ made

  -- the faults of its steps are its own
  pub glob_stops : {T : Type 0} (r : Refusal) (made : Result T Stop) → IsErrAnd made (λ e. e ≡ of_refusal r) → (r ≢ refusal.Memory → dirs_of s env pattern ≡ Err r) → IfErr made (λ e. IsTold e → told_by of_refusal (glob f s h env pattern) ≡ Err e)
  glob_stops r made is gives = told_exit (glob f s h env pattern) r made is (λ m. ap behind (gives m))

  pub glob_stops_behind : {T : Type 0} (dirs files : List (List ℕ)) (r : Refusal) (made : Result T Stop) → dirs_of s env pattern ≡ Ok dirs → SamePaths files (flat_map f.listed dirs) → IsErrAnd made (λ e. e ≡ of_refusal r)
      → (r ≢ refusal.Memory → matched s h env pattern files ≡ Err r) → IfErr made (λ e. IsTold e → told_by of_refusal (glob f s h env pattern) ≡ Err e)
  glob_stops_behind dirs files r made looked same is gives =
      told_exit (glob f s h env pattern) r made is (λ m. glob_gives dirs files (let failed : Step Value = Err r in failed) looked same (gives m))
