-- The line that each reason is told by. The wording is this project's own and follows SCons.
use Rattle.std.specs.Prelude.{ℕ, List, [], ◌∷◌, ◌++◌, codes, slice_get, Option, Some, None}
use Rattle.std.specs.Option.{option_map_or}
use Rattle.deciders.specs.declared.recorded.Dep.{Dep}
use Rattle.deciders.specs.declared.recorded.Rec.{Rec}
use Rattle.explain_report.specs.declared.reason.Reason.{Reason}
use Rattle.explain_report.specs.declared.reason.Reason.TheVariants.{Always, Absent, NoRecord, Action, Newly, Gone, Moved, Changed}

-- a target by its place; a place that there isn't has no text
abbrev pub target_at : Rec → ℕ → List ℕ
target_at rec place = option_map_or (λ path. path) (slice_get rec.targets place) []

abbrev pub dep_at : Rec → ℕ → List ℕ
dep_at rec place = option_map_or (λ (dep : Dep). dep.name) (slice_get rec.deps place) []

abbrev pub old_dep_at : Option Rec → ℕ → List ℕ
old_dep_at None place = []
old_dep_at (Some old) place = dep_at old place

abbrev pub rebuilding : List ℕ → List ℕ → List ℕ
rebuilding target why = codes "scons: rebuilding `" ++ target ++ codes "' because " ++ why ++ 10 ∷ []

-- a dependency is the reason
abbrev pub about : List ℕ → List ℕ → List ℕ → List ℕ
about target dep what = codes "scons: rebuilding `" ++ target ++ codes "' because `" ++ dep ++ codes "' " ++ what ++ 10 ∷ []

abbrev pub reason_text : Reason → Rec → Option Rec → List ℕ
reason_text (Always x) now old = rebuilding (target_at now x) (codes "AlwaysBuild() is specified")
reason_text (Absent x) now old = codes "scons: building `" ++ target_at now x ++ codes "' because it doesn't exist\n"
reason_text (NoRecord x) now old = rebuilding (target_at now x) (codes "it has no record")
reason_text (Action x) now old = rebuilding (target_at now x) (codes "the build action changed")
reason_text (Newly x d) now old = about (target_at now x) (dep_at now d) (codes "is a new dependency")
reason_text (Gone x d) now old = about (target_at now x) (old_dep_at old d) (codes "is no longer a dependency")
reason_text (Moved x) now old = rebuilding (target_at now x) (codes "the dependency order changed")
reason_text (Changed x d) now old = about (target_at now x) (dep_at now d) (codes "changed")
