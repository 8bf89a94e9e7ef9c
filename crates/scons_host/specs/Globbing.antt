-- `Glob(pattern)` as a list of nodes: the files and the targets declared so far that a pattern means, in byte order.
use Rattle.std.specs.Prelude.{ℕ, List, Result, Ok, map}
use Rattle.std.specs.Cmp.Lexicographic.{slice_cmp}
use Rattle.std.specs.FinMap.{keys, from_entries}
use Rattle.std.specs.List.{flat_map}
use Rattle.std.specs.Ordering.{nat_cmp}
use Rattle.py_heap.specs.declared.value.Value.{Value}
use Rattle.py_heap.specs.Heap.{Objects}
use Rattle.scons_decls.specs.declared.fault.NameFault.{NameFault}
use Rattle.scons_decls.specs.declared.given.Given.{Given}
use Rattle.scons_decls.specs.declared.given.Given.TheVariants.{File}
use Rattle.scons_decls.specs.Globs.{search_of, source_of, glob_dirs, meant_by}
use Rattle.scons_decls.specs.State.{Declared}
use Rattle.scons_calls.specs.Results.{and_then}
use Rattle.scons_calls.specs.Values.{nodes_value}
use Rattle.scons_host.specs.declared.stop.Refusal.{Refusal}
use Rattle.scons_host.specs.Asked.{Step, put_in}
use Rattle.scons_host.specs.Files.{Files}
use Rattle.scons_host.specs.Refusals.{of_name, told_by}
use Rattle.scons_host.specs.SoFar.{SoFar}

abbrev pub alone : List ℕ → List ℕ × Unit {0}
alone path = (path, tt)

-- paths in byte order, each once
abbrev pub in_order : List (List ℕ) → List (List ℕ)
in_order paths = keys (from_entries {R = slice_cmp nat_cmp} (map alone paths))

-- the nodes that a pattern means among these files and the targets declared so far
abbrev pub nodes_among : Declared → ℕ → List ℕ → List (List ℕ) → Result (List Given) NameFault
nodes_among d env pattern files =
    and_then (search_of d env pattern) (λ search. Ok (map File (in_order (meant_by d search (source_of d search.dir) files))))

-- the list of them, as a value
abbrev pub matched : SoFar → Objects → ℕ → List ℕ → List (List ℕ) → Step Value
matched s h env pattern files =
    and_then (told_by of_name (nodes_among s.declared env pattern files)) (λ nodes. put_in s (nodes_value s.objects h nodes))

-- the directories whose files count
abbrev pub dirs_of : SoFar → ℕ → List ℕ → Result (List (List ℕ)) Refusal
dirs_of s env pattern = told_by of_name (glob_dirs s.declared env pattern)

-- `Glob(pattern)`
abbrev pub glob : Files → SoFar → Objects → ℕ → List ℕ → Step Value
glob f s h env pattern = and_then (dirs_of s env pattern) (λ dirs. matched s h env pattern (flat_map f.listed dirs))
