-- Scripts that read scripts: scons(1) under SConscript, and the first scripts, which the words of the command line name.
use Rattle.std.specs.Prelude.{ℕ, ◌-◌, ◌==◌, Bool, true, false, not, ◌&&◌, List, [], ◌∷◌, ◌++◌, Option, Some, None, Result, Ok, Err, codes, length, drop, take, is_some, slice_get, unwrap_or, if◌then◌else◌}
use Rattle.std.specs.List.{find}
use Rattle.std.specs.Str.{bytes_eq}
use Rattle.scons_base.specs.declared.limits.TheConstants.{SCRIPT_LIMIT}
use Rattle.scons_base.specs.Parts.{dir_of}
use Rattle.py_tree.specs.Tree.{Tree}
use Rattle.py_heap.specs.declared.value.Value.{Value}
use Rattle.py_heap.specs.declared.value.Value.TheVariants as v
use Rattle.py_heap.specs.Given.{given_tuple}
use Rattle.py_heap.specs.Heap.{Objects}
use Rattle.py_host.specs.Calls.{Given, a_value, a_script}
use Rattle.py_host.specs.declared.place.Place.{Place}
use Rattle.py_host.specs.Names.{Names}
use Rattle.scons_decls.specs.declared.given.Given.{Given as Node}
use Rattle.scons_decls.specs.declared.scripts.ScriptPlace.{ScriptPlace}
use Rattle.scons_decls.specs.Scripts.{found_script, begun, ended}
use Rattle.scons_calls.specs.declared.request.ScriptFiles.{ScriptFiles}
use Rattle.scons_calls.specs.Results.{and_then}
use Rattle.world_api.specs.declared.refusal.ReadRefusal.{ReadRefusal}
use Rattle.world_api.specs.declared.refusal.ReadRefusal.TheVariants as refusal
use Rattle.scons_host.specs.declared.end.ReadKind.TheVariants as read
use Rattle.scons_host.specs.declared.sources.Source.{Source}
use Rattle.scons_host.specs.declared.stop.Refusal.{Refusal}
use Rattle.scons_host.specs.declared.stop.Stop.{Stop}
use Rattle.scons_host.specs.declared.stop.Stop.TheVariants as stop
use Rattle.scons_host.specs.Files.{Files}
use Rattle.scons_host.specs.Forms.{Form}
use Rattle.scons_host.specs.Refusals.{of_name, of_value, of_refusal, bad_argument, told_by}
use Rattle.scons_host.specs.Sharing.{innermost, with_exports, one_or_tuple}
use Rattle.scons_host.specs.Shown.{read_within}
use Rattle.scons_host.specs.SoFar.{SoFar, Waiting, with_declared}

-- what a question comes to that looks at files: an answer, what was read and the heap after it, or why it isn't answered
abbrev pub Look : Type 0 → Type 0
Look X = Result (X × SoFar × Objects) Stop

-- Sources.

abbrev pub stop_at : List ℕ → ReadRefusal → Stop
stop_at path refusal.Fault = stop.Tree path
stop_at path (refusal.TooLarge size) = stop.TooLarge path size
stop_at path refusal.Memory = stop.Memory

-- what a script holds, if it stands; one with more bytes than a script may have ends the reading
abbrev pub bytes_at : Files → List ℕ → Result (Option (List ℕ)) Stop
bytes_at f path = told_by (stop_at path) (read_within SCRIPT_LIMIT (f.tree path))

abbrev pub or_further : List ℕ → Result (Option Source) Stop → Option (List ℕ) → Result (Option Source) Stop
or_further path further (Some bytes) = Ok (Some (record { path = path; bytes = bytes }))
or_further path further None = further

-- the first of some files that stands
abbrev pub standing : Files → List (List ℕ) → Result (Option Source) Stop
standing f [] = Ok None
standing f (path ∷ paths) = and_then (bytes_at f path) (or_further path (standing f paths))

-- the tree of a script; a fault of its form is told of the script itself
abbrev pub tree_by : List ℕ → Form → Result Tree Stop
tree_by path (Ok tree) = Ok tree
tree_by path (Err fault) = Err (stop.There path fault.0 fault.1)

-- Scripts that begin.

-- a script begins, whose texts are read from a directory
abbrev pub begin : SoFar → List ℕ → List ℕ → Result SoFar Refusal
begin s path dir =
    and_then (told_by of_name (begun s.declared dir)) (λ d. Ok (record s { declared = d; scripts = s.scripts ++ path ∷ [] }))

abbrev pub noted : SoFar → List ℕ → List ℕ → Tree → Result (Tree × SoFar) Stop
noted s path dir tree = and_then (told_by of_refusal (begin s path dir)) (λ t. Ok (tree, t))

abbrev pub begins : Files → SoFar → Source → List ℕ → Result (Tree × SoFar) Stop
begins f s source dir = and_then (tree_by source.path (f.form source.bytes)) (noted s source.path dir)

-- where a script of a call stands
abbrev pub found : SoFar → Waiting → Node → Result (ScriptPlace × SoFar) Refusal
found s call file =
    and_then (told_by of_name (found_script s.declared call.env file call.variant call.duplicate)) (λ at. Ok (at.0, with_declared s at.1))

-- the first of some paths that lies in another directory
abbrev pub elsewhere : List ℕ → List (List ℕ) → Option (List ℕ)
elsewhere dir paths = find (λ path. not (bytes_eq (dir_of path) dir)) paths

-- where a script is missed: at its source, which lies in another directory, where it has one
abbrev pub missed : ScriptPlace → List ℕ
missed place = unwrap_or (elsewhere place.dir place.candidates) (unwrap_or (slice_get place.candidates 0) place.dir)

abbrev pub begins_at : Files → SoFar → ScriptPlace → Option Source → Result (Tree × SoFar) Stop
begins_at f s place (Some source) = begins f s source place.dir
begins_at f s place None = Err (stop.Here (read.NoScript (missed place)))

abbrev pub begins_found : Files → ScriptPlace × SoFar → Result (Tree × SoFar) Stop
begins_found f at = and_then (standing f at.0.candidates) (begins_at f at.1 at.0)

-- a script of a call begins
abbrev pub next_begins : Files → SoFar → Waiting → Node → Result (Tree × SoFar) Stop
next_begins f s call file = and_then (told_by of_refusal (found s call file)) (begins_found f)

-- Calls of SConscript.

-- `SConscript(files, exports, variant_dir, duplicate)`, before its first script begins; one script alone has a variant directory
abbrev pub opened : Place → Names → Names → ℕ → ScriptFiles → Result Waiting Refusal
opened place locals globals env asked =
    if is_some asked.variant && not (length asked.files == 1) then Err (bad_argument (codes "SConscript"))
    else and_then (with_exports locals globals [] asked.exports) (λ names. Ok (record {
      place = place;
      env = env;
      files = asked.files;
      several = not (length asked.files == 1);
      exports = names;
      variant = asked.variant;
      duplicate = asked.duplicate;
      answers = [];
      returned = v.Nil;
    }))

-- the next script of a call, and the call without it
abbrev pub next_file : Waiting → Option Node × Waiting
next_file call = (slice_get call.files 0, record call { files = drop 1 call.files })

abbrev answer_by : Bool → Objects → List Value → Result (Value × Objects) Refusal
answer_by true h answers = told_by of_value (given_tuple h answers)
answer_by false h answers = one_or_tuple h answers

-- what a call answers whose scripts have all ended: what they returned, as a tuple where it asked for more than one
abbrev pub answer_of : Objects → Waiting → Result (Value × Objects) Refusal
answer_of h call = answer_by call.several h call.answers

abbrev pub waits : SoFar → Waiting → SoFar
waits s call = record s { waiting = s.waiting ++ call ∷ [] }

abbrev pub runs : Objects → Waiting → Tree × SoFar → Look Given
runs h call m = Ok (a_script m.0, waits m.1 call, h)

abbrev pub answers : SoFar → Value × Objects → Look Given
answers s m = Ok (a_value m.0, s, m.1)

abbrev pub goes_on : Files → SoFar → Objects → Option Node × Waiting → Look Given
goes_on f s h (Some file, call) = and_then (next_begins f s call file) (runs h call)
goes_on f s h (None, call) = and_then (told_by of_refusal (answer_of h call)) (answers s)

-- the next script of a call begins, for which the call waits; behind its last one the call is answered
abbrev pub go_on : Files → SoFar → Objects → Waiting → Look Given
go_on f s h call = goes_on f s h (next_file call)

abbrev pub sconscript : Files → SoFar → Objects → Place → Names → Names → ℕ → ScriptFiles → Look Given
sconscript f s h place locals globals env asked =
    and_then (told_by of_refusal (opened place locals globals env asked)) (go_on f s h)

-- Scripts that end.

-- the script that runs has ended: the one around it goes on in its own directory
abbrev pub left : SoFar → SoFar
left s = with_declared s (ended s.declared)

-- the innermost call, and what was read so far without it
abbrev pub call_taken : SoFar → Option Waiting × SoFar
call_taken s = (innermost s, record s { waiting = take (length s.waiting - 1) s.waiting })

-- what the script that has ended returned is kept
abbrev pub with_answer : Waiting → Waiting
with_answer call = record call { answers = call.answers ++ call.returned ∷ []; returned = v.Nil }

abbrev pub ended_in : Files → Objects → Option Waiting × SoFar → Look Given
ended_in f h (Some call, s) = go_on f s h (with_answer call)
ended_in f h (None, s) = Ok (a_value v.Nil, s, h)

-- a script of a call has ended, and the call goes on
abbrev pub script_done : Files → SoFar → Objects → Look Given
script_done f s h = ended_in f h (call_taken (left s))

-- First scripts.

abbrev pub first_by : Files → SoFar → List ℕ → Option (List ℕ) → Result (Tree × SoFar) Stop
first_by f s path (Some bytes) = begins f s (record { path = path; bytes = bytes }) (codes ".")
first_by f s path None = Err (stop.There path 0 (read.NoScript path))

-- a first script begins; its texts are read from the top directory, wherever it lies
abbrev pub first : Files → SoFar → List ℕ → Result (Tree × SoFar) Stop
first f s path = and_then (bytes_at f path) (first_by f s path)

-- the next first script, and what was read so far without it
abbrev pub next_path : SoFar → Option (List ℕ) × SoFar
next_path s = (slice_get s.first 0, record s { first = drop 1 s.first })

abbrev pub some_tree : Tree × SoFar → Result (Option Tree × SoFar) Stop
some_tree m = Ok (Some m.0, m.1)

abbrev pub next_by : Files → Option (List ℕ) × SoFar → Result (Option Tree × SoFar) Stop
next_by f (Some path, s) = and_then (first f (left s) path) some_tree
next_by f (None, s) = Ok (None, s)

-- a first script has ended, and the next one begins, if there is a further one
abbrev pub next_first : Files → SoFar → Result (Option Tree × SoFar) Stop
next_first f s = next_by f (next_path s)
