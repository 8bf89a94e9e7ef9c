-- A reading over the sources alone: the files that no rule makes. Where a reading gives a graph and takes sources alone, reading over the
-- sources gives that graph too.
use Rattle.std.specs.Prelude.{◌≡◌, ◌||◌, not, ℕ, Bool, true, false, List, None, is_some, Result, Ok, Err, IfOk, Contains, cond, filter}
use Rattle.std.specs.List.{flat_map}
use Rattle.py_heap.specs.Heap.{Objects}
use Rattle.py_host.specs.Calls.{Question}
use Rattle.py_host.specs.Calls as question
use Rattle.py_host.specs.Meaning.{Meaning}
use Rattle.py_meaning.specs.States.{Out, Fault}
use Rattle.py_meaning.specs.Plans.{Plan}
use Rattle.py_meaning.specs.Evaluates.{Follows, done, stopped, then, then_stopped, too_deep, called, called_stopped, named, printed, print_refused, asked, refused}
use Rattle.env_subst.specs.declared.locals.Locals.{Locals}
use Rattle.scons_words.specs.declared.words.Words.{Words}
use Rattle.scons_calls.specs.declared.request.Request.{Request}
use Rattle.scons_calls.specs.declared.request.Request.TheVariants as request
use Rattle.scons_decls.specs.Globs.{search_of, source_of, dirs_with}
use Rattle.scons_decls.specs.Globs as globs
use Rattle.scons_decls.specs.Scripts.{is_copied}
use Rattle.scons_decls.specs.State.{Declared}
use Rattle.scons_decls.specs.Targets.{is_made}
use Rattle.scons_rules.specs.Libraries.{copied_from, is_source_of}
use Rattle.scons_rules.specs.PathGraphs.{PathGraph}
use Rattle.scons_host.specs.declared.stop.Refusal.{Refusal}
use Rattle.scons_host.specs.Called.{asks}
use Rattle.scons_host.specs.Files.{Files}
use Rattle.scons_host.specs.SoFar.{SoFar}
use Rattle.scons_reading.specs.Graphs.{standing_in}
use Rattle.scons_reading.specs.Reads.{Begun, Course, Runs, ran, failed, ReadsOn, graphed, ReadsFrom, begun, Reads, reads, gives}

-- a path has a rule where it is a declared target, or where a copy would be made of a declared target or a file that is no copy itself
abbrev pub has_rule : Files → Declared → List ℕ → Bool
has_rule f d path = is_made d.made path || is_source_of (standing_in f) d (copied_from d path)

-- the sources: the files that have no rule
abbrev pub sources : Files → Declared → Files
sources f d = record {
  tree = λ path. cond (has_rule f d path) None (f.tree path);
  listed = λ dir. filter (λ path. not (has_rule f d path)) (f.listed dir);
  top = f.top;
  form = f.form;
}

-- none of these paths has a rule
abbrev pub AreSources : Files → Declared → List (List ℕ) → Type 0
AreSources f d paths = (path : List ℕ) → Contains paths path → has_rule f d path ≡ false

-- Of the files of some directories none is taken that has a rule, unless it is a target that was declared before. Without this the law fails:
-- after `Command('x.c', ..)` behind `Object(Glob('*.c'))`, and a build, a reading over all files has an object of `x.c` which one over the
-- sources hasn't.
abbrev pub TakesSources : Files → Declared → Declared → List (List ℕ) → (List ℕ → Bool) → Type 0
TakesSources f d before dirs takes =
    (path : List ℕ) → Contains (flat_map f.listed dirs) path → takes path ≡ true → has_rule f d path ≡ true → is_made before.made path ≡ true

-- what a Glob takes: it looks in its directory and the source of that
abbrev pub GlobsSources : Files → Declared → SoFar → Result (ℕ × Request) Refusal → Type 0
GlobsSources f d s (Ok (env, request.Glob pattern)) = IfOk (search_of s.declared env pattern) (λ search.
    let source = source_of s.declared search.dir in
    TakesSources f d s.declared (dirs_with search.dir source (is_copied s.declared search.dir)) (λ path. is_some (globs.found search source path)))
GlobsSources f d s (Ok (env, request.Scripts files)) = Unit {0}
GlobsSources f d s (Ok (env, request.Shares names)) = Unit {0}
GlobsSources f d s (Ok (env, request.Gives value)) = Unit {0}
GlobsSources f d s (Err refusal) = Unit {0}

-- the same of a question, as it is asked after so much was read
abbrev pub AsksSources : Files → Declared → Question → SoFar → Objects → Type 0
AsksSources f d (question.called place locals globals object args) s h = GlobsSources f d s (asks s h object args)
AsksSources f d (question.attribute place object name) s h = Unit {0}
AsksSources f d (question.item place object key) s h = Unit {0}
AsksSources f d (question.set_item place object key x) s h = Unit {0}
AsksSources f d (question.script_done names) s h = Unit {0}
AsksSources f d question.next_script s h = Unit {0}

-- what is so of each question that is asked in a run, of what the host has read as it is asked, and of the heap
abbrev pub EachAsked : {H : Type 0} {m : Meaning H} {c : ℕ} {p : Plan} {h k : H} {result : Result Out Fault}
    → (Question → H → Objects → Type 0) → Follows m c p h result k → Type 0
EachAsked P done = Unit {0}
EachAsked P (stopped own) = Unit {0}
EachAsked P (then o h1 a b) = EachAsked P a × EachAsked P b
EachAsked P (then_stopped e a) = EachAsked P a
EachAsked P too_deep = Unit {0}
EachAsked P (called o h1 a b) = EachAsked P a × EachAsked P b
EachAsked P (called_stopped e a) = EachAsked P a
EachAsked P (named v h1 a b) = EachAsked P b
EachAsked P (printed h1 a b) = EachAsked P b
EachAsked P (print_refused a) = Unit {0}
EachAsked {h = h} P (asked {q = q} {s = s} x h1 objects a b) = P q h s.objects × EachAsked P b
EachAsked {h = h} P (refused {q = q} {s = s} objects a) = P q h s.objects

abbrev pub EachInRun : {f : Files} {b : Begun} {c : Course} → (Question → SoFar → Objects → Type 0) → Runs f b c → Type 0
EachInRun P (ran run) = EachAsked (λ q h o. P q h.state o) run
EachInRun P (failed run is) = EachAsked (λ q h o. P q h.state o) run

-- a reading that gives a graph: what it has read at its end
abbrev pub read_on : {f : Files} {b : Begun} {g : PathGraph} {text : List ℕ} → ReadsOn f b (gives g text) → SoFar
read_on (graphed {s = s} run graph) = s

abbrev pub read_from : {f : Files} {w : Words} {l : Locals} {g : PathGraph} {text : List ℕ} → ReadsFrom f w l (gives g text) → SoFar
read_from (begun is on) = read_on on

abbrev pub read_in : {f : Files} {w : Words} {g : PathGraph} {text : List ℕ} → Reads f w (gives g text) → SoFar
read_in (reads l first from) = read_from from

-- and what is so of each question in it
abbrev pub EachOn : {f : Files} {b : Begun} {g : PathGraph} {text : List ℕ} → (Question → SoFar → Objects → Type 0) → ReadsOn f b (gives g text) → Type 0
EachOn P (graphed run graph) = EachInRun P run

abbrev pub EachFrom : {f : Files} {w : Words} {l : Locals} {g : PathGraph} {text : List ℕ}
    → (Question → SoFar → Objects → Type 0) → ReadsFrom f w l (gives g text) → Type 0
EachFrom P (begun is on) = EachOn P on

abbrev pub EachIn : {f : Files} {w : Words} {g : PathGraph} {text : List ℕ} → (Question → SoFar → Objects → Type 0) → Reads f w (gives g text) → Type 0
EachIn P (reads l first from) = EachFrom P from

-- no script that is read has a rule
abbrev pub ReadsSources : (f : Files) (w : Words) (g : PathGraph) (text : List ℕ) → Reads f w (gives g text) → Type 0
ReadsSources f w g text reading = AreSources f (read_in reading).declared (read_in reading).scripts

-- no Glob takes a file that a rule makes, unless that rule was declared before
abbrev pub GlobsTakeSources : (f : Files) (w : Words) (g : PathGraph) (text : List ℕ) → Reads f w (gives g text) → Type 0
GlobsTakeSources f w g text reading = EachIn (AsksSources f (read_in reading).declared) reading
