-- Reading over the sources alone: where a reading gives a graph, its Globs take no file that has a rule, and no script that is read has
-- one, the sources give that graph too, and scripts print the same.
use Rattle.std.proofs.Common.{◌≡◌, ◌∙◌, refl, sym, ap, subst, ℕ, Bool, true, false, List, [], ◌∷◌, Option, Some, None, Result, Ok}
use Rattle.std.specs.Prelude.{unwrap_or, cond, codes}
use Rattle.std.specs.List.{find}
use Rattle.std.specs.Option.{is_some}
use Rattle.env_subst.specs.declared.locals.Locals.{Locals}
use Rattle.py_heap.specs.Heap.{Objects, no_objects}
use Rattle.scons_words.specs.declared.words.Words.{Words}
use Rattle.scons_decls.specs.State.{Declared}
use Rattle.scons_rules.specs.PathGraphs.{PathGraph}
use Rattle.scons_host.specs.declared.stop.Stop.{Stop}
use Rattle.scons_host.specs.Files.{Files}
use Rattle.scons_host.specs.ReadingRules.{reading_rules}
use Rattle.scons_host.specs.Refusals.{of_refusal, told_by}
use Rattle.scons_host.specs.Scripts.{first}
use Rattle.scons_host.specs.SoFar.{SoFar}
use Rattle.scons_host.specs.Starting.{arguments, unread}
use Rattle.scons_reading.specs.Firsts.{is_file, first_names, first_of, further_of}
use Rattle.scons_reading.specs.Reads.{Begun, begun_of, begun_in, begins, over, Runs, ran, ReadsOn, graphed, ReadsFrom, begun, Reads, reads, gives}
use Rattle.scons_reading.specs.Sources.{has_rule, sources, AreSources, AsksSources, EachInRun, read_on, read_from, read_in, EachOn, EachFrom, ReadsSources, GlobsTakeSources}
use Rattle.scons_reading.proofs.Growing.{Grows, stays, joins, turn_grows}
use Rattle.scons_reading.proofs.Moving.{grown, moved}
use Rattle.scons_reading.proofs.Sources.{graph_same, source_kept, source_absent}
use Rattle.scons_reading.proofs.Questions.{turn_same, then_at, then_put, ok_same, first_same, first_source}

module _ (f : Files) (d : Declared) where
  abbrev S : Files
  S = sources f d

  none_there : (content : Option (List ℕ)) → is_some content ≡ false → content ≡ None
  none_there (Some bytes) e = absurd cc
  none_there None e = refl

  away : (path : List ℕ) → is_file f path ≡ false → is_file S path ≡ false
  away path gone = ap is_some (source_absent f d path (none_there (f.tree path) gone))

  abbrev first_in : Files → List (List ℕ) → List ℕ → List ℕ
  first_in files names other = unwrap_or (find (is_file files) names) other

  -- of some names the first that is a file, where that has no rule, or that none is
  by_first : (name : List ℕ) (names : List (List ℕ)) (other : List ℕ) (there : Bool) → is_file f name ≡ there → has_rule f d (first_in f (name ∷ names) other) ≡ false
      → (has_rule f d (first_in f names other) ≡ false → first_in S names other ≡ first_in f names other) → first_in S (name ∷ names) other ≡ first_in f (name ∷ names) other
  by_first name names other true at free rest =
      let here : first_in f (name ∷ names) other ≡ name = ap (λ b. unwrap_or (cond b (Some name) (find (is_file f) names)) other) at in
      let kept : is_file S name ≡ true = ap is_some (source_kept f d name (sym (ap (has_rule f d) here) ∙ free)) ∙ at in
      ap (λ b. unwrap_or (cond b (Some name) (find (is_file S) names)) other) kept ∙ sym here
  by_first name names other false at free rest =
      let on : first_in f (name ∷ names) other ≡ first_in f names other = ap (λ b. unwrap_or (cond b (Some name) (find (is_file f) names)) other) at in
      ap (λ b. unwrap_or (cond b (Some name) (find (is_file S) names)) other) (away name at) ∙ rest (sym (ap (has_rule f d) on) ∙ free) ∙ sym on

  first_found : (names : List (List ℕ)) (other : List ℕ) → has_rule f d (first_in f names other) ≡ false → first_in S names other ≡ first_in f names other
  first_found [] other free = refl
  first_found (name ∷ names) other free = by_first name names other (is_file f name) refl free (first_found names other)

  named_same : (named : List (List ℕ)) → has_rule f d (first_of f named) ≡ false → first_of S named ≡ first_of f named
  named_same [] free = first_found first_names (codes "SConstruct") free
  named_same (path ∷ further) free = refl

  begun_same : (named : List (List ℕ)) (s : SoFar) (h : Objects) (b : Begun) → begun_in f named s h ≡ Ok b → AreSources f d b.state.scripts → begun_in S named s h ≡ Ok b
  begun_same named s h b is safe =
      let waiting : SoFar = record s { first = further_of named } in
      let script = then_at (first f waiting (first_of f named)) (λ m. let made : Result Begun Stop = Ok (begun_of m.0 m.1 h) in made) b is in
      let state : script.0.1 ≡ b.state = ap (λ (x : Begun). x.state) (ok_same script.2) in
      let known = subst (λ (u : SoFar). AreSources f d u.scripts) (sym state) safe in
      let path = named_same named (first_source f d waiting (first_of f named) script.0.0 script.0.1 script.1 known) in
      then_put (first S waiting (first_of S named)) script.0 (λ m. let made : Result Begun Stop = Ok (begun_of m.0 m.1 h) in made) (Ok b)
      (ap (first S waiting) path ∙ first_same f d waiting (first_of f named) script.0.0 script.0.1 script.1 known) script.2

  begins_same : (w : Words) (l : Locals) (b : Begun) → begins f w l ≡ Ok b → AreSources f d b.state.scripts → begins S w l ≡ Ok b
  begins_same w l b is safe =
      let words = then_at (told_by of_refusal (arguments no_objects w.arguments)) (λ a. begun_in f w.scripts (unread f.top l a.0) a.1) b is in
      then_put (told_by of_refusal (arguments no_objects w.arguments)) words.0 (λ a. begun_in S w.scripts (unread f.top l a.0) a.1) (Ok b) words.1 (begun_same w.scripts (unread f.top l words.0.0) words.0.1 b words.2 safe)

  -- The course of the scripts, and what is read behind the beginning.

  abbrev Grown : Begun → SoFar → Type 0
  Grown b s = Grows b.state s

  run_grows : {b : Begun} {s : SoFar} {text : List ℕ} → Runs f b (over s text) → Grown b s
  run_grows (ran run) = grown reading_rules f Grows stays joins (turn_grows f) run

-- scripts that come to their end, where what they take has no rule by what they declare
run_same : {f : Files} {b : Begun} {s : SoFar} {text : List ℕ} (run : Runs f b (over s text)) → AreSources f s.declared s.scripts → EachInRun (AsksSources f s.declared) run → Runs (sources f s.declared) b (over s text)
run_same {f = f} (ran {k = k} run) safe asks =
    let d = k.state.declared in
    ran (moved reading_rules f (sources f d) Grows stays joins (turn_grows f) (λ q h o. AsksSources f d q h.state o) k.state
    (λ q h t b o x takes later. turn_same f d q h.state t b o x takes (λ path c. safe path (later path c))) run asks (stays k.state))

on_same : {f : Files} {b : Begun} {g : PathGraph} {text : List ℕ} (on : ReadsOn f b (gives g text)) → AreSources f (read_on on).declared (read_on on).scripts → EachOn (AsksSources f (read_on on).declared) on
    → ReadsOn (sources f (read_on on).declared) b (gives g text)
on_same {f = f} (graphed {s = s} run graph) safe asks = graphed (run_same run safe asks) (graph_same f s.declared graph)

on_grows : {f : Files} {b : Begun} {g : PathGraph} {text : List ℕ} (on : ReadsOn f b (gives g text)) → Grows b.state (read_on on)
on_grows {f = f} (graphed {s = s} run graph) = run_grows f s.declared run

from_same : {f : Files} {w : Words} {l : Locals} {g : PathGraph} {text : List ℕ} (from : ReadsFrom f w l (gives g text)) → AreSources f (read_from from).declared (read_from from).scripts
    → EachFrom (AsksSources f (read_from from).declared) from → ReadsFrom (sources f (read_from from).declared) w l (gives g text)
from_same {f = f} {w = w} {l = l} (begun {b = b} is on) safe asks =
    begun (begins_same f (read_on on).declared w l b is (λ path c. safe path (on_grows on path c))) (on_same on safe asks)

-- The law on sources: where a reading gives a graph, no script that is read has a rule, and no Glob takes a file that has one (unless it is a
-- target that was declared before), reading over the sources alone gives that graph, and prints the same.
pub sources_suffice : (f : Files) (w : Words) (g : PathGraph) (text : List ℕ) (reading : Reads f w (gives g text)) → ReadsSources f w g text reading → GlobsTakeSources f w g text reading
    → Reads (sources f (read_in reading).declared) w (gives g text)
sources_suffice f w g text (reads l first from) safe asks = reads l first (from_same from safe asks)
