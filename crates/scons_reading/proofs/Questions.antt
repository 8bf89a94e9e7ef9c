-- A question that takes sources alone, and begins scripts that have no rule, is answered over the sources as over all files.
use Rattle.std.proofs.Common.{◌≡◌, ◌∙◌, ◌++◌, ◌∷◌, [], arith, not, cond, refl, sym, ap, subst, ℕ, Bool, true, false, List, Option, Some, None, Result, Ok, Err, IfOk, Contains, map}
use Rattle.std.specs.Prelude.{IsSome, is_some, filter, nat_lt, length}
use Rattle.std.specs.List.{filter_map, flat_map}
use Rattle.std.proofs.lemmas.List.Elements.{filter-append, Contains-append_right}
use Rattle.py_heap.specs.Heap.{Objects}
use Rattle.py_host.specs.declared.place.Place.{Place}
use Rattle.py_host.specs.Calls.{Question, Answer, Given, a_script}
use Rattle.py_host.specs.Calls as question
use Rattle.py_host.specs.Names.{Names}
use Rattle.py_tree.specs.Tree.{Tree}
use Rattle.scons_base.specs.declared.limits.TheConstants.{SCRIPT_LIMIT}
use Rattle.scons_base.specs.Parts.{name_of}
use Rattle.world_api.specs.declared.refusal.ReadRefusal.TheVariants as refusal
use Rattle.scons_calls.specs.declared.request.Request.{Request}
use Rattle.scons_calls.specs.declared.request.Request.TheVariants as request
use Rattle.scons_calls.specs.declared.request.ScriptFiles.{ScriptFiles}
use Rattle.scons_calls.specs.Results.{and_then}
use Rattle.scons_calls.specs.Values.{nodes_value}
use Rattle.scons_decls.specs.declared.given.Given.{Given as Node}
use Rattle.scons_decls.specs.declared.given.Given.TheVariants.{File}
use Rattle.scons_decls.specs.declared.fault.NameFault.{NameFault}
use Rattle.scons_decls.specs.declared.scripts.ScriptPlace.{ScriptPlace}
use Rattle.scons_decls.specs.Globs as globs
use Rattle.scons_decls.specs.Patterns.{fits}
use Rattle.scons_decls.specs.Scripts as scripts
use Rattle.scons_decls.specs.State.{Declared}
use Rattle.scons_decls.specs.Steps as steps
use Rattle.scons_decls.specs.Targets.{targets_in}
use Rattle.scons_host.specs.declared.stop.Refusal.{Refusal}
use Rattle.scons_host.specs.declared.stop.Stop.{Stop}
use Rattle.scons_host.specs.declared.end.HostEnd.{HostEnd}
use Rattle.scons_host.specs.Asked.{put_in}
use Rattle.scons_host.specs.Called.{asks}
use Rattle.scons_host.specs.Calling.{as_value, answered, call}
use Rattle.scons_host.specs.Files.{Files}
use Rattle.scons_host.specs.Globbing.{in_order, glob}
use Rattle.scons_host.specs.ReadingRules.{told, turn, place_in, nowhere}
use Rattle.scons_host.specs.Refusals.{of_name, of_refusal, told_by}
use Rattle.scons_host.specs.Shown.{read_within}
use Rattle.scons_host.specs.Scripts.{stop_at, bytes_at, or_further, standing, tree_by, begin, noted, begins, found, begins_at, begins_found, next_begins, runs, goes_on, go_on, next_file, opened, sconscript, waits, ended_in, script_done, call_taken, left, with_answer, first_by, first, next_by, next_path, next_first, some_tree}
use Rattle.scons_host.specs.Sharing.{innermost}
use Rattle.scons_host.specs.SoFar.{SoFar, Waiting}
use Rattle.scons_host.specs.Turns.{Turn, answers_with}
use Rattle.scons_host.proofs.Ordered.{order_same}
use Rattle.scons_reading.specs.Sources.{has_rule, sources, AreSources, TakesSources, GlobsSources, AsksSources}
use Rattle.scons_reading.proofs.Growing.{answered_at}
use Rattle.scons_reading.proofs.Sources.{source_kept, source_absent}
use Rattle.scons_reading.proofs.Taking.{named_if, taken_same}

-- steps one behind another that come to something
pub then_at : {X Y E : Type 0} (r : Result X E) (k : X → Result Y E) (z : Y) → and_then r k ≡ Ok z → (x : X) × (r ≡ Ok x) × (k x ≡ Ok z)
then_at (Ok x) k z is = (x, refl, is)
then_at (Err e) k z is = absurd cc

pub then_put : {X Y E : Type 0} (r : Result X E) (x : X) (k : X → Result Y E) (z : Result Y E) → r ≡ Ok x → k x ≡ z → and_then r k ≡ z
then_put r x k z is on = ap (λ made. and_then made k) is ∙ on

told_at : {X D E : Type 0} (f : D → E) (r : Result X D) (x : X) → told_by f r ≡ Ok x → r ≡ Ok x
told_at f (Ok y) x is = let same : y ≡ x = cc in ap (λ z. Ok z) same
told_at f (Err e) x is = absurd cc

pub ok_same : {X E : Type 0} {x y : X} → (let made : Result X E = Ok x in made ≡ Ok y) → x ≡ y
ok_same e = cc

-- lists of files without some of them
filter_flat : {X A : Type 0} (p : A → Bool) (g : X → List A) (xs : List X) → flat_map (λ x. filter p (g x)) xs ≡ filter p (flat_map g xs)
filter_flat p g [] = refl
filter_flat p g (x ∷ xs) = ap (λ ys. filter p (g x) ++ ys) (filter_flat p g xs) ∙ sym (filter-append p (g x) (flat_map g xs))

not_false : (b : Bool) → not b ≡ false → b ≡ true
not_false true e = refl
not_false false e = absurd cc

module _ (f : Files) (d : Declared) where
  abbrev S : Files
  S = sources f d

  abbrev has_none : List ℕ → Bool
  has_none path = not (has_rule f d path)

  -- Globs.

  -- the paths that are meant, among files of some directories
  order_of : (now : Declared) (dir : List ℕ) (source : Option (List ℕ)) (take : List ℕ → Option (List ℕ)) (dirs : List (List ℕ)) → ((path : List ℕ) → IsSome (take path) → IsSome (globs.named_in dir source path))
      → TakesSources f d now dirs (λ path. is_some (take path))
      → in_order (filter_map take (targets_in now.made dir ++ (globs.targets_beside now source ++ flat_map S.listed dirs))) ≡ in_order (filter_map take (targets_in now.made dir ++ (globs.targets_beside now source ++ flat_map f.listed dirs)))
  order_of now dir source take dirs names safe =
      ap (λ (files : List (List ℕ)). in_order (filter_map take (targets_in now.made dir ++ (globs.targets_beside now source ++ files)))) (filter_flat has_none f.listed dirs)
      ∙ order_same (filter_map take (targets_in now.made dir ++ (globs.targets_beside now source ++ filter has_none (flat_map f.listed dirs)))) (filter_map take (targets_in now.made dir ++ (globs.targets_beside now source ++ flat_map f.listed dirs)))
      (λ q. taken_same now dir source take names has_none q (flat_map f.listed dirs) (λ path c taken away. safe path c taken (not_false (has_rule f d path) away)))

  -- what a Glob gives by what it looks for
  glob_same : (s : SoFar) (h : Objects) (env : ℕ) (pattern : List ℕ) → GlobsSources f d s (Ok (env, request.Glob pattern)) → glob S s h env pattern ≡ glob f s h env pattern
  glob_same s h env pattern safe = by (globs.search_of s.declared env pattern) safe
    where
      by : (search_at : Result _ NameFault)
          → IfOk search_at (λ search. TakesSources f d s.declared (globs.dirs_with search.dir (globs.source_of s.declared search.dir) (scripts.is_copied s.declared search.dir)) (λ path. is_some (globs.found search (globs.source_of s.declared search.dir) path)))
          → and_then (told_by of_name (steps.and_then search_at (λ search. Ok (globs.dirs_with search.dir (globs.source_of s.declared search.dir) (scripts.is_copied s.declared search.dir)))))
          (λ dirs. and_then (told_by of_name (and_then search_at (λ search. let made : Result (List Node) NameFault = Ok (map File (in_order (globs.meant_by s.declared search (globs.source_of s.declared search.dir) (flat_map S.listed dirs)))) in made))) (λ nodes. put_in s (nodes_value s.objects h nodes)))
          ≡ and_then (told_by of_name (steps.and_then search_at (λ search. Ok (globs.dirs_with search.dir (globs.source_of s.declared search.dir) (scripts.is_copied s.declared search.dir)))))
          (λ dirs. and_then (told_by of_name (and_then search_at (λ search. let made : Result (List Node) NameFault = Ok (map File (in_order (globs.meant_by s.declared search (globs.source_of s.declared search.dir) (flat_map f.listed dirs)))) in made))) (λ nodes. put_in s (nodes_value s.objects h nodes)))
      by (Ok search) safe =
          let source = globs.source_of s.declared search.dir in
          ap (λ (paths : List (List ℕ)). put_in s (nodes_value s.objects h (map File paths)))
          (order_of s.declared search.dir source (globs.found search source) (globs.dirs_with search.dir source (scripts.is_copied s.declared search.dir))
          (λ path. named_if (fits search.pattern (name_of path)) (globs.named_in search.dir source path)) safe)
      by (Err e) safe = refl

  -- Scripts.

  begins_scripts : (s : SoFar) (path bytes dir : List ℕ) (tree : Tree) (t : SoFar) → begins f s (record { path = path; bytes = bytes }) dir ≡ Ok (tree, t) → t.scripts ≡ s.scripts ++ path ∷ []
  begins_scripts s path bytes dir tree t is =
      let form = then_at (tree_by path (f.form bytes)) (noted s path dir) (tree, t) is in
      let began = then_at (told_by of_refusal (begin s path dir)) (λ u. let made : Result (Tree × SoFar) Stop = Ok (form.0, u) in made) (tree, t) form.2 in
      let state : began.0 ≡ t = ap (λ (m : Tree × SoFar). m.1) (ok_same began.2) in
      let inside = then_at (told_by of_name (scripts.begun s.declared dir)) (λ e. let made : Result SoFar Refusal = Ok (record s { declared = e; scripts = s.scripts ++ path ∷ [] }) in made) began.0 (told_at of_refusal (begin s path dir) began.0 began.1) in
      sym (ap (λ (u : SoFar). u.scripts) (ok_same inside.2 ∙ state))

  -- a script that begins has no rule
  begun_source : (s : SoFar) (path bytes dir : List ℕ) (tree : Tree) (t : SoFar) → begins f s (record { path = path; bytes = bytes }) dir ≡ Ok (tree, t) → AreSources f d t.scripts → has_rule f d path ≡ false
  begun_source s path bytes dir tree t is safe =
      safe path (subst (λ (paths : List (List ℕ)). Contains paths path) (sym (begins_scripts s path bytes dir tree t is))
      (Contains-append_right s.scripts (path ∷ []) path (0, omega arith, refl)))

  bytes_same : (path : List ℕ) → has_rule f d path ≡ false → bytes_at S path ≡ bytes_at f path
  bytes_same path kept = ap (λ (content : Option (List ℕ)). told_by (stop_at path) (read_within SCRIPT_LIMIT content)) (source_kept f d path kept)

  first_at : (s : SoFar) (path : List ℕ) (tree : Tree) (t : SoFar) (bytes : Option (List ℕ)) → first_by f s path bytes ≡ Ok (tree, t) → AreSources f d t.scripts → has_rule f d path ≡ false
  first_at s path tree t (Some bytes) on safe = begun_source s path bytes _ tree t on safe
  first_at s path tree t None on safe = absurd cc

  pub first_source : (s : SoFar) (path : List ℕ) (tree : Tree) (t : SoFar) → first f s path ≡ Ok (tree, t) → AreSources f d t.scripts → has_rule f d path ≡ false
  first_source s path tree t is safe = let read = then_at (bytes_at f path) (first_by f s path) (tree, t) is in first_at s path tree t read.0 read.2 safe

  first_by_same : (s : SoFar) (path : List ℕ) (bytes : Option (List ℕ)) → first_by S s path bytes ≡ first_by f s path bytes
  first_by_same s path (Some bytes) = refl
  first_by_same s path None = refl

  pub first_same : (s : SoFar) (path : List ℕ) (tree : Tree) (t : SoFar) → first f s path ≡ Ok (tree, t) → AreSources f d t.scripts → first S s path ≡ Ok (tree, t)
  first_same s path tree t is safe =
      let read = then_at (bytes_at f path) (first_by f s path) (tree, t) is in
      then_put (bytes_at S path) read.0 (first_by S s path) (Ok (tree, t)) (bytes_same path (first_source s path tree t is safe) ∙ read.1) (first_by_same s path read.0 ∙ read.2)

  -- a file that isn't there is no source
  within_none : (large : Bool) (held : List ℕ) → (let read : Result (Option (List ℕ)) _ = cond large (Err (refusal.TooLarge (length held))) (Ok (Some held)) in read ≡ Ok None) → ⊥
  within_none true held e = absurd cc
  within_none false held e = absurd cc

  away_by : (path : List ℕ) (content : Option (List ℕ)) → told_by (stop_at path) (read_within SCRIPT_LIMIT content) ≡ Ok None → content ≡ None
  away_by path None e = refl
  away_by path (Some held) e = absurd (within_none (nat_lt SCRIPT_LIMIT (length held)) held (told_at (stop_at path) (read_within SCRIPT_LIMIT (Some held)) None e))

  away_same : (path : List ℕ) → bytes_at f path ≡ Ok None → bytes_at S path ≡ Ok None
  away_same path away = ap (λ (content : Option (List ℕ)). told_by (stop_at path) (read_within SCRIPT_LIMIT content)) (source_absent f d path (away_by path (f.tree path) away))

  -- of some paths the first begins that is a file
  found_same : (u : SoFar) (place : ScriptPlace) (paths : List (List ℕ)) (tree : Tree) (t : SoFar) → and_then (standing f paths) (begins_at f u place) ≡ Ok (tree, t) → AreSources f d t.scripts
      → and_then (standing S paths) (begins_at S u place) ≡ Ok (tree, t)
  found_same u place [] tree t is safe = is
  found_same u place (path ∷ paths) tree t is safe = by (bytes_at f path) refl is (λ on. found_same u place paths tree t on safe)
    where
      by : (r : Result (Option (List ℕ)) Stop) → bytes_at f path ≡ r → and_then (and_then r (or_further path (standing f paths))) (begins_at f u place) ≡ Ok (tree, t)
          → (and_then (standing f paths) (begins_at f u place) ≡ Ok (tree, t) → and_then (standing S paths) (begins_at S u place) ≡ Ok (tree, t))
          → and_then (standing S (path ∷ paths)) (begins_at S u place) ≡ Ok (tree, t)
      by (Ok (Some bytes)) read on rest =
          ap (λ (r : Result (Option (List ℕ)) Stop). and_then (and_then r (or_further path (standing S paths))) (begins_at S u place)) (bytes_same path (begun_source u path bytes place.dir tree t on safe) ∙ read) ∙ on
      by (Ok None) read on rest =
          ap (λ (r : Result (Option (List ℕ)) Stop). and_then (and_then r (or_further path (standing S paths))) (begins_at S u place)) (away_same path read) ∙ rest on
      by (Err e) read on rest = absurd cc

  next_same : (s : SoFar) (one : Waiting) (file : Node) (tree : Tree) (t : SoFar) → next_begins f s one file ≡ Ok (tree, t) → AreSources f d t.scripts → next_begins S s one file ≡ Ok (tree, t)
  next_same s one file tree t is safe =
      let place = then_at (told_by of_refusal (found s one file)) (begins_found f) (tree, t) is in
      let at = place.0 in
      then_put (told_by of_refusal (found s one file)) at (begins_found S) (Ok (tree, t)) place.1 (found_same at.1 at.0 at.0.candidates tree t place.2 safe)

  go_on_same : (s : SoFar) (h : Objects) (next : Option Node × Waiting) (x : Given) (t : SoFar) (o : Objects) → goes_on f s h next ≡ Ok (x, t, o) → AreSources f d t.scripts → goes_on S s h next ≡ Ok (x, t, o)
  go_on_same s h (Some file, one) x t o is safe =
      let began = then_at (next_begins f s one file) (runs h one) (x, t, o) is in
      let state : waits began.0.1 one ≡ t = ap (λ (m : Given × SoFar × Objects). m.1) (ok_same began.2) in
      then_put (next_begins S s one file) began.0 (runs h one) (Ok (x, t, o))
      (next_same s one file began.0.0 began.0.1 began.1 (subst (λ (u : SoFar). AreSources f d u.scripts) (sym state) safe)) began.2
  go_on_same s h (None, one) x t o is safe = is

  sconscript_same : (s : SoFar) (h : Objects) (place : Place) (locals globals : Names) (env : ℕ) (asked : ScriptFiles) (x : Given) (t : SoFar) (o : Objects)
      → sconscript f s h place locals globals env asked ≡ Ok (x, t, o) → AreSources f d t.scripts → sconscript S s h place locals globals env asked ≡ Ok (x, t, o)
  sconscript_same s h place locals globals env asked x t o is safe =
      let one = then_at (told_by of_refusal (opened place locals globals env asked)) (go_on f s h) (x, t, o) is in
      then_put (told_by of_refusal (opened place locals globals env asked)) one.0 (go_on S s h) (Ok (x, t, o)) one.1 (go_on_same s h (next_file one.0) x t o one.2 safe)

  ended_same : (h : Objects) (taken : Option Waiting × SoFar) (x : Given) (t : SoFar) (o : Objects) → ended_in f h taken ≡ Ok (x, t, o) → AreSources f d t.scripts → ended_in S h taken ≡ Ok (x, t, o)
  ended_same h (Some one, s) x t o is safe = go_on_same s h (next_file (with_answer one)) x t o is safe
  ended_same h (None, s) x t o is safe = is

  next_first_same : (taken : Option (List ℕ) × SoFar) (x : Option Tree) (t : SoFar) → next_by f taken ≡ Ok (x, t) → AreSources f d t.scripts → next_by S taken ≡ Ok (x, t)
  next_first_same (Some path, s) x t is safe =
      let began = then_at (first f (left s) path) some_tree (x, t) is in
      let state : began.0.1 ≡ t = ap (λ (m : Option Tree × SoFar). m.1) (ok_same began.2) in
      then_put (first S (left s) path) began.0 some_tree (Ok (x, t))
      (first_same (left s) path began.0.0 began.0.1 began.1 (subst (λ (u : SoFar). AreSources f d u.scripts) (sym state) safe)) began.2
  next_first_same (None, s) x t is safe = is

  -- Calls.

  call_same : (s : SoFar) (h : Objects) (place : Place) (locals globals : Names) (made : Result (ℕ × Request) Refusal) (x : Given) (t : SoFar) (o : Objects) → GlobsSources f d s made → AreSources f d t.scripts
      → and_then (told_by of_refusal made) (λ a. answered f s h place locals globals a.0 a.1) ≡ Ok (x, t, o) → and_then (told_by of_refusal made) (λ a. answered S s h place locals globals a.0 a.1) ≡ Ok (x, t, o)
  call_same s h place locals globals (Ok (env, request.Glob pattern)) x t o takes safe is = ap as_value (glob_same s h env pattern takes) ∙ is
  call_same s h place locals globals (Ok (env, request.Scripts asked)) x t o takes safe is = sconscript_same s h place locals globals env asked x t o is safe
  call_same s h place locals globals (Ok (env, request.Shares names)) x t o takes safe is = is
  call_same s h place locals globals (Ok (env, request.Gives value)) x t o takes safe is = is
  call_same s h place locals globals (Err refusal) x t o takes safe is = is

  pub turn_same : (q : Question) (s t : SoFar) (h o : Objects) (x : Answer q) → AsksSources f d q s h → AreSources f d t.scripts
      → (let turned : Turn SoFar HostEnd (Answer q) = answers_with x t o in turn f q s h ≡ turned → turn S q s h ≡ turned)
  turn_same (question.called place locals globals object args) s t h o x takes safe is =
      let look = answered_at s place (Some (record { 0 = object })) (call f s h place locals globals object args) x t o is in
      ap (told s place (Some (record { 0 = object }))) (call_same s h place locals globals (asks s h object args) x t o takes safe look)
  turn_same (question.attribute place object name) s t h o x takes safe is = is
  turn_same (question.item place object key) s t h o x takes safe is = is
  turn_same (question.set_item place object key y) s t h o x takes safe is = is
  turn_same (question.script_done names) s t h o x takes safe is =
      let look = answered_at s (place_in (innermost s)) None (script_done f s h) x t o is in
      ap (told s (place_in (innermost s)) None) (ended_same h (call_taken (left s)) x t o look safe)
  turn_same question.next_script s t h o x takes safe is =
      let look = answered_at s nowhere None (and_then (next_first f s) (λ m. let made : Result (Option Tree × SoFar × Objects) Stop = Ok (m.0, m.1, h) in made)) x t o is in
      let began = then_at (next_first f s) (λ m. let made : Result (Option Tree × SoFar × Objects) Stop = Ok (m.0, m.1, h) in made) (x, t, o) look in
      let state : began.0.1 ≡ t = ap (λ (m : Option Tree × SoFar × Objects). m.1) (ok_same began.2) in
      ap (told s nowhere None) (then_put (next_first S s) began.0 (λ m. let made : Result (Option Tree × SoFar × Objects) Stop = Ok (m.0, m.1, h) in made) (Ok (x, t, o))
      (next_first_same (next_path s) began.0.0 began.0.1 began.1 (subst (λ (u : SoFar). AreSources f d u.scripts) (sym state) safe)) began.2)
