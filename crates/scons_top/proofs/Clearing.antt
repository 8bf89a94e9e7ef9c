-- Files that cleaning removes, and what stands as it was.
use Rattle.std.proofs.Common.{arith, ◌≡◌, ◌≢◌, ◌∙◌, ◌<◌, ◌+◌, ◌⊎◌, inl, inr, sym, subst, refl, ap, ℕ, zero, suc, Bool, true, false, List, [], ◌∷◌, ◌++◌, length, get_or, take, Option, Some, None, map, Contains}
use Rattle.std.specs.Prelude.{All, IsErrAnd, Result, Ok, Err, slice_get, is_some, if◌then◌else◌}
use Rattle.std.specs.Option.{option_map, unwrap_or}
use Rattle.std.specs.Str.{bytes_eq}
use Rattle.std.proofs.lemmas.Bool.{cases_Bool, false≢true}
use Rattle.std.proofs.lemmas.List.{get_or-map, length-map, take_all}
use Rattle.std.proofs.lemmas.List.Elements.{All-nil, All-cons, All-head, All-tail, All-append, All-more, All-weaker, All-map, Contains-append_left, Contains-append_right}
use Rattle.std.proofs.lemmas.Slice.Eq.{bytes_eq-Decides}
use Rattle.scons_base.specs.declared.ids.NodeId.{NodeId}
use Rattle.scons_base.specs.declared.ids.RuleId.{RuleId}
use Rattle.world_api.specs.Around.{Around, IsRunningTarget}
use Rattle.world_api.specs.Calls.{Asks, Removes}
use Rattle.world_api.specs.Looks.{Looks}
use Rattle.world_api.specs.Meaning.{Meaning}
use Rattle.world_api.specs.Reads.{kind_of}
use Rattle.world_api.specs.Act.{Content}
use Rattle.world_api.specs.declared.world.Kind.{Kind}
use Rattle.world_api.specs.declared.world.Kind.TheVariants.{Absent, File, Dir}
use Rattle.world_api.proofs.Looking.{looks_joined}
use Rattle.rule_graph.specs.declared.rule.Rule as declared
use Rattle.rule_graph.specs.Graphs.{RuleGraph, path_of}
use Rattle.rule_graph.specs.Rules.{are_below}
use Rattle.build_model.specs.Rules.{Path, Rule}
use Rattle.build_model.specs.Needs.{with_rule}
use Rattle.build_means.specs.Rules.{paths_of, rule_in}
use Rattle.build_files.proofs.Left.{none_runs}
use Rattle.scons_report.specs.Cleaning.{IsCleanList, rule_number, rules_numbered}
use Rattle.scons_words.specs.declared.words.Words.{Words}
use Rattle.scons_top.specs.declared.report.Report.{Report}
use Rattle.scons_top.specs.declared.step.Step.{Step}
use Rattle.scons_top.specs.declared.step.Step.TheVariants as step
use Rattle.scons_top.specs.declared.stop.Stop.{Stop}
use Rattle.scons_top.specs.Scripted.{CleansOf}
use Rattle.scons_top.specs.Cleaned.{is_file_kind, targets_of, IsCleared, Cleared, AreNone, AreRemoved, CleansNodes, CleansAsked, HasCleaned, Cleans, CleansOrStops, RunCleans}
use Rattle.scons_top.specs.Steps.{IsReadingStep, IsListingStep, IsBuildingStep}
use Rattle.scons_top.specs.Watching.{Watches}
use Rattle.scons_top.proofs.Building.{around_asked}

-- what a look tells of a file

by_kind : (content : Content) (dirs : Bool) → is_file_kind (if is_some content then File else (if dirs then Dir else Absent)) ≡ is_some content
by_kind (Some bytes) dirs = refl
by_kind None true = refl
by_kind None false = refl

pub kind_is : (around : Around) (path : Path) → is_file_kind (kind_of around path) ≡ is_some (around.tree path)
kind_is around path = by_kind (around.tree path) (around.dirs path)

none_by : (content : Content) → is_some content ≡ false → content ≡ None
none_by (Some bytes) e = absurd (false≢true (sym e))
none_by None e = refl

pub no_file : (around : Around) (path : Path) (stands : Bool) → stands ≡ is_some (around.tree path) → stands ≡ false → around.tree path ≡ None
no_file around path stands is none = none_by (around.tree path) (sym is ∙ none)

-- around

pub cleared_same : (paths : List Path) (a : Around) → IsCleared paths a a
cleared_same paths a = record {
  files = λ path. inl refl;
  others = λ path out. refl;
  stamps = λ path out. refl;
  dirs = λ dir. refl;
  running = refl;
  log = refl;
  met = refl;
  law = refl;
  top = refl;
}

pub cleared_asked : (paths : List Path) (a b : Around) → a.running ≡ [] → Asks a b → IsCleared paths a b
cleared_asked paths a b idle asks = subst (λ (x : Around). IsCleared paths a x) (sym (around_asked a b idle asks)) (cleared_same paths a)

alone : (path : Path) → Contains (path ∷ []) path
alone path = (0, omega arith, refl)

pub cleared_removed : (path : Path) (a b : Around) → a.running ≡ [] → Removes path a b → IsCleared (path ∷ []) a b
cleared_removed path a b idle removes = record {
  files = λ p. by p (cases_Bool (bytes_eq p path));
  others = λ p out. removes.others p (λ e. out (subst (λ (q : Path). Contains (path ∷ []) q) (sym e) (alone path))) (none_runs a.running p idle);
  stamps = λ p out. removes.stamps p (λ e. out (subst (λ (q : Path). Contains (path ∷ []) q) (sym e) (alone path))) (none_runs a.running p idle);
  dirs = removes.dirs;
  running = removes.running;
  log = removes.log;
  met = removes.met;
  law = removes.law;
  top = removes.top;
}
  where
    by : (p : Path) → (bytes_eq p path ≡ true) ⊎ (bytes_eq p path ≡ false) → (b.tree p ≡ a.tree p) ⊎ (b.tree p ≡ None)
    by p (inl y) = subst (λ (q : Path). (b.tree q ≡ a.tree q) ⊎ (b.tree q ≡ None)) (sym ((bytes_eq-Decides p path).0 y)) removes.file
    by p (inr n) = inl (removes.others p (λ e. false≢true (sym n ∙ (bytes_eq-Decides p path).1 e)) (none_runs a.running p idle))

joined : {A : Type 0} (x y z : Option A) → (y ≡ x) ⊎ (y ≡ None) → (z ≡ y) ⊎ (z ≡ None) → (z ≡ x) ⊎ (z ≡ None)
joined x y z (inl e) (inl f) = inl (f ∙ e)
joined x y z (inr n) (inl f) = inr (f ∙ n)
joined x y z first (inr n) = inr n

pub cleared_on : (paths : List Path) (a b c : Around) → IsCleared paths a b → IsCleared paths b c → IsCleared paths a c
cleared_on paths a b c p q = record {
  files = λ path. joined (a.tree path) (b.tree path) (c.tree path) (p.files path) (q.files path);
  others = λ path out. q.others path out ∙ p.others path out;
  stamps = λ path out. q.stamps path out ∙ p.stamps path out;
  dirs = λ dir. q.dirs dir ∙ p.dirs dir;
  running = q.running ∙ p.running;
  log = q.log ∙ p.log;
  met = q.met ∙ p.met;
  law = q.law ∙ p.law;
  top = q.top ∙ p.top;
}

-- among more paths
pub cleared_more : (paths more : List Path) (a b : Around) → ((path : Path) → Contains paths path → Contains more path) → IsCleared paths a b → IsCleared more a b
cleared_more paths more a b within h = record {
  files = h.files;
  others = λ path out. h.others path (λ c. out (within path c));
  stamps = λ path out. h.stamps path (λ c. out (within path c));
  dirs = h.dirs;
  running = h.running;
  log = h.log;
  met = h.met;
  law = h.law;
  top = h.top;
}

still : {A : Type 0} (x y : Option A) → (y ≡ x) ⊎ (y ≡ None) → x ≡ None → y ≡ None
still x y (inl e) n = e ∙ n
still x y (inr m) n = m

-- what is no file stays none
pub absent_on : (paths : List Path) (a b : Around) → IsCleared paths a b → (path : Path) → a.tree path ≡ None → b.tree path ≡ None
absent_on paths a b h path n = still (a.tree path) (b.tree path) (h.files path) n

alone_within : (path : Path) (more : List Path) → Contains more path → (p : Path) → Contains (path ∷ []) p → Contains more p
alone_within path more has p (zero, lt, is) = subst (Contains more) is has
alone_within path more has p (suc k, lt, is) = absurd (let no : suc k < 1 = lt in omega arith)

-- over a list of targets

in_map : (g : RuleGraph) (nodes : List NodeId) (i : ℕ) (d : NodeId) → i < length nodes → Contains (paths_of g nodes) (path_of g.nodes (get_or nodes i d))
in_map g nodes i d lt = (i, rw length-map lt, get_or-map (path_of g.nodes) nodes i d (path_of g.nodes (get_or nodes i d)) lt)

named : (g : RuleGraph) (n : NodeId) (path : Path) → slice_get g.nodes n.0 ≡ Some path → path_of g.nodes n ≡ path
named g n path at = ap (λ o. unwrap_or o []) at

module _ {W : Type 0} (m : Meaning W) where
  -- one target more
  pub target_cleared : (g : RuleGraph) (nodes : List NodeId) (i : ℕ) (d : NodeId) (path : Path) (old a b : W) → i < length nodes → slice_get g.nodes (get_or nodes i d).0 ≡ Some path
      → (m.tells b → m.tells a) → Cleared m (paths_of g nodes) old a → Cleared m (path ∷ []) a b → Cleared m (paths_of g nodes) old b
  target_cleared g nodes i d path old a b lt at told before h t =
      let whole = paths_of g nodes in
      let has = subst (Contains whole) (named g (get_or nodes i d) path at) (in_map g nodes i d lt) in
      cleared_on whole (m.around old) (m.around a) (m.around b) (before (told t))
      (cleared_more (path ∷ []) whole (m.around a) (m.around b) (alone_within path whole has) (h t))

  -- those that were cleared so far
  abbrev pub GoneTo : Words → RuleGraph → List NodeId → ℕ → W → Type 0
  GoneTo said g nodes i world = said.dry ≡ false → m.tells world → All (λ n. (m.around world).tree (path_of g.nodes n) ≡ None) (take i nodes)

  pub none_gone : (said : Words) (g : RuleGraph) (nodes : List NodeId) (world : W) → GoneTo said g nodes 0 world
  none_gone said g nodes world dry t = All-nil (λ (n : NodeId). (m.around world).tree (path_of g.nodes n) ≡ None)

  pub target_gone : (said : Words) (g : RuleGraph) (nodes : List NodeId) (i : ℕ) (d : NodeId) (path : Path) (a b : W) → i < length nodes → slice_get g.nodes (get_or nodes i d).0 ≡ Some path
      → (m.tells b → m.tells a) → Cleared m (path ∷ []) a b → AreRemoved m said (path ∷ []) b → GoneTo said g nodes i a → GoneTo said g nodes (i + 1) b
  target_gone said g nodes i d path a b lt at told h gone before dry t =
      let P = λ (w : W) (n : NodeId). (m.around w).tree (path_of g.nodes n) ≡ None in
      let stays = All-weaker (P a) (P b) (λ n none. absent_on (path ∷ []) (m.around a) (m.around b) (h t) (path_of g.nodes n) none) (take i nodes) (before dry (told t)) in
      let this : (m.around b).tree path ≡ None = All-head (λ (p : Path). (m.around b).tree p ≡ None) path [] (gone dry t) in
      All-more (P b) nodes i d lt stays (ap (λ p. (m.around b).tree p) (named g (get_or nodes i d) path at) ∙ this)

  -- all of them
  pub targets_gone : (said : Words) (g : RuleGraph) (nodes : List NodeId) (i : ℕ) (world : W) → take i nodes ≡ nodes → GoneTo said g nodes i world → AreRemoved m said (paths_of g nodes) world
  targets_gone said g nodes i world whole gone dry t =
      All-map (λ (p : Path). (m.around world).tree p ≡ None) (path_of g.nodes) nodes
      (subst (λ (l : List NodeId). All (λ (n : NodeId). (m.around world).tree (path_of g.nodes n) ≡ None) l) whole (gone dry t))

-- over the targets of rules

pub numbered_some : (g : RuleGraph) (r : RuleId) (rules : List RuleId) (of : declared.Rule) → slice_get g.rules r.0 ≡ Some of
    → targets_of (rules_numbered g (r ∷ rules)) ≡ paths_of g of.targets ++ targets_of (rules_numbered g rules)
numbered_some g r rules of at = ap (λ o. targets_of (with_rule (option_map (rule_in g) o) (rules_numbered g rules))) at

in_with : (o : Option Rule) (rules : List Rule) (path : Path) → Contains (targets_of rules) path → Contains (targets_of (with_rule o rules)) path
in_with None rules path has = has
in_with (Some r) rules path has = Contains-append_right r.targets (targets_of rules) path has

in_rules : (g : RuleGraph) (rules : List RuleId) (i : ℕ) (d : RuleId) (of : declared.Rule) → i < length rules → slice_get g.rules (get_or rules i d).0 ≡ Some of
    → (path : Path) → Contains (paths_of g of.targets) path → Contains (targets_of (rules_numbered g rules)) path
in_rules g [] i d of lt at path has = absurd (let no : i < 0 = lt in omega arith)
in_rules g (r ∷ rules) zero d of lt at path has =
    subst (λ (l : List Path). Contains l path) (sym (numbered_some g r rules of at)) (Contains-append_left (paths_of g of.targets) (targets_of (rules_numbered g rules)) path has)
in_rules g (r ∷ rules) (suc i) d of lt at path has =
    in_with (rule_number g r) (rules_numbered g rules) path (in_rules g rules i d of (omega arith) at path has)

module _ {W : Type 0} (m : Meaning W) where
  -- the targets of one rule more
  pub rule_cleared : (g : RuleGraph) (rules : List RuleId) (i : ℕ) (d : RuleId) (of : declared.Rule) (old a b : W) → i < length rules → slice_get g.rules (get_or rules i d).0 ≡ Some of
      → (m.tells b → m.tells a) → Cleared m (targets_of (rules_numbered g rules)) old a → Cleared m (paths_of g of.targets) a b → Cleared m (targets_of (rules_numbered g rules)) old b
  rule_cleared g rules i d of old a b lt at told before h t =
      let whole = targets_of (rules_numbered g rules) in
      cleared_on whole (m.around old) (m.around a) (m.around b) (before (told t))
      (cleared_more (paths_of g of.targets) whole (m.around a) (m.around b) (in_rules g rules i d of lt at) (h t))

  pub as_cleared : (g : RuleGraph) (nodes targets : List NodeId) (a b : W) → nodes ≡ targets → Cleared m (paths_of g nodes) a b → Cleared m (paths_of g targets) a b
  as_cleared g nodes targets a b same h = subst (λ (l : List NodeId). Cleared m (paths_of g l) a b) same h

  pub as_removed : (said : Words) (g : RuleGraph) (nodes targets : List NodeId) (b : W) → nodes ≡ targets → AreRemoved m said (paths_of g nodes) b → AreRemoved m said (paths_of g targets) b
  as_removed said g nodes targets b same h = subst (λ (l : List NodeId). AreRemoved m said (paths_of g l) b) same h

  -- none of the targets of a rule is a file
  abbrev pub IsGone : RuleGraph → W → RuleId → Type 0
  IsGone g world r = (of : declared.Rule) → slice_get g.rules r.0 ≡ Some of → All (λ p. (m.around world).tree p ≡ None) (paths_of g of.targets)

  abbrev pub RulesGoneTo : Words → RuleGraph → List RuleId → ℕ → W → Type 0
  RulesGoneTo said g rules i world = said.dry ≡ false → m.tells world → All (IsGone g world) (take i rules)

  pub no_rule_gone : (said : Words) (g : RuleGraph) (rules : List RuleId) (world : W) → RulesGoneTo said g rules 0 world
  no_rule_gone said g rules world dry t = All-nil (IsGone g world)

  gone_on : (g : RuleGraph) (a b : W) (paths : List Path) → IsCleared paths (m.around a) (m.around b) → (r : RuleId) → IsGone g a r → IsGone g b r
  gone_on g a b paths h r gone of at =
      All-weaker (λ (p : Path). (m.around a).tree p ≡ None) (λ (p : Path). (m.around b).tree p ≡ None) (absent_on paths (m.around a) (m.around b) h) (paths_of g of.targets) (gone of at)

  pub rule_gone : (said : Words) (g : RuleGraph) (rules : List RuleId) (i : ℕ) (d : RuleId) (of : declared.Rule) (a b : W) → i < length rules → slice_get g.rules (get_or rules i d).0 ≡ Some of
      → (m.tells b → m.tells a) → Cleared m (paths_of g of.targets) a b → AreRemoved m said (paths_of g of.targets) b → RulesGoneTo said g rules i a → RulesGoneTo said g rules (i + 1) b
  rule_gone said g rules i d of a b lt at told h gone before dry t =
      let stays = All-weaker (IsGone g a) (IsGone g b) (gone_on g a b (paths_of g of.targets) (h t)) (take i rules) (before dry (told t)) in
      All-more (IsGone g b) rules i d lt stays
      (λ other is.
      let same : Some of ≡ Some other = sym at ∙ is in
      let one : of ≡ other = cc in
      subst (λ (x : declared.Rule). All (λ (p : Path). (m.around b).tree p ≡ None) (paths_of g x.targets)) one (gone dry t))

  all_with : (g : RuleGraph) (world : W) (r : RuleId) (rules : List RuleId) (o : Option declared.Rule) → slice_get g.rules r.0 ≡ o → IsGone g world r
      → All (λ p. (m.around world).tree p ≡ None) (targets_of (rules_numbered g rules))
      → All (λ p. (m.around world).tree p ≡ None) (targets_of (with_rule (option_map (rule_in g) o) (rules_numbered g rules)))
  all_with g world r rules None at gone rest = rest
  all_with g world r rules (Some of) at gone rest =
      All-append (λ (p : Path). (m.around world).tree p ≡ None) (paths_of g of.targets) (targets_of (rules_numbered g rules)) (gone of at) rest

  all_gone : (g : RuleGraph) (world : W) (rules : List RuleId) → All (IsGone g world) rules → All (λ p. (m.around world).tree p ≡ None) (targets_of (rules_numbered g rules))
  all_gone g world [] all = All-nil (λ (p : Path). (m.around world).tree p ≡ None)
  all_gone g world (r ∷ rules) all =
      all_with g world r rules (slice_get g.rules r.0) refl (All-head (IsGone g world) r rules all) (all_gone g world rules (All-tail (IsGone g world) r rules all))

  pub rules_gone : (said : Words) (g : RuleGraph) (rules : List RuleId) (i : ℕ) (world : W) → take i rules ≡ rules → RulesGoneTo said g rules i world
      → AreRemoved m said (targets_of (rules_numbered g rules)) world
  rules_gone said g rules i world whole gone dry t = all_gone g world rules (subst (λ (l : List RuleId). All (IsGone g world) l) whole (gone dry t))

  -- a run that had looked before

  cleared_after : (paths : List Path) (a b c : W) → Watches m a b → (m.tells a → (m.around a).running ≡ []) → (m.tells c → m.tells b) → Cleared m paths b c → Cleared m paths a c
  cleared_after paths a b c watches idle told h t =
      let here = told t in
      let same = around_asked (m.around a) (m.around b) (idle (watches.looks.told.told here)) (watches.looks.around here) in
      subst (λ (x : Around). IsCleared paths x (m.around c)) same (h t)

  has_after : (said : Words) (a b c : W) (well : Type 0) → Watches m a b → (m.tells a → (m.around a).running ≡ []) → (m.tells c → m.tells b) → HasCleaned m said b c well → HasCleaned m said a c well
  has_after said a b c well watches idle told h = record {
    graph = h.graph;
    requested = h.requested;
    cleans = record {
      list = h.cleans.list;
      is = h.cleans.is;
      cleared = cleared_after (targets_of (rules_numbered h.graph h.cleans.list)) a b c watches idle told h.cleans.cleared;
      gone = h.cleans.gone;
    };
  }

  stops_after : (said : Words) (a b c : W) (r : Result Report Stop) → Watches m a b → (m.tells a → (m.around a).running ≡ []) → (m.tells c → m.tells b) → CleansOrStops m said b c r → CleansOrStops m said a c r
  stops_after said a b c (Ok report) watches idle told h = has_after said a b c (report.status ≡ 0) watches idle told h
  stops_after said a b c (Err s) watches idle told (inl h) = inl (has_after said a b c ⊥ watches idle told h)
  stops_after said a b c (Err s) watches idle told (inr looks) = inr (looks_joined m a b c watches.looks looks)

  pub cleans_after : (said : Words) (at : Step) (a b c : W) (r : Result Report Stop) → Watches m a b → (m.tells a → (m.around a).running ≡ []) → (m.tells c → m.tells b) → RunCleans m said at b c r → RunCleans m said at a c r
  cleans_after said at a b c r watches idle told h is = stops_after said a b c r watches idle told (h is)

  -- of these very nodes
  nodes_after : (said : Words) (g : RuleGraph) (nodes : List NodeId) (a b c : W) (well : Type 0) → Watches m a b → (m.tells a → (m.around a).running ≡ []) → (m.tells c → m.tells b)
      → CleansNodes m said g nodes b c well → CleansNodes m said g nodes a c well
  nodes_after said g nodes a b c well watches idle told h = record {
    list = h.list;
    is = h.is;
    cleared = cleared_after (targets_of (rules_numbered g h.list)) a b c watches idle told h.cleared;
    gone = h.gone;
  }

  pub of_after : (said : Words) (g : RuleGraph) (nodes : List NodeId) (a b c : W) (r : Result Report Stop) → Watches m a b → (m.tells a → (m.around a).running ≡ []) → (m.tells c → m.tells b)
      → CleansOf m said g nodes b c r → CleansOf m said g nodes a c r
  of_after said g nodes a b c (Ok report) watches idle told (inl h) = inl (nodes_after said g nodes a b c (report.status ≡ 0) watches idle told h)
  of_after said g nodes a b c (Ok report) watches idle told (inr looked) = inr (looked.0, looks_joined m a b c watches.looks looked.1)
  of_after said g nodes a b c (Err s) watches idle told (inl h) = inl (nodes_after said g nodes a b c ⊥ watches idle told h)
  of_after said g nodes a b c (Err s) watches idle told (inr looks) = inr (looks_joined m a b c watches.looks looks)

  pub asked_or_stops : (said : Words) (g : RuleGraph) (requested : List NodeId) (old new : W) (r : Result Report Stop) → CleansAsked m said g requested old new r → CleansOrStops m said old new r
  asked_or_stops said g requested old new (Ok report) h = record { graph = g; requested = requested; cleans = h }
  asked_or_stops said g requested old new (Err s) (inl h) = inl (record { graph = g; requested = requested; cleans = h })
  asked_or_stops said g requested old new (Err s) (inr looks) = inr looks

  -- the report of a run that cleaned
  pub cleans_report : (said : Words) (at : Step) (old new : W) (report : Report) → report.step ≡ at → RunCleans m said at old new (Ok report) → Cleans m said old new report
  cleans_report said at old new report ends h is = inl (h (sym ends ∙ is))

  stopped : (said : Words) (old new : W) (report : Report) → report.status ≢ 0 → HasCleaned m said old new ⊥ ⊎ Looks m old new
      → HasCleaned m said old new (report.status ≡ 0) ⊎ ((report.status ≢ 0) × Looks m old new)
  stopped said old new report fails (inl h) = inl (record {
    graph = h.graph;
    requested = h.requested;
    cleans = record { list = h.cleans.list; is = h.cleans.is; cleared = h.cleans.cleared; gone = λ well. absurd (fails well) };
  })
  stopped said old new report fails (inr looks) = inr (fails, looks)

  pub cleans_stop : (said : Words) (at : Step) (old new : W) (s : Stop) (report : Report) → report.step ≡ at → report.status ≢ 0 → RunCleans m said at old new (Err s) → Cleans m said old new report
  cleans_stop said at old new s report ends fails h is = stopped said old new report fails (h (sym ends ∙ is))

-- other steps don't clean

pub not_reading : {P : Type 0} (at : Step) → IsReadingStep at → at ≡ step.Cleaning → P
not_reading at h is = absurd (subst IsReadingStep is h)

pub not_listing : {P : Type 0} (at : Step) → IsListingStep at → at ≡ step.Cleaning → P
not_listing at h is = absurd (subst IsListingStep is h)

pub not_building : {P : Type 0} (at : Step) → IsBuildingStep at → at ≡ step.Cleaning → P
not_building at h is = absurd (subst IsBuildingStep is h)

-- cleaning of what is requested

pub requested_list : (g : RuleGraph) (nodes asked : List NodeId) (rules list : List RuleId) → nodes ≡ asked → rules ≡ list → are_below (length g.nodes) nodes ≡ true
    → (are_below (length g.nodes) nodes ≡ true → IsCleanList g nodes list) → IsCleanList g asked rules
requested_list g nodes asked rules list same is below h =
    subst (λ (l : List NodeId). IsCleanList g l rules) same (subst (λ (l : List RuleId). IsCleanList g nodes l) (sym is) (h below))

module _ {W : Type 0} (m : Meaning W) where
  pub cleans_well : (said : Words) (g : RuleGraph) (requested : List NodeId) (list : List RuleId) (old new : W) (well : Type 0) → IsCleanList g requested list
      → Cleared m (targets_of (rules_numbered g list)) old new → AreRemoved m said (targets_of (rules_numbered g list)) new → CleansNodes m said g requested old new well
  cleans_well said g requested list old new well is cleared gone = record { list = list; is = is; cleared = cleared; gone = λ well. gone }

  -- where a `?` ends it
  pub asked_exit : (said : Words) (g : RuleGraph) (requested : List NodeId) (old new : W) (r : Result Report Stop) (P : Stop → Type 0) → IsErrAnd r P
      → CleansNodes m said g requested old new ⊥ ⊎ Looks m old new → CleansAsked m said g requested old new r
  asked_exit said g requested old new (Ok report) P is h = absurd is
  asked_exit said g requested old new (Err s) P is h = h

  pub cleans_ill : (said : Words) (g : RuleGraph) (requested : List NodeId) (list : List RuleId) (old new : W) → IsCleanList g requested list
      → Cleared m (targets_of (rules_numbered g list)) old new → CleansNodes m said g requested old new ⊥
  cleans_ill said g requested list old new is cleared = record { list = list; is = is; cleared = cleared; gone = λ well. absurd well }
