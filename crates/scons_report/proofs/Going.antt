-- A plan that is gone over, where each rule counts as made: it begins so, and stays so.
use Rattle.std.proofs.Common.{◌≡◌, ◌≢◌, ◌≤◌, ◌<◌, ◌⊎◌, inl, inr, ◌∙◌, ◌++◌, ◌||◌, ℕ, true, false, Bool, List, [], ◌∷◌, length, Some, refl, sym, subst, ap, arith, get_or-set_same}
use Rattle.std.proofs.lemmas.List.{get_or_past}
use Rattle.std.specs.Prelude.{slice_get, slice_set, if◌then◌else◌, is_err, Result, Ok, Err, OnOk}
use Rattle.scons_base.specs.declared.ids.NodeId.{NodeId}
use Rattle.scons_base.specs.declared.ids.RuleId.{RuleId}
use Rattle.scons_base.specs.declared.limits.TheConstants.{NODE_LIMIT}
use Rattle.rule_graph.specs.declared.rule.Rule as declared
use Rattle.rule_graph.specs.Graphs.{RuleGraph, path_of}
use Rattle.rule_graph.specs.Rules.{are_below}
use Rattle.world_api.specs.Act.{Content}
use Rattle.world_api.specs.Around.{Around, Running, IsRunningTarget}
use Rattle.world_api.specs.Calls.{Asks}
use Rattle.task_plan.specs.States.{state_of}
use Rattle.task_plan.specs.Named.{stands}
use Rattle.task_plan.specs.Admits.{Fits, AllFollow, Knows as Learns}
use Rattle.task_plan.specs.Met.{AllMet, AreFrom, AreNodes}
use Rattle.task_plan.specs.Ordered.{KeepsOrder}
use Rattle.task_plan.specs.Plans.{Planned, Goes, IsDecidedNext, IsScannedNext, decided, is_halt}
use Rattle.task_plan.specs.Rooted.{AreReached, KeepsSought}
use Rattle.task_plan.specs.declared.want.PlanEvent.{PlanEvent}
use Rattle.task_plan.specs.Settled.{Kept, is_done, is_scanned, IsReady as IsThrough}
use Rattle.task_plan.specs.Watched.{IsComplete, IsGoingOn}
use Rattle.task_plan.specs.declared.states.RuleState.{RuleState}
use Rattle.task_plan.specs.declared.states.RuleState.TheVariants.{Unneeded, Waiting, Settled}
use Rattle.task_plan.specs.declared.want.PlanEvent.TheVariants as told
use Rattle.task_plan.proofs.AdmitLemmas.{waits_needed}
use Rattle.task_plan.proofs.MarkLemmas.{apart}
use Rattle.task_plan.proofs.MetNeeds.{all_stands}
use Rattle.task_plan.proofs.PlanLemmas.{set_other}
use Rattle.task_plan.proofs.WalkLemmas.{within_or}
use Rattle.build_model.specs.Rules.{Path, Tree, Rule, Setting, Among, here, there}
use Rattle.build_model.specs.Reach.{IsScanned}
use Rattle.build_model.specs.Contents.{in_tree, found_in, dependencies}
use Rattle.build_model.specs.Needs.{Needs, as_required, as_dependency}
use Rattle.build_model.specs.Steps.{Step, Fresh, settled, IsReady, is_source, is_made, IsMissing, done}
use Rattle.build_model.proofs.Lists.{none_some, some_same, among_same}
use Rattle.build_model.proofs.Whole.{reaches_in}
use Rattle.build_means.specs.Grown.{Begun, begun_setting, rule_numbered}
use Rattle.build_means.specs.Rules.{IsReading, paths_of}
use Rattle.build_means.proofs.Growing.{get_front}
use Rattle.build_means.proofs.Lists.{at_place, among_map}
use Rattle.build_means.proofs.Readings.{node_path}
use Rattle.build_files.specs.Kept.{includes_in, past as looked_past, AreTrue}
use Rattle.build_files.specs.Marked.{AreGoneOverFor, AreGoneOverWith}
use Rattle.build_files.specs.Searched.{meant, AreNodesOf, GrowsTo}
use Rattle.build_files.specs.declared.inputs.Inputs.{Inputs}
use Rattle.plan_means.specs.Beginning.{AreLookedFor, IsLoaded}
use Rattle.plan_means.specs.Growth.{Grows}
use Rattle.plan_means.specs.Lists.{Includes, AreReach}
use Rattle.plan_means.specs.Planning.{IsGraphNow, IsStep}
use Rattle.plan_means.specs.Scanning.{IsFoundIn, MayBeScanned}
use Rattle.plan_means.specs.Stepping.{Tells, is_fresh}
use Rattle.plan_means.specs.Ties.{Ties, IsAt, IsNew}
use Rattle.plan_means.proofs.Beginning.{is_tied}
use Rattle.plan_means.proofs.Growth.{growth_keeps, numbered_stays}
use Rattle.plan_means.proofs.Knowing.{Knows, knows, among_stands, file_scanned, in_needs, in_required, done_ready}
use Rattle.plan_means.proofs.Reaching.{lists_are_reach}
use Rattle.plan_means.proofs.Scanning.{scans_keep}
use Rattle.plan_means.proofs.Stepping.{events_keep}
use Rattle.plan_means.proofs.Wanting.{may_be_scanned}
use Rattle.turn_means.proofs.Looked.{sought_are_looked_for, found_are_looked_for}
use Rattle.scons_report.proofs.Found.{path_at, nodes_paths, nodes_below, first_target, paths_are, includes_by}
use Rattle.scons_report.specs.Overs.{all_fresh, IsOutset, IsOver}

-- ---- states

-- a rule that was met goes on as it did
pub met_goes : (old new : RuleState) → (new ≡ old) ⊎ ((old ≡ Unneeded) × (new ≡ Waiting)) → IsGoingOn old → IsGoingOn new
met_goes old new (inl same) goes = subst IsGoingOn (sym same) goes
met_goes old new (inr met) goes = subst IsGoingOn (sym met.1) tt

pub settled_fresh : (rules : List Rule) → settled (all_fresh rules) ≡ rules
settled_fresh [] = refl
settled_fresh (r ∷ rules) = ap (λ l. r ∷ l) (settled_fresh rules)

done_fresh : (rules : List Rule) {r : Rule} → Among r rules → Among r (done (all_fresh rules))
done_fresh [] m = elim m [ ]
done_fresh (r ∷ rules) here = here
done_fresh (r ∷ rules) (there m) = there (done_fresh rules m)

-- the state of a needed rule is set
set_here : (states : List RuleState) (number : ℕ) (v : RuleState) → state_of states number ≢ Unneeded →
    state_of (slice_set states number v) number ≡ v
set_here states number v needed = get_or-set_same states number v Unneeded (within (within_or number (length states)))
  where
    within : (number < length states) ⊎ (length states ≤ number) → number < length states
    within (inl lt) = lt
    within (inr le) = absurd (needed (get_or_past states number Unneeded le))

-- nothing runs
pub none_runs : (around : Around) → around.running ≡ [] → (path : Path) → IsRunningTarget around.running path → ⊥
none_runs around idle path target =
    let none = subst (λ (r : List Running). IsRunningTarget r path) idle target in
    absurd (omega (arith, none.1.1))

-- the files are as they were behind a look
pub past_same : (gone : List Path) (old new : Around) → old.running ≡ [] → Asks old new → (path : Path) →
    looked_past gone new.tree path ≡ looked_past gone old.tree path
past_same gone old new idle asks path =
    ap (λ (c : Content). looked_past gone (λ _. c) path) (asks.files path (none_runs old idle path))

pub gone_same : (old new : Inputs) (tree : Tree) (path : Path) → new.gone ≡ old.gone →
    looked_past new.gone.keys tree path ≡ looked_past old.gone.keys tree path
gone_same old new tree path same = ap (λ g. looked_past g.keys tree path) same

-- ---- a plan begins

module _ (b : Begun) (requested : List NodeId) (t : Tree) (g h : RuleGraph) (inputs later : Inputs) (plan : Planned) (old new : Around)
    (is : IsOutset b t g inputs old) (asks : Asks old new) (read : IsReading h) (room : length h.nodes ≤ NODE_LIMIT)
    (gone : later.gone ≡ inputs.gone) (truth : AreTrue b h later new) (over : AreGoneOverWith h later requested)
    (below : are_below (length h.nodes) requested ≡ true) (loaded : IsLoaded h requested plan) where
  begun_now : IsGraphNow b h
  begun_now = record { read = truth.reading; reading = read; grown = truth.grown; room = room }

  begun_looked : AreLookedFor b h requested
  begun_looked = sought_are_looked_for b h later new requested begun_now below truth over.over over.these

  none_before : (number : ℕ) → IsGoingOn (state_of [] number)
  none_before number = tt

  pub begins_over : IsOver b requested t h later plan new
  begins_over = record {
    made = [];
    now = begun_now;
    truth = truth;
    looked = over.over;
    idle = asks.running ∙ is.idle;
    files = λ path. gone_same inputs later new.tree path gone ∙ past_same inputs.gone.keys old new is.idle asks path ∙ is.files path;
    ties = is_tied b h requested t plan begun_now below begun_looked loaded;
    order = tt;
    goes = loaded.halted;
    well = record { each = λ number. met_goes (state_of [] number) (state_of plan.states number) (loaded.states.at number) (none_before number) };
  }

-- ---- a file is scanned

module _ (b : Begun) (requested : List NodeId) (t : Tree) (g : RuleGraph) (inputs : Inputs) (plan : Planned) (old : Around)
    (is : IsOver b requested t g inputs plan old) (rule : RuleId) (file : NodeId) (next : IsScannedNext plan rule.0 file) where
  may : MayBeScanned b g t (all_fresh is.made) rule.0 file
  may = may_be_scanned b g requested t (all_fresh is.made) plan rule.0 file is.now is.ties next

  file_at : slice_get g.nodes file.0 ≡ Some (path_of g.nodes file)
  file_at = node_path g is.now.reading file may.node

  needed : state_of plan.states rule.0 ≢ Unneeded
  needed u = let no : Waiting ≡ Unneeded = sym next.ready.waits ∙ u in cc

  k : Knows b g plan rule.0
  k = knows b g requested t (all_fresh is.made) plan is.now is.ties rule.0 needed

  -- it is scanned for the rule by the files as they are
  scans : IsScanned (found_in (begun_setting b) (in_tree t) k.rule) k.rule (path_of g.nodes file)
  unfolding k
  scans =
      file_scanned b g requested t (all_fresh is.made) plan is.now is.ties rule.0 needed
      (found_in (begun_setting b) (in_tree t) k.rule)
      (λ n e. (is.ties.sees.each rule.0 k.kept k.rule needed k.at k.numbered n e).includes) file
      (among_stands k.kept.files file
      (at_place k.kept.files next.ready.place
      (ap (λ (x : Kept). slice_get x.files next.ready.place) (some_same (sym k.at ∙ next.ready.at)) ∙ next.ready.is_file)))

  module _ (h : RuleGraph) (later : Inputs) (new : Around) (found : List NodeId) (after : Planned) (asks : Asks old new) (grows : GrowsTo g h)
      (read : IsReading h) (room : length h.nodes ≤ NODE_LIMIT) (gone : later.gone ≡ inputs.gone) (truth : AreTrue b h later new)
      (over : AreGoneOverFor h later rule.0 found)
      (meaning : (x : declared.Rule) (path : Path) → slice_get g.rules rule.0 ≡ Some x → slice_get g.nodes file.0 ≡ Some path →
      AreNodesOf h (meant b x.paths path (includes_in (looked_past inputs.gone.keys old.tree path))) found)
      (step : IsStep h plan (told.Scanned rule found) after) (goes : after.halted ≡ false) where
    grown : Grows g h
    grown = record { more = grows.more; nodes = grows.nodes; added = grows.added; rules = grows.rules }

    now : IsGraphNow b h
    now = record { read = is.now.read; reading = read; grown = truth.grown; room = room }

    ties_grown : Ties b h requested t (all_fresh is.made) plan
    ties_grown = growth_keeps b g h is.now now grown requested t (all_fresh is.made) plan is.ties

    path_stays : path_of h.nodes file ≡ path_of g.nodes file
    path_stays =
        path_at h file (path_of g.nodes file)
        (ap (λ nodes. slice_get nodes file.0) grows.nodes ∙ get_front g.nodes grows.more file.0 (path_of g.nodes file) file_at)

    meaning_now : AreNodesOf h (meant b k.of.paths (path_of g.nodes file) (includes_in (t (path_of g.nodes file)))) found
    meaning_now =
        subst (λ (c : Content). AreNodesOf h (meant b k.of.paths (path_of g.nodes file) (includes_in c)) found)
        (is.files (path_of g.nodes file)) (meaning k.of (path_of g.nodes file) k.stands file_at)

    found_is : (r : Rule) → rule_numbered b h rule.0 ≡ Some r →
        found_in (begun_setting b) (in_tree t) r (path_of h.nodes file) ≡ paths_of h found
    found_is r e =
        let same : r ≡ k.rule =
        some_same (sym e ∙ numbered_stays b g h is.now now grown rule.0 k.of k.stands ∙ k.numbered) in
        let target = first_target g k.of.targets k.is.has_target in
        let dirs = paths_are b g is.now rule.0 k.rule k.numbered k.of target.0
        (found_in (begun_setting b) (in_tree t) k.rule) (path_of g.nodes file) k.stands (among_same k.names.targets target.1) scans in
        ap (λ (q : Rule). found_in (begun_setting b) (in_tree t) q (path_of h.nodes file)) same
        ∙ ap (found_in (begun_setting b) (in_tree t) k.rule) path_stays
        ∙ includes_by b g is.now rule.0 k.rule k.numbered (t (path_of g.nodes file)) k.of.paths (path_of g.nodes file) dirs
        ∙ sym (nodes_paths h _ found meaning_now)

    is_found : IsFoundIn b h t plan rule file found
    is_found = record {
      nodes = nodes_below h _ found meaning_now;
      includes = found_is;
      looked = found_are_looked_for b h later new plan rule file found now
          (nodes_below h _ found meaning_now) truth over.over over.these ties_grown.plan_for.fits is.ties.plan_for.follow next;
    }

    pub scans_over : IsOver b requested t h later after new
    scans_over = record {
      made = is.made;
      now = now;
      truth = truth;
      looked = over.over;
      idle = asks.running ∙ is.idle;
      files = λ path. gone_same inputs later new.tree path gone ∙ past_same inputs.gone.keys old new is.idle asks path ∙ is.files path;
      ties = scans_keep b h requested t (all_fresh is.made) plan after rule file found now ties_grown next is_found step;
      order = is.order;
      goes = goes;
      well = record { each = λ number. met_goes (state_of plan.states number) (state_of after.states number) (step.states.at number) (is.well.each number) };
    }

-- ---- a rule counts as made

module _ (b : Begun) (requested : List NodeId) (t : Tree) (g : RuleGraph) (inputs : Inputs) (plan : Planned) (around : Around)
    (is : IsOver b requested t g inputs plan around) where
  abbrev s : Setting
  s = begun_setting b

  abbrev Made : List Step
  Made = all_fresh is.made

  room : length g.nodes < s.limit
  room = let le = is.now.room in omega (arith, le)

  abbrev pub the : (number : ℕ) → state_of plan.states number ≢ Unneeded → Knows b g plan number
  the number needed = knows b g requested t Made plan is.now is.ties number needed

  -- where all files of a rule are scanned its lists are what it reaches
  module _ (number : ℕ) (needed : state_of plan.states number ≢ Unneeded)
      (all : (n : NodeId) → stands (the number needed).kept.files n ≡ true → is_scanned (the number needed).kept.found n ≡ true) where
    abbrev kn : Knows b g plan number
    kn = the number needed

    agrees : Includes g kn.kept (found_in s (in_tree t) kn.rule)
    agrees file h =
        (is.ties.sees.each number kn.kept kn.rule needed kn.at kn.numbered file (all file h)).includes

    pub lists : AreReach g s.limit kn.kept (found_in s (in_tree t) kn.rule) kn.rule
    lists =
        lists_are_reach g kn.of kn.rule kn.kept s.limit (found_in s (in_tree t) kn.rule) is.now.reading kn.is kn.names kn.keeps agrees room

    -- a dependency by these files is one that the plan lists
    pub listed : (p : Path) → Among p (dependencies s (in_tree t) kn.rule) → (n : NodeId) × (stands kn.kept.deps n ≡ true) × (p ≡ path_of g.nodes n)
    listed p m = let n = among_map (path_of g.nodes) kn.kept.deps (among_same lists.deps m) in (n.0, among_stands kn.kept.deps n.0 n.1, n.2)

  ready_rule : (p : Path) (q : Rule) → s.rule_of p ≡ Some q →
      IsReady s t (settled Made) p ⊎ IsMissing s t p → Among q is.made
  ready_rule p q e (inl (is_source bytes none file)) = none_some (sym none ∙ e)
  ready_rule p q e (inl (is_made r of m)) =
      subst (λ (x : Rule). Among x is.made) (some_same (sym of ∙ e)) (among_same (settled_fresh is.made) m)
  ready_rule p q e (inr missing) = none_some (sym missing.no_rule ∙ e)

  -- what a needed rule needs counts as made where it is done
  pub done_made : (number : ℕ) (needed : state_of plan.states number ≢ Unneeded) (n : NodeId) (q : Rule) →
      stands ((the number needed).kept.required ++ (the number needed).kept.deps) n ≡ true →
      is_done plan.states plan.origins n ≡ true → s.rule_of (path_of g.nodes n) ≡ Some q → Among q is.made
  done_made number needed n q h done e =
      ready_rule (path_of g.nodes n) q e (done_ready b g requested t Made plan is.now is.ties number needed n h done)

  module _ (number : ℕ) (next : IsDecidedNext plan number) where
    chosen : state_of plan.states number ≢ Unneeded
    chosen = waits_needed g plan number next.can.waits

    abbrev kc : Knows b g plan number
    kc = the number chosen

    through : IsThrough plan.states plan.origins kc.kept
    through = subst (λ (x : Kept). IsThrough plan.states plan.origins x) (some_same (sym next.can.at ∙ kc.at)) next.can.ready

    all_scanned : (n : NodeId) → stands kc.kept.files n ≡ true → is_scanned kc.kept.found n ≡ true
    all_scanned n h = all_stands (λ n. is_scanned kc.kept.found n) kc.kept.files n through.scanned h

    needs_made : (q : Rule) → Needs s.rule_of (found_in s (in_tree t)) kc.rule q → Among q is.made
    needs_made q (as_required p m e) =
        let n = among_map (path_of g.nodes) kc.kept.required (among_same (sym (ap (paths_of g) kc.keeps.required ∙ kc.names.required)) m) in
        let h = among_stands kc.kept.required n.0 n.1 in
        done_made number chosen n.0 q (in_required kc.kept.required kc.kept.deps n.0 h)
        (all_stands (λ x. is_done plan.states plan.origins x) kc.kept.required n.0 through.required h) (ap s.rule_of (sym n.2) ∙ e)
    needs_made q (as_dependency p reached e) =
        let l = lists number chosen all_scanned in
        let n = listed number chosen all_scanned p (reaches_in (found_in s (in_tree t) kc.rule) {r = kc.rule} s.limit l.room reached) in
        done_made number chosen n.0 q (in_needs kc.kept.required kc.kept.deps n.0 n.1)
        (all_stands (λ x. is_done plan.states plan.origins x) kc.kept.deps n.0 through.deps n.1) (ap s.rule_of (sym n.2) ∙ e)

    new : IsNew Made kc.rule
    new = subst (λ (o : RuleState). IsAt Made kc.rule o) next.can.waits (is.ties.states number kc.rule kc.numbered)

    decided_states : (after : Planned) → after.states ≡ decided plan number Settled → after.states ≡ slice_set plan.states number Settled
    decided_states after e = e ∙ ap (λ (c : Bool). if c then slice_set plan.states number Settled else plan.states) next.first.opened

    goes_by : (after : Planned) (other : ℕ) → after.states ≡ slice_set plan.states number Settled → (other ≡ number) ⊎ (other ≢ number) →
        IsGoingOn (state_of after.states other)
    goes_by after other e (inl same) =
        subst IsGoingOn (sym (ap (state_of after.states) same ∙ ap (λ (s : List RuleState). state_of s number) e
        ∙ set_here plan.states number Settled chosen)) tt
    goes_by after other e (inr ne) =
        subst IsGoingOn (sym (ap (λ (s : List RuleState). state_of s other) e ∙ set_other plan.states number other Settled ne)) (is.well.each other)

    pub settles_over : (rule : RuleId) → rule.0 ≡ number → (after : Planned) → IsStep g plan (told.Fresh rule) after → after.halted ≡ false →
        IsOver b requested t g inputs after around
    settles_over rule same after step goes = record {
      made = kc.rule ∷ is.made;
      now = is.now;
      truth = is.truth;
      looked = is.looked;
      idle = is.idle;
      files = is.files;
      ties = events_keep b g requested t Made plan after is.now is.ties (fresh_here rule same) step;
      order = ((λ m. new.not_done (done_fresh is.made m)), needs_made, is.order);
      goes = goes;
      well = record { each = λ other. goes_by after other (decided_states after (at_number rule same step.states)) (apart other number) };
    }
      where
        fresh_here : (rule : RuleId) → rule.0 ≡ number → Tells b g plan (told.Fresh rule) (Fresh kc.rule)
        fresh_here rule same = is_fresh rule kc.rule (ap (rule_numbered b g) same ∙ kc.numbered) (subst (λ n. IsDecidedNext plan n) (sym same) next)

        at_number : (rule : RuleId) → rule.0 ≡ number → after.states ≡ decided plan rule.0 Settled → after.states ≡ decided plan number Settled
        at_number rule same e = e ∙ ap (λ n. decided plan n Settled) same

-- ---- a plan takes a step

-- where a step is taken, all is so that is told of it
pub step_on : {T E : Type 0} (g : RuleGraph) (old : Planned) (event : PlanEvent) (new : Planned) (r : Result T E) → Goes old event new.states →
    OnOk r (Learns g old event new) → OnOk r (Fits g old → Fits g new) → AllFollow new → OnOk r (AreFrom g old → AreFrom g new) →
    OnOk r (AreNodes g event → Fits g old → AllMet old → AllMet new) →
    OnOk r (AreNodes g event → Fits g old → AreFrom g old → AllMet old → AreReached old → AreReached new) →
    OnOk r (AreNodes g event → Fits g old → AreFrom g old → AllMet old → AreReached old → KeepsSought old new) →
    OnOk r (new.notes.roots ≡ old.notes.roots) →
    OnOk r (AreNodes g event → Fits g old → AreFrom g old → AllMet old → AreReached old → IsComplete old → IsComplete new) →
    OnOk r (AreNodes g event → Fits g old → AreFrom g old → AllMet old → KeepsOrder old → KeepsOrder new) → OnOk r (IsStep g old event new)
step_on g old event later (Ok v) states knows fits follow origins needs only sought roots complete order = record {
  states = states;
  knows = knows;
  fits = fits;
  follow = follow;
  origins = origins;
  needs = needs;
  only = only;
  sought = sought;
  roots = roots;
  complete = complete;
  order = order;
}
step_on g old event later (Err e) states knows fits follow origins needs only sought roots complete order = tt

pub goes_on : (old new halts failed : Bool) → old ≡ false → halts ≡ false → failed ≡ false → new ≡ (old || (halts || failed)) → new ≡ false
goes_on old new halts failed a h f e = rw (e, a, h, f) refl

pub settles_on : {T E : Type 0} (b : Begun) (requested : List NodeId) (t : Tree) (g : RuleGraph) (inputs : Inputs) (plan : Planned) (around : Around) →
    IsOver b requested t g inputs plan around → (rule : RuleId) → IsDecidedNext plan rule.0 → (after : Planned) (r : Result T E) →
    OnOk r (IsStep g plan (told.Fresh rule) after) → after.halted ≡ (plan.halted || (is_halt (told.Fresh rule) || is_err r)) →
    OnOk r (IsOver b requested t g inputs after around)
settles_on b requested t g inputs plan around is rule next after (Ok v) step halted =
    settles_over b requested t g inputs plan around is rule.0 next rule refl after step
    (goes_on plan.halted after.halted false false is.goes refl refl halted)
settles_on b requested t g inputs plan around is rule next after (Err e) step halted = tt
