-- How a build goes along when a file was scanned.
use Rattle.std.proofs.Common.{◌≡◌, ◌≢◌, ◌≤◌, ◌∙◌, inl, inr, true, false, Bool, List, [], ◌∷◌, Some, length, refl, sym, subst, ap}
use Rattle.std.specs.Prelude.{slice_get}
use Rattle.scons_base.specs.declared.ids.NodeId.{NodeId}
use Rattle.scons_base.specs.declared.ids.RuleId.{RuleId}
use Rattle.rule_graph.specs.declared.rule.Rule as declared
use Rattle.rule_graph.specs.Graphs.{RuleGraph, path_of}
use Rattle.world_api.specs.Act.{Content}
use Rattle.world_api.specs.Around.{Around, IsRunningTarget}
use Rattle.world_api.specs.Calls.{Asks}
use Rattle.world_api.specs.Meaning.{Meaning}
use Rattle.task_plan.specs.Plans.{IsScannedNext}
use Rattle.scons_base.specs.declared.limits.TheConstants.{NODE_LIMIT}
use Rattle.task_plan.specs.Settled.{Kept}
use Rattle.task_plan.specs.States.{state_of}
use Rattle.task_plan.specs.declared.states.RuleState.TheVariants.{Unneeded, Waiting}
use Rattle.task_plan.specs.declared.want.PlanEvent.TheVariants as told
use Rattle.build_model.specs.Contents.{in_tree, found_in, includes_of}
use Rattle.build_model.specs.Reach.{IsScanned}
use Rattle.build_model.specs.Rules.{Path, Rule, Among, here, there}
use Rattle.build_model.specs.Steps.{Step}
use Rattle.build_model.proofs.Lists.{true_false, among_same}
use Rattle.build_means.specs.Grown.{Begun, rule_numbered}
use Rattle.build_means.specs.Rules.{IsReading, paths_of}
use Rattle.build_means.proofs.Growing.{get_front}
use Rattle.build_means.proofs.Lists.{some_same, at_place}
use Rattle.build_means.proofs.Readings.{node_path}
use Rattle.build_files.specs.Kept.{includes_in, past as looked_past, AreTrue, IsStill}
use Rattle.build_files.specs.Marked.{AreGoneOverFor}
use Rattle.build_files.specs.Reading.{ReadsOnly}
use Rattle.build_files.specs.Searched.{meant, AreNodesOf, GrowsTo}
use Rattle.build_files.specs.declared.inputs.Inputs.{Inputs}
use Rattle.scons_report.proofs.Found.{path_at, nodes_paths, nodes_below, first_target, paths_are, includes_by}
use Rattle.plan_means.specs.Growth.{Grows}
use Rattle.plan_means.specs.Planning.{IsGraphNow}
use Rattle.plan_means.specs.Scanning.{IsFoundIn, MayBeScanned}
use Rattle.plan_means.proofs.Growth.{numbered_stays}
use Rattle.plan_means.proofs.Knowing.{Knows as Known, knows as known_of, among_stands, file_scanned}
use Rattle.plan_means.proofs.Wanting.{may_be_scanned}
use Rattle.turn_means.specs.Laws.{IsTold, LooksOn}
use Rattle.run_means.specs.Clears.{Clears}
use Rattle.run_means.proofs.Clearing.{calls_clear}
use Rattle.turn_means.specs.Standing.{Outset, IsOutset, IsAt, begun_at, setting_at, Standing, Knows}
use Rattle.turn_means.proofs.Looked.{found_are_looked_for}
use Rattle.turn_means.proofs.Running.{ready_still, source_still}
use Rattle.turn_means.proofs.Turns.{looked, scanned}
use Rattle.build_run.specs.Along.{IsAlong, IsOn, standing_of}
use Rattle.build_run.specs.declared.site.Site.{Site}
use Rattle.build_run.specs.Books.{AreBooked, book_of}
use Rattle.build_run.proofs.Alongs.{ended_on}
use Rattle.build_run.proofs.Booking.{asks_booked}
use Rattle.build_run.proofs.Settling.{IsReadable, unread_still}

-- ---- a file was scanned

module _ {W O E : Type 0} (m : Meaning W) (o : Outset) (outset : IsOutset o) (old : Site W O E) (rule : RuleId) (file : NodeId)
    (along : IsAlong m o old) (next : IsScannedNext old.run.now.plan rule.0 file) where
  abbrev G : RuleGraph
  G = old.graph.now

  abbrev A : Around
  A = m.around old.world.now

  abbrev B : Begun
  B = begun_at o

  abbrev Past : List Step
  Past = along.on.past

  pub goes_on : old.account.now.is_ended ≡ false
  goes_on = by old.account.now.is_ended refl
    where
      by : (b : Bool) → old.account.now.is_ended ≡ b → b ≡ false
      by true e = true_false (sym (along.halted e) ∙ next.goes)
      by false e = refl

  known : Knows o (standing_of m old) Past
  known = along.on.at.knows goes_on

  may : MayBeScanned B G A.tree Past rule.0 file
  may = may_be_scanned B G o.wanted.requested A.tree Past old.run.now.plan rule.0 file known.now known.ties next

  file_at : slice_get G.nodes file.0 ≡ Some (path_of G.nodes file)
  file_at = node_path G known.now.reading file may.node

  readable : (path : Path) → slice_get G.nodes file.0 ≡ Some path → IsReadable o A Past path
  readable path at = subst (λ (p : Path). IsReadable o A Past p) (path_at G file path at) may.ready

  -- no running job writes it
  pub still : IsStill G A file.0
  still path at target = elim (readable path at) [
    | inl ready ↦ ready_still o outset along.on.jobs A Past along.on.at.way ready target
    | inr missing ↦ source_still o outset along.on.jobs A Past along.on.at.way path missing.no_rule target
  ]

  needed : state_of old.run.now.plan.states rule.0 ≢ Unneeded
  needed u = let no : Waiting ≡ Unneeded = sym next.ready.waits ∙ u in cc

  k : Known B G old.run.now.plan rule.0
  k = known_of B G o.wanted.requested A.tree Past old.run.now.plan known.now known.ties rule.0 needed

  -- it is scanned for the rule by the files as they are
  scans : IsScanned (found_in (setting_at o) (in_tree A.tree) k.rule) k.rule (path_of G.nodes file)
  unfolding k
  scans =
      file_scanned B G o.wanted.requested A.tree Past old.run.now.plan known.now known.ties rule.0 needed
      (found_in (setting_at o) (in_tree A.tree) k.rule)
      (λ n e. (known.ties.sees.each rule.0 k.kept k.rule needed k.at k.numbered n e).includes) file
      (among_stands k.kept.files file
      (at_place k.kept.files next.ready.place
      (ap (λ (x : Kept). slice_get x.files next.ready.place) (some_same (sym k.at ∙ next.ready.at)) ∙ next.ready.is_file)))

  -- an end may come behind a look
  pub scan_ends : (after : Around) → Asks A after → (s : Standing) → s.around ≡ after → s.ended ≡ true → s.faulted ≡ true →
      s.plan.halted ≡ old.run.now.plan.halted → IsOn o (book_of old) s
  scan_ends after asks s same ended faulted halted =
      ended_on o outset (book_of old) (standing_of m old) s along.on
      (subst (λ a. Clears [] A a) (sym same) ((calls_clear []).looks A after asks)) ended faulted halted

  module _ (h : RuleGraph) (inputs : Inputs) (after : Around) (found : List NodeId) (asks : Asks A after) (grows : GrowsTo G h)
      (reading : IsReading h) (room : length h.nodes ≤ NODE_LIMIT)
      (gone : inputs.gone ≡ old.run.now.inputs.gone) (only : ReadsOnly (file ∷ []) old.run.now.inputs inputs)
      (truth : AreTrue B h inputs after)
      (over : AreGoneOverFor h inputs rule.0 found)
      (meaning : (x : declared.Rule) (path : Path) → slice_get G.rules rule.0 ≡ Some x → slice_get G.nodes file.0 ≡ Some path →
      AreNodesOf h (meant B x.paths path (includes_in (looked_past old.run.now.inputs.gone.keys A.tree path))) found) where
    abbrev Mid : Standing
    Mid = record (standing_of m old) { graph = h; inputs = inputs; around = after }

    grown : Grows G h
    grown = record { more = grows.more; nodes = grows.nodes; added = grows.added; rules = grows.rules }

    now : IsGraphNow B h
    now = record { read = known.now.read; reading = reading; grown = truth.grown; room = room }

    path_stays : path_of h.nodes file ≡ path_of G.nodes file
    path_stays =
        path_at h file (path_of G.nodes file)
        (ap (λ nodes. slice_get nodes file.0) grows.nodes ∙ get_front G.nodes grows.more file.0 (path_of G.nodes file) file_at)

    only_file : {n : NodeId} → Among n (file ∷ []) → n ≡ file
    only_file here = refl
    only_file (there n) = elim n [ ]

    readable_now : (n : NodeId) (path : Path) → Among n (file ∷ []) → slice_get h.nodes n.0 ≡ Some path → IsReadable o A Past path
    readable_now n path among at =
        readable path
        (file_at ∙ ap Some (sym path_stays ∙ path_at h file path (ap (λ (x : NodeId). slice_get h.nodes x.0) (sym (only_file among)) ∙ at)))

    looks_on : LooksOn o Past (standing_of m old) Mid
    looks_on = record {
      plan = refl;
      records = refl;
      faulted = refl;
      ended = refl;
      around = asks;
      grows = grown;
      now = λ was. now;
      truth = λ was. truth;
      gone = gone;
      unread = unread_still o outset along.on.jobs A Past along.on.at.way G h grows.more grows.nodes old.run.now.inputs inputs known.truth
          (file ∷ []) readable_now only;
    }

    at_mid : IsAt o along.on.jobs Mid Past
    at_mid = looked o outset along.on.jobs (standing_of m old) Mid Past along.on.at looks_on

    free : IsRunningTarget A.running (path_of G.nodes file) → ⊥
    free = still (path_of G.nodes file) file_at

    -- no file is looked past
    meaning_now : AreNodesOf h (meant B k.of.paths (path_of G.nodes file) (includes_in (A.tree (path_of G.nodes file)))) found
    meaning_now =
        subst (λ (gone : List Path). AreNodesOf h (meant B k.of.paths (path_of G.nodes file) (includes_in (looked_past gone A.tree (path_of G.nodes file)))) found)
        known.none_gone (meaning k.of (path_of G.nodes file) k.stands file_at)

    found_is : (r : Rule) → rule_numbered B h rule.0 ≡ Some r →
        found_in (setting_at o) (in_tree after.tree) r (path_of h.nodes file) ≡ paths_of h found
    found_is r e =
        let same : r ≡ k.rule =
        some_same (sym e ∙ numbered_stays B G h known.now now grown rule.0 k.of k.stands ∙ k.numbered) in
        let target = first_target G k.of.targets k.is.has_target in
        let dirs = paths_are B G known.now rule.0 k.rule k.numbered k.of target.0
        (found_in (setting_at o) (in_tree A.tree) k.rule) (path_of G.nodes file) k.stands (among_same k.names.targets target.1) scans in
        ap (λ (q : Rule). found_in (setting_at o) (in_tree after.tree) q (path_of h.nodes file)) same
        ∙ ap (found_in (setting_at o) (in_tree after.tree) k.rule) path_stays
        ∙ ap (λ (c : Content). includes_of ((setting_at o).includes k.rule (path_of G.nodes file)) (Some c)) (asks.files (path_of G.nodes file) free)
        ∙ includes_by B G known.now rule.0 k.rule k.numbered (A.tree (path_of G.nodes file)) k.of.paths (path_of G.nodes file) dirs
        ∙ sym (nodes_paths h _ found meaning_now)

    is_found : IsFoundIn B h after.tree old.run.now.plan rule file found
    is_found = record {
      nodes = nodes_below h _ found meaning_now;
      includes = found_is;
      looked = found_are_looked_for B h inputs after old.run.now.plan rule file found now
          (nodes_below h _ found meaning_now) truth over.over over.these
          (at_mid.knows goes_on).ties.plan_for.fits known.ties.plan_for.follow next;
    }

    -- The build goes along where the plan is told.
    pub scan_told : (s : Standing) → IsTold Mid s (told.Scanned rule found) → IsOn o (book_of old) s
    scan_told s is = record {
      jobs = along.on.jobs;
      past = Past;
      at = scanned o outset along.on.jobs Mid s Past rule file found at_mid goes_on next is_found is;
      began = along.on.began;
      booked = λ e.
          subst (λ (a : Around). AreBooked o a Past (book_of old)) (sym (ap (λ (x : Standing). x.around) is.rest))
          (asks_booked o outset along.on.jobs A after Past along.on.at.way (book_of old) asks (along.on.booked e));
    }
