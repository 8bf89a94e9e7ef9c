-- What a tied plan knows of a needed rule, by paths.
use Rattle.std.proofs.Common.{◌≡◌, ◌≢◌, ◌<◌, ◌≤◌, ℕ, zero, suc, Bool, true, false, List, [], ◌++◌, length, Some, None, refl, sym, subst, ap, ◌∙◌, inl, inr, ◌⊎◌, ltb-true, arith}
use Rattle.std.specs.Prelude.{slice_get, nat_eq, nat_lt}
use Rattle.std.specs.List.{list_all, flat_map}
use Rattle.std.proofs.lemmas.List.Folds.{list_any-append, list_all-append}
use Rattle.scons_base.specs.declared.ids.NodeId.{NodeId}
use Rattle.rule_graph.specs.declared.rule.Rule as declared
use Rattle.rule_graph.specs.Graphs.{RuleGraph, path_of}
use Rattle.rule_graph.specs.Rules.{are_below, rule_of, IsRule}
use Rattle.task_plan.specs.States.{state_of}
use Rattle.task_plan.specs.Named.{stands}
use Rattle.task_plan.specs.Settled.{Kept, origin_of, is_scanned, is_done, is_done_from, is_settled}
use Rattle.task_plan.specs.Listed.{included}
use Rattle.task_plan.specs.Plans.{Planned}
use Rattle.task_plan.specs.Met.{is_met, IsFrom, needs_in, needs_at}
use Rattle.task_plan.specs.declared.files.Origin.{Origin}
use Rattle.task_plan.specs.declared.files.Origin.TheVariants.{Unmet, Source, Made}
use Rattle.task_plan.specs.declared.states.RuleState.{RuleState}
use Rattle.task_plan.specs.declared.states.RuleState.TheVariants.{Unneeded, Waiting, Running, Settled, Failed, Lacking}
use Rattle.task_plan.proofs.ListLemmas.{and_both, get-within}
use Rattle.task_plan.proofs.NamedLemmas.{put_all_longer}
use Rattle.task_plan.proofs.WalkLemmas.{included_none, within_or}
use Rattle.task_plan.proofs.MetNeeds.{all_put_all, all_stands, stands_at, put_all_not_out}
use Rattle.task_plan.proofs.NextLemmas.{place_of_stands}
use Rattle.build_model.specs.Rules.{Path, Content, Tree, Rule, Among}
use Rattle.build_model.specs.Reach.{left_out, IsScanned, scans_source, scans_found, Reaches, is_declared, is_scanned as scanned_there}
use Rattle.build_model.specs.Graphs.{rule_at}
use Rattle.build_model.specs.Steps.{Step, settled, done, IsReady, is_source, is_made, IsMissing}
use Rattle.build_model.proofs.Lists.{true_false, none_some, some_same, among_has, among_same}
use Rattle.build_means.specs.Rules.{paths_of}
use Rattle.build_means.specs.Grown.{Begun, begun_graph, begun_setting, rule_numbered}
use Rattle.build_means.proofs.Growing.{are_rules}
use Rattle.build_means.proofs.Lists.{or_either, or_first, or_second, map_among, at_place, place_of}
use Rattle.build_means.proofs.Readings.{node_path}
use Rattle.plan_means.specs.Names.{AreNames}
use Rattle.plan_means.specs.Lists.{KeepsRule}
use Rattle.plan_means.specs.Planning.{IsGraphNow}
use Rattle.plan_means.specs.Ties.{IsAt, Ties}
use Rattle.plan_means.proofs.Names.{is_named, named_below, scanned_below, stands_all, unscanned_sources}
use Rattle.plan_means.proofs.Reaching.{files_below, sources_once, no_files}

-- a node stands among others, as one of them
pub stands_among : (nodes : List NodeId) (n : NodeId) → stands nodes n ≡ true → Among n nodes
stands_among nodes n h = let p = place_of_stands nodes n h in at_place nodes p.0 p.1

pub among_stands : (nodes : List NodeId) (n : NodeId) → Among n nodes → stands nodes n ≡ true
among_stands nodes n m = let p = place_of m in stands_at nodes p.0 n p.1

-- by path, too
pub path_among : (g : RuleGraph) (nodes : List NodeId) (n : NodeId) → stands nodes n ≡ true →
    Among (path_of g.nodes n) (paths_of g nodes)
path_among g nodes n h = map_among (path_of g.nodes) (stands_among nodes n h)

pub one_below : (g : RuleGraph) (nodes : List NodeId) (n : NodeId) → are_below (length g.nodes) nodes ≡ true →
    stands nodes n ≡ true → n.0 < length g.nodes
one_below g nodes n below h =
    ltb-true n.0 (length g.nodes) (all_stands (λ t. nat_lt t.0 (length g.nodes)) nodes n below h)

-- a dependency, or a required file, is a need
pub in_needs : (required deps : List NodeId) (n : NodeId) → stands deps n ≡ true → stands (required ++ deps) n ≡ true
in_needs required deps n h = list_any-append (λ m. nat_eq n.0 m.0) required deps
    ∙ or_second (stands required n) (stands deps n) h

pub in_required : (required deps : List NodeId) (n : NodeId) → stands required n ≡ true →
    stands (required ++ deps) n ≡ true
in_required required deps n h = list_any-append (λ m. nat_eq n.0 m.0) required deps
    ∙ or_first (stands required n) (stands deps n) h

-- what a plan knows of a needed rule
pub record Knows (b : Begun) (g : RuleGraph) (plan : Planned) (number : ℕ) : Type 0 where
  pub kept : Kept
  pub at : slice_get plan.rules number ≡ Some kept
  pub of : declared.Rule
  pub stands : slice_get g.rules number ≡ Some of
  pub is : IsRule (length g.nodes) of
  pub rule : Rule
  pub numbered : rule_numbered b g number ≡ Some rule
  pub names : AreNames g of rule
  pub keeps : KeepsRule g of kept

module _ (b : Begun) (g : RuleGraph) (requested : List NodeId) (t : Tree) (past : List Step) (plan : Planned)
    (now : IsGraphNow b g)
    (ties : Ties b g requested t past plan) where
  pub knows : (number : ℕ) → state_of plan.states number ≢ Unneeded → Knows b g plan number
  knows number needed =
      let k = ties.plan_for.fits number needed in
      let is = now.reading.named.each_rule number k.of k.at in
      let n = is_named b g now.grown now.reading number k.of k.at in
      record {
        kept = k.kept;
        at = k.is;
        of = k.of;
        stands = k.at;
        is = is;
        rule = n.rule;
        numbered = n.is;
        names = n.names;
        keeps = record {
          targets = k.targets;
          required = k.required;
          named = k.named;
          sources = k.sources;
          left_out = k.left_out;
          follows = ties.plan_for.follow number k.kept k.is k.whole;
          nodes = ties.sees.nodes number k.kept needed k.is;
        };
      }

  -- the kept ones are these
  pub same_kept : (number : ℕ) (needed : state_of plan.states number ≢ Unneeded) (kept : Kept) →
      slice_get plan.rules number ≡ Some kept →
      (knows number needed).kept ≡ kept
  same_kept number needed kept at = some_same (sym (knows number needed).at ∙ at)

  pub same_rule : (number : ℕ) (needed : state_of plan.states number ≢ Unneeded) (r : Rule) →
      rule_numbered b g number ≡ Some r →
      (knows number needed).rule ≡ r
  same_rule number needed r is = some_same (sym (knows number needed).numbered ∙ is)

  -- a rule makes the file, by path
  pub rule_made : (n : NodeId) (m : ℕ) → n.0 < length g.nodes → rule_of g.rules n.0 ≡ Some m →
      rule_at (begun_graph b) b.tree (path_of g.nodes n) ≡ rule_numbered b g m
  rule_made n m lt of = (are_rules b g now.read now.reading now.grown).rules n.0 m (path_of g.nodes n)
      (node_path g now.reading n lt) of

  module _ (number : ℕ) (needed : state_of plan.states number ≢ Unneeded) where
    abbrev pub k : Knows b g plan number
    k = knows number needed

    pub required_below : are_below (length g.nodes) k.kept.required ≡ true
    required_below = ap (are_below (length g.nodes)) k.keeps.required ∙ k.is.required

    pub names_below : are_below (length g.nodes) k.kept.named ≡ true
    names_below = ap (are_below (length g.nodes)) k.keeps.named ∙ named_below g now.reading k.of k.is

    pub sources_below : are_below (length g.nodes) k.kept.sources ≡ true
    sources_below = ap (are_below (length g.nodes)) k.keeps.sources ∙ scanned_below g now.reading k.of k.is

    pub all_files_below : are_below (length g.nodes) k.kept.files ≡ true
    all_files_below =
        files_below g now.reading k.kept.sources k.kept.left_out k.kept.found k.kept.files k.keeps.follows.files
        (sources_once g k.of k.kept k.keeps) k.keeps.nodes sources_below

    pub deps_below : are_below (length g.nodes) k.kept.deps ≡ true
    deps_below =
        ap (are_below (length g.nodes)) k.keeps.follows.deps
        ∙ all_put_all (λ t. nat_lt t.0 (length g.nodes)) [] k.kept.named k.kept.files names_below all_files_below

    pub needs_all_below : are_below (length g.nodes) (k.kept.required ++ k.kept.deps) ≡ true
    needs_all_below =
        list_all-append (λ t. nat_lt t.0 (length g.nodes)) k.kept.required k.kept.deps
        ∙ and_both (are_below (length g.nodes) k.kept.required) (are_below (length g.nodes) k.kept.deps)
        required_below deps_below

    -- what is found where scanned files include what was found in them
    module _ (f : Path → List Path) (agrees : (file : NodeId) → is_scanned k.kept.found file ≡ true →
        f (path_of g.nodes file) ≡ paths_of g (included k.kept.found file)) where
      scans_by : (b : Bool) → k.of.scans ≡ b → (i : ℕ) (n : NodeId) → slice_get k.kept.files i ≡ Some n →
          k.of.scans ≡ true
      scans_by true e i n at = e
      scans_by false e i n at =
          let none : k.kept.sources ≡ [] = k.keeps.sources ∙ unscanned_sources g k.of e in
          let files = no_files k.kept.sources k.kept.left_out k.kept.found k.kept.files k.keeps.follows.files none in
          none_some (sym (ap (λ (l : List NodeId). slice_get l i) files) ∙ at)

      not_left_out : (i : ℕ) (n : NodeId) → slice_get k.kept.files i ≡ Some n → length k.kept.sources ≤ i →
          Among (path_of g.nodes n) (left_out k.rule) → ⊥
      not_left_out i n at le m =
          let lt = one_below g k.kept.files n all_files_below (stands_at k.kept.files i n at) in
          let whole = k.keeps.follows.files.whole in
          let new : stands k.kept.left_out n ≡ false =
          put_all_not_out k.kept.left_out k.kept.sources (flat_map (included k.kept.found) k.kept.files) n i le
          (sym (ap (λ (l : List NodeId). slice_get l i) whole) ∙ at) in
          let names = k.names.left_out (scans_by k.of.scans refl i n at) n lt in
          true_false (sym (among_has m) ∙ sym names ∙ sym (ap (λ (l : List NodeId). stands l n) k.keeps.left_out) ∙ new)

      source_scanned : (i : ℕ) (n : NodeId) → slice_get k.kept.files i ≡ Some n → i < length k.kept.sources →
          IsScanned f k.rule (path_of g.nodes n)
      source_scanned i n at lt =
          let l = put_all_longer k.kept.left_out k.kept.sources (flat_map (included k.kept.found) k.kept.files) in
          let source : slice_get k.kept.sources i ≡ Some n =
          sym (get-within k.kept.sources l.more i lt) ∙ ap (λ (xs : List NodeId). slice_get xs i)
          (sym (k.keeps.follows.files.whole ∙ l.is)) ∙ at in
          scans_source (among_same (ap (paths_of g) k.keeps.sources ∙ k.names.scanned)
          (path_among g k.kept.sources n (stands_at k.kept.sources i n source)))

      include_by : (by n : NodeId) (c : Bool) → is_scanned k.kept.found by ≡ c →
          stands (included k.kept.found by) n ≡ true →
          Among (path_of g.nodes n) (f (path_of g.nodes by))
      include_by by n true e h = among_same (sym (agrees by e)) (path_among g (included k.kept.found by) n h)
      include_by by n false e h =
          true_false (sym h ∙ ap (λ (l : List NodeId). stands l n) (included_none k.kept.found by e))

      file_by : (fuel i : ℕ) (n : NodeId) → i < fuel → slice_get k.kept.files i ≡ Some n →
          (i < length k.kept.sources) ⊎ (length k.kept.sources ≤ i) →
          IsScanned f k.rule (path_of g.nodes n)
      file_by zero i n lt at h = absurd (omega arith)
      file_by (suc fuel) i n lt at (inl in_sources) = source_scanned i n at in_sources
      file_by (suc fuel) i n lt at (inr past_them) =
          let before = k.keeps.follows.files.earlier i n at past_them in
          let place_lt : before.place < fuel = let one = before.before in omega arith in
          scans_found (path_of g.nodes before.by)
          (file_by fuel before.place before.by place_lt before.at (within_or before.place (length k.kept.sources)))
          (include_by before.by n (is_scanned k.kept.found before.by) refl before.includes)
          (not_left_out i n at past_them)

      -- a file of the rule is scanned for it
      pub file_scanned : (n : NodeId) → stands k.kept.files n ≡ true → IsScanned f k.rule (path_of g.nodes n)
      file_scanned n h =
          let p = place_of_stands k.kept.files n h in
          let lt : p.0 < suc p.0 = omega arith in
          file_by (suc p.0) p.0 n lt p.1 (within_or p.0 (length k.kept.sources))

      dep_by : (n : NodeId) → (stands k.kept.named n ≡ true) ⊎ (stands k.kept.files n ≡ true) →
          Reaches f k.rule (path_of g.nodes n)
      dep_by n (inl h) =
          is_declared (among_same (ap (paths_of g) k.keeps.named ∙ k.names.named) (path_among g k.kept.named n h))
      dep_by n (inr h) = scanned_there (file_scanned n h)

      -- and a dependency is reached
      pub dep_reached : (n : NodeId) → stands k.kept.deps n ≡ true → Reaches f k.rule (path_of g.nodes n)
      dep_reached n h =
          dep_by n (or_either (stands k.kept.named n) (stands k.kept.files n)
          (sym (stands_all k.kept.named k.kept.files n)
          ∙ ap (λ (l : List NodeId). stands l n) (sym k.keeps.follows.deps) ∙ h))

  -- a needed file is met
  pub needed_met : (number : ℕ) (needed : state_of plan.states number ≢ Unneeded) (n : NodeId) →
      stands ((k number needed).kept.required ++ (k number needed).kept.deps) n ≡ true → is_met plan.origins n ≡ true
  needed_met number needed n h =
      let know = knows number needed in
      let all = ties.plan_for.met.each number know.kept needed know.at in
      all_stands (λ x. is_met plan.origins x) (know.kept.required ++ know.kept.deps) n
      (list_all-append (λ x. is_met plan.origins x) know.kept.required know.kept.deps
      ∙ and_both (list_all (λ x. is_met plan.origins x) know.kept.required)
      (list_all (λ x. is_met plan.origins x) know.kept.deps) all.required all.deps) h

  settled_by : (o : RuleState) → is_settled o ≡ true → o ≡ Settled
  settled_by Unneeded e = true_false (sym e)
  settled_by Waiting e = true_false (sym e)
  settled_by Running e = true_false (sym e)
  settled_by Settled e = refl
  settled_by Failed e = true_false (sym e)
  settled_by Lacking e = true_false (sym e)

  is_unneeded : RuleState → Bool
  is_unneeded Unneeded = true
  is_unneeded Waiting = false
  is_unneeded Running = false
  is_unneeded Settled = false
  is_unneeded Failed = false
  is_unneeded Lacking = false

  settled_needed : (o : RuleState) → o ≡ Settled → o ≢ Unneeded
  unfolding is_unneeded
  settled_needed o e u = true_false (sym (ap is_unneeded (sym e ∙ u)))

  source_ready : (p : Path) (c : Content) → t p ≡ c → rule_at (begun_graph b) b.tree p ≡ None →
      IsReady (begun_setting b) t (settled past) p ⊎ IsMissing (begun_setting b) t p
  source_ready p None e none = inr (record { no_rule = none; no_file = e })
  source_ready p (Some bytes) e none = inl (is_source bytes none e)

  made_ready : (n : NodeId) (m : ℕ) → n.0 < length g.nodes → rule_of g.rules n.0 ≡ Some m →
      state_of plan.states m ≡ Settled →
      IsReady (begun_setting b) t (settled past) (path_of g.nodes n)
  made_ready n m lt of is =
      let know = knows m (settled_needed (state_of plan.states m) is) in
      is_made know.rule (rule_made n m lt of ∙ know.numbered)
      (subst (λ (o : RuleState). IsAt past know.rule o) is (ties.states m know.rule know.numbered))

  done_by : (number : ℕ) (n : NodeId) (o : Origin) → state_of plan.states number ≢ Unneeded →
      stands (needs_at plan.rules number) n ≡ true → n.0 < length g.nodes → origin_of plan.origins n.0 ≡ o →
      IsFrom g plan.states n.0 o → is_done_from plan.states o ≡ true →
      IsReady (begun_setting b) t (settled past) (path_of g.nodes n) ⊎ IsMissing (begun_setting b) t (path_of g.nodes n)
  done_by number n Unmet needed need lt e from h = true_false (sym h)
  done_by number n Source needed need lt e from h = source_ready (path_of g.nodes n) (t (path_of g.nodes n)) refl
      (ties.sources number n needed need e)
  done_by number n (Made m) needed need lt e from h =
      inl (made_ready n m.0 lt from.0 (settled_by (state_of plan.states m.0) h))

  pub need_below : (number : ℕ) (needed : state_of plan.states number ≢ Unneeded) (n : NodeId) →
      stands ((k number needed).kept.required ++ (k number needed).kept.deps) n ≡ true → n.0 < length g.nodes
  need_below number needed n h = one_below g ((k number needed).kept.required ++ (k number needed).kept.deps) n
      (needs_all_below number needed) h

  -- what it requires and depends on stands among its needs
  pub need_at : (number : ℕ) (needed : state_of plan.states number ≢ Unneeded) (n : NodeId) →
      stands ((k number needed).kept.required ++ (k number needed).kept.deps) n ≡ true →
      stands (needs_at plan.rules number) n ≡ true
  need_at number needed n h = ap (λ o. stands (needs_in o) n) (k number needed).at ∙ h

  -- a file that a needed rule needs, and that is done, waits for nothing or is missing
  pub done_ready : (number : ℕ) (needed : state_of plan.states number ≢ Unneeded) (n : NodeId) →
      stands ((k number needed).kept.required ++ (k number needed).kept.deps) n ≡ true →
      is_done plan.states plan.origins n ≡ true →
      IsReady (begun_setting b) t (settled past) (path_of g.nodes n) ⊎ IsMissing (begun_setting b) t (path_of g.nodes n)
  done_ready number needed n h done =
      done_by number n (origin_of plan.origins n.0) needed (need_at number needed n h) (need_below number needed n h)
      refl (ties.plan_for.from.each n.0) done
