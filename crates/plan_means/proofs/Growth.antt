-- A plan stays tied while its graph grows.
use Rattle.std.proofs.Common.{◌≡◌, ◌≢◌, ◌<◌, ◌≤◌, ℕ, zero, suc, Bool, true, false, ◌&&◌, List, [], ◌∷◌, length, Option, Some, None, refl, sym, subst, ap, ◌∙◌, inl, inr, ◌⊎◌, ltb-true, arith}
use Rattle.std.specs.Prelude.{slice_get, nat_eq, nat_lt, filter, if◌then◌else◌}
use Rattle.std.specs.Option.{option_map, unwrap_or}
use Rattle.std.specs.List.{cons_option}
use Rattle.std.proofs.lemmas.List.{length-append}
use Rattle.std.proofs.lemmas.Option.{slice_get_within}
use Rattle.scons_base.specs.declared.ids.NodeId.{NodeId}
use Rattle.scons_base.specs.declared.ids.RuleId.{RuleId}
use Rattle.rule_graph.specs.declared.rule.Rule as declared
use Rattle.rule_graph.specs.Graphs.{RuleGraph, path_of}
use Rattle.rule_graph.specs.Rules.{are_below, rule_of, is_target_of, IsRule}
use Rattle.task_plan.specs.States.{state_of}
use Rattle.task_plan.specs.Named.{stands, put_all, sources_of, is_scanned_node, scanned_of}
use Rattle.task_plan.specs.Settled.{Kept, origin_of, is_scanned}
use Rattle.task_plan.specs.Listed.{included}
use Rattle.task_plan.specs.Plans.{Planned}
use Rattle.task_plan.specs.Met.{is_met, is_met_from, IsFrom, needs_in, needs_at}
use Rattle.task_plan.specs.Admits.{IsKnown}
use Rattle.task_plan.specs.Rooted.{makers_in, IsSoughtBy}
use Rattle.task_plan.specs.declared.files.Origin.{Origin}
use Rattle.task_plan.specs.declared.files.Origin.TheVariants.{Unmet, Source, Made}
use Rattle.task_plan.specs.declared.states.RuleState.{RuleState}
use Rattle.task_plan.specs.declared.states.RuleState.TheVariants.{Unneeded}
use Rattle.task_plan.proofs.ListLemmas.{get-front, get-within, list_all_weaker}
use Rattle.task_plan.proofs.MetNeeds.{stands_at}
use Rattle.task_plan.proofs.AdmitLemmas.{lt_true, unneeded_or}
use Rattle.task_plan.proofs.WalkLemmas.{within_or}
use Rattle.build_model.specs.Rules.{Path, Tree, Rule, Among}
use Rattle.build_model.specs.Contents.{in_tree, found_in}
use Rattle.build_model.specs.Graphs.{rule_at}
use Rattle.build_model.specs.Steps.{Step, settled, began, done, IsReady, IsMissing}
use Rattle.build_model.proofs.Lists.{true_false, none_some, some_same}
use Rattle.build_means.specs.Rules.{paths_of, rule_in, scanned_in, is_scanned_path}
use Rattle.build_means.specs.Grown.{Begun, begun_graph, begun_setting, rule_numbered, or_copy_in, copy_in}
use Rattle.build_means.proofs.Growing.{are_rules}
use Rattle.build_means.proofs.Lists.{or_second, first_place}
use Rattle.build_means.proofs.Readings.{node_path}
use Rattle.plan_means.specs.Planning.{IsGraphNow, IsPlanFor}
use Rattle.plan_means.specs.Ties.{IsNew, IsAt, IsSeen, Ties}
use Rattle.plan_means.specs.Growth.{Grows}
use Rattle.plan_means.proofs.Names.{is_named, sources_below, scanned_node}
use Rattle.plan_means.proofs.Single.{numbered_stands, one_number}
use Rattle.plan_means.proofs.Knowing.{Knows, knows, one_below, need_below, same_kept, all_files_below}

module _ (b : Begun) (g h : RuleGraph) (before : IsGraphNow b g) (now : IsGraphNow b h) (grows : Grows g h) where
  longer : length g.nodes ≤ length h.nodes
  longer = let n = length-append g.nodes grows.more in let m = ap length grows.nodes in omega arith

  pub path_stays : (n : NodeId) → n.0 < length g.nodes → path_of h.nodes n ≡ path_of g.nodes n
  path_stays n lt =
      ap (λ nodes. unwrap_or (slice_get nodes n.0) []) grows.nodes
      ∙ ap (λ o. unwrap_or o []) (get-within g.nodes grows.more n.0 lt)

  pub paths_stay : (nodes : List NodeId) → are_below (length g.nodes) nodes ≡ true → paths_of h nodes ≡ paths_of g nodes
  paths_stay [] below = refl
  paths_stay (n ∷ nodes) below =
      ap (λ p. p ∷ paths_of h nodes) (path_stays n (one_below g (n ∷ nodes) n below (stands_at (n ∷ nodes) 0 n refl)))
      ∙ ap (λ l. path_of g.nodes n ∷ l) (paths_stay nodes
      (rest (nat_lt n.0 (length g.nodes)) (are_below (length g.nodes) nodes) below))
    where
      rest : (c d : Bool) → (c && d) ≡ true → d ≡ true
      rest true d e = e
      rest false d e = true_false (sym e)

  pub below_stays : (nodes : List NodeId) → are_below (length g.nodes) nodes ≡ true →
      are_below (length h.nodes) nodes ≡ true
  below_stays nodes below =
      list_all_weaker (λ t. nat_lt t.0 (length g.nodes)) (λ t. nat_lt t.0 (length h.nodes)) nodes
      (λ t e. lt_true t.0 (length h.nodes)
      (let lt = ltb-true t.0 (length g.nodes) e in let le = longer in omega arith)) below

  pub rule_stands : (number : ℕ) (of : declared.Rule) → slice_get g.rules number ≡ Some of →
      slice_get h.rules number ≡ Some of
  rule_stands number of at = ap (λ rules. slice_get rules number) grows.rules
      ∙ get-front g.rules grows.added number of at

  -- a node keeps its rule
  pub maker_stays : (n m : ℕ) → rule_of g.rules n ≡ Some m → rule_of h.rules n ≡ Some m
  maker_stays n m e =
      let place = first_place (λ r. is_target_of r.targets n) g.rules m e in
      now.reading.single m n place.0 (rule_stands m place.0 place.1) place.2

  scanned_stay_by : (c : Bool) (l m : List Path) → l ≡ m →
      (if c then filter is_scanned_path l else []) ≡ (if c then filter is_scanned_path m else [])
  scanned_stay_by true l m e = ap (filter is_scanned_path) e
  scanned_stay_by false l m e = refl

  -- a rule is the same rule of the model
  rule_same : (of : declared.Rule) → IsRule (length g.nodes) of → rule_in h of ≡ rule_in g of
  rule_same of is =
      let targets = paths_stay of.targets is.targets in
      let sources = paths_stay of.sources is.sources in
      let scanned : scanned_in h of ≡ scanned_in g of = scanned_stay_by of.scans (paths_of h of.sources)
      (paths_of g of.sources) sources in
      let depends = paths_stay of.depends is.depends in
      let libs = paths_stay of.libs is.libs in
      let ignored = paths_stay of.ignored is.ignored in
      let required = paths_stay of.required is.required in
      λ i. record (rule_in h of) {
        targets = targets i;
        sources = sources i;
        scanned = scanned i;
        depends = depends i;
        libraries = libs i;
        ignored = ignored i;
        required = required i;
      }

  numbered_by : (number : ℕ) (of : declared.Rule) → slice_get g.rules number ≡ Some of → (o : Option declared.Rule) →
      slice_get b.graph.rules number ≡ o →
      rule_numbered b h number ≡ rule_numbered b g number
  numbered_by number of at (Some x) e =
      let is = before.reading.named.each_rule number of at in
      let same : x ≡ of =
      some_same (sym
      (ap (λ rules. slice_get rules number) before.grown.rules
      ∙ get-front b.graph.rules before.grown.copies number x e) ∙ at) in
      ap (λ o. or_copy_in h o (slice_get h.rules number)) e ∙ ap (λ y. Some (rule_in h y)) same
      ∙ ap Some (rule_same of is)
      ∙ ap (λ y. Some (rule_in g y)) (sym same) ∙ sym (ap (λ o. or_copy_in g o (slice_get g.rules number)) e)
  numbered_by number of at None e =
      let is = before.reading.named.each_rule number of at in
      ap (λ o. or_copy_in h o (slice_get h.rules number)) e ∙ ap (option_map (copy_in h)) (rule_stands number of at)
      ∙ ap (λ (r : Rule). Some (record r { copies = true })) (rule_same of is)
      ∙ sym (ap (λ o. or_copy_in g o (slice_get g.rules number)) e ∙ ap (option_map (copy_in g)) at)

  -- each number stands for the rule that it stood for
  pub numbered_stays : (number : ℕ) (of : declared.Rule) → slice_get g.rules number ≡ Some of →
      rule_numbered b h number ≡ rule_numbered b g number
  numbered_stays number of at = numbered_by number of at (slice_get b.graph.rules number) refl

  filter_by : (n : NodeId) (nodes : List NodeId) (c d : Bool) → c ≡ d →
      filter (is_scanned_node h) nodes ≡ filter (is_scanned_node g) nodes →
      (if c then n ∷ filter (is_scanned_node h) nodes else filter (is_scanned_node h) nodes) ≡ (if d then n ∷ filter
      (is_scanned_node g) nodes else filter (is_scanned_node g) nodes)
  filter_by n nodes true true e f = ap (λ l. n ∷ l) f
  filter_by n nodes false false e f = f
  filter_by n nodes true false e f = true_false e
  filter_by n nodes false true e f = true_false (sym e)

  filter_stays : (nodes : List NodeId) → ((n : NodeId) → stands nodes n ≡ true → n.0 < length g.nodes) →
      filter (is_scanned_node h) nodes ≡ filter (is_scanned_node g) nodes
  filter_stays [] below = refl
  filter_stays (n ∷ nodes) below =
      filter_by n nodes (is_scanned_node h n) (is_scanned_node g n)
      (scanned_node h n ∙ ap is_scanned_path (path_stays n (below n (stands_at (n ∷ nodes) 0 n refl)))
      ∙ sym (scanned_node g n))
      (filter_stays nodes (λ x m. below x (or_second (nat_eq x.0 n.0) (stands nodes x) m)))

  -- the same sources are scanned
  pub scanned_stays : (of : declared.Rule) → IsRule (length g.nodes) of → scanned_of h of ≡ scanned_of g of
  scanned_stays of is = by of.scans
    where
      by : (c : Bool) →
          (if c then put_all [] [] (filter (is_scanned_node h) (sources_of of)) else []) ≡ (if c then put_all [] []
          (filter (is_scanned_node g) (sources_of of)) else [])
      by true =
          ap (put_all [] []) (filter_stays (sources_of of)
          (λ n m. one_below g (sources_of of) n (sources_below g before.reading of is) m))
      by false = refl

  module _ (requested : List NodeId) (t : Tree) (past : List Step) (plan : Planned)
      (ties : Ties b g requested t past plan) where
    -- a file that was met and counts as a source has no rule
    source_by : (n : NodeId) → (stands requested n ≡ true) ⊎ IsSoughtBy plan n →
        origin_of plan.origins n.0 ≡ Source → rule_of g.rules n.0 ≡ None →
        (n.0 < length g.nodes) × (rule_at (begun_graph b) b.tree (path_of g.nodes n) ≡ None)
    source_by n (inl asked) e none = (one_below g requested n ties.plan_for.nodes asked, ties.asked n asked none)
    source_by n (inr by) e none = (
      need_below b g requested t past plan before ties by.rule by.needed n
          (ap (λ o. stands (needs_in o) n) (sym (knows b g requested t past plan before ties by.rule by.needed).at)
          ∙ by.needs),
      ties.sources by.rule n by.needed by.needs e,
    )

    unmade_by : (n : NodeId) (o : Option ℕ) → rule_of h.rules n.0 ≡ o → n.0 < length g.nodes →
        rule_at (begun_graph b) b.tree (path_of g.nodes n) ≡ None → o ≡ None
    unmade_by n None e lt none = refl
    unmade_by n (Some m) e lt none =
        let place = first_place (λ r. is_target_of r.targets n.0) h.rules m e in
        let lt_now : n.0 < length h.nodes = let le = longer in omega arith in
        let made = (are_rules b h now.read now.reading now.grown).rules n.0 m (path_of h.nodes n)
        (node_path h now.reading n lt_now) e in
        let named = is_named b h now.grown now.reading m place.0 place.1 in
        none_some (sym none ∙ ap (rule_at (begun_graph b) b.tree) (sym (path_stays n lt)) ∙ made ∙ named.is)

    -- nothing was put behind that makes it
    unmade : (n : NodeId) → (stands requested n ≡ true) ⊎ IsSoughtBy plan n → origin_of plan.origins n.0 ≡ Source →
        rule_of g.rules n.0 ≡ None → rule_of h.rules n.0 ≡ None
    unmade n by e none = let s = source_by n by e none in unmade_by n (rule_of h.rules n.0) refl s.0 s.1

    met_unmade : (n : NodeId) (o : Origin) → (stands requested n ≡ true) ⊎ IsSoughtBy plan n →
        origin_of plan.origins n.0 ≡ o → IsFrom g plan.states n.0 o → is_met_from o ≡ true →
        rule_of g.rules n.0 ≡ None → rule_of h.rules n.0 ≡ None
    met_unmade n Unmet by e from met none = true_false (sym met)
    met_unmade n Source by e from met none = unmade n by e none
    met_unmade n (Made m) by e from met none = none_some (sym none ∙ from.0)

    -- no rule was put behind that makes a file which the plan has met
    met_stays : (n : NodeId) → is_met plan.origins n ≡ true → rule_of g.rules n.0 ≡ None → rule_of h.rules n.0 ≡ None
    met_stays n met none =
        met_unmade n (origin_of plan.origins n.0) (ties.plan_for.sought.each n met) refl (ties.plan_for.from.each n.0)
        met none

    asked_by : (n : NodeId) (o : Option ℕ) → stands requested n ≡ true → rule_of g.rules n.0 ≡ o →
        rule_of h.rules n.0 ≡ o
    asked_by n (Some m) asked e = maker_stays n.0 m e
    asked_by n None asked e =
        unmade_by n (rule_of h.rules n.0) refl (one_below g requested n ties.plan_for.nodes asked)
        (ties.asked n asked e)

    makers_stay : (nodes : List NodeId) → ((n : NodeId) → stands nodes n ≡ true → stands requested n ≡ true) →
        makers_in h nodes ≡ makers_in g nodes
    makers_stay [] f = refl
    makers_stay (n ∷ nodes) f =
        ap (λ o. cons_option (option_map (λ (m : ℕ). let r : RuleId = record { 0 = m } in r) o) (makers_in h nodes))
        (asked_by n (rule_of g.rules n.0) (f n (stands_at (n ∷ nodes) 0 n refl)) refl)
        ∙ ap (cons_option (option_map (λ (m : ℕ). let r : RuleId = record { 0 = m } in r) (rule_of g.rules n.0)))
        (makers_stay nodes (λ x m. f x (or_second (nat_eq x.0 n.0) (stands nodes x) m)))

    from_by : (n : ℕ) (o : Origin) → origin_of plan.origins n ≡ o → IsFrom g plan.states n o →
        IsFrom h plan.states n o
    from_by n Unmet e from = tt
    from_by n Source e from = let node : NodeId = record { 0 = n } in met_stays node (ap is_met_from e) from
    from_by n (Made m) e from = (maker_stays n m.0 from.0, from.1)

    fits_stay : (number : ℕ) → state_of plan.states number ≢ Unneeded → IsKnown h plan.rules number
    fits_stay number needed =
        let k = ties.plan_for.fits number needed in
        record {
          of = k.of;
          at = rule_stands number k.of k.at;
          kept = k.kept;
          is = k.is;
          targets = k.targets;
          required = k.required;
          named = k.named;
          sources = k.sources ∙ sym (scanned_stays k.of (before.reading.named.each_rule number k.of k.at));
          left_out = k.left_out;
          whole = k.whole;
        }

    plan_stays : IsPlanFor h requested plan
    plan_stays = record {
      fits = fits_stay;
      follow = ties.plan_for.follow;
      from = record { each = λ n. from_by n (origin_of plan.origins n) refl (ties.plan_for.from.each n) };
      met = ties.plan_for.met;
      reached = ties.plan_for.reached;
      sought = ties.plan_for.sought;
      complete = ties.plan_for.complete;
      order = ties.plan_for.order;
      roots = ties.plan_for.roots ∙ sym (makers_stay requested (λ n m. m));
      nodes = below_stays requested ties.plan_for.nodes;
    }

    abbrev known : (number : ℕ) → state_of plan.states number ≢ Unneeded → Knows b g plan number
    known number needed = knows b g requested t past plan before ties number needed

    seen_stays : (number : ℕ) (kept : Kept) (r : Rule) (needed : state_of plan.states number ≢ Unneeded) →
        slice_get plan.rules number ≡ Some kept → rule_numbered b h number ≡ Some r →
        (file : NodeId) → is_scanned kept.found file ≡ true → file.0 < length g.nodes → IsSeen b h t past r kept file
    seen_stays number kept r needed at numbered file scanned lt =
        let k = known number needed in
        let seen = ties.sees.each number kept r needed at (sym (numbered_stays number k.of k.stands) ∙ numbered) file
        scanned in
        let path = sym (path_stays file lt) in
        record {
          ready = subst (λ p. IsReady (begun_setting b) t (settled past) p ⊎ IsMissing (begun_setting b) t p) path
              seen.ready;
          includes =
              ap (found_in (begun_setting b) (in_tree t) r) (sym path) ∙ seen.includes
              ∙ sym (paths_stay (included kept.found file) (ties.sees.nodes number kept needed at file));
        }

    new_rule : (number : ℕ) (r : Rule) → rule_numbered b h number ≡ Some r → length g.rules ≤ number → IsNew past r
    new_rule number r numbered le = record {
      not_began = λ m. not_old (ties.numbered r (inl m));
      not_done = λ m. not_old (ties.numbered r (inr m));
    }
      where
        not_old : ((m : ℕ) × (rule_numbered b g m ≡ Some r)) → ⊥
        not_old old =
            let stands = numbered_stands b g before old.0 r old.1 in
            let lt = slice_get_within g.rules old.0 stands.of stands.at in
            let same : old.0 ≡ number = one_number b h now old.0 number r
            (numbered_stays old.0 stands.of stands.at ∙ old.1) numbered in
            absurd (omega (arith, lt, le, same))

    at_by : (number : ℕ) (r : Rule) → (number < length g.rules) ⊎ (length g.rules ≤ number) →
        (state_of plan.states number ≡ Unneeded) ⊎ (state_of plan.states number ≢ Unneeded) →
        rule_numbered b h number ≡ Some r → IsAt past r (state_of plan.states number)
    at_by number r (inr le) (inl e) numbered = subst (λ (o : RuleState). IsAt past r o) (sym e)
        (new_rule number r numbered le)
    at_by number r (inr le) (inr needed) numbered =
        let k = known number needed in
        let lt = slice_get_within g.rules number k.of k.stands in absurd (omega (arith, lt, le))
    at_by number r (inl lt) u numbered =
        let of = stands_below g.rules number lt in
        ties.states number r (sym (numbered_stays number of.0 of.1) ∙ numbered)
      where
        stands_below : (xs : List declared.Rule) (i : ℕ) → i < length xs → (x : declared.Rule)
            × (slice_get xs i ≡ Some x)
        stands_below [] i lt = absurd (omega arith)
        stands_below (x ∷ xs) zero lt = (x, refl)
        stands_below (x ∷ xs) (suc i) lt = stands_below xs i (omega arith)

    sources_stay : (number : ℕ) (n : NodeId) → state_of plan.states number ≢ Unneeded →
        stands (needs_at plan.rules number) n ≡ true → origin_of plan.origins n.0 ≡ Source →
        rule_at (begun_graph b) b.tree (path_of h.nodes n) ≡ None
    sources_stay number n needed need e =
        let lt = need_below b g requested t past plan before ties number needed n
        (ap (λ o. stands (needs_in o) n) (sym (known number needed).at) ∙ need) in
        ap (rule_at (begun_graph b) b.tree) (path_stays n lt) ∙ ties.sources number n needed need e

    asked_none : (n : NodeId) (o : Option ℕ) → rule_of g.rules n.0 ≡ o → rule_of h.rules n.0 ≡ None → o ≡ None
    asked_none n None e none = refl
    asked_none n (Some m) e none = none_some (sym none ∙ maker_stays n.0 m e)

    asked_stay : (n : NodeId) → stands requested n ≡ true → rule_of h.rules n.0 ≡ None →
        rule_at (begun_graph b) b.tree (path_of h.nodes n) ≡ None
    asked_stay n asked none =
        let lt = one_below g requested n ties.plan_for.nodes asked in
        ap (rule_at (begun_graph b) b.tree) (path_stays n lt)
        ∙ ties.asked n asked (asked_none n (rule_of g.rules n.0) refl none)

    numbered_still : (r : Rule) → Among r (began past) ⊎ Among r (done past) →
        (number : ℕ) × (rule_numbered b h number ≡ Some r)
    numbered_still r m =
        let old = ties.numbered r m in
        let stands = numbered_stands b g before old.0 r old.1 in
        (old.0, numbered_stays old.0 stands.of stands.at ∙ old.1)

    scanned_below : (number : ℕ) (kept : Kept) (needed : state_of plan.states number ≢ Unneeded) →
        slice_get plan.rules number ≡ Some kept → (file : NodeId) → is_scanned kept.found file ≡ true →
        file.0 < length g.nodes
    scanned_below number kept needed at file scanned =
        let same = same_kept b g requested t past plan before ties number needed kept at in
        one_below g (known number needed).kept.files file
        (all_files_below b g requested t past plan before ties number needed)
        (ap (λ (x : Kept). stands x.files file) same ∙ ties.sees.files number kept needed at file scanned)

    pub growth_keeps : Ties b h requested t past plan
    growth_keeps = record {
      plan_for = plan_stays;
      sees = record {
        each = λ number kept r needed at numbered file scanned.
            seen_stays number kept r needed at numbered file scanned (scanned_below number kept needed at file scanned);
        files = ties.sees.files;
        nodes = λ number kept needed at file. below_stays (included kept.found file)
            (ties.sees.nodes number kept needed at file);
      };
      scanned = ties.scanned;
      sources = sources_stay;
      asked = asked_stay;
      states = λ number r numbered. at_by number r (within_or number (length g.rules))
          (unneeded_or g (state_of plan.states number)) numbered;
      numbered = numbered_still;
    }
