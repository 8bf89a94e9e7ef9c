-- A plan that was gone over to its end, where all rules count as made: its lists are what rules reach, and its order is the build order.
use Rattle.std.proofs.Common.{◌≡◌, ◌≢◌, ◌<◌, ◌∙◌, ◌++◌, ℕ, true, false, List, [], ◌∷◌, length, Option, Some, None, refl, sym, subst, ap, arith, option_map}
use Rattle.std.specs.Prelude.{slice_get}
use Rattle.std.specs.List.{cons_option}
use Rattle.std.proofs.lemmas.List.{map-append}
use Rattle.std.proofs.lemmas.Option.{slice_get_within}
use Rattle.scons_base.specs.declared.ids.NodeId.{NodeId}
use Rattle.scons_base.specs.declared.ids.RuleId.{RuleId}
use Rattle.rule_graph.specs.Graphs.{RuleGraph, path_of}
use Rattle.rule_graph.specs.Rules.{rule_of}
use Rattle.world_api.specs.Around.{Around}
use Rattle.task_plan.specs.States.{state_of}
use Rattle.task_plan.specs.Met.{is_met_from, IsFrom}
use Rattle.task_plan.specs.Named.{stands}
use Rattle.task_plan.specs.Orders.{is_among, Visits, nothing_left, met_again, not_known, met_first}
use Rattle.task_plan.specs.Plans.{Planned}
use Rattle.task_plan.specs.Rooted.{makers_in}
use Rattle.task_plan.specs.Settled.{origin_of, deps_in, deps_of, is_scanned}
use Rattle.task_plan.specs.Watched.{IsFinished}
use Rattle.task_plan.specs.declared.files.Origin.{Origin}
use Rattle.task_plan.specs.declared.files.Origin.TheVariants.{Unmet, Source, Made}
use Rattle.task_plan.specs.declared.states.RuleState.{RuleState}
use Rattle.task_plan.specs.declared.states.RuleState.TheVariants.{Unneeded}
use Rattle.task_plan.proofs.MetNeeds.{all_stands}
use Rattle.task_plan.proofs.ReachedLemmas.{first, later}
use Rattle.build_model.specs.Rules.{Path, Tree, Rule, Setting, Among, here, there}
use Rattle.build_model.specs.Contents.{in_tree, found_in, dependencies}
use Rattle.build_model.specs.Needs.{RuleOf, Found, Needs, NeedsThrough, directly, through, Needed, is_requested, is_needed, with_rule, rules_at, needs_in_order, IsBuildOrder, Visits as Goes, nothing_left as goes_nowhere, met_again as goes_again, met_first as goes_into}
use Rattle.build_model.specs.Reach.{reach}
use Rattle.build_model.specs.Steps.{Step}
use Rattle.build_model.proofs.Lists.{true_false, none_some, some_same, among_same}
use Rattle.build_model.proofs.Ordering.{in_order_needs}
use Rattle.build_means.specs.Grown.{Begun, begun_setting, rule_numbered, IsLookedFor}
use Rattle.build_means.specs.Rules.{paths_of}
use Rattle.build_means.proofs.Lists.{among_map}
use Rattle.build_files.specs.declared.inputs.Inputs.{Inputs}
use Rattle.plan_means.specs.Lists.{AreReach}
use Rattle.plan_means.specs.Ties.{IsDecidedState, IsAt}
use Rattle.plan_means.proofs.Knowing.{Knows, rule_made, among_stands, one_below, needed_met, need_below, need_at}
use Rattle.plan_means.proofs.Needing.{maker_in}
use Rattle.plan_means.proofs.Single.{one_number, target_of}
use Rattle.plan_means.proofs.Taking.{rules_numbered, numbered_append, numbered_first, numbered_there, has_number}
use Rattle.scons_report.specs.Overs.{all_fresh, AreInOrder, IsOver, required_of, needs_over, IsPlannedOrder}
use Rattle.scons_report.specs.Dry.{rules_with}
use Rattle.scons_report.proofs.Going.{the, lists, settled_fresh}

-- ---- rules that stand in front of what they need

module _ (rule_of : RuleOf) (found : Found) where
  -- what they need stands there, too
  pub closed : {rules : List Rule} {r q : Rule} → AreInOrder rule_of found rules → Among r rules → Needs rule_of found r q → Among q rules
  closed is here n = there (is.1 _ n)
  closed is (there m) n = there (closed is.2 m n)

  through_closed : {rules : List Rule} {r q : Rule} → AreInOrder rule_of found rules → Among r rules → NeedsThrough rule_of found r q → Among q rules
  through_closed is m (directly n) = closed is m n
  through_closed is m (through x n more) = through_closed is (closed is m n) more

  -- what the first needs stands behind it
  through_behind : {rules : List Rule} {r q : Rule} → AreInOrder rule_of found (r ∷ rules) → NeedsThrough rule_of found r q → Among q rules
  through_behind is (directly n) = is.1 _ n
  through_behind is (through x n more) = through_closed is.2 (is.1 x n) more

  -- none needs itself
  pub none_loops : {rules : List Rule} {r : Rule} → AreInOrder rule_of found rules → Among r rules → NeedsThrough rule_of found r r → ⊥
  none_loops is here t = is.0 (through_behind is t)
  none_loops is (there m) t = none_loops is.2 m t

-- ---- rules by their numbers

pub with_same : (b : Begun) (g : RuleGraph) (ids : List RuleId) → rules_with b g ids ≡ rules_numbered b g ids
with_same b g [] = refl
with_same b g (id ∷ ids) = ap (with_rule (rule_numbered b g id.0)) (with_same b g ids)

-- the rule of a node stands among the makers of nodes
makers_more : (x : NodeId) (g : RuleGraph) (nodes : List NodeId) (m : ℕ) (o : Option ℕ) → is_among m (makers_in g nodes) ≡ true →
    is_among m (cons_option (option_map (λ (n : ℕ). let y : RuleId = record { 0 = n } in y) o) (makers_in g nodes)) ≡ true
makers_more x g nodes m None h = h
makers_more x g nodes m (Some k) h = later m (record { 0 = k }) (makers_in g nodes) h

makers_here : (g : RuleGraph) (nodes : List NodeId) (m : ℕ) (o : Option ℕ) → o ≡ Some m →
    is_among m (cons_option (option_map (λ (n : ℕ). let y : RuleId = record { 0 = n } in y) o) (makers_in g nodes)) ≡ true
makers_here g nodes m None e = none_some e
makers_here g nodes m (Some k) e = first m (record { 0 = k }) (makers_in g nodes) (some_same e)

pub makers_have : (g : RuleGraph) (nodes : List NodeId) (n : NodeId) (m : ℕ) → Among n nodes → rule_of g.rules n.0 ≡ Some m →
    is_among m (makers_in g nodes) ≡ true
makers_have g [] n m k e = elim k [ ]
makers_have g (x ∷ nodes) _ m here e = makers_here g nodes m (rule_of g.rules x.0) e
makers_have g (x ∷ nodes) n m (there k) e = makers_more x g nodes m (rule_of g.rules x.0) (makers_have g nodes n m k e)

module _ (b : Begun) (requested : List NodeId) (t : Tree) (g : RuleGraph) (inputs : Inputs) (plan : Planned) (around : Around)
    (is : IsOver b requested t g inputs plan around) (finished : IsFinished plan) where
  abbrev pub s : Setting
  s = begun_setting b

  abbrev pub found : Found
  found = found_in s (in_tree t)

  abbrev Past : List Step
  Past = all_fresh is.made

  abbrev pub kn : (number : ℕ) → state_of plan.states number ≢ Unneeded → Knows b g plan number
  kn number needed = the b requested t g inputs plan around is number needed

  -- each needed rule counts as made
  pub is_made_rule : (number : ℕ) (needed : state_of plan.states number ≢ Unneeded) → Among (kn number needed).rule is.made
  is_made_rule number needed =
      among_same (settled_fresh is.made)
      (subst (λ (o : RuleState). IsAt Past (kn number needed).rule o) (finished.each number needed)
      (is.ties.states number (kn number needed).rule (kn number needed).numbered))

  all_scanned : (number : ℕ) (needed : state_of plan.states number ≢ Unneeded) (n : NodeId) → stands (kn number needed).kept.files n ≡ true →
      is_scanned (kn number needed).kept.found n ≡ true
  all_scanned number needed n h =
      all_stands (λ x. is_scanned (kn number needed).kept.found x) (kn number needed).kept.files n
      (is.ties.scanned number (kn number needed).kept (subst IsDecidedState (sym (finished.each number needed)) tt) (kn number needed).at) h

  pub reaches : (number : ℕ) (needed : state_of plan.states number ≢ Unneeded) →
      AreReach g s.limit (kn number needed).kept (found (kn number needed).rule) (kn number needed).rule
  reaches number needed = lists b requested t g inputs plan around is number needed (all_scanned number needed)

  -- the dependencies that the plan lists are those of the rule
  pub deps_are : (number : ℕ) (needed : state_of plan.states number ≢ Unneeded) →
      paths_of g (deps_of plan.rules number) ≡ dependencies s (in_tree t) (kn number needed).rule
  deps_are number needed = ap (λ o. paths_of g (deps_in o)) (kn number needed).at ∙ sym (reaches number needed).deps

  -- ---- nodes that the plan knows

  -- a node that the plan has met: where no rule of the graph makes it none does, and the rule that does is needed
  pub record IsMetNode (n : NodeId) : Type 0 where
    pub below : n.0 < length g.nodes
    pub looked : IsLookedFor b g n
    pub needed : (m : ℕ) → rule_of g.rules n.0 ≡ Some m → state_of plan.states m ≢ Unneeded

  need_looked : (number : ℕ) (needed : state_of plan.states number ≢ Unneeded) (n : NodeId) (o : Origin) →
      stands ((kn number needed).kept.required ++ (kn number needed).kept.deps) n ≡ true → origin_of plan.origins n.0 ≡ o →
      IsFrom g plan.states n.0 o → is_met_from o ≡ true → IsLookedFor b g n
  need_looked number needed n Unmet h e from met none = true_false (sym met)
  need_looked number needed n Source h e from met none =
      is.ties.sources number n needed (need_at b g requested t Past plan is.now is.ties number needed n h) e
  need_looked number needed n (Made m) h e from met none = none_some (sym none ∙ from.0)

  maker_needed : (n : NodeId) (o : Origin) (m : ℕ) → IsFrom g plan.states n.0 o → is_met_from o ≡ true → rule_of g.rules n.0 ≡ Some m →
      state_of plan.states m ≢ Unneeded
  maker_needed n Unmet m from met e = true_false (sym met)
  maker_needed n Source m from met e = none_some (sym from ∙ e)
  maker_needed n (Made x) m from met e = subst (λ (k : ℕ). state_of plan.states k ≢ Unneeded) (some_same (sym from.0 ∙ e)) from.1

  pub need_met : (number : ℕ) (needed : state_of plan.states number ≢ Unneeded) (n : NodeId) →
      stands ((kn number needed).kept.required ++ (kn number needed).kept.deps) n ≡ true → IsMetNode n
  need_met number needed n h =
      let met = needed_met b g requested t Past plan is.now is.ties number needed n h in
      record {
        below = need_below b g requested t Past plan is.now is.ties number needed n h;
        looked = need_looked number needed n (origin_of plan.origins n.0) h refl (is.ties.plan_for.from.each n.0) met;
        needed = λ m e. maker_needed n (origin_of plan.origins n.0) m (is.ties.plan_for.from.each n.0) met e;
      }

  pub asked_met : (n : NodeId) → Among n requested → IsMetNode n
  asked_met n m = record {
    below = one_below g requested n is.ties.plan_for.nodes (among_stands requested n m);
    looked = is.ties.asked n (among_stands requested n m);
    needed = λ k e. is.ties.plan_for.order.roots k (ap (is_among k) is.ties.plan_for.roots ∙ makers_have g requested n k m e);
  }

  -- the rule of such a node's path
  pub path_rule : (n : NodeId) (m : ℕ) → n.0 < length g.nodes → rule_of g.rules n.0 ≡ Some m →
      s.rule_of (path_of g.nodes n) ≡ rule_numbered b g m
  path_rule n m lt e = rule_made b g requested t Past plan is.now is.ties n m lt e

  -- a needed rule is the rule of its targets
  pub target_rule : (number : ℕ) (needed : state_of plan.states number ≢ Unneeded) (p : Path) → Among p (kn number needed).rule.targets →
      s.rule_of p ≡ Some (kn number needed).rule
  target_rule number needed p m =
      let k = kn number needed in
      let n = among_map (path_of g.nodes) k.of.targets (among_same (sym k.names.targets) m) in
      let h = among_stands k.of.targets n.0 n.1 in
      ap s.rule_of n.2
      ∙ path_rule n.0 number (one_below g k.of.targets n.0 k.is.targets h) (target_of b g is.now k.of number n.0 k.stands h) ∙ k.numbered

  -- ---- the build order

  one_rule : (n : NodeId) (o : Option ℕ) → IsMetNode n → rule_of g.rules n.0 ≡ o → (rules : List RuleId) →
      with_rule (s.rule_of (path_of g.nodes n)) (rules_numbered b g rules)
      ≡ rules_numbered b g (cons_option (option_map (λ (m : ℕ). let r : RuleId = record { 0 = m } in r) o) rules)
  one_rule n None met e rules = ap (λ o. with_rule o (rules_numbered b g rules)) (met.looked e)
  one_rule n (Some m) met e rules = ap (λ o. with_rule o (rules_numbered b g rules)) (path_rule n m met.below e)

  -- the rules of such nodes, by their numbers
  nodes_rules : (nodes : List NodeId) → ((n : NodeId) → Among n nodes → IsMetNode n) →
      rules_at s.rule_of (paths_of g nodes) ≡ rules_numbered b g (makers_in g nodes)
  nodes_rules [] met = refl
  nodes_rules (n ∷ nodes) met =
      ap (with_rule (s.rule_of (path_of g.nodes n))) (nodes_rules nodes (λ x m. met x (there m)))
      ∙ one_rule n (rule_of g.rules n.0) (met n here) refl (makers_in g nodes)

  abbrev needs : Rule → List Rule
  needs r = needs_in_order s.rule_of s.limit found r

  pub needed_nodes : (number : ℕ) (needed : state_of plan.states number ≢ Unneeded) →
      required_of (slice_get g.rules number) ++ deps_of plan.rules number ≡ (kn number needed).kept.required ++ (kn number needed).kept.deps
  needed_nodes number needed =
      let k = kn number needed in
      ap (λ o. required_of o ++ deps_of plan.rules number) k.stands ∙ ap (λ l. l ++ deps_of plan.rules number) (sym k.keeps.required)
      ∙ ap (λ o. k.kept.required ++ deps_in o) k.at

  -- what a needed rule needs, by numbers
  pub needs_are : (number : ℕ) (needed : state_of plan.states number ≢ Unneeded) →
      needs (kn number needed).rule ≡ rules_numbered b g (needs_over g plan number)
  needs_are number needed =
      let k = kn number needed in
      let l = reaches number needed in
      ap (λ ps. rules_at s.rule_of (ps ++ reach s.limit (found k.rule) k.rule)) (sym (ap (paths_of g) k.keeps.required ∙ k.names.required))
      ∙ ap (λ ps. rules_at s.rule_of (paths_of g k.kept.required ++ ps)) l.deps
      ∙ ap (rules_at s.rule_of) (sym (map-append (path_of g.nodes) k.kept.required k.kept.deps))
      ∙ nodes_rules (k.kept.required ++ k.kept.deps)
      (λ n m. need_met number needed n (among_stands (k.kept.required ++ k.kept.deps) n m))
      ∙ ap (λ ns. rules_numbered b g (makers_in g ns)) (sym (needed_nodes number needed))

  abbrev pub AreNeeded : List RuleId → Type 0
  AreNeeded rules = (n : ℕ) → is_among n rules ≡ true → state_of plan.states n ≢ Unneeded

  pub needs_needed : (number : ℕ) → state_of plan.states number ≢ Unneeded → AreNeeded (needs_over g plan number)
  needs_needed number needed m h =
      let k = kn number needed in
      let of = maker_in g (k.kept.required ++ k.kept.deps) m (ap (λ ns. is_among m (makers_in g ns)) (sym (needed_nodes number needed)) ∙ h) in
      (need_met number needed of.node of.among).needed m of.made

  pub roots_needed : AreNeeded (makers_in g requested)
  roots_needed m h = is.ties.plan_for.order.roots m (ap (is_among m) is.ties.plan_for.roots ∙ h)

  not_again : (r : RuleId) (x : Rule) (met : List RuleId) → rule_numbered b g r.0 ≡ Some x →
      is_among r.0 met ≡ false → Among x (rules_numbered b g met) → ⊥
  not_again r x met e out m =
      let h = has_number b g x met m in
      let same : h.number ≡ r.0 = one_number b g is.now h.number r.0 x h.is e in
      true_false (sym (ap (λ n. is_among n met) (sym same) ∙ h.among) ∙ out)

  known_below : (number : ℕ) → state_of plan.states number ≢ Unneeded → number < length g.rules
  known_below number needed = slice_get_within g.rules number (kn number needed).of (kn number needed).stands

  -- the same walk over the rules of the model
  goes : {met rules after order : List RuleId} → AreNeeded rules →
      Visits (length g.rules) (needs_over g plan) met rules after order →
      Goes needs (rules_numbered b g met) (rules_numbered b g rules) (rules_numbered b g after) (rules_numbered b g order)
  goes all nothing_left = goes_nowhere
  goes all (met_again {met = met} {rules = rules} {after = after} {order = order} {rule = rule} m v) =
      let k = kn rule.0 (all rule.0 (first rule.0 rule rules refl)) in
      subst (λ l. Goes needs (rules_numbered b g met) l (rules_numbered b g after) (rules_numbered b g order))
      (sym (numbered_first b g rule rules k.rule k.numbered))
      (goes_again (numbered_there b g rule.0 k.rule met k.numbered m) (goes (λ n h. all n (later n rule rules h)) v))
  goes all (not_known {rules = rules} {rule = rule} le v) =
      absurd (let lt = known_below rule.0 (all rule.0 (first rule.0 rule rules refl)) in omega (arith, lt, le))
  goes all (met_first {met = met} {between = between} {rules = rules} {after = after} {below = below} {behind = behind} {rule = rule} lt out v w) =
      let needed = all rule.0 (first rule.0 rule rules refl) in
      let k = kn rule.0 needed in
      let inner = goes (needs_needed rule.0 needed) v in
      let inner_here : Goes needs (k.rule ∷ rules_numbered b g met) (needs k.rule) (rules_numbered b g between) (rules_numbered b g below) =
      subst (λ l. Goes needs l (needs k.rule) (rules_numbered b g between) (rules_numbered b g below))
      (numbered_first b g rule met k.rule k.numbered)
      (subst (λ l. Goes needs (rules_numbered b g (rule ∷ met)) l (rules_numbered b g between) (rules_numbered b g below)) (sym (needs_are rule.0 needed)) inner) in
      let outer = goes (λ n h. all n (later n rule rules h)) w in
      let whole : Goes needs (rules_numbered b g met) (k.rule ∷ rules_numbered b g rules) (rules_numbered b g after)
      (rules_numbered b g below ++ k.rule ∷ rules_numbered b g behind) =
      goes_into (not_again rule k.rule met k.numbered out) inner_here outer in
      let order_is : rules_numbered b g (below ++ rule ∷ behind) ≡ rules_numbered b g below ++ k.rule ∷ rules_numbered b g behind =
      numbered_append b g below (rule ∷ behind) ∙ ap (λ l. rules_numbered b g below ++ l) (numbered_first b g rule behind k.rule k.numbered) in
      subst (λ l. Goes needs (rules_numbered b g met) l (rules_numbered b g after) (rules_numbered b g (below ++ rule ∷ behind)))
      (sym (numbered_first b g rule rules k.rule k.numbered))
      (subst (λ l. Goes needs (rules_numbered b g met) (k.rule ∷ rules_numbered b g rules) (rules_numbered b g after) l) (sym order_is) whole)

  pub order_is : (order : List RuleId) → IsPlannedOrder g plan requested order →
      IsBuildOrder s.rule_of s.limit found (paths_of g requested) (rules_with b g order)
  order_is order o = record {
    met = rules_numbered b g o.met;
    visits =
        subst (λ l. Goes needs [] (rules_at s.rule_of (paths_of g requested)) (rules_numbered b g o.met) l) (sym (with_same b g order))
        (subst (λ l. Goes needs [] l (rules_numbered b g o.met) (rules_numbered b g order)) (sym (nodes_rules requested asked_met))
        (goes roots_needed o.visits));
  }

  -- ---- no rule needs itself

  -- each rule that the model needs counts as made
  root_made : (p : Path) (r : Rule) → Among p (paths_of g requested) → s.rule_of p ≡ Some r → Among r is.made
  root_made p r m e =
      let n = among_map (path_of g.nodes) requested m in
      by n.0 (asked_met n.0 n.1) (rule_of g.rules n.0.0) refl (ap s.rule_of (sym n.2) ∙ e)
    where
      by : (n : NodeId) → IsMetNode n → (o : Option ℕ) → rule_of g.rules n.0 ≡ o → s.rule_of (path_of g.nodes n) ≡ Some r → Among r is.made
      by n met None none e = none_some (sym (met.looked none) ∙ e)
      by n met (Some k) made e =
          let needed = met.needed k made in
          subst (λ (x : Rule). Among x is.made) (some_same (sym (kn k needed).numbered ∙ sym (path_rule n k met.below made) ∙ e)) (is_made_rule k needed)

  pub needed_made : {r : Rule} → Needed s.rule_of found (paths_of g requested) r → Among r is.made
  needed_made (is_requested p m e) = root_made p _ m e
  needed_made (is_needed q n needs) = closed s.rule_of found is.order (needed_made n) needs

  pub no_loop : (r : Rule) → Needed s.rule_of found (paths_of g requested) r → NeedsThrough s.rule_of found r r → ⊥
  no_loop r n t = none_loops s.rule_of found is.order (needed_made n) t

  -- what a needed rule needs by number, it needs
  pub needs_by : (number other : ℕ) (needed : state_of plan.states number ≢ Unneeded) (other_needed : state_of plan.states other ≢ Unneeded) →
      is_among other (needs_over g plan number) ≡ true → Needs s.rule_of found (kn number needed).rule (kn other other_needed).rule
  needs_by number other needed other_needed h =
      in_order_needs s.rule_of s.limit {found = found}
      (among_same (sym (needs_are number needed)) (numbered_there b g other (kn other other_needed).rule (needs_over g plan number) (kn other other_needed).numbered h))
