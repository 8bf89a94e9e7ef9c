-- A rule that a tied plan needs is needed by the model.
use Rattle.std.proofs.Common.{◌≡◌, ◌≢◌, ◌<◌, ℕ, true, List, [], ◌∷◌, ◌++◌, length, Option, Some, None, refl, sym, subst, ap, ◌∙◌, inl, inr, ◌⊎◌, ⊎_elim}
use Rattle.std.specs.Prelude.{nat_eq}
use Rattle.std.specs.Option.{option_map}
use Rattle.std.specs.List.{cons_option}
use Rattle.std.proofs.lemmas.List.Folds.{list_any-append}
use Rattle.scons_base.specs.declared.ids.NodeId.{NodeId}
use Rattle.scons_base.specs.declared.ids.RuleId.{RuleId}
use Rattle.rule_graph.specs.Graphs.{RuleGraph, path_of}
use Rattle.rule_graph.specs.Rules.{rule_of}
use Rattle.task_plan.specs.States.{state_of}
use Rattle.task_plan.specs.Named.{stands}
use Rattle.task_plan.specs.Settled.{origin_of, is_scanned}
use Rattle.task_plan.specs.Listed.{included}
use Rattle.task_plan.specs.Orders.{is_among, makers_of, needed_in, needed_of, IsReached, is_root, is_needed as needed_there}
use Rattle.task_plan.specs.Rooted.{makers_in}
use Rattle.task_plan.specs.Plans.{Planned}
use Rattle.task_plan.specs.Met.{IsFrom}
use Rattle.task_plan.specs.declared.files.Origin.{Origin}
use Rattle.task_plan.specs.declared.files.Origin.TheVariants.{Made}
use Rattle.task_plan.specs.declared.states.RuleState.TheVariants.{Unneeded}
use Rattle.task_plan.proofs.EnterLemmas.{maker_made}
use Rattle.task_plan.proofs.MetNeeds.{stands_at}
use Rattle.task_plan.proofs.ReachedLemmas.{first_or}
use Rattle.task_plan.proofs.RestLemmas.{place_in}
use Rattle.build_model.specs.Rules.{Tree, Rule}
use Rattle.build_model.specs.Needs.{Found, Needs, as_required, as_dependency, Needed, is_requested, is_needed}
use Rattle.build_model.specs.Graphs.{rule_at}
use Rattle.build_model.specs.Steps.{Step}
use Rattle.build_model.proofs.Lists.{true_false, among_same}
use Rattle.build_means.specs.Rules.{paths_of}
use Rattle.build_means.specs.Grown.{Begun, begun_graph}
use Rattle.build_means.proofs.Lists.{or_either, or_second}
use Rattle.plan_means.specs.Planning.{IsGraphNow}
use Rattle.plan_means.specs.Ties.{Ties}
use Rattle.plan_means.proofs.Knowing.{path_among, one_below, knows, rule_made, dep_reached, needs_all_below}

-- a node that this rule makes, by what the graph says
pub record IsOf (g : RuleGraph) (nodes : List NodeId) (r : ℕ) : Type 0 where
  pub node : NodeId
  pub among : stands nodes node ≡ true
  pub made : rule_of g.rules node.0 ≡ Some r

is_self : (x : NodeId) (nodes : List NodeId) → stands (x ∷ nodes) x ≡ true
is_self x nodes = stands_at (x ∷ nodes) 0 x refl

of_more : (g : RuleGraph) (x : NodeId) (nodes : List NodeId) (r : ℕ) → IsOf g nodes r → IsOf g (x ∷ nodes) r
of_more g x nodes r o =
    record { node = o.node; among = or_second (nat_eq o.node.0 x.0) (stands nodes o.node) o.among; made = o.made }

maker_by : (g : RuleGraph) (x : NodeId) (nodes : List NodeId) (r : ℕ) (o : Option ℕ) → rule_of g.rules x.0 ≡ o →
    is_among r (cons_option (option_map (λ (n : ℕ). let y : RuleId = record { 0 = n } in y) o)
    (makers_in g nodes)) ≡ true →
    (is_among r (makers_in g nodes) ≡ true → IsOf g nodes r) → IsOf g (x ∷ nodes) r
maker_by g x nodes r None e h next = of_more g x nodes r (next h)
maker_by g x nodes r (Some m) e h next =
    ⊎_elim (λ same. record { node = x; among = is_self x nodes; made = e ∙ ap Some same })
    (λ k. of_more g x nodes r (next k))
    (first_or r (record { 0 = m }) (makers_in g nodes) h)

-- the makers of nodes make some of them
pub maker_in : (g : RuleGraph) (nodes : List NodeId) (r : ℕ) → is_among r (makers_in g nodes) ≡ true → IsOf g nodes r
maker_in g [] r h = true_false (sym h)
maker_in g (x ∷ nodes) r h = maker_by g x nodes r (rule_of g.rules x.0) refl h (maker_in g nodes r)

module _ (b : Begun) (g : RuleGraph) (requested : List NodeId) (t : Tree) (past : List Step) (plan : Planned)
    (now : IsGraphNow b g)
    (ties : Ties b g requested t past plan) where
  -- what a rule needs by a file that the other one makes
  pub record IsNeededBy (number other : ℕ) (needed : state_of plan.states other ≢ Unneeded) : Type 0 where
    pub node : NodeId
    pub among : stands
        ((knows b g requested t past plan now ties other needed).kept.required ++ (knows b g requested t past plan
        now ties other needed).kept.deps) node ≡ true
    pub origin : origin_of plan.origins node.0 ≡ Made (record { 0 = number })

  pub needed_by : (number other : ℕ) (needed : state_of plan.states other ≢ Unneeded) →
      is_among number (needed_of plan.rules plan.origins other) ≡ true →
      IsNeededBy number other needed
  needed_by number other needed h =
      let k = knows b g requested t past plan now ties other needed in
      let among : is_among number (makers_of plan.origins (k.kept.required ++ k.kept.deps)) ≡ true =
      ap (λ o. is_among number (needed_in plan.origins o)) (sym k.at) ∙ h in
      let place = place_in (makers_of plan.origins (k.kept.required ++ k.kept.deps)) (record { 0 = number }) among in
      let made = maker_made plan.origins (k.kept.required ++ k.kept.deps) place.0 (record { 0 = number }) place.1 in
      record {
        node = made.file;
        among = stands_at (k.kept.required ++ k.kept.deps) made.place made.file made.at;
        origin = made.made;
      }

  -- the graph says so, too
  pub made_of : (node : NodeId) (m : RuleId) → origin_of plan.origins node.0 ≡ Made m →
      rule_of g.rules node.0 ≡ Some m.0
  made_of node m e = (subst (λ (o : Origin). IsFrom g plan.states node.0 o) e (ties.plan_for.from.each node.0)).0

  module _ (found : Found) (agrees : (number : ℕ) (needed : state_of plan.states number ≢ Unneeded) (file : NodeId) →
      is_scanned (knows b g requested t past plan now ties number needed).kept.found file ≡ true →
      found (knows b g requested t past plan now ties number needed).rule (path_of g.nodes file)
      ≡ paths_of g (included (knows b g requested t past plan now ties number needed).kept.found file)) where
    abbrev pub rule_of_number : (number : ℕ) → state_of plan.states number ≢ Unneeded → Rule
    rule_of_number number needed = (knows b g requested t past plan now ties number needed).rule

    needs_of_by : (number other : ℕ) (here_needed : state_of plan.states number ≢ Unneeded)
        (needed : state_of plan.states other ≢ Unneeded) (node : NodeId) →
        origin_of plan.origins node.0 ≡ Made (record { 0 = number }) → node.0 < length g.nodes →
        (stands (knows b g requested t past plan now ties other needed).kept.required node ≡ true)
        ⊎ (stands (knows b g requested t past plan now ties other needed).kept.deps node ≡ true) →
        Needs (rule_at (begun_graph b) b.tree) found (rule_of_number other needed) (rule_of_number number here_needed)
    needs_of_by number other here_needed needed node origin lt (inl h) =
        let k = knows b g requested t past plan now ties other needed in
        let made = rule_made b g requested t past plan now ties node number lt
        (made_of node (record { 0 = number }) origin) in
        as_required (path_of g.nodes node) (among_same (ap (paths_of g) k.keeps.required ∙ k.names.required)
        (path_among g k.kept.required node h))
        (made ∙ (knows b g requested t past plan now ties number here_needed).numbered)
    needs_of_by number other here_needed needed node origin lt (inr h) =
        let made = rule_made b g requested t past plan now ties node number lt
        (made_of node (record { 0 = number }) origin) in
        as_dependency (path_of g.nodes node)
        (dep_reached b g requested t past plan now ties other needed (found (rule_of_number other needed))
        (agrees other needed) node h)
        (made ∙ (knows b g requested t past plan now ties number here_needed).numbered)

    -- one rule needs another by the plan, and so it does by the model
    pub needs_of : (number other : ℕ) (here_needed : state_of plan.states number ≢ Unneeded)
        (needed : state_of plan.states other ≢ Unneeded) →
        is_among number (needed_of plan.rules plan.origins other) ≡ true →
        Needs (rule_at (begun_graph b) b.tree) found (rule_of_number other needed) (rule_of_number number here_needed)
    needs_of number other here_needed needed h =
        let k = knows b g requested t past plan now ties other needed in
        let by = needed_by number other needed h in
        needs_of_by number other here_needed needed by.node by.origin
        (one_below g (k.kept.required ++ k.kept.deps) by.node
        (needs_all_below b g requested t past plan now ties other needed) by.among)
        (or_either (stands k.kept.required by.node) (stands k.kept.deps by.node)
        (sym (list_any-append (λ m. nat_eq by.node.0 m.0) k.kept.required k.kept.deps) ∙ by.among))

    root_needed : (number : ℕ) (needed : state_of plan.states number ≢ Unneeded) →
        is_among number plan.notes.roots ≡ true →
        Needed (rule_at (begun_graph b) b.tree) found (paths_of g requested) (rule_of_number number needed)
    root_needed number needed h =
        let of = maker_in g requested number (ap (is_among number) (sym ties.plan_for.roots) ∙ h) in
        let lt = one_below g requested of.node ties.plan_for.nodes of.among in
        is_requested (path_of g.nodes of.node) (path_among g requested of.node of.among)
        (rule_made b g requested t past plan now ties of.node number lt of.made
        ∙ (knows b g requested t past plan now ties number needed).numbered)

    pub reached_needed : (number : ℕ) (needed : state_of plan.states number ≢ Unneeded) →
        IsReached (needed_of plan.rules plan.origins) plan.notes.roots number →
        Needed (rule_at (begun_graph b) b.tree) found (paths_of g requested) (rule_of_number number needed)
    reached_needed number needed (is_root h) = root_needed number needed h
    reached_needed number needed (needed_there other reached h) =
        let other_needed = ties.plan_for.reached.only other reached in
        is_needed (rule_of_number other other_needed) (reached_needed other other_needed reached)
        (needs_of number other needed other_needed h)

    -- each rule that the plan needs is needed
    pub plan_needed : (number : ℕ) (needed : state_of plan.states number ≢ Unneeded) →
        Needed (rule_at (begun_graph b) b.tree) found (paths_of g requested) (rule_of_number number needed)
    plan_needed number needed = reached_needed number needed (ties.plan_for.reached.each number needed)
