-- What a graph of a reading says stays so as nodes and copy rules are put behind.
use Rattle.std.proofs.Common.{◌≡◌, ◌<◌, ℕ, zero, suc, Bool, true, false, List, [], ◌∷◌, ◌++◌, length, Option, Some, None, refl, sym, subst, ap, ◌∙◌, inl, inr, ◌⊎◌, cond, ltb-true}
use Rattle.std.specs.Prelude.{slice_get, nat_eq, nat_lt, filter}
use Rattle.std.specs.Option.{option_map, option_and_then, unwrap_or}
use Rattle.std.proofs.lemmas.Bool.Decides.{Decides-eqb}
use Rattle.scons_base.specs.declared.ids.NodeId.{NodeId}
use Rattle.rule_graph.specs.declared.rule.Rule as declared
use Rattle.rule_graph.specs.Rules.{rule_of, is_target_of, are_below, IsRule}
use Rattle.rule_graph.specs.Graphs.{RuleGraph, path_of}
use Rattle.build_model.specs.Rules.{Path, Among, here, there}
use Rattle.build_model.specs.Graphs.{rule_at, copy_rule}
use Rattle.build_means.specs.Rules.{IsReading, paths_of, scanned_in, is_scanned_path, rule_in, rule_with}
use Rattle.build_means.specs.Copies.{copied_from}
use Rattle.build_means.specs.Grown.{Begun, begun_graph, copy_in, IsCopyOf, IsGrown, or_copy_in, rule_numbered, AreRulesOf}
use Rattle.build_means.specs.Laws.{or_copied}
use Rattle.build_means.proofs.Lists.{none_some, and_both, any_there, map_among, place_of, at_place, first_place}
use Rattle.build_means.proofs.Readings.{node_path, rule_with_target, rule_with_is, rule_is}

pub get_front : {A : Type 0} (xs ys : List A) (i : ℕ) (x : A) → slice_get xs i ≡ Some x → slice_get (xs ++ ys) i ≡ Some x
get_front [] ys i x e = none_some e
get_front (z ∷ xs) ys zero x e = e
get_front (z ∷ xs) ys (suc i) x e = get_front xs ys i x e

pub get_either : {A : Type 0} (xs ys : List A) (i : ℕ) (x : A) → slice_get (xs ++ ys) i ≡ Some x → (slice_get xs i ≡ Some x) ⊎ ((slice_get xs i ≡ None) × Among x ys)
get_either [] ys i x e = inr (refl, at_place ys i e)
get_either (z ∷ xs) ys zero x e = inl e
get_either (z ∷ xs) ys (suc i) x e = get_either xs ys i x e

module _ (b : Begun) (g : RuleGraph) (read : IsReading b.graph) (reading : IsReading g) (grown : IsGrown b g) where
  path_stays : (n : NodeId) → n.0 < length b.graph.nodes → path_of g.nodes n ≡ path_of b.graph.nodes n
  path_stays n below =
      let at = get_front b.graph.nodes grown.more n.0 (path_of b.graph.nodes n) (node_path b.graph read n below) in
      ap (λ nodes. unwrap_or (slice_get nodes n.0) []) grown.nodes ∙ ap (λ o. unwrap_or o []) at

  -- the paths of nodes of the reading
  pub paths_stay : (ids : List NodeId) → are_below (length b.graph.nodes) ids ≡ true → paths_of g ids ≡ paths_of b.graph ids
  paths_stay [] below = refl
  paths_stay (n ∷ ids) below =
      let both = and_both (nat_lt n.0 (length b.graph.nodes)) (are_below (length b.graph.nodes) ids) below in
      ap (λ p. p ∷ paths_of g ids) (path_stays n (ltb-true n.0 (length b.graph.nodes) both.0)) ∙ ap (λ ps. path_of b.graph.nodes n ∷ ps) (paths_stay ids both.1)

  scanned_stay : (r : declared.Rule) → paths_of g r.sources ≡ paths_of b.graph r.sources → scanned_in g r ≡ scanned_in b.graph r
  scanned_stay r e = by r.scans
    where
      by : (scans : Bool) → cond scans (filter is_scanned_path (paths_of g r.sources)) [] ≡ cond scans (filter is_scanned_path (paths_of b.graph r.sources)) []
      by true = ap (filter is_scanned_path) e
      by false = refl

  -- a rule of the reading is the same rule of the model
  pub rule_stays : (r : declared.Rule) → IsRule (length b.graph.nodes) r → rule_in g r ≡ rule_in b.graph r
  rule_stays r is =
      let targets = paths_stay r.targets is.targets in
      let sources = paths_stay r.sources is.sources in
      let scanned = scanned_stay r sources in
      let depends = paths_stay r.depends is.depends in
      let libs = paths_stay r.libs is.libs in
      let ignored = paths_stay r.ignored is.ignored in
      let required = paths_stay r.required is.required in
      λ i. record (rule_in g r) {
        targets = targets i;
        sources = sources i;
        scanned = scanned i;
        depends = depends i;
        libraries = libs i;
        ignored = ignored i;
        required = required i;
      }

  -- the target of a rule is a path of its node
  pub named : (node : ℕ) (path : Path) (x : declared.Rule) → slice_get g.nodes node ≡ Some path → is_target_of x.targets node ≡ true → Among path (paths_of g x.targets)
  named node path x at is =
      let target = any_there (λ t. nat_eq t.0 node) x.targets is in
      let same = (Decides-eqb target.0.0 node).0 target.2 in
      subst (λ p. Among p (paths_of g x.targets))
      (ap (λ k. unwrap_or (slice_get g.nodes k) []) same ∙ ap (λ o. unwrap_or o []) at) (map_among (path_of g.nodes) target.1)

  pub only : {p q : Path} → Among p (q ∷ []) → p ≡ q
  only here = refl
  only (there m) = elim m [ ]

  declared_rule_is : (path : Path) (number : ℕ) (x : declared.Rule) → slice_get b.graph.rules number ≡ Some x → slice_get g.rules number ≡ Some x →
      Among path (paths_of g x.targets) → rule_at (begun_graph b) b.tree path ≡ rule_numbered b g number
  declared_rule_is path number x at there_too among =
      let is = read.named.each_rule number x at in
      let target = subst (λ ps. Among path ps) (paths_stay x.targets is.targets) among in
      rule_is b.graph read b.law b.hash b.tree path
      ∙ ap (λ o. or_copied (option_map (rule_in b.graph) o) (option_map (copy_rule path) (copied_from b.graph b.tree path)))
      (rule_with_target b.graph read (at_place b.graph.rules number at) target)
      ∙ ap Some (sym (rule_stays x is))
      ∙ sym (ap (λ o. or_copy_in g o (slice_get g.rules number)) at)

  copy_rule_is : (path : Path) (number : ℕ) (x : declared.Rule) → slice_get b.graph.rules number ≡ None → slice_get g.rules number ≡ Some x →
      Among path (paths_of g x.targets) → IsCopyOf b g x → rule_at (begun_graph b) b.tree path ≡ rule_numbered b g number
  copy_rule_is path number x none at among copy =
      let same : path ≡ copy.path = only (subst (λ r. Among path r.targets) copy.is among) in
      ap (rule_at (begun_graph b) b.tree) same
      ∙ rule_is b.graph read b.law b.hash b.tree copy.path
      ∙ ap (λ o. or_copied (option_map (rule_in b.graph) o) (option_map (copy_rule copy.path) (copied_from b.graph b.tree copy.path))) copy.undeclared
      ∙ ap (option_map (copy_rule copy.path)) copy.copied
      ∙ ap Some (sym copy.is)
      ∙ sym (ap (λ o. or_copy_in g o (slice_get g.rules number)) none ∙ ap (option_map (copy_in g)) at)

  rule_by : (path : Path) (number : ℕ) (x : declared.Rule) → slice_get g.rules number ≡ Some x → Among path (paths_of g x.targets) →
      (slice_get b.graph.rules number ≡ Some x) ⊎ ((slice_get b.graph.rules number ≡ None) × Among x grown.copies) →
      rule_at (begun_graph b) b.tree path ≡ rule_numbered b g number
  rule_by path number x at among (inl e) = declared_rule_is path number x e at among
  rule_by path number x at among (inr h) = copy_rule_is path number x h.0 at among (grown.each_copy x h.1)

  rules_are : (node number : ℕ) (path : Path) → slice_get g.nodes node ≡ Some path → rule_of g.rules node ≡ Some number →
      rule_at (begun_graph b) b.tree path ≡ rule_numbered b g number
  rules_are node number path at of =
      let place = first_place (λ r. is_target_of r.targets node) g.rules number of in
      rule_by path number place.0 place.1 (named node path place.0 at place.2)
      (get_either b.graph.rules grown.copies number place.0 (sym (ap (λ rules. slice_get rules number) grown.rules) ∙ place.1))

  pub in_grown : {x : declared.Rule} → Among x b.graph.rules → Among x g.rules
  in_grown {x} m =
      let place = place_of m in
      at_place g.rules place.0 (ap (λ rules. slice_get rules place.0) grown.rules ∙ get_front b.graph.rules grown.copies place.0 x place.1)

  undeclared_by : (node : ℕ) (path : Path) (o : Option declared.Rule) → slice_get g.nodes node ≡ Some path → rule_of g.rules node ≡ None →
      rule_with b.graph path ≡ o → o ≡ None
  undeclared_by node path None at none e = refl
  undeclared_by node path (Some x) at none e =
      let h = rule_with_is b.graph read e in
      let place = place_of h.0 in
      let is = read.named.each_rule place.0 x place.1 in
      let led = rule_with_target g reading (in_grown h.0) (subst (λ ps. Among path ps) (sym (paths_stay x.targets is.targets)) h.1) in
      let lost : rule_with g path ≡ None =
      ap (λ o. option_and_then (slice_get g.rules) (option_and_then (rule_of g.rules) o)) (reading.apart node path at)
      ∙ ap (λ o. option_and_then (slice_get g.rules) o) none in
      none_some (sym lost ∙ led)

  -- in a grown graph the rule of a node is the rule of its path
  pub are_rules : AreRulesOf b g
  are_rules = record { rules = rules_are; undeclared = λ node path at none. undeclared_by node path (rule_with b.graph path) at none refl }
