-- The graph that a reading stands for: which rule each path has.
use Rattle.std.proofs.Common.{◌≡◌, ◌<◌, ℕ, Bool, true, false, not, cond, ◌||◌, ◌&&◌, List, [], ◌∷◌, length, Option, Some, None, refl, sym, subst, ap, ◌∙◌, ltb-true}
use Rattle.std.specs.Prelude.{slice_get, nat_eq, nat_lt, is_some, ◌↔◌}
use Rattle.std.specs.Option.{option_map, option_and_then, unwrap_or}
use Rattle.std.specs.Str.{bytes_eq}
use Rattle.std.proofs.lemmas.Bool.Decides.{Decides-eqb}
use Rattle.std.proofs.lemmas.Option.{slice_get-get_or}
use Rattle.std.proofs.lemmas.Slice.Eq.{bytes_eq-Decides}
use Rattle.scons_base.specs.declared.ids.NodeId.{NodeId}
use Rattle.node_tree.specs.Nodes.{number_of}
use Rattle.variant_dirs.specs.Variants.{source_of}
use Rattle.rule_graph.specs.declared.rule.Rule as declared
use Rattle.rule_graph.specs.Rules.{rule_of, is_target_of}
use Rattle.rule_graph.specs.Graphs.{RuleGraph, path_of}
use Rattle.world_api.specs.Act.{Law}
use Rattle.world_api.specs.declared.hash.Hash.{Hash}
use Rattle.build_model.specs.Rules.{Path, Content, Tree, Rule, Among, here, there}
use Rattle.build_model.specs.Reach.{has}
use Rattle.build_model.specs.Contents.{IsKnown, has_rule, is_file}
use Rattle.build_model.specs.Graphs.{IsGraph, copy_rule, declared_rule, copy_of_file, copy_of_source, copy_at, or_copy, rule_at, setting}
use Rattle.build_means.specs.Rules.{IsReading, paths_of, rule_in, rules_in, rule_with}
use Rattle.build_means.specs.Copies.{is_copied, source_for, source_among, copied_from, is_known}
use Rattle.build_means.specs.Graphs.{graph_of}
use Rattle.build_means.specs.Laws.{or_copied}
use Rattle.build_means.proofs.Lists.{true_false, none_some, some_same, any_there, there_any, all_there, among_map, map_among, place_of, at_place, first_place, has_among, among_has}

undeclared_step : {r x : Rule} {p : Path} {rules : List Rule} (b : Bool) → has p x.targets ≡ b → Among r (x ∷ rules) → Among p r.targets →
    cond b (Some x) (declared_rule rules p) ≡ None → (Among r rules → declared_rule rules p ≡ None → ⊥) → ⊥
undeclared_step true h m n e next = none_some (sym e)
undeclared_step false h here n e next = true_false (sym (among_has n) ∙ h)
undeclared_step false h (there m) n e next = next m e

none_declared : {r : Rule} {p : Path} (rules : List Rule) → Among r rules → Among p r.targets → declared_rule rules p ≡ None → ⊥
none_declared [] m n e = elim m [ ]
none_declared {p = p} (x ∷ rules) m n e = undeclared_step (has p x.targets) refl m n e (λ k. none_declared rules k n)

declared_step : {r x : Rule} {p : Path} {rules : List Rule} (b : Bool) → has p x.targets ≡ b → cond b (Some x) (declared_rule rules p) ≡ Some r →
    (declared_rule rules p ≡ Some r → Among r rules × Among p r.targets) → Among r (x ∷ rules) × Among p r.targets
declared_step {r} {x} {p} {rules} true h e next = subst (λ y. Among y (x ∷ rules) × Among p y.targets) (some_same e) (here, has_among p x.targets h)
declared_step false h e next = let k = next e in (there k.0, k.1)

some_declared : {r : Rule} {p : Path} (rules : List Rule) → declared_rule rules p ≡ Some r → Among r rules × Among p r.targets
some_declared [] e = none_some e
some_declared {p = p} (x ∷ rules) e = declared_step (has p x.targets) refl e (some_declared rules)

module _ (g : RuleGraph) (reading : IsReading g) where
  pub node_path : (n : NodeId) → n.0 < length g.nodes → slice_get g.nodes n.0 ≡ Some (path_of g.nodes n)
  node_path n below = let e = slice_get-get_or g.nodes n.0 [] below in e ∙ ap Some (sym (ap (λ o. unwrap_or o []) e))

  -- the number of the path of a target
  pub target_number : (x : declared.Rule) (i : ℕ) (n : NodeId) → slice_get g.rules i ≡ Some x → Among n x.targets →
      number_of g.nodes (path_of g.nodes n) ≡ Some n.0
  target_number x i n at m =
      let below = all_there (λ t. nat_lt t.0 (length g.nodes)) m (reading.named.each_rule i x at).targets in
      reading.apart n.0 (path_of g.nodes n) (node_path n (ltb-true n.0 (length g.nodes) below))

  pub target_rule : (x : declared.Rule) (i : ℕ) (n : NodeId) → slice_get g.rules i ≡ Some x → Among n x.targets → rule_of g.rules n.0 ≡ Some i
  target_rule x i n at m = reading.single i n.0 x at (there_any (λ t. nat_eq t.0 n.0) m ((Decides-eqb n.0 n.0).1 refl))

  -- a path that is a target of a rule leads to it
  pub rule_with_target : {x : declared.Rule} {p : Path} → Among x g.rules → Among p (paths_of g x.targets) → rule_with g p ≡ Some x
  rule_with_target {x} {p} m n =
      let place = place_of m in
      let node = among_map (path_of g.nodes) x.targets n in
      let number = target_number x place.0 node.0 place.1 node.1 in
      let rule = target_rule x place.0 node.0 place.1 node.1 in
      ap (λ q. rule_with g q) node.2
      ∙ ap (λ o. option_and_then (slice_get g.rules) (option_and_then (rule_of g.rules) o)) number
      ∙ ap (λ o. option_and_then (slice_get g.rules) o) rule ∙ place.1

  rule_and_target : {x : declared.Rule} {p : Path} (o : Option ℕ) → number_of g.nodes p ≡ o →
      option_and_then (slice_get g.rules) (option_and_then (rule_of g.rules) o) ≡ Some x → Among x g.rules × Among p (paths_of g x.targets)
  rule_and_target None number e = none_some e
  rule_and_target {x} {p} (Some n) number e = by (rule_of g.rules n) refl e
    where
      by : (o : Option ℕ) → rule_of g.rules n ≡ o → option_and_then (slice_get g.rules) o ≡ Some x → Among x g.rules × Among p (paths_of g x.targets)
      by None of e = none_some e
      by (Some i) of e =
          let place = first_place (λ r. is_target_of r.targets n) g.rules i of in
          let same = some_same (sym place.1 ∙ e) in
          let target = any_there (λ t. nat_eq t.0 n) x.targets (subst (λ r. is_target_of r.targets n ≡ true) same place.2) in
          let path = first_place (bytes_eq p) g.nodes n number in
          let is = (Decides-eqb target.0.0 n).0 target.2 in
          let named : path_of g.nodes target.0 ≡ p =
          ap (λ k. unwrap_or (slice_get g.nodes k) []) is ∙ ap (λ o. unwrap_or o []) path.1 ∙ sym ((bytes_eq-Decides p path.0).0 path.2) in
          (at_place g.rules i e, subst (λ q. Among q (paths_of g x.targets)) named (map_among (path_of g.nodes) target.1))

  -- and what it leads to is a rule with that target
  pub rule_with_is : {x : declared.Rule} {p : Path} → rule_with g p ≡ Some x → Among x g.rules × Among p (paths_of g x.targets)
  rule_with_is {p = p} e = rule_and_target (number_of g.nodes p) refl e

  -- the declared rule of a path
  pub declared_is : (p : Path) → declared_rule (rules_in g) p ≡ option_map (rule_in g) (rule_with g p)
  declared_is p = by (declared_rule (rules_in g) p) refl (rule_with g p) refl
    where
      by : (o : Option Rule) → declared_rule (rules_in g) p ≡ o → (d : Option declared.Rule) → rule_with g p ≡ d → o ≡ option_map (rule_in g) d
      by None e None f = refl
      by None e (Some x) f = let h = rule_with_is f in absurd (none_declared (rules_in g) (map_among (rule_in g) h.0) h.1 e)
      by (Some r) e d f =
          let h = some_declared (rules_in g) e in
          let x = among_map (rule_in g) g.rules h.0 in
          let led = rule_with_target x.1 (subst (λ y. Among p y.targets) x.2 h.1) in
          ap Some x.2 ∙ ap (option_map (rule_in g)) (sym led ∙ f)

  module _ (law : Law) (hash : Hash) (tree : Tree) where
    pub is_graph : IsGraph (graph_of g law hash tree)
    is_graph = record { no_copies = no_copies; one_rule = one_rule }
      where
        no_copies : (r : Rule) → Among r (rules_in g) → r.copies ≡ false
        no_copies r m = let x = among_map (rule_in g) g.rules m in ap (λ y. y.copies) x.2

        one_rule : (r : Rule) (p : Path) → Among r (rules_in g) → Among p r.targets → declared_rule (rules_in g) p ≡ Some r
        one_rule r p m n =
            let x = among_map (rule_in g) g.rules m in
            let led = rule_with_target x.1 (subst (λ y. Among p y.targets) x.2 n) in
            declared_is p ∙ ap (option_map (rule_in g)) led ∙ ap Some (sym x.2)

    file_copied : (p q : Path) (c : Content) (copied : Bool) → is_copied g q ≡ copied →
        copy_of_file p q c (cond copied (Some (unwrap_or (source_of g.variants g.top q) q)) None) ≡ option_map (copy_rule p) (cond (not copied && is_some c) (Some q) None)
    file_copied p q None true e = refl
    file_copied p q None false e = refl
    file_copied p q (Some bytes) true e = refl
    file_copied p q (Some bytes) false e = refl

    source_copied : (p q : Path) (d : Option declared.Rule) →
        copy_of_source (graph_of g law hash tree) tree p q (option_map (rule_in g) d)
        ≡ option_map (copy_rule p) (cond (is_some d || (not (is_copied g q) && is_some (tree q))) (Some q) None)
    source_copied p q (Some x) = refl
    source_copied p q None = file_copied p q (tree q) (is_copied g q) refl

    -- a copy is made of the source, if anything
    copy_is : (p : Path) → rule_with g p ≡ None →
        copy_at (graph_of g law hash tree) tree p (source_for g p) ≡ option_map (copy_rule p) (copied_from g tree p)
    copy_is p undeclared = by (is_copied g p) refl (source_of g.variants g.top p)
      where
        by : (copied : Bool) → is_copied g p ≡ copied → (source : Option Path) →
            copy_at (graph_of g law hash tree) tree p (cond copied (Some (unwrap_or source p)) None)
            ≡ option_map (copy_rule p) (cond copied (source_among g tree source) None)
        by false e source = refl
        by true e (Some q) = ap (λ o. copy_of_source (graph_of g law hash tree) tree p q o) (declared_is q) ∙ source_copied p q (rule_with g q)
        by true e None =
            ap (λ o. copy_of_source (graph_of g law hash tree) tree p p o) (declared_is p ∙ ap (option_map (rule_in g)) undeclared)
            ∙ file_copied p p (tree p) (is_copied g p) refl
            ∙ ap (λ c. option_map (copy_rule p) (cond (not c && is_some (tree p)) (Some p) None)) e

    -- which rule each path has
    pub rule_is : (p : Path) → rule_at (graph_of g law hash tree) tree p ≡ or_copied (option_map (rule_in g) (rule_with g p)) (option_map (copy_rule p) (copied_from g tree p))
    rule_is p = ap (or_copy (graph_of g law hash tree) tree p) (declared_is p) ∙ by (rule_with g p) refl
      where
        by : (d : Option declared.Rule) → rule_with g p ≡ d →
            or_copy (graph_of g law hash tree) tree p (option_map (rule_in g) d) ≡ or_copied (option_map (rule_in g) d) (option_map (copy_rule p) (copied_from g tree p))
        by (Some x) e = refl
        by None e = copy_is p e

    known_by : (p : Path) (d : Option declared.Rule) (copy : Option Path) (c : Content) → tree p ≡ c →
        rule_at (graph_of g law hash tree) tree p ≡ or_copied (option_map (rule_in g) d) (option_map (copy_rule p) copy) →
        (is_some d || (is_some copy || is_some c)) ≡ true → IsKnown (setting (graph_of g law hash tree) tree) tree p
    known_by p (Some x) copy c file rule e = has_rule (rule_in g x) rule
    known_by p None (Some q) c file rule e = has_rule (copy_rule p q) rule
    known_by p None None (Some bytes) file rule e = is_file bytes file
    known_by p None None None file rule e = true_false (sym e)

    by_known : (p : Path) (d : Option declared.Rule) (copy : Option Path) (c : Content) → tree p ≡ c →
        rule_at (graph_of g law hash tree) tree p ≡ or_copied (option_map (rule_in g) d) (option_map (copy_rule p) copy) →
        IsKnown (setting (graph_of g law hash tree) tree) tree p → (is_some d || (is_some copy || is_some c)) ≡ true
    by_known p (Some x) copy c file rule known = refl
    by_known p None (Some q) c file rule known = refl
    by_known p None None (Some bytes) file rule known = refl
    by_known p None None None file rule (has_rule r e) = none_some (sym rule ∙ e)
    by_known p None None None file rule (is_file bytes e) = none_some (sym file ∙ e)

    pub known_is : (p : Path) → (is_known g tree p ≡ true) ↔ IsKnown (setting (graph_of g law hash tree) tree) tree p
    known_is p =
        (known_by p (rule_with g p) (copied_from g tree p) (tree p) refl (rule_is p), by_known p (rule_with g p) (copied_from g tree p) (tree p) refl (rule_is p))
