-- The list of cleaning, by numbers of rules, is the order of the model's rules.
use Rattle.std.proofs.Common.{arith, ◌≡◌, ◌<◌, ℕ, zero, suc, Bool, true, false, ◌&&◌, List, [], ◌∷◌, ◌++◌, length, Option, Some, None, refl, sym, subst, ap, ◌∙◌, inl, inr, ◌⊎◌, ltb-true}
use Rattle.std.specs.Prelude.{All, slice_get, nat_lt}
use Rattle.std.specs.Option.{option_map, option_and_then}
use Rattle.std.specs.List.{cons_option}
use Rattle.std.proofs.lemmas.List.{map-append}
use Rattle.std.proofs.lemmas.List.Elements.{All-nil, All-cons, All-append}
use Rattle.std.proofs.lemmas.List.Folds.{list_all-append}
use Rattle.std.proofs.lemmas.Option.{slice_get_past}
use Rattle.scons_base.specs.declared.ids.NodeId.{NodeId}
use Rattle.scons_base.specs.declared.ids.RuleId.{RuleId}
use Rattle.node_tree.specs.Nodes.{number_of}
use Rattle.rule_graph.specs.declared.rule.Rule as declared
use Rattle.rule_graph.specs.Graphs.{RuleGraph, path_of}
use Rattle.rule_graph.specs.Rules.{are_below, rule_of, IsRule}
use Rattle.task_plan.specs.Orders.{is_among, Visits, nothing_left, met_again, not_known, met_first}
use Rattle.task_plan.specs.Rooted.{makers_in}
use Rattle.task_plan.proofs.ReachedLemmas.{first, later, first_or}
use Rattle.build_model.specs.Rules.{Rule, Among, here, there}
use Rattle.build_model.specs.Graphs.{declared_rule}
use Rattle.build_model.specs.Needs.{with_rule, Visits as Goes, nothing_left as goes_nowhere, met_again as goes_again, met_first as goes_into}
use Rattle.build_model.proofs.Lists.{true_false, none_some, some_same, among_same}
use Rattle.build_means.specs.Rules.{IsReading, paths_of, rule_in, rules_in}
use Rattle.build_means.proofs.Lists.{map_among, among_map}
use Rattle.build_means.proofs.Readings.{node_path, target_number, target_rule, declared_is}
use Rattle.scons_report.specs.Cleaning.{declared_for, leads_to, rule_number, rules_numbered, IsCleanList}
use Rattle.scons_report.specs.Cleans.{named_in, led_by, led_to}

numbered_id : ℕ → RuleId
numbered_id n = record { 0 = n }

both : (a b : Bool) → a ≡ true → b ≡ true → (a && b) ≡ true
both a b first second = rw (first, second) refl

head_below : (a b : Bool) → (a && b) ≡ true → (a ≡ true) × (b ≡ true)
head_below true b e = (refl, e)
head_below false b e = true_false (sym e)

module _ (g : RuleGraph) where
  numbered_first : (r : RuleId) (rules : List RuleId) (x : Rule) → rule_number g r ≡ Some x → rules_numbered g (r ∷ rules) ≡ x ∷ rules_numbered g rules
  numbered_first r rules x e = ap (λ o. with_rule o (rules_numbered g rules)) e

  numbered_none : (r : RuleId) (rules : List RuleId) → rule_number g r ≡ None → rules_numbered g (r ∷ rules) ≡ rules_numbered g rules
  numbered_none r rules e = ap (λ o. with_rule o (rules_numbered g rules)) e

  with_append : (o : Option Rule) (xs ys : List Rule) → with_rule o (xs ++ ys) ≡ with_rule o xs ++ ys
  with_append None xs ys = refl
  with_append (Some x) xs ys = refl

  numbered_append : (xs ys : List RuleId) → rules_numbered g (xs ++ ys) ≡ rules_numbered g xs ++ rules_numbered g ys
  numbered_append [] ys = refl
  numbered_append (x ∷ xs) ys = ap (with_rule (rule_number g x)) (numbered_append xs ys) ∙ with_append (rule_number g x) (rules_numbered g xs) (rules_numbered g ys)

  with_there : (o : Option Rule) (x : Rule) (xs : List Rule) → Among x xs → Among x (with_rule o xs)
  with_there None x xs m = m
  with_there (Some r) x xs m = there m

  there_by : (n : ℕ) (x : Rule) (r : RuleId) (rules : List RuleId) → rule_number g (numbered_id n) ≡ Some x → (r.0 ≡ n) ⊎ (is_among n rules ≡ true)
      → (is_among n rules ≡ true → Among x (rules_numbered g rules)) → Among x (rules_numbered g (r ∷ rules))
  unfolding numbered_id
  there_by n x r rules e (inl same) next =
      subst (λ l. Among x l) (sym (numbered_first r rules x (ap (λ k. option_map (rule_in g) (slice_get g.rules k)) same ∙ e))) here
  there_by n x r rules e (inr m) next = with_there (rule_number g r) x (rules_numbered g rules) (next m)

  -- a rule stands among those of its number and others
  numbered_there : (n : ℕ) (x : Rule) (rules : List RuleId) → rule_number g (numbered_id n) ≡ Some x → is_among n rules ≡ true → Among x (rules_numbered g rules)
  numbered_there n x [] e m = true_false (sym m)
  numbered_there n x (r ∷ rules) e m = there_by n x r rules e (first_or n r rules m) (numbered_there n x rules e)

  record HasNumber (x : Rule) (rules : List RuleId) : Type 0 where
    number : RuleId
    among : is_among number.0 rules ≡ true
    is : rule_number g number ≡ Some x

  has_more : (x : Rule) (r : RuleId) (rules : List RuleId) → HasNumber x rules → HasNumber x (r ∷ rules)
  has_more x r rules h = record { number = h.number; among = later h.number.0 r rules h.among; is = h.is }

  number_by : (x : Rule) (r : RuleId) (rules : List RuleId) (o : Option Rule) → rule_number g r ≡ o → Among x (with_rule o (rules_numbered g rules))
      → (Among x (rules_numbered g rules) → HasNumber x rules) → HasNumber x (r ∷ rules)
  number_by x r rules None e m next = has_more x r rules (next m)
  number_by x r rules (Some y) e here next = record { number = r; among = first r.0 r rules refl; is = e }
  number_by x r rules (Some y) e (there m) next = has_more x r rules (next m)

  -- and what stands there has a number
  has_number : (x : Rule) (rules : List RuleId) → Among x (rules_numbered g rules) → HasNumber x rules
  has_number x [] m = elim m [ ]
  has_number x (r ∷ rules) m = number_by x r rules (rule_number g r) refl m (has_number x rules)

  -- the rule of a number in the graph
  record StandsAt (number : ℕ) : Type 0 where
    of : declared.Rule
    at : slice_get g.rules number ≡ Some of

  stands_by : (number : ℕ) (x : Rule) (o : Option declared.Rule) → slice_get g.rules number ≡ o → option_map (rule_in g) o ≡ Some x → StandsAt number
  stands_by number x None e is = none_some is
  stands_by number x (Some of) e is = record { of = of; at = e }

  stands_at : (r : RuleId) (x : Rule) → rule_number g r ≡ Some x → StandsAt r.0
  stands_at r x is = stands_by r.0 x (slice_get g.rules r.0) refl is

  none_there : (rules : List declared.Rule) (n : ℕ) → n < length rules → slice_get rules n ≡ None → ⊥
  none_there [] n lt e = let no : n < 0 = lt in omega arith
  none_there (r ∷ rules) zero lt e = none_some (sym e)
  none_there (r ∷ rules) (suc n) lt e = none_there rules n (omega arith) e

  below_by : (number : ℕ) → number < length g.rules → (o : Option declared.Rule) → slice_get g.rules number ≡ o → StandsAt number
  below_by number lt (Some of) e = record { of = of; at = e }
  below_by number lt None e = absurd (none_there g.rules number lt e)

  below_at : (number : ℕ) → number < length g.rules → StandsAt number
  below_at number lt = below_by number lt (slice_get g.rules number) refl

  is_rule : (r : RuleId) (s : StandsAt r.0) → rule_number g r ≡ Some (rule_in g s.of)
  is_rule r s = ap (option_map (rule_in g)) s.at

  module _ (reading : IsReading g) where
    first_target : (targets : List NodeId) → 0 < length targets → (n : NodeId) × Among n targets
    first_target [] lt = absurd (let no : 0 < 0 = lt in omega arith)
    first_target (n ∷ targets) lt = (n, here)

    -- two numbers of a rule are one
    one_number : (a b : RuleId) (x : Rule) → rule_number g a ≡ Some x → rule_number g b ≡ Some x → a.0 ≡ b.0
    one_number a b x e f =
        let one = stands_at a x e in
        let two = stands_at b x f in
        let same : rule_in g one.of ≡ rule_in g two.of = some_same (sym (is_rule a one) ∙ e) ∙ sym (some_same (sym (is_rule b two) ∙ f)) in
        let t = first_target one.of.targets (reading.named.each_rule a.0 one.of one.at).has_target in
        let path = map_among (path_of g.nodes) t.1 in
        let u = among_map (path_of g.nodes) two.of.targets (among_same (ap (λ (r : Rule). r.targets) same) path) in
        let number : t.0.0 ≡ u.0.0 = some_same (sym (target_number g reading one.of a.0 t.0 one.at t.1)
        ∙ ap (number_of g.nodes) u.2 ∙ target_number g reading two.of b.0 u.0 two.at u.1) in
        some_same (sym (target_rule g reading one.of a.0 t.0 one.at t.1) ∙ ap (rule_of g.rules) number ∙ target_rule g reading two.of b.0 u.0 two.at u.1)

    not_again : (r : RuleId) (x : Rule) (met : List RuleId) → rule_number g r ≡ Some x → is_among r.0 met ≡ false → Among x (rules_numbered g met) → ⊥
    not_again r x met e out m =
        let h = has_number x met m in
        let same : h.number.0 ≡ r.0 = one_number h.number r x h.is e in
        true_false (sym (ap (λ n. is_among n met) (sym same) ∙ h.among) ∙ out)

    -- the declared rule of a node's path
    node_rule : (n : NodeId) → n.0 < length g.nodes
        → declared_rule (rules_in g) (path_of g.nodes n) ≡ option_map (rule_in g) (option_and_then (slice_get g.rules) (rule_of g.rules n.0))
    node_rule n lt =
        declared_is g reading (path_of g.nodes n)
        ∙ ap (λ o. option_map (rule_in g) (option_and_then (slice_get g.rules) (option_and_then (rule_of g.rules) o)))
        (reading.apart n.0 (path_of g.nodes n) (node_path g reading n lt))

    one_by : (o : Option ℕ) (d : Option Rule) (rules : List RuleId) → d ≡ option_map (rule_in g) (option_and_then (slice_get g.rules) o)
        → with_rule d (rules_numbered g rules) ≡ rules_numbered g (cons_option (option_map (λ (r : ℕ). let id : RuleId = record { 0 = r } in id) o) rules)
    one_by None d rules e = ap (λ x. with_rule x (rules_numbered g rules)) e
    one_by (Some r) d rules e = ap (λ x. with_rule x (rules_numbered g rules)) e

    -- the rules of some nodes, by their numbers
    nodes_rules : (nodes : List NodeId) → are_below (length g.nodes) nodes ≡ true → declared_for (rules_in g) (paths_of g nodes) ≡ rules_numbered g (makers_in g nodes)
    nodes_rules [] below = refl
    nodes_rules (n ∷ nodes) below =
        let b = head_below (nat_lt n.0 (length g.nodes)) (are_below (length g.nodes) nodes) below in
        ap (with_rule (declared_rule (rules_in g) (path_of g.nodes n))) (nodes_rules nodes b.1)
        ∙ one_by (rule_of g.rules n.0) (declared_rule (rules_in g) (path_of g.nodes n)) (makers_in g nodes) (node_rule n (ltb-true n.0 (length g.nodes) b.0))

    named_paths : (r : declared.Rule) → (((paths_of g r.sources ++ paths_of g r.depends) ++ paths_of g r.libs) ++ paths_of g r.required) ≡ paths_of g (named_in r)
    named_paths r =
        let f = path_of g.nodes in
        ap (λ l. (l ++ paths_of g r.libs) ++ paths_of g r.required) (sym (map-append f r.sources r.depends))
        ∙ ap (λ l. l ++ paths_of g r.required) (sym (map-append f (r.sources ++ r.depends) r.libs))
        ∙ sym (map-append f ((r.sources ++ r.depends) ++ r.libs) r.required)

    named_below : (r : declared.Rule) → IsRule (length g.nodes) r → are_below (length g.nodes) (named_in r) ≡ true
    named_below r is =
        let p = λ (n : NodeId). nat_lt n.0 (length g.nodes) in
        list_all-append p ((r.sources ++ r.depends) ++ r.libs) r.required
        ∙ both _ _ (list_all-append p (r.sources ++ r.depends) r.libs ∙ both _ _ (list_all-append p r.sources r.depends ∙ both _ _ is.sources is.depends) is.libs) is.required

    -- what a rule leads to, by numbers
    leads_are : (r : RuleId) (s : StandsAt r.0) → leads_to (rules_in g) (rule_in g s.of) ≡ rules_numbered g (led_to g r.0)
    leads_are r s =
        ap (declared_for (rules_in g)) (named_paths s.of) ∙ nodes_rules (named_in s.of) (named_below s.of (reading.named.each_rule r.0 s.of s.at))
        ∙ ap (λ o. rules_numbered g (led_by g o)) (sym s.at)

    again_by : (met rules after order : List RuleId) (rule : RuleId) (o : Option Rule) → rule_number g rule ≡ o → is_among rule.0 met ≡ true
        → Goes (leads_to (rules_in g)) (rules_numbered g met) (rules_numbered g rules) (rules_numbered g after) (rules_numbered g order)
        → Goes (leads_to (rules_in g)) (rules_numbered g met) (rules_numbered g (rule ∷ rules)) (rules_numbered g after) (rules_numbered g order)
    unfolding numbered_id
    again_by met rules after order rule None e m v =
        subst (λ l. Goes (leads_to (rules_in g)) (rules_numbered g met) l (rules_numbered g after) (rules_numbered g order)) (sym (numbered_none rule rules e)) v
    again_by met rules after order rule (Some x) e m v =
        subst (λ l. Goes (leads_to (rules_in g)) (rules_numbered g met) l (rules_numbered g after) (rules_numbered g order)) (sym (numbered_first rule rules x e))
        (goes_again (numbered_there rule.0 x met e m) v)

    -- the same walk over the rules of the model
    goes : {met rules after order : List RuleId} → Visits (length g.rules) (led_to g) met rules after order
        → Goes (leads_to (rules_in g)) (rules_numbered g met) (rules_numbered g rules) (rules_numbered g after) (rules_numbered g order)
    goes nothing_left = goes_nowhere
    goes (met_again {met = met} {rules = rules} {after = after} {order = order} {rule = rule} m v) =
        again_by met rules after order rule (rule_number g rule) refl m (goes v)
    goes (not_known {met = met} {rules = rules} {after = after} {order = order} {rule = rule} le v) =
        let none : rule_number g rule ≡ None = ap (option_map (rule_in g)) (slice_get_past g.rules rule.0 le) in
        subst (λ l. Goes (leads_to (rules_in g)) (rules_numbered g met) l (rules_numbered g after) (rules_numbered g order)) (sym (numbered_none rule rules none)) (goes v)
    goes (met_first {met = met} {between = between} {rules = rules} {after = after} {below = below} {behind = behind} {rule = rule} lt out v w) =
        let s = below_at rule.0 lt in
        let x = rule_in g s.of in
        let is = is_rule rule s in
        let leads = leads_to (rules_in g) in
        let inner : Goes leads (x ∷ rules_numbered g met) (leads x) (rules_numbered g between) (rules_numbered g below) =
        subst (λ l. Goes leads l (leads x) (rules_numbered g between) (rules_numbered g below)) (numbered_first rule met x is)
        (subst (λ l. Goes leads (rules_numbered g (rule ∷ met)) l (rules_numbered g between) (rules_numbered g below)) (sym (leads_are rule s)) (goes v)) in
        let whole : Goes leads (rules_numbered g met) (x ∷ rules_numbered g rules) (rules_numbered g after) (rules_numbered g below ++ x ∷ rules_numbered g behind) =
        goes_into (not_again rule x met is out) inner (goes w) in
        let order_is : rules_numbered g (below ++ rule ∷ behind) ≡ rules_numbered g below ++ x ∷ rules_numbered g behind =
        numbered_append below (rule ∷ behind) ∙ ap (λ l. rules_numbered g below ++ l) (numbered_first rule behind x is) in
        subst (λ l. Goes leads (rules_numbered g met) l (rules_numbered g after) (rules_numbered g (below ++ rule ∷ behind))) (sym (numbered_first rule rules x is))
        (subst (λ l. Goes leads (rules_numbered g met) (x ∷ rules_numbered g rules) (rules_numbered g after) l) (sym order_is) whole)

    -- only rules of the graph are left
    known : {met rules after order : List RuleId} → Visits (length g.rules) (led_to g) met rules after order → All (λ (id : RuleId). id.0 < length g.rules) order
    known nothing_left = All-nil (λ (id : RuleId). id.0 < length g.rules)
    known (met_again m v) = known v
    known (not_known le v) = known v
    known (met_first {below = below} {behind = behind} {rule = rule} lt out v w) =
        let P = λ (id : RuleId). id.0 < length g.rules in
        All-append P below (rule ∷ behind) (known v) (All-cons P rule behind lt (known w))

    -- the list of a walk from the rules of the requested nodes
    pub clean_list_is : (requested : List NodeId) (met list : List RuleId) → are_below (length g.nodes) requested ≡ true
        → Visits (length g.rules) (led_to g) [] (makers_in g requested) met list → IsCleanList g requested list
    clean_list_is requested met list below v = record {
      known = known v;
      order = record {
        met = rules_numbered g met;
        visits = subst (λ l. Goes (leads_to (rules_in g)) [] l (rules_numbered g met) (rules_numbered g list)) (sym (nodes_rules requested below)) (goes v);
      };
    }
