-- Rules of a graph, seen through the paths of their nodes.
use Rattle.std.proofs.Common.{arith, ◌≡◌, ◌≢◌, ◌<◌, ◌≤◌, ◌∙◌, ℕ, zero, suc, ◌+◌, List, [], ◌∷◌, ◌++◌, ◌&&◌, ◌||◌, Bool, true, false, cond, ap, sym, refl, length, map, Some, None, Option, true≢false}
use Rattle.std.specs.Prelude.{nat_eq, nat_lt, slice_get, get_or, position, is_some, unwrap_or, MatchOption, Result, Ok, Err}
use Rattle.std.specs.List.{list_any, list_all, find, position_or_len}
use Rattle.std.specs.Option.{option_map}
use Rattle.std.specs.Str.{bytes_eq}
use Rattle.std.specs.Cmp.Lexicographic.{pointwise}
use Rattle.std.proofs.lemmas.Bool.{ltb-true, ltb-false, lt-ltb}
use Rattle.std.proofs.lemmas.Bool.Decides.{nat_tests}
use Rattle.std.proofs.lemmas.List.{length-map, map-append}
use Rattle.std.proofs.lemmas.Slice.Eq.{bytes_eq-Decides}
use Rattle.std.proofs.lemmas.Option.{slice_get-get_or}
use Rattle.scons_base.specs.declared.limits.TheConstants.{RULE_LIMIT}
use Rattle.scons_base.specs.declared.ids.NodeId.{NodeId}
use Rattle.node_tree.specs.Nodes.{number_of, AreApart}
use Rattle.rule_graph.specs.declared.rule.Rule.{Rule}
use Rattle.rule_graph.specs.declared.fault.RuleFault.{RuleFault}
use Rattle.rule_graph.specs.declared.fault.RuleFault.TheVariants.{SelfSource, TwoRules, Full}
use Rattle.rule_graph.specs.declared.fault.RuleFault.TheVariants as kind
use Rattle.rule_graph.specs.Rules.{node_eq, line_eq, is_target_of, is_own_source, own_source, is_same, equal_rule, taken, rule_of, are_below, IsRule}
use Rattle.rule_graph.specs.Graphs.{RuleGraph, path_of, rule_fault, AddsRule, IsGraph}
use Rattle.scons_rules.specs.declared.fault.RuleReadFault.{RuleReadFault}
use Rattle.scons_rules.specs.declared.fault.RuleReadFault.TheVariants as read
use Rattle.scons_rules.specs.Faults.{of_rule}
use Rattle.scons_rules.specs.PathRules.{PathRule, by_paths, same_rule, rule_at, own_target, taken_target, with_rule}

and_left : (a b : Bool) → (a && b) ≡ true → a ≡ true
and_left true b e = refl
and_left false b e = absurd (cc)

and_right : (a b : Bool) → (a && b) ≡ true → b ≡ true
and_right true b e = e
and_right false b e = absurd (cc)

eq_number : (a b : ℕ) → nat_eq a b ≡ true → a ≡ b
eq_number a b e = grind (arith, nat_tests)

number_eq : (a : ℕ) → nat_eq a a ≡ true
number_eq a = grind (arith, nat_tests)

-- what a test tells of a list, and of what it maps to

pub any_map : {X Y : Type 0} → (p : X → Bool) (q : Y → Bool) (f : X → Y) (fits : X → Bool) → ((x : X) → fits x ≡ true → p x ≡ q (f x)) → (xs : List X)
    → list_all fits xs ≡ true → list_any p xs ≡ list_any q (map f xs)
any_map p q f fits same [] e = refl
any_map p q f fits same (x ∷ xs) e =
    let first = same x (and_left (fits x) (list_all fits xs) e) in
    let rest = any_map p q f fits same xs (and_right (fits x) (list_all fits xs) e) in
    rw (first, rest) refl

find_map : {X Y : Type 0} → (p : X → Bool) (q : Y → Bool) (f : X → Y) (fits : X → Bool) → ((x : X) → fits x ≡ true → p x ≡ q (f x)) → (xs : List X)
    → list_all fits xs ≡ true → option_map f (find p xs) ≡ find q (map f xs)
find_map p q f fits same [] e = refl
find_map p q f fits same (x ∷ xs) e =
    by (p x) (q (f x)) (same x (and_left (fits x) (list_all fits xs) e)) (find_map p q f fits same xs (and_right (fits x) (list_all fits xs) e))
  where
    by : (a b : Bool) → a ≡ b → option_map f (find p xs) ≡ find q (map f xs) → option_map f (cond a (Some x) (find p xs)) ≡ cond b (Some (f x)) (find q (map f xs))
    by true true e rest = refl
    by false false e rest = rest
    by true false e rest = absurd (cc)
    by false true e rest = absurd (cc)

or_len_map : {X Y : Type 0} → (p : X → Bool) (q : Y → Bool) (f : X → Y) (xs : List X) → ((i : ℕ) (x : X) → slice_get xs i ≡ Some x → p x ≡ q (f x))
    → position_or_len p xs ≡ position_or_len q (map f xs)
or_len_map p q f [] same = refl
or_len_map p q f (x ∷ xs) same =
    let first : p x ≡ q (f x) = same zero x refl in
    let rest : position_or_len p xs ≡ position_or_len q (map f xs) = or_len_map p q f xs (λ i y e. same (suc i) y e) in
    rw (first, rest) refl

pub position_map : {X Y : Type 0} → (p : X → Bool) (q : Y → Bool) (f : X → Y) (xs : List X) → ((i : ℕ) (x : X) → slice_get xs i ≡ Some x → p x ≡ q (f x))
    → position p xs ≡ position q (map f xs)
position_map p q f xs same = rw (or_len_map p q f xs same, length-map xs f) refl

pointwise_map : {X Y : Type 0} → (p : X → X → Bool) (q : Y → Y → Bool) (f : X → Y) (fits : X → Bool)
    → ((x y : X) → fits x ≡ true → fits y ≡ true → p x y ≡ q (f x) (f y)) → (xs ys : List X) → list_all fits xs ≡ true → list_all fits ys ≡ true
    → pointwise p xs ys ≡ pointwise q (map f xs) (map f ys)
pointwise_map p q f fits same [] [] d e = refl
pointwise_map p q f fits same [] (y ∷ ys) d e = refl
pointwise_map p q f fits same (x ∷ xs) [] d e = refl
pointwise_map p q f fits same (x ∷ xs) (y ∷ ys) d e =
    let first = same x y (and_left (fits x) (list_all fits xs) d) (and_left (fits y) (list_all fits ys) e) in
    let rest = pointwise_map p q f fits same xs ys (and_right (fits x) (list_all fits xs) d) (and_right (fits y) (list_all fits ys) e) in
    rw (first, rest) refl

is_some_map : {X Y : Type 0} → (f : X → Y) (o : Option X) → is_some (option_map f o) ≡ is_some o
is_some_map f None = refl
is_some_map f (Some x) = refl

-- nodes and their paths
module _ (nodes : List (List ℕ)) (apart : AreApart nodes) where
  there : (n : NodeId) → nat_lt n.0 (length nodes) ≡ true → slice_get nodes n.0 ≡ Some (path_of nodes n)
  there n e =
      let got : slice_get nodes n.0 ≡ Some (get_or nodes n.0 []) = slice_get-get_or nodes n.0 [] (ltb-true n.0 (length nodes) e) in
      rw got (refl)

  one_path : (a b : NodeId) → nat_lt a.0 (length nodes) ≡ true → nat_lt b.0 (length nodes) ≡ true → nat_eq a.0 b.0 ≡ bytes_eq (path_of nodes a) (path_of nodes b)
  one_path a b la lb = by (nat_eq a.0 b.0) (bytes_eq (path_of nodes a) (path_of nodes b)) refl refl
    where
      by : (m n : Bool) → nat_eq a.0 b.0 ≡ m → bytes_eq (path_of nodes a) (path_of nodes b) ≡ n → m ≡ n
      by true true d e = refl
      by false false d e = refl
      by true false d e =
          let number = eq_number a.0 b.0 d in
          let same : path_of nodes a ≡ path_of nodes b = ap (λ i. unwrap_or (slice_get nodes i) []) number in
          absurd (true≢false (sym ((bytes_eq-Decides (path_of nodes a) (path_of nodes b)).1 same) ∙ e))
      by false true d e =
          let same : path_of nodes a ≡ path_of nodes b = (bytes_eq-Decides (path_of nodes a) (path_of nodes b)).0 e in
          let first : number_of nodes (path_of nodes a) ≡ Some a.0 = apart a.0 (path_of nodes a) (there a la) in
          let second : number_of nodes (path_of nodes b) ≡ Some b.0 = apart b.0 (path_of nodes b) (there b lb) in
          let number : a.0 ≡ b.0 = cc in
          absurd (true≢false (sym (number_eq b.0) ∙ rw number at d))

  among : (ns : List NodeId) (n : NodeId) → are_below (length nodes) ns ≡ true → nat_lt n.0 (length nodes) ≡ true
      → is_target_of ns n.0 ≡ list_any (λ t. bytes_eq t (path_of nodes n)) (map (path_of nodes) ns)
  among ns n low l =
      any_map (λ t. nat_eq t.0 n.0) (λ t. bytes_eq t (path_of nodes n)) (path_of nodes) (λ t. nat_lt t.0 (length nodes)) (λ t e. one_path t n e l) ns low

  same_nodes : (ms ns : List NodeId) → are_below (length nodes) ms ≡ true → are_below (length nodes) ns ≡ true
      → pointwise node_eq ms ns ≡ pointwise bytes_eq (map (path_of nodes) ms) (map (path_of nodes) ns)
  same_nodes ms ns d e = pointwise_map node_eq bytes_eq (path_of nodes) (λ t. nat_lt t.0 (length nodes)) (λ x y d e. one_path x y d e) ms ns d e

  same_by : (a b : Rule) → IsRule (length nodes) a → IsRule (length nodes) b → is_same a b ≡ same_rule (by_paths nodes a) (by_paths nodes b)
  same_by a b d e = rw (same_nodes a.targets b.targets d.targets e.targets, same_nodes a.sources b.sources d.sources e.sources) refl

  own_by : (r : Rule) → IsRule (length nodes) r → option_map (path_of nodes) (own_source r) ≡ own_target (by_paths nodes r)
  own_by r valid =
      find_map (λ t. is_own_source r.sources t) (λ t. list_any (λ s. bytes_eq s t) (map (path_of nodes) r.sources)) (path_of nodes) (λ t. nat_lt t.0 (length nodes))
      (λ t e. among r.sources t valid.sources e) r.targets valid.targets

  module _ (rules : List Rule) (each : (i : ℕ) (r : Rule) → slice_get rules i ≡ Some r → IsRule (length nodes) r) where
    rule_by : (n : NodeId) → nat_lt n.0 (length nodes) ≡ true → rule_of rules n.0 ≡ rule_at (map (by_paths nodes) rules) (path_of nodes n)
    rule_by n l =
        position_map (λ r. is_target_of r.targets n.0) (λ r. list_any (λ t. bytes_eq t (path_of nodes n)) r.targets) (by_paths nodes) rules
        (λ i r e. among r.targets n (each i r e).targets l)

    equal_by : (rule : Rule) → IsRule (length nodes) rule → equal_rule rules rule ≡ position (λ r. same_rule r (by_paths nodes rule)) (map (by_paths nodes) rules)
    equal_by rule valid =
        position_map (λ r. is_same r rule) (λ r. same_rule r (by_paths nodes rule)) (by_paths nodes) rules (λ i r e. same_by r rule (each i r e) valid)

    taken_by : (rule : Rule) → IsRule (length nodes) rule → option_map (path_of nodes) (taken rules rule.targets) ≡ taken_target (map (by_paths nodes) rules) (by_paths nodes rule)
    taken_by rule valid =
        find_map (λ t. is_some (rule_of rules t.0)) (λ t. is_some (rule_at (map (by_paths nodes) rules) t)) (path_of nodes) (λ t. nat_lt t.0 (length nodes))
        (λ t e. ap is_some (rule_by t e)) rule.targets valid.targets

-- a rule that is taken, or isn't
module _ (g : RuleGraph) (apart : AreApart g.nodes) (valid : IsGraph (length g.nodes) g.rules g.aliases) (rule : Rule) (fits : IsRule (length g.nodes) rule) where
  own_is : (o : Option NodeId) → own_source rule ≡ o → own_target (by_paths g.nodes rule) ≡ option_map (path_of g.nodes) o
  own_is o e = sym (own_by g.nodes apart rule fits) ∙ ap (option_map (path_of g.nodes)) e

  equal_is : (b : Bool) → is_some (equal_rule g.rules rule) ≡ b → is_some (position (λ r. same_rule r (by_paths g.nodes rule)) (map (by_paths g.nodes) g.rules)) ≡ b
  equal_is b e = ap is_some (sym (equal_by g.nodes apart g.rules valid.each_rule rule fits)) ∙ e

  taken_is : (o : Option NodeId) → taken g.rules rule.targets ≡ o → taken_target (map (by_paths g.nodes) g.rules) (by_paths g.nodes rule) ≡ option_map (path_of g.nodes) o
  taken_is o e = sym (taken_by g.nodes apart g.rules valid.each_rule rule fits) ∙ ap (option_map (path_of g.nodes)) e

  room_is : (b : Bool) → nat_lt (length g.rules) RULE_LIMIT ≡ b → nat_lt (length (map (by_paths g.nodes) g.rules)) RULE_LIMIT ≡ b
  room_is b e = ap (λ n. nat_lt n RULE_LIMIT) (length-map g.rules (by_paths g.nodes)) ∙ e

  refused_by : (e : RuleFault) (own : Option NodeId) (same : Bool) (free : Option NodeId) (room : Bool) → own_source rule ≡ own
      → is_some (equal_rule g.rules rule) ≡ same → taken g.rules rule.targets ≡ free → nat_lt (length g.rules) RULE_LIMIT ≡ room
      → rule_fault g rule ≡ Some e → with_rule (map (by_paths g.nodes) g.rules) (by_paths g.nodes rule) ≡ Err (of_rule e)
  unfolding with_rule
  refused_by e (Some t) same free room a b c d fault =
      let told : Some (SelfSource (path_of g.nodes t)) ≡ Some e = rw a at fault in
      let same : SelfSource (path_of g.nodes t) ≡ e = cc in
      rw (own_is (Some t) a) (ap (λ f. Err (of_rule f)) same)
  refused_by e None true free room a b c d fault =
      let told : None ≡ Some e = rw (a, b) at fault in
      absurd (cc)
  refused_by e None false (Some t) room a b c d fault =
      let told : Some (TwoRules (path_of g.nodes t)) ≡ Some e = rw (a, b, c) at fault in
      let same : TwoRules (path_of g.nodes t) ≡ e = cc in
      rw (own_is None a, taken_is (Some t) c, equal_is false b) (ap (λ f. Err (of_rule f)) same)
  refused_by e None false None true a b c d fault =
      let told : None ≡ Some e = rw (a, b, c, d) at fault in
      absurd (cc)
  refused_by e None false None false a b c d fault =
      let told : Some (Full (RULE_LIMIT + 1)) ≡ Some e = rw (a, b, c, d) at fault in
      let same : Full (RULE_LIMIT + 1) ≡ e = cc in
      rw (own_is None a, taken_is None c, equal_is false b, room_is false d) (ap (λ f. Err (of_rule f)) same)

  pub refused : (e : RuleFault) → rule_fault g rule ≡ Some e → with_rule (map (by_paths g.nodes) g.rules) (by_paths g.nodes rule) ≡ Err (of_rule e)
  refused e fault =
      refused_by e (own_source rule) (is_some (equal_rule g.rules rule)) (taken g.rules rule.targets) (nat_lt (length g.rules) RULE_LIMIT) refl refl refl refl fault

  added_by : (new : RuleGraph) (id : ℕ) (own : Option NodeId) (equal : Option ℕ) (free : Option NodeId) (room : Bool) → own_source rule ≡ own
      → equal_rule g.rules rule ≡ equal → taken g.rules rule.targets ≡ free → nat_lt (length g.rules) RULE_LIMIT ≡ room
      → AddsRule g rule id new → rule_fault g rule ≡ None
      → with_rule (map (by_paths g.nodes) g.rules) (by_paths g.nodes rule) ≡ Ok (map (by_paths new.nodes) new.rules)
  unfolding with_rule
  added_by new id (Some t) equal free room a b c d adds none =
      let told : Some (SelfSource (path_of g.nodes t)) ≡ None = rw a at none in
      absurd (cc)
  added_by new id None (Some i) (Some t) room a b c d adds none =
      let same : (id ≡ i) × (new ≡ g) = rw b at adds in
      rw (own_is None a, taken_is (Some t) c, equal_is true (ap is_some b), same.1) refl
  added_by new id None (Some i) None room a b c d adds none =
      let same : (id ≡ i) × (new ≡ g) = rw b at adds in
      rw (own_is None a, taken_is None c, equal_is true (ap is_some b), same.1) refl
  added_by new id None None (Some t) room a b c d adds none =
      let told : Some (TwoRules (path_of g.nodes t)) ≡ None = rw (a, b, c) at none in
      absurd (cc)
  added_by new id None None None false a b c d adds none =
      let told : Some (Full (RULE_LIMIT + 1)) ≡ None = rw (a, b, c, d) at none in
      absurd (cc)
  added_by new id None None None true a b c d adds none =
      let more : (id ≡ length g.rules) × (new ≡ record g { rules = g.rules ++ rule ∷ [] }) = rw b at adds in
      rw (own_is None a, taken_is None c, equal_is false (ap is_some b), room_is true d, more.1)
      (ap Ok (sym (map-append (by_paths g.nodes) g.rules (rule ∷ []))))

  pub added : (new : RuleGraph) (id : ℕ) → AddsRule g rule id new → rule_fault g rule ≡ None
      → with_rule (map (by_paths g.nodes) g.rules) (by_paths g.nodes rule) ≡ Ok (map (by_paths new.nodes) new.rules)
  added new id adds none =
      added_by new id (own_source rule) (equal_rule g.rules rule) (taken g.rules rule.targets) (nat_lt (length g.rules) RULE_LIMIT) refl refl refl refl adds none

  pub refused_rule : (r : RuleFault) (e : RuleReadFault) → e ≡ of_rule r → (e ≢ read.Memory) → ((r ≢ kind.Memory) → rule_fault g rule ≡ Some r)
      → with_rule (map (by_paths g.nodes) g.rules) (by_paths g.nodes rule) ≡ Err e
  refused_rule (SelfSource t) e is other told = refused (SelfSource t) (told (λ h. cc)) ∙ ap Err (sym is)
  refused_rule (TwoRules t) e is other told = refused (TwoRules t) (told (λ h. cc)) ∙ ap Err (sym is)
  refused_rule (Full n) e is other told = refused (Full n) (told (λ h. cc)) ∙ ap Err (sym is)
  refused_rule kind.Memory e is other told = absurd (other is)
