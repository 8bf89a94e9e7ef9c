-- A rule that is decided behind all that it needs is listed where it should be.
use Rattle.std.proofs.Common.{◌≡◌, ◌≢◌, ◌<◌, ◌⊎◌, inl, inr, ⊎_elim, ◌∙◌, ◌++◌, ◌||◌, ℕ, true, false, Bool, List, [], ◌∷◌, All, length, Option, Some, None, refl, sym, subst, ap, arith, length-set, get_or-set_same, get_or-set_other}
use Rattle.std.specs.Prelude.{get_or, slice_set, nat_eq}
use Rattle.std.specs.List.{list_any}
use Rattle.std.proofs.lemmas.List.Elements.{All-nil, All-cons, All-append}
use Rattle.std.proofs.lemmas.List.Folds.{list_any-append}
use Rattle.std.proofs.lemmas.Option.{slice_get_within}
use Rattle.scons_base.specs.declared.ids.NodeId.{NodeId}
use Rattle.scons_base.specs.declared.ids.RuleId.{RuleId}
use Rattle.rule_graph.specs.Graphs.{RuleGraph, path_of}
use Rattle.rule_graph.specs.Rules.{rule_of}
use Rattle.world_api.specs.Around.{Around}
use Rattle.task_plan.specs.States.{state_of}
use Rattle.task_plan.specs.Orders.{is_among}
use Rattle.task_plan.specs.Plans.{Planned}
use Rattle.task_plan.specs.Rooted.{makers_in}
use Rattle.task_plan.specs.Settled.{deps_in, deps_of}
use Rattle.task_plan.specs.declared.states.RuleState.TheVariants.{Unneeded}
use Rattle.task_plan.proofs.MarkLemmas.{apart}
use Rattle.task_plan.proofs.ReachedLemmas.{first_or, none_among}
use Rattle.build_model.specs.Rules.{Path, Tree, Stamps, Rule, Records, Setting, Among, here, there}
use Rattle.build_model.specs.Contents.{in_tree, dependencies}
use Rattle.build_model.specs.Records.{record_of}
use Rattle.build_model.specs.Needs.{with_rule}
use Rattle.build_model.specs.Steps.{IsMissing}
use Rattle.build_model.proofs.Lists.{true_false, none_some, some_same, among_same}
use Rattle.build_means.specs.Grown.{Begun, begun_setting, rule_numbered}
use Rattle.build_means.specs.Rules.{paths_of}
use Rattle.build_means.proofs.Lists.{among_map, map_among}
use Rattle.plan_means.proofs.Knowing.{Knows, among_stands, in_needs}
use Rattle.build_files.specs.declared.inputs.Inputs.{Inputs}
use Rattle.scons_report.specs.Dry.{IsListed, is_due, is_fed, AreThose, none_left, takes, leaves, rules_with}
use Rattle.scons_report.specs.Overs.{needs_over, IsReadyToList, was_listed, makes_listed, is_fed_by, AreListed, Lists}
use Rattle.scons_report.specs.declared.dry.Listed.{Listed}
use Rattle.scons_report.proofs.Finished.{kn, makers_have, deps_are, needed_nodes, need_met, path_rule, IsMetNode}

-- ---- lists

module _ {IsSo : Rule → Type 0} where
  pub those_more : {rules those : List Rule} {r : Rule} → AreThose IsSo rules those → IsSo r → AreThose IsSo (rules ++ r ∷ []) (those ++ r ∷ [])
  those_more none_left so = takes so none_left
  those_more (takes s a) so = takes s (those_more a so)
  those_more (leaves n a) so = leaves n (those_more a so)

  pub those_same : {rules those : List Rule} {r : Rule} → AreThose IsSo rules those → (IsSo r → ⊥) → AreThose IsSo (rules ++ r ∷ []) those
  those_same none_left never = leaves never none_left
  those_same (takes s a) never = takes s (those_same a never)
  those_same (leaves n a) never = leaves n (those_same a never)

or_true : (a b : Bool) → (a || b) ≡ true → (a ≡ true) ⊎ (b ≡ true)
or_true true b e = inl refl
or_true false b e = inr e

or_false : (a b : Bool) → (a || b) ≡ false → (a ≡ false) × (b ≡ false)
or_false true b e = true_false e
or_false false b e = (refl, e)

-- a node of which it is so
record Has (test : NodeId → Bool) (nodes : List NodeId) : Type 0 where
  node : NodeId
  among : Among node nodes
  is : test node ≡ true

has_by : (test : NodeId → Bool) (n : NodeId) (nodes : List NodeId) (c : Bool) → test n ≡ c → (c || list_any test nodes) ≡ true →
    (list_any test nodes ≡ true → Has test nodes) → Has test (n ∷ nodes)
has_by test n nodes true e h next = record { node = n; among = here; is = e }
has_by test n nodes false e h next = let f = next h in record { node = f.node; among = there f.among; is = f.is }

has_one : (test : NodeId → Bool) (nodes : List NodeId) → list_any test nodes ≡ true → Has test nodes
has_one test [] h = true_false (sym h)
has_one test (n ∷ nodes) h = has_by test n nodes (test n) refl h (has_one test nodes)

any_here : (a b : Bool) → a ≡ true → (a || b) ≡ true
any_here true b e = refl
any_here false b e = true_false (sym e)

any_later : (a b : Bool) → b ≡ true → (a || b) ≡ true
any_later true b e = refl
any_later false b e = e

any_one : (test : NodeId → Bool) (nodes : List NodeId) (n : NodeId) → Among n nodes → test n ≡ true → list_any test nodes ≡ true
any_one test [] n k e = elim k [ ]
any_one test (x ∷ nodes) _ here e = any_here (test x) (list_any test nodes) e
any_one test (x ∷ nodes) n (there m) e = any_later (test x) (list_any test nodes) (any_one test nodes n m e)

-- ---- numbers in front of a rule

front_or : (number : ℕ) (front : List RuleId) (rule : RuleId) → is_among number (front ++ rule ∷ []) ≡ true →
    (is_among number front ≡ true) ⊎ (rule.0 ≡ number)
front_or number front rule h =
    ⊎_elim (λ m. inl m) (λ m. ⊎_elim (λ e. inr e) (λ n. none_among number n) (first_or number rule [] m))
    (or_true (is_among number front) (is_among number (rule ∷ [])) (sym (list_any-append (λ r. nat_eq r.0 number) front (rule ∷ [])) ∙ h))

module _ (b : Begun) (g : RuleGraph) where
  with_append : (o : Option Rule) (xs ys : List Rule) → with_rule o (xs ++ ys) ≡ with_rule o xs ++ ys
  with_append None xs ys = refl
  with_append (Some x) xs ys = refl

  rules_append : (xs ys : List RuleId) → rules_with b g (xs ++ ys) ≡ rules_with b g xs ++ rules_with b g ys
  rules_append [] ys = refl
  rules_append (x ∷ xs) ys = ap (with_rule (rule_numbered b g x.0)) (rules_append xs ys) ∙ with_append (rule_numbered b g x.0) (rules_with b g xs) (rules_with b g ys)

  pub rules_more : (xs : List RuleId) (rule : RuleId) (r : Rule) → rule_numbered b g rule.0 ≡ Some r →
      rules_with b g (xs ++ rule ∷ []) ≡ rules_with b g xs ++ r ∷ []
  rules_more xs rule r e = rules_append xs (rule ∷ []) ∙ ap (λ o. rules_with b g xs ++ with_rule o []) e

-- ---- a rule is decided

module _ (b : Begun) (requested : List NodeId) (t : Tree) (stamps : Stamps) (m : Records) (g : RuleGraph) (inputs : Inputs) (plan : Planned) (around : Around)
    (ready : IsReadyToList b requested t stamps g inputs plan around) (rule : RuleId) (needed : state_of plan.states rule.0 ≢ Unneeded)
    (front : List RuleId) (behind : (other : ℕ) → is_among other (needs_over g plan rule.0) ≡ true → is_among other front ≡ true)
    (listed : Listed) (is : AreListed b t stamps m g front listed) where
  abbrev s : Setting
  s = begun_setting b

  abbrev k : Knows b g plan rule.0
  k = kn b requested t g inputs plan around ready.over ready.finished rule.0 needed

  abbrev deps : List NodeId
  deps = deps_of plan.rules rule.0

  abbrev IsSo : Rule → Type 0
  IsSo r = IsListed s t stamps m r

  -- a dependency of the rule by path
  abbrev IsMet : NodeId → Type 0
  IsMet n = IsMetNode b requested t g inputs plan around ready.over ready.finished n

  dep_met : (n : NodeId) → Among n deps → IsMet n
  dep_met n h =
      need_met b requested t g inputs plan around ready.over ready.finished rule.0 needed n
      (in_needs k.kept.required k.kept.deps n (among_stands k.kept.deps n (among_same (ap deps_in k.at) h)))

  deps_here : paths_of g deps ≡ dependencies s (in_tree t) k.rule
  deps_here = deps_are b requested t g inputs plan around ready.over ready.finished rule.0 needed

  -- where a listed rule makes one of them, the rule is fed
  fed_by : (n : NodeId) → Among n deps → (o : Option ℕ) → rule_of g.rules n.0 ≡ o → makes_listed listed o ≡ true → IsSo k.rule
  fed_by n h None e l = true_false (sym l)
  fed_by n h (Some maker) e l =
      let met = dep_met n h in
      let q = kn b requested t g inputs plan around ready.over ready.finished maker (met.needed maker e) in
      is_fed (path_of g.nodes n) q.rule (among_same deps_here (map_among (path_of g.nodes) h))
      (path_rule b requested t g inputs plan around ready.over ready.finished n maker met.below e ∙ q.numbered)
      (is.each maker q.rule q.numbered l)

  is_fed_so : is_fed_by g listed deps ≡ true → IsSo k.rule
  is_fed_so h = let f = has_one (λ n. makes_listed listed (rule_of g.rules n.0)) deps h in fed_by f.node f.among (rule_of g.rules f.node.0) refl f.is

  -- a dependency that a listed rule makes is made by one that was listed
  marked_by : (n : NodeId) (q : Rule) → Among n deps → (o : Option ℕ) → rule_of g.rules n.0 ≡ o → s.rule_of (path_of g.nodes n) ≡ Some q → IsSo q →
      makes_listed listed o ≡ true
  marked_by n q h None e f l = none_some (sym ((dep_met n h).looked e) ∙ f)
  marked_by n q h (Some maker) e f l =
      let met = dep_met n h in
      let q_is = sym (path_rule b requested t g inputs plan around ready.over ready.finished n maker met.below e) ∙ f in
      let among = makers_have g (k.kept.required ++ k.kept.deps) n maker (in_these n h) e in
      is.all maker q
      (behind maker (ap (λ ns. is_among maker (makers_in g ns)) (needed_nodes b requested t g inputs plan around ready.over ready.finished rule.0 needed) ∙ among))
      q_is l
    where
      append_right : (xs : List NodeId) {ys : List NodeId} {x : NodeId} → Among x ys → Among x (xs ++ ys)
      append_right [] y = y
      append_right (z ∷ xs) y = there (append_right xs y)

      in_these : (n : NodeId) → Among n deps → Among n (k.kept.required ++ k.kept.deps)
      in_these n h = append_right k.kept.required (among_same (ap deps_in k.at) h)

  not_fed : is_fed_by g listed deps ≡ false → (p : Path) (q : Rule) → Among p (dependencies s (in_tree t) k.rule) → s.rule_of p ≡ Some q → IsSo q → ⊥
  not_fed none p q h e l =
      let n = among_map (path_of g.nodes) deps (among_same (sym deps_here) h) in
      true_false (sym (any_one (λ x. makes_listed listed (rule_of g.rules x.0)) deps n.0 n.1
      (marked_by n.0 q n.1 (rule_of g.rules n.0.0) refl (ap s.rule_of (sym n.2) ∙ e) l)) ∙ none)

  -- the record of now is the one over the files
  module _ (stale : Bool) (stale_is : stale ≡ s.is_due k.rule t stamps m (record_of s k.rule (in_tree t) stamps))
      (lacks : (p : Path) → Among p (dependencies s (in_tree t) k.rule) → IsMissing s t p → ⊥) where
    so : (is_fed_by g listed deps || stale) ≡ true → IsSo k.rule
    so e = ⊎_elim is_fed_so (λ d. is_due (sym stale_is ∙ d)) (or_true (is_fed_by g listed deps) stale e)

    not_so : (is_fed_by g listed deps || stale) ≡ false → IsSo k.rule → ⊥
    not_so e (is_due d) = true_false (sym d ∙ sym stale_is ∙ (or_false (is_fed_by g listed deps) stale e).1)
    not_so e (is_fed p q h f l) = not_fed (or_false (is_fed_by g listed deps) stale e).0 p q h f l

    this_rule : (number : ℕ) (r : Rule) → rule.0 ≡ number → rule_numbered b g number ≡ Some r → r ≡ k.rule
    this_rule number r same e = some_same (sym e ∙ ap (rule_numbered b g) (sym same) ∙ k.numbered)

    no_lack_more : (number : ℕ) (r : Rule) (path : Path) → (is_among number front ≡ true) ⊎ (rule.0 ≡ number) → rule_numbered b g number ≡ Some r →
        Among path (dependencies s (in_tree t) r) → IsMissing s t path → ⊥
    no_lack_more number r path (inl h) e among missing = is.no_lack number r path h e among missing
    no_lack_more number r path (inr same) e among missing =
        lacks path (subst (λ (x : Rule). Among path (dependencies s (in_tree t) x)) (this_rule number r same e) among) missing

    under : rule.0 < length g.rules
    under = slice_get_within g.rules rule.0 k.of k.stands

    -- the rule is listed
    module _ (after : Listed) (marks : after.is_listed.items ≡ slice_set listed.is_listed.items rule.0 true)
        (rules : after.rules.items ≡ listed.rules.items ++ rule ∷ []) (yes : (is_fed_by g listed deps || stale) ≡ true) where
      here_marked : was_listed after rule.0 ≡ true
      here_marked =
          ap (λ (l : List Bool). get_or l rule.0 false) marks
          ∙ get_or-set_same listed.is_listed.items rule.0 true false (let size = is.size in let lt = under in omega (arith, size, lt))

      other_marked : (number : ℕ) → number ≢ rule.0 → was_listed after number ≡ was_listed listed number
      other_marked number ne =
          ap (λ (l : List Bool). get_or l number false) marks ∙ get_or-set_other listed.is_listed.items rule.0 number true false ne

      each_by : (number : ℕ) (r : Rule) → (number ≡ rule.0) ⊎ (number ≢ rule.0) → rule_numbered b g number ≡ Some r → was_listed after number ≡ true → IsSo r
      each_by number r (inl same) e w = subst IsSo (sym (this_rule number r (sym same) e)) (so yes)
      each_by number r (inr ne) e w = is.each number r e (sym (other_marked number ne) ∙ w)

      all_by : (number : ℕ) (r : Rule) → (number ≡ rule.0) ⊎ (number ≢ rule.0) → (is_among number front ≡ true) ⊎ (rule.0 ≡ number) →
          rule_numbered b g number ≡ Some r → IsSo r → was_listed after number ≡ true
      all_by number r (inl same) c e l = ap (was_listed after) same ∙ here_marked
      all_by number r (inr ne) (inl h) e l = other_marked number ne ∙ is.all number r h e l
      all_by number r (inr ne) (inr same) e l = absurd (ne (sym same))

      pub listed_more : AreListed b t stamps m g (front ++ rule ∷ []) after
      listed_more = record {
        those =
            subst (λ l. AreThose IsSo l (rules_with b g after.rules.items)) (sym (rules_more b g front rule k.rule k.numbered))
            (subst (λ l. AreThose IsSo (rules_with b g front ++ k.rule ∷ []) l) (sym (ap (rules_with b g) rules ∙ rules_more b g listed.rules.items rule k.rule k.numbered))
            (those_more is.those (so yes)));
        each = λ number r e w. each_by number r (apart number rule.0) e w;
        all = λ number r h e l. all_by number r (apart number rule.0) (front_or number front rule h) e l;
        size = ap length marks ∙ length-set listed.is_listed.items rule.0 true ∙ is.size;
        known =
            subst (λ l. All (λ (id : RuleId). id.0 < length g.rules) l) (sym rules)
            (All-append (λ (id : RuleId). id.0 < length g.rules) listed.rules.items (rule ∷ []) is.known
            (All-cons (λ (id : RuleId). id.0 < length g.rules) rule [] under (All-nil (λ (id : RuleId). id.0 < length g.rules))));
        no_lack = λ number r path h e among missing. no_lack_more number r path (front_or number front rule h) e among missing;
      }

    -- or it isn't
    module _ (no : (is_fed_by g listed deps || stale) ≡ false) where
      all_same : (number : ℕ) (r : Rule) → (is_among number front ≡ true) ⊎ (rule.0 ≡ number) → rule_numbered b g number ≡ Some r → IsSo r →
          was_listed listed number ≡ true
      all_same number r (inl h) e l = is.all number r h e l
      all_same number r (inr same) e l = absurd (not_so no (subst IsSo (this_rule number r same e) l))

      pub listed_same : AreListed b t stamps m g (front ++ rule ∷ []) listed
      listed_same = record {
        those =
            subst (λ l. AreThose IsSo l (rules_with b g listed.rules.items)) (sym (rules_more b g front rule k.rule k.numbered))
            (those_same is.those (not_so no));
        each = is.each;
        all = λ number r h e l. all_same number r (front_or number front rule h) e l;
        size = is.size;
        known = is.known;
        no_lack = λ number r path h e among missing. no_lack_more number r path (front_or number front rule h) e among missing;
      }

    -- whichever it is
    pub lists_next : (after : Listed) (c : Bool) → (is_fed_by g listed deps || stale) ≡ c → Lists listed rule after c → AreListed b t stamps m g (front ++ rule ∷ []) after
    lists_next after true e l = listed_more after l.0 l.1 e
    lists_next after false e l = subst (λ (x : Listed). AreListed b t stamps m g (front ++ rule ∷ []) x) (sym l) (listed_same e)
