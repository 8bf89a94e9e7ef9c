-- Which rules are marked and which files are sought, call by call.
use Rattle.std.proofs.Common.{◌≡◌, ◌≢◌, ◌<◌, ◌≤◌, ◌+◌, ◌⊎◌, inl, inr, ◌∙◌, ap, sym, subst, refl, ℕ, zero, suc, Bool, true, false, not, cond, ◌||◌, List, [], ◌∷◌, ◌++◌, append_assoc, length, length-append, drop, take, Option, Some, None, arith, ltb-true, Bor}
use Rattle.std.specs.Prelude.{nat_eq, nat_lt, filter, get_or, slice_get, is_some, IfSome, Result, Ok, Err, OnOk}
use Rattle.std.specs.Option.{option_copied}
use Rattle.std.specs.Global.{Vec}
use Rattle.std.proofs.lemmas.Bool.Decides.{Decides-eqb}
use Rattle.std.proofs.lemmas.List.{append-nil, drop-append-le, drop_more, take_more}
use Rattle.std.proofs.lemmas.Option.{slice_get-get_or}
use Rattle.std.proofs.lemmas.List.Folds.{list_any-append}
use Rattle.scons_base.specs.declared.ids.NodeId.{NodeId}
use Rattle.scons_base.specs.declared.ids.RuleId.{RuleId}
use Rattle.rule_graph.specs.declared.rule.Rule.{Rule}
use Rattle.rule_graph.specs.Graphs.{RuleGraph}
use Rattle.rule_graph.specs.Rules.{rule_of}
use Rattle.build_means.proofs.Lists.{none_some, some_same, true_false, or_either, or_first, or_second, or_neither}
use Rattle.build_means.specs.Rules.{keeps_sources}
use Rattle.world_api.specs.declared.job.Work.TheVariants.{Shell}
use Rattle.build_files.proofs.Copying.{grew_same}
use Rattle.build_files.specs.Kept.{LooksAt}
use Rattle.build_files.specs.Marked.{is_among, is_listed, is_marked, was_settled, copies_somewhere, AreAllSought, AreGoneOver, AreGoneOverBut, AreGoneOverWith, AreNamedSought, IsNamedBy, is_required, is_source, is_needed, is_library, IsRuleMarked, IsSought, KeepsMarks, KeepsSought, Marks, PutsBehind}
use Rattle.build_files.specs.Searched.{GrowsTo}
use Rattle.build_files.specs.declared.end.ListEnd.{ListEnd}
use Rattle.build_files.specs.declared.inputs.Inputs.{Inputs}

-- nodes of one number are one
eq_node : (a b : NodeId) → nat_eq a.0 b.0 ≡ true → a ≡ b
eq_node a b e = let node : ℕ → NodeId = λ k. record { 0 = k } in ap node ((Decides-eqb a.0 b.0).0 e)

-- what stands among two lists
pub among_left : (xs ys : List NodeId) (n : NodeId) → is_among xs n ≡ true → is_among (xs ++ ys) n ≡ true
among_left xs ys n e = list_any-append (λ m. nat_eq n.0 m.0) xs ys ∙ or_first (is_among xs n) (is_among ys n) e

pub among_right : (xs ys : List NodeId) (n : NodeId) → is_among ys n ≡ true → is_among (xs ++ ys) n ≡ true
among_right xs ys n e = list_any-append (λ m. nat_eq n.0 m.0) xs ys ∙ or_second (is_among xs n) (is_among ys n) e

filter_step : (keep : NodeId → Bool) (m n : NodeId) (ms : List NodeId) (c : Bool) → keep m ≡ c → keep n ≡ true → (nat_eq n.0 m.0 ≡ true) ⊎ (is_among (filter keep ms) n ≡ true)
    → is_among (cond c (m ∷ filter keep ms) (filter keep ms)) n ≡ true
filter_step keep m n ms true same kept (inl e) = or_first (nat_eq n.0 m.0) (is_among (filter keep ms) n) e
filter_step keep m n ms true same kept (inr e) = or_second (nat_eq n.0 m.0) (is_among (filter keep ms) n) e
filter_step keep m n ms false same kept (inl e) = true_false (sym kept ∙ ap keep (eq_node n m e) ∙ same)
filter_step keep m n ms false same kept (inr e) = e

either_on : {A B C : Type 0} → A ⊎ B → (B → C) → A ⊎ C
either_on (inl a) f = inl a
either_on (inr b) f = inr (f b)

-- and among those that pass a test
pub among_filter : (keep : NodeId → Bool) (nodes : List NodeId) (n : NodeId) → is_among nodes n ≡ true → keep n ≡ true → is_among (filter keep nodes) n ≡ true
among_filter keep [] n e kept = true_false (sym e)
among_filter keep (m ∷ ms) n e kept =
    filter_step keep m n ms (keep m) refl kept (either_on (or_either (nat_eq n.0 m.0) (is_among ms n) e) (λ rest. among_filter keep ms n rest kept))

-- those that aren't left out were put behind others
pub kept_among : (out before nodes kept : List NodeId) (n : NodeId) → kept ≡ before ++ filter (λ m. not (is_among out m)) nodes → is_among nodes n ≡ true → is_among out n ≡ false
    → is_among kept n ≡ true
kept_among out before nodes kept n is e none =
    ap (λ ns. is_among ns n) is
    ∙ among_right before (filter (λ m. not (is_among out m)) nodes) n (among_filter (λ m. not (is_among out m)) nodes n e (ap not none))

-- what stands neither among some nor among others, once those were inserted
pub neither_among : (first second third : List NodeId) (n : NodeId) → is_among third n ≡ (is_among first n || is_among second n) → is_among first n ≡ false
    → is_among second n ≡ false → is_among third n ≡ false
neither_among first second third n is one two = is ∙ ap (λ b. b || is_among second n) one ∙ two

-- nothing changed
pub marks_none : (g : RuleGraph) (inputs : Inputs) → KeepsMarks g inputs g inputs
marks_none g inputs = record { marked = refl; settled = λ node e. e; ruled = λ node number e. e; unruled = λ node e none. none }

pub marks_joined : (g : RuleGraph) (a : Inputs) (h : RuleGraph) (b : Inputs) (i : RuleGraph) (c : Inputs) → KeepsMarks g a h b → KeepsMarks h b i c → KeepsMarks g a i c
marks_joined g a h b i c p q = record {
  marked = q.marked ∙ p.marked;
  settled = λ node e. q.settled node (p.settled node e);
  ruled = λ node number e. q.ruled node number (p.ruled node number e);
  unruled = λ node e none. q.unruled node (p.settled node e) (p.unruled node e none);
}

-- numbers that a test tells apart
apart : (n m : ℕ) → nat_eq n m ≡ false → n ≢ m
apart n m e = λ same. true_false (sym ((Decides-eqb n m).1 same) ∙ e)

-- what was looked for still is
pub kept_sought : (g : RuleGraph) (a : Inputs) (h : RuleGraph) (b : Inputs) → KeepsMarks g a h b → KeepsSought g a h b
kept_sought g a h b keeps n sought = by (rule_of g.rules n.0) refl
  where
    by : (o : Option ℕ) → rule_of g.rules n.0 ≡ o → IsSought h b n
    by None e =
        let none = keeps.unruled n.0 (sought.settled e) e in
        record { marked = λ number at. none_some (sym none ∙ at); settled = λ _. keeps.settled n.0 (sought.settled e) }
    by (Some k) e =
        let some = keeps.ruled n.0 k e in
        record {
          marked = λ number at. ap (λ (l : Vec Bool). get_or l.items number false) keeps.marked ∙ ap (is_marked a) (some_same (sym at ∙ some)) ∙ sought.marked k e;
          settled = λ none. none_some (sym none ∙ some);
        }

-- of one mark more
marked_on : (old new : Inputs) (number : ℕ) (is_new : Bool) → Marks old new number is_new → (other : ℕ) → is_marked old other ≡ true → is_marked new other ≡ true
marked_on old new number is_new marks other e = by (nat_eq other number) refl
  where
    by : (c : Bool) → nat_eq other number ≡ c → is_marked new other ≡ true
    by true same = ap (is_marked new) ((Decides-eqb other number).0 same) ∙ marks.this
    by false away = marks.others other (apart other number away) ∙ e

looked_sought : (g : RuleGraph) (old new : Inputs) (number : ℕ) (is_new : Bool) → LooksAt old new → Marks old new number is_new → KeepsSought g old g new
looked_sought g old new number is_new looks marks n sought = record {
  marked = λ k e. marked_on old new number is_new marks k (sought.marked k e);
  settled = λ none. ap (λ (i : Inputs). was_settled i n.0) looks ∙ sought.settled none;
}

-- the rule was marked already
pub looked_again : (g : RuleGraph) (old new : Inputs) (number : ℕ) (is_new : Bool) (rules : List RuleId) → LooksAt old new → Marks old new number is_new → is_new ≡ false
    → PutsBehind g old g new rules rules
looked_again g old new number is_new rules looks marks again = record {
  more = [];
  is = sym (append-nil rules);
  sought = looked_sought g old new number is_new looks marks;
  marked = λ k e. inl (by k e (nat_eq k number) refl);
  known = λ k e. true_false (sym e);
}
  where
    was : (b : Bool) → false ≡ not b → b ≡ true
    was true e = refl
    was false e = true_false (sym e)

    by : (k : ℕ) → is_marked new k ≡ true → (c : Bool) → nat_eq k number ≡ c → is_marked old k ≡ true
    by k e true same = ap (is_marked old) ((Decides-eqb k number).0 same) ∙ was (is_marked old number) (sym again ∙ marks.was)
    by k e false away = sym (marks.others k (apart k number away)) ∙ e

-- The sources of a rule were put behind others: all but the ignored ones, or all where the rule keeps them.
pub record TakesSources (of : Rule) (before after : List NodeId) : Type 0 where
  pub there : (n : NodeId) → is_among before n ≡ true → is_among after n ≡ true
  pub sources : (n : NodeId) → is_among of.sources n ≡ true → (keeps_sources of.work ≡ true) ⊎ (is_among of.ignored n ≡ false) → is_among after n ≡ true

pub takes_all : (of : Rule) (before sources after : List NodeId) → sources ≡ of.sources → after ≡ before ++ sources → TakesSources of before after
takes_all of before sources after same is = record {
  there = λ n e. ap (λ (ns : List NodeId). is_among ns n) is ∙ among_left before sources n e;
  sources = λ n e keeps. ap (λ (ns : List NodeId). is_among ns n) is ∙ among_right before sources n (ap (λ (ns : List NodeId). is_among ns n) same ∙ e);
}

pub takes_kept : (of : Rule) (out before after : List NodeId) → of.work ≡ Shell → ((n : NodeId) → is_among out n ≡ is_among of.ignored n)
    → after ≡ before ++ filter (λ m. not (is_among out m)) of.sources → TakesSources of before after
takes_kept of out before after work same is = record {
  there = λ n e. ap (λ (ns : List NodeId). is_among ns n) is ∙ among_left before (filter (λ m. not (is_among out m)) of.sources) n e;
  sources = λ n e keeps. elim keeps [
    | inl k ↦ true_false (sym k ∙ ap keeps_sources work)
    | inr none ↦ kept_among out before of.sources after n is e (same n ∙ none)
  ];
}

-- so all that a rule names stands there
pub named_among : (of : Rule) (out required first second third : List NodeId) → ((n : NodeId) → is_among out n ≡ is_among of.ignored n) → required ≡ of.required
    → TakesSources of required first → second ≡ first ++ filter (λ m. not (is_among out m)) of.depends → third ≡ second ++ filter (λ m. not (is_among out m)) of.libs
    → (n : NodeId) → IsNamedBy of n → is_among third n ≡ true
named_among of out required first second third same are takes depends libs n named = by named
  where
    later : is_among second n ≡ true → is_among third n ≡ true
    later e = ap (λ (ns : List NodeId). is_among ns n) libs ∙ among_left second (filter (λ m. not (is_among out m)) of.libs) n e

    on : is_among first n ≡ true → is_among third n ≡ true
    on e = later (ap (λ (ns : List NodeId). is_among ns n) depends ∙ among_left first (filter (λ m. not (is_among out m)) of.depends) n e)

    by : IsNamedBy of n → is_among third n ≡ true
    by (is_required e) = on (takes.there n (ap (λ (ns : List NodeId). is_among ns n) are ∙ e))
    by (is_source e keeps) = on (takes.sources n e keeps)
    by (is_needed e none) = later (kept_among out first of.depends second n depends e (same n ∙ none))
    by (is_library e none) = kept_among out second of.libs third n libs e (same n ∙ none)

-- rules that stand among others
listed_left : (xs ys : List RuleId) (k : ℕ) → is_listed xs k ≡ true → is_listed (xs ++ ys) k ≡ true
listed_left xs ys k e = list_any-append (λ r. nat_eq k r.0) xs ys ∙ or_first (is_listed xs k) (is_listed ys k) e

listed_right : (xs ys : List RuleId) (k : ℕ) → is_listed ys k ≡ true → is_listed (xs ++ ys) k ≡ true
listed_right xs ys k e = list_any-append (λ r. nat_eq k r.0) xs ys ∙ or_second (is_listed xs k) (is_listed ys k) e

listed_either : (xs ys : List RuleId) (k : ℕ) → is_listed (xs ++ ys) k ≡ true → (is_listed xs k ≡ true) ⊎ (is_listed ys k ≡ true)
listed_either xs ys k e = or_either (is_listed xs k) (is_listed ys k) (sym (list_any-append (λ r. nat_eq k r.0) xs ys) ∙ e)

listed_neither : (xs ys : List RuleId) (k : ℕ) → is_listed (xs ++ ys) k ≡ false → (is_listed xs k ≡ false) × (is_listed ys k ≡ false)
listed_neither xs ys k e = or_neither (is_listed xs k) (is_listed ys k) (sym (list_any-append (λ r. nat_eq k r.0) xs ys) ∙ e)

pub rules_grown : (g h : RuleGraph) → GrowsTo g h → length g.rules ≤ length h.rules
rules_grown g h grew = let e = ap (λ (rules : List Rule). length rules) grew.rules in omega (arith, e, length-append g.rules grew.added)

-- no rule was put behind
pub puts_none : (g : RuleGraph) (a : Inputs) (h : RuleGraph) (b : Inputs) (rules : List RuleId) → KeepsMarks g a h b → PutsBehind g a h b rules rules
puts_none g a h b rules keeps = record {
  more = [];
  is = sym (append-nil rules);
  sought = kept_sought g a h b keeps;
  marked = λ k e. inl (sym (ap (λ (l : Vec Bool). get_or l.items k false) keeps.marked) ∙ e);
  known = λ k e. true_false (sym e);
}

pub puts_joined : (g : RuleGraph) (a : Inputs) (h : RuleGraph) (b : Inputs) (i : RuleGraph) (c : Inputs) (x y z : List RuleId) → length h.rules ≤ length i.rules
    → PutsBehind g a h b x y → PutsBehind h b i c y z → PutsBehind g a i c x z
puts_joined g a h b i c x y z le p q = record {
  more = p.more ++ q.more;
  is = q.is ∙ ap (λ (rs : List RuleId). rs ++ q.more) p.is ∙ append_assoc x p.more q.more;
  sought = λ n e. q.sought n (p.sought n e);
  marked = λ k e. elim (q.marked k e) [
    | inl was ↦ elim (p.marked k was) [
      | inl old ↦ inl old
      | inr there ↦ inr (listed_left p.more q.more k there)
    ]
    | inr new ↦ inr (listed_right p.more q.more k new)
  ];
  known = λ k e. elim (listed_either p.more q.more k e) [
    | inl there ↦ let below = p.known k there in omega (arith, below, le)
    | inr new ↦ q.known k new
  ];
}

-- a file was looked for, and its rule looked at
pub sought_now : (h : RuleGraph) (b c : Inputs) (n : NodeId) → LooksAt b c → (rule_of h.rules n.0 ≡ None → was_settled b n.0 ≡ true) → IsRuleMarked h c n.0 → IsSought h c n
sought_now h b c n looks settled marked = record {
  marked = marked;
  settled = λ none. ap (λ (i : Inputs). was_settled i n.0) looks ∙ settled none;
}

-- so it is of one file more
pub all_more : (h : RuleGraph) (c : Inputs) (nodes : List NodeId) (node : NodeId) → AreAllSought h c nodes → IsSought h c node → AreAllSought h c (nodes ++ node ∷ [])
all_more h c nodes node all sought n e =
    elim (or_either (is_among nodes n) (is_among (node ∷ []) n) (sym (list_any-append (λ m. nat_eq n.0 m.0) nodes (node ∷ [])) ∙ e)) [
      | inl there ↦ all n there
      | inr one ↦ subst (λ m. IsSought h c m) (sym (eq_node n node (only one))) sought
    ]
  where
    only : (nat_eq n.0 node.0 || false) ≡ true → nat_eq n.0 node.0 ≡ true
    only e = elim (or_either (nat_eq n.0 node.0) false e) [ inl f ↦ f | inr f ↦ true_false (sym f) ]

-- a rule within a graph is the one that was there before it grew
rule_before : (rules added : List Rule) (k : ℕ) (of : Rule) → k < length rules → slice_get (rules ++ added) k ≡ Some of → slice_get rules k ≡ Some of
rule_before [] added k of below at = absurd (omega (arith, below))
rule_before (r ∷ rules) added zero of below at = at
rule_before (r ∷ rules) added (suc k) of below at = rule_before rules added k of (omega (arith, below)) at

pub rule_was : (g h : RuleGraph) (k : ℕ) (of : Rule) → GrowsTo g h → k < length g.rules → slice_get h.rules k ≡ Some of → slice_get g.rules k ≡ Some of
rule_was g h k of grew below at = rule_before g.rules grew.added k of below (sym (ap (λ (rules : List Rule). slice_get rules k) grew.rules) ∙ at)

-- rules that are put behind are still to do
pub over_put : (g : RuleGraph) (a : Inputs) (h : RuleGraph) (b : Inputs) (todo more : List RuleId) → GrowsTo g h → KeepsSought g a h b
    → ((k : ℕ) → is_marked b k ≡ true → (is_marked a k ≡ true) ⊎ (is_listed more k ≡ true)) → ((k : ℕ) → is_listed more k ≡ true → k < length h.rules)
    → AreGoneOverBut g a todo → AreGoneOverBut h b (todo ++ more)
over_put g a h b todo more grew sought marked known over = record {
  known = λ k e. elim (marked k e) [
    | inl old ↦ let below = over.known k old in omega (arith, below, rules_grown g h grew)
    | inr new ↦ known k new
  ];
  named = λ k of e none at n named. by k of none at n named (marked k e);
}
  where
    by : (k : ℕ) (of : Rule) → is_listed (todo ++ more) k ≡ false → slice_get h.rules k ≡ Some of → (n : NodeId) → IsNamedBy of n → (is_marked a k ≡ true) ⊎ (is_listed more k ≡ true)
        → IsSought h b n
    by k of none at n named (inl old) =
        sought n (over.named k of old (listed_neither todo more k none).0 (rule_was g h k of grew (over.known k old) at) n named)
    by k of none at n named (inr new) = true_false (sym new ∙ (listed_neither todo more k none).1)

-- where no rule was looked at all is gone over as before
pub over_kept : (g : RuleGraph) (a : Inputs) (h : RuleGraph) (b : Inputs) → GrowsTo g h → KeepsMarks g a h b → AreGoneOver g a → AreGoneOver h b
over_kept g a h b grew keeps over some =
    let was = over (sym (ap copies_somewhere grew.rest) ∙ some) in
    over_put g a h b [] [] grew (kept_sought g a h b keeps) (λ k e. inl (sym (ap (λ (l : Vec Bool). get_or l.items k false) keeps.marked) ∙ e)) (λ k e. true_false (sym e)) was

-- the step of a loop over files
pub each_puts : (g : RuleGraph) (a : Inputs) (h : RuleGraph) (b : Inputs) (i : RuleGraph) (c d : Inputs) (before mid after : List RuleId) → GrowsTo h i
    → PutsBehind g a h b before mid → KeepsMarks h b i c → PutsBehind i c i d mid after → PutsBehind g a i d before after
each_puts g a h b i c d before mid after grew p keeps q =
    puts_joined g a i c i d before mid after (omega arith) (puts_joined g a h b i c before mid mid (rules_grown h i grew) p (puts_none h b i c mid keeps)) q

pub each_sought : (h : RuleGraph) (b : Inputs) (i : RuleGraph) (c d : Inputs) (mid after : List RuleId) (nodes : List NodeId) (k : ℕ) (node : NodeId) → k < length nodes → node ≡ get_or nodes k node
    → AreAllSought h b (take k nodes) → KeepsMarks h b i c → PutsBehind i c i d mid after → LooksAt c d → (rule_of i.rules node.0 ≡ None → was_settled c node.0 ≡ true) → IsRuleMarked i d node.0
    → AreAllSought i d (take (k + 1) nodes)
each_sought h b i c d mid after nodes k node below is all keeps puts looks settled marked =
    subst (AreAllSought i d) (sym (take_more nodes k node below ∙ ap (λ m. take k nodes ++ m ∷ []) (sym is)))
    (all_more i d (take k nodes) node (λ n e. puts.sought n (kept_sought h b i c keeps n (all n e))) (sought_now i c d node looks settled marked))

-- what was looked for in a call is in the next, and what was put behind is still to do
pub over_puts : (g : RuleGraph) (a : Inputs) (h : RuleGraph) (b : Inputs) (before after : List RuleId) → GrowsTo g h → PutsBehind g a h b before after → AreGoneOverBut g a before
    → AreGoneOverBut h b after
over_puts g a h b before after grew puts over =
    subst (AreGoneOverBut h b) (sym puts.is) (over_put g a h b before puts.more grew puts.sought puts.marked puts.known over)

-- what stands at a place, and behind it
place_within : (rules : List RuleId) (place : ℕ) (rule : RuleId) → slice_get rules place ≡ Some rule → place < length rules
place_within [] place rule at = none_some at
place_within (r ∷ rules) zero rule at = omega arith
place_within (r ∷ rules) (suc place) rule at = let below = place_within rules place rule at in omega (arith, below)

drop_at_place : (rules : List RuleId) (place : ℕ) (rule : RuleId) → slice_get rules place ≡ Some rule → drop place rules ≡ rule ∷ drop (place + 1) rules
drop_at_place rules place rule at =
    let within = place_within rules place rule at in
    drop_more rules place rule within ∙ ap (λ (x : RuleId). x ∷ drop (place + 1) rules) (some_same (sym (slice_get-get_or rules place rule within) ∙ at))

-- so it is over one graph
pub over_same : (g : RuleGraph) (a b : Inputs) → KeepsMarks g a g b → AreGoneOver g a → AreGoneOver g b
over_same g a b keeps over = over_kept g a g b (grew_same g) keeps over

-- and where no rule was looked at yet
pub over_none : (g : RuleGraph) (inputs : Inputs) → ((number : ℕ) → is_marked inputs number ≡ false) → AreGoneOver g inputs
over_none g inputs none _ = record {
  known = λ k e. true_false (sym e ∙ none k);
  named = λ k of e _ at. true_false (sym e ∙ none k);
}

-- what was copied from a place stands there
pub copied_at : (rules : List RuleId) (place : ℕ) (r : Option (Bor RuleId)) (rule : RuleId) → option_copied r ≡ Some rule → is_some r ≡ nat_lt place (length rules)
    → IfSome r (λ x. x.now ≡ get_or rules place x.now) → slice_get rules place ≡ Some rule
copied_at rules place None rule same within at = none_some same
copied_at rules place (Some x) rule same within at =
    slice_get-get_or rules place x.now (ltb-true place (length rules) (sym within)) ∙ ap (λ (y : RuleId). Some y) (sym at) ∙ same

-- the step of a loop over rules that are still to do
pub over_next : (g : RuleGraph) (a : Inputs) (h : RuleGraph) (b : Inputs) (before after : List RuleId) (place : ℕ) (rule : RuleId) → slice_get before place ≡ Some rule → GrowsTo g h
    → PutsBehind g a h b before after → ((of : Rule) → slice_get g.rules rule.0 ≡ Some of → AreNamedSought h b of) → AreGoneOverBut g a (drop place before)
    → AreGoneOverBut h b (drop (place + 1) after)
over_next g a h b before after place rule at grew puts sought over = record {
  known = λ k e. elim (puts.marked k e) [
    | inl old ↦ let below = over.known k old in omega (arith, below, rules_grown g h grew)
    | inr new ↦ puts.known k new
  ];
  named = λ k of e none here n named.
      let apart = listed_neither rest puts.more k (sym (ap (λ (rs : List RuleId). is_listed rs k) tail) ∙ none) in
      by k of apart.0 apart.1 here n named (puts.marked k e);
}
  where
    rest : List RuleId
    rest = drop (place + 1) before

    front : drop place before ≡ rule ∷ drop (place + 1) before
    front = drop_at_place before place rule at

    tail : drop (place + 1) after ≡ drop (place + 1) before ++ puts.more
    tail = ap (drop (place + 1)) puts.is ∙ drop-append-le (place + 1) before puts.more (let within = place_within before place rule at in omega (arith, within))

    old_one : (k : ℕ) (of : Rule) → is_listed (drop (place + 1) before) k ≡ false → is_marked a k ≡ true → slice_get g.rules k ≡ Some of → (n : NodeId) → IsNamedBy of n
        → (c : Bool) → nat_eq k rule.0 ≡ c → IsSought h b n
    old_one k of none old was n named true same = sought of (sym (ap (slice_get g.rules) ((Decides-eqb k rule.0).0 same)) ∙ was) n named
    old_one k of none old was n named false away =
        puts.sought n (over.named k of old (ap (λ (rs : List RuleId). is_listed rs k) front ∙ ap (λ c. c || is_listed (drop (place + 1) before) k) away ∙ none) was n named)

    by : (k : ℕ) (of : Rule) → is_listed (drop (place + 1) before) k ≡ false → is_listed puts.more k ≡ false → slice_get h.rules k ≡ Some of → (n : NodeId) → IsNamedBy of n
        → (is_marked a k ≡ true) ⊎ (is_listed puts.more k ≡ true) → IsSought h b n
    by k of none away here n named (inl old) = old_one k of none old (rule_was g h k of grew (over.known k old) here) n named (nat_eq k rule.0) refl
    by k of none away here n named (inr new) = true_false (sym new ∙ away)

-- after a call all is gone over, and the files that it was for were looked for
pub copies_over : {T : Type 0} (g : RuleGraph) (a : Inputs) (h : RuleGraph) (b : Inputs) (i : RuleGraph) (c : Inputs) (before rules : List RuleId) (nodes : List NodeId) (r : Result T ListEnd)
    → before ≡ [] → copies_somewhere g ≡ true → GrowsTo g h → PutsBehind g a h b before rules → AreAllSought h b nodes → (AreGoneOverBut h b rules → OnOk r (AreGoneOverBut i c []))
    → OnOk r (KeepsSought h b i c) → AreGoneOver g a → OnOk r (AreGoneOverWith i c nodes)
copies_over g a h b i c before rules nodes (Err e) none some grew puts all rest sought over = tt
copies_over g a h b i c before rules nodes (Ok x) none some grew puts all rest sought over = record {
  over = λ _. rest (over_puts g a h b before rules grew puts (subst (AreGoneOverBut g a) (sym none) (over some)));
  these = λ _ n e. sought n (all n e);
}
