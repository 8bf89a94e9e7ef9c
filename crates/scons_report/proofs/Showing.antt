-- What stands below a node by a plan that was gone over to its end is what its path is made of.
use Rattle.std.proofs.Common.{◌≡◌, ◌∙◌, ℕ, Bool, false, subst, List, [], Option, Some, None, refl, sym, ap, inl, inr}
use Rattle.std.specs.Prelude.{Result, Ok, Err, IsErrAnd}
use Rattle.scons_base.specs.declared.ids.NodeId.{NodeId}
use Rattle.rule_graph.specs.Graphs.{RuleGraph, path_of}
use Rattle.rule_graph.specs.Rules.{rule_of}
use Rattle.world_api.specs.Around.{Around}
use Rattle.task_plan.specs.Plans.{Planned}
use Rattle.task_plan.specs.Settled.{deps_in}
use Rattle.task_plan.specs.Watched.{IsFinished}
use Rattle.build_model.specs.Rules.{Path, Tree, Rule, Among}
use Rattle.build_model.proofs.Lists.{among_same}
use Rattle.build_means.specs.Grown.{Begun, begun_graph, begun_setting, IsGrown}
use Rattle.build_means.specs.Rules.{paths_of}
use Rattle.build_files.specs.declared.inputs.Inputs.{Inputs}
use Rattle.plan_means.proofs.Knowing.{among_stands, in_needs}
use Rattle.world_api.specs.declared.hash.Hash.{Hash}
use Rattle.build_model.specs.Contents.{in_tree, found_in}
use Rattle.build_model.specs.Graphs.{declared_rule, copy_of_source, copy_at, or_copy}
use Rattle.build_model.specs.Needs.{RuleOf, Needed, NeedsThrough}
use Rattle.build_means.specs.Copies.{source_for}
use Rattle.build_means.specs.Rules.{rules_in}
use Rattle.build_files.specs.Beginnings.{BeginsBehind}
use Rattle.build_files.specs.Kept.{past, AreTrue}
use Rattle.build_files.specs.Marked.{is_marked}
use Rattle.world_api.specs.Meaning.{Meaning}
use Rattle.world_api.specs.Printed.{SinkMeaning}
use Rattle.task_plan.specs.Plans.{IsIdle}
use Rattle.scons_report.specs.declared.tree_end.TreeEnd.{TreeEnd}
use Rattle.scons_report.specs.Asked.{children_asked}
use Rattle.scons_report.specs.Walks.{PrintsTree}
use Rattle.scons_report.specs.Built.{Plans, ShowsBuilds, IsBehind, made_by, made_of, IsShown, on_top, below, IsShownBy}
use Rattle.scons_report.specs.Overs.{IsOutset, IsOver}
use Rattle.scons_report.specs.Trees.{children_of, deps_at, shown_in, tree_text}
use Rattle.scons_report.proofs.Finished.{kn, s, deps_are, IsMetNode, need_met, asked_met, path_rule, no_loop}

module _ (b : Begun) (requested : List NodeId) (t : Tree) (g : RuleGraph) (inputs : Inputs) (plan : Planned) (around : Around)
    (is : IsOver b requested t g inputs plan around) (finished : IsFinished plan) where
  abbrev IsMet : NodeId → Type 0
  IsMet n = IsMetNode b requested t g inputs plan around is finished n

  -- a dependency of a needed rule is a node that the plan has met
  dep_met : (n child : NodeId) → IsMet n → (o : Option ℕ) → rule_of g.rules n.0 ≡ o → Among child (deps_at plan.rules o) → IsMet child
  dep_met n child met None e m = elim m [ ]
  dep_met n child met (Some rule) e m =
      let needed = met.needed rule e in
      let k = kn b requested t g inputs plan around is finished rule needed in
      need_met b requested t g inputs plan around is finished rule needed child
      (in_needs k.kept.required k.kept.deps child (among_stands k.kept.deps child (among_same (ap deps_in k.at) m)))

  -- so is each that is shown
  shown_met : {n : NodeId} → IsShown (children_of g plan) requested n → IsMet n
  shown_met (on_top {n = n} m) = asked_met b requested t g inputs plan around is finished n m
  shown_met (below {n = n} parent shown m) = dep_met parent n (shown_met shown) (rule_of g.rules parent.0) refl m

  shows_by : (n : NodeId) → IsMet n → (o : Option ℕ) → rule_of g.rules n.0 ≡ o →
      paths_of g (deps_at plan.rules o) ≡ made_of (s b requested t g inputs plan around is finished) t (path_of g.nodes n)
  shows_by n met None e = sym (ap (made_by (s b requested t g inputs plan around is finished) t) (met.looked e))
  shows_by n met (Some rule) e =
      let needed = met.needed rule e in
      let k = kn b requested t g inputs plan around is finished rule needed in
      deps_are b requested t g inputs plan around is finished rule needed
      ∙ sym (ap (made_by (s b requested t g inputs plan around is finished) t)
      (path_rule b requested t g inputs plan around is finished n rule met.below e ∙ k.numbered))

  pub shown_by : IsShownBy b t g requested plan
  shown_by = record {
    shows = λ n shown. shows_by n (shown_met shown) (rule_of g.rules n.0) refl;
    no_cycle = no_loop b requested t g inputs plan around is finished;
  }

-- ---- by whatever function digests are made

module _ (b : Begun) (hash : Hash) where
  abbrev pub with_hash : Begun
  with_hash = record b { hash = hash }

  copied_at : (p q : Path) (o : Option Rule) → copy_of_source (begun_graph with_hash) b.tree p q o ≡ copy_of_source (begun_graph b) b.tree p q o
  copied_at p q None = refl
  copied_at p q (Some r) = refl

  copy_same : (p : Path) (o : Option Path) → copy_at (begun_graph with_hash) b.tree p o ≡ copy_at (begun_graph b) b.tree p o
  copy_same p None = refl
  copy_same p (Some q) = copied_at p q (declared_rule (rules_in b.graph) q)

  or_same : (p : Path) (o : Option Rule) → or_copy (begun_graph with_hash) b.tree p o ≡ or_copy (begun_graph b) b.tree p o
  or_same p None = copy_same p (source_for b.graph p)
  or_same p (Some r) = refl

  pub rules_same : (begun_setting with_hash).rule_of ≡ (begun_setting b).rule_of
  rules_same = (λ i. λ p. or_same p (declared_rule (rules_in b.graph) p) i)

  made_same : (t : Tree) (o : Option Rule) → made_by (begun_setting with_hash) t o ≡ made_by (begun_setting b) t o
  made_same t None = refl
  made_same t (Some r) = refl

  -- the same is shown
  pub shown_same : (t : Tree) (g : RuleGraph) (nodes : List NodeId) (plan : Planned) → IsShownBy with_hash t g nodes plan → IsShownBy b t g nodes plan
  shown_same t g nodes plan is = record {
    shows = λ n shown.
        is.shows n shown ∙ made_same t ((begun_setting with_hash).rule_of (path_of g.nodes n))
        ∙ ap (λ (rule_of : RuleOf). made_by (begun_setting b) t (rule_of (path_of g.nodes n))) rules_same;
    no_cycle =
        subst (λ (rule_of : RuleOf). (r : Rule) → Needed rule_of (found_in (begun_setting b) (in_tree t)) (paths_of g nodes) r →
        NeedsThrough rule_of (found_in (begun_setting b) (in_tree t)) r r → ⊥) rules_same is.no_cycle;
  }

  grown_same : (g : RuleGraph) → IsGrown b g → IsGrown with_hash g
  grown_same g is = record {
    top = is.top;
    variants = is.variants;
    more = is.more;
    nodes = is.nodes;
    copies = is.copies;
    rules = is.rules;
    each_copy = λ r m. let c = is.each_copy r m in
        record { path = c.path; source = c.source; undeclared = c.undeclared; copied = c.copied; is = c.is; lines = c.lines; builder = c.builder };
  }

  -- a plan that stands behind a build begins so
  pub begins_behind : (g : RuleGraph) (declared : ℕ) (around : Around) → IsBehind b g declared around → BeginsBehind with_hash g declared hash around
  begins_behind g declared around is = record {
    reading = is.read;
    grown = grown_same g is.grown;
    count = is.count;
    digests = refl;
    rest = is.rest;
    idle = is.idle;
  }

pub outset_behind : (b : Begun) (g : RuleGraph) (inputs : Inputs) (around : Around) → AreTrue b g inputs around → ((number : ℕ) → is_marked inputs number ≡ false) →
    around.running ≡ [] → inputs.gone.keys ≡ [] → IsOutset b around.tree g inputs around
outset_behind b g inputs around truth unmarked idle none = record {
  truth = truth;
  unmarked = unmarked;
  idle = idle;
  files = λ path. ap (λ (keys : List Path). past keys around.tree path) none;
}

-- what is printed, or why nothing is
module _ {W O T : Type 0} (m : Meaning W) (s : SinkMeaning O) (g h : RuleGraph) (declared : ℕ) (word : List ℕ) (nodes : List NodeId) (is_node : Bool)
    (world after : W) (old : O) where
  pub shown_tree : (new : O) (plan : Planned) → Plans m g declared nodes world h after plan → (r : Result T TreeEnd) → IsIdle plan →
      PrintsTree s (tree_text (shown_in h plan) word (children_asked h plan is_node nodes)) old new r →
      ShowsBuilds {T = T} m s g h declared word nodes is_node world after old new r
  shown_tree new plan plans (Ok v) idle prints = record { tree = record { plan = plan; idle = idle; prints = prints }; plans = plans }
  shown_tree new plan plans (Err e) idle prints = inl (record { tree = record { plan = plan; idle = idle; prints = prints }; plans = plans })

  pub shown_none : (P : TreeEnd → Type 0) (r : Result T TreeEnd) → IsErrAnd r P → ShowsBuilds {T = T} m s g h declared word nodes is_node world after old old r
  shown_none P (Ok v) is = absurd is
  shown_none P (Err e) is = inr refl
