-- What is kept of files stays true as the copy rule of a file is added.
use Rattle.std.proofs.Common.{◌≡◌, ◌⊎◌, inl, inr, ◌∙◌, ap, sym, subst, refl, ℕ, true, false, List, [], ◌∷◌, ◌++◌, append_assoc, length, Option, Some, None}
use Rattle.std.specs.Prelude.{Result, Ok, Err, IfOk, OnOk, MatchOption, nat_eq, slice_get, is_some}
use Rattle.std.specs.Str.{bytes_eq}
use Rattle.std.specs.Cmp.Lexicographic.{pointwise}
use Rattle.std.proofs.lemmas.Bool.Decides.{Decides-eqb}
use Rattle.std.proofs.lemmas.List.{append-nil}
use Rattle.std.specs.Option.{unwrap_or}
use Rattle.scons_base.specs.declared.ids.NodeId.{NodeId}
use Rattle.node_tree.specs.Nodes.{number_of, Interns}
use Rattle.rule_graph.specs.declared.rule.Rule.{Rule}
use Rattle.rule_graph.specs.Graphs.{RuleGraph, path_of, AddsRule}
use Rattle.rule_graph.specs.Rules.{rule_of, is_target_of, equal_rule, is_same, node_eq, AreSingle}
use Rattle.world_api.specs.Around.{Around}
use Rattle.build_model.specs.Rules.{Path, Among, here, there}
use Rattle.build_means.specs.Copies.{copied_from}
use Rattle.build_means.specs.Grown.{Begun, IsCopyOf, copy_in}
use Rattle.build_means.specs.Rules.{IsReading, rule_with}
use Rattle.build_means.proofs.Growing.{get_front, are_rules}
use Rattle.build_means.proofs.Lists.{none_some, true_false, first_place, and_both, or_first}
use Rattle.build_files.proofs.Growth.{interned_at, interned_true}
use Rattle.build_files.proofs.Noting.{more_interned}
use Rattle.build_files.proofs.Places.{numbered}
use Rattle.build_files.proofs.Searching.{nodes_more, place_more}
use Rattle.build_files.specs.Kept.{AreFound, AreTrue, IsLeftAlone}
use Rattle.build_files.specs.Searched.{AreNodesOf, HasMore, GrowsTo}
use Rattle.build_files.specs.Leftovers.{is_made, has_rule}
use Rattle.build_files.specs.Copying.{copying}
use Rattle.build_files.specs.declared.end.ListEnd.{ListEnd}
use Rattle.build_files.specs.declared.includes.Found.{Found}
use Rattle.build_files.specs.declared.inputs.Inputs.{Inputs}

none_of : (o : Option ℕ) → is_some o ≡ false → o ≡ None
none_of None e = refl
none_of (Some n) e = true_false e

-- the graph with one rule more
abbrev pub with_rule : RuleGraph → Rule → RuleGraph
with_rule g x = record g { rules = g.rules ++ x ∷ [] }

module _ (g : RuleGraph) (x : Rule) (after : IsReading (with_rule g x)) where
  -- what has no rule with it had none before
  pub unruled_before : (n : ℕ) → rule_of (g.rules ++ x ∷ []) n ≡ None → rule_of g.rules n ≡ None
  unruled_before n none = by (rule_of g.rules n) refl
    where
      by : (o : Option ℕ) → rule_of g.rules n ≡ o → o ≡ None
      by None e = refl
      by (Some i) e =
          let place = first_place (λ r. is_target_of r.targets n) g.rules i e in
          none_some (sym none ∙ after.single i n place.0 (get_front g.rules (x ∷ []) i place.0 place.1) place.2)

  unmade_before : (path : Path) → is_made (with_rule g x) path ≡ false → is_made g path ≡ false
  unmade_before path unmade = by (number_of g.nodes path) refl
    where
      by : (o : Option ℕ) → number_of g.nodes path ≡ o → has_rule g.rules (number_of g.nodes path) ≡ false
      by None at = ap (has_rule g.rules) at
      by (Some n) at =
          let none = none_of (rule_of (g.rules ++ x ∷ []) n) (sym (ap (has_rule (g.rules ++ x ∷ [])) at) ∙ unmade) in
          ap (has_rule g.rules) at ∙ ap is_some (unruled_before n none)

among_end : {r x : Rule} (copies : List Rule) → Among r (copies ++ x ∷ []) → Among r copies ⊎ (r ≡ x)
among_end [] here = inr refl
among_end [] (there m) = elim m [ ]
among_end (c ∷ copies) here = inl here
among_end (c ∷ copies) (there m) = elim (among_end copies m) [ inl k ↦ inl (there k) | inr same ↦ inr same ]

-- what scans found is so with one rule more
found_ruled : (b : Begun) (g : RuleGraph) (x : Rule) (gone : List Path) (around : Around) (found : Found) → AreFound b g gone around found
    → AreFound b (with_rule g x) gone around found
found_ruled b g x gone around found is = record {
  each = λ scan nodes kept.
      let e = is.each scan nodes kept in
      record { paths = e.paths; path = e.path; dirs = e.dirs; file = e.file; still = e.still; meaning = e.meaning };
  last = λ rule list noted.
      let l = is.last rule list noted in
      record { declared = l.declared; at = get_front g.rules (x ∷ []) rule.0 l.declared l.at; dirs = l.dirs };
}

-- the copy rule of a path that has none
pub is_copy_of : (b : Begun) (g : RuleGraph) (target source : NodeId) (path from : Path) → rule_with b.graph path ≡ None → copied_from b.graph b.tree path ≡ Some from
    → slice_get g.nodes target.0 ≡ Some path → slice_get g.nodes source.0 ≡ Some from → IsCopyOf b g (copying target source)
is_copy_of b g target source path from undeclared copied at from_at =
    let one : path_of g.nodes target ≡ path = ap (λ o. unwrap_or o []) at in
    let two : path_of g.nodes source ≡ from = ap (λ o. unwrap_or o []) from_at in
    record {
      path = path;
      source = from;
      undeclared = undeclared;
      copied = copied;
      is = ap (λ (path : Path). record (copy_in g (copying target source)) { targets = path ∷ [] }) one
          ∙ ap (λ (from : Path). record (copy_in g (copying target source)) { targets = path ∷ []; sources = from ∷ [] }) two;
      lines = refl;
      builder = refl;
    }

module _ (b : Begun) (g : RuleGraph) (inputs : Inputs) (around : Around) (x : Rule) (is : AreTrue b g inputs around) (after : IsReading (with_rule g x)) (copy : IsCopyOf b g x) where
  each : (r : Rule) → Among r is.grown.copies ⊎ (r ≡ x) → IsCopyOf b (with_rule g x) r
  each r (inl among) =
      let was = is.grown.each_copy r among in
      record { path = was.path; source = was.source; undeclared = was.undeclared; copied = was.copied; is = was.is; lines = was.lines; builder = was.builder }
  each r (inr same) =
      subst (λ y. IsCopyOf b (with_rule g x) y) (sym same)
      (record { path = copy.path; source = copy.source; undeclared = copy.undeclared; copied = copy.copied; is = copy.is; lines = copy.lines; builder = copy.builder })

  pub ruled : AreTrue b (with_rule g x) inputs around
  ruled = record {
    reading = is.reading;
    grown = record {
      top = is.grown.top;
      variants = is.grown.variants;
      more = is.grown.more;
      nodes = is.grown.nodes;
      copies = is.grown.copies ++ x ∷ [];
      rules = ap (λ rules. rules ++ x ∷ []) is.grown.rules ∙ append_assoc b.graph.rules is.grown.copies (x ∷ []);
      each_copy = λ r among. each r (among_end is.grown.copies among);
    };
    hash = is.hash;
    declared = is.declared;
    rest = λ path unmade. is.rest path (unmade_before g x after path unmade);
    idle = λ path unmade. is.idle path (unmade_before g x after path unmade);
    seen = is.seen;
    settled = λ node path at settled none. is.settled node path at settled (unruled_before g x after node none);
    behind = is.behind;
    unknown = is.unknown;
    gone = is.gone;
    found = found_ruled b g x inputs.gone.keys around inputs.found is.found;
  }

-- the graph grew
pub grew_same : (g : RuleGraph) → GrowsTo g g
grew_same g = record { more = []; nodes = sym (append-nil g.nodes); added = []; rules = sym (append-nil g.rules); rest = refl }

pub grew_by_nodes : (g h : RuleGraph) → HasMore g h → GrowsTo g h
grew_by_nodes g h more = record {
  more = more.more;
  nodes = more.nodes;
  added = [];
  rules = ap (λ (x : RuleGraph). x.rules) more.rest ∙ sym (append-nil g.rules);
  rest = more.rest ∙ ap (λ (rules : List Rule). record g { nodes = h.nodes; rules = rules }) (sym (ap (λ (x : RuleGraph). x.rules) more.rest));
}

pub grew_joined : (g h i : RuleGraph) → GrowsTo g h → GrowsTo h i → GrowsTo g i
grew_joined g h i p q = record {
  more = p.more ++ q.more;
  nodes = q.nodes ∙ ap (λ nodes. nodes ++ q.more) p.nodes ∙ append_assoc g.nodes p.more q.more;
  added = p.added ++ q.added;
  rules = q.rules ∙ ap (λ rules. rules ++ q.added) p.rules ∙ append_assoc g.rules p.added q.added;
  rest = q.rest ∙ ap (λ (x : RuleGraph). record x { nodes = i.nodes; rules = i.rules }) p.rest;
}

pub place_grown : (g h : RuleGraph) (node : ℕ) (path : Path) → GrowsTo g h → slice_get g.nodes node ≡ Some path → slice_get h.nodes node ≡ Some path
place_grown g h node path grew at = ap (λ (ns : List Path). slice_get ns node) grew.nodes ∙ get_front g.nodes grew.more node path at

pub nodes_grown : (g h : RuleGraph) (paths : List Path) (nodes : List NodeId) → GrowsTo g h → AreNodesOf g paths nodes → AreNodesOf h paths nodes
nodes_grown g h paths nodes grew are =
    nodes_more g (record g { nodes = h.nodes }) paths nodes (record { more = grew.more; nodes = grew.nodes; rest = refl }) are

-- a rule was added, or one that does the same is there
pub grew_added : (g h : RuleGraph) (x : Rule) (id : ℕ) → AddsRule g x id h → GrowsTo g h
grew_added g h x id adds = by (equal_rule g.rules x) adds
  where
    by : (o : Option ℕ) → MatchOption o ((id ≡ length g.rules) × (h ≡ record g { rules = g.rules ++ x ∷ [] })) (λ there. (id ≡ there) × (h ≡ g)) → GrowsTo g h
    by None e = record {
      more = [];
      nodes = ap (λ (y : RuleGraph). y.nodes) e.1 ∙ sym (append-nil g.nodes);
      added = x ∷ [];
      rules = ap (λ (y : RuleGraph). y.rules) e.1;
      rest = e.1 ∙ (λ i. record g { nodes = sym (ap (λ (y : RuleGraph). y.nodes) e.1) i; rules = sym (ap (λ (y : RuleGraph). y.rules) e.1) i });
    }
    by (Some n) e = subst (λ y. GrowsTo g y) (sym e.1) (grew_same g)

-- one that does the same has the same target, so a rule is added for a node that has none
same_target : (target source : NodeId) (r : Rule) → is_same r (copying target source) ≡ true → is_target_of r.targets target.0 ≡ true
same_target target source r same =
    let one = (and_both (bytes_eq r.builder []) _ same).1 in
    let two = (and_both (pointwise node_eq r.targets (target ∷ [])) _ one).0 in
    by r.targets two
  where
    by : (ts : List NodeId) → pointwise node_eq ts (target ∷ []) ≡ true → is_target_of ts target.0 ≡ true
    by [] e = true_false (sym e)
    by (t ∷ ts) e = or_first (nat_eq t.0 target.0) (is_target_of ts target.0) (and_both (nat_eq t.0 target.0) (pointwise node_eq ts []) e).0

pub is_added : (g h : RuleGraph) (target source : NodeId) (id : ℕ) → AreSingle g.rules → rule_of g.rules target.0 ≡ None → AddsRule g (copying target source) id h
    → h ≡ with_rule g (copying target source)
is_added g h target source id single none adds = by (equal_rule g.rules (copying target source)) refl adds
  where
    by : (o : Option ℕ) → equal_rule g.rules (copying target source) ≡ o
        → MatchOption o ((id ≡ length g.rules) × (h ≡ with_rule g (copying target source))) (λ there. (id ≡ there) × (h ≡ g)) → h ≡ with_rule g (copying target source)
    by None same e = e.1
    by (Some n) same e =
        let place = first_place (λ r. is_same r (copying target source)) g.rules n same in
        none_some (sym none ∙ single n target.0 place.0 place.1 (same_target target source place.0 place.2))

has_rule_now : (g : RuleGraph) (target source : NodeId) → AreSingle (g.rules ++ copying target source ∷ []) → rule_of (g.rules ++ copying target source ∷ []) target.0 ≡ Some (length g.rules)
has_rule_now g target source single =
    single (length g.rules) target.0 (copying target source) (last g.rules) (or_first (nat_eq target.0 target.0) false ((Decides-eqb target.0 target.0).1 refl))
  where
    last : (rules : List Rule) → slice_get (rules ++ copying target source ∷ []) (length rules) ≡ Some (copying target source)
    last [] = refl
    last (r ∷ rules) = last rules

-- the source of a copy gets a number, where it had none
module _ (g h : RuleGraph) (path : Path) (id : ℕ) (interns : Interns g.nodes path id h.nodes) (rest : h ≡ record g { nodes = h.nodes }) where
  pub source_at : slice_get h.nodes id ≡ Some path
  source_at = by (number_of g.nodes path) refl interns
    where
      by : (o : Option ℕ) → number_of g.nodes path ≡ o → MatchOption o ((id ≡ length g.nodes) × (h.nodes ≡ g.nodes ++ path ∷ [])) (λ n. (id ≡ n) × (h.nodes ≡ g.nodes))
          → slice_get h.nodes id ≡ Some path
      by None none e = interned_at g.nodes h.nodes path id none interns
      by (Some n) some e = ap (λ (ns : List Path). slice_get ns id) e.1 ∙ ap (slice_get g.nodes) e.0 ∙ numbered g.nodes n path some

  pub source_true : (b : Begun) (inputs : Inputs) (around : Around) → IsReading g → IsReading h → AreTrue b g inputs around → AreTrue b h inputs around
  source_true b inputs around before after is = by (number_of g.nodes path) refl interns
    where
      by : (o : Option ℕ) → number_of g.nodes path ≡ o → MatchOption o ((id ≡ length g.nodes) × (h.nodes ≡ g.nodes ++ path ∷ [])) (λ n. (id ≡ n) × (h.nodes ≡ g.nodes))
          → AreTrue b h inputs around
      by None none e = interned_true b g h inputs around path id none interns rest before after is
      by (Some n) some e = subst (λ x. AreTrue b x inputs around) (sym (rest ∙ ap (λ (ns : List Path). record g { nodes = ns }) e.1)) is

-- the copy rule of a file without a rule was added
pub copy_true : (b : Begun) (g h k : RuleGraph) (inputs : Inputs) (around : Around) (target source : NodeId) (path from : Path) (id : ℕ) → Interns g.nodes from source.0 h.nodes
    → h ≡ record g { nodes = h.nodes } → AddsRule h (copying target source) id k → IsReading g → IsReading h → IsReading k → slice_get g.nodes target.0 ≡ Some path
    → rule_of g.rules target.0 ≡ None → copied_from b.graph b.tree path ≡ Some from → AreTrue b g inputs around → AreTrue b k inputs around
copy_true b g h k inputs around target source path from id interns rest adds first second third at none copied is =
    let more = more_interned g h from source.0 interns rest in
    let later = source_true g h from source.0 interns rest b inputs around first second is in
    let bare : rule_of h.rules target.0 ≡ None = ap (λ (x : RuleGraph). rule_of x.rules target.0) rest ∙ none in
    let same = is_added h k target source id second.single bare adds in
    let undeclared = (are_rules b h later.reading second later.grown).undeclared target.0 path (place_more g h target.0 path more at) bare in
    let copy = is_copy_of b h target source path from undeclared copied (place_more g h target.0 path more at) (source_at g h from source.0 interns rest) in
    subst (λ x. AreTrue b x inputs around) (sym same) (ruled b h inputs around (copying target source) later (subst IsReading same third) copy)

pub copy_made : (g h k : RuleGraph) (target source : NodeId) (id : ℕ) → h ≡ record g { nodes = h.nodes } → AddsRule h (copying target source) id k → IsReading h → IsReading k
    → rule_of g.rules target.0 ≡ None → is_some (rule_of k.rules target.0) ≡ true
copy_made g h k target source id rest adds second third none =
    let bare : rule_of h.rules target.0 ≡ None = ap (λ (x : RuleGraph). rule_of x.rules target.0) rest ∙ none in
    let same = is_added h k target source id second.single bare adds in
    ap (λ (x : RuleGraph). is_some (rule_of x.rules target.0)) same ∙ ap is_some (has_rule_now h target source (subst IsReading same third).single)

-- a file that got its copy rule has no other
pub made_alone : {T : Type 0} (b : Begun) (g : RuleGraph) (node : ℕ) (path : Path) (r : Result T ListEnd) → slice_get g.nodes node ≡ Some path
    → OnOk r (is_some (rule_of g.rules node) ≡ true) → IfOk r (λ _. IsLeftAlone b g node)
made_alone b g node path (Ok done) at made = record {
  path = path;
  at = at;
  uncopied = λ none. true_false (sym made ∙ ap is_some none);
}
made_alone b g node path (Err e) at made = tt
