-- A graph in which more paths get numbers, seen through paths: what was named stays.
use Rattle.std.proofs.Common.{◌≡◌, ◌≢◌, ◌<◌, ◌∙◌, ◌+◌, ℕ, zero, suc, List, [], ◌∷◌, ◌++◌, ◌&&◌, Bool, true, false, cond, ap, sym, refl, length, map, Some, None, Option}
use Rattle.std.specs.Prelude.{nat_lt, nat_le, slice_get, get_or, unwrap_or, Result, Ok, Err, if◌then◌else◌}
use Rattle.std.specs.List.{list_all}
use Rattle.std.specs.Option.{option_map}
use Rattle.std.specs.Str.{bytes_eq}
use Rattle.std.proofs.lemmas.Bool.{ltb-true}
use Rattle.std.proofs.lemmas.List.{map-append}
use Rattle.std.proofs.lemmas.Option.{slice_get-get_or}
use Rattle.std.proofs.lemmas.List.Sums.{fold-append}
use Rattle.scons_base.specs.declared.ids.NodeId.{NodeId}
use Rattle.scons_base.specs.declared.limits.TheConstants.{NODE_LIMIT}
use Rattle.node_tree.specs.Nodes.{with_path}
use Rattle.rule_graph.specs.declared.rule.Rule.{Rule}
use Rattle.rule_graph.specs.declared.build_fault.What.TheVariants.{Nodes}
use Rattle.rule_graph.specs.Rules.{are_below, IsRule}
use Rattle.rule_graph.specs.Aliases as named
use Rattle.rule_graph.specs.Graphs.{RuleGraph, path_of, IsGraph}
use Rattle.scons_decls.specs.Tables.{Table, value_at, put}
use Rattle.scons_rules.specs.declared.adding.RuleNodes.{RuleNodes}
use Rattle.scons_rules.specs.declared.adding.RulePaths.{RulePaths}
use Rattle.scons_rules.specs.declared.fault.RuleReadFault.{RuleReadFault}
use Rattle.scons_rules.specs.declared.fault.RuleReadFault.TheVariants.{TooMany}
use Rattle.scons_rules.specs.declared.making.Making.{Making}
use Rattle.scons_rules.specs.declared.said.OfRule.{OfRule}
use Rattle.scons_rules.specs.Expanding.{Expanding}
use Rattle.scons_rules.specs.Finishing.{with_alias, with_members}
use Rattle.scons_rules.specs.Making.{making_of, rule_with, path_rule, lists_by, put_made}
use Rattle.scons_rules.specs.Nodes.{AreNamed, all_interned, lists_of}
use Rattle.scons_rules.specs.Numbers.{each_once, interned, with_paths, Numbers}
use Rattle.scons_rules.specs.PathRules.{PathRule, by_paths, rules_in, with_rule}
use Rattle.scons_rules.specs.PathGraphs.{PathGraph, alias_by, graph_by, named_by, put_rule}
use Rattle.scons_rules.specs.Settled.{settled}
use Rattle.scons_rules.specs.Steps.{and_then}
use Rattle.scons_rules.proofs.Naming.{path_at}
use Rattle.scons_rules.proofs.Numbering.{kept}
use Rattle.scons_rules.proofs.Ordering.{interned_once}

and_left : (a b : Bool) → (a && b) ≡ true → a ≡ true
and_left true b e = refl
and_left false b e = absurd (cc)

and_right : (a b : Bool) → (a && b) ≡ true → b ≡ true
and_right true b e = e
and_right false b e = absurd (cc)

kept_all : (old more : List (List ℕ)) (i : ℕ) (x : List ℕ) → slice_get old i ≡ Some x → slice_get (with_paths old more) i ≡ Some x
kept_all old [] i x e = e
kept_all old (p ∷ more) i x e = kept_all (with_path old p) more i x (kept old p i x e)

map_at : {X Y : Type 0} → (f g : X → Y) (xs : List X) → ((i : ℕ) (x : X) → slice_get xs i ≡ Some x → f x ≡ g x) → map f xs ≡ map g xs
map_at f g [] same = refl
map_at f g (x ∷ xs) same =
    let first : f x ≡ g x = same zero x refl in
    let rest : map f xs ≡ map g xs = map_at f g xs (λ i y e. same (suc i) y e) in
    rw (first, rest) refl

module _ (old more : List (List ℕ)) where
  path_kept : (n : NodeId) → nat_lt n.0 (length old) ≡ true → path_of (with_paths old more) n ≡ path_of old n
  path_kept n l =
      let got : slice_get old n.0 ≡ Some (get_or old n.0 []) = slice_get-get_or old n.0 [] (ltb-true n.0 (length old) l) in
      ap (λ o. unwrap_or o []) (kept_all old more n.0 (get_or old n.0 []) got ∙ sym got)

  paths_kept : (ns : List NodeId) → are_below (length old) ns ≡ true → map (path_of (with_paths old more)) ns ≡ map (path_of old) ns
  paths_kept [] low = refl
  paths_kept (n ∷ ns) low =
      let first = path_kept n (and_left (nat_lt n.0 (length old)) (are_below (length old) ns) low) in
      let rest = paths_kept ns (and_right (nat_lt n.0 (length old)) (are_below (length old) ns) low) in
      rw (first, rest) refl

  rule_kept : (r : Rule) → IsRule (length old) r → by_paths (with_paths old more) r ≡ by_paths old r
  rule_kept r valid =
      rw (
        paths_kept r.targets valid.targets,
        paths_kept r.sources valid.sources,
        paths_kept r.libs valid.libs,
        paths_kept r.depends valid.depends,
        paths_kept r.required valid.required,
        paths_kept r.ignored valid.ignored,
      ) refl

  rules_kept : (rules : List Rule) → ((i : ℕ) (r : Rule) → slice_get rules i ≡ Some r → IsRule (length old) r)
      → map (by_paths (with_paths old more)) rules ≡ map (by_paths old) rules
  rules_kept rules each = map_at (by_paths (with_paths old more)) (by_paths old) rules (λ i r e. rule_kept r (each i r e))

  aliases_kept : (aliases : List named.Alias) → list_all (λ a. are_below (length old) a.1) aliases ≡ true
      → map (alias_by (with_paths old more)) aliases ≡ map (alias_by old) aliases
  aliases_kept [] low = refl
  aliases_kept (a ∷ aliases) low =
      let first = paths_kept a.1 (and_left (are_below (length old) a.1) (list_all (λ b. are_below (length old) b.1) aliases) low) in
      let rest = aliases_kept aliases (and_right (are_below (length old) a.1) (list_all (λ b. are_below (length old) b.1) aliases) low) in
      rw (first, rest) refl

-- lists of paths that get numbers, one after the other
pub record Grown (old new : List (List ℕ)) : Type 0 where
  pub more : List (List ℕ)
  pub is : new ≡ with_paths old more

interned_grown : (old new paths : List (List ℕ)) → interned old paths ≡ Ok new → Grown old new
unfolding interned
interned_grown old new paths e = by (nat_le (length (with_paths old (each_once paths))) NODE_LIMIT) e
  where
    by : (b : Bool) → (if b then Ok (with_paths old (each_once paths)) else Err (TooMany Nodes (NODE_LIMIT + 1))) ≡ Ok new → Grown old new
    by true e = record { more = each_once paths; is = cc }
    by false e = absurd (cc)

all_grown : (old new : List (List ℕ)) (lists : List (List (List ℕ))) → all_interned old lists ≡ Ok new → Grown old new
all_grown old new [] e = record { more = []; is = cc }
all_grown old new (paths ∷ lists) e = by (interned old paths) refl e (λ next rest. all_grown next new lists rest)
  where
    by : (r : Result (List (List ℕ)) RuleReadFault) → interned old paths ≡ r → and_then r (λ more. all_interned more lists) ≡ Ok new
        → ((next : List (List ℕ)) → all_interned next lists ≡ Ok new → Grown next new) → Grown old new
    by (Ok next) first rest go =
        let a : Grown old next = interned_grown old next paths first in
        let b : Grown next new = go next rest in
        record { more = a.more ++ b.more; is = b.is ∙ ap (λ l. with_paths l b.more) a.is ∙ sym (fold-append with_path old a.more b.more) }
    by (Err f) first rest go = absurd (cc)

all_once : (nodes : List (List ℕ)) (lists : List (List (List ℕ))) → all_interned nodes (map each_once lists) ≡ all_interned nodes lists
all_once nodes [] = refl
all_once nodes (paths ∷ lists) =
    ap (λ r. and_then r (λ more. all_interned more (map each_once lists))) (interned_once nodes paths) ∙ by (interned nodes paths) (λ next. all_once next lists)
  where
    by : (r : Result (List (List ℕ)) RuleReadFault) → ((next : List (List ℕ)) → all_interned next (map each_once lists) ≡ all_interned next lists)
        → and_then r (λ more. all_interned more (map each_once lists)) ≡ and_then r (λ more. all_interned more lists)
    by (Ok next) go = go next
    by (Err f) go = refl

-- a graph after more paths got numbers
module _ (g : RuleGraph) (valid : IsGraph (length g.nodes) g.rules g.aliases) (nodes : List (List ℕ)) (grown : Grown g.nodes nodes) where
  pub rules_stay : map (by_paths nodes) g.rules ≡ map (by_paths g.nodes) g.rules
  rules_stay = ap (λ l. map (by_paths l) g.rules) grown.is ∙ rules_kept g.nodes grown.more g.rules valid.each_rule

  pub aliases_stay : map (alias_by nodes) g.aliases ≡ map (alias_by g.nodes) g.aliases
  aliases_stay = ap (λ l. map (alias_by l) g.aliases) grown.is ∙ aliases_kept g.nodes grown.more g.aliases valid.each_alias

  pub graph_stays : graph_by (record g { nodes = nodes }) ≡ record (graph_by g) { nodes = nodes }
  graph_stays = rw (rules_stay, aliases_stay) refl

-- the rule of a graph by the paths of its nodes
pub rule_by : (x : Expanding) (m : Making) (said : OfRule) (libs nodes : List (List ℕ)) (paths : RulePaths) (named : RuleNodes)
    → lists_of paths ≡ lists_by x said libs → AreNamed nodes paths named → by_paths nodes (rule_with x m named said.always) ≡ path_rule x said libs m
rule_by x m said libs nodes paths ns same are =
    let ts : paths.targets.now ≡ x.rule.targets = cc in
    let ss : map (λ n. n.path) paths.sources.now ≡ map (λ n. n.path) x.locals.sources.items = cc in
    let ls : paths.libs.now ≡ libs = cc in
    let ds : paths.depends ≡ map (settled x.declared) said.depends = cc in
    let rs : paths.required ≡ map (settled x.declared) said.required = cc in
    let gs : paths.ignored ≡ map (settled x.declared) said.ignored = cc in
    let t : map (path_of nodes) ns.targets ≡ each_once x.rule.targets = path_at nodes _ ns.targets are.targets ∙ ap each_once ts in
    let s : map (path_of nodes) ns.sources ≡ each_once (map (λ n. n.path) x.locals.sources.items) = path_at nodes _ ns.sources are.sources ∙ ap each_once ss in
    let l : map (path_of nodes) ns.libs ≡ each_once libs = path_at nodes _ ns.libs are.libs ∙ ap each_once ls in
    let d : map (path_of nodes) ns.depends ≡ each_once (map (settled x.declared) said.depends) = path_at nodes _ ns.depends are.depends ∙ ap each_once ds in
    let r : map (path_of nodes) ns.required ≡ each_once (map (settled x.declared) said.required) = path_at nodes _ ns.required are.required ∙ ap each_once rs in
    let i : map (path_of nodes) ns.ignored ≡ each_once (map (settled x.declared) said.ignored) = path_at nodes _ ns.ignored are.ignored ∙ ap each_once gs in
    rw (t, s, l, d, r, i) refl

-- a rule is put into a graph
module _ (x : Expanding) (m : Making) (said : OfRule) (libs : List (List ℕ)) (g : RuleGraph) (valid : IsGraph (length g.nodes) g.rules g.aliases)
    (making : making_of x ≡ Ok m) where
  put_is : put_made x said libs (graph_by g) ≡ put_rule (path_rule x said libs m) (graph_by g)
  put_is = ap (λ r. and_then r (λ n. put_rule (path_rule x said libs n) (graph_by g))) making

  numbered_is : (r : Result (List (List ℕ)) RuleReadFault) → all_interned g.nodes (lists_by x said libs) ≡ r
      → put_rule (path_rule x said libs m) (graph_by g)
      ≡ and_then r (λ nodes. and_then (with_rule (rules_in g) (path_rule x said libs m)) (λ rules. Ok (record (graph_by g) { nodes = nodes; rules = rules })))
  numbered_is r e =
      ap (λ a. and_then a (λ nodes. and_then (with_rule (rules_in g) (path_rule x said libs m)) (λ rules. Ok (record (graph_by g) { nodes = nodes; rules = rules }))))
      (all_once g.nodes (lists_by x said libs) ∙ e)

  pub not_numbered : (e : RuleReadFault) (lists : List (List (List ℕ))) → lists ≡ lists_by x said libs → all_interned g.nodes lists ≡ Err e
      → put_made x said libs (graph_by g) ≡ Err e
  not_numbered e lists same full = put_is ∙ numbered_is (Err e) (ap (all_interned g.nodes) (sym same) ∙ full)

  module _ (nodes : List (List ℕ)) (paths : RulePaths) (ns : RuleNodes) (same : lists_of paths ≡ lists_by x said libs)
      (numbered : all_interned g.nodes (lists_of paths) ≡ Ok nodes) (are : AreNamed nodes paths ns) where
    grown : Grown g.nodes nodes
    grown = all_grown g.nodes nodes (lists_of paths) numbered

    taken_is : with_rule (rules_in g) (path_rule x said libs m) ≡ with_rule (rules_in (record g { nodes = nodes })) (by_paths nodes (rule_with x m ns said.always))
    taken_is =
        ap (λ l. with_rule l (path_rule x said libs m)) (sym (rules_stay g valid nodes grown))
        ∙ ap (with_rule (map (by_paths nodes) g.rules)) (sym (rule_by x m said libs nodes paths ns same are))

    behind_numbers : put_made x said libs (graph_by g)
        ≡ and_then (with_rule (rules_in g) (path_rule x said libs m)) (λ rules. Ok (record (graph_by g) { nodes = nodes; rules = rules }))
    behind_numbers = put_is ∙ numbered_is (Ok nodes) (ap (all_interned g.nodes) (sym same) ∙ numbered)

    pub rule_put : (new : RuleGraph) → with_rule (rules_in (record g { nodes = nodes })) (by_paths nodes (rule_with x m ns said.always)) ≡ Ok (rules_in new)
        → new ≡ record g { nodes = nodes; rules = new.rules } → put_made x said libs (graph_by g) ≡ Ok (graph_by new)
    rule_put new put is =
        behind_numbers ∙ ap (λ r. and_then r (λ rules. Ok (record (graph_by g) { nodes = nodes; rules = rules }))) (taken_is ∙ put) ∙ ap Ok whole
      where
        whole : record (graph_by g) { nodes = nodes; rules = rules_in new } ≡ graph_by new
        whole =
            ap (λ (l : List (List ℕ)). record (graph_by g) { nodes = nodes; rules = map (by_paths l) new.rules }) (ap (λ (h : RuleGraph). h.nodes) is)
            ∙ ap (λ a. record (graph_by g) { nodes = nodes; rules = map (by_paths nodes) new.rules; aliases = a }) (sym (aliases_stay g valid nodes grown))
            ∙ sym (ap graph_by is)

    pub of_mid : (mid : RuleGraph) (rule : Rule) → mid ≡ record g { nodes = nodes } → rule ≡ rule_with x m ns said.always
        → with_rule (rules_in (record g { nodes = nodes })) (by_paths nodes (rule_with x m ns said.always)) ≡ with_rule (rules_in mid) (by_paths mid.nodes rule)
    of_mid mid rule e is =
        sym (ap (λ (h : RuleGraph). with_rule (rules_in h) (by_paths h.nodes rule)) e ∙ ap (λ (r : Rule). with_rule (rules_in (record g { nodes = nodes })) (by_paths nodes r)) is)

    pub rule_refused : (e : RuleReadFault) → with_rule (rules_in (record g { nodes = nodes })) (by_paths nodes (rule_with x m ns said.always)) ≡ Err e
        → put_made x said libs (graph_by g) ≡ Err e
    rule_refused e put = behind_numbers ∙ ap (λ r. and_then r (λ rules. Ok (record (graph_by g) { nodes = nodes; rules = rules }))) (taken_is ∙ put)

-- an alias is put into a graph
put_by : (nodes : List (List ℕ)) (aliases : List named.Alias) (name : List ℕ) (ns : List NodeId)
    → map (alias_by nodes) (named.put aliases (name, ns)) ≡ put (map (alias_by nodes) aliases) name (map (path_of nodes) ns)
put_by nodes [] name ns = refl
put_by nodes (a ∷ aliases) name ns = by (bytes_eq name a.0) (put_by nodes aliases name ns)
  where
    by : (b : Bool) → map (alias_by nodes) (named.put aliases (name, ns)) ≡ put (map (alias_by nodes) aliases) name (map (path_of nodes) ns)
        → map (alias_by nodes) (if b then (name, ns) ∷ aliases else a ∷ named.put aliases (name, ns))
        ≡ (if b then (name, map (path_of nodes) ns) ∷ map (alias_by nodes) aliases else alias_by nodes a ∷ put (map (alias_by nodes) aliases) name (map (path_of nodes) ns))
    by true rest = refl
    by false rest = ap (λ l. alias_by nodes a ∷ l) rest

members_by : (nodes : List (List ℕ)) (aliases : List named.Alias) (name : List ℕ)
    → map (path_of nodes) (unwrap_or (named.members_of aliases name) []) ≡ unwrap_or (value_at (map (alias_by nodes) aliases) name) []
members_by nodes [] name = refl
members_by nodes (a ∷ aliases) name = by (bytes_eq name a.0) (members_by nodes aliases name)
  where
    by : (b : Bool) → map (path_of nodes) (unwrap_or (named.members_of aliases name) []) ≡ unwrap_or (value_at (map (alias_by nodes) aliases) name) []
        → map (path_of nodes) (unwrap_or (if b then Some a.1 else named.members_of aliases name) [])
        ≡ unwrap_or (if b then Some (map (path_of nodes) a.1) else value_at (map (alias_by nodes) aliases) name) []
    by true rest = refl
    by false rest = rest

module _ (g : RuleGraph) (valid : IsGraph (length g.nodes) g.rules g.aliases) (name : List ℕ) (paths nodes : List (List ℕ)) where
  pub alias_put : (ns : List NodeId) (new : RuleGraph) → Numbers g.nodes nodes (each_once paths) ns → interned g.nodes paths ≡ Ok nodes
      → new ≡ record g { nodes = nodes; aliases = named.with_members g.aliases name ns } → with_alias name paths (graph_by g) ≡ Ok (graph_by new)
  alias_put ns new are got is =
      let grown = interned_grown g.nodes nodes paths got in
      let members : map (path_of nodes) (unwrap_or (named.members_of g.aliases name) [] ++ ns)
      ≡ unwrap_or (value_at (map (alias_by g.nodes) g.aliases) name) [] ++ each_once paths =
      map-append (path_of nodes) (unwrap_or (named.members_of g.aliases name) []) ns ∙ ap (λ l. l ++ map (path_of nodes) ns) (members_by nodes g.aliases name)
      ∙ ap (λ l. unwrap_or (value_at l name) [] ++ map (path_of nodes) ns) (aliases_stay g valid nodes grown)
      ∙ ap (λ l. unwrap_or (value_at (map (alias_by g.nodes) g.aliases) name) [] ++ l) (path_at nodes (each_once paths) ns are.at) in
      let aliases : map (alias_by nodes) (named.with_members g.aliases name ns)
      ≡ put (map (alias_by g.nodes) g.aliases) name (unwrap_or (value_at (map (alias_by g.nodes) g.aliases) name) [] ++ each_once paths) =
      put_by nodes g.aliases name (unwrap_or (named.members_of g.aliases name) [] ++ ns) ∙ ap (λ l. put l name (map (path_of nodes) (unwrap_or (named.members_of g.aliases name) [] ++ ns))) (aliases_stay g valid nodes grown)
      ∙ ap (put (map (alias_by g.nodes) g.aliases) name) members in
      rw got (ap Ok (sym (ap graph_by is ∙ rw (rules_stay g valid nodes grown, aliases) refl)))
