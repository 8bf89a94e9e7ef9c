-- What is known of a path that has no number, and what comes of giving it one.
use Rattle.std.proofs.Common.{◌≡◌, ◌⊎◌, inl, inr, ◌∙◌, ap, sym, subst, refl, ℕ, Bool, true, false, List, [], ◌∷◌, ◌++◌, ◌||◌, append_assoc, length, Option, Some, None}
use Rattle.std.specs.Prelude.{Result, Ok, Err, IfOk, IfSome, MatchOption, slice_get, is_some, if◌then◌else◌}
use Rattle.std.specs.List.{list_any}
use Rattle.std.specs.Option.{option_and_then}
use Rattle.std.specs.Str.{bytes_eq}
use Rattle.std.proofs.lemmas.List.{append-nil}
use Rattle.std.proofs.lemmas.Slice.Eq.{bytes_eq-Decides}
use Rattle.indexmap.specs.IndexSet.{insert_key}
use Rattle.scons_base.specs.declared.ids.NodeId.{NodeId}
use Rattle.node_tree.specs.Nodes.{number_of, AreApart, Interns}
use Rattle.rule_graph.specs.Graphs.{RuleGraph}
use Rattle.rule_graph.specs.Rules.{rule_of}
use Rattle.world_api.specs.Around.{Around, Tree}
use Rattle.build_model.specs.Rules.{Path}
use Rattle.build_means.specs.Copies.{copied_from, is_known}
use Rattle.build_means.specs.Grown.{Begun}
use Rattle.build_means.specs.Rules.{rule_with, is_declared}
use Rattle.build_means.proofs.Growing.{get_front}
use Rattle.build_means.proofs.Lists.{none_some, true_false, or_either, or_first, or_second}
use Rattle.build_files.proofs.Places.{numbered}
use Rattle.build_files.specs.Kept.{past, AreTrue, IsKnownAs}
use Rattle.build_files.specs.Leftovers.{has_rule}
use Rattle.build_files.specs.Searched.{HasMore}
use Rattle.build_files.specs.declared.end.ListEnd.{ListEnd}
use Rattle.build_files.specs.declared.inputs.Inputs.{Inputs}

-- a file that stands is known, and so is one that has a copy rule
pub file_known : (g : RuleGraph) (tree : Tree) (path : Path) → is_some (tree path) ≡ true → is_known g tree path ≡ true
file_known g tree path e =
    or_second (is_declared g path) (is_some (copied_from g tree path) || is_some (tree path))
    (or_second (is_some (copied_from g tree path)) (is_some (tree path)) e)

pub copy_known : (g : RuleGraph) (tree : Tree) (path : Path) → is_some (copied_from g tree path) ≡ true → is_known g tree path ≡ true
copy_known g tree path e =
    or_second (is_declared g path) (is_some (copied_from g tree path) || is_some (tree path))
    (or_first (is_some (copied_from g tree path)) (is_some (tree path)) e)

-- and nothing else is
pub nothing_known : (g : RuleGraph) (tree : Tree) (path : Path) → rule_with g path ≡ None → is_some (copied_from g tree path) ≡ false → is_some (tree path) ≡ false
    → is_known g tree path ≡ false
nothing_known g tree path none copied file =
    ap (λ o. is_some o || (is_some (copied_from g tree path) || is_some (tree path))) none ∙ ap (λ c. c || is_some (tree path)) copied ∙ file

module _ (b : Begun) (g : RuleGraph) (inputs : Inputs) (around : Around) (path : Path) (is : AreTrue b g inputs around) (none : number_of g.nodes path ≡ None) where
  -- what stands there stood there as the build began
  pub stood : is_some (past inputs.gone.keys around.tree path) ≡ is_some (b.tree path)
  stood = ap is_some (is.rest path (ap (has_rule g.rules) none))

  unnumbered : AreApart g.nodes → number_of b.graph.nodes path ≡ None
  unnumbered apart = by (number_of b.graph.nodes path) refl
    where
      by : (o : Option ℕ) → number_of b.graph.nodes path ≡ o → o ≡ None
      by None at = refl
      by (Some n) at =
          let there = ap (λ nodes. slice_get nodes n) is.grown.nodes ∙ get_front b.graph.nodes is.grown.more n path (numbered b.graph.nodes n path at) in
          none_some (sym none ∙ apart n path there)

  -- and no rule was declared for it
  pub undeclared : AreApart g.nodes → rule_with b.graph path ≡ None
  undeclared apart = ap (λ o. option_and_then (slice_get b.graph.rules) (option_and_then (rule_of b.graph.rules) o)) (unnumbered apart)

-- a path that got its node is known by it
pub known_noted : (b : Begun) (g : RuleGraph) (path : Path) (r : Result (Option NodeId) ListEnd) → is_known b.graph b.tree path ≡ true
    → IfOk r (λ node. IfSome node (λ n. slice_get g.nodes n.0 ≡ Some path)) → IfOk r (λ node. is_some node ≡ true) → IfOk r (IsKnownAs b g path)
known_noted b g path (Ok None) known at some = true_false (sym some)
known_noted b g path (Ok (Some n)) known at some = (known, at)
known_noted b g path (Err e) known at some = tt

-- one more path is kept as unknown
pub unknown_kept : (b : Begun) (g : RuleGraph) (old new : Inputs) (around : Around) → new ≡ record old { unknown = new.unknown }
    → ((path : Path) → list_any (bytes_eq path) new.unknown.keys ≡ true → is_known b.graph b.tree path ≡ false) → AreTrue b g old around → AreTrue b g new around
unknown_kept b g old new around same unknown is = subst (λ i. AreTrue b g i around) (sym same) (record {
  reading = is.reading;
  grown = is.grown;
  hash = is.hash;
  declared = is.declared;
  rest = is.rest;
  idle = is.idle;
  seen = is.seen;
  settled = is.settled;
  behind = is.behind;
  unknown = unknown;
  gone = is.gone;
  found = is.found;
})

either_there : (p k path : Path) (keys : List Path) → (list_any (bytes_eq p) keys ≡ true) ⊎ (p ≡ path) → (list_any (bytes_eq p) (k ∷ keys) ≡ true) ⊎ (p ≡ path)
either_there p k path keys (inl e) = inl (or_second (bytes_eq p k) (list_any (bytes_eq p) keys) e)
either_there p k path keys (inr same) = inr same

among_end : (keys : List Path) (path p : Path) → list_any (bytes_eq p) (keys ++ path ∷ []) ≡ true → (list_any (bytes_eq p) keys ≡ true) ⊎ (p ≡ path)
among_end [] path p e = elim (or_either (bytes_eq p path) false e) [ inl same ↦ inr ((bytes_eq-Decides p path).0 same) | inr none ↦ true_false (sym none) ]
among_end (k ∷ keys) path p e = elim (or_either (bytes_eq p k) (list_any (bytes_eq p) (keys ++ path ∷ [])) e) [
  | inl same ↦ inl (or_first (bytes_eq p k) (list_any (bytes_eq p) keys) same)
  | inr rest ↦ either_there p k path keys (among_end keys path p rest)
]

-- what is among the keys once a path was inserted is that path or was there
pub among_more : (keys : List Path) (path p : Path) → list_any (bytes_eq p) (insert_key bytes_eq keys path) ≡ true → (list_any (bytes_eq p) keys ≡ true) ⊎ (p ≡ path)
among_more keys path p e = by (list_any (bytes_eq path) keys) e
  where
    by : (c : Bool) → list_any (bytes_eq p) (if c then keys else keys ++ path ∷ []) ≡ true → (list_any (bytes_eq p) keys ≡ true) ⊎ (p ≡ path)
    by true e = inl e
    by false e = among_end keys path p e

-- so they are unknown where that path is
pub unknown_more : (b : Begun) (keys new : List Path) (path : Path) → new ≡ insert_key bytes_eq keys path → is_known b.graph b.tree path ≡ false
    → ((p : Path) → list_any (bytes_eq p) keys ≡ true → is_known b.graph b.tree p ≡ false)
    → (p : Path) → list_any (bytes_eq p) new ≡ true → is_known b.graph b.tree p ≡ false
unknown_more b keys new path same unknown were p among = elim (among_more keys path p (sym (ap (list_any (bytes_eq p)) same) ∙ among)) [
  | inl e ↦ were p e
  | inr e ↦ ap (is_known b.graph b.tree) e ∙ unknown
]

pub more_same : (g : RuleGraph) → HasMore g g
more_same g = record { more = []; nodes = sym (append-nil g.nodes); rest = refl }

pub more_joined : (g h i : RuleGraph) → HasMore g h → HasMore h i → HasMore g i
more_joined g h i p q = record {
  more = p.more ++ q.more;
  nodes = q.nodes ∙ ap (λ nodes. nodes ++ q.more) p.nodes ∙ append_assoc g.nodes p.more q.more;
  rest = q.rest ∙ ap (λ (x : RuleGraph). record x { nodes = i.nodes }) p.rest;
}

pub more_of : (g h : RuleGraph) → h ≡ g → HasMore g h
more_of g h same = subst (λ x. HasMore g x) (sym same) (more_same g)

-- a path got a number
pub more_interned : (g h : RuleGraph) (path : Path) (id : ℕ) → Interns g.nodes path id h.nodes → h ≡ record g { nodes = h.nodes } → HasMore g h
more_interned g h path id interns rest = by (number_of g.nodes path) interns
  where
    by : (o : Option ℕ) → MatchOption o ((id ≡ length g.nodes) × (h.nodes ≡ g.nodes ++ path ∷ [])) (λ n. (id ≡ n) × (h.nodes ≡ g.nodes)) → HasMore g h
    by None e = record { more = path ∷ []; nodes = e.1; rest = rest }
    by (Some n) e = record { more = []; nodes = e.1 ∙ sym (append-nil g.nodes); rest = rest }
