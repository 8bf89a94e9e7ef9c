-- What a search finds, candidate by candidate and line by line.
use Rattle.std.proofs.Common.{◌≡◌, ◌<◌, ◌≤◌, ◌∙◌, ap, sym, subst, refl, ℕ, suc, ◌+◌, Bool, true, false, cond, List, [], ◌∷◌, ◌++◌, length, get_or, take, drop, Option, Some, None}
use Rattle.std.specs.Prelude.{Result, Ok, Err, IfOk, slice_get, is_some, find, flat_map, if◌then◌else◌}
use Rattle.std.specs.List.{AllZip, filter_map, cons_option}
use Rattle.std.specs.Option.{option_or, option_to_list}
use Rattle.std.proofs.lemmas.Grind.{flat_map-append}
use Rattle.std.proofs.Math.Seq.{drop-cons}
use Rattle.std.proofs.lemmas.List.{append-nil, take-append-drop, take_more, take_all}
use Rattle.std.proofs.lemmas.List.Elements.{filter_map-append}
use Rattle.std.proofs.lemmas.List.Folds.{find-append}
use Rattle.scons_base.specs.declared.ids.NodeId.{NodeId}
use Rattle.scons_base.specs.Resolve.{resolved, resolve_fault}
use Rattle.rule_graph.specs.Graphs.{RuleGraph}
use Rattle.variant_dirs.specs.Variants.{searched}
use Rattle.variant_dirs.specs.declared.variants.Variant.{Variant}
use Rattle.world_api.specs.Around.{Around}
use Rattle.build_model.specs.Rules.{Path}
use Rattle.build_means.specs.Copies.{is_known}
use Rattle.build_means.specs.Finds.{places_in}
use Rattle.build_means.specs.Grown.{Begun}
use Rattle.build_means.proofs.Growing.{get_front}
use Rattle.build_means.proofs.Lists.{true_false}
use Rattle.build_files.specs.Kept.{AreTrue, IsKnownAs}
use Rattle.build_files.specs.Searched.{HasMore, IsNodeOf, AreNodesOf, first_known}
use Rattle.build_files.specs.declared.end.ListEnd.{ListEnd}
use Rattle.build_files.specs.declared.inputs.Inputs.{Inputs}

-- the places are those by the graph as it was read
pub places_same : (b : Begun) (g : RuleGraph) (inputs : Inputs) (around : Around) (name dir : Path) → AreTrue b g inputs around → places_in g name dir ≡ places_in b.graph name dir
places_same b g inputs around name dir is =
    ap (λ top. if is_some (resolve_fault top dir name) then [] else searched g.variants top (resolved top dir name)) is.grown.top
    ∙ ap (λ (variants : List Variant). if is_some (resolve_fault b.graph.top dir name) then [] else searched variants b.graph.top (resolved b.graph.top dir name)) is.grown.variants

module _ {A : Type 0} (p : A → Bool) where
  find_hit : (x : A) (xs : List A) → p x ≡ true → find p (x ∷ xs) ≡ Some x
  find_hit x xs e = ap (λ c. cond c (Some x) (find p xs)) e

  find_miss : (x : A) (xs : List A) → p x ≡ false → find p (x ∷ xs) ≡ find p xs
  find_miss x xs e = ap (λ c. cond c (Some x) (find p xs)) e

-- what is found among what is looked at for each item in turn
module _ {A : Type 0} (p : Path → Bool) (f : A → List Path) where
  pub none_more : (xs : List A) (i : ℕ) (x : A) → i < length xs → x ≡ get_or xs i x → find p (flat_map f (take i xs)) ≡ None → find p (f x) ≡ None
      → find p (flat_map f (take (i + 1) xs)) ≡ None
  none_more xs i x within at none this =
      ap (λ ys. find p (flat_map f ys)) (take_more xs i x within ∙ ap (λ y. take i xs ++ y ∷ []) (sym at))
      ∙ ap (find p) (flat_map-append f (take i xs) (x ∷ []))
      ∙ find-append p (flat_map f (take i xs)) (f x ++ [])
      ∙ ap (λ o. option_or o (find p (f x ++ []))) none
      ∙ ap (find p) (append-nil (f x)) ∙ this

  found_at : (xs : List A) (i : ℕ) (x : A) (y : Path) → i < length xs → x ≡ get_or xs i x → find p (flat_map f (take i xs)) ≡ None → find p (f x) ≡ Some y
      → find p (flat_map f xs) ≡ Some y
  found_at xs i x y within at none this =
      ap (λ ys. find p (flat_map f ys)) (sym (take-append-drop i xs))
      ∙ ap (find p) (flat_map-append f (take i xs) (drop i xs))
      ∙ find-append p (flat_map f (take i xs)) (flat_map f (drop i xs))
      ∙ ap (λ o. option_or o (find p (flat_map f (drop i xs)))) none
      ∙ ap (λ ys. find p (flat_map f ys)) (drop-cons xs i x within ∙ ap (λ y. y ∷ drop (suc i) xs) (sym at))
      ∙ find-append p (f x) (flat_map f (drop (suc i) xs))
      ∙ ap (λ o. option_or o (find p (flat_map f (drop (suc i) xs)))) this

  pub none_all : (xs : List A) (i : ℕ) → length xs ≤ i → find p (flat_map f (take i xs)) ≡ None → find p (flat_map f xs) ≡ None
  none_all xs i le none = ap (λ ys. find p (flat_map f ys)) (sym (take_all i xs le)) ∙ none

  -- the first item for which anything is found
  pub found_here : (g : RuleGraph) (xs : List A) (i : ℕ) (x : A) (node : Option NodeId) → i < length xs → x ≡ get_or xs i x → find p (flat_map f (take i xs)) ≡ None
      → is_some node ≡ true → IsNodeOf g (find p (f x)) node → IsNodeOf g (find p (flat_map f xs)) node
  found_here g xs i x node within at none there is = by (find p (f x)) refl node there is
    where
      by : (o : Option Path) → find p (f x) ≡ o → (node : Option NodeId) → is_some node ≡ true → IsNodeOf g o node → IsNodeOf g (find p (flat_map f xs)) node
      by None e None there is = true_false (sym there)
      by None e (Some n) there is = absurd is
      by (Some y) e None there is = absurd is
      by (Some y) e (Some n) there is = subst (λ o. IsNodeOf g o (Some n)) (sym (found_at xs i x y within at none e)) is

-- nothing was found where there is no node
pub no_node : (g : RuleGraph) (path : Option Path) (node : Option NodeId) → is_some node ≡ false → IsNodeOf g path node → path ≡ None
no_node g None None none is = refl
no_node g None (Some n) none is = absurd is
no_node g (Some path) None none is = absurd is
no_node g (Some path) (Some n) none is = true_false none

pub node_none : (g : RuleGraph) (path : Option Path) → path ≡ None → IsNodeOf g path None
node_none g path e = subst (λ o. IsNodeOf g o None) (sym e) tt

-- a path of its own is looked at for itself
pub each_alone : (paths : List Path) → flat_map (λ path. path ∷ []) paths ≡ paths
each_alone [] = refl
each_alone (path ∷ paths) = ap (λ ps. path ∷ ps) (each_alone paths)

-- the one place is found where it is known
pub found_one : (b : Begun) (g : RuleGraph) (path : Path) (node : Option NodeId) → IsKnownAs b g path node → IsNodeOf g (first_known b (path ∷ [])) node
found_one b g path None e = subst (λ o. IsNodeOf g o None) (sym (find_miss (is_known b.graph b.tree) path [] e)) tt
found_one b g path (Some n) e = subst (λ o. IsNodeOf g o (Some n)) (sym (find_hit (is_known b.graph b.tree) path [] e.0)) e.1

pub found_one_of : (b : Begun) (g : RuleGraph) (path : Path) (r : Result (Option NodeId) ListEnd) → IfOk r (IsKnownAs b g path)
    → IfOk r (λ node. IsNodeOf g (first_known b (path ∷ [])) node)
found_one_of b g path (Ok node) is = found_one b g path node is
found_one_of b g path (Err e) is = tt

-- and so for the same places
pub found_same : (b : Begun) (g : RuleGraph) (places others : List Path) (r : Result (Option NodeId) ListEnd) → places ≡ others
    → IfOk r (λ node. IsNodeOf g (first_known b places) node) → IfOk r (λ node. IsNodeOf g (first_known b others) node)
found_same b g places others r same is = subst (λ ps. IfOk r (λ node. IsNodeOf g (first_known b ps) node)) same is

-- nothing is found where no place is
pub found_nowhere : (b : Begun) (g : RuleGraph) (others : List Path) → [] ≡ others → IsNodeOf g (first_known b others) None
found_nowhere b g others none = subst (λ ps. IsNodeOf g (first_known b ps) None) none tt

push_zip : {A B : Type 0} (R : A → B → Type 0) (xs : List A) (ys : List B) (x : A) (y : B) → AllZip R xs ys → R x y → AllZip R (xs ++ x ∷ []) (ys ++ y ∷ [])
push_zip R [] [] x y all this = (this, tt)
push_zip R [] (z ∷ ys) x y all this = absurd all
push_zip R (z ∷ xs) [] x y all this = absurd all
push_zip R (z ∷ xs) (w ∷ ys) x y all this = (all.0, push_zip R xs ys x y all.1 this)

nodes_step : (g : RuleGraph) (paths : List Path) (nodes : List NodeId) (path : Option Path) (node : Option NodeId) → AreNodesOf g paths nodes → IsNodeOf g path node
    → AreNodesOf g (paths ++ cons_option path []) (nodes ++ option_to_list node)
nodes_step g paths nodes None None are is =
    subst (λ ps. AreNodesOf g ps (nodes ++ [])) (sym (append-nil paths)) (subst (λ ns. AreNodesOf g paths ns) (sym (append-nil nodes)) are)
nodes_step g paths nodes None (Some n) are is = absurd is
nodes_step g paths nodes (Some path) None are is = absurd is
nodes_step g paths nodes (Some path) (Some n) are is = push_zip (λ p node. slice_get g.nodes node.0 ≡ Some p) paths nodes path n are is

-- a path keeps its number
pub place_more : (g h : RuleGraph) (node : ℕ) (path : Path) → HasMore g h → slice_get g.nodes node ≡ Some path → slice_get h.nodes node ≡ Some path
place_more g h node path more at = ap (λ (ns : List Path). slice_get ns node) more.nodes ∙ get_front g.nodes more.more node path at

-- nodes stay those of their paths as others are put behind
pub nodes_more : (g h : RuleGraph) (paths : List Path) (nodes : List NodeId) → HasMore g h → AreNodesOf g paths nodes → AreNodesOf h paths nodes
nodes_more g h [] [] more are = tt
nodes_more g h [] (n ∷ nodes) more are = absurd are
nodes_more g h (path ∷ paths) [] more are = absurd are
nodes_more g h (path ∷ paths) (n ∷ nodes) more are =
    (place_more g h n.0 path more are.0, nodes_more g h paths nodes more are.1)

-- one line more
pub meant_more : {A : Type 0} (g h : RuleGraph) (f : A → Option Path) (xs : List A) (i : ℕ) (x : A) (nodes new : List NodeId) (node : Option NodeId) → i < length xs → x ≡ get_or xs i x
    → HasMore g h → AreNodesOf g (filter_map f (take i xs)) nodes → IsNodeOf h (f x) node → new ≡ nodes ++ option_to_list node
    → AreNodesOf h (filter_map f (take (i + 1) xs)) new
meant_more g h f xs i x nodes new node within at more are is same =
    subst (λ ns. AreNodesOf h (filter_map f (take (i + 1) xs)) ns) (sym same)
    (subst (λ ps. AreNodesOf h ps (nodes ++ option_to_list node))
    (sym (ap (filter_map f) (take_more xs i x within ∙ ap (λ y. take i xs ++ y ∷ []) (sym at)) ∙ filter_map-append f (take i xs) (x ∷ [])))
    (nodes_step h (filter_map f (take i xs)) nodes (f x) node (nodes_more g h (filter_map f (take i xs)) nodes more are) is))

-- and all of them
pub meant_all : {A : Type 0} (g : RuleGraph) (f : A → Option Path) (xs : List A) (i : ℕ) (nodes : List NodeId) → length xs ≤ i → AreNodesOf g (filter_map f (take i xs)) nodes
    → AreNodesOf g (filter_map f xs) nodes
meant_all g f xs i nodes le are = subst (λ ys. AreNodesOf g (filter_map f ys) nodes) (take_all i xs le) are
