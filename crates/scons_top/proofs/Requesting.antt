-- Nodes of a graph among what is requested, also as the graph gets more of them.
use Rattle.std.proofs.Common.{◌≡◌, ◌∙◌, ◌<◌, ◌+◌, ◌++◌, ◌∷◌, ◌&&◌, [], ℕ, Bool, true, List, length, get_or, take, ap, refl, sym, subst, append_assoc, append-nil, arith}
use Rattle.std.specs.Prelude.{nat_lt}
use Rattle.std.proofs.lemmas.Bool.{lt-ltb, ltb-true}
use Rattle.std.proofs.lemmas.List.{map-append, take_more}
use Rattle.std.proofs.lemmas.List.Elements.{All-weaker, All-push, All-head, All-tail, All-append, All-cons, All-get_or, All-nil}
use Rattle.scons_base.specs.declared.ids.NodeId.{NodeId}
use Rattle.rule_graph.specs.Graphs.{RuleGraph}
use Rattle.rule_graph.specs.Rules.{are_below}
use Rattle.build_means.proofs.Lists.{and_both}
use Rattle.scons_top.specs.Asked.{words_asked}
use Rattle.scons_top.specs.Requested.{AreNodes, AsksForNodes, AskForNodes, HasMore, nodes_asked}
use Rattle.scons_top.specs.declared.requests.Request.{Request}

-- a graph that has more nodes

nodes_more : (g h : RuleGraph) (nodes : List NodeId) → HasMore g h → AreNodes g nodes → AreNodes h nodes
nodes_more g h nodes more all =
    let is_node = λ (k : RuleGraph) (node : NodeId). node.0 < length k.nodes in
    All-weaker (is_node g) (is_node h) (λ node below. omega arith) nodes all

asks_more : (g h : RuleGraph) (requests : List Request) → HasMore g h → AskForNodes g requests → AskForNodes h requests
asks_more g h requests more all =
    All-weaker (AsksForNodes g) (AsksForNodes h) (λ (request : Request) asks. nodes_more g h request.nodes.items more asks) requests all

-- one request more
pub asks_pushed : (g h : RuleGraph) (old new : List Request) (request : Request) → HasMore g h → new ≡ old ++ request ∷ []
    → AskForNodes g old → AsksForNodes h request → AskForNodes h new
asks_pushed g h old new request more same all one =
    subst (AskForNodes h) (sym same) (All-push (AsksForNodes h) old request (asks_more g h old more all) one)

-- what all of some requests stand for

asked_append : (front rest : List Request) → nodes_asked (front ++ rest) ≡ nodes_asked front ++ nodes_asked rest
asked_append [] rest = refl
asked_append (request ∷ front) rest = ap (λ l. request.nodes.items ++ l) (asked_append front rest) ∙ sym (append_assoc request.nodes.items (nodes_asked front) (nodes_asked rest))

pub asked_more : (requests : List Request) (i : ℕ) (d : Request) (old new : List NodeId) → i < length requests → old ≡ nodes_asked (take i requests)
    → new ≡ old ++ (get_or requests i d).nodes.items → new ≡ nodes_asked (take (i + 1) requests)
asked_more requests i d old new lt was is =
    is ∙ ap (λ l. l ++ (get_or requests i d).nodes.items) was
    ∙ sym (ap nodes_asked (take_more requests i d lt) ∙ asked_append (take i requests) (get_or requests i d ∷ [])
    ∙ ap (λ l. nodes_asked (take i requests) ++ l) (append-nil (get_or requests i d).nodes.items))

pub nodes_added : (g : RuleGraph) (requests : List Request) (i : ℕ) (d : Request) (old slice new : List NodeId) → i < length requests → d ≡ get_or requests i d
    → slice ≡ d.nodes.items → new ≡ old ++ slice → AskForNodes g requests → AreNodes g old → AreNodes g new
nodes_added g requests i d old slice new lt at of is asks before =
    let P = λ (node : NodeId). node.0 < length g.nodes in
    let one : AsksForNodes g d = subst (AsksForNodes g) (sym at) (All-get_or (AsksForNodes g) requests i d lt asks) in
    subst (AreNodes g) (sym is) (All-append P old slice before (subst (AreNodes g) (sym of) one))

-- the words of requests
pub words_pushed : (old new : List Request) (request : Request) (asked : List (List ℕ)) (i : ℕ) (word : List ℕ) → i < length asked → word ≡ get_or asked i word
    → new ≡ old ++ request ∷ [] → request.word ≡ word → words_asked old ≡ take i asked → words_asked new ≡ take (i + 1) asked
words_pushed old new request asked i word lt at is same was =
    ap words_asked is ∙ map-append (λ (r : Request). r.word) old (request ∷ [])
    ∙ ap (λ l. l ++ request.word ∷ []) was ∙ ap (λ w. take i asked ++ w ∷ []) (same ∙ at) ∙ sym (take_more asked i word lt)

-- as a test

both : (a b : Bool) → a ≡ true → b ≡ true → (a && b) ≡ true
both a b first second = rw (first, second) refl

pub are_below_all : (g : RuleGraph) (nodes : List NodeId) → AreNodes g nodes → are_below (length g.nodes) nodes ≡ true
are_below_all g [] all = refl
are_below_all g (node ∷ nodes) all =
    let P = λ (n : NodeId). n.0 < length g.nodes in
    both (nat_lt node.0 (length g.nodes)) (are_below (length g.nodes) nodes)
    (lt-ltb node.0 (length g.nodes) (All-head P node nodes all)) (are_below_all g nodes (All-tail P node nodes all))

pub all_below : (g : RuleGraph) (nodes : List NodeId) → are_below (length g.nodes) nodes ≡ true → AreNodes g nodes
all_below g [] all = All-nil (λ (n : NodeId). n.0 < length g.nodes)
all_below g (node ∷ nodes) all =
    let parts = and_both (nat_lt node.0 (length g.nodes)) (are_below (length g.nodes) nodes) all in
    All-cons (λ (n : NodeId). n.0 < length g.nodes) node nodes (ltb-true node.0 (length g.nodes) parts.0) (all_below g nodes parts.1)

-- the one at a place
pub below_at : (g : RuleGraph) (nodes : List NodeId) (i : ℕ) (d : NodeId) → i < length nodes → are_below (length g.nodes) nodes ≡ true → (get_or nodes i d).0 < length g.nodes
below_at g nodes i d lt all = All-get_or (λ (n : NodeId). n.0 < length g.nodes) nodes i d lt (all_below g nodes all)
