-- What the graph says of a rule, as it is taken in.
use Rattle.std.proofs.Common.{arith, ◌≡◌, ◌≤◌, ◌∙◌, ℕ, suc, ◌||◌, List, [], ◌∷◌, ◌++◌, Bool, true, false, ap, sym, refl, length, take, Some}
use Rattle.std.specs.Prelude.{slice_get, map, filter, nat_eq, unwrap_or, if◌then◌else◌}
use Rattle.std.specs.List.{flat_map}
use Rattle.std.proofs.lemmas.List.{take_all}
use Rattle.std.proofs.lemmas.Option.{slice_get_within, slice_get_past}
use Rattle.scons_base.specs.declared.ids.NodeId.{NodeId}
use Rattle.scons_base.specs.Parts.{suffix_of}
use Rattle.rule_graph.specs.declared.rule.Rule.{Rule}
use Rattle.rule_graph.specs.Graphs.{RuleGraph}
use Rattle.task_plan.specs.Named.{stands, put_all, ignored_of, sources_of, named_of, with_targets, left_out_of, is_scanned_node, scanned_of}
use Rattle.c_scanner.specs.Suffixes.{is_scanned_suffix}
use Rattle.task_plan.specs.Settled.{Kept, kept_of, first_kept}
use Rattle.task_plan.specs.Listed.{included, found_of, sources_in, IsWalked, IsListing}
use Rattle.task_plan.specs.Loaded.{IsBlank, NotesNeeds, IsTaskOf}
use Rattle.task_plan.specs.declared.reach.Reach.{Reach}
use Rattle.task_plan.specs.declared.task.Task.{Task}
use Rattle.task_plan.proofs.NamedLemmas.{filter_stands, stands_longer, put_all_longer, put_all_there}
use Rattle.task_plan.proofs.WalkLemmas.{put_all_from, node_same}
use Rattle.task_plan.proofs.ListLemmas.{longer_trans}

no_includes : (files : List NodeId) → flat_map (included []) files ≡ []
no_includes [] = refl
no_includes (n ∷ files) = no_includes files

-- nothing was scanned: the files are the sources
walked_first : (r : Reach) → r.sources ≡ length r.files.keys → r.found.entries ≡ [] → IsWalked r
walked_first r e f =
    let own : sources_in r ≡ r.files.keys = take_all r.sources r.files.keys (omega arith) in
    let none : found_of r ≡ [] = ap (map (λ y. (y.0, y.1.items))) f in
    record {
      reach = rw (own, none) (record {
        whole = sym (ap (put_all r.excluded.keys r.files.keys) (no_includes r.files.keys));
        earlier = λ n file at le. absurd (let lt = slice_get_within r.files.keys n file at in omega arith);
      });
      ahead = record { each = λ n file at le. rw f refl };
    }

stands_head : (b : Bool) (xs ys : List NodeId) (y n : NodeId) → nat_eq n.0 y.0 ≡ b → stands xs y ≡ true → (stands ys n ≡ true → stands xs n ≡ true) → (b || stands ys n) ≡ true → stands xs n ≡ true
stands_head true xs ys y n e at f h = ap (stands xs) (node_same n y e) ∙ at
stands_head false xs ys y n e at f h = f h

stands_each : (ys xs : List NodeId) (n : NodeId) → ((i : ℕ) (x : NodeId) → slice_get ys i ≡ Some x → stands xs x ≡ true) → stands ys n ≡ true → stands xs n ≡ true
stands_each [] xs n f h = absurd (cc)
stands_each (y ∷ ys) xs n f h = stands_head (nat_eq n.0 y.0) xs ys y n refl (f 0 y refl) (stands_each ys xs n (λ i x at. f (suc i) x at)) h

all_from : (xs : List NodeId) (n : NodeId) → stands (put_all [] [] xs) n ≡ true → stands xs n ≡ true
all_from xs n h = stands_each (put_all [] [] xs) xs n (λ i x at. put_all_from [] [] xs x i (omega arith) at) h

scanned_named_by : (b : Bool) (graph : RuleGraph) (rule : Rule) (n : NodeId)
    → stands (if b then put_all [] [] (filter (is_scanned_node graph) (sources_of rule)) else []) n ≡ true → stands (named_of rule) n ≡ true
scanned_named_by true graph rule n h =
    let source : stands (sources_of rule) n ≡ true = filter_stands (is_scanned_node graph) n (sources_of rule) (all_from (filter (is_scanned_node graph) (sources_of rule)) n h) in
    let first = put_all_longer (ignored_of rule) (sources_of rule) rule.depends in
    let second = put_all_longer (ignored_of rule) (put_all (ignored_of rule) (sources_of rule) rule.depends) rule.libs in
    stands_longer (sources_of rule) (named_of rule) n (longer_trans (sources_of rule) (put_all (ignored_of rule) (sources_of rule) rule.depends) (named_of rule) first second) source
scanned_named_by false graph rule n h = absurd (cc)

-- the sources that are scanned are among the dependencies that a rule names
pub scanned_named : (graph : RuleGraph) (rule : Rule) (n : NodeId) → stands (scanned_of graph rule) n ≡ true → stands (named_of rule) n ≡ true
scanned_named graph rule n h = scanned_named_by rule.scans graph rule n h

abbrev kept_with : List NodeId → List NodeId → List NodeId → List NodeId → List NodeId → List NodeId → List NodeId → List (NodeId × List NodeId) → Bool → Kept
kept_with y a b c d e f g h = record { targets = y; required = a; named = b; sources = c; left_out = d; deps = e; files = f; found = g; whole = h }

same_kept : (y z a b c d e f i j k l m n : List NodeId) (g o : List (NodeId × List NodeId)) (h p : Bool) → y ≡ z → a ≡ i → b ≡ j → c ≡ k → d ≡ l → e ≡ m → f ≡ n → g ≡ o → h ≡ p
    → kept_with y a b c d e f g h ≡ kept_with z i j k l m n o p
same_kept y z a b c d e f i j k l m n g o h p y_is q r s t u v w x = rw (y_is, q, r, s, t, u, v, w, x) refl

-- a rule's lists where nothing was scanned
first_listing : (graph : RuleGraph) (rule : Rule) (c : Task) → c.deps.keys ≡ named_of rule → c.named ≡ length (named_of rule) → take c.named c.deps.keys ≡ named_of rule → c.reach.files.keys ≡ scanned_of graph rule
    → c.reach.sources ≡ length (scanned_of graph rule) → c.reach.found.entries ≡ [] → IsListing c
first_listing graph rule c deps named first files sources found =
    let k : length c.deps.keys ≡ length (named_of rule) = ap length deps in
    let l : length c.reach.files.keys ≡ length (scanned_of graph rule) = ap length files in
    let there : put_all [] (named_of rule) (scanned_of graph rule) ≡ named_of rule = put_all_there (named_of rule) (scanned_of graph rule) (scanned_named graph rule) in
    let own : put_all [] (take c.named c.deps.keys) c.reach.files.keys ≡ put_all [] (named_of rule) (scanned_of graph rule) =
    ap (λ (ys : List NodeId). put_all [] ys c.reach.files.keys) first ∙ ap (λ (ys : List NodeId). put_all [] (named_of rule) ys) files in
    let all : c.deps.keys ≡ put_all [] (take c.named c.deps.keys) c.reach.files.keys = deps ∙ sym there ∙ sym own in
    let walked : IsWalked c.reach = walked_first c.reach (sources ∙ sym l) found in
    listing_of c (named ∙ sym k) (sources ∙ sym l) all walked
  where
    listing_of : (c : Task) → c.named ≡ length c.deps.keys → c.reach.sources ≡ length c.reach.files.keys → c.deps.keys ≡ put_all [] (take c.named c.deps.keys) c.reach.files.keys → IsWalked c.reach → IsListing c
    listing_of c n s d w = record { named = omega arith; sources = omega arith; listed = λ h. record { deps = d; reach = w } }

-- the needs were noted, and then the targets
pub task_loaded : (graph : RuleGraph) (rule : Rule) (b c : Task) → NotesNeeds graph rule b
    → c ≡ record b { targets = c.targets; reach = record b.reach { excluded = c.reach.excluded } } → c.targets.items ≡ b.targets.items ++ rule.targets → c.reach.excluded.keys ≡ with_targets rule b.reach.excluded.keys
    → IsTaskOf graph rule c
task_loaded graph rule b c n e t x =
    let req : c.required.items ≡ rule.required = ap (λ (y : Task). y.required.items) e ∙ n.required in
    let dep : c.deps.keys ≡ named_of rule = ap (λ (y : Task). y.deps.keys) e ∙ n.deps in
    let nam : c.named ≡ length (named_of rule) = ap (λ (y : Task). y.named) e ∙ n.named in
    let fil : c.reach.files.keys ≡ scanned_of graph rule = ap (λ (y : Task). y.reach.files.keys) e ∙ n.files in
    let src : c.reach.sources ≡ length (scanned_of graph rule) = ap (λ (y : Task). y.reach.sources) e ∙ n.sources in
    let ent : c.reach.found.entries ≡ [] = ap (λ (y : Task). y.reach.found.entries) e ∙ n.found in
    let lis : c.is_listed ≡ true = ap (λ (y : Task). y.is_listed) e ∙ n.listed in
    let out : c.reach.excluded.keys ≡ left_out_of rule = x ∙ ap (with_targets rule) n.excluded in
    let first : take c.named c.deps.keys ≡ named_of rule = ap (take c.named) dep ∙ take_by c.named (named_of rule) nam in
    let own : take c.reach.sources c.reach.files.keys ≡ scanned_of graph rule = ap (take c.reach.sources) fil ∙ take_by c.reach.sources (scanned_of graph rule) src in
    let none : found_of c.reach ≡ [] = ap (map (λ y. (y.0, y.1.items))) ent in
    let targets : c.targets.items ≡ rule.targets = t ∙ ap (λ (ys : List NodeId). ys ++ rule.targets) n.targets in
    let kept : kept_of c ≡ first_kept graph rule = same_kept _ _ _ _ _ _ _ _ _ _ _ _ _ _ _ _ _ _ targets req first own out dep fil none lis in
    let listing : IsListing c = first_listing graph rule c dep nam first fil src ent in
    let passed : c.passed ≡ 0 = ap (λ (y : Task). y.passed) e ∙ n.passed in
    let whole : c.reach.whole ≡ 0 = ap (λ (y : Task). y.reach.whole) e ∙ n.whole in
    is_task c passed whole targets kept listing
  where
    take_by : (n : ℕ) (xs : List NodeId) → n ≡ length xs → take n xs ≡ xs
    take_by n xs e = take_all n xs (omega arith)

    is_task : (c : Task) → c.passed ≡ 0 → c.reach.whole ≡ 0 → c.targets.items ≡ rule.targets → kept_of c ≡ first_kept graph rule → IsListing c → IsTaskOf graph rule c
    is_task c p w t k l = record { passed = p; whole = w; targets = t; kept = k; listing = l }

-- nothing was noted of a rule
pub listing_blank : (t : Task) → IsBlank t → IsListing t
listing_blank t b = record {
  named = let n = b.named in omega arith;
  sources = let n = b.reach.sources in omega arith;
  listed = λ h. record {
    deps = b.deps ∙ sym (ap (put_all [] (take t.named t.deps.keys)) b.reach.files ∙ ap (take t.named) b.deps ∙ nothing t.named);
    reach = walked_first t.reach (b.reach.sources ∙ sym (ap length b.reach.files)) b.reach.found;
  };
}
  where
    nothing : (n : ℕ) → take n (let none : List NodeId = [] in none) ≡ []
    nothing n = take_all n [] (omega arith)

-- whether a node is scanned, by its path
pub node_scanned : (g : RuleGraph) (n : NodeId) (path : List ℕ) (b : Bool) → slice_get g.nodes n.0 ≡ Some path → b ≡ is_scanned_suffix (suffix_of path) → b ≡ is_scanned_node g n
unfolding is_scanned_node
node_scanned g n path b e h = h ∙ ap (λ o. is_scanned_suffix (suffix_of (unwrap_or o []))) (sym e)

-- what is no node isn't scanned
pub node_past : (g : RuleGraph) (n : NodeId) → length g.nodes ≤ n.0 → false ≡ is_scanned_node g n
unfolding is_scanned_node
node_past g n le = ap (λ o. is_scanned_suffix (suffix_of (unwrap_or o []))) (sym (slice_get_past g.nodes n.0 le))
