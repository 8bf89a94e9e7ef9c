-- What a plan takes of a rule, by paths.
use Rattle.std.proofs.Common.{◌≡◌, ◌<◌, ◌≤◌, ℕ, zero, suc, Bool, true, false, ◌||◌, ◌&&◌, List, [], ◌∷◌, ◌++◌, length, map, Option, Some, None, refl, sym, ap, ◌∙◌, inl, inr, ◌⊎◌}
use Rattle.std.specs.Prelude.{slice_get, nat_eq, nat_lt, filter, if◌then◌else◌}
use Rattle.std.specs.Option.{option_map}
use Rattle.std.specs.List.{list_all}
use Rattle.std.proofs.lemmas.Bool.Decides.{Decides-eqb}
use Rattle.std.proofs.lemmas.List.{map-append}
use Rattle.std.proofs.lemmas.List.Folds.{list_any-append, list_all-append}
use Rattle.std.proofs.lemmas.Option.{slice_get_past}
use Rattle.scons_base.specs.declared.ids.NodeId.{NodeId}
use Rattle.world_api.specs.declared.job.Work.{Work}
use Rattle.world_api.specs.declared.job.Work.TheVariants.{Shell, Copy, Write}
use Rattle.rule_graph.specs.declared.rule.Rule as declared
use Rattle.rule_graph.specs.Graphs.{RuleGraph, path_of}
use Rattle.rule_graph.specs.Rules.{are_below, IsRule}
use Rattle.build_model.specs.Rules.{Path, Among, here, there}
use Rattle.build_model.specs.Reach.{has, unseen, those, kept_sources, declared as declared_paths, first_scanned, left_out}
use Rattle.build_model.proofs.Lists.{true_false, none_some, some_same, has_among, among_has, unseen_in}
use Rattle.build_means.specs.Rules.{IsReading, paths_of, keeps_sources, is_scanned_path, rule_in}
use Rattle.build_means.specs.Grown.{Begun, IsGrown, copy_in, or_copy_in}
use Rattle.build_means.proofs.Lists.{at_place}
use Rattle.task_plan.specs.Named.{stands, put, put_all, is_shell, ignored_of, sources_of, named_of, is_scanned_node, scanned_of}
use Rattle.task_plan.proofs.NamedLemmas.{put_all-append}
use Rattle.task_plan.proofs.ListLemmas.{and_both, get-front}
use Rattle.task_plan.proofs.MetNeeds.{all_put_all}
use Rattle.plan_means.specs.Names.{AreNames, IsNamed, IsCopyNamed}
use Rattle.plan_means.proofs.Seen.{or_nothing, or_swap, has_append, has_stands, put_paths}

or_this : (s e : Bool) → (e ≡ true → s ≡ true) → s ≡ (s || e)
or_this true e f = refl
or_this false true f = f refl
or_this false false f = refl

or_assoc : (a b c : Bool) → ((a || b) || c) ≡ (a || (b || c))
or_assoc true b c = refl
or_assoc false b c = refl

node_is : (n x : NodeId) → nat_eq n.0 x.0 ≡ true → x ≡ n
node_is n x e = let same : n.0 ≡ x.0 = (Decides-eqb n.0 x.0).0 e in ap
    (λ (k : ℕ). let y : NodeId = record { 0 = k } in y) (sym same)

stands_put_by : (before : List NodeId) (n x : NodeId) (s : Bool) → stands before x ≡ s →
    stands (if s then before else before ++ x ∷ []) n ≡ (stands before n || nat_eq n.0 x.0)
stands_put_by before n x true e = or_this (stands before n) (nat_eq n.0 x.0)
    (λ same. ap (stands before) (sym (node_is n x same)) ∙ e)
stands_put_by before n x false e =
    list_any-append (λ m. nat_eq n.0 m.0) before (x ∷ []) ∙ ap (λ c. stands before n || c) (or_nothing (nat_eq n.0 x.0))

-- what stands among nodes that are put behind others
pub stands_all : (before nodes : List NodeId) (n : NodeId) →
    stands (put_all [] before nodes) n ≡ (stands before n || stands nodes n)
stands_all before [] n = sym (or_nothing (stands before n))
stands_all before (x ∷ nodes) n =
    stands_all (put [] before x) nodes n
    ∙ ap (λ c. c || stands nodes n) (stands_put_by before n x (stands before x) refl)
    ∙ or_assoc (stands before n) (nat_eq n.0 x.0) (stands nodes n)

those_none : (ps : List Path) → those [] ps ≡ []
those_none [] = refl
those_none (p ∷ ps) = those_none ps

module _ (test : Path → Bool) where
  has_passing : (p : Path) (ps : List Path) → Among p ps → (c : Bool) → has p (filter test ps) ≡ c → (d : Bool) →
      test p ≡ d → c ≡ d
  has_passing p ps m true e true f = refl
  has_passing p ps m false e false f = refl
  has_passing p ps m true e false f = absurd (true_false (sym (passes p ps (has_among p (filter test ps) e)) ∙ f))
    where
      passes_by : (p q : Path) (qs : List Path) (d : Bool) → test q ≡ d →
          Among p (if d then q ∷ filter test qs else filter test qs) → (Among p (filter test qs) → test p ≡ true) →
          test p ≡ true
      passes_by p q qs true e here next = e
      passes_by p q qs true e (there m) next = next m
      passes_by p q qs false e m next = next m

      passes : (p : Path) (ps : List Path) → Among p (filter test ps) → test p ≡ true
      passes p [] m = elim m [ ]
      passes p (q ∷ qs) m = passes_by p q qs (test q) refl m (passes p qs)
  has_passing p ps m false e true f = absurd (true_false (sym (among_has (stays p ps m f)) ∙ e))
    where
      keeps : (p q : Path) (qs : List Path) (d : Bool) → Among p (filter test qs) →
          Among p (if d then q ∷ filter test qs else filter test qs)
      keeps p q qs true m = there m
      keeps p q qs false m = m

      first : (p : Path) (qs : List Path) (d : Bool) → d ≡ true →
          Among p (if d then p ∷ filter test qs else filter test qs)
      first p qs true e = here
      first p qs false e = true_false (sym e)

      stays : (p : Path) (ps : List Path) → Among p ps → test p ≡ true → Among p (filter test ps)
      stays p [] m f = elim m [ ]
      stays p (q ∷ qs) here f = first p qs (test p) f
      stays p (q ∷ qs) (there m) f = keeps p q qs (test q) (stays p qs m f)

  those_by : (p : Path) (ps ks : List Path) (c d : Bool) → c ≡ d → those (filter test ps) ks ≡ filter test ks →
      (if c then p ∷ those (filter test ps) ks else those (filter test ps) ks) ≡ (if d then p ∷ filter test ks else
      filter test ks)
  those_by p ps ks true true e f = ap (λ l. p ∷ l) f
  those_by p ps ks false false e f = f
  those_by p ps ks true false e f = true_false e
  those_by p ps ks false true e f = true_false (sym e)

  those_passing : (ps ks : List Path) → ((p : Path) → Among p ks → Among p ps) →
      those (filter test ps) ks ≡ filter test ks
  those_passing ps [] h = refl
  those_passing ps (k ∷ ks) h =
      those_by k ps ks (has k (filter test ps)) (test k) (has_passing k ps (h k here) (has k (filter test ps)) refl
      (test k) refl)
      (those_passing ps ks (λ p m. h p (there m)))

  pass_new : (p : Path) (ps seen out : List Path) (d c : Bool) → has p seen ≡ c → (c ≡ true → ⊥) →
      unseen (p ∷ seen) (filter test (unseen (p ∷ out) ps)) ≡ filter test (unseen (p ∷ out) ps) →
      unseen seen (filter test (unseen (p ∷ out) ps)) ≡ filter test (unseen (p ∷ out) ps) →
      unseen seen (if d then p ∷ filter test (unseen (p ∷ out) ps) else filter test (unseen (p ∷ out) ps))
      ≡ (if d then p ∷ filter test (unseen (p ∷ out) ps) else filter test (unseen (p ∷ out) ps))
  pass_new p ps seen out true true e new more stay = absurd (new refl)
  pass_new p ps seen out true false e new more stay =
      ap (λ c. if c then unseen seen (filter test (unseen (p ∷ out) ps)) else p ∷ unseen (p ∷ seen)
      (filter test (unseen (p ∷ out) ps))) e
      ∙ ap (λ l. p ∷ l) more
  pass_new p ps seen out false c e new more stay = stay

  seen_first : (p : Path) (seen out : List Path) → ((q : Path) → Among q seen → Among q out) → (q : Path) →
      Among q (p ∷ seen) → Among q (p ∷ out)
  seen_first p seen out h q here = here
  seen_first p seen out h q (there m) = there (h q m)

  unseen_passing_by : (p : Path) (ps seen out : List Path) (b : Bool) → has p out ≡ b →
      ((q : Path) → Among q seen → Among q out) →
      unseen seen (filter test (unseen out ps)) ≡ filter test (unseen out ps) →
      unseen (p ∷ seen) (filter test (unseen (p ∷ out) ps)) ≡ filter test (unseen (p ∷ out) ps) →
      unseen seen (filter test (unseen (p ∷ out) ps)) ≡ filter test (unseen (p ∷ out) ps) →
      unseen seen (filter test (if b then unseen out ps else p ∷ unseen (p ∷ out) ps)) ≡ filter test
      (if b then unseen out ps else p ∷ unseen (p ∷ out) ps)
  unseen_passing_by p ps seen out true e h same more stay = same
  unseen_passing_by p ps seen out false e h same more stay =
      pass_new p ps seen out (test p) (has p seen) refl (λ s. true_false
      (sym (among_has (h p (has_among p seen s))) ∙ e)) more stay

  -- paths that stand once and pass a test stand once
  unseen_passing : (ps seen out : List Path) → ((q : Path) → Among q seen → Among q out) →
      unseen seen (filter test (unseen out ps)) ≡ filter test (unseen out ps)
  unseen_passing [] seen out h = refl
  unseen_passing (p ∷ ps) seen out h =
      unseen_passing_by p ps seen out (has p out) refl h
      (unseen_passing ps seen out h) (unseen_passing ps (p ∷ seen) (p ∷ out) (seen_first p seen out h))
      (unseen_passing ps seen (p ∷ out) (λ q m. there (h q m)))

filter_paths_by : (f : NodeId → Path) (test : Path → Bool) (own : NodeId → Bool) (n : NodeId) (nodes : List NodeId)
    (b c : Bool) → b ≡ c →
    map f (filter own nodes) ≡ filter test (map f nodes) →
    map f (if b then n ∷ filter own nodes else filter own nodes) ≡ (if c then f n ∷ filter test (map f nodes) else
    filter test (map f nodes))
filter_paths_by f test own n nodes true true e h = ap (λ l. f n ∷ l) h
filter_paths_by f test own n nodes false false e h = h
filter_paths_by f test own n nodes true false e h = true_false e
filter_paths_by f test own n nodes false true e h = true_false (sym e)

filter_paths : (f : NodeId → Path) (test : Path → Bool) (own : NodeId → Bool) → ((n : NodeId) → own n ≡ test (f n)) →
    (nodes : List NodeId) →
    map f (filter own nodes) ≡ filter test (map f nodes)
filter_paths f test own same [] = refl
filter_paths f test own same (n ∷ nodes) = filter_paths_by f test own n nodes (own n) (test (f n)) (same n)
    (filter_paths f test own same nodes)

all_passing_by : (own test : NodeId → Bool) (n : NodeId) (nodes : List NodeId) (b c : Bool) →
    (c && list_all own nodes) ≡ true → own n ≡ c →
    (list_all own nodes ≡ true → list_all own (filter test nodes) ≡ true) →
    list_all own (if b then n ∷ filter test nodes else filter test nodes) ≡ true
all_passing_by own test n nodes true true h e next = and_both (own n) (list_all own (filter test nodes)) e (next h)
all_passing_by own test n nodes false true h e next = next h
all_passing_by own test n nodes b false h e next = true_false (sym h)

all_passing : (own test : NodeId → Bool) (nodes : List NodeId) → list_all own nodes ≡ true →
    list_all own (filter test nodes) ≡ true
all_passing own test [] h = refl
all_passing own test (n ∷ nodes) h = all_passing_by own test n nodes (test n) (own n) h refl
    (all_passing own test nodes)

pub scanned_node : (g : RuleGraph) (n : NodeId) → is_scanned_node g n ≡ is_scanned_path (path_of g.nodes n)
unfolding is_scanned_node is_scanned_path
scanned_node g n = refl

module _ (g : RuleGraph) (reading : IsReading g) (r : declared.Rule) (is : IsRule (length g.nodes) r) where
  ignored_stands : (n : NodeId) → stands (ignored_of r) n ≡ stands r.ignored n
  ignored_stands n = stands_all [] r.ignored n

  ignored_seen : (n : NodeId) → n.0 < length g.nodes →
      has (path_of g.nodes n) (paths_of g r.ignored) ≡ stands (ignored_of r) n
  ignored_seen n lt = has_stands g reading r.ignored n is.ignored lt ∙ sym (ignored_stands n)

  sources_paths_by : (w : Work) → paths_of g (put_all (if is_shell w then ignored_of r else []) [] r.sources)
      ≡ unseen (if keeps_sources w then [] else paths_of g r.ignored) (paths_of g r.sources)
  sources_paths_by Shell =
      put_paths g reading (ignored_of r) [] r.sources (paths_of g r.ignored) is.sources
      (λ n lt. ignored_seen n lt ∙ sym (or_nothing (stands (ignored_of r) n)))
  sources_paths_by Copy = put_paths g reading [] [] r.sources [] is.sources (λ n lt. refl)
  sources_paths_by Write = put_paths g reading [] [] r.sources [] is.sources (λ n lt. refl)

  -- the sources that are dependencies
  pub sources_paths : paths_of g (sources_of r) ≡ kept_sources (rule_in g r)
  sources_paths = sources_paths_by r.work

  below_put : (out before nodes : List NodeId) → are_below (length g.nodes) before ≡ true →
      are_below (length g.nodes) nodes ≡ true → are_below (length g.nodes) (put_all out before nodes) ≡ true
  below_put out before nodes h k = all_put_all (λ t. nat_lt t.0 (length g.nodes)) out before nodes h k

  pub sources_below : are_below (length g.nodes) (sources_of r) ≡ true
  sources_below = below_put (if is_shell r.work then ignored_of r else []) [] r.sources refl is.sources

  rest_below : are_below (length g.nodes) (r.depends ++ r.libs) ≡ true
  rest_below =
      list_all-append (λ t. nat_lt t.0 (length g.nodes)) r.depends r.libs
      ∙ and_both (are_below (length g.nodes) r.depends) (are_below (length g.nodes) r.libs) is.depends is.libs

  named_all : named_of r ≡ put_all (ignored_of r) (sources_of r) (r.depends ++ r.libs)
  named_all = sym (put_all-append (ignored_of r) (sources_of r) r.depends r.libs)

  pub named_below : are_below (length g.nodes) (named_of r) ≡ true
  named_below = ap (are_below (length g.nodes)) named_all ∙ below_put (ignored_of r) (sources_of r)
      (r.depends ++ r.libs) sources_below rest_below

  named_seen : (n : NodeId) → n.0 < length g.nodes →
      has (path_of g.nodes n) (kept_sources (rule_in g r) ++ paths_of g r.ignored) ≡ (stands (ignored_of r)
      n || stands (sources_of r) n)
  named_seen n lt =
      has_append (path_of g.nodes n) (kept_sources (rule_in g r)) (paths_of g r.ignored)
      ∙ ap (λ l. has (path_of g.nodes n) l || has (path_of g.nodes n) (paths_of g r.ignored)) (sym sources_paths)
      ∙ ap (λ c. c || has (path_of g.nodes n) (paths_of g r.ignored))
      (has_stands g reading (sources_of r) n sources_below lt)
      ∙ ap (λ c. stands (sources_of r) n || c) (ignored_seen n lt)
      ∙ or_swap (stands (sources_of r) n) (stands (ignored_of r) n)

  -- the dependencies that a rule names
  pub named_paths : paths_of g (named_of r) ≡ declared_paths (rule_in g r)
  named_paths =
      ap (paths_of g) named_all
      ∙ put_paths g reading (ignored_of r) (sources_of r) (r.depends ++ r.libs)
      (kept_sources (rule_in g r) ++ paths_of g r.ignored) rest_below named_seen
      ∙ ap (λ l. l ++ unseen (kept_sources (rule_in g r) ++ paths_of g r.ignored) (paths_of g (r.depends ++ r.libs)))
      sources_paths
      ∙ ap (λ l. kept_sources (rule_in g r) ++ unseen (kept_sources (rule_in g r) ++ paths_of g r.ignored) l)
      (map-append (path_of g.nodes) r.depends r.libs)

  scanned_below_by : (b : Bool) →
      are_below (length g.nodes) (if b then put_all [] [] (filter (is_scanned_node g) (sources_of r)) else []) ≡ true
  scanned_below_by true =
      below_put [] [] (filter (is_scanned_node g) (sources_of r)) refl
      (all_passing (λ t. nat_lt t.0 (length g.nodes)) (is_scanned_node g) (sources_of r) sources_below)
  scanned_below_by false = refl

  pub scanned_below : are_below (length g.nodes) (scanned_of g r) ≡ true
  scanned_below = scanned_below_by r.scans

  scanned_paths_by : (b : Bool) → paths_of g (if b then put_all [] [] (filter (is_scanned_node g) (sources_of r))
      else [])
      ≡ those (if b then filter is_scanned_path (paths_of g r.sources) else []) (kept_sources (rule_in g r))
  scanned_paths_by false = sym (those_none (kept_sources (rule_in g r)))
  scanned_paths_by true =
      put_paths g reading [] [] (filter (is_scanned_node g) (sources_of r)) []
      (all_passing (λ t. nat_lt t.0 (length g.nodes)) (is_scanned_node g) (sources_of r) sources_below) (λ n lt. refl)
      ∙ ap (unseen []) (filter_paths (path_of g.nodes) is_scanned_path (is_scanned_node g) (scanned_node g)
      (sources_of r) ∙ ap (filter is_scanned_path) sources_paths)
      ∙ unseen_passing is_scanned_path (paths_of g r.sources) []
      (if keeps_sources r.work then [] else paths_of g r.ignored) (λ q m. elim m [ ])
      ∙ sym (those_passing is_scanned_path (paths_of g r.sources) (kept_sources (rule_in g r))
      (λ p m. (unseen_in (if keeps_sources r.work then [] else paths_of g r.ignored) (paths_of g r.sources) m).0))

  -- the sources that are scanned
  pub scanned_paths : paths_of g (scanned_of g r) ≡ first_scanned (rule_in g r)
  scanned_paths = scanned_paths_by r.scans

  left_out_by : (b : Bool) → b ≡ true → (n : NodeId) → n.0 < length g.nodes →
      stands (if b then put_all [] (ignored_of r) r.targets else ignored_of r) n ≡ has (path_of g.nodes n)
      (left_out (rule_in g r))
  left_out_by false e n lt = true_false (sym e)
  left_out_by true e n lt =
      stands_all (ignored_of r) r.targets n
      ∙ or_swap (stands (ignored_of r) n) (stands r.targets n)
      ∙ ap (λ c. c || stands (ignored_of r) n) (sym (has_stands g reading r.targets n is.targets lt))
      ∙ ap (λ c. has (path_of g.nodes n) (paths_of g r.targets) || c) (sym (ignored_seen n lt))
      ∙ sym (has_append (path_of g.nodes n) (paths_of g r.targets) (paths_of g r.ignored))

  pub names : AreNames g r (rule_in g r)
  names =
      record {
        targets = refl;
        required = refl;
        named = named_paths;
        scanned = scanned_paths;
        left_out = left_out_by
            r.scans;
      }

  pub copy_names : AreNames g r (copy_in g r)
  copy_names =
      record {
        targets = refl;
        required = refl;
        named = named_paths;
        scanned = scanned_paths;
        left_out = left_out_by
            r.scans;
      }

either_part : {A : Type 0} (xs ys : List A) (i : ℕ) (x : A) → slice_get (xs ++ ys) i ≡ Some x →
    (slice_get xs i ≡ Some x) ⊎ ((slice_get xs i ≡ None) × Among x ys)
either_part [] ys i x e = inr (refl, at_place ys i e)
either_part (z ∷ xs) ys zero x e = inl e
either_part (z ∷ xs) ys (suc i) x e = either_part xs ys i x e

module _ (b : Begun) (g : RuleGraph) (grown : IsGrown b g) where
  rule_there : (number : ℕ) (of x : declared.Rule) → slice_get g.rules number ≡ Some of →
      slice_get b.graph.rules number ≡ Some x → x ≡ of
  rule_there number of x at e =
      some_same (sym
      (ap (λ rules. slice_get rules number) grown.rules ∙ get-front b.graph.rules grown.copies number x e) ∙ at)

  named_by : IsReading g → (number : ℕ) (of : declared.Rule) → slice_get g.rules number ≡ Some of →
      (o : Option declared.Rule) →
      slice_get b.graph.rules number ≡ o → IsNamed b g number of
  named_by reading number of at (Some x) e =
      record {
        rule = rule_in g of;
        is = ap (λ o. or_copy_in g o (slice_get g.rules number)) e
            ∙ ap (λ y. Some (rule_in g y)) (rule_there number of x at e);
        names = names g reading of (reading.named.each_rule number of at);
      }
  named_by reading number of at None e =
      record {
        rule = copy_in g of;
        is = ap (λ o. or_copy_in g o (slice_get g.rules number)) e ∙ ap (option_map (copy_in g)) at;
        names = copy_names g reading of (reading.named.each_rule number of at);
      }

  pub is_named : IsReading g → (number : ℕ) (of : declared.Rule) → slice_get g.rules number ≡ Some of →
      IsNamed b g number of
  is_named reading number of at = named_by reading number of at (slice_get b.graph.rules number) refl

  copy_by : (number : ℕ) (of : declared.Rule) → length b.graph.rules ≤ number → slice_get g.rules number ≡ Some of →
      (slice_get b.graph.rules number ≡ Some of) ⊎ ((slice_get b.graph.rules number ≡ None) × Among of
      grown.copies) → IsCopyNamed b g number of
  copy_by number of past at (inl e) = none_some (sym (slice_get_past b.graph.rules number past) ∙ e)
  copy_by number of past at (inr h) =
      let copy = grown.each_copy of h.1 in
      record {
        path = copy.path;
        source = copy.source;
        is = ap (λ o. or_copy_in g o (slice_get g.rules number)) h.0 ∙ ap (option_map (copy_in g)) at ∙ ap Some copy.is;
        targets = ap (λ r. r.targets) copy.is;
        sources = ap (λ r. r.sources) copy.is;
      }

  pub is_copy : (number : ℕ) (of : declared.Rule) → length b.graph.rules ≤ number →
      slice_get g.rules number ≡ Some of → IsCopyNamed b g number of
  is_copy number of past at =
      copy_by number of past at (either_part b.graph.rules grown.copies number of
      (sym (ap (λ rules. slice_get rules number) grown.rules) ∙ at))

-- a rule that doesn't scan has no sources that are scanned
pub unscanned_sources : (g : RuleGraph) (of : declared.Rule) → of.scans ≡ false → scanned_of g of ≡ []
unscanned_sources g of e = ap (λ c. if c then put_all [] [] (filter (is_scanned_node g) (sources_of of)) else []) e
