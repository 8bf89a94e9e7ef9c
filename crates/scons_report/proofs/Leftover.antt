-- A leftover copy is no target: no rule makes it, and it isn't copied.
use Rattle.std.proofs.Common.{◌≡◌, ◌<◌, ◌∙◌, ◌||◌, ◌&&◌, not, ℕ, zero, suc, arith, Bool, true, false, List, [], ◌∷◌, Contains, length, Option, Some, None, refl, sym, subst, ap, lt-ltb, option_map, ◌++◌, ◌+◌, take, get_or}
use Rattle.std.proofs.lemmas.List.{take_more}
use Rattle.std.proofs.lemmas.List.Folds.{list_any-append}
use Rattle.std.specs.Prelude.{slice_get, nat_lt, is_some, if◌then◌else◌}
use Rattle.std.specs.List.{list_any}
use Rattle.std.specs.Option.{option_and_then}
use Rattle.std.specs.Str.{bytes_eq}
use Rattle.std.proofs.lemmas.Option.{slice_get_within}
use Rattle.std.proofs.lemmas.Slice.Eq.{bytes_eq-Decides}
use Rattle.node_tree.specs.Nodes.{number_of}
use Rattle.variant_dirs.specs.Variants.{variant_of, source_of}
use Rattle.variant_dirs.specs.declared.variants.Variant.{Variant}
use Rattle.world_api.specs.Around.{Around}
use Rattle.world_api.specs.declared.hash.Hash.{Hash}
use Rattle.rule_graph.specs.declared.rule.Rule as declared
use Rattle.rule_graph.specs.Graphs.{RuleGraph}
use Rattle.rule_graph.specs.Rules.{rule_of}
use Rattle.sign_store.specs.Tables.{Map}
use Rattle.build_model.specs.Rules.{Path, Content, Tree}
use Rattle.build_model.specs.Graphs.{copy_rule}
use Rattle.build_model.proofs.Lists.{true_false, none_some}
use Rattle.build_means.specs.Copies as means
use Rattle.build_means.specs.Grown.{begun_setting}
use Rattle.build_means.specs.Laws.{or_copied}
use Rattle.build_means.specs.Rules.{IsReading, rule_in, rule_with, is_declared as declared_there}
use Rattle.build_means.proofs.Readings.{rule_is}
use Rattle.build_files.specs.Kept.{past}
use Rattle.build_files.specs.Leftovers.{is_made, has_rule, has_copies, is_copied, is_source, is_declared, declared_for, is_before, source_among, copied_from, stands, IsLeftover}
use Rattle.build_files.specs.Leftovers.{AreLeftovers}
use Rattle.build_files.proofs.Left.{left_before, left_on}
use Rattle.sign_store.specs.Copies.{IsCopyIn}
use Rattle.deciders.specs.declared.recorded.Rec.{Rec}
use Rattle.world_api.specs.Calls.{Asks}
use Rattle.scons_report.specs.Dry.{begun_past, IsLeftoverAt, AreGone}
use Rattle.indexmap.specs.IndexSet.{insert_key}
use Rattle.scons_report.specs.Overs.{AreTargetsOf, among_paths}

copies_same : (o : Option Variant) → has_copies o ≡ means.has_copies o
copies_same (Some variant) = refl
copies_same None = refl

if_some : (c : Bool) (tree : Content) → is_some (if c then None else tree) ≡ true → is_some tree ≡ true
if_some true tree e = true_false (sym e)
if_some false tree e = e

pub one_target : (one path : Path) → Contains (one ∷ []) path → one ≡ path
one_target one path (zero, lt, e) = e
one_target one path (suc k, lt, e) = absurd (omega (arith, lt))

module _ (g : RuleGraph) (hash : Hash) (around : Around) (gone : List Path) where
  abbrev tree : Tree
  tree = past gone around.tree

  pub copied_same : (path : Path) → is_copied g path ≡ means.is_copied g path
  copied_same path = copies_same (variant_of g.variants path)

  declared_by : (number : Option ℕ) → is_some (option_and_then (slice_get g.rules) (option_and_then (rule_of g.rules) number)) ≡ true →
      declared_for (length g.rules) g.rules number ≡ true
  declared_by None e = true_false (sym e)
  declared_by (Some node) e = by (rule_of g.rules node) e
    where
      at : (k : ℕ) (o : Option declared.Rule) → slice_get g.rules k ≡ o → is_some o ≡ true → nat_lt k (length g.rules) ≡ true
      at k None is e = true_false (sym e)
      at k (Some r) is e = lt-ltb k (length g.rules) (slice_get_within g.rules k r is)

      by : (o : Option ℕ) → is_some (option_and_then (slice_get g.rules) o) ≡ true → is_before (length g.rules) o ≡ true
      by None e = true_false (sym e)
      by (Some k) e = at k (slice_get g.rules k) refl e

  source_by : (source : Path) (d f : Bool) (c : Bool) → means.is_copied g source ≡ c →
      (declared_there g source || (not c && is_some (tree source))) ≡ true → is_source g (length g.rules) around source ≡ true
  source_by source d f c copied e = by (declared_there g source) refl c copied e
    where
      second : (a b : Bool) → b ≡ true → (a || b) ≡ true
      second true b h = refl
      second false b h = h

      first : (a b : Bool) → a ≡ true → (a || b) ≡ true
      first true b h = refl
      first false b h = true_false (sym h)

      by : (x : Bool) → declared_there g source ≡ x → (c : Bool) → means.is_copied g source ≡ c → (x || (not c && is_some (tree source))) ≡ true →
          is_source g (length g.rules) around source ≡ true
      by true is c copied e = first (is_declared g (length g.rules) source) (not (is_copied g source) && stands around source)
          (declared_by (number_of g.nodes source) is)
      by false is true copied e = true_false (sym e)
      by false is false copied e =
          second (is_declared g (length g.rules) source) (not (is_copied g source) && stands around source)
          (ap (λ x. not x && stands around source) (copied_same source ∙ copied) ∙ if_some (list_any (bytes_eq source) gone) (around.tree source) e)

  among_none : (o : Option Path) → source_among g (length g.rules) around o ≡ None → means.source_among g tree o ≡ None
  among_none None e = refl
  among_none (Some source) e = by (means.is_source g tree source) refl
    where
      by : (c : Bool) → means.is_source g tree source ≡ c → (if c then Some source else None) ≡ None
      by false is = refl
      by true is =
          none_some (sym e ∙ ap (λ c. if c then Some source else None) (source_by source true true (means.is_copied g source) refl is))

  uncopied : (path : Path) → copied_from g (length g.rules) around path ≡ None → means.copied_from g tree path ≡ None
  uncopied path e = by (means.is_copied g path) refl
    where
      by : (c : Bool) → means.is_copied g path ≡ c → (if c then means.source_among g tree (source_of g.variants g.top path) else None) ≡ None
      by false is = refl
      by true is =
          among_none (source_of g.variants g.top path)
          (sym (ap (λ c. if c then source_among g (length g.rules) around (source_of g.variants g.top path) else None) (copied_same path ∙ is)) ∙ e)

  unmade : (path : Path) → is_made g path ≡ false → rule_with g path ≡ None
  unmade path e = by (number_of g.nodes path) e
    where
      at : (o : Option ℕ) → is_some o ≡ false → option_and_then (slice_get g.rules) o ≡ None
      at None e = refl
      at (Some k) e = true_false e

      by : (number : Option ℕ) → has_rule g.rules number ≡ false → option_and_then (slice_get g.rules) (option_and_then (rule_of g.rules) number) ≡ None
      by None e = refl
      by (Some node) e = at (rule_of g.rules node) e

  pub leftover_unmade : (reading : IsReading g) (kept : Map) (path : Path) → IsLeftoverAt g kept around path →
      (begun_setting (begun_past g hash around gone)).rule_of path ≡ None
  leftover_unmade reading kept path is =
      let left = is.left in
      let same : left.path ≡ path = one_target left.path path (subst (λ (l : List Path). Contains l path) left.targets is.stands) in
      rule_is g reading around.law hash tree path
      ∙ ap (λ o. or_copied (option_map (rule_in g) o) (option_map (copy_rule path) (means.copied_from g tree path))) (unmade path (ap (is_made g) (sym same) ∙ left.unmade))
      ∙ ap (option_map (copy_rule path)) (uncopied path (ap (copied_from g (length g.rules) around) (sym same) ∙ left.uncopied))

-- ---- the paths of leftover copies

any_by : {X : Type 0} (test : X → Bool) (x : X) (xs : List X) (c : Bool) → test x ≡ c → (c || list_any test xs) ≡ true →
    (list_any test xs ≡ true → (y : X) × Contains xs y × (test y ≡ true)) → (y : X) × Contains (x ∷ xs) y × (test y ≡ true)
any_by test x xs true e h next = (x, (zero, omega arith, refl), e)
any_by test x xs false e h next = let f = next h in (f.0, (suc f.1.0, (let lt = f.1.1 in omega (arith, lt)), f.1.2), f.2)

-- one of which it is so stands among them
any_stands : {X : Type 0} (test : X → Bool) (xs : List X) → list_any test xs ≡ true → (y : X) × Contains xs y × (test y ≡ true)
any_stands test [] h = true_false (sym h)
any_stands test (x ∷ xs) h = any_by test x xs (test x) refl h (any_stands test xs)

or_here : (a b : Bool) → a ≡ true → (a || b) ≡ true
or_here true b e = refl
or_here false b e = true_false (sym e)

or_later : (a b : Bool) → b ≡ true → (a || b) ≡ true
or_later true b e = refl
or_later false b e = e

stands_any : {X : Type 0} (test : X → Bool) (xs : List X) (y : X) → Contains xs y → test y ≡ true → list_any test xs ≡ true
stands_any test [] y (k, lt, e) h = absurd (omega (arith, lt))
stands_any test (x ∷ xs) y (zero, lt, e) h = or_here (test x) (list_any test xs) (ap test e ∙ h)
stands_any test (x ∷ xs) y (suc k, lt, e) h = or_later (test x) (list_any test xs) (stands_any test xs y (k, omega (arith, lt), e) h)

bytes_self : (path : Path) → bytes_eq path path ≡ true
bytes_self path = (bytes_eq-Decides path path).1 refl

at_old : (g : RuleGraph) (kept : Map) (old new : Around) (rec : Rec) → old.running ≡ [] → Asks old new → IsCopyIn kept rec × IsLeftover g new rec → (path : Path) →
    Contains rec.targets path → IsLeftoverAt g kept old path
at_old g kept old new rec idle asks is path stands = record { rec = rec; copied = is.0; left = left_before g old new rec idle asks is.1; stands = stands }

pub gone_are : (g : RuleGraph) (kept : Map) (old new : Around) (left : List Rec) (gone : List Path) → old.running ≡ [] → Asks old new →
    AreLeftovers g new (IsCopyIn kept) left → AreTargetsOf left gone → AreGone g kept old gone
gone_are g kept old new left gone idle asks are targets = record {
  each = λ path h.
      let r = any_stands (λ rec. list_any (bytes_eq path) rec.targets) left (sym (targets path) ∙ h) in
      let p = any_stands (bytes_eq path) r.0.targets r.2 in
      at_old g kept old new r.0 idle asks (are.each r.0 r.1) path
      (subst (λ (q : Path). Contains r.0.targets q) (sym ((bytes_eq-Decides path p.0).0 p.2)) p.1);
  all = λ path is.
      targets path
      ∙ stands_any (λ rec. list_any (bytes_eq path) rec.targets) left is.rec (are.all is.rec is.copied (left_on g old new is.rec idle asks is.left))
      (stands_any (bytes_eq path) is.rec.targets path is.stands (bytes_self path));
}

-- ---- paths that are put into a set

-- one more is among others
ends_with : (paths : List Path) (path p : Path) → list_any (bytes_eq p) (paths ++ path ∷ []) ≡ (list_any (bytes_eq p) paths || bytes_eq p path)
ends_with paths path p =
    list_any-append (bytes_eq p) paths (path ∷ []) ∙ ap (λ c. list_any (bytes_eq p) paths || c) (or_none (bytes_eq p path))
  where
    or_none : (c : Bool) → (c || false) ≡ c
    or_none true = refl
    or_none false = refl

inserted : (paths : List Path) (path p : Path) → list_any (bytes_eq p) (insert_key bytes_eq paths path) ≡ (list_any (bytes_eq p) paths || bytes_eq p path)
inserted paths path p = by (list_any (bytes_eq path) paths) refl
  where
    there : (c : Bool) → bytes_eq p path ≡ c → list_any (bytes_eq path) paths ≡ true → list_any (bytes_eq p) paths ≡ (list_any (bytes_eq p) paths || c)
    there false e h = sym (or_none (list_any (bytes_eq p) paths))
      where
        or_none : (c : Bool) → (c || false) ≡ c
        or_none true = refl
        or_none false = refl
    there true e h =
        let same = (bytes_eq-Decides p path).0 e in
        let among = ap (λ q. list_any (bytes_eq q) paths) same ∙ h in
        among ∙ sym (or_later (list_any (bytes_eq p) paths) true refl)

    by : (c : Bool) → list_any (bytes_eq path) paths ≡ c → list_any (bytes_eq p) (if c then paths else paths ++ path ∷ []) ≡ (list_any (bytes_eq p) paths || bytes_eq p path)
    by true e = there (bytes_eq p path) refl e
    by false e = ends_with paths path p

or_moved : (a b c : Bool) → ((a || b) || c) ≡ (a || (b || c))
or_moved true b c = refl
or_moved false b c = refl

pub targets_more : (first keys new targets items : List Path) (i : ℕ) (item copied : Path) → items ≡ targets → i < length items → item ≡ get_or items i item →
    copied ≡ item → new ≡ insert_key bytes_eq keys copied → ((p : Path) → among_paths keys p ≡ (among_paths first p || among_paths (take i targets) p)) →
    (p : Path) → among_paths new p ≡ (among_paths first p || among_paths (take (i + 1) targets) p)
targets_more first keys new targets items i item copied same lt at copy insert so_far p =
    let more : take (i + 1) targets ≡ take i targets ++ item ∷ [] =
    ap (take (i + 1)) (sym same) ∙ take_more items i item lt ∙ ap (λ (q : Path). take i items ++ q ∷ []) (sym at) ∙ ap (λ (l : List Path). take i l ++ item ∷ []) same in
    ap (list_any (bytes_eq p)) insert ∙ inserted keys copied p ∙ ap (λ c. c || bytes_eq p copied) (so_far p)
    ∙ ap (λ (q : Path). (among_paths first p || among_paths (take i targets) p) || bytes_eq p q) copy
    ∙ or_moved (among_paths first p) (among_paths (take i targets) p) (bytes_eq p item)
    ∙ ap (λ c. among_paths first p || c) (sym (ap (list_any (bytes_eq p)) more ∙ ends_with (take i targets) item p))
