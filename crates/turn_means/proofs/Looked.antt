-- Where all that was looked at is gone over, the copy rules of sought files were looked for, and of all that their rules name.
use Rattle.std.proofs.Common.{◌≡◌, ◌<◌, ◌⊎◌, inl, inr, ℕ, Bool, true, false, cond, ◌&&◌, List, [], ◌∷◌, ◌++◌, length, Some, None, refl, sym, subst, ap, ◌∙◌, arith, ltb-true}
use Rattle.std.specs.Prelude.{slice_get, nat_eq, nat_lt, if◌then◌else◌, find, filter}
use Rattle.std.specs.List.{list_any}
use Rattle.std.specs.Option.{option_map}
use Rattle.std.proofs.lemmas.Bool.Decides.{Decides-eqb}
use Rattle.scons_base.specs.declared.ids.NodeId.{NodeId}
use Rattle.scons_base.specs.declared.ids.RuleId.{RuleId}
use Rattle.scons_base.specs.Parts.{lies_in}
use Rattle.variant_dirs.specs.Variants.{source_of}
use Rattle.variant_dirs.specs.declared.variants.Variant.{Variant}
use Rattle.world_api.specs.Around.{Around}
use Rattle.world_api.specs.declared.job.Work.{Work}
use Rattle.world_api.specs.declared.job.Work.TheVariants.{Shell, Copy, Write}
use Rattle.rule_graph.specs.declared.rule.Rule as declared
use Rattle.rule_graph.specs.Graphs.{RuleGraph, path_of}
use Rattle.rule_graph.specs.Rules.{rule_of, are_below, IsRule}
use Rattle.task_plan.specs.Admits.{IsKnown, Fits, Follows, AllFollow}
use Rattle.task_plan.specs.Met.{IsAskedFor}
use Rattle.task_plan.specs.Named.{stands, put, put_all, is_shell, ignored_of, sources_of, named_of, left_out_of, scanned_of, is_scanned_node}
use Rattle.task_plan.specs.Plans.{Planned, IsScannedNext}
use Rattle.task_plan.specs.Rooted.{news_in, news_of}
use Rattle.task_plan.specs.Settled.{Kept}
use Rattle.task_plan.specs.declared.want.PlanEvent.TheVariants.{Scanned}
use Rattle.task_plan.proofs.AdmitLemmas.{waits_needed}
use Rattle.task_plan.proofs.MetNeeds.{all_stands, put_all_has}
use Rattle.task_plan.proofs.RootLemmas.{IsPut, news_put}
use Rattle.task_plan.proofs.NamedLemmas.{put_all_longer, stands_longer}
use Rattle.task_plan.proofs.WatchMeets.{stands_one}
use Rattle.task_plan.proofs.WatchScans.{stands_split}
use Rattle.build_model.specs.Rules.{Path, Tree}
use Rattle.build_model.specs.Graphs.{copy_rule}
use Rattle.build_model.proofs.Lists.{none_some, true_false, some_same}
use Rattle.build_means.specs.Copies.{has_copies, source_among, copied_from}
use Rattle.build_means.specs.Grown.{Begun, IsLookedFor}
use Rattle.build_means.specs.Laws.{or_copied}
use Rattle.build_means.specs.Rules.{keeps_sources, rule_in}
use Rattle.build_means.proofs.Lists.{or_first, or_second, or_neither}
use Rattle.build_means.proofs.Growing.{are_rules}
use Rattle.build_means.proofs.Readings.{node_path, rule_is}
use Rattle.plan_means.specs.Beginning.{AreLookedFor}
use Rattle.plan_means.specs.Planning.{IsGraphNow}
use Rattle.build_files.specs.Kept.{AreTrue}
use Rattle.build_files.specs.Marked.{is_among, is_marked, copies_somewhere, AreAllSought, AreGoneOver, AreGoneOverBut, AreKeptSought, AreSought, IsNamedBy, is_required, is_source, is_needed, is_library, IsSought}
use Rattle.build_files.specs.declared.inputs.Inputs.{Inputs}

-- what was put behind others stood there, or was put and isn't left out
put_one : (out first xs : List NodeId) (x n : NodeId) (b c : Bool) → stands out x ≡ b →
    stands (if b then first else (if c then first else first ++ x ∷ [])) n ≡ true →
    (stands first n ≡ true) ⊎ ((stands (x ∷ xs) n ≡ true) × (stands out n ≡ false))
put_one out first xs x n true c is e = inl e
put_one out first xs x n false true is e = inl e
put_one out first xs x n false false is e = elim (stands_split first (x ∷ []) n e) [
  | inl before ↦ inl before
  | inr one ↦
      let same = stands_one x n one in
      inr (subst (λ m. stands (x ∷ xs) m ≡ true) same (or_first (nat_eq x.0 x.0) (stands xs x) ((Decides-eqb x.0 x.0).1 refl)), subst (λ m. stands out m ≡ false) same is)
]

put_split : (out first xs : List NodeId) (n : NodeId) → stands (put_all out first xs) n ≡ true →
    (stands first n ≡ true) ⊎ ((stands xs n ≡ true) × (stands out n ≡ false))
put_split out first [] n e = inl e
put_split out first (x ∷ xs) n e = elim (put_split out (put out first x) xs n e) [
  | inl one ↦ put_one out first xs x n (stands out x) (stands first x) refl one
  | inr h ↦ inr (or_second (nat_eq n.0 x.0) (stands xs n) h.0, h.1)
]

-- what isn't among the ignored ones, each once, isn't ignored
unignored : (of : declared.Rule) (n : NodeId) → stands (ignored_of of) n ≡ false → is_among of.ignored n ≡ false
unignored of n none = by (is_among of.ignored n) refl
  where
    by : (c : Bool) → is_among of.ignored n ≡ c → is_among of.ignored n ≡ false
    by true e = true_false (sym (put_all_has [] of.ignored n e) ∙ none)
    by false e = e

kept_source : (of : declared.Rule) (n : NodeId) (work : Work) →
    stands (if is_shell work then ignored_of of else []) n ≡ false →
    (keeps_sources work ≡ true) ⊎ (is_among of.ignored n ≡ false)
kept_source of n Shell none = inr (unignored of n none)
kept_source of n Copy none = inl refl
kept_source of n Write none = inl refl

source_named : (of : declared.Rule) (n : NodeId) → stands (sources_of of) n ≡ true → IsNamedBy of n
source_named of n e = elim (put_split (if is_shell of.work then ignored_of of else []) [] of.sources n e) [
  | inl never ↦ true_false (sym never)
  | inr h ↦ is_source h.0 (kept_source of n of.work h.1)
]

depends_named : (of : declared.Rule) (n : NodeId) → stands (put_all (ignored_of of) (sources_of of) of.depends) n ≡ true →
    IsNamedBy of n
depends_named of n e = elim (put_split (ignored_of of) (sources_of of) of.depends n e) [
  | inl source ↦ source_named of n source
  | inr h ↦ is_needed h.0 (unignored of n h.1)
]

-- what a rule requires and names by the plan's words it names
pub named_by : (of : declared.Rule) (n : NodeId) → stands (of.required ++ named_of of) n ≡ true → IsNamedBy of n
named_by of n e = elim (stands_split of.required (named_of of) n e) [
  | inl required ↦ is_required required
  | inr named ↦ (elim (put_split (ignored_of of) (put_all (ignored_of of) (sources_of of) of.depends) of.libs n named) [
    | inl first ↦ depends_named of n first
    | inr h ↦ is_library h.0 (unignored of n h.1)
  ])
]

-- where no variant directory has copies no path has a source
uncopied_step : (v : Variant) (variants : List Variant) (test : Variant → Bool) (b : Bool) → v.duplicate ≡ false →
    has_copies (find test variants) ≡ false →
    has_copies (cond b (Some v) (find test variants)) ≡ false
uncopied_step v variants test true none rest = none
uncopied_step v variants test false none rest = rest

uncopied_find : (variants : List Variant) (test : Variant → Bool) →
    list_any (λ (v : Variant). v.duplicate) variants ≡ false → has_copies (find test variants) ≡ false
uncopied_find [] test none = refl
uncopied_find (v ∷ variants) test none =
    let both = or_neither v.duplicate (list_any (λ (w : Variant). w.duplicate) variants) none in
    uncopied_step v variants test (test v) both.0 (uncopied_find variants test both.1)

uncopied : (g : RuleGraph) (tree : Tree) (path : Path) → copies_somewhere g ≡ false → copied_from g tree path ≡ None
uncopied g tree path none =
    ap (λ c. if c then source_among g tree (source_of g.variants g.top path) else None) (uncopied_find g.variants (λ v. lies_in path v.dir) none)

module _ (b : Begun) (g : RuleGraph) (inputs : Inputs) (around : Around) (now : IsGraphNow b g) (is : AreTrue b g inputs around) where
  bare_looked : (n : NodeId) → n.0 < length g.nodes →
      (rule_of g.rules n.0 ≡ None → copied_from b.graph b.tree (path_of g.nodes n) ≡ None) → IsLookedFor b g n
  bare_looked n below copied none =
      let path = path_of g.nodes n in
      let undeclared = (are_rules b g now.read now.reading now.grown).undeclared n.0 path (node_path g now.reading n below) none in
      rule_is b.graph now.read b.law b.hash b.tree path
      ∙ ap (λ o. or_copied (option_map (rule_in b.graph) o) (option_map (copy_rule path) (copied_from b.graph b.tree path))) undeclared
      ∙ ap (λ o. option_map (copy_rule path) o) (copied none)

  -- a file that is sought was looked for
  sought_looked : (n : NodeId) → n.0 < length g.nodes → IsSought g inputs n → IsLookedFor b g n
  sought_looked n below sought = bare_looked n below (λ none. is.settled n.0 (path_of g.nodes n) (node_path g now.reading n below) (sought.settled none) none)

  -- and each is where no variant directory has copies
  none_looked : copies_somewhere g ≡ false → (n : NodeId) → n.0 < length g.nodes → IsLookedFor b g n
  none_looked none n below =
      bare_looked n below (λ _. uncopied b.graph b.tree (path_of g.nodes n) (sym (ap (λ vs. list_any (λ (v : Variant). v.duplicate) vs) now.grown.variants) ∙ none))

  below_among : (nodes : List NodeId) (n : NodeId) → are_below (length g.nodes) nodes ≡ true → is_among nodes n ≡ true →
      n.0 < length g.nodes
  below_among nodes n below e = ltb-true n.0 (length g.nodes) (all_stands (λ t. nat_lt t.0 (length g.nodes)) nodes n below e)

  named_below : (number : ℕ) (of : declared.Rule) (n : NodeId) → slice_get g.rules number ≡ Some of → IsNamedBy of n →
      n.0 < length g.nodes
  named_below number of n at named = by (now.reading.named.each_rule number of at) named
    where
      by : IsRule (length g.nodes) of → IsNamedBy of n → n.0 < length g.nodes
      by rule (is_required e) = below_among of.required n rule.required e
      by rule (is_source e keeps) = below_among of.sources n rule.sources e
      by rule (is_needed e none) = below_among of.depends n rule.depends e
      by rule (is_library e none) = below_among of.libs n rule.libs e

  module _ (nodes : List NodeId) (below : are_below (length g.nodes) nodes ≡ true) where
    module _ (over : AreGoneOverBut g inputs []) (sought : AreAllSought g inputs nodes) where
      -- each rule that these ask for was looked at
      marked_asked : (number : ℕ) → IsAskedFor g nodes number → is_marked inputs number ≡ true
      marked_asked number (IsAskedFor.asked node e of) = (sought node e).marked number of
      marked_asked number (IsAskedFor.needs {rule = rule} of node ask at e made) =
          (over.named rule of (marked_asked rule ask) refl at node (named_by of node e)).marked number made

      all_looked : AreLookedFor b g nodes
      all_looked = record {
        these = λ n e. sought_looked n (below_among nodes n below e) (sought n e);
        named = λ number of n ask at e.
            let named = named_by of n e in
            sought_looked n (named_below number of n at named) (over.named number of (marked_asked number ask) refl at n named);
      }

    none_asked : copies_somewhere g ≡ false → AreLookedFor b g nodes
    none_asked none = record {
      these = λ n e. none_looked none n (below_among nodes n below e);
      named = λ number of n ask at e. none_looked none n (named_below number of n at (named_by of n e));
    }

-- Where all that was looked at is gone over and these files are sought, their copy rules were looked for, and those of all that they ask for.
pub sought_are_looked_for : (b : Begun) (g : RuleGraph) (inputs : Inputs) (around : Around) (nodes : List NodeId) →
    IsGraphNow b g → are_below (length g.nodes) nodes ≡ true →
    AreTrue b g inputs around → AreGoneOver g inputs → AreSought g inputs nodes → AreLookedFor b g nodes
sought_are_looked_for b g inputs around nodes now below is over sought = by (copies_somewhere g) refl
  where
    by : (c : Bool) → copies_somewhere g ≡ c → AreLookedFor b g nodes
    by true some = all_looked b g inputs around now is nodes below (over some) (sought some)
    by false none = none_asked b g inputs around now is nodes below none

-- a rule of which a file was listed to scan is one that scans
first_file : (files : List NodeId) (place : ℕ) (file : NodeId) → slice_get files place ≡ Some file →
    (x : NodeId) × (slice_get files 0 ≡ Some x)
first_file [] place file at = none_some at
first_file (x ∷ files) place file at = (x, refl)

scans_by : (g : RuleGraph) (of : declared.Rule) (c : Bool) → of.scans ≡ c → c ≡ false → scanned_of g of ≡ []
scans_by g of c is none = ap (λ s. if s then put_all [] [] (filter (is_scanned_node g) (sources_of of)) else []) (is ∙ none)

scans_true : (g : RuleGraph) (of : declared.Rule) (kept : Kept) (place : ℕ) (file : NodeId) →
    kept.sources ≡ scanned_of g of → Follows kept → slice_get kept.files place ≡ Some file → of.scans ≡ true
scans_true g of kept place file sources follows at = by of.scans refl
  where
    by : (c : Bool) → of.scans ≡ c → of.scans ≡ true
    by true e = e
    by false e =
        let first = first_file kept.files place file at in
        let none = ap (λ (ns : List NodeId). length ns) (sources ∙ scans_by g of false e refl) in
        let before = follows.files.earlier 0 first.0 first.1 (omega (arith, none)) in
        absurd (omega (arith, before.before))

-- what isn't left out of what is found for such a rule is neither ignored nor a target of it
not_left_out : (of : declared.Rule) (n : NodeId) → of.scans ≡ true → stands (left_out_of of) n ≡ false →
    (is_among of.ignored n ≡ false) × (is_among of.targets n ≡ false)
not_left_out of n scans none = (ignored (is_among of.ignored n) refl, target (is_among of.targets n) refl)
  where
    out : stands (put_all [] (ignored_of of) of.targets) n ≡ false
    out = sym (ap (λ s. stands (if s then put_all [] (ignored_of of) of.targets else ignored_of of) n) scans) ∙ none

    ignored : (c : Bool) → is_among of.ignored n ≡ c → is_among of.ignored n ≡ false
    ignored true e =
        true_false (sym (stands_longer (ignored_of of) (put_all [] (ignored_of of) of.targets) n (put_all_longer [] (ignored_of of) of.targets) (put_all_has [] of.ignored n e)) ∙ out)
    ignored false e = e

    target : (c : Bool) → is_among of.targets n ≡ c → is_among of.targets n ≡ false
    target true e = true_false (sym (put_all_has (ignored_of of) of.targets n e) ∙ out)
    target false e = e

all_below : (limit : ℕ) (xs : List NodeId) → ((n : NodeId) → stands xs n ≡ true → nat_lt n.0 limit ≡ true) →
    are_below limit xs ≡ true
all_below limit [] f = refl
all_below limit (x ∷ xs) f =
    both_true (nat_lt x.0 limit) (are_below limit xs) (f x (or_first (nat_eq x.0 x.0) (stands xs x) ((Decides-eqb x.0 x.0).1 refl)))
    (all_below limit xs (λ n e. f n (or_second (nat_eq n.0 x.0) (stands xs n) e)))
  where
    both_true : (b c : Bool) → b ≡ true → c ≡ true → (b && c) ≡ true
    both_true true c first second = second
    both_true false c first second = first

-- what comes to a rule by a scan was found, and isn't left out of what is known of it
comes : (plan : Planned) (rule : RuleId) (kept : Kept) (found : List NodeId) → slice_get plan.rules rule.0 ≡ Some kept →
    (n : NodeId) → stands (news_of plan (Scanned rule found)) n ≡ true →
    IsPut kept.left_out found n
comes plan rule kept found at n e = news_put kept.left_out kept.files found n (sym (ap (λ o. stands (news_in o found) n) at) ∙ e)

-- And so it is of the files that come to a rule by a scan, where of what was found each was sought that the rule doesn't leave out.
pub found_are_looked_for : (b : Begun) (g : RuleGraph) (inputs : Inputs) (around : Around) (plan : Planned) (rule : RuleId) (file : NodeId) (found : List NodeId) →
    IsGraphNow b g →
    are_below (length g.nodes) found ≡ true → AreTrue b g inputs around → AreGoneOver g inputs → AreKeptSought g inputs rule.0 found → Fits g plan → AllFollow plan →
    IsScannedNext plan rule.0 file → AreLookedFor b g (news_of plan (Scanned rule found))
found_are_looked_for b g inputs around plan rule file found now below is over sought fits follow next =
    sought_are_looked_for b g inputs around news now below_news is over by
  where
    news : List NodeId
    news = news_of plan (Scanned rule found)

    known : IsKnown g plan.rules rule.0
    known = fits rule.0 (waits_needed g plan rule.0 next.ready.waits)

    below_news : are_below (length g.nodes) (news_of plan (Scanned rule found)) ≡ true
    below_news = all_below (length g.nodes) (news_of plan (Scanned rule found)) (λ n e. all_stands (λ t. nat_lt t.0 (length g.nodes)) found n below (comes plan rule known.kept found known.is n e).includes)

    by : AreSought g inputs (news_of plan (Scanned rule found))
    by some n e =
        let put = comes plan rule known.kept found known.is n e in
        let file_at = sym (ap (λ (k : Kept). slice_get k.files next.ready.place) (some_same (sym next.ready.at ∙ known.is))) ∙ next.ready.is_file in
        let scans = scans_true g known.of known.kept next.ready.place file known.sources (follow rule.0 known.kept known.is known.whole) file_at in
        let out = not_left_out known.of n scans (sym (ap (λ (ns : List NodeId). stands ns n) known.left_out) ∙ put.not_out) in
        sought some known.of n known.at put.includes out.0 out.1
