-- What is kept of files stays true as a path gets a number.
use Rattle.std.proofs.Common.{◌≡◌, ◌⊎◌, inl, inr, ◌∙◌, ap, sym, subst, refl, ℕ, true, false, List, [], ◌∷◌, ◌++◌, length, length-append, append_assoc, Option, Some, None, arith}
use Rattle.std.specs.Prelude.{MatchOption, slice_get}
use Rattle.std.proofs.lemmas.List.{append-nil}
use Rattle.node_tree.specs.Nodes.{number_of, AreApart, Interns}
use Rattle.rule_graph.specs.declared.rule.Rule.{Rule}
use Rattle.rule_graph.specs.Graphs.{RuleGraph}
use Rattle.rule_graph.specs.Rules.{rule_of}
use Rattle.world_api.specs.Around.{Around}
use Rattle.build_model.specs.Rules.{Path, Among}
use Rattle.build_means.specs.Copies.{copied_from}
use Rattle.build_means.specs.Grown.{Begun, IsGrown, IsCopyOf}
use Rattle.build_means.specs.Rules.{IsReading}
use Rattle.build_model.specs.Rules as model
use Rattle.build_means.proofs.Growing.{get_front, get_either, rule_stays}
use Rattle.build_means.proofs.Lists.{none_some, true_false, place_of}
use Rattle.build_files.proofs.Places.{past_end, numbered}
use Rattle.build_files.proofs.Scans.{found_more}
use Rattle.build_files.proofs.Truths.{unread_is}
use Rattle.build_files.specs.Kept.{past, stamp_past, AreTrue, IsTrueOf}
use Rattle.build_files.specs.Leftovers.{is_made, has_rule}
use Rattle.build_files.specs.Seen.{seen_at, unseen}
use Rattle.build_files.specs.declared.inputs.Inputs.{Inputs}
use Rattle.build_files.specs.declared.seen.Seen.{Seen}

-- the graph with one path more
abbrev pub with_path : RuleGraph → Path → RuleGraph
with_path g path = record g { nodes = g.nodes ++ path ∷ [] }

unmade_before : (g : RuleGraph) (path p : Path) → AreApart (g.nodes ++ path ∷ []) → is_made (with_path g path) p ≡ false → is_made g p ≡ false
unmade_before g path p apart unmade = by (number_of g.nodes p) refl
  where
    by : (o : Option ℕ) → number_of g.nodes p ≡ o → has_rule g.rules (number_of g.nodes p) ≡ false
    by None at = ap (has_rule g.rules) at
    by (Some n) at =
        ap (has_rule g.rules) (at ∙ sym (apart n p (get_front g.nodes (path ∷ []) n p (numbered g.nodes n p at)))) ∙ unmade

module _ (b : Begun) (g : RuleGraph) (inputs : Inputs) (around : Around) (path : Path) (is : AreTrue b g inputs around) (before : IsReading g)
    (after : IsReading (with_path g path)) where
  -- as if the build had begun with the graph as it was before
  abbrev begun_here : Begun
  begun_here = record { graph = g; law = b.law; hash = b.hash; tree = b.tree }

  grown_by_one : IsGrown begun_here (with_path g path)
  grown_by_one = record {
    top = refl;
    variants = refl;
    more = path ∷ [];
    nodes = refl;
    copies = [];
    rules = sym (append-nil g.rules);
    each_copy = λ r among. elim among [ ];
  }

  copies_stay : (r : Rule) → Among r is.grown.copies → IsCopyOf b g r → IsCopyOf b (with_path g path) r
  copies_stay r among copy =
      let there = place_of (subst (λ rules. Among r rules) (sym is.grown.rules) (behind is.grown.copies b.graph.rules among)) in
      let same = rule_stays begun_here (with_path g path) before after grown_by_one r (before.named.each_rule there.0 r there.1) in
      record {
        path = copy.path;
        source = copy.source;
        undeclared = copy.undeclared;
        copied = copy.copied;
        is = ap (λ (x : model.Rule). record x { copies = true }) same ∙ copy.is;
        lines = copy.lines;
        builder = copy.builder;
      }
    where
      behind : {r : Rule} (copies rules : List Rule) → Among r copies → Among r (rules ++ copies)
      behind copies [] among = among
      behind copies (x ∷ rules) among = model.there (behind copies rules among)

  grown_on : IsGrown b (with_path g path)
  grown_on = record {
    top = is.grown.top;
    variants = is.grown.variants;
    more = is.grown.more ++ path ∷ [];
    nodes = ap (λ nodes. nodes ++ path ∷ []) is.grown.nodes ∙ append_assoc b.graph.nodes is.grown.more (path ∷ []);
    copies = is.grown.copies;
    rules = is.grown.rules;
    each_copy = λ r among. copies_stay r among (is.grown.each_copy r among);
  }

  seen_by : (node : ℕ) (p : Path) → (slice_get g.nodes node ≡ Some p) ⊎ ((slice_get g.nodes node ≡ None) × Among p (path ∷ []))
      → IsTrueOf b inputs.gone.keys around p (seen_at inputs.files.seen.items node)
  seen_by node p (inl at) = is.seen node p at
  seen_by node p (inr new) =
      subst (λ s. IsTrueOf b inputs.gone.keys around p s) (sym (is.behind node (past_end g.nodes node new.0))) (record {
        now = unread_is b.hash (past inputs.gone.keys around.tree p) (stamp_past inputs.gone.keys around p) unseen (record { digest = refl; includes = refl; stamp = refl });
        still = inr (record { digest = refl; includes = refl; stamp = refl });
        is_file = λ stood e. none_some e;
      })

  settled_by : (node : ℕ) (p : Path) → (slice_get g.nodes node ≡ Some p) ⊎ ((slice_get g.nodes node ≡ None) × Among p (path ∷ []))
      → (seen_at inputs.files.seen.items node).is_settled ≡ true → rule_of g.rules node ≡ None → copied_from b.graph b.tree p ≡ None
  settled_by node p (inl at) = is.settled node p at
  settled_by node p (inr new) = λ settled none. true_false (sym settled ∙ ap (λ (s : Seen). s.is_settled) (is.behind node (past_end g.nodes node new.0)))

  pub interned : AreTrue b (with_path g path) inputs around
  interned = record {
    reading = is.reading;
    grown = grown_on;
    hash = is.hash;
    declared = is.declared;
    rest = λ p unmade. is.rest p (unmade_before g path p after.apart unmade);
    idle = λ p unmade. is.idle p (unmade_before g path p after.apart unmade);
    seen = λ node p at. seen_by node p (get_either g.nodes (path ∷ []) node p at);
    settled = λ node p at. settled_by node p (get_either g.nodes (path ∷ []) node p at);
    behind = λ node le. is.behind node (omega (arith, length-append g.nodes (path ∷ []), le));
    unknown = is.unknown;
    gone = is.gone;
    found = found_more b g (with_path g path) inputs.gone.keys around inputs.found (record { more = path ∷ []; nodes = refl; rest = refl }) is.found;
  }

one_more : (nodes new : List Path) (path : Path) (id : ℕ) → number_of nodes path ≡ None → Interns nodes path id new → (id ≡ length nodes) × (new ≡ nodes ++ path ∷ [])
one_more nodes new path id none interns =
    subst (λ o. MatchOption o ((id ≡ length nodes) × (new ≡ nodes ++ path ∷ [])) (λ n. (id ≡ n) × (new ≡ nodes))) none interns

-- the path that got a number stands at it
pub interned_at : (nodes new : List Path) (path : Path) (id : ℕ) → number_of nodes path ≡ None → Interns nodes path id new → slice_get new id ≡ Some path
interned_at nodes new path id none interns =
    let parts = one_more nodes new path id none interns in
    ap (λ ps. slice_get ps id) parts.1 ∙ ap (slice_get (nodes ++ path ∷ [])) parts.0 ∙ last nodes
  where
    last : (ps : List Path) → slice_get (ps ++ path ∷ []) (length ps) ≡ Some path
    last [] = refl
    last (p ∷ ps) = last ps

-- and what is kept is true still
pub interned_true : (b : Begun) (g new : RuleGraph) (inputs : Inputs) (around : Around) (path : Path) (id : ℕ) → number_of g.nodes path ≡ None
    → Interns g.nodes path id new.nodes → new ≡ record g { nodes = new.nodes } → IsReading g → IsReading new → AreTrue b g inputs around
    → AreTrue b new inputs around
interned_true b g new inputs around path id none interns rest before after is =
    let parts = one_more g.nodes new.nodes path id none interns in
    let same : new ≡ with_path g path = rest ∙ ap (λ (nodes : List Path). record g { nodes = nodes }) parts.1 in
    subst (λ h. AreTrue b h inputs around) (sym same) (interned b g inputs around path is before (subst IsReading same after))
