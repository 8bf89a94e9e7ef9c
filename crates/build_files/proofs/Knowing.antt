-- What is known of a path in the graph as it has grown is what was known of it as the build began.
use Rattle.std.proofs.Common.{◌≡◌, ◌<◌, ◌⊎◌, inl, inr, ◌∙◌, ap, sym, subst, refl, ℕ, Bool, true, false, ◌||◌, not, Option, Some, None, lt-ltb, ltb-true, arith}
use Rattle.std.specs.Prelude.{Result, IfOk, nat_lt, slice_get, is_some, if◌then◌else◌, ◌&&◌}
use Rattle.std.specs.List.{list_any}
use Rattle.std.specs.Option.{option_map}
use Rattle.std.specs.Str.{bytes_eq}
use Rattle.std.proofs.lemmas.Option.{slice_get_within}
use Rattle.scons_base.specs.declared.ids.RuleId.{RuleId}
use Rattle.node_tree.specs.Nodes.{number_of, AreApart}
use Rattle.rule_graph.specs.declared.rule.Rule.{Rule}
use Rattle.rule_graph.specs.Graphs.{RuleGraph, path_of}
use Rattle.rule_graph.specs.Rules.{rule_of, is_target_of}
use Rattle.variant_dirs.specs.Variants.{variant_of, source_of}
use Rattle.world_api.specs.Around.{Around}
use Rattle.world_api.specs.Calls.{Asks}
use Rattle.build_model.specs.Rules.{Path, Among}
use Rattle.build_means.specs.Copies as means
use Rattle.build_means.specs.Grown.{Begun}
use Rattle.build_means.specs.Rules.{IsReading, paths_of, rule_with}
use Rattle.build_means.specs.Rules as read
use Rattle.build_means.proofs.Growing.{get_front, get_either, named, only, paths_stay, are_rules}
use Rattle.build_means.proofs.Lists.{none_some, true_false, among_map, first_place, place_of, at_place}
use Rattle.build_means.proofs.Readings.{target_number, target_rule, rule_with_target, rule_with_is}
use Rattle.build_files.proofs.Places.{past_end, numbered}
use Rattle.build_files.proofs.Truths.{asked}
use Rattle.build_files.specs.Kept.{past, AreTrue, IsUnmade}
use Rattle.build_files.specs.Leftovers.{is_made, is_declared, declared_for, is_before, is_copied, is_source, source_among, copied_from, stands, has_rule}
use Rattle.build_files.specs.declared.end.ListEnd.{ListEnd}
use Rattle.build_files.specs.declared.inputs.Inputs.{Inputs}

module _ (b : Begun) (g : RuleGraph) (inputs : Inputs) (around : Around) (is : AreTrue b g inputs around) (now : IsReading g) where
  -- the rule of a number in the grown graph: one that was declared, or a copy rule
  declared_at : (r : ℕ) (x : Rule) (path : Path) → slice_get b.graph.rules r ≡ Some x → Among path (paths_of g x.targets) → rule_with b.graph path ≡ Some x
  declared_at r x path at among =
      let of = is.reading.named.each_rule r x at in
      rule_with_target b.graph is.reading (at_place b.graph.rules r at)
      (subst (λ ps. Among path ps) (paths_stay b g is.reading now is.grown x.targets of.targets) among)

  -- what makes a path that has a number
  rule_there : (node r : ℕ) (path : Path) → slice_get g.nodes node ≡ Some path → rule_of g.rules node ≡ Some r
      → (x : Rule) × (slice_get g.rules r ≡ Some x) × Among path (paths_of g x.targets)
  rule_there node r path at of =
      let place = first_place (λ x. is_target_of x.targets node) g.rules r of in
      (place.0, place.1, named b g is.reading now is.grown node path place.0 at place.2)

  either : (r : ℕ) (x : Rule) → slice_get g.rules r ≡ Some x → (slice_get b.graph.rules r ≡ Some x) ⊎ ((slice_get b.graph.rules r ≡ None) × Among x is.grown.copies)
  either r x at = get_either b.graph.rules is.grown.copies r x (sym (ap (λ rules. slice_get rules r) is.grown.rules) ∙ at)

  -- a copy rule is that of its path
  copied_at : (x : Rule) (path : Path) → Among x is.grown.copies → Among path (paths_of g x.targets) → is_some (means.copied_from b.graph b.tree path) ≡ true
  copied_at x path copies among =
      let copy = is.grown.each_copy x copies in
      let same : path ≡ copy.path = only b g is.reading now is.grown (subst (λ r. Among path r.targets) copy.is among) in
      ap (λ p. is_some (means.copied_from b.graph b.tree p)) same ∙ ap is_some copy.copied

  declared_front : (x : Rule) (path : Path) → rule_with b.graph path ≡ Some x → is_declared g inputs.declared path ≡ true
  declared_front x path with_rule =
      let h = rule_with_is b.graph is.reading with_rule in
      let place = place_of h.0 in
      let of = is.reading.named.each_rule place.0 x place.1 in
      let there = ap (λ rules. slice_get rules place.0) is.grown.rules ∙ get_front b.graph.rules is.grown.copies place.0 x place.1 in
      let among = subst (λ ps. Among path ps) (sym (paths_stay b g is.reading now is.grown x.targets of.targets)) h.1 in
      let node = among_map (path_of g.nodes) x.targets among in
      let number = target_number g now x place.0 node.0 there node.1 in
      let rule = target_rule g now x place.0 node.0 there node.1 in
      let below : place.0 < inputs.declared = omega (arith, slice_get_within b.graph.rules place.0 x place.1, is.declared) in
      ap (λ p. declared_for inputs.declared g.rules (number_of g.nodes p)) node.2
      ∙ ap (declared_for inputs.declared g.rules) number
      ∙ ap (is_before inputs.declared) rule
      ∙ lt-ltb place.0 inputs.declared below

  declared_none : (path : Path) → rule_with b.graph path ≡ None → is_declared g inputs.declared path ≡ false
  declared_none path none = by (number_of g.nodes path) refl
    where
      before : (node r : ℕ) → number_of g.nodes path ≡ Some node → rule_of g.rules node ≡ Some r → (c : Bool) → nat_lt r inputs.declared ≡ c → c ≡ false
      before node r at of false e = refl
      before node r at of true e =
          let there = rule_there node r path (numbered g.nodes node path at) of in
          elim (either r there.0 there.1) [
            | inl front ↦ none_some (sym none ∙ declared_at r there.0 path front there.2)
            | inr back ↦ absurd (omega (arith, ltb-true r inputs.declared e, is.declared, past_end b.graph.rules r back.0))
          ]

      rule : (node : ℕ) → number_of g.nodes path ≡ Some node → (o : Option ℕ) → rule_of g.rules node ≡ o → is_before inputs.declared o ≡ false
      rule node at None of = refl
      rule node at (Some r) of = before node r at of (nat_lt r inputs.declared) refl

      by : (o : Option ℕ) → number_of g.nodes path ≡ o → declared_for inputs.declared g.rules o ≡ false
      by None at = refl
      by (Some node) at = rule node at (rule_of g.rules node) refl

  declared_same : (path : Path) → is_declared g inputs.declared path ≡ read.is_declared b.graph path
  declared_same path = by (rule_with b.graph path) refl
    where
      by : (o : Option Rule) → rule_with b.graph path ≡ o → is_declared g inputs.declared path ≡ is_some o
      by None e = declared_none path e
      by (Some x) e = declared_front x path e

  copied_same : (path : Path) → is_copied g path ≡ means.is_copied b.graph path
  copied_same path = ap (λ variants. means.has_copies (variant_of variants path)) is.grown.variants

  -- a file outside of variant directories with copies that was not declared stands as it did
  stands_same : (path : Path) → means.is_copied b.graph path ≡ false → rule_with b.graph path ≡ None → stands around path ≡ is_some (b.tree path)
  stands_same path uncopied none =
      ap is_some (sym (looked (list_any (bytes_eq path) inputs.gone.keys) refl) ∙ is.rest path (unmade (number_of g.nodes path) refl))
    where
      looked : (c : Bool) → list_any (bytes_eq path) inputs.gone.keys ≡ c → past inputs.gone.keys around.tree path ≡ around.tree path
      looked true e = true_false (sym (is.gone path e) ∙ uncopied)
      looked false e = ap (λ c. if c then None else around.tree path) e

      rule : (node : ℕ) → number_of g.nodes path ≡ Some node → (o : Option ℕ) → rule_of g.rules node ≡ o → is_some o ≡ false
      rule node at None of = refl
      rule node at (Some r) of =
          let there = rule_there node r path (numbered g.nodes node path at) of in
          elim (either r there.0 there.1) [
            | inl front ↦ none_some (sym none ∙ declared_at r there.0 path front there.2)
            | inr back ↦ true_false (sym (copied_at there.0 path back.1 there.2) ∙ ap (λ c. is_some (if c then means.source_among b.graph b.tree (source_of b.graph.variants b.graph.top path) else None)) uncopied)
          ]

      unmade : (o : Option ℕ) → number_of g.nodes path ≡ o → is_made g path ≡ false
      unmade None at = ap (has_rule g.rules) at
      unmade (Some node) at = ap (has_rule g.rules) at ∙ rule node at (rule_of g.rules node) refl

  source_same : (source : Path) → is_source g inputs.declared around source ≡ means.is_source b.graph b.tree source
  source_same source = by (rule_with b.graph source) refl (means.is_copied b.graph source) refl
    where
      by : (o : Option Rule) → rule_with b.graph source ≡ o → (c : Bool) → means.is_copied b.graph source ≡ c
          → (is_declared g inputs.declared source || (not (is_copied g source) && stands around source)) ≡ (is_some o || (not c && is_some (b.tree source)))
      by (Some x) e c f = ap (λ d. d || (not (is_copied g source) && stands around source)) (declared_front x source e)
      by None e true f = ap (λ d. d || (not (is_copied g source) && stands around source)) (declared_none source e)
          ∙ ap (λ d. not d && stands around source) (copied_same source ∙ f)
      by None e false f = ap (λ d. d || (not (is_copied g source) && stands around source)) (declared_none source e)
          ∙ ap (λ d. not d && stands around source) (copied_same source ∙ f) ∙ stands_same source f e

  -- what a path is copied from
  pub from_same : (path : Path) → copied_from g inputs.declared around path ≡ means.copied_from b.graph b.tree path
  from_same path =
      ap (λ c. if c then source_among g inputs.declared around (source_of g.variants g.top path) else None) (copied_same path)
      ∙ ap (λ (o : Option Path). if means.is_copied b.graph path then source_among g inputs.declared around o else None)
      (ap (λ variants. source_of variants g.top path) is.grown.variants ∙ ap (λ top. source_of b.graph.variants top path) is.grown.top)
      ∙ ap (λ (o : Option Path). if means.is_copied b.graph path then o else None) (among (source_of b.graph.variants b.graph.top path))
    where
      among : (o : Option Path) → source_among g inputs.declared around o ≡ means.source_among b.graph b.tree o
      among None = refl
      among (Some source) = ap (λ c. if c then Some source else None) (source_same source)

  -- what a rule makes is known
  pub made_known : (node r : ℕ) (path : Path) → slice_get g.nodes node ≡ Some path → rule_of g.rules node ≡ Some r → means.is_known b.graph b.tree path ≡ true
  made_known node r path at of =
      let there = rule_there node r path at of in
      elim (either r there.0 there.1) [
        | inl front ↦ ap (λ o. is_some o || (is_some (means.copied_from b.graph b.tree path) || is_some (b.tree path))) (declared_at r there.0 path front there.2)
        | inr back ↦ second (read.is_declared b.graph path) (is_some (means.copied_from b.graph b.tree path)) (is_some (b.tree path)) (copied_at there.0 path back.1 there.2)
      ]
    where
      second : (c d e : Bool) → d ≡ true → (c || (d || e)) ≡ true
      second true d e h = refl
      second false d e h = ap (λ x. x || e) h

  -- what no rule makes is known where a file stood or it has a copy rule
  pub unmade_known : (node : ℕ) (path : Path) → slice_get g.nodes node ≡ Some path → rule_of g.rules node ≡ None
      → means.is_known b.graph b.tree path ≡ (is_some (means.copied_from b.graph b.tree path) || is_some (b.tree path))
  unmade_known node path at none =
      ap (λ o. is_some o || (is_some (means.copied_from b.graph b.tree path) || is_some (b.tree path)))
      ((are_rules b g is.reading now is.grown).undeclared node path at none)

-- what a path is copied from, by what is found now
pub from_found : (b : Begun) (g : RuleGraph) (inputs : Inputs) (before after : Around) (path : Path) (source : Option Path) → IsReading g → Asks before after
    → source ≡ copied_from g inputs.declared after path → AreTrue b g inputs before → source ≡ means.copied_from b.graph b.tree path
from_found b g inputs before after path source now asks found is = found ∙ from_same b g inputs after (asked b g inputs before after asks is) now path

-- whether a path has a copy rule, by what is found now
pub has_copied : (b : Begun) (g : RuleGraph) (inputs : Inputs) (before after : Around) (path : Path) (source : Option Path) → IsReading g → Asks before after
    → source ≡ copied_from g inputs.declared after path → AreTrue b g inputs before → is_some source ≡ is_some (means.copied_from b.graph b.tree path)
has_copied b g inputs before after path source now asks found is =
    ap is_some (from_found b g inputs before after path source now asks found is)

pub rule_none : (r : Option RuleId) (o : Option ℕ) → option_map (λ id. id.0) r ≡ o → is_some r ≡ false → o ≡ None
rule_none None o same none = sym same
rule_none (Some id) o same none = true_false none

rule_some : (r : Option RuleId) (o : Option ℕ) → option_map (λ id. id.0) r ≡ o → is_some r ≡ true → (n : ℕ) × (o ≡ Some n)
rule_some None o same some = true_false (sym some)
rule_some (Some id) o same some = (id.0, sym same)

-- a node without a rule has a path that no rule makes
pub unmade_node : (g : RuleGraph) (node : ℕ) (r : Option RuleId) → AreApart g.nodes → option_map (λ id. id.0) r ≡ rule_of g.rules node → is_some r ≡ false
    → IsUnmade g node
unmade_node g node r apart of none = λ path at. ap (has_rule g.rules) (apart node path at) ∙ ap is_some (rule_none r (rule_of g.rules node) of none)

-- a node with a rule has a path that is known
pub known_made : (b : Begun) (g : RuleGraph) (inputs : Inputs) (around : Around) (node : ℕ) (path : Path) (r : Option RuleId) → IsReading g
    → option_map (λ id. id.0) r ≡ rule_of g.rules node → is_some r ≡ true → slice_get g.nodes node ≡ Some path → AreTrue b g inputs around
    → true ≡ means.is_known b.graph b.tree path
known_made b g inputs around node path r now of some at is =
    let number = rule_some r (rule_of g.rules node) of some in
    sym (made_known b g inputs around is now node number.0 path at number.1)

-- one without is known by its file or its copy rule
pub known_unmade : (b : Begun) (g : RuleGraph) (inputs : Inputs) (around : Around) (node : ℕ) (path : Path) (r : Option RuleId) → IsReading g
    → option_map (λ id. id.0) r ≡ rule_of g.rules node → is_some r ≡ false → slice_get g.nodes node ≡ Some path → AreTrue b g inputs around
    → means.is_known b.graph b.tree path ≡ (is_some (means.copied_from b.graph b.tree path) || is_some (b.tree path))
known_unmade b g inputs around node path r now of none at is =
    unmade_known b g inputs around is now node path at (rule_none r (rule_of g.rules node) of none)

-- a file stood there
pub known_file : (copied file known : Bool) → known ≡ (copied || file) → true ≡ file → true ≡ known
known_file true file known same is = sym same
known_file false file known same is = is ∙ sym same

-- no file did
pub known_copied : (r : Result Bool ListEnd) (copied file known : Bool) → known ≡ (copied || file) → false ≡ file → IfOk r (λ has. has ≡ copied) → IfOk r (λ is. is ≡ known)
known_copied r copied file known same is has = subst (λ x. IfOk r (λ is. is ≡ x)) (sym (same ∙ ap (λ f. copied || f) (sym is) ∙ or_false copied)) has
  where
    or_false : (c : Bool) → (c || false) ≡ c
    or_false true = refl
    or_false false = refl
