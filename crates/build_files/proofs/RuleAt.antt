-- A rule of a graph as a rule of the model, whether it was declared or copies.
use Rattle.std.proofs.Common.{◌≡◌, ℕ, Option, Some, None, ap, sym, subst, refl, ◌∙◌}
use Rattle.std.specs.Prelude.{slice_get}
use Rattle.std.specs.Option.{option_map}
use Rattle.deciders.specs.Spelling.{work_byte}
use Rattle.rule_graph.specs.declared.rule.Rule as declared
use Rattle.rule_graph.specs.Graphs.{RuleGraph}
use Rattle.build_model.specs.Rules.{Rule}
use Rattle.build_means.specs.Grown.{Begun, IsGrown, copy_in, or_copy_in, rule_numbered}
use Rattle.build_means.specs.Rules.{rule_in, decider_of, paths_of}
use Rattle.build_means.proofs.Growing.{get_front}
use Rattle.build_means.proofs.Lists.{some_same}

-- what both say alike
pub record IsOfRule (g : RuleGraph) (x : declared.Rule) (r : Rule) : Type 0 where
  pub work : r.work ≡ work_byte x.work
  pub signed : r.signed ≡ x.signed
  pub targets : r.targets ≡ paths_of g x.targets
  pub decider : r.decider ≡ decider_of x.decider
  pub always : r.always ≡ x.always

of_declared : (g : RuleGraph) (x : declared.Rule) → IsOfRule g x (rule_in g x)
of_declared g x = record { work = refl; signed = refl; targets = refl; decider = refl; always = refl }

of_copy : (g : RuleGraph) (x : declared.Rule) → IsOfRule g x (copy_in g x)
of_copy g x = record { work = refl; signed = refl; targets = refl; decider = refl; always = refl }

-- the rule of a number in a grown graph
pub of_rule : (b : Begun) (g : RuleGraph) (grown : IsGrown b g) (number : ℕ) (x : declared.Rule) (r : Rule) → slice_get g.rules number ≡ Some x → rule_numbered b g number ≡ Some r
    → IsOfRule g x r
of_rule b g grown number x r at is = by (slice_get b.graph.rules number) refl
  where
    by : (o : Option declared.Rule) → slice_get b.graph.rules number ≡ o → IsOfRule g x r
    by (Some y) front =
        let there = ap (λ rules. slice_get rules number) grown.rules ∙ get_front b.graph.rules grown.copies number y front in
        let rule : Some (rule_in g y) ≡ Some r = sym (ap (λ o. or_copy_in g o (slice_get g.rules number)) front) ∙ is in
        let same : y ≡ x = some_same (sym there ∙ at) in
        subst (λ q. IsOfRule g x q) (ap (rule_in g) (sym same) ∙ some_same rule) (of_declared g x)
    by None front =
        let rule : Some (copy_in g x) ≡ Some r =
        sym (ap (λ o. or_copy_in g o (slice_get g.rules number)) front ∙ ap (option_map (copy_in g)) at) ∙ is in
        subst (λ q. IsOfRule g x q) (some_same rule) (of_copy g x)
