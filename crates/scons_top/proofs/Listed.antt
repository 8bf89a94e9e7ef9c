-- The declared targets, listed rule by rule and sorted.
use Rattle.std.proofs.Common.{◌≡◌, ◌∙◌, ◌≤◌, ◌<◌, ◌+◌, ◌⊎◌, inl, inr, ap, sym, subst, refl, ℕ, Bool, true, false, List, [], ◌∷◌, ◌++◌, Some, length, take, get_or, append-nil, append_assoc, arith, None, Ordering, Less, Equal, Greater}
use Rattle.std.specs.Prelude.{slice_get}
use Rattle.std.specs.List.{flat_map}
use Rattle.std.specs.List.Sorted.{IsPermutation, IsSorted, IsSortedBy}
use Rattle.std.specs.Cmp.Lexicographic.{slice_cmp}
use Rattle.std.specs.Ordering.{is_lt, nat_cmp, ordering_then}
use Rattle.std.proofs.lemmas.List.{take_all, take_more}
use Rattle.std.proofs.lemmas.List.Concat.{flat_map-append}
use Rattle.std.proofs.lemmas.Option.{slice_get_cases}
use Rattle.scons_base.specs.declared.ids.NodeId.{NodeId}
use Rattle.rule_graph.specs.Graphs.{RuleGraph}
use Rattle.rule_graph.specs.declared.rule.Rule.{Rule}
use Rattle.scons_top.specs.Below.{AddsTargets, AreInOrder, AreListed, goes_before, targets_in, with_paths}

pub listed_more : (g : RuleGraph) (number : ℕ) (old new : List (List ℕ × NodeId)) → number < length g.rules → old ≡ targets_in g (take number g.rules) → AddsTargets g number old new
    → new ≡ targets_in g (take (number + 1) g.rules)
listed_more g number old new lt was adds = by_rule (slice_get_cases g.rules number).1
  where
    by_rule : ((rule : Rule) × (number < length g.rules) × (slice_get g.rules number ≡ Some rule) × (get_or g.rules number rule ≡ rule)) ⊎ ((length g.rules ≤ number) × (slice_get g.rules number ≡ None))
        → new ≡ targets_in g (take (number + 1) g.rules)
    by_rule (inl at) =
        let rule = at.0 in
        let more : take (number + 1) g.rules ≡ take number g.rules ++ rule ∷ [] = take_more g.rules number rule lt ∙ ap (λ (r : Rule). take number g.rules ++ r ∷ []) at.3 in
        adds rule at.2 ∙ ap (λ (front : List (List ℕ × NodeId)). front ++ with_paths g rule.targets) was
        ∙ ap (λ (last : List (List ℕ × NodeId)). targets_in g (take number g.rules) ++ last) (sym (append-nil (with_paths g rule.targets)))
        ∙ sym (flat_map-append (λ (r : Rule). with_paths g r.targets) (take number g.rules) (rule ∷ [])) ∙ sym (ap (targets_in g) more)
    by_rule (inr past) = absurd (let le = past.0 in omega (arith, lt, le))

pub listed_all : (g : RuleGraph) (number : ℕ) (targets : List (List ℕ × NodeId)) → length g.rules ≤ number → targets ≡ targets_in g (take number g.rules) → targets ≡ targets_in g g.rules
listed_all g number targets le is = is ∙ ap (targets_in g) (take_all number g.rules le)

-- what is sorted by paths and nodes is sorted by paths
pub path_first : (first rest : Ordering) → is_lt (ordering_then first rest) ≡ false → is_lt first ≡ false
path_first Less rest is = is
path_first Equal rest is = refl
path_first Greater rest is = refl
