-- Rules that are put on the steps of the walk.
use Rattle.std.proofs.Common.{◌≡◌, ◌∙◌, ℕ, zero, suc, List, [], ◌∷◌, ◌++◌, Option, Some, None, ap, sym, refl, drop, append_assoc}
use Rattle.std.specs.Prelude.{slice_get, Result, Ok, Err, OnOk}
use Rattle.std.specs.Option.{option_map}
use Rattle.std.specs.List.{cons_option}
use Rattle.std.proofs.lemmas.List.Elements.{filter_map-append}
use Rattle.std.proofs.lemmas.Option.{same_Some, none-some}
use Rattle.scons_base.specs.declared.ids.NodeId.{NodeId}
use Rattle.scons_base.specs.declared.ids.RuleId.{RuleId}
use Rattle.scons_base.specs.declared.memory.Memory.{Memory}
use Rattle.rule_graph.specs.Graphs.{RuleGraph}
use Rattle.rule_graph.specs.Rules.{rule_of}
use Rattle.rule_graph.specs.declared.rule.Rule.{Rule}
use Rattle.task_plan.specs.Rooted.{makers_in}
use Rattle.scons_report.specs.Cleans.{named_in, with_entered}
use Rattle.scons_report.specs.declared.clean.Step.{Step}
use Rattle.scons_report.specs.declared.clean.Step.TheVariants.{Enter}

entered_append : (steps : List Step) (front rest : List RuleId) → with_entered (with_entered steps rest) front ≡ with_entered steps (front ++ rest)
entered_append steps [] rest = refl
entered_append steps (rule ∷ front) rest = ap (λ s. s ++ Enter rule ∷ []) (entered_append steps front rest)

drop_here : {X : Type 0} (xs : List X) (place : ℕ) (x : X) → slice_get xs place ≡ Some x → drop place xs ≡ (x ∷ []) ++ drop (suc place) xs
drop_here [] zero x e = absurd (none-some x e)
drop_here [] (suc place) x e = absurd (none-some x e)
drop_here (y ∷ xs) zero x e = ap (λ z. z ∷ xs) (same_Some y x e)
drop_here (y ∷ xs) (suc place) x e = drop_here xs place x e

module _ (g : RuleGraph) where
  makers_append : (front rest : List NodeId) → makers_in g (front ++ rest) ≡ makers_in g front ++ makers_in g rest
  makers_append front rest = filter_map-append (λ (n : NodeId). option_map (λ (r : ℕ). let id : RuleId = record { 0 = r } in id) (rule_of g.rules n.0)) front rest

  -- the rules of some nodes, and then those of nodes before them
  pub entered_before : (front rest : List NodeId) (old steps new : List Step) → steps ≡ with_entered old (makers_in g rest)
      → new ≡ with_entered steps (makers_in g front) → new ≡ with_entered old (makers_in g (front ++ rest))
  entered_before front rest old steps new e f =
      f ∙ ap (λ s. with_entered s (makers_in g front)) e ∙ entered_append old (makers_in g front) (makers_in g rest)
      ∙ ap (with_entered old) (sym (makers_append front rest))

  -- the rule of one node more
  pub entered_more : (nodes : List NodeId) (place : ℕ) (node : NodeId) (old steps new : List Step) → slice_get nodes place ≡ Some node
      → steps ≡ with_entered old (makers_in g (drop (suc place) nodes)) → new ≡ with_entered steps (makers_in g (node ∷ []))
      → new ≡ with_entered old (makers_in g (drop place nodes))
  entered_more nodes place node old steps new at e f =
      entered_before (node ∷ []) (drop (suc place) nodes) old steps new e f
      ∙ ap (λ l. with_entered old (makers_in g l)) (sym (drop_here nodes place node at))

  by_rule : (o : Option ℕ) (rule : RuleId) → option_map (λ (id : RuleId). id.0) (Some rule) ≡ o
      → cons_option (option_map (λ (r : ℕ). let id : RuleId = record { 0 = r } in id) o) [] ≡ rule ∷ []
  by_rule None rule e = absurd (none-some rule.0 (sym e))
  by_rule (Some n) rule e = ap (λ (r : ℕ). let id : RuleId = record { 0 = r } in id ∷ []) (sym (same_Some rule.0 n e))

  by_none : (o : Option ℕ) → None ≡ o → cons_option (option_map (λ (r : ℕ). let id : RuleId = record { 0 = r } in id) o) [] ≡ []
  by_none None e = refl
  by_none (Some n) e = absurd (none-some n e)

  -- the rule of one node
  pub entered_one : (node : NodeId) (rule : RuleId) (steps : List Step) → option_map (λ (id : RuleId). id.0) (Some rule) ≡ rule_of g.rules node.0
      → steps ++ Enter rule ∷ [] ≡ with_entered steps (makers_in g (node ∷ []))
  entered_one node rule steps e = ap (with_entered steps) (sym (by_rule (rule_of g.rules node.0) rule e))

  -- a node that no rule makes
  pub entered_none : (node : NodeId) (steps : List Step) → None ≡ rule_of g.rules node.0 → steps ≡ with_entered steps (makers_in g (node ∷ []))
  entered_none node steps e = ap (with_entered steps) (sym (by_none (rule_of g.rules node.0) e))

  -- what a rule names, from the last on
  pub entered_named : (r : Rule) (old required libs depends sources : List Step) → required ≡ with_entered old (makers_in g r.required)
      → libs ≡ with_entered required (makers_in g r.libs) → depends ≡ with_entered libs (makers_in g r.depends)
      → sources ≡ with_entered depends (makers_in g r.sources) → sources ≡ with_entered old (makers_in g (named_in r))
  entered_named r old required libs depends sources e f h k =
      let one = entered_before r.libs r.required old required libs e f in
      let two = entered_before r.depends (r.libs ++ r.required) old libs depends one h in
      let three = entered_before r.sources (r.depends ++ (r.libs ++ r.required)) old depends sources two k in
      let same : r.sources ++ (r.depends ++ (r.libs ++ r.required)) ≡ named_in r =
      sym (append_assoc (r.sources ++ r.depends) r.libs r.required ∙ append_assoc r.sources r.depends (r.libs ++ r.required)) in
      three ∙ ap (λ l. with_entered old (makers_in g l)) same

  -- the same, where the last call may fail
  pub entered_last : (r : Rule) (q l d s : List NodeId) (old required libs depends sources : List Step) (result : Result (Unit {0}) Memory)
      → q ≡ r.required → l ≡ r.libs → d ≡ r.depends → s ≡ r.sources → required ≡ with_entered old (makers_in g q)
      → libs ≡ with_entered required (makers_in g l) → depends ≡ with_entered libs (makers_in g d)
      → OnOk result (sources ≡ with_entered depends (makers_in g s)) → OnOk result (sources ≡ with_entered old (makers_in g (named_in r)))
  entered_last r q l d s old required libs depends sources (Ok done) a b c e f h k last =
      entered_named r old required libs depends sources (f ∙ ap (λ n. with_entered old (makers_in g n)) a) (h ∙ ap (λ n. with_entered required (makers_in g n)) b)
      (k ∙ ap (λ n. with_entered libs (makers_in g n)) c) (last ∙ ap (λ n. with_entered depends (makers_in g n)) e)
  entered_last r q l d s old required libs depends sources (Err refused) a b c e f h k last = tt

  -- the rules of nodes before others, where the last call may fail
  pub entered_two : (front rest f r : List NodeId) (old mid new : List Step) (result : Result (Unit {0}) Memory) → f ≡ front → r ≡ rest
      → mid ≡ with_entered old (makers_in g r) → OnOk result (new ≡ with_entered mid (makers_in g f)) → OnOk result (new ≡ with_entered old (makers_in g (front ++ rest)))
  entered_two front rest f r old mid new (Ok done) a b e last =
      entered_before front rest old mid new (e ∙ ap (λ n. with_entered old (makers_in g n)) b) (last ∙ ap (λ n. with_entered mid (makers_in g n)) a)
  entered_two front rest f r old mid new (Err refused) a b e last = tt
