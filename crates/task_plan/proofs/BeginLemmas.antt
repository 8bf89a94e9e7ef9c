-- The roots are the rules of the requested nodes, and the queue keeps to the build order from the beginning on.
use Rattle.std.proofs.Common.{◌≢◌, ◌≡◌, ◌<◌, ◌≤◌, ◌∙◌, ◌⊎◌, inl, inr, ⊎_elim, ℕ, ◌+◌, List, [], ◌∷◌, ◌++◌, Bool, true, false, ◌||◌, Option, Some, None, ap, sym, refl, length, get_or, take, append_assoc, append-nil}
use Rattle.std.specs.Prelude.{nat_eq, nat_lt, slice_get, option_to_list}
use Rattle.std.specs.List.{cons_option}
use Rattle.std.specs.Option.{option_map}
use Rattle.std.proofs.lemmas.List.{take_all, take_more}
use Rattle.std.proofs.lemmas.List.Elements.{filter_map-append}
use Rattle.std.proofs.lemmas.List.Folds.{list_any-append}
use Rattle.scons_base.specs.declared.ids.NodeId.{NodeId}
use Rattle.scons_base.specs.declared.ids.RuleId.{RuleId}
use Rattle.rule_graph.specs.Rules.{rule_of}
use Rattle.rule_graph.specs.Graphs.{RuleGraph}
use Rattle.task_plan.specs.States.{state_of}
use Rattle.task_plan.specs.Settled.{Kept, origin_of}
use Rattle.task_plan.specs.Plans.{Planned, AreMet, Stays}
use Rattle.task_plan.specs.Met.{is_met, is_met_from, AreFrom, Finds}
use Rattle.task_plan.specs.Orders.{is_among, IsOrder}
use Rattle.task_plan.specs.Rooted.{makers_in}
use Rattle.task_plan.specs.Ordered.{left, is_past, AreNeedsDone, MakesMet, AreRoots, BeginsOrder, KeepsOrder, LeavesOrder, LeavesQueue, MeetsRoots, PutsInOrder}
use Rattle.task_plan.specs.declared.states.RuleState.{RuleState}
use Rattle.task_plan.specs.declared.states.RuleState.TheVariants.{Unneeded, Waiting}
use Rattle.task_plan.proofs.PlanLemmas.{true_false}
use Rattle.task_plan.proofs.ListLemmas.{and_left, and_both}
use Rattle.task_plan.proofs.AdmitLemmas.{lt_true}
use Rattle.task_plan.proofs.MetNeeds.{maker_needed}
use Rattle.task_plan.proofs.ReachedLemmas.{none_among, first_or}
use Rattle.task_plan.proofs.KeptLemmas.{settled_needs, order_left}

-- a rule by its number
abbrev numbered : Option ℕ → Option RuleId
numbered number = option_map (λ n. record { 0 = n }) number

same_numbered : (rule : Option RuleId) → cons_option (numbered (option_map (λ r. r.0) rule)) [] ≡ option_to_list rule
same_numbered None = refl
same_numbered (Some rule) = refl

module _ (g : RuleGraph) where
  -- the rule that the graph answers for a node
  pub makers_one : (node : NodeId) (rule : Option RuleId) → option_map (λ r. r.0) rule ≡ rule_of g.rules node.0 → makers_in g (node ∷ []) ≡ option_to_list rule
  makers_one node rule e = ap (λ number. cons_option (numbered number) []) (sym e) ∙ same_numbered rule

  -- one node more has its rule behind those of the nodes before it
  pub makers_more : (before now next later : List RuleId) (nodes : List NodeId) (i : ℕ) (d : NodeId) → i < length nodes → now ≡ before ++ makers_in g (take i nodes) → next ≡ now
      → later ≡ next ++ makers_in g (get_or nodes i d ∷ []) → later ≡ before ++ makers_in g (take (i + 1) nodes)
  makers_more before now next later nodes i d lt e f l =
      let this = makers_in g (get_or nodes i d ∷ []) in
      l ∙ ap (λ r. r ++ this) (f ∙ e) ∙ append_assoc before (makers_in g (take i nodes)) this
      ∙ ap (λ r. before ++ r) (sym (ap (makers_in g) (take_more nodes i d lt) ∙ filter_map-append (λ (n : NodeId). numbered (rule_of g.rules n.0)) (take i nodes) (get_or nodes i d ∷ [])))

  pub makers_none : (before : List RuleId) (nodes : List NodeId) → before ≡ before ++ makers_in g (take 0 nodes)
  makers_none before nodes = sym (append-nil before)

  pub makers_all : (before now : List RuleId) (nodes : List NodeId) (i : ℕ) → length nodes ≤ i → now ≡ before ++ makers_in g (take i nodes) → now ≡ before ++ makers_in g nodes
  makers_all before now nodes i le e = e ∙ ap (λ n. before ++ makers_in g n) (take_all i nodes le)

  -- the roots stay, then the rules of these nodes come, and they stay
  pub makers_begun : (before first met last : List RuleId) (nodes : List NodeId) → first ≡ before → met ≡ first ++ makers_in g nodes → last ≡ met → last ≡ before ++ makers_in g nodes
  makers_begun before first met last nodes e f l = l ∙ f ∙ ap (λ r. r ++ makers_in g nodes) e

  only_number : (number : Option ℕ) (rule : ℕ) → is_among rule (cons_option (numbered number) []) ≡ true → number ≡ Some rule
  only_number None rule h = none_among rule h
  only_number (Some n) rule h = let same : n ≡ rule = ⊎_elim (λ e. e) (λ k. none_among rule k) (first_or rule (record { 0 = n }) [] h) in ap (λ (x : ℕ). Some x) same

  only_maker : (node : NodeId) (rule : ℕ) → is_among rule (makers_in g (node ∷ [])) ≡ true → rule_of g.rules node.0 ≡ Some rule
  only_maker node rule h = only_number (rule_of g.rules node.0) rule h

  pub roots_same : (a : Planned) → MeetsRoots g a a
  roots_same a = record { fits = λ h. h; roots = λ r. r }

  pub roots_trans : (a b c : Planned) → MeetsRoots g a b → MeetsRoots g b c → MeetsRoots g a c
  roots_trans a b c l m = record { fits = λ h. l.fits (m.fits h); roots = λ r. m.roots (l.roots r) }

  pub roots_left : (a b : Planned) → LeavesOrder a b → MeetsRoots g a b
  roots_left a b l = record {
    fits = l.queue.fits;
    roots = λ r. record {
      each = λ rule h.
          let k = r.each rule (ap (is_among rule) (sym l.queue.roots) ∙ h) in
          record { node = k.node; made = k.made; met = ap is_met_from (l.origins k.node k.met) ∙ k.met };
    };
  }

  either : (a b : Bool) → (a || b) ≡ true → (a ≡ true) ⊎ (b ≡ true)
  either true b h = inl refl
  either false b h = inr h

  -- the rule of a node is a root, and the node was met if it has one
  roots_pushed : (a b : Planned) (node : NodeId) → b ≡ record a { notes = record a.notes { roots = b.notes.roots } } → b.notes.roots ≡ a.notes.roots ++ makers_in g (node ∷ [])
      → ((rule : ℕ) → rule_of g.rules node.0 ≡ Some rule → is_met a.origins node ≡ true) → MeetsRoots g a b
  roots_pushed a b node e p m = record {
    fits = λ h. sym (ap (λ (x : Planned). x.notes.is_ordered) e) ∙ h;
    roots = λ r. record {
      each = λ rule h.
          let both = sym (list_any-append (λ x. nat_eq x.0 rule) a.notes.roots (makers_in g (node ∷ []))) ∙ ap (is_among rule) (sym p) ∙ h in
          by r rule (either (is_among rule a.notes.roots) (is_among rule (makers_in g (node ∷ []))) both);
    };
  }
    where
      still : (n : NodeId) → is_met a.origins n ≡ true → is_met b.origins n ≡ true
      still n h = ap (λ (x : Planned). is_met x.origins n) e ∙ h

      by : AreRoots g a → (rule : ℕ) → (is_among rule a.notes.roots ≡ true) ⊎ (is_among rule (makers_in g (node ∷ [])) ≡ true) → MakesMet g b rule
      by r rule (inl h) = let k = r.each rule h in record { node = k.node; made = k.made; met = still k.node k.met }
      by r rule (inr h) = let made = only_maker node rule h in record { node = node; made = made; met = still node (m rule made) }

  -- a node is met, and then its rule is a root
  pub roots_added : (a b c : Planned) (node : NodeId) → LeavesOrder a b → Finds g a b (node ∷ []) → ((rule : ℕ) → rule_of g.rules node.0 ≡ Some rule → node.0 < length g.nodes)
      → c ≡ record b { notes = record b.notes { roots = c.notes.roots } } → c.notes.roots ≡ b.notes.roots ++ makers_in g (node ∷ []) → MeetsRoots g a c
  roots_added a b c node l k below e p = roots_trans a b c (roots_left a b l) (roots_pushed b c node e p met)
    where
      met : (rule : ℕ) → rule_of g.rules node.0 ≡ Some rule → is_met b.origins node ≡ true
      met rule made =
          and_left (is_met b.origins node) true (k.met (and_both (nat_lt node.0 (length g.nodes)) true (lt_true node.0 (length g.nodes) (below rule made)) refl))

  pub roots_nothing : (a : Planned) → a.notes.roots ≡ [] → AreRoots g a
  roots_nothing a e = record { each = λ rule h. none_among rule (ap (is_among rule) (sym e) ∙ h) }

  -- there is room, then the roots are met, and then the order is seen to
  pub begins_order : (a b c d : Planned) → LeavesOrder a b → MeetsRoots g b c → Stays c d → PutsInOrder c d → a.notes.roots ≡ [] → a.notes.is_ordered ≡ false → BeginsOrder g d
  begins_order a b c d l m s p none unordered = record { ordered = by p.order; roots = record { each = λ rule h. stands rule h } }
    where
      before : AreRoots g c
      before = m.roots ((roots_left a b l).roots (roots_nothing a none))

      stands : (rule : ℕ) → is_among rule d.notes.roots ≡ true → MakesMet g d rule
      stands rule h =
          let k = before.each rule (ap (is_among rule) (sym p.roots) ∙ h) in
          record { node = k.node; made = k.made; met = ap (λ o. is_met o k.node) s.origins ∙ k.met }

      by : LeavesQueue c d ⊎ IsOrder d.rules d.origins d.notes.roots d.queue.order → d.notes.is_ordered ≡ true → IsOrder d.rules d.origins d.notes.roots d.queue.order
      by (inl q) ok = absurd (true_false a.notes.is_ordered (l.queue.fits (m.fits (q.fits ok))) unordered)
      by (inr o) ok = o

first_past : (s t : RuleState) → s ≡ Unneeded → (t ≡ s) ⊎ ((s ≡ Unneeded) × (t ≡ Waiting)) → is_past t ≡ true → ⊥
first_past s t u (inl e) h = true_false (is_past t) h (ap is_past (e ∙ u))
first_past s t u (inr w) h = true_false (is_past t) h (ap is_past w.1)

-- roots that make met files are needed
pub roots_needed : (graph : RuleGraph) (b : Planned) → AreFrom graph b → AreRoots graph b → (rule : ℕ) → is_among rule b.notes.roots ≡ true → state_of b.states rule ≢ Unneeded
roots_needed graph b from roots rule h = let k = roots.each rule h in maker_needed graph b k.node rule (origin_of b.origins k.node.0) (from.each k.node.0) k.met k.made

-- a plan keeps to the order at first
pub keeps_first : (graph : RuleGraph) (a b : Planned) → ((r : ℕ) → state_of a.states r ≡ Unneeded) → AreMet a.states b.states → AreFrom graph b → BeginsOrder graph b → KeepsOrder b
keeps_first graph a b none m from o = record {
  ordered = λ ok. let i = o.ordered ok in record { met = left b.states i.met; visits = order_left b b.queue.order (settled_needs b done) i };
  done = done;
  roots = roots_needed graph b from o.roots;
}
  where
    done : (rule : ℕ) (kept : Kept) → is_past (state_of b.states rule) ≡ true → slice_get b.rules rule ≡ Some kept → AreNeedsDone b kept
    done rule kept h at = absurd (first_past (state_of a.states rule) (state_of b.states rule) (none rule) (m.at rule) h)
