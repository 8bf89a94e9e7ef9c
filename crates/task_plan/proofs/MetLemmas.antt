-- Files that were met stay so, and come from where the graph says.
use Rattle.std.proofs.Common.{arith, ◌≡◌, ◌≢◌, ◌<◌, ◌≤◌, ◌∙◌, ◌⊎◌, inl, inr, ℕ, zero, suc, ◌+◌, List, [], ◌∷◌, ◌++◌, true, false, Some, None, ap, sym, refl, length, set, get_or, take, subst, get_or-set_other, get_or-set_same, length-set}
use Rattle.std.specs.Prelude.{nat_lt, slice_get}
use Rattle.std.specs.List.{list_all}
use Rattle.std.proofs.lemmas.Bool.Decides.{nat_tests}
use Rattle.std.proofs.lemmas.List.{take_all, take_more}
use Rattle.std.proofs.lemmas.List.Folds.{list_all-append}
use Rattle.std.proofs.lemmas.Option.{slice_get_within, get_or_from_slice_get}
use Rattle.scons_base.specs.declared.ids.NodeId.{NodeId}
use Rattle.rule_graph.specs.Rules.{are_below}
use Rattle.rule_graph.specs.Graphs.{RuleGraph}
use Rattle.task_plan.specs.States.{state_of}
use Rattle.task_plan.specs.Settled.{origin_of}
use Rattle.task_plan.specs.Plans.{Planned, AreMet, Stays}
use Rattle.task_plan.specs.Met.{is_met_from, is_met, are_met, IsFrom, AreFrom, HasRoom, KeepsRoom, Finds}
use Rattle.task_plan.specs.declared.states.RuleState.{RuleState}
use Rattle.task_plan.specs.declared.states.RuleState.TheVariants.{Unneeded, Waiting}
use Rattle.task_plan.specs.declared.files.Origin.{Origin}
use Rattle.task_plan.specs.declared.files.Origin.TheVariants.{Unmet, Source, Made}
use Rattle.task_plan.proofs.MarkLemmas.{apart}
use Rattle.task_plan.proofs.ListLemmas.{none_past, and_left, and_right, and_both, list_all_weaker}

pub lt_from : (m n : ℕ) → nat_lt m n ≡ true → m < n
lt_from m n h = grind (arith, nat_tests)

pub keeps_same : (a b : Planned) → b.origins ≡ a.origins → b.states ≡ a.states → KeepsRoom a b
keeps_same a b o s = record {
  met = λ n h. ap (λ x. is_met x n) o ∙ h;
  files = let n = ap length o in omega arith;
  states = let n = ap length s in omega arith;
}

pub keeps_trans : (a b c : Planned) → KeepsRoom a b → KeepsRoom b c → KeepsRoom a c
keeps_trans a b c k l = record { met = λ n h. l.met n (k.met n h); files = omega arith; states = omega arith }

pub room_still : (g : RuleGraph) (a b : Planned) → HasRoom g a → KeepsRoom a b → HasRoom g b
room_still g a b r k = record { files = omega arith; states = omega arith }

needed_by : (x y : RuleState) → (y ≡ x) ⊎ ((x ≡ Unneeded) × (y ≡ Waiting)) → x ≢ Unneeded → y ≢ Unneeded
needed_by x y (inl e) n = λ u. n (sym e ∙ u)
needed_by x y (inr e) n = absurd (n e.0)

-- what is needed stays so
pub record AreNeededStill (a b : Planned) : Type 0 where
  pub still : (r : ℕ) → state_of a.states r ≢ Unneeded → state_of b.states r ≢ Unneeded

pub still_met : (a b : Planned) → AreMet a.states b.states → AreNeededStill a b
still_met a b m = record { still = λ r. needed_by (state_of a.states r) (state_of b.states r) (m.at r) }

pub still_each : (a b : Planned) → ((r : ℕ) → state_of b.states r ≡ state_of a.states r) → AreNeededStill a b
still_each a b e = record { still = λ r n u. n (sym (e r) ∙ u) }

-- rules are met after a while
pub still_after : (a b c : Planned) → b.states ≡ a.states → AreMet b.states c.states → AreNeededStill a c
still_after a b c e m = record { still = λ r n. needed_by (state_of b.states r) (state_of c.states r) (m.at r) (λ u. n (sym (ap (λ s. state_of s r) e) ∙ u)) }

pub still_same : (a b : Planned) → b.states ≡ a.states → AreNeededStill a b
still_same a b e = still_each a b (λ r. ap (λ s. state_of s r) e)

noted_keeps_at : (o : List Origin) (i n : ℕ) (v : Origin) → (n ≡ i) ⊎ (n ≢ i) → origin_of o i ≡ Unmet → is_met_from (origin_of o n) ≡ true → is_met_from (origin_of (set o i v) n) ≡ true
noted_keeps_at o i n v (inl same) e h = let no : false ≡ true = ap is_met_from (sym e) ∙ ap (λ m. is_met_from (origin_of o m)) (sym same) ∙ h in absurd (cc)
noted_keeps_at o i n v (inr ne) e h = ap is_met_from (get_or-set_other o i n v Unmet ne) ∙ h

module _ (g : RuleGraph) where
  from_still : (a b : Planned) (n : ℕ) (o : Origin) → AreNeededStill a b → IsFrom g a.states n o → IsFrom g b.states n o
  from_still a b n Unmet k h = tt
  from_still a b n Source k h = h
  from_still a b n (Made rule) k h = (h.0, k.still rule.0 h.1)

  -- where no further file was met
  pub from_same : (a b : Planned) → AreNeededStill a b → ((n : ℕ) → origin_of b.origins n ≡ origin_of a.origins n) → AreFrom g a → AreFrom g b
  from_same a b k o h = record { each = λ n. subst (IsFrom g b.states n) (sym (o n)) (from_still a b n (origin_of a.origins n) k (h.each n)) }

  set_here : (o : List Origin) (i : ℕ) (v : Origin) → (origin_of (set o i v) i ≡ v) ⊎ (origin_of (set o i v) i ≡ Unmet)
  set_here [] i v = inr refl
  set_here (x ∷ o) zero v = inl refl
  set_here (x ∷ o) (suc i) v = set_here o i v

  from_this : (s : List RuleState) (i : ℕ) (x v : Origin) → (x ≡ v) ⊎ (x ≡ Unmet) → IsFrom g s i v → IsFrom g s i x
  from_this s i x v (inl e) h = subst (IsFrom g s i) (sym e) h
  from_this s i x v (inr e) h = subst (IsFrom g s i) (sym e) tt

  from_noted : (a b : Planned) (i n : ℕ) (v : Origin) → (n ≡ i) ⊎ (n ≢ i) → AreNeededStill a b → IsFrom g b.states i v → IsFrom g a.states n (origin_of a.origins n)
      → IsFrom g b.states n (origin_of (set a.origins i v) n)
  from_noted a b i n v (inl same) k here h =
      subst (λ (m : ℕ). IsFrom g b.states m (origin_of (set a.origins i v) m)) (sym same) (from_this b.states i (origin_of (set a.origins i v) i) v (set_here a.origins i v) here)
  from_noted a b i n v (inr ne) k here h =
      subst (IsFrom g b.states n) (sym (get_or-set_other a.origins i n v Unmet ne)) (from_still a b n (origin_of a.origins n) k h)

  met_this : (a b : Planned) (node : NodeId) (v : Origin) → HasRoom g a → b.origins ≡ set a.origins node.0 v → is_met_from v ≡ true → are_below (length g.nodes) (node ∷ []) ≡ true → is_met b.origins node ≡ true
  met_this a b node v room o m h =
      let lt = lt_from node.0 (length g.nodes) (and_left (nat_lt node.0 (length g.nodes)) true h) in
      ap (λ x. is_met x node) o ∙ ap is_met_from (get_or-set_same a.origins node.0 v Unmet (omega arith)) ∙ m

  -- a file that wasn't met is
  pub finds_noted : (a b : Planned) (node : NodeId) (v : Origin) → HasRoom g a → b.origins ≡ set a.origins node.0 v → AreNeededStill a b → is_met_from v ≡ true → IsFrom g b.states node.0 v → Finds g a b (node ∷ [])
  finds_noted a b node v room o k m here = record {
    met = λ h. and_both (is_met b.origins node) true (met_this a b node v room o m h) refl;
    from = λ h. record {
      each = λ n. subst (λ (x : List Origin). IsFrom g b.states n (origin_of x n)) (sym o) (from_noted a b node.0 n v (apart n node.0) k here (h.each n));
    };
  }

  -- one that was stays so
  pub finds_met : (a : Planned) (node : NodeId) → is_met a.origins node ≡ true → Finds g a a (node ∷ [])
  finds_met a node m = record { met = λ h. and_both (is_met a.origins node) true m refl; from = λ h. h }

  pub finds_none : (a b : Planned) → AreNeededStill a b → ((n : ℕ) → origin_of b.origins n ≡ origin_of a.origins n) → Finds g a b []
  finds_none a b k o = record { met = λ h. refl; from = from_same a b k o }

  pub finds_stays : (a b : Planned) → Stays a b → Finds g a b []
  finds_stays a b s = finds_none a b (still_same a b s.states) (λ n. ap (λ o. origin_of o n) s.origins)

  pub finds_same : (a b : Planned) → b ≡ a → Finds g a b []
  finds_same a b e = finds_none a b (still_same a b (ap (λ p. p.states) e)) (λ n. ap (λ p. origin_of p.origins n) e)

  met_still : (b c : Planned) (xs : List NodeId) → KeepsRoom b c → are_met b.origins xs ≡ true → are_met c.origins xs ≡ true
  met_still b c xs k h = list_all_weaker (λ n. is_met b.origins n) (λ n. is_met c.origins n) xs k.met h

  -- these files, and then those
  pub finds_then : (a b c : Planned) (xs ys : List NodeId) → Finds g a b xs → KeepsRoom b c → Finds g b c ys → Finds g a c (xs ++ ys)
  finds_then a b c xs ys l k m =
      let below = λ (t : NodeId). nat_lt t.0 (length g.nodes) in
      let met = λ (n : NodeId). is_met c.origins n in
      record {
        met = λ h.
            let both = sym (list_all-append below xs ys) ∙ h in
            list_all-append met xs ys
            ∙ and_both (list_all met xs) (list_all met ys) (met_still b c xs k (l.met (and_left (list_all below xs) (list_all below ys) both)))
            (m.met (and_right (list_all below xs) (list_all below ys) both));
        from = λ h. m.from (l.from h);
      }

  -- these files, and none
  pub finds_on : (a b c : Planned) (xs : List NodeId) → Finds g a b xs → KeepsRoom b c → Finds g b c [] → Finds g a c xs
  finds_on a b c xs l k m = record { met = λ h. met_still b c xs k (l.met h); from = λ h. m.from (l.from h) }

  -- a rule is admitted
  pub finds_one : (a b c d e : Planned) (xs : List NodeId) → b.states ≡ a.states → b.origins ≡ a.origins → Finds g b c xs → Stays c d → Stays d e → Finds g a e []
  finds_one a b c d e xs s o k u v = record {
    met = λ h. refl;
    from = λ h. (finds_stays d e v).from ((finds_stays c d u).from (k.from (from_same a b (still_same a b s) (λ n. ap (λ x. origin_of x n) o) h)));
  }

  -- none, and then these
  pub finds_before : (a b c : Planned) (xs : List NodeId) → Finds g a b [] → Finds g b c xs → Finds g a c xs
  finds_before a b c xs l m = record { met = m.met; from = λ h. m.from (l.from h) }

  -- one file more of some
  pub finds_more : (a b c : Planned) (xs : List NodeId) (i : ℕ) (d : NodeId) → i < length xs → Finds g a b (take i xs) → KeepsRoom b c → Finds g b c (get_or xs i d ∷ []) → Finds g a c (take (i + 1) xs)
  finds_more a b c xs i d lt l k m = subst (Finds g a c) (sym (take_more xs i d lt)) (finds_then a b c (take i xs) (get_or xs i d ∷ []) l k m)

  -- the file at a place
  pub finds_next : (a b c : Planned) (xs : List NodeId) (i : ℕ) (n : NodeId) → slice_get xs i ≡ Some n → Finds g a b (take i xs) → KeepsRoom b c → Finds g b c (n ∷ []) → Finds g a c (take (i + 1) xs)
  finds_next a b c xs i n at l k m =
      let this : n ≡ get_or xs i n = sym (get_or_from_slice_get xs i n n at) in
      finds_more a b c xs i n (slice_get_within xs i n at) l k (subst (λ (x : NodeId). Finds g b c (x ∷ [])) this m)

  pub finds_all : (a b : Planned) (xs : List NodeId) (i : ℕ) → length xs ≤ i → Finds g a b (take i xs) → Finds g a b xs
  finds_all a b xs i le l = subst (Finds g a b) (take_all i xs le) l

  pub finds_end : (a b : Planned) (xs : List NodeId) (i : ℕ) → slice_get xs i ≡ None → Finds g a b (take i xs) → Finds g a b xs
  finds_end a b xs i e l = finds_all a b xs i (none_past xs i e) l

  pub finds_nothing : (a : Planned) (xs : List NodeId) → Finds g a a (take 0 xs)
  finds_nothing a xs = record { met = λ h. refl; from = λ h. h }

-- a file was met, and there is room for as much as there was
pub keeps_noted : (a b : Planned) (i : ℕ) (v : Origin) → origin_of a.origins i ≡ Unmet → b.origins ≡ set a.origins i v → b.states ≡ a.states → KeepsRoom a b
keeps_noted a b i v e o s = record {
  met = λ n h. ap (λ x. is_met x n) o ∙ noted_keeps_at a.origins i n.0 v (apart n.0 i) e h;
  files = let n = ap length o in let m = length-set a.origins i v in omega arith;
  states = let n = ap length s in omega arith;
}
