-- Where nothing can go on, nothing failed and no rule waits for itself, each needed rule is settled.
use Rattle.std.proofs.Common.{arith, ◌≡◌, ◌≢◌, ◌<◌, ◌≤◌, ◌∙◌, ◌⊎◌, inl, inr, ℕ, zero, suc, ◌+◌, ◌-◌, List, [], ◌∷◌, ◌++◌, Bool, true, false, ◌||◌, eqb, ap, sym, refl, length, drop, Some, subst, length-append}
use Rattle.std.specs.Prelude.{slice_get, nat_eq, ltb}
use Rattle.std.specs.List.{list_any, list_all, IsDistinct, AllByRecursion}
use Rattle.std.proofs.lemmas.Bool.{ltb-true, ltb-false}
use Rattle.std.proofs.lemmas.Bool.Decides.{nat_tests}
use Rattle.std.proofs.lemmas.List.{get_or_past}
use Rattle.std.proofs.lemmas.List.Folds.{list_any-append, list_all-append}
use Rattle.std.proofs.lemmas.Map.Steps.{length-le_from_distinct_below}
use Rattle.std.proofs.lemmas.Option.{same_Some, none-some}
use Rattle.scons_base.specs.declared.ids.NodeId.{NodeId}
use Rattle.scons_base.specs.declared.ids.RuleId.{RuleId}
use Rattle.rule_graph.specs.Graphs.{RuleGraph}
use Rattle.task_plan.specs.States.{state_of}
use Rattle.task_plan.specs.Settled.{Kept, origin_of, is_settled, is_done_from}
use Rattle.task_plan.specs.Plans.{Planned}
use Rattle.task_plan.specs.Met.{is_met, is_met_from, IsFrom, AreFrom, AllMet}
use Rattle.task_plan.specs.Admits.{queues, Fits}
use Rattle.task_plan.specs.Cycles.{is_unsettled, WaitsFor, IsChain, IsLed, HasNoCycle}
use Rattle.task_plan.specs.Watched.{IsHeldUp, IsStill, IsGoingOn, IsFinished}
use Rattle.task_plan.specs.declared.states.RuleState.{RuleState}
use Rattle.task_plan.specs.declared.states.RuleState.TheVariants.{Unneeded, Waiting, Running, Settled, Failed, Lacking}
use Rattle.task_plan.specs.declared.files.Origin.{Origin}
use Rattle.task_plan.specs.declared.files.Origin.TheVariants.{Unmet, Source, Made}
use Rattle.task_plan.proofs.PlanLemmas.{true_false}
use Rattle.task_plan.proofs.ListLemmas.{all_by, and_both, get-behind}
use Rattle.task_plan.proofs.CycleLemmas.{led_none, chain_more, cycle_from}

waits_by : (x : RuleState) → x ≢ Unneeded → x ≢ Settled → IsGoingOn x → x ≡ Waiting
waits_by Unneeded n s g = absurd (n refl)
waits_by Waiting n s g = refl
waits_by Running n s g = absurd g
waits_by Settled n s g = absurd (s refl)
waits_by Failed n s g = absurd g
waits_by Lacking n s g = absurd g

settled_or : (x : RuleState) → (x ≡ Settled) ⊎ (x ≢ Settled)
settled_or Unneeded = inr (λ e. cc)
settled_or Waiting = inr (λ e. cc)
settled_or Running = inr (λ e. cc)
settled_or Settled = inl refl
settled_or Failed = inr (λ e. cc)
settled_or Lacking = inr (λ e. cc)

not_settled : (x : RuleState) → is_settled x ≡ false → x ≢ Settled
not_settled x f = λ e. true_false (is_settled x) (ap is_settled e) f

not_unneeded : (x : RuleState) → x ≡ Waiting → x ≢ Unneeded
not_unneeded x e = λ u. let no_way : Waiting ≡ Unneeded = sym e ∙ u in cc

waiting_below : (states : List RuleState) (r : ℕ) → state_of states r ≡ Waiting → r < length states
waiting_below states r w = by (ltb r (length states)) refl
  where
    by : (x : Bool) → ltb r (length states) ≡ x → r < length states
    by true e = ltb-true r (length states) e
    by false e = let unneeded : Unneeded ≡ Waiting = sym (get_or_past states r Unneeded (ltb-false r (length states) e)) ∙ w in absurd (cc)

apart_each : (x : ℕ) (xs : List ℕ) → list_any (eqb x) xs ≡ false → AllByRecursion (λ y. eqb x y ≡ false) xs
apart_each x [] h = tt
apart_each x (y ∷ xs) h = (or_left (eqb x y) (list_any (eqb x) xs) h, apart_each x xs (or_right (eqb x y) (list_any (eqb x) xs) h))
  where
    or_left : (p q : Bool) → (p || q) ≡ false → p ≡ false
    or_left true q h = h
    or_left false q h = refl

    or_right : (p q : Bool) → (p || q) ≡ false → q ≡ false
    or_right true q h = absurd (cc)
    or_right false q h = h

distinct_none : IsDistinct eqb []
unfolding IsDistinct
distinct_none = tt

distinct_more : (x : ℕ) (xs : List ℕ) → list_any (eqb x) xs ≡ false → IsDistinct eqb xs → IsDistinct eqb (x ∷ xs)
unfolding IsDistinct
distinct_more x xs h d = (apart_each x xs h, d)

-- the place of a rule in a chain
pub place_in : (chain : List RuleId) (rule : RuleId) → queues chain rule.0 ≡ true → (i : ℕ) × (slice_get chain i ≡ Some rule)
place_in [] rule h = absurd (cc)
place_in (x ∷ chain) rule h = by (nat_eq x.0 rule.0) refl h (place_in chain rule)
  where
    same_rule : (m n : ℕ) → nat_eq m n ≡ true → m ≡ n
    same_rule m n h = grind (arith, nat_tests)

    by : (b : Bool) → nat_eq x.0 rule.0 ≡ b → (b || queues chain rule.0) ≡ true → (queues chain rule.0 ≡ true → (i : ℕ) × (slice_get chain i ≡ Some rule)) → (i : ℕ) × (slice_get (x ∷ chain) i ≡ Some rule)
    by true e s f = (0, ap (λ y. let r : RuleId = record { 0 = y } in Some r) (same_rule x.0 rule.0 e))
    by false e s f = let k = f s in (suc k.0, k.1)

-- a rule that another one waits for
record IsNextOf (p : Planned) (rule : RuleId) : Type 0 where
  other : RuleId
  waits : state_of p.states other.0 ≡ Waiting
  needs : WaitsFor p.states p.rules p.origins rule other

module _ (g : RuleGraph) (p : Planned) (still : IsStill p) (met : AllMet p) (from : AreFrom g p) (fits : Fits g p) (going : (rule : ℕ) → IsGoingOn (state_of p.states rule)) (free : HasNoCycle p.states p.rules p.origins) where
  next_by : (rule : RuleId) (kept : Kept) → state_of p.states rule.0 ≡ Waiting → slice_get p.rules rule.0 ≡ Some kept → (h : IsHeldUp p kept) → is_met p.origins h.file ≡ true → (o : Origin) → origin_of p.origins h.file.0 ≡ o → IsNextOf p rule
  next_by rule kept w at h m Unmet e = absurd (let no_way : false ≡ true = sym (ap is_met_from e) ∙ m in cc)
  next_by rule kept w at h m Source e = absurd (let no_way : true ≡ false = sym (ap (is_done_from p.states) e) ∙ h.undone in cc)
  next_by rule kept w at h m (Made other) e =
      let k : IsFrom g p.states h.file.0 (Made other) = subst (IsFrom g p.states h.file.0) e (from.each h.file.0) in
      let unsettled : is_settled (state_of p.states other.0) ≡ false = sym (ap (is_done_from p.states) e) ∙ h.undone in
      record {
        other = other;
        waits = waits_by (state_of p.states other.0) k.1 (not_settled (state_of p.states other.0) unsettled) (going other.0);
        needs = record { unsettled = ap is_unsettled w; kept = kept; at = at; needs = record { place = h.place; file = h.file; at = h.at; made = e } };
      }

  next_of_rule : (rule : RuleId) → state_of p.states rule.0 ≡ Waiting → IsNextOf p rule
  next_of_rule rule w =
      let ne = not_unneeded (state_of p.states rule.0) w in
      let k = fits rule.0 ne in
      let h = still.waits rule.0 k.kept w k.is in
      let m = met.each rule.0 k.kept ne k.is in
      let test = λ (n : NodeId). is_met p.origins n in
      let all : list_all test (k.kept.required ++ k.kept.deps) ≡ true =
      list_all-append test k.kept.required k.kept.deps ∙ and_both (list_all test k.kept.required) (list_all test k.kept.deps) m.required m.deps in
      next_by rule k.kept w k.is h (all_by test (k.kept.required ++ k.kept.deps) h.place h.file (is_met p.origins h.file) refl all h.at) (origin_of p.origins h.file.0) refl

  led_more : (chain : List RuleId) (rule other : RuleId) → WaitsFor p.states p.rules p.origins rule other → IsLed p.states p.rules p.origins (chain ++ rule ∷ []) other
  led_more chain rule other w = record {
    last = λ n a e at.
        let len = length-append chain (rule ∷ []) in
        let past : length chain ≤ n = omega arith in
        let first : n - length chain ≡ 0 = omega arith in
        let here : slice_get (rule ∷ []) 0 ≡ Some a = ap (slice_get (rule ∷ [])) (sym first) ∙ sym (get-behind chain (rule ∷ []) n past) ∙ at in
        subst (λ (x : RuleId). WaitsFor p.states p.rules p.origins x other) (same_Some rule a here) w;
  }

  abbrev GoesOn : ℕ → Type 0
  GoesOn fuel = (chain : List RuleId) (xs : List ℕ) (rule : RuleId) → length p.states < fuel + length xs → IsChain p.states p.rules p.origins chain → IsLed p.states p.rules p.origins chain rule → state_of p.states rule.0 ≡ Waiting
      → IsDistinct eqb xs → ((q : ℕ) → list_any (eqb q) xs ≡ true → q < length p.states) → ((q : ℕ) → list_any (eqb q) xs ≡ queues chain q) → ⊥

  -- a chain of rules that wait goes on for ever, so it comes back
  goes_on : (fuel : ℕ) (chain : List RuleId) (xs : List ℕ) (rule : RuleId) → length p.states < fuel + length xs → IsChain p.states p.rules p.origins chain → IsLed p.states p.rules p.origins chain rule
      → state_of p.states rule.0 ≡ Waiting → IsDistinct eqb xs → ((q : ℕ) → list_any (eqb q) xs ≡ true → q < length p.states) → ((q : ℕ) → list_any (eqb q) xs ≡ queues chain q) → ⊥
  goes_on zero chain xs rule few c l w d below same = let le = length-le_from_distinct_below xs (length p.states) d below in omega arith
  goes_on (suc fuel) chain xs rule few c l w d below same = by (λ ys zs next f m k v e b s. goes_on fuel ys zs next f m k v e b s) (queues chain rule.0) refl
    where
      eq_turns : (m n : ℕ) → eqb m n ≡ nat_eq n m
      eq_turns m n = grind (arith, nat_tests)

      or_split : (x y : Bool) → (x || y) ≡ true → (x ≡ true) ⊎ (y ≡ true)
      or_split true y h = inl refl
      or_split false y h = inr h

      or_turns : (x y : Bool) → (x || y) ≡ (y || (x || false))
      or_turns true true = refl
      or_turns true false = refl
      or_turns false true = refl
      or_turns false false = refl

      below_by : (q : ℕ) → (eqb q rule.0 ≡ true) ⊎ (list_any (eqb q) xs ≡ true) → q < length p.states
      below_by q (inl e) = let s : q ≡ rule.0 = grind (arith, nat_tests) in let lt = waiting_below p.states rule.0 w in omega arith
      below_by q (inr e) = below q e

      by : GoesOn fuel → (x : Bool) → queues chain rule.0 ≡ x → ⊥
      by go true h = let i = place_in chain rule h in free.none (drop i.0 chain) (cycle_from p.states p.rules p.origins chain i.0 rule (record { linked = c; among = h; led = l }) i.1)
      by go false h =
          let n = next_of_rule rule w in
          go (chain ++ rule ∷ []) (rule.0 ∷ xs) n.other (omega arith) (chain_more p.states p.rules p.origins chain rule c l) (led_more chain rule n.other n.needs) n.waits (distinct_more rule.0 xs (same rule.0 ∙ h) d)
          (λ q e. below_by q (or_split (eqb q rule.0) (list_any (eqb q) xs) e))
          (λ q. ap (λ x. x || list_any (eqb q) xs) (eq_turns q rule.0) ∙ ap (λ x. nat_eq rule.0 q || x) (same q) ∙ or_turns (nat_eq rule.0 q) (queues chain q) ∙ sym (list_any-append (λ x. nat_eq x.0 q) chain (rule ∷ [])))

  -- each needed rule is settled
  pub finished : IsFinished p
  finished = record { each = λ rule needed. by rule needed (settled_or (state_of p.states rule)) }
    where
      by : (rule : ℕ) → state_of p.states rule ≢ Unneeded → (state_of p.states rule ≡ Settled) ⊎ (state_of p.states rule ≢ Settled) → state_of p.states rule ≡ Settled
      by rule needed (inl e) = e
      by rule needed (inr ne) =
          let w = waits_by (state_of p.states rule) needed ne (going rule) in
          let r : RuleId = record { 0 = rule } in
          absurd (goes_on (suc (length p.states)) [] [] r (omega arith) (record { each = λ n a b e f. absurd (none-some a e) }) (led_none p.states p.rules p.origins r) w distinct_none (λ q e. absurd (let no_way : false ≡ true = e in cc)) (λ q. refl))
