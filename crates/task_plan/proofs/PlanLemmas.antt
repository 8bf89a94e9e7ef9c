-- What the states of a plan come to, and that what can be decided waits.
use Rattle.std.proofs.Common.{arith, ◌≡◌, ◌≢◌, ◌≤◌, ◌∙◌, ◌⊎◌, inl, inr, ℕ, zero, suc, List, [], ◌∷◌, ◌++◌, Bool, true, false, ap, sym, refl, length, set, get_or-set_other, get_or-set_same, length-set}
use Rattle.std.specs.Prelude.{if◌then◌else◌, ltb}
use Rattle.std.proofs.lemmas.Bool.{ltb-false, ltb-true}
use Rattle.std.proofs.lemmas.List.{get_or_past}
use Rattle.task_plan.specs.States.{state_of, stage, is_running}
use Rattle.task_plan.specs.Queues.{Queued, is_open}
use Rattle.task_plan.specs.Plans.{Planned, AreWaiting, AreMet, Meets, Stays, GoesOn, Goes}
use Rattle.task_plan.specs.declared.states.RuleState.{RuleState}
use Rattle.task_plan.specs.declared.states.RuleState.TheVariants.{Unneeded, Waiting, Running, Settled, Failed, Lacking}
use Rattle.task_plan.specs.declared.want.PlanEvent.{PlanEvent}
use Rattle.task_plan.specs.declared.want.PlanEvent.TheVariants.{Scanned, Fresh, Started, DoneOk, DoneFailed, Absent, Halt}
use Rattle.task_plan.proofs.MarkLemmas.{apart}

pub met_same : (a : List RuleState) → AreMet a a
met_same a = record { at = λ rule. inl refl }

trans_at : (x y z : RuleState) → (y ≡ x) ⊎ ((x ≡ Unneeded) × (y ≡ Waiting)) → (z ≡ y) ⊎ ((y ≡ Unneeded) × (z ≡ Waiting)) → (z ≡ x) ⊎ ((x ≡ Unneeded) × (z ≡ Waiting))
trans_at x y z (inl e) (inl f) = inl (f ∙ e)
trans_at x y z (inl e) (inr f) = inr (sym e ∙ f.0, f.1)
trans_at x y z (inr e) (inl f) = inr (e.0, f ∙ e.1)
trans_at x y z (inr e) (inr f) = inr (e.0, f.1)

pub met_trans : (a b c : List RuleState) → AreMet a b → AreMet b c → AreMet a c
met_trans a b c m n = record { at = λ rule. trans_at (state_of a rule) (state_of b rule) (state_of c rule) (m.at rule) (n.at rule) }

-- the state of a rule after a write
pub set_other : (a : List RuleState) (r x : ℕ) (v : RuleState) → x ≢ r → state_of (set a r v) x ≡ state_of a x
set_other a r x v ne = get_or-set_other a r x v Unneeded ne

set_at : (a : List RuleState) (r : ℕ) (v : RuleState) (b : Bool) → ltb r (length a) ≡ b → (state_of (set a r v) r ≡ v) ⊎ (state_of (set a r v) r ≡ Unneeded)
set_at a r v true e = inl (get_or-set_same a r v Unneeded (ltb-true r (length a) e))
set_at a r v false e = inr (let past = ltb-false r (length a) e in get_or_past (set a r v) r Unneeded (let n = length-set a r v in omega arith))

pub set_this : (a : List RuleState) (r : ℕ) (v : RuleState) → (state_of (set a r v) r ≡ v) ⊎ (state_of (set a r v) r ≡ Unneeded)
set_this a r v = set_at a r v (ltb r (length a)) refl

met_this : (x y : RuleState) → x ≡ Unneeded → (y ≡ Waiting) ⊎ (y ≡ Unneeded) → (y ≡ x) ⊎ ((x ≡ Unneeded) × (y ≡ Waiting))
met_this x y e (inl f) = inr (e, f)
met_this x y e (inr f) = inl (f ∙ sym e)

met_set_at : (a : List RuleState) (r x : ℕ) → state_of a r ≡ Unneeded → (x ≡ r) ⊎ (x ≢ r)
    → (state_of (set a r Waiting) x ≡ state_of a x) ⊎ ((state_of a x ≡ Unneeded) × (state_of (set a r Waiting) x ≡ Waiting))
met_set_at a r x e (inl same) = rw same (met_this (state_of a r) (state_of (set a r Waiting) r) e (set_this a r Waiting))
met_set_at a r x e (inr ne) = inl (set_other a r x Waiting ne)

pub met_set : (a : List RuleState) (r : ℕ) → state_of a r ≡ Unneeded → AreMet a (set a r Waiting)
met_set a r e = record { at = λ x. met_set_at a r x e (apart x r) }

one_none : (r : ℕ) → state_of (Unneeded ∷ []) r ≡ Unneeded
one_none zero = refl
one_none (suc r) = refl

pub add_none : (a : List RuleState) (r : ℕ) → state_of (a ++ Unneeded ∷ []) r ≡ state_of a r
add_none [] r = one_none r
add_none (x ∷ xs) zero = refl
add_none (x ∷ xs) (suc r) = add_none xs r

pub met_add : (a : List RuleState) → AreMet a (a ++ Unneeded ∷ [])
met_add a = record { at = λ r. inl (add_none a r) }

still_waits : (x y : RuleState) → x ≡ Waiting → (y ≡ x) ⊎ ((x ≡ Unneeded) × (y ≡ Waiting)) → y ≡ Waiting
still_waits x y e (inl f) = f ∙ e
still_waits x y e (inr f) = f.1

pub waiting_met : (a b : List RuleState) (q : Queued) → AreWaiting a q → AreMet a b → AreWaiting b q
waiting_met a b q w m = record { waits = λ rule o. still_waits (state_of a rule) (state_of b rule) (w.waits rule o) (m.at rule) }

pub true_false : (b : Bool) → b ≡ true → b ≡ false → ⊥
true_false true e f = cc
true_false false e f = cc

waits_closed : (a : List RuleState) (q p : Queued) (r x : ℕ) (v : RuleState) → AreWaiting a q → is_open p r ≡ false
    → ((x : ℕ) → (x ≡ r → ⊥) → is_open p x ≡ is_open q x) → (x ≡ r) ⊎ (x ≢ r) → is_open p x ≡ true → state_of (set a r v) x ≡ Waiting
waits_closed a q p r x v w this others (inl same) o = absurd (true_false (is_open p r) (let f = λ (n : ℕ). is_open p n in sym (ap f same) ∙ o) this)
waits_closed a q p r x v w this others (inr ne) o = set_other a r x v ne ∙ w.waits x (sym (others x ne) ∙ o)

-- a rule that was closed may go on
pub waiting_closed : (a : List RuleState) (q p : Queued) (r : ℕ) (v : RuleState) → AreWaiting a q → is_open p r ≡ false
    → ((x : ℕ) → (x ≡ r → ⊥) → is_open p x ≡ is_open q x) → AreWaiting (set a r v) p
waiting_closed a q p r v w this others = record { waits = λ x o. waits_closed a q p r x v w this others (apart x r) o }

waits_put : (a : List RuleState) (q p : Queued) (r x : ℕ) → AreWaiting a q → state_of a r ≡ Waiting
    → ((x : ℕ) → (x ≡ r → ⊥) → is_open p x ≡ is_open q x) → (x ≡ r) ⊎ (x ≢ r) → is_open p x ≡ true → state_of a x ≡ Waiting
waits_put a q p r x w e others (inl same) o = rw same e
waits_put a q p r x w e others (inr ne) o = w.waits x (sym (others x ne) ∙ o)

-- a rule that waits may be opened
pub waiting_put : (a : List RuleState) (q p : Queued) (r : ℕ) → AreWaiting a q → state_of a r ≡ Waiting
    → ((x : ℕ) → (x ≡ r → ⊥) → is_open p x ≡ is_open q x) → AreWaiting a p
waiting_put a q p r w e others = record { waits = λ x o. waits_put a q p r x w e others (apart x r) o }

pub waiting_none : (a : List RuleState) (q : Queued) → ((x : ℕ) → is_open q x ≡ false) → AreWaiting a q
waiting_none a q none = record { waits = λ x o. absurd (true_false (is_open q x) o (none x)) }

on_met : (x y : RuleState) → (y ≡ x) ⊎ ((x ≡ Unneeded) × (y ≡ Waiting)) → stage x ≤ stage y
on_met x y (inl e) = rw e (omega arith)
on_met x y (inr e) = rw (e.0, e.1) (omega arith)

pub on_meets : (a b : List RuleState) → AreMet a b → GoesOn a b
on_meets a b m = record { on = λ rule. on_met (state_of a rule) (state_of b rule) (m.at rule) }

pub on_same : (a b : List RuleState) → b ≡ a → GoesOn a b
on_same a b e = record { on = λ rule. rw e (omega arith) }

low : (x : RuleState) → x ≡ Unneeded → stage x ≡ 0
low x e = rw e refl

on_this : (a : List RuleState) (r : ℕ) (v : RuleState) → stage (state_of a r) ≤ stage v → (b : Bool) → ltb r (length a) ≡ b → stage (state_of a r) ≤ stage (state_of (set a r v) r)
on_this a r v le true e = rw (get_or-set_same a r v Unneeded (ltb-true r (length a) e)) le
on_this a r v le false e =
    let past = ltb-false r (length a) e in
    let none : state_of a r ≡ Unneeded = get_or_past a r Unneeded past in
    let z = low (state_of a r) none in
    omega arith

on_set_at : (a : List RuleState) (r x : ℕ) (v : RuleState) → stage (state_of a r) ≤ stage v → (x ≡ r) ⊎ (x ≢ r) → stage (state_of a x) ≤ stage (state_of (set a r v) x)
on_set_at a r x v le (inl same) = rw same (on_this a r v le (ltb r (length a)) refl)
on_set_at a r x v le (inr ne) = rw (set_other a r x v ne) (omega arith)

on_set : (a : List RuleState) (r : ℕ) (v : RuleState) → stage (state_of a r) ≤ stage v → GoesOn a (set a r v)
on_set a r v le = record { on = λ x. on_set_at a r x v le (apart x r) }

on_decided : (a new : List RuleState) (q : Queued) (r : ℕ) (v : RuleState) (b : Bool) → AreWaiting a q → is_open q r ≡ b → 1 ≤ stage v
    → new ≡ (if b then set a r v else a) → GoesOn a new
on_decided a new q r v true w o le e = rw e (on_set a r v (rw (w.waits r o) le))
on_decided a new q r v false w o le e = on_same a new e

stage_running : (x : RuleState) → is_running x ≡ true → stage x ≡ 2
stage_running Unneeded e = absurd (cc)
stage_running Waiting e = absurd (cc)
stage_running Running e = refl
stage_running Settled e = absurd (cc)
stage_running Failed e = absurd (cc)
stage_running Lacking e = absurd (cc)

on_ended : (a new : List RuleState) (r : ℕ) (v : RuleState) (b : Bool) → is_running (state_of a r) ≡ b → stage v ≡ 3
    → new ≡ (if b then set a r v else a) → GoesOn a new
on_ended a new r v true o le e = rw e (on_set a r v (let s = stage_running (state_of a r) o in omega arith))
on_ended a new r v false o le e = on_same a new e

-- no event takes a rule back
pub goes_on : (plan : Planned) (event : PlanEvent) (new : List RuleState) → AreWaiting plan.states plan.queue → Goes plan event new → GoesOn plan.states new
goes_on plan (Scanned rule found) new w g = on_meets plan.states new g
goes_on plan (Fresh rule) new w g = on_decided plan.states new plan.queue rule.0 Settled (is_open plan.queue rule.0) w refl (omega arith) g
goes_on plan (Started rule) new w g = on_decided plan.states new plan.queue rule.0 Running (is_open plan.queue rule.0) w refl (omega arith) g
goes_on plan (DoneOk rule) new w g = on_ended plan.states new rule.0 Settled (is_running (state_of plan.states rule.0)) refl refl g
goes_on plan (DoneFailed rule) new w g = on_ended plan.states new rule.0 Failed (is_running (state_of plan.states rule.0)) refl refl g
goes_on plan (Absent rule node) new w g = on_decided plan.states new plan.queue rule.0 Lacking (is_open plan.queue rule.0) w refl (omega arith) g
goes_on plan Halt new w g = on_same plan.states new g

pub meets_same : (a : Planned) → Meets a a
meets_same a = record { states = met_same a.states; halted = refl }

pub meets_trans : (a b c : Planned) → Meets a b → Meets b c → Meets a c
meets_trans a b c m n = record { states = met_trans a.states b.states c.states m.states n.states; halted = n.halted ∙ m.halted }

pub stays_meets : (a b : Planned) → Stays a b → Meets a b
stays_meets a b s = record { states = rw s.states (met_same a.states); halted = s.halted }

pub same_meets : (a b : Planned) → b ≡ a → Meets a b
same_meets a b e = rw e (meets_same a)

pub stays_trans : (a b c : Planned) → Stays a b → Stays b c → Stays a c
stays_trans a b c m n = record { states = n.states ∙ m.states; halted = n.halted ∙ m.halted; rules = n.rules ∙ m.rules; origins = n.origins ∙ m.origins }
