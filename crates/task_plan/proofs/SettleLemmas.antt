-- What is watched where a rule is settled: the rules that wait for its targets are told.
use Rattle.std.proofs.Common.{arith, ◌≡◌, ◌≢◌, ◌≤◌, ◌∙◌, ◌⊎◌, inl, inr, ℕ, ◌+◌, List, [], ◌∷◌, ◌++◌, Bool, true, false, ◌&&◌, ◌||◌, ap, sym, refl, length, set, get_or, take, Some, None, subst}
use Rattle.std.specs.Prelude.{slice_get, nat_eq}
use Rattle.std.proofs.lemmas.Bool.Decides.{nat_tests}
use Rattle.std.proofs.lemmas.Option.{slice_get_within, get_or_from_slice_get}
use Rattle.std.proofs.lemmas.List.{take_more, take_all}
use Rattle.std.proofs.lemmas.List.Folds.{list_any-append}
use Rattle.scons_base.specs.declared.ids.NodeId.{NodeId}
use Rattle.scons_base.specs.declared.ids.RuleId.{RuleId}
use Rattle.task_plan.specs.States.{state_of}
use Rattle.task_plan.specs.Queues.{is_open, is_placed}
use Rattle.task_plan.specs.Named.{stands}
use Rattle.task_plan.specs.Noted.{waiters_of}
use Rattle.task_plan.specs.Settled.{origin_of, is_settled, is_done, is_done_from}
use Rattle.task_plan.specs.Plans.{Planned}
use Rattle.task_plan.specs.Met.{is_met}
use Rattle.task_plan.specs.Admits.{queues, none}
use Rattle.task_plan.specs.Watched.{every, targets_at, is_told, IsHeard, IsWatchedAt, AreWatched, IsOffered, AreQueued, IsInOrder, HasNotes, IsComplete, AreTargets}
use Rattle.task_plan.specs.Watching.{also, Decides, Tells, Releases, Passes, Readies, Offers, StartsBefore}
use Rattle.task_plan.specs.declared.states.RuleState.{RuleState}
use Rattle.task_plan.specs.declared.states.RuleState.TheVariants.{Unneeded, Waiting}
use Rattle.task_plan.specs.declared.files.Origin.{Origin}
use Rattle.task_plan.specs.declared.files.Origin.TheVariants.{Unmet, Source, Made}
use Rattle.task_plan.proofs.MarkLemmas.{apart}
use Rattle.task_plan.proofs.PlanLemmas.{true_false, set_other, set_this}
use Rattle.task_plan.proofs.ListLemmas.{none_past}
use Rattle.task_plan.proofs.WatchLemmas.{IsStillAt, watched_still, offered_still, tells_this, tells_others}

-- One of the rules that wait for a file is told of it.
module _ (a b d e : Planned) (rule start : ℕ) (node : NodeId) (p : Passes a b rule) (f : Readies b d rule start) (o : Offers d e rule) (start_at : StartsBefore b rule node start) where
  queue : d.queue ≡ a.queue
  queue = ap (λ x. x.queue) f.rest ∙ ap (λ x. x.queue) p.rest

  states : e.states ≡ a.states
  states = ap (λ x. x.states) o.rest ∙ ap (λ x. x.states) f.rest ∙ ap (λ x. x.states) p.rest

  rules : e.rules ≡ a.rules
  rules = ap (λ x. x.rules) o.rest ∙ ap (λ x. x.rules) f.rest ∙ ap (λ x. x.rules) p.rest

  places : (r : ℕ) → r ≢ rule → slice_get e.notes.places r ≡ slice_get a.notes.places r
  places r ne = ap (λ x. slice_get x.notes.places r) o.rest ∙ f.others r ne ∙ p.others r ne

  ordered : e.notes.is_ordered ≡ a.notes.is_ordered
  ordered = ap (λ x. x.notes.is_ordered) o.rest ∙ ap (λ x. x.notes.is_ordered) f.rest ∙ ap (λ x. x.notes.is_ordered) p.rest

  queued_at : AreQueued a none → (ok : e.notes.is_ordered ≡ true) → (r : ℕ) → (r ≡ rule) ⊎ (r ≢ rule) → IsOffered e r
  queued_at q ok r (inl same) =
      rw same (record {
        opened = λ kept at w k g n h.
            let placed : is_placed d.queue rule ≡ true = ap (λ x. is_placed x rule) queue ∙ q.placed (sym ordered ∙ ok) rule (sym (ap (λ x. state_of x rule) states) ∙ w) in
            (o.this placed).opened kept at w k g n h;
      })
  queued_at q ok r (inr ne) =
      offered_still a e r (λ w. sym (ap (λ x. state_of x r) states) ∙ w) (λ _. ap (λ x. slice_get x r) rules) (λ _. places r ne)
      (λ h. o.others r ne ∙ ap (λ x. is_open x r) queue ∙ h) (q.opened (sym ordered ∙ ok) r refl)

  marks_before : (r : ℕ) → (r ≡ rule) ⊎ (r ≢ rule) → get_or a.marks r false ≡ true → get_or e.marks r false ≡ true
  marks_before r (inl same) h =
      let here : get_or a.marks rule false ≡ true = ap (get_or' a.marks) (sym same) ∙ h in
      let b_here : get_or b.marks rule false ≡ true = ap (λ x. get_or x.marks rule false) p.rest ∙ here in
      rw same (ap (λ x. get_or x.marks rule false) o.rest ∙ f.still (start_at.within) b_here)
    where
      get_or' : List Bool → ℕ → Bool
      get_or' xs i = get_or xs i false
  marks_before r (inr ne) h = ap (λ x. get_or x.marks r false) o.rest ∙ f.marks r ne ∙ ap (λ x. get_or x.marks r false) p.rest ∙ h

  false_by : (x : Bool) → (x ≡ true → ⊥) → x ≡ false
  false_by true n = absurd (n refl)
  false_by false n = refl

  pub tells : Tells a e rule node
  tells = record {
    this = tells_this a b d e rule start node p f o start_at;
    others = tells_others a b d e rule start node p f o start_at;
    queued = λ q. record {
      placed = λ ok r w. o.placed r ∙ ap (λ x. is_placed x r) queue ∙ q.placed (sym ordered ∙ ok) r (sym (ap (λ x. state_of x r) states) ∙ w);
      opened = λ ok r _. queued_at q ok r (apart r rule);
    };
    ordered = λ i. record { fits = λ unmarked. ordered ∙ i.fits (λ r. false_by (get_or a.marks r false) (λ h. true_false (get_or e.marks r false) (marks_before r (apart r rule) h) (unmarked r))) };
    room = λ h. record {
      marks = let m = ap (λ x. length x.marks) o.rest in let n = f.room in let l = ap (λ x. length x.marks) p.rest in let k = ap length rules in let w = h.marks in omega arith;
      waiters =
          let m = ap (λ x. length x.notes.waiters) o.rest in
          let n = ap (λ x. length x.notes.waiters) f.rest in
          let l = ap (λ x. length x.notes.waiters) p.rest in
          let u = ap (λ x. length x.origins) o.rest in
          let v = ap (λ x. length x.origins) f.rest in
          let k = ap (λ x. length x.origins) p.rest in
          let w = h.waiters in
          omega arith;
    };
    waiters = ap (λ x. x.notes.waiters) o.rest ∙ ap (λ x. x.notes.waiters) f.rest ∙ ap (λ x. x.notes.waiters) p.rest;
  }

still_self : (a : Planned) (r : ℕ) → IsStillAt a a r
still_self a r = record { states = λ w. w; rules = λ _. refl; places = λ _. refl; marks = λ h. h }

-- a rule is told of the same files
pub watched_told : (a : Planned) (known after : NodeId → Bool) (r : ℕ) → ((n : NodeId) → is_told a after n ≡ is_told a known n) → IsWatchedAt a known r → IsWatchedAt a after r
watched_told a known after r f w =
    watched_still a a known after r (still_self a r)
    (record { heard = λ n h. record { met = h.met; waits = λ t. h.waits (sym (f n) ∙ t) }; told = λ n h t. f n ∙ t }) w

watched_as : (a : Planned) (known after : NodeId → Bool) (r : ℕ) → ((n : NodeId) → after n ≡ known n) → IsWatchedAt a known r → IsWatchedAt a after r
watched_as a known after r f w = watched_told a known after r (λ n. ap (λ x. is_done a.states a.origins n && x) (f n)) w

same_node : (a b : NodeId) → nat_eq a.0 b.0 ≡ true → a ≡ b
same_node a b h = ap (λ x. node x) (let e : a.0 ≡ b.0 = grind (arith, nat_tests) in e)
  where
    node : ℕ → NodeId
    node x = record { 0 = x }

-- a rule that doesn't wait for a file need not be told of it
pub watched_apart : (a : Planned) (known : NodeId → Bool) (node : NodeId) (r : ℕ) → queues (waiters_of a.notes.waiters node.0) r ≡ false → IsWatchedAt a known r → IsWatchedAt a (also known node) r
watched_apart a known node r apart_of w =
    watched_still a a known (also known node) r (still_self a r)
    (record {
      heard = λ n h. record { met = h.met; waits = λ t. h.waits (fewer (is_done a.states a.origins n) (known n) (nat_eq n.0 node.0) t) };
      told = λ n h t. by n h t (nat_eq n.0 node.0) refl;
    }) w
  where
    fewer : (d k x : Bool) → (d && (k || x)) ≡ false → (d && k) ≡ false
    fewer true true x h = h
    fewer true false x h = refl
    fewer false k x h = refl

    still : (d k x : Bool) → (d && k) ≡ false → x ≡ false → (d && (k || x)) ≡ false
    still true true x h e = h
    still true false x h e = e
    still false k x h e = refl

    by : (n : NodeId) → IsHeard a known r n → is_told a known n ≡ false → (x : Bool) → nat_eq n.0 node.0 ≡ x → is_told a (also known node) n ≡ false
    by n h t true e = absurd (true_false (queues (waiters_of a.notes.waiters n.0) r) (h.waits t) (ap (λ (y : NodeId). queues (waiters_of a.notes.waiters y.0) r) (same_node n node e) ∙ apart_of))
    by n h t false e = still (is_done a.states a.origins n) (known n) (nat_eq n.0 node.0) t e

-- some of the rules that wait for a file were told of it
pub record Releasing (a b : Planned) (node : NodeId) (rules : List RuleId) : Type 0 where
  pub told : HasNotes a → (known : NodeId → Bool) (r : ℕ) → queues rules r ≡ true → IsWatchedAt a known r → IsWatchedAt b (also known node) r
  pub others : HasNotes a → (known : NodeId → Bool) (r : ℕ) → queues rules r ≡ false → IsWatchedAt a known r → IsWatchedAt b known r
  pub queued : AreQueued a none → AreQueued b none
  pub ordered : IsInOrder a → IsInOrder b
  pub room : HasNotes a → HasNotes b
  pub waiters : b.notes.waiters ≡ a.notes.waiters

pub releasing_none : (a : Planned) (node : NodeId) (xs : List RuleId) → Releasing a a node (take 0 xs)
releasing_none a node xs = record {
  told = λ h known r f w. absurd (let no_rule : false ≡ true = f in cc);
  others = λ h known r f w. w;
  queued = λ q. q;
  ordered = λ i. i;
  room = λ h. h;
  waiters = refl;
}

or_false : (x y : Bool) → (x || (y || false)) ≡ false → (x ≡ false) × (y ≡ false)
or_false true y h = absurd (cc)
or_false false true h = absurd (cc)
or_false false false h = (refl, refl)

or_true : (x y : Bool) → (x || (y || false)) ≡ true → (x ≡ true) ⊎ ((x ≡ false) × (y ≡ true))
or_true true y h = inl refl
or_true false true h = inr (refl, refl)
or_true false false h = absurd (cc)

and_also : (d k x : Bool) → (d && (k || x)) ≡ (d && ((k || x) || x))
and_also true true x = refl
and_also true false true = refl
and_also true false false = refl
and_also false k x = refl

eq_same : (m n : ℕ) → nat_eq m n ≡ true → n ≡ m
eq_same m n h = grind (arith, nat_tests)

eq_other : (m n : ℕ) → nat_eq m n ≡ false → n ≢ m
eq_other m n h = λ e. absurd (true_false (nat_eq m n) (rw e (self_eq m)) h)
  where
    self_eq : (m : ℕ) → nat_eq m m ≡ true
    self_eq m = grind (arith, nat_tests)

either : (x : Bool) → (x ≡ true) ⊎ (x ≡ false)
either true = inl refl
either false = inr refl

pub releasing_more : (a b c : Planned) (node : NodeId) (rules : List RuleId) (rule : RuleId) → Releasing a b node rules → Tells b c rule.0 node → Releasing a c node (rules ++ rule ∷ [])
releasing_more a b c node rules rule k t = record {
  told = λ h known r f w. this h known r (or_true (queues rules r) (nat_eq rule.0 r) (sym (list_any-append (λ q. nat_eq q.0 r) rules (rule ∷ [])) ∙ f)) (either (nat_eq rule.0 r)) w;
  others = λ h known r f w.
      let s = or_false (queues rules r) (nat_eq rule.0 r) (sym (list_any-append (λ q. nat_eq q.0 r) rules (rule ∷ [])) ∙ f) in
      t.others known r (eq_other rule.0 r s.1) (k.others h known r s.0 w);
  queued = λ q. t.queued (k.queued q);
  ordered = λ i. t.ordered (k.ordered i);
  room = λ h. t.room (k.room h);
  waiters = t.waiters ∙ k.waiters;
}
  where
    here : HasNotes a → (known : NodeId → Bool) (r : ℕ) → nat_eq rule.0 r ≡ true → IsWatchedAt b known r → IsWatchedAt c (also known node) r
    here h known r e w = rw (eq_same rule.0 r e) (t.this (k.room h) known (rw (eq_same rule.0 r e) at w))

    twice : (known : NodeId → Bool) (n : NodeId) → also known node n ≡ also (also known node) node n
    twice known n = and_also true (known n) (nat_eq n.0 node.0)

    this : HasNotes a → (known : NodeId → Bool) (r : ℕ) → (queues rules r ≡ true) ⊎ ((queues rules r ≡ false) × (nat_eq rule.0 r ≡ true)) → (nat_eq rule.0 r ≡ true) ⊎ (nat_eq rule.0 r ≡ false) → IsWatchedAt a known r
        → IsWatchedAt c (also known node) r
    this h known r (inl f) (inl e) w = watched_as c (also (also known node) node) (also known node) r (twice known) (here h (also known node) r e (k.told h known r f w))
    this h known r (inl f) (inr e) w = t.others (also known node) r (eq_other rule.0 r e) (k.told h known r f w)
    this h known r (inr f) e w = here h known r f.1 (k.others h known r f.0 w)

pub take_next : {X : Type 0} (xs : List X) (i : ℕ) (x : X) → slice_get xs i ≡ Some x → take (i + 1) xs ≡ take i xs ++ x ∷ []
take_next xs i x e =
    let lt = slice_get_within xs i x e in
    take_more xs i x lt ∙ ap (λ y. take i xs ++ y ∷ []) (get_or_from_slice_get xs i x x e)

-- all of them were
pub released : (a b : Planned) (node : NodeId) → Releasing a b node (waiters_of a.notes.waiters node.0) → Releases a b node
released a b node k = record {
  watched = λ h known w. record { each = λ r _. by h known r (either (queues (waiters_of a.notes.waiters node.0) r)) (w.each r refl) };
  queued = k.queued;
  ordered = k.ordered;
  room = k.room;
}
  where
    by : HasNotes a → (known : NodeId → Bool) (r : ℕ) → (queues (waiters_of a.notes.waiters node.0) r ≡ true) ⊎ (queues (waiters_of a.notes.waiters node.0) r ≡ false) → IsWatchedAt a known r → IsWatchedAt b (also known node) r
    by h known r (inl f) w = k.told h known r f w
    by h known r (inr f) w = watched_apart b known node r (ap (λ x. queues (waiters_of x node.0) r) k.waiters ∙ f) (k.others h known r f w)

take_past : {X : Type 0} (xs : List X) (i : ℕ) → slice_get xs i ≡ None → take (i + 1) xs ≡ take i xs
take_past xs i e = let le = none_past xs i e in take_all (i + 1) xs (omega arith) ∙ sym (take_all i xs le)

-- the next one is told
pub releasing_next : (a b c : Planned) (node : NodeId) (place : ℕ) (rule : RuleId) → Some rule ≡ slice_get (waiters_of b.notes.waiters node.0) place
    → Releasing a b node (take place (waiters_of a.notes.waiters node.0)) → Tells b c rule.0 node → Releasing a c node (take (place + 1) (waiters_of a.notes.waiters node.0))
releasing_next a b c node place rule e k t =
    let xs = waiters_of a.notes.waiters node.0 in
    let at : slice_get xs place ≡ Some rule = ap (λ x. slice_get (waiters_of x node.0) place) (sym k.waiters) ∙ sym e in
    subst (Releasing a c node) (sym (take_next xs place rule at)) (releasing_more a b c node (take place xs) rule k t)

-- there is none
pub releasing_past : (a b : Planned) (node : NodeId) (place : ℕ) → None ≡ slice_get (waiters_of b.notes.waiters node.0) place → Releasing a b node (take place (waiters_of a.notes.waiters node.0))
    → Releasing a b node (take (place + 1) (waiters_of a.notes.waiters node.0))
releasing_past a b node place e k =
    let xs = waiters_of a.notes.waiters node.0 in
    let at : slice_get xs place ≡ None = ap (λ x. slice_get (waiters_of x node.0) place) (sym k.waiters) ∙ sym e in
    subst (Releasing a b node) (sym (take_past xs place at)) k

pub releasing_end : (a b : Planned) (node : NodeId) (place : ℕ) → length (waiters_of a.notes.waiters node.0) ≤ place → Releasing a b node (take place (waiters_of a.notes.waiters node.0)) → Releases a b node
releasing_end a b node place le k = released a b node (subst (Releasing a b node) (take_all place (waiters_of a.notes.waiters node.0) le) k)

-- the waiters of some of a rule's targets were told
pub record Settling (a b : Planned) (told : List NodeId) : Type 0 where
  pub watched : HasNotes a → (known : NodeId → Bool) → AreWatched a known none → AreWatched b (λ n. known n || stands told n) none
  pub queued : AreQueued a none → AreQueued b none
  pub ordered : IsInOrder a → IsInOrder b
  pub room : HasNotes a → HasNotes b

or_none : (x : Bool) → (x || false) ≡ x
or_none true = refl
or_none false = refl

or_more : (x y z : Bool) → (x || (y || (z || false))) ≡ ((x || y) || z)
or_more true y z = refl
or_more false true z = refl
or_more false false true = refl
or_more false false false = refl

pub settling_none : (a : Planned) (xs : List NodeId) → Settling a a (take 0 xs)
settling_none a xs = record {
  watched = λ h known w. record { each = λ r _. watched_as a known (λ n. known n || false) r (λ n. or_none (known n)) (w.each r refl) };
  queued = λ q. q;
  ordered = λ i. i;
  room = λ h. h;
}

pub settling_more : (a b c : Planned) (told : List NodeId) (node : NodeId) → Settling a b told → Releases b c node → Settling a c (told ++ node ∷ [])
settling_more a b c told node k r = record {
  watched = λ h known w.
      let v = r.watched (k.room h) (λ n. known n || stands told n) (k.watched h known w) in
      record {
        each = λ x _.
            watched_as c (also (λ n. known n || stands told n) node) (λ n. known n || stands (told ++ node ∷ []) n) x
            (λ n. ap (λ y. known n || y) (list_any-append (λ m. nat_eq n.0 m.0) told (node ∷ [])) ∙ or_more (known n) (stands told n) (nat_eq n.0 node.0)) (v.each x refl);
      };
  queued = λ q. r.queued (k.queued q);
  ordered = λ i. r.ordered (k.ordered i);
  room = λ h. r.room (k.room h);
}

-- the next target
pub settling_next : (a b c : Planned) (targets : List NodeId) (place : ℕ) (node : NodeId) → Some node ≡ slice_get targets place → Settling a b (take place targets) → Releases b c node → Settling a c (take (place + 1) targets)
settling_next a b c targets place node e k r = subst (Settling a c) (sym (take_next targets place node (sym e))) (settling_more a b c (take place targets) node k r)

pub settling_past : (a b : Planned) (targets : List NodeId) (place : ℕ) → None ≡ slice_get targets place → Settling a b (take place targets) → Settling a b (take (place + 1) targets)
settling_past a b targets place e k = subst (Settling a b) (sym (take_past targets place (sym e))) k

pub settling_end : (a b : Planned) (targets : List NodeId) (place : ℕ) → length targets ≤ place → Settling a b (take place targets) → Settling a b targets
settling_end a b targets place le k = subst (Settling a b) (take_all place targets le) k

-- A rule that wasn't settled is in another state.
module _ (a b : Planned) (rule : ℕ) (v : RuleState) (d : Decides a b rule) (s : b.states ≡ set a.states rule v) (apart_of : v ≢ Waiting) where
  unneeded_waits : Unneeded ≡ Waiting → ⊥
  unneeded_waits e = cc

  not_waiting : (x : RuleState) → (x ≡ v) ⊎ (x ≡ Unneeded) → x ≡ Waiting → ⊥
  not_waiting x (inl e) w = apart_of (sym e ∙ w)
  not_waiting x (inr e) w = unneeded_waits (sym e ∙ w)

  other_state : (r : ℕ) → r ≢ rule → state_of b.states r ≡ state_of a.states r
  other_state r ne = ap (λ x. state_of x r) s ∙ set_other a.states rule r v ne

  -- only other rules wait
  is_other : (r : ℕ) → state_of b.states r ≡ Waiting → r ≢ rule
  is_other r w = λ e. not_waiting (state_of (set a.states rule v) rule) (set_this a.states rule v) (ap (λ x. state_of x rule) (sym s) ∙ ap (state_of b.states) (sym e) ∙ w)

  origins : b.origins ≡ a.origins
  origins = ap (λ x. x.origins) d.rest

  rules_same : b.rules ≡ a.rules
  rules_same = ap (λ x. x.rules) d.rest

  notes : b.notes ≡ a.notes
  notes = ap (λ x. x.notes) d.rest

  marks : b.marks ≡ a.marks
  marks = ap (λ x. x.marks) d.rest

  pub decided_queued : AreQueued a none → AreQueued b none
  decided_queued q = record {
    placed = λ ok r w. d.placed r ∙ q.placed (sym (ap (λ x. x.is_ordered) notes) ∙ ok) r (sym (other_state r (is_other r w)) ∙ w);
    opened = λ ok r _. record {
      opened = λ kept at w k g n f.
          let ne = is_other r w in
          d.others r ne
          ∙ (q.opened (sym (ap (λ x. x.is_ordered) notes) ∙ ok) r refl).opened kept at (sym (other_state r ne) ∙ w) (sym (ap (λ x. slice_get x r) rules_same) ∙ k) (sym (ap (λ x. slice_get x.places r) notes) ∙ g) n f;
    };
  }

  pub decided_ordered : IsInOrder a → IsInOrder b
  decided_ordered i = record { fits = λ f. ap (λ x. x.is_ordered) notes ∙ i.fits (λ r. sym (ap (λ x. get_or x r false) marks) ∙ f r) }

  pub decided_room : HasNotes a → HasNotes b
  decided_room h = record {
    marks = let m = ap length marks in let n = ap length rules_same in let w = h.marks in omega arith;
    waiters = let m = ap length origins in let n = ap (λ x. length x.waiters) notes in let w = h.waiters in omega arith;
  }

  -- what was done is done, or its rule is this one
  settled_other : (x : Origin) → (is_done_from a.states x ≡ is_done_from b.states x) ⊎ (let this : RuleId = record { 0 = rule } in x ≡ Made this)
  settled_other Unmet = inl refl
  settled_other Source = inl refl
  settled_other (Made q) = by q (apart q.0 rule)
    where
      by : (q : RuleId) → (q.0 ≡ rule) ⊎ (q.0 ≢ rule) → (is_done_from a.states (Made q) ≡ is_done_from b.states (Made q)) ⊎ (let this : RuleId = record { 0 = rule } in Made q ≡ Made this)
      by q (inl e) = inr (ap (λ x. Made (record { 0 = x })) e)
      by q (inr ne) = inl (ap is_settled (sym (other_state q.0 ne)))

  -- what a rule hears of stays so if it is told of the same files
  pub decided_watched : (after : NodeId → Bool) → ((n : NodeId) → is_told b after n ≡ is_told a every n) → AreWatched a every none → AreWatched b after none
  decided_watched after f w = record {
    each = λ r _.
        watched_still a b every after r
        (record {
          states = λ h. sym (other_state r (is_other r h)) ∙ h;
          rules = λ _. ap (λ x. slice_get x r) rules_same;
          places = λ _. ap (λ x. slice_get x.places r) notes;
          marks = λ h. ap (λ x. get_or x r false) marks ∙ h;
        })
        (record {
          heard = λ n h. record { met = ap (λ x. is_met x n) origins ∙ h.met; waits = λ t. ap (λ x. queues (waiters_of x.waiters n.0) r) notes ∙ h.waits (sym (f n) ∙ t) };
          told = λ n h t. f n ∙ t;
        })
        (w.each r refl);
  }

  fails_both : (x y : Bool) → x ≡ false → y ≡ false → y ≡ x
  fails_both x y e f = f ∙ sym e

  made_fails : (x : Origin) → (let this : RuleId = record { 0 = rule } in x ≡ Made this) → is_done_from a.states x ≡ false
  made_fails x e = ap (is_done_from a.states) e ∙ d.before

  -- nothing is done by a rule that isn't settled now
  pub decided_complete : is_settled v ≡ false → IsComplete a → IsComplete b
  decided_complete u k = record {
    watched = decided_watched every (λ n. ap (λ x. x && true) (ap (λ o. is_done b.states o n) origins ∙ same (origin_of a.origins n.0) (settled_other (origin_of a.origins n.0)))) k.watched;
    queued = decided_queued k.queued;
    ordered = decided_ordered k.ordered;
    room = decided_room k.room;
  }
    where
      now_fails : (x : RuleState) → (x ≡ v) ⊎ (x ≡ Unneeded) → is_settled x ≡ false
      now_fails x (inl e) = ap is_settled e ∙ u
      now_fails x (inr e) = ap is_settled e

      same : (x : Origin) → (is_done_from a.states x ≡ is_done_from b.states x) ⊎ (let this : RuleId = record { 0 = rule } in x ≡ Made this) → is_done_from b.states x ≡ is_done_from a.states x
      same x (inl e) = sym e
      same x (inr e) =
          fails_both (is_done_from a.states x) (is_done_from b.states x) (made_fails x e)
          (ap (is_done_from b.states) e ∙ now_fails (state_of b.states rule) (rw s (set_this a.states rule v)))

  both_hold : (x y : Bool) → (x ≡ true → y ≡ true) → (y && x) ≡ (x && true)
  both_hold true true f = refl
  both_hold true false f = f refl
  both_hold false true f = refl
  both_hold false false f = refl

  all_told : (x y : Bool) → (x ≡ true → y ≡ true) → (x && true) ≡ (x && y)
  all_told true true f = refl
  all_told true false f = sym (f refl)
  all_told false y f = refl

  -- the waiters of the targets of a rule that is settled were told
  pub settled_complete : (c : Planned) → AreTargets a → c.states ≡ b.states → c.origins ≡ b.origins → Settling b c (targets_at a.rules rule) → IsComplete a → IsComplete c
  settled_complete c t cs co k i =
      let room = decided_room i.room in
      let known = λ (n : NodeId). is_done a.states a.origins n in
      let first : AreWatched b known none =
      decided_watched known
      (λ n. ap (λ o. is_done b.states o n && known n) origins
      ∙ both_hold (is_done a.states a.origins n) (is_done b.states a.origins n) (λ h. done_on (origin_of a.origins n.0) (settled_other (origin_of a.origins n.0)) h)) i.watched in
      let last = k.watched room known first in
      record {
        watched = record {
          each = λ r _.
              watched_told c (λ n. known n || stands (targets_at a.rules rule) n) every r
              (λ n. all_told (is_done c.states c.origins n) (known n || stands (targets_at a.rules rule) n)
              (λ h. known_now n (settled_other (origin_of a.origins n.0)) (ap (λ x. is_done_from b.states (origin_of x n.0)) (sym origins) ∙ ap (λ x. is_done b.states x n) (sym co) ∙ ap (λ x. is_done x c.origins n) (sym cs) ∙ h)))
              (last.each r refl);
        };
        queued = k.queued (decided_queued i.queued);
        ordered = k.ordered (decided_ordered i.ordered);
        room = k.room room;
      }
    where
      done_on : (x : Origin) → (is_done_from a.states x ≡ is_done_from b.states x) ⊎ (let this : RuleId = record { 0 = rule } in x ≡ Made this) → is_done_from a.states x ≡ true → is_done_from b.states x ≡ true
      done_on x (inl e) h = sym e ∙ h
      done_on x (inr e) h = absurd (true_false (is_done_from a.states x) h (made_fails x e))

      or_left : (x y : Bool) → x ≡ true → (x || y) ≡ true
      or_left true y h = refl
      or_left false y h = absurd (cc)

      or_right : (x y : Bool) → y ≡ true → (x || y) ≡ true
      or_right true y h = refl
      or_right false y h = h

      known_now : (n : NodeId) → (is_done_from a.states (origin_of a.origins n.0) ≡ is_done_from b.states (origin_of a.origins n.0)) ⊎ (let this : RuleId = record { 0 = rule } in origin_of a.origins n.0 ≡ Made this)
          → is_done_from b.states (origin_of a.origins n.0) ≡ true → (is_done a.states a.origins n || stands (targets_at a.rules rule) n) ≡ true
      known_now n (inl e) h = or_left (is_done a.states a.origins n) (stands (targets_at a.rules rule) n) (e ∙ h)
      known_now n (inr e) h = or_right (is_done a.states a.origins n) (stands (targets_at a.rules rule) n) (t.each n (record { 0 = rule }) e)
