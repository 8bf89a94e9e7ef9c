-- A rule that is watched stays so through each step.
use Rattle.std.proofs.Common.{arith, ◌≡◌, ◌≢◌, ◌<◌, ◌≤◌, ◌∙◌, ℕ, zero, suc, List, [], ◌∷◌, ◌++◌, Bool, true, false, ◌&&◌, ◌||◌, ap, sym, refl, length, get_or, Some}
use Rattle.std.specs.Prelude.{slice_get, nat_eq, ltb}
use Rattle.std.proofs.lemmas.Bool.{ltb-true, ltb-false}
use Rattle.std.proofs.lemmas.Bool.Decides.{nat_tests}
use Rattle.std.proofs.lemmas.Option.{same_Some, none-some, slice_get_within}
use Rattle.scons_base.specs.declared.ids.NodeId.{NodeId}
use Rattle.task_plan.specs.States.{state_of}
use Rattle.task_plan.specs.Queues.{is_open}
use Rattle.task_plan.specs.Named.{stands}
use Rattle.task_plan.specs.Noted.{Places, waiters_of}
use Rattle.task_plan.specs.Settled.{Kept, is_done}
use Rattle.task_plan.specs.Plans.{Planned}
use Rattle.task_plan.specs.Met.{is_met}
use Rattle.task_plan.specs.Admits.{queues}
use Rattle.task_plan.specs.Watched.{IsSought, is_told, IsHeard, IsWatched, IsWatchedAt, IsOffered, HasNotes}
use Rattle.task_plan.specs.Watching.{also, Passes, Readies, GoesFrom, Offers, StartsBefore}
use Rattle.task_plan.specs.declared.states.RuleState.TheVariants.{Waiting}

-- all that concerns a rule stays, but whether it is marked
pub record IsStillAt (a b : Planned) (r : ℕ) : Type 0 where
  pub states : state_of b.states r ≡ Waiting → state_of a.states r ≡ Waiting
  pub rules : state_of b.states r ≡ Waiting → slice_get b.rules r ≡ slice_get a.rules r
  pub places : state_of b.states r ≡ Waiting → slice_get b.notes.places r ≡ slice_get a.notes.places r
  pub marks : get_or a.marks r false ≡ true → get_or b.marks r false ≡ true

-- so does what a rule hears of
pub record HearsStill (a b : Planned) (known after : NodeId → Bool) (r : ℕ) : Type 0 where
  pub heard : (n : NodeId) → IsHeard a known r n → IsHeard b after r n
  pub told : (n : NodeId) → IsHeard a known r n → is_told a known n ≡ false → is_told b after n ≡ false

or_first : (x y : Bool) → x ≡ true → (x || y) ≡ true
or_first true y h = refl
or_first false y h = absurd (cc)

or_second : (x y : Bool) → y ≡ true → (x || y) ≡ true
or_second true y h = refl
or_second false y h = h

same_eq : (n : ℕ) → nat_eq n n ≡ true
same_eq n = grind (arith, nat_tests)

pub stands_there : (xs : List NodeId) (i : ℕ) (x : NodeId) → slice_get xs i ≡ Some x → stands xs x ≡ true
stands_there [] i x e = absurd (none-some x e)
stands_there (y ∷ xs) zero x e = or_first (nat_eq x.0 y.0) (stands xs x) (let same : y ≡ x = same_Some y x e in rw same (same_eq x.0))
stands_there (y ∷ xs) (suc i) x e = or_second (nat_eq x.0 y.0) (stands xs x) (stands_there xs i x e)

-- a rule of which nothing changes is watched still
pub watched_still : (a b : Planned) (known after : NodeId → Bool) (r : ℕ) → IsStillAt a b r → HearsStill a b known after r → IsWatchedAt a known r → IsWatchedAt b after r
watched_still a b known after r s h w = record {
  each = λ kept at waits e p.
      let k = w.each kept at (s.states waits) (sym (s.rules waits) ∙ e) (sym (s.places waits) ∙ p) in
      record {
        whole = k.whole;
        sought = λ n t. h.heard n (k.sought n t);
        passed = record { held = λ n g. h.told n (k.sought n (IsSought.needed (stands_there (kept.required ++ kept.deps) at.passed n g))) (k.passed.held n g) };
        scanned = k.scanned;
        next = record { none = λ place n lt g u. h.told n (k.sought n (IsSought.scanned (stands_there kept.files place n g))) (k.next.none place n lt g u) };
        marked = λ lt. s.marks (k.marked lt);
      };
}

pub told_same : (a b : Planned) (known : NodeId → Bool) (n : NodeId) → b.states ≡ a.states → b.origins ≡ a.origins → is_told b known n ≡ is_told a known n
told_same a b known n s o = ap (λ x. is_done x b.origins n && known n) s ∙ ap (λ x. is_done a.states x n && known n) o

-- a rule hears of what it did where neither states nor files change
pub hears_same : (a b : Planned) (known : NodeId → Bool) (r : ℕ) → b.states ≡ a.states → b.origins ≡ a.origins → b.notes.waiters ≡ a.notes.waiters → HearsStill a b known known r
hears_same a b known r s o w = record {
  heard = λ n h. record {
    met = ap (λ x. is_met x n) o ∙ h.met;
    waits = λ t. ap (λ x. queues (waiters_of x n.0) r) w ∙ h.waits (sym (told_same a b known n s o) ∙ t);
  };
  told = λ n h t. told_same a b known n s o ∙ t;
}

-- a rule that is open where it can be decided stays so where nothing of it changes
pub offered_still : (a b : Planned) (r : ℕ) → (state_of b.states r ≡ Waiting → state_of a.states r ≡ Waiting) → (state_of b.states r ≡ Waiting → slice_get b.rules r ≡ slice_get a.rules r)
    → (state_of b.states r ≡ Waiting → slice_get b.notes.places r ≡ slice_get a.notes.places r) → (is_open a.queue r ≡ true → is_open b.queue r ≡ true) → IsOffered a r → IsOffered b r
offered_still a b r s k p q o = record { opened = λ kept at w e g n f. q (o.opened kept at (s w) (sym (k w) ∙ e) (sym (p w) ∙ g) n f) }

done_false : (d k : Bool) → d ≡ false → (d && k) ≡ false
done_false d k e = rw e refl

not_other : (d k x : Bool) → (d && k) ≡ false → x ≡ false → (d && (k || x)) ≡ false
not_other true true x h e = absurd (cc)
not_other true false x h e = e
not_other false k x h e = refl

not_also : (d k x : Bool) → (d && (k || x)) ≡ false → (d && k) ≡ false
not_also true true x h = h
not_also true false x h = refl
not_also false k x h = refl

-- One of the rules that wait for a file is told of it: it passes its needs, looks for a file to scan, and is opened where it can be decided.
module _ (a b d e : Planned) (rule start : ℕ) (node : NodeId) (p : Passes a b rule) (f : Readies b d rule start) (o : Offers d e rule) (start_at : StartsBefore b rule node start) where
  -- nothing else changes
  states : e.states ≡ a.states
  states = ap (λ x. x.states) o.rest ∙ ap (λ x. x.states) f.rest ∙ ap (λ x. x.states) p.rest

  origins : e.origins ≡ a.origins
  origins = ap (λ x. x.origins) o.rest ∙ ap (λ x. x.origins) f.rest ∙ ap (λ x. x.origins) p.rest

  rules : e.rules ≡ a.rules
  rules = ap (λ x. x.rules) o.rest ∙ ap (λ x. x.rules) f.rest ∙ ap (λ x. x.rules) p.rest

  waiters : e.notes.waiters ≡ a.notes.waiters
  waiters = ap (λ x. x.notes.waiters) o.rest ∙ ap (λ x. x.notes.waiters) f.rest ∙ ap (λ x. x.notes.waiters) p.rest

  ordered : e.notes.is_ordered ≡ a.notes.is_ordered
  ordered = ap (λ x. x.notes.is_ordered) o.rest ∙ ap (λ x. x.notes.is_ordered) f.rest ∙ ap (λ x. x.notes.is_ordered) p.rest

  places : e.notes.places ≡ d.notes.places
  places = ap (λ x. x.notes.places) o.rest

  marks : e.marks ≡ d.marks
  marks = ap (λ x. x.marks) o.rest

  marks_before : b.marks ≡ a.marks
  marks_before = ap (λ x. x.marks) p.rest

  other_places : (r : ℕ) → r ≢ rule → slice_get e.notes.places r ≡ slice_get a.notes.places r
  other_places r ne = ap (λ x. slice_get x r) places ∙ f.others r ne ∙ p.others r ne

  other_marks : (r : ℕ) → r ≢ rule → get_or e.marks r false ≡ get_or a.marks r false
  other_marks r ne = ap (λ x. get_or x r false) marks ∙ f.marks r ne ∙ ap (λ x. get_or x r false) marks_before

  pub tells_others : (known : NodeId → Bool) (r : ℕ) → r ≢ rule → IsWatchedAt a known r → IsWatchedAt e known r
  tells_others known r ne w =
      watched_still a e known known r
      (record {
        states = λ h. sym (ap (λ x. state_of x r) states) ∙ h;
        rules = λ _. ap (λ x. slice_get x r) rules;
        places = λ _. other_places r ne;
        marks = λ h. other_marks r ne ∙ h;
      })
      (hears_same a e known r states origins waiters) w

  waits_before : state_of e.states rule ≡ Waiting → state_of b.states rule ≡ Waiting
  waits_before w = ap (λ x. state_of x.states rule) p.rest ∙ sym (ap (λ x. state_of x rule) states) ∙ w

  kept_before : (kept : Kept) → slice_get e.rules rule ≡ Some kept → slice_get b.rules rule ≡ Some kept
  kept_before kept h = ap (λ x. slice_get x.rules rule) p.rest ∙ sym (ap (λ x. slice_get x rule) rules) ∙ h

  done_before : (n : NodeId) → is_done b.states b.origins n ≡ is_done e.states e.origins n
  done_before n =
      ap (λ x. is_done x.states x.origins n) p.rest ∙ sym (ap (λ x. is_done x e.origins n) states ∙ ap (λ x. is_done a.states x n) origins)

  heard_also : (known : NodeId → Bool) (n : NodeId) → IsHeard a known rule n → IsHeard e (also known node) rule n
  heard_also known n h = record {
    met = ap (λ x. is_met x n) origins ∙ h.met;
    waits = λ t.
        let before : is_told e known n ≡ false = not_also (is_done e.states e.origins n) (known n) (nat_eq n.0 node.0) t in
        ap (λ x. queues (waiters_of x n.0) rule) waiters ∙ h.waits (sym (told_same a e known n states origins) ∙ before);
  }

  -- a file before the start, or behind it
  next_by : (known : NodeId → Bool) (kept : Kept) (at was : Places) (place : ℕ) (n : NodeId) (x : Bool) → ltb place start ≡ x → (place < start → is_told e known n ≡ false) → (place < start → nat_eq n.0 node.0 ≡ false)
      → (start ≤ place → is_done e.states e.origins n ≡ false) → is_told e (also known node) n ≡ false
  next_by known kept at was place n true lt h g k =
      let l : place < start = ltb-true place start lt in not_other (is_done e.states e.origins n) (known n) (nat_eq n.0 node.0) (h l) (g l)
  next_by known kept at was place n false lt h g k = done_false (is_done e.states e.origins n) (also known node n) (k (ltb-false place start lt))

  pub tells_this : HasNotes a → (known : NodeId → Bool) → IsWatchedAt a known rule → IsWatchedAt e (also known node) rule
  tells_this room known w = record { each = λ kept at waits k g. this kept at waits k g (f.from at (sym (ap (λ x. slice_get x rule) places) ∙ g)) }
    where
      this : (kept : Kept) (at : Places) → state_of e.states rule ≡ Waiting → slice_get e.rules rule ≡ Some kept → slice_get e.notes.places rule ≡ Some at → GoesFrom b rule at → IsWatched e (also known node) rule kept at
      this kept at waits k g m =
          let l = p.from m.was m.at in
          let here : slice_get d.notes.places rule ≡ Some at = sym (ap (λ x. slice_get x rule) places) ∙ g in
          let wb = waits_before waits in
          let kb = kept_before kept k in
          let wa : state_of a.states rule ≡ Waiting = sym (ap (λ x. state_of x rule) states) ∙ waits in
          let ka : slice_get a.rules rule ≡ Some kept = sym (ap (λ x. slice_get x rule) rules) ∙ k in
          let i = w.each kept l.was wa ka l.at in
          let passed : at.passed ≡ m.was.passed = ap (λ x. x.passed) m.rest in
          let whole : at.whole ≡ l.was.whole = ap (λ x. x.whole) m.rest ∙ ap (λ x. x.whole) l.rest in
          let next : m.was.next ≡ l.was.next = ap (λ x. x.next) l.rest in
          let within = start_at.within m.was m.at in
          let none = f.none kept at wb kb here in
          record {
            whole = i.whole;
            sought = λ n s. heard_also known n (i.sought n s);
            passed = record {
              held = λ n h. done_false (is_done e.states e.origins n) (also known node n) (sym (done_before n) ∙ done_passed kept m.was n ka m.at (sym (ap (slice_get (kept.required ++ kept.deps)) passed) ∙ h));
            };
            scanned = record { unscanned = λ n h. i.scanned.unscanned n (sym (ap (slice_get kept.files) whole) ∙ h) };
            next = record {
              none = λ place n lt h u.
                  next_by known kept at l.was place n (ltb place start) refl
                  (λ before. told_same a e known n states origins ∙ i.next.none place n (omega arith) h u)
                  (λ before. start_at.before kept place n kb before h)
                  (λ behind. sym (done_before n) ∙ none.none place n behind lt h u);
            };
            marked = λ lt. ap (λ x. get_or x rule false) marks ∙ f.marked kept at wb (within_marks kept ka) kb here lt;
          }
        where
          done_passed : (kept : Kept) (was : Places) (n : NodeId) → slice_get a.rules rule ≡ Some kept → slice_get b.notes.places rule ≡ Some was → slice_get (kept.required ++ kept.deps) was.passed ≡ Some n
              → is_done b.states b.origins n ≡ false
          done_passed kept was n k g h = ap (λ x. is_done x.states x.origins n) p.rest ∙ p.undone kept was n k g h

          within_marks : (kept : Kept) → slice_get a.rules rule ≡ Some kept → rule < length b.marks
          within_marks kept k =
              let lt : rule < length a.rules = slice_get_within a.rules rule kept k in
              let le = room.marks in
              let same = ap length marks_before in
              omega arith
