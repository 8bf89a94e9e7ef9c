-- A rule that is admitted is watched.
use Rattle.std.proofs.Common.{arith, ◌≡◌, ◌≢◌, ◌<◌, ◌∙◌, ◌⊎◌, inl, inr, ℕ, List, ◌++◌, Bool, true, false, ◌&&◌, ◌||◌, ap, sym, refl, length, set, get_or, Some, length-set}
use Rattle.std.specs.Prelude.{slice_get, nat_eq, ltb}
use Rattle.std.proofs.lemmas.Bool.{ltb-true, ltb-false}
use Rattle.std.proofs.lemmas.Bool.Decides.{nat_tests}
use Rattle.std.proofs.lemmas.Option.{slice_get_within}
use Rattle.std.proofs.lemmas.List.Folds.{list_any-append}
use Rattle.scons_base.specs.declared.ids.NodeId.{NodeId}
use Rattle.scons_base.specs.declared.ids.RuleId.{RuleId}
use Rattle.rule_graph.specs.declared.rule.Rule.{Rule}
use Rattle.rule_graph.specs.Graphs.{RuleGraph}
use Rattle.rule_graph.specs.Rules.{are_below}
use Rattle.task_plan.specs.States.{state_of}
use Rattle.task_plan.specs.Named.{stands, named_of}
use Rattle.task_plan.specs.Noted.{Places, places_of}
use Rattle.task_plan.specs.Settled.{Kept, kept_of, first_kept, is_done, is_scanned, IsUnscannedAt}
use Rattle.task_plan.specs.Loaded.{IsTaskOf}
use Rattle.task_plan.specs.Listed.{included}
use Rattle.task_plan.specs.Plans.{Planned}
use Rattle.task_plan.specs.Met.{needs_in, needs_at}
use Rattle.task_plan.specs.Admits.{queues}
use Rattle.task_plan.specs.Watched.{IsSought, every, is_told, IsHeard, IsWatched, IsWatchedAt, AreWatched, HasNotes}
use Rattle.task_plan.specs.Watching.{BringsWatch, Hears, LeavesRules, PutsTask, Passes, Readies, AdmitsWatch}
use Rattle.task_plan.specs.declared.states.RuleState.TheVariants.{Waiting}
use Rattle.task_plan.specs.declared.task.Task.{Task}
use Rattle.task_plan.proofs.MarkLemmas.{apart}
use Rattle.task_plan.proofs.PlanLemmas.{true_false}
use Rattle.task_plan.proofs.ListLemmas.{get-set_other, get-set_is}
use Rattle.task_plan.proofs.LoadLemmas.{scanned_named}
use Rattle.task_plan.proofs.WatchLemmas.{watched_still, hears_same}
use Rattle.task_plan.proofs.WatchMeets.{queued_none}

told_fails : (d : Bool) → d ≡ false → (d && true) ≡ false
told_fails d e = ap (λ x. x && true) e

or_left_no : (x y : Bool) → (x || y) ≡ false → x ≡ false
or_left_no true y h = h
or_left_no false y h = refl

or_right_no : (x y : Bool) → (x || y) ≡ false → y ≡ false
or_right_no true y h = absurd (cc)
or_right_no false y h = h

or_no : (x y : Bool) → x ≡ false → y ≡ false → (x || y) ≡ false
or_no true y h k = h
or_no false y h k = k

or_second : (x y : Bool) → y ≡ true → (x || y) ≡ true
or_second true y h = refl
or_second false y h = h

eq_no : (m n : ℕ) → n ≢ m → nat_eq m n ≡ false
eq_no m n ne = grind (arith, nat_tests)

-- A rule passes its needs and looks for a file to scan: of the others nothing changes.
module _ (c d e : Planned) (rule start : ℕ) (p : Passes c d rule) (f : Readies d e rule start) where
  pub looked_states : e.states ≡ c.states
  looked_states = ap (λ x. x.states) f.rest ∙ ap (λ x. x.states) p.rest

  pub looked_origins : e.origins ≡ c.origins
  looked_origins = ap (λ x. x.origins) f.rest ∙ ap (λ x. x.origins) p.rest

  pub looked_rules : e.rules ≡ c.rules
  looked_rules = ap (λ x. x.rules) f.rest ∙ ap (λ x. x.rules) p.rest

  pub looked_waiters : e.notes.waiters ≡ c.notes.waiters
  looked_waiters = ap (λ x. x.notes.waiters) f.rest ∙ ap (λ x. x.notes.waiters) p.rest

  pub looked_ordered : e.notes.is_ordered ≡ c.notes.is_ordered
  looked_ordered = ap (λ x. x.notes.is_ordered) f.rest ∙ ap (λ x. x.notes.is_ordered) p.rest

  pub looked_queue : e.queue ≡ c.queue
  looked_queue = ap (λ x. x.queue) f.rest ∙ ap (λ x. x.queue) p.rest

  pub looked_places : (r : ℕ) → r ≢ rule → slice_get e.notes.places r ≡ slice_get c.notes.places r
  looked_places r ne = f.others r ne ∙ p.others r ne

  pub looked_others : (r : ℕ) → r ≢ rule → IsWatchedAt c every r → IsWatchedAt e every r
  looked_others r ne w =
      watched_still c e every every r
      (record {
        states = λ h. sym (ap (λ x. state_of x r) looked_states) ∙ h;
        rules = λ _. ap (λ x. slice_get x r) looked_rules;
        places = λ _. looked_places r ne;
        marks = λ h. f.marks r ne ∙ ap (λ x. get_or x.marks r false) p.rest ∙ h;
      })
      (hears_same c e every r looked_states looked_origins looked_waiters) w

  pub looked_room : HasNotes c → HasNotes e
  looked_room h = record {
    marks = let m = f.room in let n = ap (λ x. length x.marks) p.rest in let k = ap length looked_rules in let w = h.marks in omega arith;
    waiters = let m = ap length looked_waiters in let k = ap length looked_origins in let w = h.waiters in omega arith;
  }

  -- what a rule sees before it looks
  pub record IsSeeing (kept : Kept) (was : Places) : Type 0 where
    pub whole : kept.whole ≡ true
    pub sought : (n : NodeId) → IsSought kept n → IsHeard c every rule n
    pub scanned : IsUnscannedAt kept.found kept.files was.whole
    pub before : (place : ℕ) (n : NodeId) → place < start → slice_get kept.files place ≡ Some n → is_scanned kept.found n ≡ false → is_done c.states c.origins n ≡ false

  done_same : (n : NodeId) → is_done e.states e.origins n ≡ is_done c.states c.origins n
  done_same n = ap (λ x. is_done x e.origins n) looked_states ∙ ap (λ x. is_done c.states x n) looked_origins

  done_between : (n : NodeId) → is_done d.states d.origins n ≡ is_done c.states c.origins n
  done_between n = ap (λ x. is_done x.states x.origins n) p.rest

  -- the rule that looks is watched if what it has to do with was heard of, and what it stood behind can't be scanned
  pub looked_this : HasNotes c
      → ((kept : Kept) (was now : Places) → state_of c.states rule ≡ Waiting → slice_get c.rules rule ≡ Some kept → slice_get c.notes.places rule ≡ Some was → slice_get d.notes.places rule ≡ Some now → now.next ≡ was.next → IsSeeing kept was)
      → IsWatchedAt e every rule
  looked_this room sees = record { each = λ kept at w k g. this kept at w k g }
    where
      this : (kept : Kept) (at : Places) → state_of e.states rule ≡ Waiting → slice_get e.rules rule ≡ Some kept → slice_get e.notes.places rule ≡ Some at → IsWatched e every rule kept at
      this kept at w k g =
          let m = f.from at g in
          let l = p.from m.was m.at in
          let wc : state_of c.states rule ≡ Waiting = sym (ap (λ x. state_of x rule) looked_states) ∙ w in
          let kc : slice_get c.rules rule ≡ Some kept = sym (ap (λ x. slice_get x rule) looked_rules) ∙ k in
          let wd : state_of d.states rule ≡ Waiting = ap (λ x. state_of x.states rule) p.rest ∙ wc in
          let kd : slice_get d.rules rule ≡ Some kept = ap (λ x. slice_get x.rules rule) p.rest ∙ kc in
          let s = sees kept l.was m.was wc kc l.at m.at (ap (λ x. x.next) l.rest) in
          let passed : at.passed ≡ m.was.passed = ap (λ x. x.passed) m.rest in
          let whole : at.whole ≡ l.was.whole = ap (λ x. x.whole) m.rest ∙ ap (λ x. x.whole) l.rest in
          let heard = hears_same c e every rule looked_states looked_origins looked_waiters in
          record {
            whole = s.whole;
            sought = λ n x. heard.heard n (s.sought n x);
            passed = record {
              held = λ n h. told_fails (is_done e.states e.origins n) (done_same n ∙ p.undone kept m.was n kc m.at (sym (ap (slice_get (kept.required ++ kept.deps)) passed) ∙ h));
            };
            scanned = record { unscanned = λ n h. s.scanned.unscanned n (sym (ap (slice_get kept.files) whole) ∙ h) };
            next = record { none = λ place n lt h u. next_by kept at s place n kd wd g lt h u (ltb place start) refl };
            marked = λ lt. f.marked kept at wd (within kept kc) kd g lt;
          }
        where
          within : (kept : Kept) → slice_get c.rules rule ≡ Some kept → rule < length d.marks
          within kept k =
              let lt = slice_get_within c.rules rule kept k in
              let le = room.marks in
              let same = ap (λ x. length x.marks) p.rest in
              omega arith

          next_by : (kept : Kept) (at : Places) {was : Places} → IsSeeing kept was → (place : ℕ) (n : NodeId) → slice_get d.rules rule ≡ Some kept → state_of d.states rule ≡ Waiting → slice_get e.notes.places rule ≡ Some at
              → place < at.next → slice_get kept.files place ≡ Some n → is_scanned kept.found n ≡ false → (x : Bool) → ltb place start ≡ x → is_told e every n ≡ false
          next_by kept at s place n kd wd g lt h u true x = (told_fails (is_done e.states e.origins n) (done_same n ∙ s.before place n (ltb-true place start x) h u))
          next_by kept at s place n kd wd g lt h u false x =
              told_fails (is_done e.states e.origins n) (done_same n ∙ sym (done_between n) ∙ (f.none kept at wd kd g).none place n (ltb-false place start x) lt h u)

-- A rule is put, what it needs is met, and then it looks.
module _ (g : RuleGraph) (a b c d e : Planned) (rule : RuleId) (of : Rule) (task : Task) (u v : List RuleId) (put : PutsTask a b rule.0 task) (rules : b.rules ≡ set a.rules rule.0 (kept_of task)) (t : IsTaskOf g of task)
    (below : are_below (length g.nodes) (of.required ++ named_of of) ≡ true) (brings : BringsWatch b c u v) (leaves : LeavesRules b c) (hears : Hears g b c rule.0 (needs_at b.rules rule.0)) (p : Passes c d rule.0)
    (f : Readies d e rule.0 0) where
  put_room : HasNotes a → HasNotes b
  put_room h = record {
    marks = let m = put.room in let n = ap length rules in let k = length-set a.rules rule.0 (kept_of task) in let w = h.marks in omega arith;
    waiters = let m = ap (λ x. length x.origins) put.rest in let k = ap (λ x. length x.notes.waiters) put.rest in let w = h.waiters in omega arith;
  }

  put_others : (r : ℕ) → r ≢ rule.0 → IsWatchedAt a every r → IsWatchedAt b every r
  put_others r ne w =
      watched_still a b every every r
      (record {
        states = λ h. sym (ap (λ x. state_of x.states r) put.rest) ∙ h;
        rules = λ _. ap (λ x. slice_get x r) rules ∙ get-set_other a.rules rule.0 r (kept_of task) ne;
        places = λ _. ap (λ x. slice_get x r) put.places ∙ get-set_other a.notes.places rule.0 r (places_of task) ne;
        marks = λ h. put.marks r ne ∙ h;
      })
      (hears_same a b every r (ap (λ x. x.states) put.rest) (ap (λ x. x.origins) put.rest) (ap (λ x. x.notes.waiters) put.rest)) w

  nothing_found : (kept : Kept) (n by : NodeId) → kept ≡ first_kept g of → stands (included kept.found by) n ≡ true → ⊥
  nothing_found kept n by e h = let bad : false ≡ true = sym (ap (λ (x : Kept). stands (included x.found by) n) e) ∙ h in cc

  sees : HasNotes a → (kept : Kept) (was now : Places) → state_of c.states rule.0 ≡ Waiting → slice_get c.rules rule.0 ≡ Some kept → slice_get c.notes.places rule.0 ≡ Some was → slice_get d.notes.places rule.0 ≡ Some now → now.next ≡ was.next
      → IsSeeing c d e rule.0 0 p f kept was
  sees room kept was now w k at _ _ = record {
    whole = ap (λ (x : Kept). x.whole) first;
    sought = λ n s. heard n s;
    scanned = record { unscanned = λ n h. ap (λ (x : Kept). is_scanned x.found n) first };
    before = λ place n lt h s. absurd (omega arith);
  }
    where
      here : slice_get b.rules rule.0 ≡ Some kept
      here = sym (ap (λ x. slice_get x rule.0) leaves.rules) ∙ k

      first : kept ≡ first_kept g of
      first = get-set_is a.rules rule.0 (kept_of task) kept (sym (ap (λ x. slice_get x rule.0) rules) ∙ here) ∙ t.kept

      needs : needs_at b.rules rule.0 ≡ kept.required ++ kept.deps
      needs = ap needs_in here

      all_below : are_below (length g.nodes) (needs_at b.rules rule.0) ≡ true
      all_below = ap (are_below (length g.nodes)) needs ∙ ap (λ (x : Kept). are_below (length g.nodes) (x.required ++ x.deps)) first ∙ below

      needed : (n : NodeId) → stands (kept.required ++ kept.deps) n ≡ true → IsHeard c every rule.0 n
      needed n h = hears.each all_below (put_room room) n (ap (λ xs. stands xs n) needs ∙ h)

      heard : (n : NodeId) → IsSought kept n → IsHeard c every rule.0 n
      heard n (IsSought.needed h) = needed n h
      heard n (IsSought.scanned h) =
          let in_deps : stands kept.deps n ≡ true = ap (λ (x : Kept). stands x.deps n) first ∙ scanned_named g of n (sym (ap (λ (x : Kept). stands x.files n) first) ∙ h) in
          needed n (list_any-append (λ m. nat_eq n.0 m.0) kept.required kept.deps ∙ or_second (stands kept.required n) (stands kept.deps n) in_deps)
      heard n (IsSought.found by h k) = absurd (nothing_found kept n by first h)

  pub admits_watch : AdmitsWatch a e rule.0 u v
  admits_watch = record {
    more = brings.more;
    is = brings.is;
    watched = λ apart_of room w.
        let put_w : AreWatched b every (λ r. apart_of r || nat_eq rule.0 r) =
        record { each = λ r h. put_others r (not_this (nat_eq rule.0 r) r refl (or_right_no (apart_of r) (nat_eq rule.0 r) h)) (w.each r h) } in
        let met = brings.keeps.watched (λ r. apart_of r || nat_eq rule.0 r) put_w in
        record { each = λ r h. each_by apart_of room met r h (apart r rule.0) };
    queued = λ apart_of q. queued_none e apart_of (unordered (e.notes.is_ordered) refl);
    room = λ h. looked_room c d e rule.0 0 p f (brings.keeps.room (put_room h));
  }
    where
      not_this : (x : Bool) (r : ℕ) → nat_eq rule.0 r ≡ x → x ≡ false → r ≢ rule.0
      not_this x r e h = λ same. absurd (true_false (nat_eq rule.0 r) (let g : rule.0 ≡ r = sym same in grind (arith, nat_tests)) (e ∙ h))

      each_by : (apart_of : ℕ → Bool) → HasNotes a → AreWatched c every (λ r. (apart_of r || nat_eq rule.0 r) || queues brings.more r) → (r : ℕ) → (apart_of r || queues brings.more r) ≡ false → (r ≡ rule.0) ⊎ (r ≢ rule.0)
          → IsWatchedAt e every r
      each_by apart_of room met r h (inl same) = rw same (looked_this c d e rule.0 0 p f (brings.keeps.room (put_room room)) (sees room))
      each_by apart_of room met r h (inr ne) =
          looked_others c d e rule.0 0 p f r ne
          (met.each r (or_no (apart_of r || nat_eq rule.0 r) (queues brings.more r) (or_no (apart_of r) (nat_eq rule.0 r) (or_left_no (apart_of r) (queues brings.more r) h) (eq_no rule.0 r ne))
          (or_right_no (apart_of r) (queues brings.more r) h)))

      unordered : (x : Bool) → e.notes.is_ordered ≡ x → e.notes.is_ordered ≡ false
      unordered true h =
          let before : b.notes.is_ordered ≡ true = leaves.ordered (sym (looked_ordered c d e rule.0 0 p f) ∙ h) in
          absurd (true_false b.notes.is_ordered before (ap (λ x. x.notes.is_ordered) put.rest))
      unordered false h = h
