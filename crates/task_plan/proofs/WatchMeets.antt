-- What was watched stays so where files are met and rules come to be needed.
use Rattle.std.proofs.Common.{arith, ◌≡◌, ◌≢◌, ◌<◌, ◌≤◌, ◌∙◌, ◌⊎◌, inl, inr, ℕ, ◌+◌, List, [], ◌∷◌, ◌++◌, Bool, true, false, ◌&&◌, ◌||◌, ap, sym, refl, length, set, get_or, take, drop, Some, None, subst, append_assoc, get_or-set_other, get_or-set_same, length-set}
use Rattle.std.specs.Prelude.{slice_get, nat_eq, ltb, nat_lt}
use Rattle.std.specs.List.{list_all}
use Rattle.std.proofs.lemmas.Bool.{ltb-true, ltb-false}
use Rattle.std.proofs.lemmas.Bool.Decides.{nat_tests}
use Rattle.std.proofs.lemmas.Option.{slice_get_within, get_or_from_slice_get}
use Rattle.std.proofs.lemmas.List.{get_or_past, append-nil, take_all, take_more, drop_all, drop_more, drop-append-le}
use Rattle.std.proofs.lemmas.List.Folds.{list_any-append, list_all-append}
use Rattle.scons_base.specs.declared.ids.NodeId.{NodeId}
use Rattle.scons_base.specs.declared.ids.RuleId.{RuleId}
use Rattle.rule_graph.specs.Rules.{are_below}
use Rattle.rule_graph.specs.Graphs.{RuleGraph}
use Rattle.task_plan.specs.States.{state_of}
use Rattle.task_plan.specs.Queues.{is_open, is_placed}
use Rattle.task_plan.specs.Named.{stands}
use Rattle.task_plan.specs.Noted.{waiters_of}
use Rattle.task_plan.specs.Settled.{origin_of, is_settled, is_done, is_done_from}
use Rattle.task_plan.specs.Plans.{Planned, AreMet, Meets, Stays}
use Rattle.task_plan.specs.Met.{is_met, is_met_from}
use Rattle.task_plan.specs.Admits.{queues, none}
use Rattle.task_plan.specs.Watched.{every, is_told, IsHeard, AreWatched, AreQueued, HasNotes}
use Rattle.task_plan.specs.Watching.{WidensWatch, KeepsWatch, BringsWatch, Hears, LeavesRules, AdmitsWatch, EndsWatch}
use Rattle.task_plan.specs.declared.states.RuleState.{RuleState}
use Rattle.task_plan.specs.declared.states.RuleState.TheVariants.{Unneeded, Waiting}
use Rattle.task_plan.specs.declared.files.Origin.{Origin}
use Rattle.task_plan.specs.declared.files.Origin.TheVariants.{Unmet, Source, Made}
use Rattle.task_plan.proofs.MarkLemmas.{apart}
use Rattle.task_plan.proofs.PlanLemmas.{true_false, set_other, set_this}
use Rattle.task_plan.proofs.ListLemmas.{none_past, and_left, and_right}
use Rattle.task_plan.proofs.WalkLemmas.{node_same}
use Rattle.task_plan.proofs.WatchLemmas.{IsStillAt, HearsStill, watched_still, hears_same, told_same, offered_still}

or_left_false : (x y : Bool) → (x || y) ≡ false → x ≡ false
or_left_false true y h = h
or_left_false false y h = refl

or_right_false : (x y : Bool) → (x || y) ≡ false → y ≡ false
or_right_false true y h = absurd (cc)
or_right_false false y h = h

or_both_false : (x y : Bool) → x ≡ false → y ≡ false → (x || y) ≡ false
or_both_false true y h k = h
or_both_false false y h k = k

or_some : (x y : Bool) → x ≡ true → (x || y) ≡ true
or_some true y h = refl
or_some false y h = absurd (cc)

or_other : (x y : Bool) → y ≡ true → (x || y) ≡ true
or_other true y h = refl
or_other false y h = h

pub watched_fewer : (a : Planned) (known : NodeId → Bool) (some more : ℕ → Bool) → ((r : ℕ) → more r ≡ false → some r ≡ false) → AreWatched a known some → AreWatched a known more
watched_fewer a known some more f w = record { each = λ r h. w.each r (f r h) }

pub queued_same : (a b : Planned) (apart_of : ℕ → Bool) → b.states ≡ a.states → b.rules ≡ a.rules → b.notes.places ≡ a.notes.places → b.queue ≡ a.queue → (b.notes.is_ordered ≡ true → a.notes.is_ordered ≡ true)
    → AreQueued a apart_of → AreQueued b apart_of
queued_same a b apart_of s k p u o q = record {
  placed = λ ok r w. ap (λ x. is_placed x r) u ∙ q.placed (o ok) r (sym (ap (λ x. state_of x r) s) ∙ w);
  opened = λ ok r h.
      offered_still a b r (λ w. sym (ap (λ x. state_of x r) s) ∙ w) (λ _. ap (λ x. slice_get x r) k) (λ _. ap (λ x. slice_get x r) p) (λ i. ap (λ x. is_open x r) u ∙ i) (q.opened (o ok) r h);
}

-- nothing is queued where the order doesn't fit
pub queued_none : (b : Planned) (apart_of : ℕ → Bool) → b.notes.is_ordered ≡ false → AreQueued b apart_of
queued_none b apart_of no_order = record { placed = λ ok. absurd (true_false b.notes.is_ordered ok no_order); opened = λ ok. absurd (true_false b.notes.is_ordered ok no_order) }

pub heard_on : (a b : Planned) (known after : NodeId → Bool) (r : ℕ) (n : NodeId) → HearsStill a b known after r → IsHeard a known r n → IsHeard b after r n
heard_on a b known after r n s h = s.heard n h

-- where only what concerns no watched rule changes
pub keeps_by : (a b : Planned) (more : List RuleId) → ((r : ℕ) → queues more r ≡ false → IsStillAt a b r) → ((r : ℕ) → HearsStill a b every every r) → ((apart_of : ℕ → Bool) → AreQueued a apart_of → AreQueued b apart_of)
    → (HasNotes a → HasNotes b) → ((n : NodeId) → is_met a.origins n ≡ true → is_met b.origins n ≡ true) → ((n : NodeId) → is_met a.origins n ≡ true → is_told b every n ≡ is_told a every n) → KeepsWatch a b more
keeps_by a b more s h q room met told = record {
  met = met;
  told = told;
  watched = λ apart_of w. record { each = λ r f. watched_still a b every every r (s r (or_right_false (apart_of r) (queues more r) f)) (h r) (w.each r (or_left_false (apart_of r) (queues more r) f)) };
  queued = q;
  heard = λ r n k. (h r).heard n k;
  room = room;
}

pub keeps_watch_same : (a : Planned) → KeepsWatch a a []
keeps_watch_same a = record {
  watched = λ apart_of w. watched_fewer a every apart_of (λ r. apart_of r || false) (λ r h. or_left_false (apart_of r) false h) w;
  queued = λ apart_of q. q;
  heard = λ r n h. h;
  met = λ n h. h;
  told = λ n h. refl;
  room = λ h. h;
}

pub keeps_watch_then : (a b c : Planned) (m n : List RuleId) → KeepsWatch a b m → KeepsWatch b c n → KeepsWatch a c (m ++ n)
keeps_watch_then a b c m n k l = record {
  watched = λ apart_of w.
      watched_fewer c every (λ r. (apart_of r || queues m r) || queues n r) (λ r. apart_of r || queues (m ++ n) r)
      (λ r h.
      let first = or_left_false (apart_of r) (queues (m ++ n) r) h in
      let both = sym (list_any-append (λ q. nat_eq q.0 r) m n) ∙ or_right_false (apart_of r) (queues (m ++ n) r) h in
      or_both_false (apart_of r || queues m r) (queues n r) (or_both_false (apart_of r) (queues m r) first (or_left_false (queues m r) (queues n r) both)) (or_right_false (queues m r) (queues n r) both))
      (l.watched (λ r. apart_of r || queues m r) (k.watched apart_of w));
  queued = λ apart_of q. l.queued apart_of (k.queued apart_of q);
  heard = λ r x h. l.heard r x (k.heard r x h);
  met = λ x h. l.met x (k.met x h);
  told = λ x h. l.told x (k.met x h) ∙ k.told x h;
  room = λ h. l.room (k.room h);
}

pub brings_watch_same : (a : Planned) (p : List RuleId) → BringsWatch a a p p
brings_watch_same a p = record { more = []; is = sym (append-nil p); keeps = keeps_watch_same a }

pub brings_watch_then : (a b c : Planned) (p q u : List RuleId) → BringsWatch a b p q → BringsWatch b c q u → BringsWatch a c p u
brings_watch_then a b c p q u k l = record { more = k.more ++ l.more; is = l.is ∙ ap (λ x. x ++ l.more) k.is ∙ append_assoc p k.more l.more; keeps = keeps_watch_then a b c k.more l.more k.keeps l.keeps }

pub brings_watch_keeps : (a b c : Planned) (p q : List RuleId) → BringsWatch a b p q → KeepsWatch b c [] → BringsWatch a c p q
brings_watch_keeps a b c p q k l = brings_watch_then a b c p q q k (record { more = []; is = sym (append-nil q); keeps = l })

pub keeps_watch_brings : (a b c : Planned) (p q : List RuleId) → KeepsWatch a b [] → BringsWatch b c p q → BringsWatch a c p q
keeps_watch_brings a b c p q k l = brings_watch_then a b c p p q (record { more = []; is = sym (append-nil p); keeps = k }) l

pub leaves_same : (a : Planned) → LeavesRules a a
leaves_same a = record { ordered = λ h. h; rules = refl; places = refl; marks = refl }

pub leaves_then : (a b c : Planned) → LeavesRules a b → LeavesRules b c → LeavesRules a c
leaves_then a b c k l = record { ordered = λ h. k.ordered (l.ordered h); rules = l.rules ∙ k.rules; places = l.places ∙ k.places; marks = l.marks ∙ k.marks }

pub still_by : (a b : Planned) (r : ℕ) → (state_of b.states r ≡ Waiting → state_of a.states r ≡ Waiting) → b.rules ≡ a.rules → b.notes.places ≡ a.notes.places → b.marks ≡ a.marks → IsStillAt a b r
still_by a b r s k p m = record { states = s; rules = λ _. ap (λ x. slice_get x r) k; places = λ _. ap (λ x. slice_get x r) p; marks = λ h. ap (λ x. get_or x r false) m ∙ h }

-- there is room for more
pub widens_keeps : (a b : Planned) → WidensWatch a b → (HasNotes a → HasNotes b) → KeepsWatch a b []
widens_keeps a b w room =
    keeps_by a b []
    (λ r _. record {
      states = λ h. sym (w.states r) ∙ h;
      rules = λ h. w.rules r (sym (w.states r) ∙ h);
      places = λ h. w.places r (sym (w.states r) ∙ h);
      marks = λ h. w.marks r ∙ h;
    })
    (λ r. record {
      heard = λ n h. record { met = ap is_met_from (w.origins n.0) ∙ h.met; waits = λ t. ap (λ x. queues x r) (w.waiters n.0) ∙ h.waits (sym (told n) ∙ t) };
      told = λ n h t. told n ∙ t;
    })
    (λ apart_of q. record {
      placed = λ ok r h. ap (λ x. is_placed x r) w.queue ∙ q.placed (sym w.ordered ∙ ok) r (sym (w.states r) ∙ h);
      opened = λ ok r h.
          offered_still a b r (λ i. sym (w.states r) ∙ i) (λ i. w.rules r (sym (w.states r) ∙ i)) (λ i. w.places r (sym (w.states r) ∙ i)) (λ i. ap (λ x. is_open x r) w.queue ∙ i) (q.opened (sym w.ordered ∙ ok) r h);
    })
    room (λ n h. ap is_met_from (w.origins n.0) ∙ h) (λ n h. told n)
  where
    done_same : (x : Origin) → is_done_from b.states x ≡ is_done_from a.states x
    done_same Unmet = refl
    done_same Source = refl
    done_same (Made rule) = ap is_settled (w.states rule.0)

    told : (n : NodeId) → is_told b every n ≡ is_told a every n
    told n = ap (λ x. x && true) (ap (is_done_from b.states) (w.origins n.0) ∙ done_same (origin_of a.origins n.0))

origin_kept : (o : List Origin) (i : ℕ) (v : Origin) (n : NodeId) → origin_of o i ≡ Unmet → is_met o n ≡ true → origin_of (set o i v) n.0 ≡ origin_of o n.0
origin_kept o i v n u m = by (apart n.0 i)
  where
    by : (n.0 ≡ i) ⊎ (n.0 ≢ i) → origin_of (set o i v) n.0 ≡ origin_of o n.0
    by (inl same) = absurd (let bad : false ≡ true = ap is_met_from (sym u) ∙ ap (λ x. is_met_from (origin_of o x)) (sym same) ∙ m in cc)
    by (inr ne) = get_or-set_other o i n.0 v Unmet ne

-- a file is met that wasn't
pub keeps_origin : (a b : Planned) (i : ℕ) (v : Origin) → origin_of a.origins i ≡ Unmet → b ≡ record a { origins = set a.origins i v } → KeepsWatch a b []
keeps_origin a b i v u e =
    keeps_by a b []
    (λ r _. still_by a b r (λ h. sym (ap (λ x. state_of x.states r) e) ∙ h) (ap (λ x. x.rules) e) (ap (λ x. x.notes.places) e) (ap (λ x. x.marks) e))
    (λ r. record {
      heard = λ n h. record {
        met = ap is_met_from (here n h.met) ∙ h.met;
        waits = λ t. ap (λ x. queues (waiters_of x.notes.waiters n.0) r) e ∙ h.waits (sym (told n h.met) ∙ t);
      };
      told = λ n h t. told n h.met ∙ t;
    })
    (λ apart_of q. queued_same a b apart_of (ap (λ x. x.states) e) (ap (λ x. x.rules) e) (ap (λ x. x.notes.places) e) (ap (λ x. x.queue) e) (λ ok. sym (ap (λ x. x.notes.is_ordered) e) ∙ ok) q)
    (λ h. record {
      marks = let m = ap (λ x. length x.rules) e in let k = ap (λ x. length x.marks) e in let w = h.marks in omega arith;
      waiters = let m = ap (λ x. length x.origins) e in let k = ap (λ x. length x.notes.waiters) e in let n = length-set a.origins i v in let w = h.waiters in omega arith;
    })
    (λ n h. ap is_met_from (here n h) ∙ h) (λ n h. told n h)
  where
    here : (n : NodeId) → is_met a.origins n ≡ true → origin_of b.origins n.0 ≡ origin_of a.origins n.0
    here n m = ap (λ x. origin_of x.origins n.0) e ∙ origin_kept a.origins i v n u m

    told : (n : NodeId) → is_met a.origins n ≡ true → is_told b every n ≡ is_told a every n
    told n m = ap (λ x. x && true) (ap (is_done_from b.states) (here n m) ∙ ap (λ x. is_done_from x.states (origin_of a.origins n.0)) e)

-- a rule begins to be needed, and stands apart
pub keeps_begun : (a b : Planned) (rule : RuleId) → state_of a.states rule.0 ≡ Unneeded → b ≡ record a { states = set a.states rule.0 Waiting; notes = record a.notes { is_ordered = false } } → KeepsWatch a b (rule ∷ [])
keeps_begun a b rule u e =
    keeps_by a b (rule ∷ [])
    (λ r h. still_by a b r (λ w. sym (other r (is_other r h)) ∙ w) (ap (λ x. x.rules) e) (ap (λ x. x.notes.places) e) (ap (λ x. x.marks) e))
    (λ r. record {
      heard = λ n h. record {
        met = ap (λ x. is_met x.origins n) e ∙ h.met;
        waits = λ t. ap (λ x. queues (waiters_of x.notes.waiters n.0) r) e ∙ h.waits (sym (told n) ∙ t);
      };
      told = λ n h t. told n ∙ t;
    })
    (λ apart_of q. queued_none b apart_of (ap (λ x. x.notes.is_ordered) e))
    (λ h. record {
      marks = let m = ap (λ x. length x.rules) e in let k = ap (λ x. length x.marks) e in let w = h.marks in omega arith;
      waiters = let m = ap (λ x. length x.origins) e in let k = ap (λ x. length x.notes.waiters) e in let w = h.waiters in omega arith;
    })
    (λ n h. ap (λ x. is_met x.origins n) e ∙ h) (λ n h. told n)
  where
    is_other : (r : ℕ) → (nat_eq rule.0 r || false) ≡ false → r ≢ rule.0
    is_other r h = λ same. absurd (true_false (nat_eq rule.0 r) (let f : rule.0 ≡ r = sym same in grind (arith, nat_tests)) (or_left_false (nat_eq rule.0 r) false h))

    other : (r : ℕ) → r ≢ rule.0 → state_of b.states r ≡ state_of a.states r
    other r ne = ap (λ x. state_of x.states r) e ∙ set_other a.states rule.0 r Waiting ne

    this_fails : (x : RuleState) → (x ≡ Waiting) ⊎ (x ≡ Unneeded) → is_settled x ≡ false
    this_fails x (inl f) = ap is_settled f
    this_fails x (inr f) = ap is_settled f

    done_by : (q : RuleId) → (q.0 ≡ rule.0) ⊎ (q.0 ≢ rule.0) → is_settled (state_of b.states q.0) ≡ is_settled (state_of a.states q.0)
    done_by q (inl same) =
        rw same (ap (λ x. is_settled (state_of x.states rule.0)) e ∙ this_fails (state_of (set a.states rule.0 Waiting) rule.0) (set_this a.states rule.0 Waiting) ∙ sym (ap is_settled u))
    done_by q (inr ne) = ap is_settled (other q.0 ne)

    done_same : (x : Origin) → is_done_from b.states x ≡ is_done_from a.states x
    done_same Unmet = refl
    done_same Source = refl
    done_same (Made q) = done_by q (apart q.0 rule.0)

    told : (n : NodeId) → is_told b every n ≡ is_told a every n
    told n = ap (λ x. x && true) (ap (λ x. is_done b.states x.origins n) e ∙ done_same (origin_of a.origins n.0))

queued_more : (ws : List (List RuleId)) (i n r : ℕ) (rule : RuleId) → queues (waiters_of ws n) r ≡ true → queues (waiters_of (set ws i (waiters_of ws i ++ rule ∷ [])) n) r ≡ true
queued_more ws i n r rule h = by (apart n i) (ltb i (length ws)) refl
  where
    by : (n ≡ i) ⊎ (n ≢ i) → (x : Bool) → ltb i (length ws) ≡ x → queues (waiters_of (set ws i (waiters_of ws i ++ rule ∷ [])) n) r ≡ true
    by (inl same) true e =
        let before : queues (waiters_of ws i) r ≡ true = ap (λ x. queues (waiters_of ws x) r) (sym same) ∙ h in
        ap (λ x. queues (waiters_of (set ws i (waiters_of ws i ++ rule ∷ [])) x) r) same
        ∙ ap (λ x. queues x r) (get_or-set_same ws i (waiters_of ws i ++ rule ∷ []) [] (ltb-true i (length ws) e))
        ∙ list_any-append (λ q. nat_eq q.0 r) (waiters_of ws i) (rule ∷ []) ∙ or_some (queues (waiters_of ws i) r) (queues (rule ∷ []) r) before
    by (inl same) false e =
        let none_there : waiters_of ws i ≡ [] = get_or_past ws i [] (ltb-false i (length ws) e) in
        absurd (let bad : false ≡ true = sym (ap (λ x. queues x r) none_there) ∙ ap (λ x. queues (waiters_of ws x) r) (sym same) ∙ h in cc)
    by (inr ne) x e = ap (λ y. queues y r) (get_or-set_other ws i n (waiters_of ws i ++ rule ∷ []) [] ne) ∙ h

queued_this : (ws : List (List RuleId)) (i : ℕ) (rule : RuleId) → i < length ws → queues (waiters_of (set ws i (waiters_of ws i ++ rule ∷ [])) i) rule.0 ≡ true
queued_this ws i rule lt =
    ap (λ x. queues x rule.0) (get_or-set_same ws i (waiters_of ws i ++ rule ∷ []) [] lt) ∙ list_any-append (λ q. nat_eq q.0 rule.0) (waiters_of ws i) (rule ∷ [])
    ∙ or_other (queues (waiters_of ws i) rule.0) (queues (rule ∷ []) rule.0) (or_some (nat_eq rule.0 rule.0) false (same_eq rule.0))
  where
    same_eq : (n : ℕ) → nat_eq n n ≡ true
    same_eq n = grind (arith, nat_tests)

-- A rule is to be told when a file is done.
module _ (a b : Planned) (node : NodeId) (rule : RuleId) (e : b ≡ record a { notes = record a.notes { waiters = b.notes.waiters } }) (w : b.notes.waiters ≡ set a.notes.waiters node.0 (waiters_of a.notes.waiters node.0 ++ rule ∷ [])) where
  told : (n : NodeId) → is_told b every n ≡ is_told a every n
  told n = told_same a b every n (ap (λ x. x.states) e) (ap (λ x. x.origins) e)

  pub keeps_waiting : KeepsWatch a b []
  keeps_waiting =
      keeps_by a b []
      (λ r _. still_by a b r (λ h. sym (ap (λ x. state_of x.states r) e) ∙ h) (ap (λ x. x.rules) e) (ap (λ x. x.notes.places) e) (ap (λ x. x.marks) e))
      (λ r. record {
        heard = λ n h. record {
          met = ap (λ x. is_met x.origins n) e ∙ h.met;
          waits = λ t. ap (λ x. queues (waiters_of x n.0) r) w ∙ queued_more a.notes.waiters node.0 n.0 r rule (h.waits (sym (told n) ∙ t));
        };
        told = λ n h t. told n ∙ t;
      })
      (λ apart_of q. queued_same a b apart_of (ap (λ x. x.states) e) (ap (λ x. x.rules) e) (ap (λ x. x.notes.places) e) (ap (λ x. x.queue) e) (λ ok. sym (ap (λ x. x.notes.is_ordered) e) ∙ ok) q)
      (λ h. record {
        marks = let m = ap (λ x. length x.rules) e in let k = ap (λ x. length x.marks) e in let l = h.marks in omega arith;
        waiters = let m = ap (λ x. length x.origins) e in let k = ap length w in let n = length-set a.notes.waiters node.0 (waiters_of a.notes.waiters node.0 ++ rule ∷ []) in let l = h.waiters in omega arith;
      })
      (λ n h. ap (λ x. is_met x.origins n) e ∙ h) (λ n h. told n)

  pub hears_waiting : HasNotes a → is_met a.origins node ≡ true → IsHeard b every rule.0 node
  hears_waiting h m = record {
    met = ap (λ x. is_met x.origins node) e ∙ m;
    waits = λ t. ap (λ x. queues (waiters_of x node.0) rule.0) w ∙ queued_this a.notes.waiters node.0 rule (let l = met_within a.origins node m in let k = h.waiters in omega arith);
  }
    where
      met_within : (o : List Origin) (n : NodeId) → is_met o n ≡ true → n.0 < length o
      met_within o n m = by (ltb n.0 (length o)) refl
        where
          by : (x : Bool) → ltb n.0 (length o) ≡ x → n.0 < length o
          by true f = ltb-true n.0 (length o) f
          by false f = absurd (let bad : false ≡ true = sym (ap is_met_from (get_or_past o n.0 Unmet (ltb-false n.0 (length o) f))) ∙ m in cc)

-- a file that is done needs no rule that waits for it
pub hears_done : (b : Planned) (rule : ℕ) (node : NodeId) → is_met b.origins node ≡ true → is_done b.states b.origins node ≡ true → IsHeard b every rule node
hears_done b rule node m d = record { met = m; waits = λ t. absurd (true_false (is_done b.states b.origins node && true) (ap (λ x. x && true) d) t) }

pub stands_one : (node n : NodeId) → stands (node ∷ []) n ≡ true → node ≡ n
stands_one node n h = sym (node_same n node (or_one (nat_eq n.0 node.0) h))
  where
    or_one : (x : Bool) → (x || false) ≡ true → x ≡ true
    or_one true h = refl
    or_one false h = h

-- a rule hears of one file
pub hears_one : (g : RuleGraph) (a b : Planned) (rule : ℕ) (node : NodeId) → (are_below (length g.nodes) (node ∷ []) ≡ true → HasNotes a → IsHeard b every rule node) → Hears g a b rule (node ∷ [])
hears_one g a b rule node f = record { each = λ below h n s. subst (λ (x : NodeId). IsHeard b every rule x) (stands_one node n s) (f below h) }

-- of these files, and then of another one
pub hears_then : (g : RuleGraph) (a b c : Planned) (rule : ℕ) (xs : List NodeId) (n : NodeId) (m k : List RuleId) → Hears g a b rule xs → KeepsWatch a b k → KeepsWatch b c m → Hears g b c rule (n ∷ []) → Hears g a c rule (xs ++ n ∷ [])
hears_then g a b c rule xs n m k h before keeps one = record {
  each = λ below room x s.
      let test = λ (t : NodeId). nat_lt t.0 (length g.nodes) in
      let both = sym (list_all-append test xs (n ∷ [])) ∙ below in
      either x room (and_left (list_all test xs) (list_all test (n ∷ [])) both) (and_right (list_all test xs) (list_all test (n ∷ [])) both)
      (or_split (stands xs x) (stands (n ∷ []) x) (sym (list_any-append (λ y. nat_eq x.0 y.0) xs (n ∷ [])) ∙ s));
}
  where
    or_split : (x y : Bool) → (x || y) ≡ true → (x ≡ true) ⊎ (y ≡ true)
    or_split true y h = inl refl
    or_split false y h = inr h

    either : (x : NodeId) → HasNotes a → are_below (length g.nodes) xs ≡ true → are_below (length g.nodes) (n ∷ []) ≡ true → (stands xs x ≡ true) ⊎ (stands (n ∷ []) x ≡ true) → IsHeard c every rule x
    either x room below last (inl s) = keeps.heard rule x (h.each below room x s)
    either x room below last (inr s) = one.each last (before.room room) x s

pub hears_none : (g : RuleGraph) (a b : Planned) (rule : ℕ) → Hears g a b rule []
hears_none g a b rule = record { each = λ below room n s. absurd (let bad : false ≡ true = s in cc) }

pub hears_on : (g : RuleGraph) (a b c : Planned) (rule : ℕ) (xs : List NodeId) (m : List RuleId) → Hears g a b rule xs → KeepsWatch b c m → Hears g a c rule xs
hears_on g a b c rule xs m h k = record { each = λ below room n s. k.heard rule n (h.each below room n s) }

-- the order may fit no longer
pub keeps_unordered : (a b : Planned) → b ≡ record a { notes = record a.notes { is_ordered = b.notes.is_ordered } } → (b.notes.is_ordered ≡ true → a.notes.is_ordered ≡ true) → KeepsWatch a b []
keeps_unordered a b e f =
    keeps_by a b []
    (λ r _. still_by a b r (λ h. sym (ap (λ x. state_of x.states r) e) ∙ h) (ap (λ x. x.rules) e) (ap (λ x. x.notes.places) e) (ap (λ x. x.marks) e))
    (λ r. hears_same a b every r (ap (λ x. x.states) e) (ap (λ x. x.origins) e) (ap (λ x. x.notes.waiters) e))
    (λ apart_of q. queued_same a b apart_of (ap (λ x. x.states) e) (ap (λ x. x.rules) e) (ap (λ x. x.notes.places) e) (ap (λ x. x.queue) e) f q)
    (λ h. record {
      marks = let m = ap (λ x. length x.rules) e in let k = ap (λ x. length x.marks) e in let w = h.marks in omega arith;
      waiters = let m = ap (λ x. length x.origins) e in let k = ap (λ x. length x.notes.waiters) e in let w = h.waiters in omega arith;
    })
    (λ n h. ap (λ x. is_met x.origins n) e ∙ h) (λ n h. told_same a b every n (ap (λ x. x.states) e) (ap (λ x. x.origins) e))

-- there are roots more
pub keeps_roots : (a b : Planned) → b ≡ record a { notes = record a.notes { roots = b.notes.roots } } → KeepsWatch a b []
keeps_roots a b e =
    keeps_by a b []
    (λ r _. still_by a b r (λ h. sym (ap (λ x. state_of x.states r) e) ∙ h) (ap (λ x. x.rules) e) (ap (λ x. x.notes.places) e) (ap (λ x. x.marks) e))
    (λ r. hears_same a b every r (ap (λ x. x.states) e) (ap (λ x. x.origins) e) (ap (λ x. x.notes.waiters) e))
    (λ apart_of q. queued_same a b apart_of (ap (λ x. x.states) e) (ap (λ x. x.rules) e) (ap (λ x. x.notes.places) e) (ap (λ x. x.queue) e) (λ ok. sym (ap (λ x. x.notes.is_ordered) e) ∙ ok) q)
    (λ h. record {
      marks = let m = ap (λ x. length x.rules) e in let k = ap (λ x. length x.marks) e in let w = h.marks in omega arith;
      waiters = let m = ap (λ x. length x.origins) e in let k = ap (λ x. length x.notes.waiters) e in let w = h.waiters in omega arith;
    })
    (λ n h. ap (λ x. is_met x.origins n) e ∙ h) (λ n h. told_same a b every n (ap (λ x. x.states) e) (ap (λ x. x.origins) e))

pub meets_stays : (a b c : Planned) → Meets a b → Stays b c → Meets a c
meets_stays a b c m s = record { states = subst (AreMet a.states) (sym s.states) m.states; halted = s.halted ∙ m.halted }

pub widens_watch_same : (a : Planned) → WidensWatch a a
widens_watch_same a = record {
  states = λ r. refl;
  origins = λ n. refl;
  rules = λ r w. refl;
  places = λ r w. refl;
  waiters = λ n. refl;
  marks = λ r. refl;
  queue = refl;
  ordered = refl;
  lists = λ h. h;
}

pub widens_watch_trans : (a b c : Planned) → WidensWatch a b → WidensWatch b c → WidensWatch a c
widens_watch_trans a b c k l = record {
  states = λ r. l.states r ∙ k.states r;
  origins = λ n. l.origins n ∙ k.origins n;
  rules = λ r w. l.rules r (k.states r ∙ w) ∙ k.rules r w;
  places = λ r w. l.places r (k.states r ∙ w) ∙ k.places r w;
  waiters = λ n. l.waiters n ∙ k.waiters n;
  marks = λ r. l.marks r ∙ k.marks r;
  queue = l.queue ∙ k.queue;
  ordered = l.ordered ∙ k.ordered;
  lists = λ h. l.lists (k.lists h);
}

-- rules come to be needed, and then all of them are watched
pub brings_ends : (a b c : Planned) (p : List RuleId) → BringsWatch a b [] p → EndsWatch b c p [] → EndsWatch a c [] []
brings_ends a b c p k l = record {
  watched = λ room w. l.watched (k.keeps.room room) (subst (λ (x : List RuleId). AreWatched b every (queues x)) (sym k.is) (k.keeps.watched none w));
  queued = λ apart_of q. l.queued apart_of (k.keeps.queued apart_of q);
  room = λ h. l.room (k.keeps.room h);
}

pub ends_none : (a : Planned) (p : List RuleId) → EndsWatch a a p (drop 0 p)
ends_none a p = record { watched = λ room w. w; queued = λ apart_of q. q; room = λ h. h }

swapped : (x y : Bool) → (x || y) ≡ false → (y || x) ≡ false
swapped true y h = absurd (cc)
swapped false true h = absurd (cc)
swapped false false h = refl

pub ends_next : (a b c : Planned) (p q u : List RuleId) (place : ℕ) (rule : RuleId) → slice_get q place ≡ Some rule → EndsWatch a b p (drop place q) → AdmitsWatch b c rule.0 q u → EndsWatch a c p (drop (place + 1) u)
ends_next a b c p q u place rule at k l =
    let lt = slice_get_within q place rule at in
    let first : drop place q ≡ rule ∷ drop (place + 1) q = drop_more q place rule lt ∙ ap (λ x. x ∷ drop (place + 1) q) (get_or_from_slice_get q place rule rule at) in
    let last : drop (place + 1) u ≡ drop (place + 1) q ++ l.more = ap (drop (place + 1)) l.is ∙ drop-append-le (place + 1) q l.more (omega arith) in
    record {
      watched = λ room w.
          let before = subst (λ (x : List RuleId). AreWatched b every (queues x)) first (k.watched room w) in
          let admitted = l.watched (queues (drop (place + 1) q)) (k.room room) (watched_fewer b every (queues (rule ∷ drop (place + 1) q)) (λ r. queues (drop (place + 1) q) r || nat_eq rule.0 r)
          (λ r h. swapped (queues (drop (place + 1) q) r) (nat_eq rule.0 r) h) before) in
          subst (λ (x : List RuleId). AreWatched c every (queues x)) (sym last)
          (watched_fewer c every (λ r. queues (drop (place + 1) q) r || queues l.more r) (queues (drop (place + 1) q ++ l.more)) (λ r h. sym (list_any-append (λ y. nat_eq y.0 r) (drop (place + 1) q) l.more) ∙ h) admitted);
      queued = λ apart_of x. l.queued apart_of (k.queued apart_of x);
      room = λ h. l.room (k.room h);
    }

pub ends_end : (a b : Planned) (p q : List RuleId) (place : ℕ) → slice_get q place ≡ None → EndsWatch a b p (drop place q) → EndsWatch a b p []
ends_end a b p q place e k = subst (EndsWatch a b p) (drop_all place q (none_past q place e)) k

-- of the file at a place too
pub hears_next : (g : RuleGraph) (a b c : Planned) (rule : ℕ) (xs : List NodeId) (i : ℕ) (n : NodeId) (p q u : List RuleId) → slice_get xs i ≡ Some n → Hears g a b rule (take i xs) → BringsWatch a b p q → BringsWatch b c q u
    → Hears g b c rule (n ∷ []) → Hears g a c rule (take (i + 1) xs)
hears_next g a b c rule xs i n p q u at h k l one =
    let more : take (i + 1) xs ≡ take i xs ++ n ∷ [] = take_more xs i n (slice_get_within xs i n at) ∙ ap (λ y. take i xs ++ y ∷ []) (get_or_from_slice_get xs i n n at) in
    subst (Hears g a c rule) (sym more) (hears_then g a b c rule (take i xs) n l.more k.more h k.keeps l.keeps one)

pub hears_more : (g : RuleGraph) (a b c : Planned) (rule : ℕ) (xs : List NodeId) (i : ℕ) (d : NodeId) (p q u : List RuleId) → i < length xs → Hears g a b rule (take i xs) → BringsWatch a b p q → BringsWatch b c q u
    → Hears g b c rule (get_or xs i d ∷ []) → Hears g a c rule (take (i + 1) xs)
hears_more g a b c rule xs i d p q u lt h k l one = subst (Hears g a c rule) (sym (take_more xs i d lt)) (hears_then g a b c rule (take i xs) (get_or xs i d) l.more k.more h k.keeps l.keeps one)

pub hears_all : (g : RuleGraph) (a b : Planned) (rule : ℕ) (xs : List NodeId) (i : ℕ) → length xs ≤ i → Hears g a b rule (take i xs) → Hears g a b rule xs
hears_all g a b rule xs i le h = subst (Hears g a b rule) (take_all i xs le) h
