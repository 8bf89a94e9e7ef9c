-- The first of the open rules is, of those that can be decided, the first in the build order.
use Rattle.std.proofs.Common.{arith, ◌≡◌, ◌<◌, ◌≤◌, ◌∙◌, ⊎_elim, ℕ, zero, suc, List, [], ◌∷◌, ◌++◌, Bool, true, false, ◌&&◌, ap, sym, refl, length, get_or, Option, Some, None}
use Rattle.std.specs.Prelude.{slice_get, cond, ltb, not, map}
use Rattle.std.specs.declared.alloc.Global.{Global}
use Rattle.std.specs.declared.vec.Vec.{Vec}
use Rattle.std.specs.List.{list_all, cons_option}
use Rattle.std.proofs.lemmas.Bool.{ltb-true, ltb-false}
use Rattle.std.proofs.lemmas.Option.{same_Some, none-some, slice_get-get_or}
use Rattle.std.proofs.lemmas.List.Folds.{list_all-append}
use Rattle.scons_base.specs.declared.ids.NodeId.{NodeId}
use Rattle.scons_base.specs.declared.ids.RuleId.{RuleId}
use Rattle.task_plan.specs.States.{state_of}
use Rattle.task_plan.specs.Queues.{Queued, is_open, number_of, IsFirst}
use Rattle.task_plan.specs.Settled.{Kept, kept_of, origin_of, is_settled, is_done, is_done_from, is_scanned}
use Rattle.task_plan.specs.Plans.{Planned, CanDecide}
use Rattle.task_plan.specs.Orders.{is_among, maker_of, makers_of, needed_in, needed_of, Visits, IsOrder}
use Rattle.task_plan.specs.Watched.{every, is_told, IsWatched, IsComplete}
use Rattle.task_plan.specs.Ordered.{is_left, left, needs_left, is_past, KeepsOrder, IsFirstOf, AreAtPlaces}
use Rattle.task_plan.specs.declared.states.RuleState.{RuleState}
use Rattle.task_plan.specs.declared.states.RuleState.TheVariants.{Unneeded, Waiting, Running, Settled, Failed, Lacking}
use Rattle.task_plan.specs.declared.files.Origin.{Origin}
use Rattle.task_plan.specs.declared.files.Origin.TheVariants.{Unmet, Source, Made}
use Rattle.task_plan.specs.Tracked.{AreTracked}
use Rattle.task_plan.specs.declared.task.Task.{Task}
use Rattle.task_plan.proofs.ListLemmas.{and_left, and_right, and_both, all_by}
use Rattle.task_plan.proofs.PlanLemmas.{true_false}
use Rattle.task_plan.proofs.ReachedLemmas.{none_among, first, later, first_or}
use Rattle.task_plan.proofs.NextLemmas.{HasPlaces, has_places}
use Rattle.task_plan.proofs.WantLemmas.{planned}
use Rattle.task_plan.proofs.ProjectLemmas.{kept_by, among_kept, not_true, one_way, Distinct, comes_once, project}

-- the first rule that passes a test
abbrev pub first_by : (ℕ → Bool) → List RuleId → Option RuleId
first_by p [] = None
first_by p (r ∷ rs) = cond (p r.0) (Some r) (first_by p rs)

first_of : (b c : Bool) (p q : ℕ → Bool) (r : RuleId) (rs : List RuleId) → p r.0 ≡ b → q r.0 ≡ c → (p r.0 ≡ true → q r.0 ≡ true) → first_by p (kept_by q rs) ≡ first_by p rs
    → first_by p (cond c (r ∷ kept_by q rs) (kept_by q rs)) ≡ cond b (Some r) (first_by p rs)
first_of b true p q r rs e h f i = ap (λ x. cond x (Some r) (first_by p (kept_by q rs))) e ∙ ap (λ o. cond b (Some r) o) i
first_of true false p q r rs e h f i = absurd (true_false (q r.0) (f e) h)
first_of false false p q r rs e h f i = i

-- it is the first of those that pass another, where whatever passes the one passes the other
first_kept : (p q : ℕ → Bool) → ((x : ℕ) → p x ≡ true → q x ≡ true) → (xs : List RuleId) → first_by p (kept_by q xs) ≡ first_by p xs
first_kept p q f [] = refl
first_kept p q f (r ∷ rs) = first_of (p r.0) (q r.0) p q r rs refl refl (f r.0) (first_kept p q f rs)

-- a rule that passes, before which none does
record IsFound (p : ℕ → Bool) (xs : List RuleId) (rule : RuleId) : Type 0 where
  before : List RuleId
  behind : List RuleId
  is : xs ≡ before ++ rule ∷ behind
  none : (x : ℕ) → is_among x before ≡ true → p x ≡ false

found_at : (b : Bool) (p : ℕ → Bool) (r : RuleId) (rs : List RuleId) (rule : RuleId) → p r.0 ≡ b → (first_by p rs ≡ Some rule → IsFound p rs rule) → cond b (Some r) (first_by p rs) ≡ Some rule
    → IsFound p (r ∷ rs) rule
found_at true p r rs rule e i h = record { before = []; behind = rs; is = ap (λ (x : RuleId). x ∷ rs) (same_Some r rule h); none = λ x k. none_among x k }
found_at false p r rs rule e i h =
    let f = i h in
    record { before = r ∷ f.before; behind = f.behind; is = ap (λ l. r ∷ l) f.is; none = λ x k. ⊎_elim (λ s. ap p (sym s) ∙ e) (λ m. f.none x m) (first_or x r f.before k) }

found : (p : ℕ → Bool) (xs : List RuleId) (rule : RuleId) → first_by p xs ≡ Some rule → IsFound p xs rule
found p [] rule h = absurd (none-some rule h)
found p (r ∷ rs) rule h = found_at (p r.0) p r rs rule refl (found p rs rule) h

first_there : (p : ℕ → Bool) (xs : List RuleId) (n : ℕ) (rule : RuleId) → slice_get xs n ≡ Some rule → p rule.0 ≡ true → ((k : ℕ) (r : RuleId) → k < n → slice_get xs k ≡ Some r → p r.0 ≡ false)
    → first_by p xs ≡ Some rule
first_there p [] n rule e h f = absurd (none-some rule e)
first_there p (x ∷ xs) zero rule e h f = ap (λ b. cond b (Some x) (first_by p xs)) (ap (λ (y : RuleId). p y.0) (same_Some x rule e) ∙ h) ∙ e
first_there p (x ∷ xs) (suc n) rule e h f =
    ap (λ b. cond b (Some x) (first_by p xs)) (f 0 x (omega arith) refl) ∙ first_there p xs n rule e h (λ k r lt g. f (suc k) r (omega arith) g)

pub among_by : (xs : List RuleId) (m : ℕ) (s : RuleId) → slice_get xs m ≡ Some s → is_among s.0 xs ≡ true
among_by [] m s e = absurd (none-some s e)
among_by (x ∷ xs) zero s e = first s.0 x xs (ap (λ (y : RuleId). y.0) (same_Some x s e))
among_by (x ∷ xs) (suc m) s e = later s.0 x xs (among_by xs m s e)

pub once_behind : (b : Bool) (q : ℕ → Bool) (x : RuleId) (xs : List RuleId) → Distinct (cond b (x ∷ kept_by q xs) (kept_by q xs)) → Distinct (kept_by q xs)
once_behind true q x xs d = d.1
once_behind false q x xs d = d

once_here : (b : Bool) (q : ℕ → Bool) (x : RuleId) (xs : List RuleId) → b ≡ true → Distinct (cond b (x ∷ kept_by q xs) (kept_by q xs)) → is_among x.0 (kept_by q xs) ≡ false
once_here true q x xs t d = d.0
once_here false q x xs t d = absurd (cc)

-- no rule stands twice that passes a test, where each that does stands once
twice : (q : ℕ → Bool) (xs : List RuleId) (k m : ℕ) (r s : RuleId) → r.0 ≡ s.0 → k < m → slice_get xs k ≡ Some r → slice_get xs m ≡ Some s → q r.0 ≡ true → Distinct (kept_by q xs) → ⊥
twice q [] k m r s e lt f g h d = none-some r f
twice q (x ∷ xs) zero zero r s e lt f g h d = absurd (omega arith)
twice q (x ∷ xs) zero (suc m) r s e lt f g h d =
    let number : x.0 ≡ r.0 = ap (λ (y : RuleId). y.0) (same_Some x r f) in
    let passes : q x.0 ≡ true = ap q number ∙ h in
    let there : is_among x.0 (kept_by q xs) ≡ true = among_kept q x.0 xs passes ∙ ap (λ y. is_among y xs) (number ∙ e) ∙ among_by xs m s g in
    true_false (is_among x.0 (kept_by q xs)) there (once_here (q x.0) q x xs passes d)
twice q (x ∷ xs) (suc k) zero r s e lt f g h d = absurd (omega arith)
twice q (x ∷ xs) (suc k) (suc m) r s e lt f g h d = twice q xs k m r s e (omega arith) f g h (once_behind (q x.0) q x xs d)

-- of files that are done no maker is left
maker_done : (o : Origin) (states : List RuleState) (rest : List RuleId) → is_done_from states o ≡ true → left states rest ≡ [] → left states (cons_option (maker_of o) rest) ≡ []
maker_done Unmet states rest h i = i
maker_done Source states rest h i = i
maker_done (Made rule) states rest h i = ap (λ b. cond (not b) (rule ∷ left states rest) (left states rest)) h ∙ i

pub makers_done : (states : List RuleState) (origins : List Origin) (files : List NodeId) → list_all (λ n. is_done states origins n) files ≡ true → left states (makers_of origins files) ≡ []
makers_done states origins [] h = refl
makers_done states origins (file ∷ files) h =
    let rest = makers_done states origins files (and_right (is_done states origins file) (list_all (λ n. is_done states origins n) files) h) in
    maker_done (origin_of origins file.0) states (makers_of origins files) (and_left (is_done states origins file) (list_all (λ n. is_done states origins n) files) h) rest

settled_past : (s : RuleState) → not (is_settled s) ≡ false → is_past s ≡ true
settled_past Unneeded e = absurd (cc)
settled_past Waiting e = absurd (cc)
settled_past Running e = refl
settled_past Settled e = refl
settled_past Failed e = absurd (cc)
settled_past Lacking e = absurd (cc)

-- what a settled rule needs is settled
pub settled_needs : (p : Planned) → ((rule : ℕ) (kept : Kept) → is_past (state_of p.states rule) ≡ true → slice_get p.rules rule ≡ Some kept → list_all (λ n. is_done p.states p.origins n) (kept.required ++ kept.deps) ≡ true)
    → (r : ℕ) → is_left p.states r ≡ false → needs_left p r ≡ []
settled_needs p done r e = by (slice_get p.rules r) refl
  where
    by : (o : Option Kept) → slice_get p.rules r ≡ o → left p.states (needed_in p.origins o) ≡ []
    by None h = refl
    by (Some kept) h = makers_done p.states p.origins (kept.required ++ kept.deps) (done r kept (settled_past (state_of p.states r) e) h)

-- what is left of the build order is depth first over what is left
pub order_left : (p : Planned) (order : List RuleId) → ((r : ℕ) → is_left p.states r ≡ false → needs_left p r ≡ []) → (o : IsOrder p.rules p.origins p.notes.roots order)
    → Visits (length p.rules) (needs_left p) [] (left p.states p.notes.roots) (left p.states o.met) (left p.states order)
order_left p order closed o = project (length p.rules) (needed_of p.rules p.origins) (is_left p.states) closed o.visits

told_true : (d : Bool) → d ≡ true → (d && true) ≡ true
told_true d h = ap (λ b. b && true) h

-- what is done before a place that isn't the end is no end
passed_all : (p : Planned) (needs : List NodeId) (place : ℕ) → list_all (λ n. is_done p.states p.origins n) needs ≡ true → ((n : NodeId) → slice_get needs place ≡ Some n → is_told p every n ≡ false) → length needs ≤ place
passed_all p needs place all held = by (ltb place (length needs)) refl
  where
    by : (x : Bool) → ltb place (length needs) ≡ x → length needs ≤ place
    by false e = ltb-false place (length needs) e
    by true e =
        let d : NodeId = record { 0 = 0 } in
        let there = slice_get-get_or needs place d (ltb-true place (length needs) e) in
        let done = all_by (λ n. is_done p.states p.origins n) needs place _ (is_done p.states p.origins _) refl all there in
        absurd (true_false (is_told p every _) (told_true (is_done p.states p.origins _) done) (held _ there))

scanned_all : (found : List (NodeId × List NodeId)) (files : List NodeId) (place : ℕ) → list_all (λ n. is_scanned found n) files ≡ true → ((n : NodeId) → slice_get files place ≡ Some n → is_scanned found n ≡ false) → length files ≤ place
scanned_all found files place all un = by (ltb place (length files)) refl
  where
    by : (x : Bool) → ltb place (length files) ≡ x → length files ≤ place
    by false e = ltb-false place (length files) e
    by true e =
        let d : NodeId = record { 0 = 0 } in
        let there = slice_get-get_or files place d (ltb-true place (length files) e) in
        let is = all_by (λ n. is_scanned found n) files place _ (is_scanned found _) refl all there in
        absurd (true_false (is_scanned found _) is (un _ there))

-- what can be decided is open
pub can_open : (p : Planned) → HasPlaces p → p.notes.is_ordered ≡ true → IsComplete p → (r : ℕ) → CanDecide p r → is_open p.queue r ≡ true
can_open p h ordered c r can =
    let at = h.each r can.kept can.at in
    let w : IsWatched p every r can.kept at.0 = (c.watched.each r refl).each can.kept at.0 can.waits can.at at.1 in
    let done = λ (n : NodeId). is_done p.states p.origins n in
    let needs = list_all-append done can.kept.required can.kept.deps ∙ and_both (list_all done can.kept.required) (list_all done can.kept.deps) can.ready.required can.ready.deps in
    (c.queued.opened ordered r refl).opened can.kept at.0 can.waits can.at at.1 (passed_all p (can.kept.required ++ can.kept.deps) at.0.passed needs w.passed.held)
    (scanned_all can.kept.found can.kept.files at.0.whole can.ready.scanned w.scanned.unscanned)

-- the first open rule is, of those that can be decided, the first in the build order
pub first_in_order : (p : Planned) (rule : RuleId) (order : List RuleId) → AreAtPlaces p.queue → ((r : ℕ) → is_open p.queue r ≡ true → state_of p.states r ≡ Waiting) → ((r : ℕ) → CanDecide p r → is_open p.queue r ≡ true)
    → IsFirst p.queue rule.0 → KeepsOrder p → p.notes.is_ordered ≡ true → IsOrder p.rules p.origins p.notes.roots order → IsFirstOf p order rule
first_in_order p rule order places waits opens f k ordered o =
    record { before = in_order.before; behind = in_order.behind; is = in_order.is; none = λ other m can. true_false (is_open p.queue other) (opens other can) (in_order.none other m); all = stands }
  where
    open_left : (r : ℕ) → is_open p.queue r ≡ true → is_left p.states r ≡ true
    open_left r h = ap (λ s. not (is_settled s)) (waits r h)

    same : left p.states order ≡ left p.states p.queue.order
    same = (one_way (length p.rules) (needs_left p) (order_left p order (settled_needs p k.done) o) (k.ordered ordered).visits).1

    once : Distinct (left p.states p.queue.order)
    once = comes_once (length p.rules) (needs_left p) (k.ordered ordered).visits

    none_open : (n : ℕ) (r : RuleId) → n < number_of p.queue rule.0 → slice_get p.queue.order n ≡ Some r → is_open p.queue r.0 ≡ false
    none_open n r lt g = not_true (is_open p.queue r.0) (λ h.
        let le = f.first r.0 h in
        twice (is_left p.states) p.queue.order n (number_of p.queue r.0) r r refl (omega arith) g (places.each r.0 h) (open_left r.0 h) once)

    in_queue : first_by (is_open p.queue) p.queue.order ≡ Some rule
    in_queue = first_there (is_open p.queue) p.queue.order (number_of p.queue rule.0) rule (places.each rule.0 f.opened) f.opened none_open

    in_order : IsFound (is_open p.queue) order rule
    in_order =
        found (is_open p.queue) order rule
        (sym (first_kept (is_open p.queue) (is_left p.states) open_left order) ∙ ap (first_by (is_open p.queue)) same ∙ first_kept (is_open p.queue) (is_left p.states) open_left p.queue.order ∙ in_queue)

    stands : (other : ℕ) → CanDecide p other → is_among other order ≡ true
    stands other can =
        let h = opens other can in
        let l = open_left other h in
        let there = among_by p.queue.order (number_of p.queue other) (record { 0 = other }) (places.each other h) in
        sym (among_kept (is_left p.states) other order l) ∙ ap (is_among other) same ∙ among_kept (is_left p.states) other p.queue.order l ∙ there

-- the rule that is decided next is the first in the build order
pub decided_first : (a : List RuleState) (q : Queued) (h : Bool) (ts : List Task) (o : List Origin) (m : List Bool) (ws : List (Vec RuleId Global)) (b : Bool) (rs : List RuleId) (rule : RuleId) → AreTracked a q ts o m → AreAtPlaces q → IsFirst q rule.0
    → ((r : ℕ) → get_or m r false ≡ false) → KeepsOrder (planned a q h ts o m ws b rs) → IsComplete (planned a q h ts o m ws b rs)
    → (order : List RuleId) → IsOrder (map kept_of ts) o rs order → IsFirstOf (planned a q h ts o m ws b rs) order rule
decided_first a q h ts o m ws b rs rule t places f unmarked k c order is =
    let p = planned a q h ts o m ws b rs in
    let ordered = c.ordered.fits unmarked in
    first_in_order p rule order places (λ r now. (t.opened r now).waits) (can_open p (has_places p ts refl refl) ordered c) f k ordered is
