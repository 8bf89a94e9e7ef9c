-- What a plan keeps true of its rules stays so through each change.
use Rattle.std.proofs.Common.{arith, ◌≡◌, ◌≢◌, ◌<◌, ◌≤◌, ◌∙◌, ◌⊎◌, inl, inr, ℕ, zero, suc, List, [], ◌∷◌, ◌++◌, Bool, true, false, ap, sym, refl, length, set, get_or, take, Option, Some, None, get_or-set_other, length-set, length-append}
use Rattle.std.specs.Prelude.{slice_get}
use Rattle.std.specs.List.{list_all}
use Rattle.std.proofs.lemmas.Option.{same_Some, none-some}
use Rattle.scons_base.specs.declared.ids.NodeId.{NodeId}
use Rattle.task_plan.specs.States.{state_of}
use Rattle.task_plan.specs.Queues.{Queued, is_open}
use Rattle.task_plan.specs.Settled.{origin_of, is_settled, is_done, is_done_from, is_scanned, needs_of, AreDoneTo, AreScannedTo, KeepsNeeds, IsThrough, CanScan}
use Rattle.task_plan.specs.Listed.{IsListing}
use Rattle.task_plan.specs.Loaded.{IsBlank}
use Rattle.task_plan.specs.Tracked.{IsTracked, IsOpened, IsMarked, AreTracked}
use Rattle.task_plan.specs.Plans.{AreMet, AreWaiting}
use Rattle.task_plan.specs.declared.states.RuleState.{RuleState}
use Rattle.task_plan.specs.declared.states.RuleState.TheVariants.{Unneeded, Waiting, Running}
use Rattle.task_plan.specs.declared.files.Origin.{Origin}
use Rattle.task_plan.specs.declared.files.Origin.TheVariants.{Unmet, Source, Made}
use Rattle.task_plan.specs.declared.task.Task.{Task}
use Rattle.task_plan.proofs.MarkLemmas.{apart}
use Rattle.task_plan.proofs.ListLemmas.{and_left, and_right, and_both, list_all_weaker, each_of_all, get-set_other, get-set_same, get-set_is, get-front, get-last}
use Rattle.task_plan.proofs.PlanLemmas.{set_other, true_false}
use Rattle.task_plan.proofs.ListedLemmas.{listing_passed, listing_next}
use Rattle.task_plan.proofs.LoadLemmas.{listing_blank}

-- what was done is done still
record IsDoneStill (a b : List RuleState) (o p : List Origin) : Type 0 where
  still : (n : NodeId) → is_done a o n ≡ true → is_done b p n ≡ true

tracked_still : (a b : List RuleState) (o p : List Origin) (t : Task) → IsDoneStill a b o p → IsTracked a o t → IsTracked b p t
tracked_still a b o p t s k = record {
  needs = record { within = k.needs.within; each = list_all_weaker (λ n. is_done a o n) (λ n. is_done b p n) (take t.passed (needs_of t)) s.still k.needs.each };
  files = k.files;
  listing = k.listing;
}

marked_still : (a b : List RuleState) (o p : List Origin) (ts : List Task) (r : ℕ) → IsDoneStill a b o p → state_of b r ≡ Waiting → IsMarked a o ts r → IsMarked b p ts r
marked_still a b o p ts r s w m = record {
  task = m.task;
  at = m.at;
  waits = w;
  file = m.file;
  next = m.next;
  can = record { unscanned = m.can.unscanned; done = s.still m.file m.can.done };
}

opened_still : (a b : List RuleState) (ts : List Task) (r : ℕ) → state_of b r ≡ Waiting → IsOpened a ts r → IsOpened b ts r
opened_still a b ts r w m = record { task = m.task; at = m.at; waits = w; through = m.through }

settled_on : (x y : RuleState) → (y ≡ x) ⊎ ((x ≡ Unneeded) × (y ≡ Waiting)) → is_settled x ≡ true → is_settled y ≡ true
settled_on x y (inl e) h = rw e h
settled_on x y (inr e) h = absurd (true_false (is_settled x) h (rw e.0 refl))

waits_on : (x y : RuleState) → (y ≡ x) ⊎ ((x ≡ Unneeded) × (y ≡ Waiting)) → x ≡ Waiting → y ≡ Waiting
waits_on x y (inl e) h = e ∙ h
waits_on x y (inr e) h = e.1

from_on : (a b : List RuleState) (x : Origin) → ((r : ℕ) → is_settled (state_of a r) ≡ true → is_settled (state_of b r) ≡ true) → is_done_from a x ≡ true → is_done_from b x ≡ true
from_on a b Unmet f h = h
from_on a b Source f h = refl
from_on a b (Made rule) f h = f rule.0 h

-- rules are met
pub tracked_met : (a b : List RuleState) (q : Queued) (ts : List Task) (o : List Origin) (m : List Bool) → AreMet a b → length b ≤ length ts → AreTracked a q ts o m → AreTracked b q ts o m
tracked_met a b q ts o m met le t =
    let s : IsDoneStill a b o o = record { still = λ n h. from_on a b (origin_of o n.0) (λ r. settled_on (state_of a r) (state_of b r) (met.at r)) h } in
    record {
      each = λ r task e. tracked_still a b o o task s (t.each r task e);
      opened = λ r h. let k = t.opened r h in opened_still a b ts r (waits_on (state_of a r) (state_of b r) (met.at r) k.waits) k;
      marked = λ r h. let k = t.marked r h in marked_still a b o o ts r s (waits_on (state_of a r) (state_of b r) (met.at r) k.waits) k;
      room = le;
    }

origin_by : (a : List RuleState) (o : List Origin) (i n : ℕ) (v : Origin) → (n ≡ i) ⊎ (n ≢ i) → origin_of o i ≡ Unmet → is_done_from a (origin_of o n) ≡ true → is_done_from a (origin_of (set o i v) n) ≡ true
origin_by a o i n v (inl same) e h = absurd (true_false (is_done_from a (origin_of o n)) h (rw (same, e) refl))
origin_by a o i n v (inr ne) e h = rw (get_or-set_other o i n v Unmet ne) h

tracked_done : (a : List RuleState) (q : Queued) (ts : List Task) (o p : List Origin) (m : List Bool) → IsDoneStill a a o p → AreTracked a q ts o m → AreTracked a q ts p m
tracked_done a q ts o p m s t = record {
  each = λ r task e. tracked_still a a o p task s (t.each r task e);
  opened = t.opened;
  marked = λ r h. let k = t.marked r h in marked_still a a o p ts r s k.waits k;
  room = t.room;
}

-- a file is met
pub tracked_origin : (a : List RuleState) (q : Queued) (ts : List Task) (o : List Origin) (m : List Bool) (i : ℕ) (v : Origin) → origin_of o i ≡ Unmet → AreTracked a q ts o m → AreTracked a q ts (set o i v) m
tracked_origin a q ts o m i v e t = tracked_done a q ts o (set o i v) m (record { still = λ n h. origin_by a o i n.0 v (apart n.0 i) e h }) t

-- there is room for more files
pub tracked_origins : (a : List RuleState) (q : Queued) (ts : List Task) (o p : List Origin) (m : List Bool) → ((n : ℕ) → origin_of p n ≡ origin_of o n) → AreTracked a q ts o m → AreTracked a q ts p m
tracked_origins a q ts o p m same t = tracked_done a q ts o p m (record { still = λ n h. rw (same n.0) h }) t

-- a rule that is through has scanned all its files
through_scanned : (a : List RuleState) (o : List Origin) (t : Task) (i : ℕ) (n : NodeId) → IsTracked a o t → IsThrough t → slice_get t.reach.files.keys i ≡ Some n → is_scanned t.reach.found.entries n ≡ true
through_scanned a o t i n k d e = each_of_all (λ x. is_scanned t.reach.found.entries x) t.reach.files.keys t.reach.whole i n k.files.each d.files e

-- no rule is both open and marked
pub apart_marked : (a : List RuleState) (q : Queued) (ts : List Task) (o : List Origin) (m : List Bool) (r : ℕ) → AreTracked a q ts o m → is_open q r ≡ true → get_or m r false ≡ true → ⊥
apart_marked a q ts o m r t p h =
    let x = t.opened r p in
    let y = t.marked r h in
    let same : y.task ≡ x.task = same_Some y.task x.task (sym y.at ∙ x.at) in
    let k = t.each r x.task x.at in
    let next : slice_get x.task.reach.files.keys x.task.reach.next ≡ Some y.file = rw (sym same) y.next in
    let unscanned : is_scanned x.task.reach.found.entries y.file ≡ false = rw (sym same) y.can.unscanned in
    true_false (is_scanned x.task.reach.found.entries y.file) (through_scanned a o x.task x.task.reach.next y.file k x.through next) unscanned

goes_not_settled : (x : RuleState) → (x ≡ Waiting) ⊎ (x ≡ Running) → is_settled x ≡ false
goes_not_settled x (inl e) = rw e refl
goes_not_settled x (inr e) = rw e refl

-- a rule that can be decided or runs isn't settled
pub goes_unsettled : (a : List RuleState) (q : Queued) (ts : List Task) (o : List Origin) (m : List Bool) (r : ℕ) → AreTracked a q ts o m → (is_open q r ≡ true) ⊎ (state_of a r ≡ Running) → is_settled (state_of a r) ≡ false
goes_unsettled a q ts o m r t (inl p) = goes_not_settled (state_of a r) (inl (t.opened r p).waits)
goes_unsettled a q ts o m r t (inr e) = goes_not_settled (state_of a r) (inr e)

settled_set : (a : List RuleState) (r x : ℕ) (v : RuleState) → (x ≡ r) ⊎ (x ≢ r) → is_settled (state_of a r) ≡ false → is_settled (state_of a x) ≡ true → is_settled (state_of (set a r v) x) ≡ true
settled_set a r x v (inl same) fails h = absurd (true_false (is_settled (state_of a r)) (rw (sym same) h) fails)
settled_set a r x v (inr ne) fails h = rw (set_other a r x v ne) h

opened_set : (a : List RuleState) (q p : Queued) (ts : List Task) (r x : ℕ) (v : RuleState) → (x ≡ r) ⊎ (x ≢ r) → is_open p r ≡ false
    → ((x : ℕ) → (x ≡ r → ⊥) → is_open p x ≡ is_open q x) → ((x : ℕ) → is_open q x ≡ true → IsOpened a ts x) → is_open p x ≡ true → IsOpened (set a r v) ts x
opened_set a q p ts r x v (inl same) closed others f h = absurd (true_false (is_open p r) (rw (sym same) h) closed)
opened_set a q p ts r x v (inr ne) closed others f h = let k = f x (sym (others x ne) ∙ h) in opened_still a (set a r v) ts x (set_other a r x v ne ∙ k.waits) k

state_by : (a : List RuleState) (q : Queued) (ts : List Task) (r : ℕ) → ((x : ℕ) → is_open q x ≡ true → IsOpened a ts x) → (is_open q r ≡ true) ⊎ (state_of a r ≡ Running) → (state_of a r ≡ Waiting) ⊎ (state_of a r ≡ Running)
state_by a q ts r f (inl o) = inl ((f r o).waits)
state_by a q ts r f (inr e) = inr e

unmarked_by : (a : List RuleState) (q : Queued) (ts : List Task) (o : List Origin) (m : List Bool) (r : ℕ) → AreTracked a q ts o m → (is_open q r ≡ true) ⊎ (state_of a r ≡ Running) → get_or m r false ≡ true → ⊥
unmarked_by a q ts o m r t (inl p) h = apart_marked a q ts o m r t p h
unmarked_by a q ts o m r t (inr e) h = let w = (t.marked r h).waits in let never : Running ≡ Waiting = sym e ∙ w in absurd (cc)

marked_set : (a : List RuleState) (q : Queued) (ts : List Task) (o : List Origin) (m : List Bool) (r x : ℕ) (v : RuleState) → (x ≡ r) ⊎ (x ≢ r) → IsDoneStill a (set a r v) o o
    → AreTracked a q ts o m → (is_open q r ≡ true) ⊎ (state_of a r ≡ Running) → get_or m x false ≡ true → IsMarked (set a r v) o ts x
marked_set a q ts o m r x v (inl same) s t g h = absurd (unmarked_by a q ts o m r t g (rw (sym same) h))
marked_set a q ts o m r x v (inr ne) s t g h = let k = t.marked x h in marked_still a (set a r v) o o ts x s (set_other a r x v ne ∙ k.waits) k

-- a rule that was open, or ran, goes on
pub tracked_decided : (a : List RuleState) (q p : Queued) (ts : List Task) (o : List Origin) (m : List Bool) (r : ℕ) (v : RuleState) → (is_open q r ≡ true) ⊎ (state_of a r ≡ Running)
    → is_open p r ≡ false → ((x : ℕ) → (x ≡ r → ⊥) → is_open p x ≡ is_open q x) → AreTracked a q ts o m → AreTracked (set a r v) p ts o m
tracked_decided a q p ts o m r v g closed others t =
    let fails = goes_not_settled (state_of a r) (state_by a q ts r t.opened g) in
    let s : IsDoneStill a (set a r v) o o = record { still = λ n h. from_on a (set a r v) (origin_of o n.0) (λ x. settled_set a r x v (apart x r) fails) h } in
    record {
      each = λ x task e. tracked_still a (set a r v) o o task s (t.each x task e);
      opened = λ x h. opened_set a q p ts r x v (apart x r) closed others t.opened h;
      marked = λ x h. marked_set a q ts o m r x v (apart x r) s t g h;
      room = let n = length-set a r v in let k = t.room in omega arith;
    }

opened_put : (a : List RuleState) (q p : Queued) (ts : List Task) (r x : ℕ) → (x ≡ r) ⊎ (x ≢ r) → IsOpened a ts r
    → ((x : ℕ) → (x ≡ r → ⊥) → is_open p x ≡ is_open q x) → ((x : ℕ) → is_open q x ≡ true → IsOpened a ts x) → is_open p x ≡ true → IsOpened a ts x
opened_put a q p ts r x (inl same) k others f h = rw same k
opened_put a q p ts r x (inr ne) k others f h = f x (sym (others x ne) ∙ h)

-- a rule that waits and is through is opened
pub tracked_open : (a : List RuleState) (q p : Queued) (ts : List Task) (o : List Origin) (m : List Bool) (r : ℕ) (task : Task) → slice_get ts r ≡ Some task → state_of a r ≡ Waiting → IsThrough task
    → ((x : ℕ) → (x ≡ r → ⊥) → is_open p x ≡ is_open q x) → AreTracked a q ts o m → AreTracked a p ts o m
tracked_open a q p ts o m r task e w d others t = record {
  each = t.each;
  opened = λ x h. opened_put a q p ts r x (apart x r) (record { task = task; at = e; waits = w; through = d }) others t.opened h;
  marked = t.marked;
  room = t.room;
}

-- all are closed
pub tracked_closed : (a : List RuleState) (q p : Queued) (ts : List Task) (o : List Origin) (m : List Bool) → ((x : ℕ) → is_open p x ≡ false) → AreTracked a q ts o m → AreTracked a p ts o m
tracked_closed a q p ts o m none t = record { each = t.each; opened = λ x h. absurd (true_false (is_open p x) h (none x)); marked = t.marked; room = t.room }

-- fewer are marked
pub tracked_marks : (a : List RuleState) (q : Queued) (ts : List Task) (o : List Origin) (m k : List Bool) → ((x : ℕ) → get_or k x false ≡ true → get_or m x false ≡ true) → AreTracked a q ts o m → AreTracked a q ts o k
tracked_marks a q ts o m k f t = record { each = t.each; opened = t.opened; marked = λ x h. t.marked x (f x h); room = t.room }

each_set : (a : List RuleState) (ts : List Task) (o : List Origin) (r x : ℕ) (v task : Task) → (x ≡ r) ⊎ (x ≢ r) → IsTracked a o v
    → ((x : ℕ) (task : Task) → slice_get ts x ≡ Some task → IsTracked a o task) → slice_get (set ts r v) x ≡ Some task → IsTracked a o task
each_set a ts o r x v task (inl same) k f e = rw (get-set_is ts r v task (ap (slice_get (set ts r v)) (sym same) ∙ e)) k
each_set a ts o r x v task (inr ne) k f e = f x task (sym (get-set_other ts r x v ne) ∙ e)

opened_task : (a : List RuleState) (ts : List Task) (r x : ℕ) (v : Task) → x ≢ r → IsOpened a ts x → IsOpened a (set ts r v) x
opened_task a ts r x v ne k = record { task = k.task; at = get-set_other ts r x v ne ∙ k.at; waits = k.waits; through = k.through }

marked_task : (a : List RuleState) (o : List Origin) (ts : List Task) (r x : ℕ) (v : Task) → x ≢ r → IsMarked a o ts x → IsMarked a o (set ts r v) x
marked_task a o ts r x v ne k = record { task = k.task; at = get-set_other ts r x v ne ∙ k.at; waits = k.waits; file = k.file; next = k.next; can = k.can }

opened_new : (a : List RuleState) (q p : Queued) (ts : List Task) (r x : ℕ) (v : Task) → (x ≡ r) ⊎ (x ≢ r) → is_open p r ≡ false
    → ((x : ℕ) → (x ≡ r → ⊥) → is_open p x ≡ is_open q x) → ((x : ℕ) → is_open q x ≡ true → IsOpened a ts x) → is_open p x ≡ true → IsOpened a (set ts r v) x
opened_new a q p ts r x v (inl same) closed others f h = absurd (true_false (is_open p r) (rw (sym same) h) closed)
opened_new a q p ts r x v (inr ne) closed others f h = opened_task a ts r x v ne (f x (sym (others x ne) ∙ h))

unmarked_at : (m : List Bool) (r : ℕ) → get_or (set m r false) r false ≡ false
unmarked_at [] r = refl
unmarked_at (x ∷ m) zero = refl
unmarked_at (x ∷ m) (suc r) = unmarked_at m r

marked_new : (a : List RuleState) (o : List Origin) (ts : List Task) (m : List Bool) (r x : ℕ) (v : Task) → (x ≡ r) ⊎ (x ≢ r)
    → ((x : ℕ) → get_or m x false ≡ true → IsMarked a o ts x) → get_or (set m r false) x false ≡ true → IsMarked a o (set ts r v) x
marked_new a o ts m r x v (inl same) f h = absurd (true_false (get_or (set m r false) r false) (ap (λ y. get_or (set m r false) y false) (sym same) ∙ h) (unmarked_at m r))
marked_new a o ts m r x v (inr ne) f h = marked_task a o ts r x v ne (f x (sym (get_or-set_other m r x false false ne) ∙ h))

-- a rule that is closed and unmarked has another task
pub tracked_task : (a : List RuleState) (q p : Queued) (ts : List Task) (o : List Origin) (m : List Bool) (r : ℕ) (v : Task) → IsTracked a o v → is_open p r ≡ false
    → ((x : ℕ) → (x ≡ r → ⊥) → is_open p x ≡ is_open q x) → AreTracked a q ts o m → AreTracked a p (set ts r v) o (set m r false)
tracked_task a q p ts o m r v k closed others t = record {
  each = λ x task e. each_set a ts o r x v task (apart x r) k t.each e;
  opened = λ x h. opened_new a q p ts r x v (apart x r) closed others t.opened h;
  marked = λ x h. marked_new a o ts m r x v (apart x r) t.marked h;
  room = let n = length-set ts r v in let l = t.room in omega arith;
}

-- a task that nothing was scanned for and of which no need was passed
pub tracked_new : (a : List RuleState) (o : List Origin) (v : Task) → v.passed ≡ 0 → v.reach.whole ≡ 0 → IsListing v → IsTracked a o v
tracked_new a o v p w l = record {
  needs = rw p (record { within = omega arith; each = refl });
  files = rw w (record { within = omega arith; each = refl });
  listing = l;
}

opened_pass : (a : List RuleState) (ts : List Task) (r x : ℕ) (task v : Task) → (x ≡ r) ⊎ (x ≢ r) → slice_get ts r ≡ Some task → (IsThrough task → IsThrough v) → IsOpened a ts x → IsOpened a (set ts r v) x
opened_pass a ts r x task v (inl same) e f k =
    let one : k.task ≡ task = same_Some k.task task (sym k.at ∙ (rw same e)) in
    record { task = v; at = rw same (get-set_same ts r v task e); waits = k.waits; through = f (rw (sym one) k.through) }
opened_pass a ts r x task v (inr ne) e f k = opened_task a ts r x v ne k

marked_pass : (a : List RuleState) (o : List Origin) (ts : List Task) (r x : ℕ) (task v : Task) → (x ≡ r) ⊎ (x ≢ r) → slice_get ts r ≡ Some task → v.reach ≡ task.reach → IsMarked a o ts x → IsMarked a o (set ts r v) x
marked_pass a o ts r x task v (inl same) e f k =
    let one : task ≡ k.task = same_Some task k.task (sym (rw same e) ∙ k.at) in
    let reach : v.reach ≡ k.task.reach = f ∙ ap (λ t. t.reach) one in
    record { task = v; at = rw same (get-set_same ts r v task e); waits = k.waits; file = k.file; next = rw reach k.next; can = rw reach k.can }
marked_pass a o ts r x task v (inr ne) e f k = marked_task a o ts r x v ne k

-- a rule passes more of what it needs
pub tracked_pass : (a : List RuleState) (q : Queued) (ts : List Task) (o : List Origin) (m : List Bool) (r count : ℕ) (task : Task) → slice_get ts r ≡ Some task
    → AreDoneTo a o task count → task.passed ≤ count → AreTracked a q ts o m → AreTracked a q (set ts r (record task { passed = count })) o m
tracked_pass a q ts o m r count task e d le t =
    let v : Task = record task { passed = count } in
    let k = t.each r task e in
    record {
      each = λ x y h. each_set a ts o r x v y (apart x r) (record { needs = record { within = d.within; each = d.each }; files = k.files; listing = listing_passed task count k.listing }) t.each h;
      opened = λ x h. opened_pass a ts r x task v (apart x r) e (λ i. record { needs = let n = i.needs in omega arith; files = i.files }) (t.opened x h);
      marked = λ x h. marked_pass a o ts r x task v (apart x r) e refl (t.marked x h);
      room = let n = length-set ts r v in let l = t.room in omega arith;
    }

marked_there : (m : List Bool) (r : ℕ) (b : Bool) → get_or (set m r b) r false ≡ true → b ≡ true
marked_there [] r b h = absurd (true_false false h refl)
marked_there (x ∷ m) zero b h = h
marked_there (x ∷ m) (suc r) b h = marked_there m r b h

marked_next : (a : List RuleState) (o : List Origin) (ts : List Task) (m : List Bool) (r x : ℕ) (b : Bool) (v : Task) → (x ≡ r) ⊎ (x ≢ r) → (b ≡ true → IsMarked a o (set ts r v) r)
    → ((x : ℕ) → get_or m x false ≡ true → IsMarked a o ts x) → get_or (set m r b) x false ≡ true → IsMarked a o (set ts r v) x
marked_next a o ts m r x b v (inl same) k f h = rw same (k (marked_there m r b (ap (λ y. get_or (set m r b) y false) (sym same) ∙ h)))
marked_next a o ts m r x b v (inr ne) k f h = marked_task a o ts r x v ne (f x (sym (get_or-set_other m r x b false ne) ∙ h))

-- a waiting rule has another next file to scan, or none
pub tracked_next : (a : List RuleState) (q : Queued) (ts : List Task) (o : List Origin) (m : List Bool) (r : ℕ) (task v : Task) (b : Bool) → slice_get ts r ≡ Some task
    → IsTracked a o v → (IsThrough task → IsThrough v) → (b ≡ true → IsMarked a o (set ts r v) r) → AreTracked a q ts o m → AreTracked a q (set ts r v) o (set m r b)
tracked_next a q ts o m r task v b e i d k t = record {
  each = λ x y h. each_set a ts o r x v y (apart x r) i t.each h;
  opened = λ x h. opened_pass a ts r x task v (apart x r) e d (t.opened x h);
  marked = λ x h. marked_next a o ts m r x b v (apart x r) k t.marked h;
  room = let n = length-set ts r v in let l = t.room in omega arith;
}

marked_by : (a : List RuleState) (o : List Origin) (ts : List Task) (r place : ℕ) (v : Task) (file : Option NodeId) → slice_get ts r ≡ Some v → state_of a r ≡ Waiting → v.reach.next ≡ place
    → ((n : NodeId) → slice_get v.reach.files.keys place ≡ Some n → CanScan a o v.reach.found.entries n) → slice_get v.reach.files.keys place ≡ file → file ≢ None → IsMarked a o ts r
marked_by a o ts r place v None e w p can f some = absurd (some refl)
marked_by a o ts r place v (Some n) e w p can f some = record { task = v; at = e; waits = w; file = n; next = rw p f; can = can n f }

not_none : (files : List NodeId) (place : ℕ) → place < length files → slice_get files place ≢ None
not_none [] place lt e = absurd (omega arith)
not_none (n ∷ files) zero lt e = absurd (none-some n (sym e))
not_none (n ∷ files) (suc place) lt e = not_none files place (omega arith) e

-- a waiting rule goes to another file, which can be scanned where there is one
pub tracked_ready : (a : List RuleState) (q : Queued) (ts : List Task) (o : List Origin) (m : List Bool) (r place : ℕ) (task : Task) (b : Bool) → slice_get ts r ≡ Some task → state_of a r ≡ Waiting
    → ((n : NodeId) → slice_get task.reach.files.keys place ≡ Some n → CanScan a o task.reach.found.entries n) → (b ≡ true → place < length task.reach.files.keys)
    → AreTracked a q ts o m → AreTracked a q (set ts r (record task { reach = record task.reach { next = place } })) o (set m r b)
tracked_ready a q ts o m r place task b e w can within t =
    let v : Task = record task { reach = record task.reach { next = place } } in
    let k = t.each r task e in
    tracked_next a q ts o m r task v b e
    (record { needs = record { within = k.needs.within; each = k.needs.each }; files = k.files; listing = listing_next task place k.listing })
    (λ d. record { needs = d.needs; files = d.files })
    (λ h. marked_by a o (set ts r v) r place v (slice_get task.reach.files.keys place) (get-set_same ts r v task e) w refl can refl (not_none task.reach.files.keys place (within h)))
    t

none_take : {X : Type 0} (p : X → Bool) (n : ℕ) → list_all p (take n []) ≡ true
none_take p zero = refl
none_take p (suc n) = refl

all_fewer : {X : Type 0} (p : X → Bool) (xs : List X) (n m : ℕ) → n ≤ m → list_all p (take m xs) ≡ true → list_all p (take n xs) ≡ true
all_fewer p [] n m le h = none_take p n
all_fewer p (x ∷ xs) zero m le h = refl
all_fewer p (x ∷ xs) (suc n) zero le h = absurd (omega arith)
all_fewer p (x ∷ xs) (suc n) (suc m) le h =
    and_both (p x) (list_all p (take n xs)) (and_left (p x) (list_all p (take m xs)) h) (all_fewer p xs n m (omega arith) (and_right (p x) (list_all p (take m xs)) h))

false_by : (b : Bool) → (b ≡ true → ⊥) → b ≡ false
false_by true f = absurd (f refl)
false_by false f = refl

-- what a file of a marked rule includes was taken
pub tracked_take : (a : List RuleState) (q : Queued) (ts : List Task) (o : List Origin) (m : List Bool) (r : ℕ) (task v : Task) → slice_get ts r ≡ Some task → get_or m r false ≡ true
    → KeepsNeeds task v → AreScannedTo v v.reach.whole → IsListing v → AreTracked a q ts o m → AreTracked a q (set ts r v) o (set m r false)
tracked_take a q ts o m r task v e marked n s l t =
    let k = t.each r task e in
    let done = λ (x : NodeId). is_done a o x in
    let each = ap (list_all done) n.same ∙ all_fewer done (needs_of task) v.passed task.passed n.passed k.needs.each in
    tracked_task a q q ts o m r v (record { needs = record { within = n.within; each = each }; files = s; listing = l })
    (false_by (is_open q r) (λ p. apart_marked a q ts o m r t p marked)) (λ x ne. refl) t

-- what is known of a task that stands there
pub tracked_at : (a : List RuleState) (q : Queued) (ts : List Task) (o : List Origin) (m : List Bool) (r : ℕ) (task : Task) → AreTracked a q ts o m → slice_get ts r ≡ Some task → IsTracked a o task
tracked_at a q ts o m r task t e = t.each r task e

-- there is a task more
pub tracked_push : (a : List RuleState) (q : Queued) (ts : List Task) (o : List Origin) (m : List Bool) (v : Task) → IsTracked a o v → AreTracked a q ts o m → AreTracked a q (ts ++ v ∷ []) o m
tracked_push a q ts o m v k t = record {
  each = λ x y h. pushed a ts o x v y k t.each (get-last ts v x y h);
  opened = λ x h. let i = t.opened x h in record { task = i.task; at = get-front ts (v ∷ []) x i.task i.at; waits = i.waits; through = i.through };
  marked = λ x h. let i = t.marked x h in record { task = i.task; at = get-front ts (v ∷ []) x i.task i.at; waits = i.waits; file = i.file; next = i.next; can = i.can };
  room = let n = length-append ts (v ∷ []) in let l = t.room in omega arith;
}
  where
    pushed : (a : List RuleState) (ts : List Task) (o : List Origin) (x : ℕ) (v y : Task) → IsTracked a o v → ((x : ℕ) (task : Task) → slice_get ts x ≡ Some task → IsTracked a o task)
        → (slice_get ts x ≡ Some y) ⊎ (y ≡ v) → IsTracked a o y
    pushed a ts o x v y k f (inl e) = f x y e
    pushed a ts o x v y k f (inr e) = rw e k

pub waiting_of : (a : List RuleState) (q : Queued) (ts : List Task) (o : List Origin) (m : List Bool) → AreTracked a q ts o m → AreWaiting a q
waiting_of a q ts o m t = record { waits = λ x h. (t.opened x h).waits }

-- nothing is known yet
pub tracked_nothing : (q : Queued) (o : List Origin) (m : List Bool) → ((x : ℕ) → is_open q x ≡ false) → ((x : ℕ) → get_or m x false ≡ false) → AreTracked [] q [] o m
tracked_nothing q o m none unmarked = record {
  each = λ r task e. absurd (none-some task e);
  opened = λ x h. absurd (true_false (is_open q x) h (none x));
  marked = λ x h. absurd (true_false (get_or m x false) h (unmarked x));
  room = omega arith;
}

-- nothing was noted of a rule
pub tracked_blank : (a : List RuleState) (o : List Origin) (v : Task) → IsBlank v → IsTracked a o v
tracked_blank a o v b = tracked_new a o v b.passed b.reach.whole (listing_blank v b)

pub ruleset pushing = (tracked_push, tracked_blank)

pub ruleset tasking = (tracked_task, tracked_new)
