-- Where rules stand in their needs and files, as their tasks change.
use Rattle.std.proofs.Common.{arith, ◌≡◌, ◌≢◌, ◌<◌, ◌≤◌, ◌∙◌, ◌⊎◌, inl, inr, ℕ, zero, suc, ◌+◌, List, [], ◌∷◌, ◌++◌, Bool, true, false, ◌&&◌, ◌||◌, ap, sym, refl, length, set, get_or, Option, Some, None, get_or-set_other, get_or-set_same, length-set}
use Rattle.std.specs.Prelude.{slice_get, map, nat_eq, nat_lt, ltb}
use Rattle.std.specs.List.{position}
use Rattle.std.specs.Option.{option_map}
use Rattle.std.proofs.lemmas.Bool.{ltb-true, ltb-false}
use Rattle.std.proofs.lemmas.Bool.Decides.{nat_tests}
use Rattle.std.proofs.lemmas.List.{map-set, get_or_past, length-map}
use Rattle.std.proofs.lemmas.List.Quantifiers.{position-Some}
use Rattle.std.proofs.lemmas.Option.{same_Some, none-some, slice_get-map, slice_get_within, get_or_from_slice_get}
use Rattle.std.specs.declared.alloc.Global.{Global}
use Rattle.std.specs.declared.vec.Vec.{Vec}
use Rattle.scons_base.specs.declared.ids.NodeId.{NodeId}
use Rattle.scons_base.specs.declared.ids.RuleId.{RuleId}
use Rattle.task_plan.specs.States.{state_of}
use Rattle.task_plan.specs.Queues.{Queued, is_open, is_placed, unnumbered}
use Rattle.task_plan.specs.Named.{stands}
use Rattle.task_plan.specs.Noted.{Places, places_of}
use Rattle.task_plan.specs.Settled.{Kept, kept_of, next_of, needs_of, is_done, is_scanned, IsUndoneAt, IsThrough}
use Rattle.task_plan.specs.Tracked.{AreTracked, IsUnreadyAt, AreUnreadyTo}
use Rattle.task_plan.specs.Plans.{Planned}
use Rattle.task_plan.specs.Watching.{PutsTask, Passes, Readies, Offers, StartsBefore}
use Rattle.task_plan.specs.declared.reach.Reach.{Reach}
use Rattle.task_plan.specs.declared.states.RuleState.{RuleState}
use Rattle.task_plan.specs.declared.states.RuleState.TheVariants.{Waiting}
use Rattle.task_plan.specs.declared.files.Origin.{Origin}
use Rattle.task_plan.specs.declared.task.Task.{Task}
use Rattle.task_plan.proofs.MarkLemmas.{apart}
use Rattle.task_plan.proofs.PlanLemmas.{true_false}
use Rattle.task_plan.proofs.ListLemmas.{get-set_other, get-set_same}
use Rattle.task_plan.proofs.WantLemmas.{planned, kept_at, kept_still, kept_scanned, set_here}
use Rattle.task_plan.proofs.FollowLemmas.{of_map}

pub place_at : (ts : List Task) (r : ℕ) (t : Task) → slice_get ts r ≡ Some t → slice_get (map places_of ts) r ≡ Some (places_of t)
place_at ts r t e = slice_get-map places_of ts r ∙ ap (option_map places_of) e

-- where a rule stands is where its task does
pub record IsPlaceOf (ts : List Task) (n : ℕ) (p : Places) : Type 0 where
  pub task : Task
  pub at : slice_get ts n ≡ Some task
  pub place : p ≡ places_of task

place_by : (ts : List Task) (n : ℕ) (p : Places) (o : Option Task) → slice_get ts n ≡ o → option_map places_of o ≡ Some p → IsPlaceOf ts n p
place_by ts n p None e f = absurd (none-some p f)
place_by ts n p (Some t) e f = record { task = t; at = e; place = sym (same_Some (places_of t) p f) }

pub place_of : (ts : List Task) (n : ℕ) (p : Places) → slice_get (map places_of ts) n ≡ Some p → IsPlaceOf ts n p
place_of ts n p e = place_by ts n p (slice_get ts n) refl (sym (slice_get-map places_of ts n) ∙ e)

-- the task of which something is known
pub kept_is : (ts : List Task) (r : ℕ) (task : Task) (kept : Kept) → slice_get ts r ≡ Some task → slice_get (map kept_of ts) r ≡ Some kept → kept ≡ kept_of task
kept_is ts r task kept e k = same_Some kept (kept_of task) (sym k ∙ kept_at ts r task e)

place_is : (ts : List Task) (r : ℕ) (task : Task) (p : Places) → slice_get ts r ≡ Some task → slice_get (map places_of ts) r ≡ Some p → p ≡ places_of task
place_is ts r task p e k = same_Some p (places_of task) (sym k ∙ place_at ts r task e)

next_still : (ts : List Task) (r : ℕ) (task v : Task) → slice_get ts r ≡ Some task → next_of v ≡ next_of task → map next_of (set ts r v) ≡ map next_of ts
next_still ts r task v e k = map-set next_of ts r v ∙ ap (set (map next_of ts) r) k ∙ set_here (map next_of ts) r (next_of task) (slice_get-map next_of ts r ∙ ap (option_map next_of) e)

pub other_place : (ts : List Task) (r x : ℕ) (v : Task) → x ≢ r → slice_get (map places_of (set ts r v)) x ≡ slice_get (map places_of ts) x
other_place ts r x v ne = ap (λ ps. slice_get ps x) (map-set places_of ts r v) ∙ get-set_other (map places_of ts) r x (places_of v) ne

pub this_place : (ts : List Task) (r : ℕ) (task v : Task) (p : Places) → slice_get ts r ≡ Some task → slice_get (map places_of (set ts r v)) r ≡ Some p → p ≡ places_of v
this_place ts r task v p e k = place_is (set ts r v) r v p (get-set_same ts r v task e) k

pub no_kept : (ts : List Task) (r : ℕ) (kept : Kept) → length ts ≤ r → slice_get (map kept_of ts) r ≡ Some kept → ⊥
no_kept ts r kept le k =
    let i = of_map ts r kept k in
    let lt = slice_get_within ts r i.task i.at in
    omega arith

-- a file more that can't be scanned
pub unready_more : (a : List RuleState) (o : List Origin) (r : Reach) (start place : ℕ) → AreUnreadyTo a o r start place → IsUnreadyAt a o r place → AreUnreadyTo a o r start (place + 1)
unready_more a o r start place u i = record { each = λ p le lt. by p le lt (apart p place) }
  where
    by : (p : ℕ) → start ≤ p → p < place + 1 → (p ≡ place) ⊎ (p ≢ place) → IsUnreadyAt a o r p
    by p le lt (inl same) = rw same i
    by p le lt (inr ne) = u.each p le (omega arith)

pub past_end : (files : List NodeId) (place : ℕ) (n : NodeId) → place ≡ length files → slice_get files place ≡ Some n → ⊥
past_end files place n e g = let w = slice_get_within files place n g in omega arith

eq_turn : (m n : ℕ) → nat_eq m n ≡ false → nat_eq n m ≡ false
eq_turn m n h = grind (arith, nat_tests)

-- no file before the place of one is this one
pub before_position : (files : List NodeId) (node : NodeId) (place k : ℕ) (n : NodeId) → Some place ≡ position (λ m. nat_eq node.0 m.0) files → k < place → slice_get files k ≡ Some n → nat_eq n.0 node.0 ≡ false
before_position files node place k n e lt g =
    let p = position-Some (λ m. nat_eq node.0 m.0) files place node (sym e) in
    let same : get_or files k node ≡ n = get_or_from_slice_get files k n node g in
    eq_turn node.0 n.0 (ap (λ (x : NodeId). nat_eq node.0 x.0) (sym same) ∙ p.2 k lt)

-- a file that doesn't stand among these is none of them
pub none_standing : (files : List NodeId) (node : NodeId) (k : ℕ) (n : NodeId) → stands files node ≡ false → slice_get files k ≡ Some n → nat_eq n.0 node.0 ≡ false
none_standing [] node k n f g = absurd (none-some n g)
none_standing (x ∷ files) node zero n f g =
    let same : x ≡ n = same_Some x n g in
    eq_turn node.0 n.0 (ap (λ (y : NodeId). nat_eq node.0 y.0) (sym same) ∙ or_no (nat_eq node.0 x.0) (stands files node) f)
  where
    or_no : (p q : Bool) → (p || q) ≡ false → p ≡ false
    or_no true q h = h
    or_no false q h = refl
none_standing (x ∷ files) node (suc k) n f g = none_standing files node k n (or_neither (nat_eq node.0 x.0) (stands files node) f) g
  where
    or_neither : (p q : Bool) → (p || q) ≡ false → q ≡ false
    or_neither true q h = absurd (cc)
    or_neither false q h = h

pub starts_before : (a : Planned) (ts : List Task) (rule : ℕ) (task : Task) (node : NodeId) (start : ℕ) → a.rules ≡ map kept_of ts → a.notes.places ≡ map places_of ts → slice_get ts rule ≡ Some task → start ≤ task.reach.next
    → ((k : ℕ) (n : NodeId) → k < start → slice_get task.reach.files.keys k ≡ Some n → nat_eq n.0 node.0 ≡ false) → StartsBefore a rule node start
starts_before a ts rule task node start k p e le f = record {
  within = λ at g. let same = place_is ts rule task at e (sym (ap (λ x. slice_get x rule) p) ∙ g) in let next : at.next ≡ task.reach.next = ap (λ (x : Places). x.next) same in omega arith;
  before = λ kept place n g lt h.
      let same = kept_is ts rule task kept e (sym (ap (λ x. slice_get x rule) k) ∙ g) in
      f place n lt (sym (ap (λ (x : Kept). slice_get x.files place) same) ∙ h);
}

-- of a rule that isn't there nothing is known
pub starts_nowhere : (a : Planned) (ts : List Task) (rule : ℕ) (node : NodeId) → a.rules ≡ map kept_of ts → a.notes.places ≡ map places_of ts → length ts ≤ rule → StartsBefore a rule node 0
starts_nowhere a ts rule node k p le = record { within = λ at g. omega arith; before = λ kept place n g lt h. absurd (omega arith) }

-- nothing is passed of a rule that isn't there
pub passes_none : (a : Planned) (r : ℕ) → ((kept : Kept) → slice_get a.rules r ≡ Some kept → ⊥) → Passes a a r
passes_none a r never = record {
  rest = refl;
  others = λ x ne. refl;
  from = λ now g. record { was = now; at = g; rest = refl };
  undone = λ kept now n k g h. absurd (never kept k);
}

-- a rule that doesn't wait looks for no file, nor one that isn't there
pub readies_none : (a : Planned) (r start : ℕ) → (state_of a.states r ≡ Waiting → (kept : Kept) → slice_get a.rules r ≡ Some kept → ⊥) → Readies a a r start
readies_none a r start never = record {
  rest = refl;
  others = λ x ne. refl;
  marks = λ x ne. refl;
  room = refl;
  from = λ now g. record { was = now; at = g; rest = refl };
  none = λ kept now w k g. absurd (never w kept k);
  marked = λ kept now w lt k g n. absurd (never w kept k);
  still = λ f h. h;
}

-- a rule that can't be decided isn't opened
pub offers_none : (a : Planned) (r : ℕ)
    → ((kept : Kept) (at : Places) → state_of a.states r ≡ Waiting → slice_get a.rules r ≡ Some kept → slice_get a.notes.places r ≡ Some at → length (kept.required ++ kept.deps) ≤ at.passed → length kept.files ≤ at.whole → ⊥)
    → Offers a a r
offers_none a r never = record {
  rest = refl;
  order = refl;
  numbers = refl;
  placed = λ x. refl;
  others = λ x ne. refl;
  this = λ p. record { opened = λ kept at w k g n f. absurd (never kept at w k g n f) };
}

-- rules keep their places in the order
pub placed_same : (q p : Queued) (x : ℕ) → p.order ≡ q.order → p.numbers ≡ q.numbers → is_placed p x ≡ is_placed q x
placed_same q p x order numbers = ap (λ ys. nat_lt (get_or ys x unnumbered) (length p.order)) numbers ∙ ap (λ ys. nat_lt (get_or q.numbers x unnumbered) (length ys)) order

module _ (a : List RuleState) (q : Queued) (h : Bool) (ts : List Task) (o : List Origin) (m : List Bool) (ws : List (Vec RuleId Global)) (b : Bool) (rs : List RuleId) (r : ℕ) (task : Task) (e : slice_get ts r ≡ Some task) where
  -- a rule passes needs that are done
  pub passes_task : (count : ℕ) → IsUndoneAt a o task count → Passes (planned a q h ts o m ws b rs) (planned a q h (set ts r (record task { passed = count })) o m ws b rs) r
  passes_task count u =
      let v : Task = record task { passed = count } in
      record {
        rest = rw (kept_still ts r task v e refl, next_still ts r task v e refl) refl;
        others = λ x ne. other_place ts r x v ne;
        from = λ now g. record { was = places_of task; at = place_at ts r task e; rest = rw (this_place ts r task v now e g) refl };
        undone = λ kept now n k g h.
            let is = this_place ts r task v now e g in
            let known = kept_is ts r task kept e k in
            u.undone n (ap (λ (x : Places). slice_get (needs_of task) x.passed) (sym is) ∙ ap (λ (x : Kept). slice_get (x.required ++ x.deps) now.passed) (sym known) ∙ h);
      }

  within_marks : get_or m r false ≡ true → r < length m
  within_marks t = by (ltb r (length m)) refl
    where
      by : (x : Bool) → ltb r (length m) ≡ x → r < length m
      by true l = ltb-true r (length m) l
      by false l = absurd (true_false (get_or m r false) t (get_or_past m r false (ltb-false r (length m) l)))

  -- a waiting rule goes to the next file that can be scanned
  pub readies_task : (place start : ℕ) (mark : Bool) → AreUnreadyTo a o task.reach start place → (mark ≡ false → length task.reach.files.keys ≤ place) → AreTracked a q ts o m
      → Readies (planned a q h ts o m ws b rs) (planned a q h (set ts r (record task { reach = record task.reach { next = place } })) o (set m r mark) ws b rs) r start
  readies_task place start mark u there t =
      let v : Task = record task { reach = record task.reach { next = place } } in
      record {
        rest = rw (kept_still ts r task v e refl) refl;
        others = λ x ne. other_place ts r x v ne;
        marks = λ x ne. get_or-set_other m r x mark false ne;
        room = length-set m r mark;
        from = λ now g. record { was = places_of task; at = place_at ts r task e; rest = rw (this_place ts r task v now e g) refl };
        none = λ kept now w k g.
            let is = this_place ts r task v now e g in
            let known = kept_is ts r task kept e k in
            let next : now.next ≡ place = ap (λ (x : Places). x.next) is in
            record {
              none = λ p n le lt f s.
                  (u.each p le (omega arith)).undone n (sym (ap (λ (x : Kept). slice_get x.files p) known) ∙ f) (sym (kept_scanned task n) ∙ sym (ap (λ (x : Kept). is_scanned x.found n) known) ∙ s);
            };
        marked = λ kept now w lt k g n.
            let is = this_place ts r task v now e g in
            let known = kept_is ts r task kept e k in
            let next : now.next ≡ place = ap (λ (x : Places). x.next) is in
            let files : length kept.files ≡ length task.reach.files.keys = ap (λ (x : Kept). length x.files) known in
            marked_by mark lt (λ f. let le = there f in absurd (omega arith));
        still = λ f g. still_by mark g (f (places_of task) (place_at ts r task e)) (there);
      }
    where
      marked_by : (x : Bool) → r < length m → (x ≡ false → ⊥) → get_or (set m r x) r false ≡ true
      marked_by true lt never = get_or-set_same m r true false lt
      marked_by false lt never = absurd (never refl)

      still_by : (x : Bool) → get_or m r false ≡ true → start ≤ task.reach.next → (x ≡ false → length task.reach.files.keys ≤ place) → get_or (set m r x) r false ≡ true
      still_by true g le f = get_or-set_same m r true false (within_marks g)
      still_by false g le f =
          let k = t.marked r g in
          let same : k.task ≡ task = same_Some k.task task (sym k.at ∙ e) in
          let at : slice_get task.reach.files.keys task.reach.next ≡ Some k.file = ap (λ (x : Task). slice_get x.reach.files.keys x.reach.next) (sym same) ∙ k.next in
          let within = slice_get_within task.reach.files.keys task.reach.next k.file at in
          let past = f refl in
          let unscanned : is_scanned task.reach.found.entries k.file ≡ false = ap (λ (x : Task). is_scanned x.reach.found.entries k.file) (sym same) ∙ k.can.unscanned in
          absurd (true_false (is_done a o k.file) k.can.done ((u.each task.reach.next le (omega arith)).undone k.file at unscanned))

  -- a rule that stands in the order is opened
  pub offers_put : (p : Queued) → p.order ≡ q.order → p.numbers ≡ q.numbers → is_open p r ≡ (true && is_placed q r) → ((x : ℕ) → (x ≡ r → ⊥) → is_open p x ≡ is_open q x)
      → Offers (planned a q h ts o m ws b rs) (planned a p h ts o m ws b rs) r
  offers_put p order numbers this others = record {
    rest = refl;
    order = order;
    numbers = numbers;
    placed = λ x. placed_same q p x order numbers;
    others = others;
    this = λ is. record { opened = λ kept at w k g n f. this ∙ is };
  }

  -- a rule that isn't through can't be decided
  pub not_offered : (IsThrough task → ⊥) → (kept : Kept) (at : Places) → slice_get (map kept_of ts) r ≡ Some kept → slice_get (map places_of ts) r ≡ Some at → length (kept.required ++ kept.deps) ≤ at.passed
      → length kept.files ≤ at.whole → ⊥
  not_offered never kept at k g n f =
      let known = kept_is ts r task kept e k in
      let is = place_is ts r task at e g in
      let needs : length (kept.required ++ kept.deps) ≡ length (needs_of task) = ap (λ (x : Kept). length (x.required ++ x.deps)) known in
      let files : length kept.files ≡ length task.reach.files.keys = ap (λ (x : Kept). length x.files) known in
      let passed : at.passed ≡ task.passed = ap (λ (x : Places). x.passed) is in
      let whole : at.whole ≡ task.reach.whole = ap (λ (x : Places). x.whole) is in
      never (record { needs = omega arith; files = omega arith })

set_past : {X : Type 0} (xs : List X) (i : ℕ) (x : X) → length xs ≤ i → xs ≡ set xs i x
set_past [] i x le = refl
set_past (y ∷ ys) zero x le = absurd (omega arith)
set_past (y ∷ ys) (suc i) x le = ap (λ zs. y ∷ zs) (set_past ys i x (omega arith))

module _ (a : List RuleState) (q : Queued) (h : Bool) (ts : List Task) (o : List Origin) (m : List Bool) (ws : List (Vec RuleId Global)) (b : Bool) (rs : List RuleId) (r : ℕ) where
  -- a rule begins anew with a task
  pub puts_task : (p : Queued) (v : Task) → PutsTask (planned a q h ts o m ws b rs) (planned a p h (set ts r v) o (set m r false) ws false rs) r v
  puts_task p v = record {
    rest = refl;
    places = map-set places_of ts r v;
    marks = λ x ne. get_or-set_other m r x false false ne;
    room = length-set m r false;
  }

  pub puts_nowhere : (v : Task) → length ts ≤ r → PutsTask (planned a q h ts o m ws b rs) (planned a q h ts o m ws false rs) r v
  puts_nowhere v le = record {
    rest = refl;
    places = set_past (map places_of ts) r (places_of v) (let n = length-map ts places_of in omega arith);
    marks = λ x ne. refl;
    room = refl;
  }
