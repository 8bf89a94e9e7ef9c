-- What follows where a plan overlooks nothing: where nothing is marked no file can be scanned, and where nothing is open each rule that
-- waits needs a file that isn't done.
use Rattle.std.proofs.Common.{arith, ◌≡◌, ◌<◌, ◌∙◌, ℕ, zero, suc, List, [], ◌∷◌, ◌++◌, Bool, true, false, ◌&&◌, ◌||◌, ap, sym, refl, length, get_or, Option, Some, None}
use Rattle.std.specs.Prelude.{slice_get, ltb, nat_eq, map, IfNone}
use Rattle.std.specs.List.{position, position_or_len}
use Rattle.std.proofs.lemmas.Bool.{ltb-true, ltb-false}
use Rattle.std.proofs.lemmas.Option.{none-some, slice_get-get_or}
use Rattle.std.proofs.lemmas.List.Folds.{list_any-append}
use Rattle.scons_base.specs.declared.ids.NodeId.{NodeId}
use Rattle.task_plan.specs.States.{state_of}
use Rattle.task_plan.specs.Queues.{is_open}
use Rattle.task_plan.specs.Named.{stands}
use Rattle.task_plan.specs.Noted.{Places, places_of}
use Rattle.task_plan.specs.Settled.{Kept, kept_of, CanScan, is_done}
use Rattle.task_plan.specs.Plans.{Planned}
use Rattle.task_plan.specs.Admits.{AllFollow}
use Rattle.task_plan.specs.Watched.{every, IsWatched, IsComplete, IsNoneReady, IsHeldUp, IsStill}
use Rattle.task_plan.specs.declared.states.RuleState.TheVariants.{Waiting}
use Rattle.task_plan.specs.declared.task.Task.{Task}
use Rattle.task_plan.proofs.PlanLemmas.{true_false}
use Rattle.task_plan.proofs.QueueLemmas.{none_by}
use Rattle.task_plan.proofs.WalkLemmas.{node_same}
use Rattle.task_plan.proofs.MetNeeds.{put_all_has}
use Rattle.task_plan.proofs.WatchLemmas.{stands_there}
use Rattle.task_plan.proofs.FollowLemmas.{of_map}
use Rattle.task_plan.proofs.StandLemmas.{place_at}

-- without a first mark there is none
pub none_marked : (m : List Bool) → position (λ mark. mark) m ≡ None → (r : ℕ) → get_or m r false ≡ false
none_marked m e r = none_by m r (ltb (position_or_len (λ mark. mark) m) (length m)) refl e

pub if_none : {X P : Type 0} (o : Option X) → P → IfNone o P
if_none None p = p
if_none (Some x) p = tt

-- something is noted of each rule that is known
pub record HasPlaces (p : Planned) : Type 0 where
  pub each : (rule : ℕ) (kept : Kept) → slice_get p.rules rule ≡ Some kept → (at : Places) × (slice_get p.notes.places rule ≡ Some at)

told_false : (d : Bool) → (d && true) ≡ false → d ≡ false
told_false true h = h
told_false false h = refl

within_by : {X : Type 0} (xs : List X) (i : ℕ) (x : X) → slice_get xs i ≡ Some x → i < length xs
within_by [] i x e = absurd (none-some x e)
within_by (y ∷ xs) zero x e = omega arith
within_by (y ∷ xs) (suc i) x e = let l = within_by xs i x e in omega arith

none_ready_at : (p : Planned) (rule : ℕ) (kept : Kept) (at : Places) (place : ℕ) (file : NodeId) → ((r : ℕ) → get_or p.marks r false ≡ false) → IsWatched p every rule kept at → slice_get kept.files place ≡ Some file
    → CanScan p.states p.origins kept.found file → ⊥
none_ready_at p rule kept at place file unmarked w g can = by (ltb at.next (length kept.files)) refl
  where
    by : (x : Bool) → ltb at.next (length kept.files) ≡ x → ⊥
    by true e = true_false (get_or p.marks rule false) (w.marked (ltb-true at.next (length kept.files) e)) (unmarked rule)
    by false e =
        let past = ltb-false at.next (length kept.files) e in
        let within = within_by kept.files place file g in
        true_false (is_done p.states p.origins file) can.done (told_false (is_done p.states p.origins file) (w.next.none place file (omega arith) g can.unscanned))

-- where no rule is marked no file can be scanned
pub none_ready : (p : Planned) → HasPlaces p → ((r : ℕ) → get_or p.marks r false ≡ false) → IsComplete p → IsNoneReady p
none_ready p h unmarked c = record {
  none = λ rule kept place file waits k g can. let at = h.each rule kept k in none_ready_at p rule kept at.0 place file unmarked ((c.watched.each rule refl).each kept at.0 waits k at.1) g can;
}

-- the place of one that stands there
pub place_of_stands : (xs : List NodeId) (n : NodeId) → stands xs n ≡ true → (i : ℕ) × (slice_get xs i ≡ Some n)
place_of_stands [] n h = absurd (cc)
place_of_stands (x ∷ xs) n h = by (nat_eq n.0 x.0) refl h (place_of_stands xs n)
  where
    by : (b : Bool) → nat_eq n.0 x.0 ≡ b → (b || stands xs n) ≡ true → (stands xs n ≡ true → (i : ℕ) × (slice_get xs i ≡ Some n)) → (i : ℕ) × (slice_get (x ∷ xs) i ≡ Some n)
    by true e s f = (0, ap Some (sym (node_same n x e)))
    by false e s f = let k = f s in (suc k.0, k.1)

or_second : (x y : Bool) → y ≡ true → (x || y) ≡ true
or_second true y h = refl
or_second false y h = h

false_by : (x : Bool) → (x ≡ true → ⊥) → x ≡ false
false_by true f = absurd (f refl)
false_by false f = refl

held_up : (p : Planned) (rule : ℕ) (kept : Kept) (at : Places) → AllFollow p → IsNoneReady p → (is_open p.queue rule ≡ true → ⊥) → p.notes.is_ordered ≡ true → IsComplete p → state_of p.states rule ≡ Waiting
    → slice_get p.rules rule ≡ Some kept → slice_get p.notes.places rule ≡ Some at → IsWatched p every rule kept at → IsHeldUp p kept
held_up p rule kept at follows ready closed ordered c waits k g w = by (ltb at.passed (length (kept.required ++ kept.deps))) (ltb at.whole (length kept.files)) refl refl
  where
    by : (x y : Bool) → ltb at.passed (length (kept.required ++ kept.deps)) ≡ x → ltb at.whole (length kept.files) ≡ y → IsHeldUp p kept
    by true y e f =
        let lt = ltb-true at.passed (length (kept.required ++ kept.deps)) e in
        let d : NodeId = record { 0 = 0 } in
        let there = slice_get-get_or (kept.required ++ kept.deps) at.passed d lt in
        record {
          place = at.passed;
          file = get_or (kept.required ++ kept.deps) at.passed d;
          at = there;
          undone = told_false _ (w.passed.held (get_or (kept.required ++ kept.deps) at.passed d) there);
        }
    by false true e f =
        let lt = ltb-true at.whole (length kept.files) f in
        let d : NodeId = record { 0 = 0 } in
        let file = get_or kept.files at.whole d in
        let there : slice_get kept.files at.whole ≡ Some file = slice_get-get_or kept.files at.whole d lt in
        let fails = false_by (is_done p.states p.origins file) (λ done. ready.none rule kept at.whole file waits k there (record { unscanned = w.scanned.unscanned file there; done = done })) in
        let in_deps : stands kept.deps file ≡ true = ap (λ xs. stands xs file) (follows rule kept k w.whole).deps ∙ put_all_has kept.named kept.files file (stands_there kept.files at.whole file there) in
        let in_needs : stands (kept.required ++ kept.deps) file ≡ true = list_any-append (λ m. nat_eq file.0 m.0) kept.required kept.deps ∙ or_second (stands kept.required file) (stands kept.deps file) in_deps in
        let place = place_of_stands (kept.required ++ kept.deps) file in_needs in
        record { place = place.0; file = file; at = place.1; undone = fails }
    by false false e f =
        absurd (closed ((c.queued.opened ordered rule refl).opened kept at waits k g (ltb-false at.passed (length (kept.required ++ kept.deps)) e) (ltb-false at.whole (length kept.files) f)))

-- where no rule is open either, each that waits needs a file that isn't done
pub is_still : (p : Planned) → AllFollow p → HasPlaces p → ((r : ℕ) → get_or p.marks r false ≡ false) → ((r : ℕ) → is_open p.queue r ≡ false) → IsComplete p → IsStill p
is_still p follows h unmarked closed c =
    let ready = none_ready p h unmarked c in
    record {
      scans = ready;
      waits = λ rule kept waits k.
          let at = h.each rule kept k in
          held_up p rule kept at.0 follows ready (λ o. true_false (is_open p.queue rule) o (closed rule)) (c.ordered.fits unmarked) c waits k at.1 ((c.watched.each rule refl).each kept at.0 waits k at.1);
    }

pub has_places : (p : Planned) (ts : List Task) → p.rules ≡ map kept_of ts → p.notes.places ≡ map places_of ts → HasPlaces p
has_places p ts k g = record {
  each = λ rule kept e.
      let i = of_map ts rule kept (sym (ap (λ x. slice_get x rule) k) ∙ e) in
      (places_of i.task, ap (λ x. slice_get x rule) g ∙ place_at ts rule i.task i.at);
}
