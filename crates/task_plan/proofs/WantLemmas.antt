-- What a plan wants next, by what it keeps true of its rules.
use Rattle.std.proofs.Common.{◌≡◌, ◌≤◌, ◌∙◌, ℕ, zero, suc, List, [], ◌∷◌, Bool, true, false, ◌||◌, ap, sym, refl, length, set, take, get_or, Option, Some, None}
use Rattle.std.specs.Prelude.{slice_get, map, nat_eq, if◌then◌else◌}
use Rattle.std.specs.List.{list_all, position}
use Rattle.std.specs.Option.{option_map, option_and_then}
use Rattle.std.proofs.lemmas.Option.{same_Some, slice_get-map}
use Rattle.std.proofs.lemmas.List.{take_all, map-set}
use Rattle.std.proofs.lemmas.List.Folds.{list_all-append}
use Rattle.std.proofs.lemmas.List.Quantifiers.{position-Some}
use Rattle.std.specs.declared.alloc.Global.{Global}
use Rattle.std.specs.declared.vec.Vec.{Vec}
use Rattle.scons_base.specs.declared.ids.NodeId.{NodeId}
use Rattle.scons_base.specs.declared.ids.RuleId.{RuleId}
use Rattle.task_plan.specs.Queues.{Queued, is_open, IsFirst}
use Rattle.task_plan.specs.Noted.{notes_of}
use Rattle.task_plan.specs.Settled.{is_done, is_scanned, needs_of, kept_of, next_of}
use Rattle.task_plan.specs.Tracked.{AreTracked}
use Rattle.task_plan.specs.Plans.{Planned, CanDecide, IsDecidedNext, IsReadyToScan}
use Rattle.task_plan.specs.declared.states.RuleState.{RuleState}
use Rattle.task_plan.specs.declared.files.Origin.{Origin}
use Rattle.task_plan.specs.declared.task.Task.{Task}
use Rattle.task_plan.proofs.ListLemmas.{list_all_weaker, and_left, and_right}

scanned_map : {X Y : Type 0} (f : X → Y) (n : NodeId) (es : List (NodeId × X)) → is_scanned (map (λ e. (e.0, f e.1)) es) n ≡ is_scanned es n
scanned_map f n [] = refl
scanned_map f n (e ∷ es) = ap (λ b. nat_eq n.0 e.0.0 || b) (scanned_map f n es)

pub kept_scanned : (t : Task) (n : NodeId) → is_scanned (kept_of t).found n ≡ is_scanned t.reach.found.entries n
kept_scanned t n = scanned_map (λ v. v.items) n t.reach.found.entries

abbrev pub planned : List RuleState → Queued → Bool → List Task → List Origin → List Bool → List (Vec RuleId Global) → Bool → List RuleId → Planned
planned a q h ts o m ws b rs = record { states = a; queue = q; halted = h; rules = map kept_of ts; origins = o; marks = m; nexts = map next_of ts; notes = notes_of ts ws b rs }

pub kept_at : (ts : List Task) (r : ℕ) (t : Task) → slice_get ts r ≡ Some t → slice_get (map kept_of ts) r ≡ Some (kept_of t)
kept_at ts r t e = slice_get-map kept_of ts r ∙ ap (option_map kept_of) e

pub set_here : {X : Type 0} (xs : List X) (i : ℕ) (x : X) → slice_get xs i ≡ Some x → set xs i x ≡ xs
set_here [] i x e = refl
set_here (y ∷ ys) zero x e = let same : y ≡ x = same_Some y x e in ap (λ z. z ∷ ys) (sym same)
set_here (y ∷ ys) (suc i) x e = ap (λ zs. y ∷ zs) (set_here ys i x e)

-- what is known of a rule stays where nothing of it changes
pub kept_still : (ts : List Task) (r : ℕ) (task v : Task) → slice_get ts r ≡ Some task → kept_of v ≡ kept_of task → map kept_of (set ts r v) ≡ map kept_of ts
kept_still ts r task v e k = map-set kept_of ts r v ∙ ap (set (map kept_of ts) r) k ∙ set_here (map kept_of ts) r (kept_of task) (kept_at ts r task e)

pub next_at : (ts : List Task) (r : ℕ) (t : Task) → slice_get ts r ≡ Some t → slice_get (map next_of ts) r ≡ Some (next_of t)
next_at ts r t e = slice_get-map next_of ts r ∙ ap (option_map next_of) e

pub wanted_by : (b : Bool) (o : Option (Option NodeId)) (file : NodeId) → b ≡ true → o ≡ Some (Some file) → (if b then option_and_then (λ f. f) o else None) ≡ Some file
wanted_by b o file e f = rw (e, f) refl

pub unwanted_by : (b : Bool) (o : Option (Option NodeId)) → b ≡ false → (if b then option_and_then (λ f. f) o else None) ≡ None
unwanted_by b o e = rw e refl

pub wanted_past : (b : Bool) (o : Option (Option NodeId)) → o ≡ None → (if b then option_and_then (λ f. f) o else None) ≡ None
wanted_past true o e = rw e refl
wanted_past false o e = refl

pub wanted_none : (b : Bool) (o : Option (Option NodeId)) → o ≡ Some None → (if b then option_and_then (λ f. f) o else None) ≡ None
wanted_none true o e = rw e refl
wanted_none false o e = refl

-- all of the first pass, and these are all
all_of : {X : Type 0} (p : X → Bool) (xs : List X) (count : ℕ) → list_all p (take count xs) ≡ true → length xs ≤ count → list_all p xs ≡ true
all_of p xs count h le = ap (list_all p) (sym (take_all count xs le)) ∙ h

pub can_decide : (a : List RuleState) (q : Queued) (h : Bool) (ts : List Task) (o : List Origin) (m : List Bool) (ws : List (Vec RuleId Global)) (b : Bool) (rs : List RuleId) (r : ℕ) → AreTracked a q ts o m → is_open q r ≡ true → CanDecide (planned a q h ts o m ws b rs) r
can_decide a q h ts o m ws b rs r t p =
    let k = t.opened r p in
    let i = t.each r k.task k.at in
    let done = λ (n : NodeId). is_done a o n in
    let all = list_all-append done k.task.required.items k.task.deps.keys in
    let needs = sym all ∙ all_of done (needs_of k.task) k.task.passed i.needs.each k.through.needs in
    let files = all_of (λ n. is_scanned k.task.reach.found.entries n) k.task.reach.files.keys k.task.reach.whole i.files.each k.through.files in
    record {
      kept = kept_of k.task;
      at = kept_at ts r k.task k.at;
      waits = k.waits;
      ready = record {
        required = and_left (list_all done k.task.required.items) (list_all done k.task.deps.keys) needs;
        deps = and_right (list_all done k.task.required.items) (list_all done k.task.deps.keys) needs;
        scanned = list_all_weaker (λ n. is_scanned k.task.reach.found.entries n) (λ n. is_scanned (kept_of k.task).found n) k.task.reach.files.keys (λ n s. kept_scanned k.task n ∙ s) files;
      };
    }

pub decided_next : (a : List RuleState) (q : Queued) (h : Bool) (ts : List Task) (o : List Origin) (m : List Bool) (ws : List (Vec RuleId Global)) (b : Bool) (rs : List RuleId) (r : ℕ) → AreTracked a q ts o m → IsFirst q r → h ≡ false → IsDecidedNext (planned a q h ts o m ws b rs) r
decided_next a q h ts o m ws b rs r t f e = record { first = f; can = can_decide a q h ts o m ws b rs r t f.opened; goes = e }

pub ready_to_scan : (a : List RuleState) (q : Queued) (h : Bool) (ts : List Task) (o : List Origin) (m : List Bool) (ws : List (Vec RuleId Global)) (b : Bool) (rs : List RuleId) (r : ℕ) (task : Task) (file : NodeId) → AreTracked a q ts o m
    → position (λ mark. mark) m ≡ Some r → slice_get ts r ≡ Some task → slice_get task.reach.files.keys task.reach.next ≡ Some file → IsReadyToScan (planned a q h ts o m ws b rs) r file
ready_to_scan a q h ts o m ws b rs r task file t p e f =
    let s = position-Some (λ mark. mark) m r false p in
    let k = t.marked r s.1 in
    let same : k.task ≡ task = same_Some k.task task (sym k.at ∙ e) in
    let next : slice_get task.reach.files.keys task.reach.next ≡ Some k.file = rw (sym same) k.next in
    let one : k.file ≡ file = same_Some k.file file (sym next ∙ f) in
    let unscanned : is_scanned task.reach.found.entries file ≡ false = rw (sym same, sym one) k.can.unscanned in
    record {
      kept = kept_of task;
      at = kept_at ts r task e;
      waits = k.waits;
      place = task.reach.next;
      is_file = f;
      can = record { unscanned = kept_scanned task file ∙ unscanned; done = rw (sym one) k.can.done };
      wants = wanted_by (get_or m r false) (slice_get (map next_of ts) r) file s.1 (next_at ts r task e ∙ ap Some f);
    }
