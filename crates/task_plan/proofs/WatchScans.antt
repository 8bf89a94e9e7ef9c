-- What is watched where a file of a rule was scanned.
use Rattle.std.proofs.Common.{arith, ◌≡◌, ◌≢◌, ◌≤◌, ◌∙◌, ◌⊎◌, inl, inr, ℕ, List, [], ◌++◌, Bool, true, false, ◌&&◌, ◌||◌, ap, sym, refl, length, set, get_or, Some, subst, get_or-set_other, length-set}
use Rattle.std.specs.Prelude.{slice_get, nat_eq, ltb, map}
use Rattle.std.specs.List.{flat_map}
use Rattle.std.proofs.lemmas.Bool.{ltb-true, ltb-false}
use Rattle.std.proofs.lemmas.Bool.Decides.{nat_tests}
use Rattle.std.proofs.lemmas.List.{length-map, map-set}
use Rattle.std.proofs.lemmas.List.Folds.{list_any-append}
use Rattle.std.proofs.lemmas.Option.{same_Some, slice_get_within}
use Rattle.std.specs.declared.alloc.Global.{Global}
use Rattle.std.specs.declared.vec.Vec.{Vec}
use Rattle.scons_base.specs.declared.ids.NodeId.{NodeId}
use Rattle.scons_base.specs.declared.ids.RuleId.{RuleId}
use Rattle.rule_graph.specs.Graphs.{RuleGraph}
use Rattle.rule_graph.specs.Rules.{are_below}
use Rattle.task_plan.specs.States.{state_of}
use Rattle.task_plan.specs.Queues.{Queued, is_open, is_placed}
use Rattle.task_plan.specs.Named.{stands, put_all}
use Rattle.task_plan.specs.Noted.{Places, places_of}
use Rattle.task_plan.specs.Settled.{Kept, kept_of, IsLonger, is_done, is_scanned, IsUnscannedAt}
use Rattle.task_plan.specs.Listed.{included, with_found, IsListing, KeepsNames, KeepsSeen, Takes}
use Rattle.task_plan.specs.Tracked.{AreTracked}
use Rattle.task_plan.specs.Plans.{Planned}
use Rattle.task_plan.specs.Met.{is_met}
use Rattle.task_plan.specs.Admits.{queues, none, Follows}
use Rattle.task_plan.specs.Watched.{IsSought, every, is_told, IsHeard, IsWatchedAt, AreWatched, AreQueued, HasNotes}
use Rattle.task_plan.specs.Watching.{WidensWatch, KeepsWatch, BringsWatch, Hears, LeavesRules, Passes, Readies, IsHalfWatched, IsHalfWatchedAt, NotesWatch, GrowsWatch, EndsWatch}
use Rattle.task_plan.specs.declared.states.RuleState.{RuleState}
use Rattle.task_plan.specs.declared.states.RuleState.TheVariants.{Waiting}
use Rattle.task_plan.specs.declared.files.Origin.{Origin}
use Rattle.task_plan.specs.declared.task.Task.{Task}
use Rattle.task_plan.proofs.MarkLemmas.{apart}
use Rattle.task_plan.proofs.PlanLemmas.{true_false}
use Rattle.task_plan.proofs.ListLemmas.{get-set_other, get-set_same, get-within, any_insert}
use Rattle.task_plan.proofs.NamedLemmas.{put_all_longer, stands_longer}
use Rattle.task_plan.proofs.WalkLemmas.{node_same, included_this, included_other, put_all_from}
use Rattle.task_plan.proofs.MetNeeds.{put_all_in, put_all_not_out}
use Rattle.task_plan.proofs.WantLemmas.{planned, kept_at, kept_scanned}
use Rattle.task_plan.proofs.StandLemmas.{kept_is, place_at, this_place, other_place}
use Rattle.task_plan.proofs.WatchLemmas.{watched_still, hears_same, offered_still, stands_there}
use Rattle.task_plan.proofs.WatchMeets.{watched_fewer, keeps_unordered, widens_keeps}
use Rattle.task_plan.proofs.WatchAdmits.{IsSeeing, looked_this, looked_others, looked_room, looked_states, looked_rules, looked_queue, looked_ordered, looked_places}
use Rattle.task_plan.proofs.NextLemmas.{place_of_stands}

split_or : (x y : Bool) → (x || y) ≡ true → (x ≡ true) ⊎ (y ≡ true)
split_or true y h = inl refl
split_or false y h = inr h

pub first_or : (x y : Bool) → x ≡ true → (x || y) ≡ true
first_or true y h = refl
first_or false y h = absurd (cc)

pub second_or : (x y : Bool) → y ≡ true → (x || y) ≡ true
second_or true y h = refl
second_or false y h = h

pub stands_split : (xs ys : List NodeId) (n : NodeId) → stands (xs ++ ys) n ≡ true → (stands xs n ≡ true) ⊎ (stands ys n ≡ true)
stands_split xs ys n h = split_or (stands xs n) (stands ys n) (sym (list_any-append (λ m. nat_eq n.0 m.0) xs ys) ∙ h)

-- what stands among nodes that were put behind others stood there, or was put
pub put_all_split : (out there xs : List NodeId) (n : NodeId) → stands (put_all out there xs) n ≡ true → (stands there n ≡ true) ⊎ (stands xs n ≡ true)
put_all_split out there xs n h = by (place_of_stands (put_all out there xs) n h)
  where
    by : (i : ℕ) × (slice_get (put_all out there xs) i ≡ Some n) → (stands there n ≡ true) ⊎ (stands xs n ≡ true)
    by k = at (ltb k.0 (length there)) refl
      where
        at : (b : Bool) → ltb k.0 (length there) ≡ b → (stands there n ≡ true) ⊎ (stands xs n ≡ true)
        at true e =
            let l = put_all_longer out there xs in
            let here : slice_get (there ++ l.more) k.0 ≡ Some n = sym (ap (λ ys. slice_get ys k.0) l.is) ∙ k.1 in
            inl (stands_there there k.0 n (sym (get-within there l.more k.0 (ltb-true k.0 (length there) e)) ∙ here))
        at false e = inr (put_all_from out there xs n k.0 (ltb-false k.0 (length there) e) k.1)

-- what a scan of a rule's file makes of what is known
pub record GrowsKept (old new : Kept) (file : NodeId) (inc news : List NodeId) : Type 0 where
  pub required : new.required ≡ old.required
  pub named : new.named ≡ old.named
  pub sources : new.sources ≡ old.sources
  pub left_out : new.left_out ≡ old.left_out
  pub found : new.found ≡ with_found old.found file inc
  pub before : Follows old
  pub after : Follows new
  pub new_files : put_all old.left_out old.files inc ≡ old.files ++ news

-- a rule has to do with what it had before, and with the new files
module _ (old new : Kept) (file : NodeId) (inc news : List NodeId) (k : GrowsKept old new file inc news) where
  sought_found : (n by : NodeId) → stands (included new.found by) n ≡ true → stands new.left_out n ≡ false → IsSought old n ⊎ (stands news n ≡ true)
  sought_found n by h f = at (nat_eq by.0 file.0) refl
    where
      left : stands old.left_out n ≡ false
      left = sym (ap (λ x. stands x n) k.left_out) ∙ f

      new_by : (stands old.left_out n ≡ true) ⊎ (stands (put_all old.left_out old.files inc) n ≡ true) → IsSought old n ⊎ (stands news n ≡ true)
      new_by (inl out) = absurd (true_false (stands old.left_out n) out left)
      new_by (inr there) = place_by (stands_split old.files news n (sym (ap (λ x. stands x n) k.new_files) ∙ there))
        where
          place_by : (stands old.files n ≡ true) ⊎ (stands news n ≡ true) → IsSought old n ⊎ (stands news n ≡ true)
          place_by (inl x) = inl (IsSought.scanned x)
          place_by (inr x) = inr x

      at : (x : Bool) → nat_eq by.0 file.0 ≡ x → IsSought old n ⊎ (stands news n ≡ true)
      at true e =
          let same : by ≡ file = node_same by file e in
          let this : included new.found by ≡ inc = ap (λ x. included x by) k.found ∙ ap (included (with_found old.found file inc)) same ∙ included_this old.found file inc in
          new_by (put_all_in old.left_out old.files inc n (sym (ap (λ x. stands x n) this) ∙ h))
      at false e =
          let this : included new.found by ≡ included old.found by = ap (λ x. included x by) k.found ∙ included_other old.found file by inc e in
          inl (IsSought.found by (sym (ap (λ x. stands x n) this) ∙ h) left)

  sought_file : (n : NodeId) → (i : ℕ) × (slice_get new.files i ≡ Some n) → IsSought old n ⊎ (stands news n ≡ true)
  sought_file n p = at (ltb p.0 (length new.sources)) refl
    where
      l : IsLonger new.sources (put_all new.left_out new.sources (flat_map (included new.found) new.files))
      l = put_all_longer new.left_out new.sources (flat_map (included new.found) new.files)

      at : (x : Bool) → ltb p.0 (length new.sources) ≡ x → IsSought old n ⊎ (stands news n ≡ true)
      at true e =
          let here : slice_get (new.sources ++ l.more) p.0 ≡ Some n = sym (ap (λ ys. slice_get ys p.0) (k.after.files.whole ∙ l.is)) ∙ p.1 in
          let source : stands new.sources n ≡ true = stands_there new.sources p.0 n (sym (get-within new.sources l.more p.0 (ltb-true p.0 (length new.sources) e)) ∙ here) in
          let old_source : stands old.sources n ≡ true = sym (ap (λ x. stands x n) k.sources) ∙ source in
          let first = put_all_longer old.left_out old.sources (flat_map (included old.found) old.files) in
          inl (IsSought.scanned (ap (λ x. stands x n) k.before.files.whole ∙ stands_longer old.sources (put_all old.left_out old.sources (flat_map (included old.found) old.files)) n first old_source))
      at false e =
          let past = ltb-false p.0 (length new.sources) e in
          let f = k.after.files.earlier p.0 n p.1 past in
          let out = put_all_not_out new.left_out new.sources (flat_map (included new.found) new.files) n p.0 past (sym (ap (λ y. slice_get y p.0) k.after.files.whole) ∙ p.1) in
          sought_found n f.by f.includes out

  sought_dep : (n : NodeId) → (stands new.named n ≡ true) ⊎ (stands new.files n ≡ true) → IsSought old n ⊎ (stands news n ≡ true)
  sought_dep n (inl h) =
      let l = put_all_longer [] old.named old.files in
      let dep : stands old.deps n ≡ true = ap (λ x. stands x n) k.before.deps ∙ stands_longer old.named (put_all [] old.named old.files) n l (sym (ap (λ x. stands x n) k.named) ∙ h) in
      inl (IsSought.needed (list_any-append (λ m. nat_eq n.0 m.0) old.required old.deps ∙ second_or (stands old.required n) (stands old.deps n) dep))
  sought_dep n (inr h) = sought_file n (place_of_stands new.files n h)

  sought_need : (n : NodeId) → (stands new.required n ≡ true) ⊎ (stands new.deps n ≡ true) → IsSought old n ⊎ (stands news n ≡ true)
  sought_need n (inl h) =
      inl (IsSought.needed (list_any-append (λ m. nat_eq n.0 m.0) old.required old.deps ∙ first_or (stands old.required n) (stands old.deps n) (sym (ap (λ x. stands x n) k.required) ∙ h)))
  sought_need n (inr h) = sought_dep n (put_all_split [] new.named new.files n (sym (ap (λ x. stands x n) k.after.deps) ∙ h))

  pub sought_grows : (n : NodeId) → IsSought new n → IsSought old n ⊎ (stands news n ≡ true)
  sought_grows n (IsSought.needed h) = sought_need n (stands_split new.required new.deps n h)
  sought_grows n (IsSought.scanned h) = sought_file n (place_of_stands new.files n h)
  sought_grows n (IsSought.found by h f) = sought_found n by h f

eq_turned : (m n : ℕ) → nat_eq m n ≡ false → n ≢ m
eq_turned m n h = λ same. absurd (true_false (nat_eq m n) (let e : m ≡ n = sym same in grind (arith, nat_tests)) h)

follows_of : (t : Task) → IsListing t → t.is_listed ≡ true → Follows (kept_of t)
follows_of t l h = let d = l.listed h in record { files = d.reach.reach; deps = d.deps }

unscanned_before : (found new : List (NodeId × List NodeId)) (file n : NodeId) (inc : List NodeId) → new ≡ with_found found file inc → is_scanned new n ≡ false → is_scanned found n ≡ false
unscanned_before found new file n inc e f = by (is_scanned found n) refl
  where
    by : (x : Bool) → is_scanned found n ≡ x → is_scanned found n ≡ false
    by true h = absurd (true_false (is_scanned new n) (ap (λ x. is_scanned x n) e ∙ any_insert (λ m. nat_eq n.0 m.0) (λ a b. nat_eq a.0 b.0) found file inc h) f)
    by false h = h

-- what a file includes was noted
module _ (a : List RuleState) (q : Queued) (h : Bool) (ts : List Task) (o : List Origin) (m : List Bool) (ws : List (Vec RuleId Global)) (b : Bool) (rs : List RuleId) (r : ℕ) (task v : Task) (file : NodeId) (inc news : List NodeId)
    (e : slice_get ts r ≡ Some task) (marked : get_or m r false ≡ true) (t : AreTracked a q ts o m) (names : KeepsNames task v) (takes : Takes task file inc v) (listing : IsListing v)
    (unscanned : IsUnscannedAt v.reach.found.entries v.reach.files.keys v.reach.whole) (seen : KeepsSeen task.reach v.reach) (new : put_all task.reach.excluded.keys task.reach.files.keys inc ≡ task.reach.files.keys ++ news) where
  note_other_kept : (x : ℕ) → x ≢ r → slice_get (map kept_of (set ts r v)) x ≡ slice_get (map kept_of ts) x
  note_other_kept x ne = ap (λ y. slice_get y x) (map-set kept_of ts r v) ∙ get-set_other (map kept_of ts) r x (kept_of v) ne

  noted_kept : (kept : Kept) → slice_get (map kept_of (set ts r v)) r ≡ Some kept → kept ≡ kept_of v
  noted_kept kept k = kept_is (set ts r v) r v kept (get-set_same ts r v task e) k

  half_by : AreWatched (planned a q h ts o m ws b rs) every none → IsHalfWatched (planned a q h (set ts r v) o (set m r false) ws b rs) r news (kept_of v) (places_of v)
  half_by w =
      let waits = (t.marked r marked).waits in
      let old = (w.each r refl).each (kept_of task) (places_of task) waits (kept_at ts r task e) (place_at ts r task e) in
      let grows : GrowsKept (kept_of task) (kept_of v) file inc news = record {
        required = names.required;
        named = names.named;
        sources = names.reach.same;
        left_out = names.reach.excluded;
        found = takes.found;
        before = follows_of task (t.each r task e).listing old.whole;
        after = follows_of v listing takes.listed;
        new_files = new;
      } in
      record {
        whole = takes.listed;
        sought = λ n s. heard n old.sought (sought_grows (kept_of task) (kept_of v) file inc news grows n s);
        scanned = record { unscanned = λ n g. kept_scanned v n ∙ unscanned.unscanned n g };
        next = record {
          none = λ place n lt g u.
              let k = t.marked r marked in
              let same : k.task ≡ task = same_Some k.task task (sym k.at ∙ e) in
              let within = slice_get_within task.reach.files.keys task.reach.next k.file (ap (λ (x : Task). slice_get x.reach.files.keys x.reach.next) (sym same) ∙ k.next) in
              let le = seen.next in
              old.next.none place n (omega arith) (sym (seen.same within place lt) ∙ g) (unscanned_before (kept_of task).found (kept_of v).found file n inc takes.found u);
        };
        met = λ place n lt g.
            let k = t.marked r marked in
            let same : k.task ≡ task = same_Some k.task task (sym k.at ∙ e) in
            let within = slice_get_within task.reach.files.keys task.reach.next k.file (ap (λ (x : Task). slice_get x.reach.files.keys x.reach.next) (sym same) ∙ k.next) in
            (old.sought n (IsSought.scanned (stands_there task.reach.files.keys place n (sym (seen.same within place lt) ∙ g)))).met;
      }
    where
      heard : (n : NodeId) → ((x : NodeId) → IsSought (kept_of task) x → IsHeard (planned a q h ts o m ws b rs) every r x) → IsSought (kept_of task) n ⊎ (stands news n ≡ true)
          → IsHeard (planned a q h (set ts r v) o (set m r false) ws b rs) every r n ⊎ (stands news n ≡ true)
      heard n f (inl s) = let x = f n s in inl (record { met = x.met; waits = x.waits })
      heard n f (inr s) = inr s

  pub notes_watch : NotesWatch (planned a q h ts o m ws b rs) (planned a q h (set ts r v) o (set m r false) ws b rs) r news
  notes_watch = record {
    watched = λ w. record {
      each = λ x f.
          let ne = eq_turned r x f in
          watched_still (planned a q h ts o m ws b rs) (planned a q h (set ts r v) o (set m r false) ws b rs) every every x
          (record { states = λ s. s; rules = λ _. note_other_kept x ne; places = λ _. other_place ts r x v ne; marks = λ s. get_or-set_other m r x false false ne ∙ s })
          (hears_same (planned a q h ts o m ws b rs) (planned a q h (set ts r v) o (set m r false) ws b rs) every x refl refl refl) (w.each x refl);
    };
    half = λ w. record {
      waits = (t.marked r marked).waits;
      each = λ kept at k g.
          subst (λ (x : Kept). IsHalfWatched (planned a q h (set ts r v) o (set m r false) ws b rs) r news x at) (sym (noted_kept kept k))
          (subst (λ (x : Places). IsHalfWatched (planned a q h (set ts r v) o (set m r false) ws b rs) r news (kept_of v) x) (sym (this_place ts r task v at e g)) (half_by w));
    };
    queued = λ s. record {
      placed = s.placed;
      opened = λ ok x f.
          let ne = eq_turned r x f in
          offered_still (planned a q h ts o m ws b rs) (planned a q h (set ts r v) o (set m r false) ws b rs) x (λ s. s) (λ _. note_other_kept x ne) (λ _. other_place ts r x v ne) (λ s. s) (s.opened ok x refl);
    };
    room = λ s. record {
      marks = let l = length-set m r false in let k = length-map ts kept_of in let n = length-map (set ts r v) kept_of in let u = length-set ts r v in let w = s.marks in omega arith;
      waiters = s.waiters;
    };
  }

or_left_fails : (x y : Bool) → (x || y) ≡ false → x ≡ false
or_left_fails true y h = h
or_left_fails false y h = refl

-- The new files are met, and the rule that scanned passes its needs and looks on; then the rules that came to be needed are admitted.
module _ (g : RuleGraph) (a b c d e f k : Planned) (rule start : ℕ) (news : List NodeId) (needed : List RuleId) (widens : WidensWatch a b) (room : length b.rules ≤ length b.marks) (brings : BringsWatch b c [] needed)
    (leaves : LeavesRules b c) (hears : Hears g b c rule news) (p : Passes c d rule) (looks : Readies d e rule start) (starts : (at : Places) → slice_get d.notes.places rule ≡ Some at → start ≡ at.next)
    (rest : f ≡ record e { notes = record e.notes { is_ordered = f.notes.is_ordered } }) (fewer : f.notes.is_ordered ≡ true → e.notes.is_ordered ≡ true) (ends : EndsWatch f k needed []) where
  widened_room : HasNotes a → HasNotes b
  widened_room h = record { marks = room; waiters = widens.lists h.waiters }

  widened : KeepsWatch a b []
  widened = widens_keeps a b widens widened_room

  last : KeepsWatch e f []
  last = keeps_unordered e f rest fewer

  sees : IsHalfWatchedAt a rule news → HasNotes a → are_below (length g.nodes) news ≡ true → (kept : Kept) (was now : Places) → state_of c.states rule ≡ Waiting → slice_get c.rules rule ≡ Some kept → slice_get c.notes.places rule ≡ Some was
      → slice_get d.notes.places rule ≡ Some now → now.next ≡ was.next → IsSeeing c d e rule start p looks kept was
  sees half notes below kept was now w r at here next =
      let kb : slice_get b.rules rule ≡ Some kept = sym (ap (λ x. slice_get x rule) leaves.rules) ∙ r in
      let pb : slice_get b.notes.places rule ≡ Some was = sym (ap (λ x. slice_get x rule) leaves.places) ∙ at in
      let s = half.each kept was (sym (widens.rules rule half.waits) ∙ kb) (sym (widens.places rule half.waits) ∙ pb) in
      record {
        whole = s.whole;
        sought = λ n x. heard n (s.sought n x);
        scanned = s.scanned;
        before = λ place n lt h u.
            let same : start ≡ was.next = starts now here ∙ next in
            done_no n (s.met place n (omega arith) h) (s.next.none place n (omega arith) h u);
      }
    where
      heard : (n : NodeId) → IsHeard a every rule n ⊎ (stands news n ≡ true) → IsHeard c every rule n
      heard n (inl x) = brings.keeps.heard rule n (widened.heard rule n x)
      heard n (inr x) = hears.each below (widened_room notes) n x

      and_fails : (x : Bool) → (x && true) ≡ false → x ≡ false
      and_fails true h = h
      and_fails false h = h

      done_no : (n : NodeId) → is_met a.origins n ≡ true → is_told a every n ≡ false → is_done c.states c.origins n ≡ false
      done_no n met t = and_fails (is_done c.states c.origins n) (brings.keeps.told n (widened.met n met) ∙ widened.told n met ∙ t)

  pub grows_watch : GrowsWatch g a k rule news
  grows_watch = record {
    watched = λ below notes half w.
        let first = widened.watched (nat_eq rule) w in
        let met = brings.keeps.watched (λ r. nat_eq rule r || false) first in
        let looked : AreWatched e every (queues brings.more) = record { each = λ r no. each_by below notes half met r no (apart r rule) } in
        let unordered = watched_fewer f every (λ r. queues brings.more r || false) (queues brings.more) (λ r no. or_fails (queues brings.more r) no) (last.watched (queues brings.more) looked) in
        ends.watched (last.room (looked_room c d e rule start p looks (brings.keeps.room (widened_room notes)))) (subst (λ (x : List RuleId). AreWatched f every (queues x)) (sym brings.is) unordered);
    queued = λ s. ends.queued (nat_eq rule) (last.queued (nat_eq rule) (looked_queued (brings.keeps.queued (nat_eq rule) (widened.queued (nat_eq rule) s))));
    room = λ h. ends.room (last.room (looked_room c d e rule start p looks (brings.keeps.room (widened_room h))));
  }
    where
      or_fails : (x : Bool) → x ≡ false → (x || false) ≡ false
      or_fails true h = h
      or_fails false h = refl

      both_fail : (x y : Bool) → x ≡ false → y ≡ false → ((x || false) || y) ≡ false
      both_fail true y h i = absurd (cc)
      both_fail false y h i = i

      eq_fails : (r : ℕ) → r ≢ rule → nat_eq rule r ≡ false
      eq_fails r ne = grind (arith, nat_tests)

      each_by : are_below (length g.nodes) news ≡ true → HasNotes a → IsHalfWatchedAt a rule news → AreWatched c every (λ r. (nat_eq rule r || false) || queues brings.more r) → (r : ℕ) → queues brings.more r ≡ false → (r ≡ rule) ⊎ (r ≢ rule)
          → IsWatchedAt e every r
      each_by below notes half met r no_more (inl same) = rw same (looked_this c d e rule start p looks (brings.keeps.room (widened_room notes)) (sees half notes below))
      each_by below notes half met r no_more (inr ne) = looked_others c d e rule start p looks r ne (met.each r (both_fail (nat_eq rule r) (queues brings.more r) (eq_fails r ne) no_more))

      looked_queued : AreQueued c (nat_eq rule) → AreQueued e (nat_eq rule)
      looked_queued s = record {
        placed = λ ok r w. ap (λ x. is_placed x r) (looked_queue c d e rule start p looks) ∙ s.placed (sym (looked_ordered c d e rule start p looks) ∙ ok) r (sym (ap (λ x. state_of x r) (looked_states c d e rule start p looks)) ∙ w);
        opened = λ ok r no.
            let ne = eq_turned rule r no in
            offered_still c e r (λ w. sym (ap (λ x. state_of x r) (looked_states c d e rule start p looks)) ∙ w) (λ _. ap (λ x. slice_get x r) (looked_rules c d e rule start p looks))
            (λ _. looked_places c d e rule start p looks r ne) (λ i. ap (λ x. is_open x r) (looked_queue c d e rule start p looks) ∙ i) (s.opened (sym (looked_ordered c d e rule start p looks) ∙ ok) r no);
      }
