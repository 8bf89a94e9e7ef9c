-- What is left of a rule's needs where new files come to it.
use Rattle.std.proofs.Common.{arith, ◌≡◌, ◌<◌, ◌≤◌, ◌∙◌, ◌⊎◌, inl, inr, ⊎_elim, ℕ, zero, suc, List, [], ◌∷◌, ◌++◌, Bool, true, false, ◌||◌, ap, sym, refl, length, set, subst, Some, append-nil, append_assoc}
use Rattle.std.specs.Prelude.{slice_get, nat_eq, map, not, if◌then◌else◌}
use Rattle.std.specs.List.{list_all, flat_map, cons_option}
use Rattle.std.proofs.lemmas.List.{take_all}
use Rattle.std.proofs.lemmas.List.Elements.{filter_map-append}
use Rattle.std.proofs.lemmas.List.Folds.{list_any-append}
use Rattle.std.specs.declared.alloc.Global.{Global}
use Rattle.std.specs.declared.vec.Vec.{Vec}
use Rattle.scons_base.specs.declared.ids.NodeId.{NodeId}
use Rattle.scons_base.specs.declared.ids.RuleId.{RuleId}
use Rattle.task_plan.specs.States.{state_of}
use Rattle.task_plan.specs.Queues.{Queued}
use Rattle.task_plan.specs.Named.{stands, put, put_all}
use Rattle.task_plan.specs.Settled.{Kept, kept_of, needs_of, origin_of, is_settled, is_done, is_scanned}
use Rattle.task_plan.specs.Listed.{included, IsReach, KeepsNames, with_found}
use Rattle.task_plan.specs.Tracked.{AreTracked}
use Rattle.task_plan.specs.Plans.{Planned, Stays}
use Rattle.task_plan.specs.Met.{is_met, are_met}
use Rattle.task_plan.specs.Admits.{Widens}
use Rattle.task_plan.specs.Orders.{is_among, maker_of, makers_of, needed_in, needed_of}
use Rattle.task_plan.specs.Watching.{WidensWatch, LeavesRules, Passes, Readies}
use Rattle.task_plan.specs.Ordered.{is_left, left, AreNeedsDone, AreReady, GrowsInOrder, IsInPlace, IsReadyFor, KeepsDeps, LeavesOrder, NeedsMore, Precedes, ScansOrder, TakesFiles}
use Rattle.task_plan.specs.declared.states.RuleState.{RuleState}
use Rattle.task_plan.specs.declared.states.RuleState.TheVariants.{Unneeded, Waiting}
use Rattle.task_plan.specs.declared.files.Origin.{Origin}
use Rattle.task_plan.specs.declared.task.Task.{Task}
use Rattle.task_plan.proofs.ListLemmas.{and_both, get-set_same, get-within}
use Rattle.task_plan.proofs.PlanLemmas.{true_false}
use Rattle.task_plan.proofs.NamedLemmas.{put_all_longer, stands_longer}
use Rattle.task_plan.proofs.WalkLemmas.{node_same, included_none, included_other}
use Rattle.task_plan.proofs.MetNeeds.{all_stands, all_each, stands_at, put_all_in, put_all_not_out}
use Rattle.task_plan.proofs.WantLemmas.{planned, kept_at}
use Rattle.task_plan.proofs.StandLemmas.{kept_is}
use Rattle.task_plan.proofs.ProjectLemmas.{kept_append, kept_alike, kept_passes}
use Rattle.task_plan.proofs.ReachedLemmas.{none_among, first_or}
use Rattle.task_plan.proofs.KeptLemmas.{makers_done}
use Rattle.task_plan.proofs.ScanLemmas.{makers_same, among_more}
use Rattle.task_plan.proofs.LeaveLemmas.{leaves_trans, order_trans, order_unordered, order_widens, order_looked, all_done_still, ready_still}

-- a rule has no needs that aren't done where it has passed all
pub unsettled_none : (a : List RuleState) (q : Queued) (h : Bool) (ts : List Task) (o : List Origin) (m : List Bool) (ws : List (Vec RuleId Global)) (b : Bool) (rs : List RuleId) (r : ℕ) (task : Task) → AreTracked a q ts o m → slice_get ts r ≡ Some task
    → length (needs_of task) ≤ task.passed → (kept : Kept) → slice_get (map kept_of ts) r ≡ Some kept → AreNeedsDone (planned a q h ts o m ws b rs) kept
unsettled_none a q h ts o m ws b rs r task t at le kept k =
    let same = kept_is ts r task kept at k in
    let done = λ (n : NodeId). is_done a o n in
    ap (λ (x : Kept). list_all done (x.required ++ x.deps)) same ∙ ap (list_all done) (sym (take_all task.passed (needs_of task) le)) ∙ (t.each r task at).needs.each

-- a scan was noted in a rule's task
pub takes_files : (a : List RuleState) (q : Queued) (h : Bool) (ts : List Task) (o : List Origin) (m : List Bool) (ws : List (Vec RuleId Global)) (b : Bool) (rs : List RuleId) (r : ℕ) (task v : Task) (in_order : Bool) (news : List NodeId)
    → slice_get ts r ≡ Some task → KeepsNames task v → (in_order ≡ true → v.deps.keys ≡ put_all [] task.deps.keys news)
    → TakesFiles (planned a q h ts o m ws b rs) (planned a q h (set ts r v) o (set m r false) ws b rs) r in_order news
takes_files a q h ts o m ws b rs r task v in_order news e k f = record {
  leaves = record { order = refl; roots = refl; fits = λ ok. ok };
  before = kept_of task;
  was = kept_at ts r task e;
  after = kept_of v;
  is = kept_at (set ts r v) r v (get-set_same ts r v task e);
  required = k.required;
  deps = f;
}

-- files were met, needs passed and a file found, and then rules were admitted
pub grows_in_order : (a b d e f h k : Planned) (rule start : ℕ) (in_order : Bool) (news : List NodeId) → WidensWatch a b → b.notes.roots ≡ a.notes.roots → Widens a b → LeavesOrder b d → AreReady d rule news → LeavesRules b d → Stays d e → Stays e f
    → Passes d e rule → Readies e f rule start → h ≡ record f { notes = record f.notes { is_ordered = h.notes.is_ordered } } → (h.notes.is_ordered ≡ true → f.notes.is_ordered ≡ true)
    → (h.notes.is_ordered ≡ true → IsInPlace f f.rules rule in_order) → LeavesOrder h k → GrowsInOrder a k rule in_order news
grows_in_order a b d e f h k rule start in_order news widens roots w found ready rules s t p r rest fewer place admits = record {
  leaves = order_trans a d k (order_trans a b d (order_widens a b widens roots) found) later;
  ready = λ ok n h. ready_still d k rule n later ok (ready (later.queue.fits ok) n h);
  place = λ ok. placed ok (place (admits.queue.fits ok));
}
  where
    looked : LeavesOrder d f
    looked = order_looked d e f rule start s t p r

    noted : LeavesOrder f h
    noted = order_unordered f h rest fewer

    last : LeavesOrder f k
    last = order_trans f h k noted admits

    later : LeavesOrder d k
    later = order_trans d f k looked last

    placed : k.notes.is_ordered ≡ true → IsInPlace f f.rules rule in_order → IsInPlace k a.rules rule in_order
    placed ok (inl h) = inl h
    placed ok (inr g) = inr (λ kept at.
        let now : slice_get f.rules rule ≡ Some kept = ap (λ x. slice_get x rule) (t.rules ∙ s.rules ∙ rules.rules) ∙ (w.each rule).kept kept at in
        all_done_still f k (kept.required ++ kept.deps) last ok (g kept now))

makers_append : (o : List Origin) (xs ys : List NodeId) → makers_of o (xs ++ ys) ≡ makers_of o xs ++ makers_of o ys
makers_append o xs ys = filter_map-append (λ (n : NodeId). maker_of (origin_of o n.0)) xs ys

left_makers : (s : List RuleState) (o : List Origin) (xs ys : List NodeId) → left s (makers_of o (xs ++ ys)) ≡ left s (makers_of o xs) ++ left s (makers_of o ys)
left_makers s o xs ys = ap (left s) (makers_append o xs ys) ∙ kept_append (is_left s) (makers_of o xs) (makers_of o ys)

-- what is left of the makers of files is what was, and behind that rules which stand before this one
record MoreLeft (c : Planned) (rule : ℕ) (old new : List NodeId) : Type 0 where
  more : List RuleId
  is : left c.states (makers_of c.origins new) ≡ left c.states (makers_of c.origins old) ++ more
  before : (x : ℕ) → is_among x more ≡ true → Precedes c.queue.order x rule
  still : (x : ℕ) → is_among x more ≡ true → is_left c.states x ≡ true

more_none : (c : Planned) (rule : ℕ) (there : List NodeId) → MoreLeft c rule there there
more_none c rule there = record { more = []; is = sym (append-nil (left c.states (makers_of c.origins there))); before = λ x h. none_among x h; still = λ x h. none_among x h }

maker_before : (c : Planned) (rule : ℕ) (n : NodeId) → IsReadyFor c rule n → (x : ℕ) → is_among x (left c.states (makers_of c.origins (n ∷ []))) ≡ true → Precedes c.queue.order x rule
maker_before c rule n (inl h) x k = none_among x (ap (is_among x) (sym (makers_done c.states c.origins (n ∷ []) (and_both (is_done c.states c.origins n) true h refl))) ∙ k)
maker_before c rule n (inr b) x k =
    let one : makers_of c.origins (n ∷ []) ≡ b.by ∷ [] = ap (λ o. cons_option (maker_of o) []) b.made in
    let among : is_among x (b.by ∷ []) ≡ true = among_more (is_left c.states) x (b.by ∷ []) (ap (λ l. is_among x (left c.states l)) (sym one) ∙ k) in
    let number : b.by.0 ≡ x = ⊎_elim (λ e. e) (λ e. none_among x e) (first_or x b.by [] among) in
    subst (λ y. Precedes c.queue.order y rule) number b.precedes

more_by : (b d : Bool) (c : Planned) (rule : ℕ) (there : List NodeId) (n : NodeId) → IsReadyFor c rule n → MoreLeft c rule there (if b then there else (if d then there else there ++ n ∷ []))
more_by true d c rule there n r = more_none c rule there
more_by false true c rule there n r = more_none c rule there
more_by false false c rule there n r = record {
  more = left c.states (makers_of c.origins (n ∷ []));
  is = left_makers c.states c.origins there (n ∷ []);
  before = maker_before c rule n r;
  still = λ x h. kept_passes (is_left c.states) x (makers_of c.origins (n ∷ [])) h;
}

more_then : (c : Planned) (rule : ℕ) (x y z : List NodeId) → MoreLeft c rule x y → MoreLeft c rule y z → MoreLeft c rule x z
more_then c rule x y z m n = record {
  more = m.more ++ n.more;
  is = n.is ∙ ap (λ l. l ++ n.more) m.is ∙ append_assoc (left c.states (makers_of c.origins x)) m.more n.more;
  before = λ r h. ⊎_elim (λ k. m.before r k) (λ k. n.before r k) (among_or r h);
  still = λ r h. ⊎_elim (λ k. m.still r k) (λ k. n.still r k) (among_or r h);
}
  where
    either : (a b : Bool) → (a || b) ≡ true → (a ≡ true) ⊎ (b ≡ true)
    either true b h = inl refl
    either false b h = inr h

    among_or : (r : ℕ) → is_among r (m.more ++ n.more) ≡ true → (is_among r m.more ≡ true) ⊎ (is_among r n.more ≡ true)
    among_or r h = either (is_among r m.more) (is_among r n.more) (sym (list_any-append (λ q. nat_eq q.0 r) m.more n.more) ∙ h)

this_one : (n : ℕ) → nat_eq n n ≡ true
this_one n = grind arith

or_this : (a b : Bool) → a ≡ true → (a || b) ≡ true
or_this true b h = refl
or_this false b h = absurd (cc)

or_that : (a b : Bool) → b ≡ true → (a || b) ≡ true
or_that true b h = refl
or_that false b h = h

more_all : (c : Planned) (rule : ℕ) (there xs : List NodeId) → ((n : NodeId) → stands xs n ≡ true → IsReadyFor c rule n) → MoreLeft c rule there (put_all [] there xs)
more_all c rule there [] f = more_none c rule there
more_all c rule there (x ∷ xs) f =
    more_then c rule there (put [] there x) (put_all [] (put [] there x) xs) (more_by (stands [] x) (stands there x) c rule there x (f x (or_this (nat_eq x.0 x.0) (stands xs x) (this_one x.0))))
    (more_all c rule (put [] there x) xs (λ n h. f n (or_that (nat_eq n.0 x.0) (stands xs n) h)))

-- what is left of a rule's needs is what was, where new files came to it
pub needs_kept : (a b c : Planned) (rule : ℕ) (in_order : Bool) (news : List NodeId) → b.states ≡ a.states → b.origins ≡ a.origins → TakesFiles a b rule in_order news → GrowsInOrder b c rule in_order news
    → ((kept : Kept) → slice_get b.rules rule ≡ Some kept → slice_get c.rules rule ≡ Some kept) → state_of a.states rule ≡ Waiting → KeepsDeps a c rule → ScansOrder a c rule
needs_kept a b c rule in_order news states origins t g same waits d = record {
  queue = leaves_trans a b c t.leaves g.leaves.queue;
  states = still;
  needs = needs;
}
  where
    still : c.notes.is_ordered ≡ true → (r : ℕ) → state_of c.states r ≡ state_of a.states r
    still ok r = g.leaves.states ok r ∙ ap (λ x. state_of x r) states

    same_left : c.notes.is_ordered ≡ true → (xs : List RuleId) → left a.states xs ≡ left c.states xs
    same_left ok xs = kept_alike (is_left a.states) (is_left c.states) (λ r. ap (λ s. not (is_settled s)) (sym (still ok r))) xs

    before : List NodeId
    before = t.before.required ++ t.before.deps

    after : List NodeId
    after = t.after.required ++ t.after.deps

    is_after : slice_get c.rules rule ≡ Some t.after
    is_after = same t.after t.is

    met : are_met a.origins before ≡ true
    met = d.met (λ u. let bad : Waiting ≡ Unneeded = sym waits ∙ u in absurd (cc)) t.before t.was

    origin : (n : NodeId) → is_met a.origins n ≡ true → origin_of c.origins n.0 ≡ origin_of a.origins n.0
    origin n h = g.leaves.origins n (ap (λ x. is_met x n) origins ∙ h) ∙ ap (λ x. origin_of x n.0) origins

    makers : makers_of a.origins before ≡ makers_of c.origins before
    makers = makers_same a.origins c.origins before origin met

    or_by : (x y : Bool) → (x || y) ≡ true → (x ≡ true) ⊎ (y ≡ true)
    or_by true y h = inl refl
    or_by false y h = inr h

    -- where all needs are done now, all that there were are
    none_left : list_all (λ n. is_done c.states c.origins n) after ≡ true → left c.states (makers_of c.origins before) ≡ left c.states (makers_of c.origins after)
    none_left h = makers_done c.states c.origins before all ∙ sym (makers_done c.states c.origins after h)
      where
        in_after : (n : NodeId) → (stands t.before.required n ≡ true) ⊎ (stands t.before.deps n ≡ true) → stands after n ≡ true
        in_after n (inl k) = list_any-append (λ m. nat_eq n.0 m.0) t.after.required t.after.deps ∙ first (stands t.after.required n) (stands t.after.deps n) (ap (λ l. stands l n) t.required ∙ k)
          where
            first : (x y : Bool) → x ≡ true → (x || y) ≡ true
            first true y e = refl
            first false y e = absurd (cc)
        in_after n (inr k) = list_any-append (λ m. nat_eq n.0 m.0) t.after.required t.after.deps ∙ second (stands t.after.required n) (stands t.after.deps n) (d.stays t.before t.after t.was is_after n k)
          where
            second : (x y : Bool) → y ≡ true → (x || y) ≡ true
            second true y e = refl
            second false y e = e

        all : list_all (λ n. is_done c.states c.origins n) before ≡ true
        all =
            all_each (λ n. is_done c.states c.origins n) before
            (λ i n at. all_stands (λ x. is_done c.states c.origins x) after n h
            (in_after n (or_by (stands t.before.required n) (stands t.before.deps n) (sym (list_any-append (λ m. nat_eq n.0 m.0) t.before.required t.before.deps) ∙ stands_at before i n at))))

    -- what is left of the needs now, and of those that were
    now : c.notes.is_ordered ≡ true → left a.states (needed_of c.rules c.origins rule) ≡ left c.states (makers_of c.origins after)
    now ok = ap (λ x. left a.states (needed_in c.origins x)) is_after ∙ same_left ok (makers_of c.origins after)

    was : c.notes.is_ordered ≡ true → left a.states (needed_of a.rules a.origins rule) ≡ left c.states (makers_of c.origins before)
    was ok = ap (λ x. left a.states (needed_in a.origins x)) t.was ∙ ap (left a.states) makers ∙ same_left ok (makers_of c.origins before)

    by : c.notes.is_ordered ≡ true → IsInPlace c b.rules rule in_order → NeedsMore a c rule
    by ok (inl h) =
        let m = more_all c rule t.before.deps news (g.ready ok) in
        let required = left c.states (makers_of c.origins t.before.required) in
        record {
          more = m.more;
          is =
              now ok ∙ left_makers c.states c.origins t.after.required t.after.deps ∙ ap (λ l. left c.states (makers_of c.origins l) ++ left c.states (makers_of c.origins t.after.deps)) t.required
              ∙ ap (λ l. required ++ left c.states (makers_of c.origins l)) (t.deps h) ∙ ap (λ l. required ++ l) m.is ∙ sym (append_assoc required (left c.states (makers_of c.origins t.before.deps)) m.more)
              ∙ ap (λ l. l ++ m.more) (sym (left_makers c.states c.origins t.before.required t.before.deps) ∙ sym (was ok));
          before = m.before;
          still = λ r k. (ap (λ s. not (is_settled s)) (sym (still ok r)) ∙ m.still r k, ap (λ s. not (is_settled s)) waits);
        }
    by ok (inr f) = record {
      more = [];
      is = now ok ∙ sym (none_left (f t.after t.is)) ∙ sym (was ok) ∙ sym (append-nil (left a.states (needed_of a.rules a.origins rule)));
      before = λ r h. none_among r h;
      still = λ r h. none_among r h;
    }

    needs : c.notes.is_ordered ≡ true → NeedsMore a c rule
    needs ok = by ok (g.place ok)

flat_has_by : (f : NodeId → List NodeId) (b : Bool) (x by n : NodeId) (xs : List NodeId) → nat_eq by.0 x.0 ≡ b → (stands xs by ≡ true → stands (flat_map f xs) n ≡ true) → (b || stands xs by) ≡ true → stands (f by) n ≡ true
    → stands (f x ++ flat_map f xs) n ≡ true
flat_has_by f true x by n xs e i h k =
    list_any-append (λ m. nat_eq n.0 m.0) (f x) (flat_map f xs) ∙ first (stands (f x) n) (stands (flat_map f xs) n) (ap (λ y. stands (f y) n) (sym (node_same by x e)) ∙ k)
  where
    first : (x y : Bool) → x ≡ true → (x || y) ≡ true
    first true y e = refl
    first false y e = absurd (cc)
flat_has_by f false x by n xs e i h k = list_any-append (λ m. nat_eq n.0 m.0) (f x) (flat_map f xs) ∙ second (stands (f x) n) (stands (flat_map f xs) n) (i h)
  where
    second : (x y : Bool) → y ≡ true → (x || y) ≡ true
    second true y e = refl
    second false y e = e

pub flat_has : (f : NodeId → List NodeId) (xs : List NodeId) (by n : NodeId) → stands xs by ≡ true → stands (f by) n ≡ true → stands (flat_map f xs) n ≡ true
flat_has f [] by n h k = absurd (cc)
flat_has f (x ∷ xs) by n h k = flat_has_by f (nat_eq by.0 x.0) x by n xs refl (λ s. flat_has f xs by n s k) h k

within_or : (n m : ℕ) → (n < m) ⊎ (m ≤ n)
within_or n m = grind arith

-- where files include all that they did, each file that was reached is
module _ (sources out : List NodeId) (found now : List (NodeId × List NodeId)) (files after : List NodeId) (r : IsReach sources out found files) (s : IsReach sources out now after)
    (more : (x n : NodeId) → stands (included found x) n ≡ true → stands (included now x) n ≡ true) where
  in_sources : (p : ℕ) (n : NodeId) → slice_get files p ≡ Some n → p < length sources → stands after n ≡ true
  in_sources p n at lt =
      let l = put_all_longer out sources (flat_map (included found) files) in
      let k = put_all_longer out sources (flat_map (included now) after) in
      let here : slice_get (sources ++ l.more) p ≡ Some n = sym (ap (λ y. slice_get y p) (r.whole ∙ l.is)) ∙ at in
      let there : stands sources n ≡ true = stands_at sources p n (sym (get-within sources l.more p lt) ∙ here) in
      ap (λ y. stands y n) s.whole ∙ stands_longer sources (put_all out sources (flat_map (included now) after)) n k there

  reached_before : (k p : ℕ) (n : NodeId) → p < k → slice_get files p ≡ Some n → stands after n ≡ true
  reached_before zero p n lt at = absurd (omega arith)
  reached_before (suc k) p n lt at = by (within_or p (length sources)) (λ q m l e. reached_before k q m l e)
    where
      by : (p < length sources) ⊎ (length sources ≤ p) → ((q : ℕ) (m : NodeId) → q < k → slice_get files q ≡ Some m → stands after m ≡ true) → stands after n ≡ true
      by (inl l) f = in_sources p n at l
      by (inr le) f =
          let e = r.earlier p n at le in
          let there = f e.place e.by (let l = e.before in omega arith) e.at in
          let in_flat = flat_has (included now) after e.by n there (more e.by n e.includes) in
          let not_out = put_all_not_out out sources (flat_map (included found) files) n p le (sym (ap (λ y. slice_get y p) r.whole) ∙ at) in
          ap (λ y. stands y n) s.whole
          ∙ ⊎_elim (λ o. absurd (true_false (stands out n) o not_out)) (λ h. h) (put_all_in out sources (flat_map (included now) after) n in_flat)

  pub reached_still : (n : NodeId) (p : ℕ) → slice_get files p ≡ Some n → stands after n ≡ true
  reached_still n p at = reached_before (suc p) p n (omega arith) at

-- a file that wasn't scanned includes more now, and the others what they did
pub found_more : (found : List (NodeId × List NodeId)) (file : NodeId) (inc : List NodeId) → is_scanned found file ≡ false → (x n : NodeId) → stands (included found x) n ≡ true → stands (included (with_found found file inc) x) n ≡ true
found_more found file inc un x n h = by (nat_eq x.0 file.0) refl
  where
    by : (b : Bool) → nat_eq x.0 file.0 ≡ b → stands (included (with_found found file inc) x) n ≡ true
    by true e = let none : stands [] n ≡ true = sym (ap (λ y. stands y n) (ap (included found) (node_same x file e) ∙ included_none found file un)) ∙ h in absurd (let no : false ≡ true = none in cc)
    by false e = ap (λ y. stands y n) (included_other found file x inc e) ∙ h
