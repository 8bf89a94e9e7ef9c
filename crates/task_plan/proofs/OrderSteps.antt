-- The queue keeps to the build order through each event.
use Rattle.std.proofs.Common.{◌≡◌, ◌≢◌, ◌∙◌, ◌⊎◌, inl, inr, ⊎_elim, ℕ, List, [], ◌++◌, Bool, true, false, ap, sym, refl, subst, append-nil, get_or, Option, Some, None}
use Rattle.std.specs.Prelude.{slice_get, map, if◌then◌else◌, MatchOption, IfSome, IfNone}
use Rattle.std.specs.List.{list_all, flat_map}
use Rattle.std.specs.Option.{option_and_then}
use Rattle.std.proofs.lemmas.Option.{same_Some, none-some, slice_get_within}
use Rattle.std.specs.declared.alloc.Global.{Global}
use Rattle.std.specs.declared.vec.Vec.{Vec}
use Rattle.scons_base.specs.declared.ids.NodeId.{NodeId}
use Rattle.scons_base.specs.declared.ids.RuleId.{RuleId}
use Rattle.rule_graph.specs.Graphs.{RuleGraph}
use Rattle.task_plan.specs.States.{state_of}
use Rattle.task_plan.specs.Queues.{Queued, is_open}
use Rattle.task_plan.specs.Named.{stands, put_all}
use Rattle.task_plan.specs.Settled.{Kept, next_of, is_scanned}
use Rattle.task_plan.specs.Listed.{included, IsReach}
use Rattle.task_plan.specs.Tracked.{AreTracked}
use Rattle.task_plan.specs.Plans.{Planned, Stays, CanDecide, Goes, is_scan, wanted}
use Rattle.task_plan.specs.Met.{is_met, are_met, AreFrom, AllMet, FindsBy}
use Rattle.task_plan.specs.Admits.{Fits, AllFollow, Follows, Admits, StaysAt, ComesAt, IsUnchanged, NotesFile, NotesNone, ScansFile, Scans, Knows, none}
use Rattle.task_plan.specs.Orders.{needed_of, IsOrder}
use Rattle.task_plan.specs.Rooted.{news_in}
use Rattle.task_plan.specs.Ordered.{left, GrowsInOrder, KeepsDeps, KeepsOrder, LeavesQueue, PutsInOrder, ScansOrder, TakesBy, TakesFiles, TakesOrder}
use Rattle.task_plan.specs.declared.states.RuleState.{RuleState}
use Rattle.task_plan.specs.declared.states.RuleState.TheVariants.{Unneeded, Waiting}
use Rattle.task_plan.specs.declared.files.Origin.{Origin}
use Rattle.task_plan.specs.declared.task.Task.{Task}
use Rattle.task_plan.specs.declared.want.PlanEvent.{PlanEvent}
use Rattle.task_plan.specs.declared.want.PlanEvent.TheVariants.{Scanned, Fresh, Started, DoneOk, DoneFailed, Absent, Halt}
use Rattle.std.proofs.lemmas.List.Folds.{list_all-append}
use Rattle.task_plan.proofs.ListLemmas.{and_both}
use Rattle.task_plan.proofs.PlanLemmas.{true_false}
use Rattle.task_plan.proofs.WalkLemmas.{included_this}
use Rattle.task_plan.proofs.NextLemmas.{place_of_stands}
use Rattle.task_plan.proofs.RootLemmas.{news_put}
use Rattle.task_plan.proofs.ReachedLemmas.{none_among}
use Rattle.task_plan.proofs.NamedLemmas.{put_all_longer, stands_longer}
use Rattle.task_plan.proofs.MetNeeds.{all_put_all, all_stands, all_each, stands_at, put_all_in, put_all_has}
use Rattle.task_plan.proofs.WantLemmas.{planned, kept_scanned, next_at}
use Rattle.task_plan.proofs.StandLemmas.{kept_is}
use Rattle.task_plan.proofs.KeepingLemmas.{event_keeps}
use Rattle.task_plan.proofs.ScanLemmas.{HasTasks, scans_others, scan_keeps, takes_then}
use Rattle.task_plan.proofs.OrderGrows.{needs_kept, flat_has, reached_still, found_more}
use Rattle.task_plan.proofs.LeaveLemmas.{leaves_same}

pub scans_same : (a : Planned) (rule : ℕ) → ScansOrder a a rule
scans_same a rule = record {
  queue = leaves_same a;
  states = λ ok r. refl;
  needs = λ ok. record { more = []; is = sym (append-nil (left a.states (needed_of a.rules a.origins rule))); before = λ r h. none_among r h; still = λ r h. none_among r h };
}

pub takes_same : (a : Planned) (rule : ℕ) → TakesOrder a a rule
takes_same a rule = record { roots = refl; order = inl (scans_same a rule) }

-- and then nothing further may be done
pub takes_halted : (a b c : Planned) (rule : ℕ) → c ≡ record b { halted = c.halted } → TakesOrder a b rule → TakesOrder a c rule
takes_halted a b c rule e t = subst (λ x. TakesOrder a x rule) (sym e) (record { roots = t.roots; order = by t.order })
  where
    by : ScansOrder a b rule ⊎ IsOrder b.rules b.origins b.notes.roots b.queue.order → ScansOrder a (record b { halted = c.halted }) rule ⊎ IsOrder b.rules b.origins b.notes.roots b.queue.order
    by (inl s) = inl (record { queue = record { order = s.queue.order; roots = s.queue.roots; fits = s.queue.fits }; states = s.states; needs = λ ok. let n = s.needs ok in record { more = n.more; is = n.is; before = n.before; still = n.still } })
    by (inr o) = inr o

pub deps_halted : (a b c : Planned) (rule : ℕ) → c ≡ record b { halted = c.halted } → KeepsDeps a c rule → KeepsDeps a b rule
deps_halted a b c rule e k = record { met = k.met; stays = λ before after was is. k.stays before after was (ap (λ (x : Planned). slice_get x.rules rule) e ∙ is) }

-- what is known of a needed rule stays where rules are admitted
kept_on : (graph : RuleGraph) (b c : Planned) (rule : ℕ) → Admits graph b c none [] → state_of b.states rule ≢ Unneeded → (kept : Kept) → slice_get b.rules rule ≡ Some kept → slice_get c.rules rule ≡ Some kept
kept_on graph b c rule k n kept at = by (k.each rule)
  where
    by : StaysAt b c none [] rule ⊎ ComesAt graph b c none [] rule → slice_get c.rules rule ≡ Some kept
    by (inl s) = s.same.kept kept at
    by (inr m) = from m.from
      where
        from : (state_of b.states rule ≡ Unneeded) ⊎ (none rule ≡ true) → slice_get c.rules rule ≡ Some kept
        from (inl u) = absurd (n u)
        from (inr h) = let bad : false ≡ true = h in absurd (cc)

deps_back : (a c d : Planned) (rule : ℕ) → d.rules ≡ c.rules → KeepsDeps a d rule → KeepsDeps a c rule
deps_back a c d rule e k = record { met = k.met; stays = λ before after was is. k.stays before after was (ap (λ x. slice_get x rule) e ∙ is) }

waiting_needed : (s : RuleState) → s ≡ Waiting → s ≢ Unneeded
waiting_needed s e u = let bad : Waiting ≡ Unneeded = sym e ∙ u in absurd (cc)

-- a scan was noted, then new files were met, and then the order was seen to
pub noted_order : {X : Type 0} (in_order : X → Bool) (news : X → List NodeId) (graph : RuleGraph) (a b c d : Planned) (rule : ℕ) (inc : List NodeId) (o : Option X) → b.states ≡ a.states → b.origins ≡ a.origins
    → MatchOption o (NotesNone a b rule) (λ _. NotesFile a b rule inc) → IfNone o (b ≡ a) → IfSome o (λ g. TakesFiles a b rule (in_order g) (news g)) → MatchOption o (c ≡ b) (λ _. Admits graph b c none [])
    → IfSome o (λ g. GrowsInOrder b c rule (in_order g) (news g)) → Stays c d → PutsInOrder c d → KeepsDeps a d rule → TakesOrder a d rule
noted_order in_order news graph a b c d rule inc None states origins notes same files admits grows s p k =
    takes_then a c d rule (subst (λ x. ScansOrder a x rule) (sym (admits ∙ same)) (scans_same a rule)) s.states s.rules s.origins p
noted_order in_order news graph a b c d rule inc (Some g) states origins notes same files admits grows s p k =
    let needed = waiting_needed (state_of a.states rule) notes.waits in
    let on = kept_on graph b c rule admits (λ u. needed (sym (ap (λ x. state_of x rule) states) ∙ u)) in
    takes_then a c d rule (needs_kept a b c rule (in_order g) (news g) states origins files grows on notes.waits (deps_back a c d rule s.rules k)) s.states s.rules s.origins p

-- the file that is wanted stands among the files of its rule and wasn't scanned, and the rule waits
pub record IsUnscanned (p : Planned) (rule : ℕ) : Type 0 where
  pub waits : (file : NodeId) → wanted p rule ≡ Some file → state_of p.states rule ≡ Waiting
  pub not : (file : NodeId) (kept : Kept) → wanted p rule ≡ Some file → slice_get p.rules rule ≡ Some kept → is_scanned kept.found file ≡ false
  pub among : (file : NodeId) (kept : Kept) → wanted p rule ≡ Some file → slice_get p.rules rule ≡ Some kept → stands kept.files file ≡ true

marked_by : (b : Bool) (o : Option (Option NodeId)) (file : NodeId) → (if b then option_and_then (λ f. f) o else None) ≡ Some file → b ≡ true
marked_by true o file e = refl
marked_by false o file e = absurd (none-some file e)

wanted_next : (b : Bool) (o : Option (Option NodeId)) (next : Option NodeId) (file : NodeId) → o ≡ Some next → (if b then option_and_then (λ f. f) o else None) ≡ Some file → next ≡ Some file
wanted_next true o next file e h = sym (ap (option_and_then (λ f. f)) e) ∙ h
wanted_next false o next file e h = absurd (none-some file h)

pub is_unscanned : (a : List RuleState) (q : Queued) (h : Bool) (ts : List Task) (o : List Origin) (m : List Bool) (ws : List (Vec RuleId Global)) (b : Bool) (rs : List RuleId) (r : ℕ) → AreTracked a q ts o m → IsUnscanned (planned a q h ts o m ws b rs) r
is_unscanned a q h ts o m ws b rs r t = record {
  waits = λ file e. (t.marked r (marked_by (get_or m r false) (slice_get (map next_of ts) r) file e)).waits;
  not = λ file kept e at.
      let k = t.marked r (marked_by (get_or m r false) (slice_get (map next_of ts) r) file e) in
      let next = wanted_next (get_or m r false) (slice_get (map next_of ts) r) (next_of k.task) file (next_at ts r k.task k.at) e in
      let same : k.file ≡ file = same_Some k.file file (sym k.next ∙ next) in
      let is = kept_is ts r k.task kept k.at at in
      ap (λ (x : Kept). is_scanned x.found file) is ∙ kept_scanned k.task file ∙ ap (is_scanned k.task.reach.found.entries) (sym same) ∙ k.can.unscanned;
  among = λ file kept e at.
      let k = t.marked r (marked_by (get_or m r false) (slice_get (map next_of ts) r) file e) in
      let next : slice_get k.task.reach.files.keys k.task.reach.next ≡ Some file = wanted_next (get_or m r false) (slice_get (map next_of ts) r) (next_of k.task) file (next_at ts r k.task k.at) e in
      ap (λ (x : Kept). stands x.files file) (kept_is ts r k.task kept k.at at) ∙ stands_at k.task.reach.files.keys k.task.reach.next file next;
}

module _ (graph : RuleGraph) (a b : Planned) (rule : ℕ) (inc : List NodeId) (un : IsUnscanned a rule) (fits : Fits graph a) (met : AllMet a) (fa : AllFollow a) (fb : AllFollow b) where
  needs_met : state_of a.states rule ≢ Unneeded → (before : Kept) → slice_get a.rules rule ≡ Some before → are_met a.origins (before.required ++ before.deps) ≡ true
  needs_met n before at =
      let k = met.each rule before n at in
      list_all-append (λ x. is_met a.origins x) before.required before.deps ∙ and_both (are_met a.origins before.required) (are_met a.origins before.deps) k.required k.deps

  module _ (file : NodeId) (w : wanted a rule ≡ Some file) (s : ScansFile graph a b rule file inc) where
    abbrev before : Kept
    before = s.this.before

    abbrev after : Kept
    after = s.this.after

    needed : state_of a.states rule ≢ Unneeded
    needed = waiting_needed (state_of a.states rule) (un.waits file w)

    whole : before.whole ≡ true
    whole = let k = fits rule needed in ap (λ (x : Kept). x.whole) (same_Some before k.kept (sym s.this.was ∙ k.is)) ∙ k.whole

    follows : Follows before
    follows = fa rule before s.this.was whole

    after_follows : Follows after
    after_follows = fb rule after s.this.is s.this.whole

    reach : IsReach before.sources before.left_out after.found after.files
    reach = subst (λ x. IsReach x before.left_out after.found after.files) s.this.sources (subst (λ x. IsReach after.sources x after.found after.files) s.this.left_out after_follows.files)

    more : (x n : NodeId) → stands (included before.found x) n ≡ true → stands (included after.found x) n ≡ true
    more x n h = ap (λ f. stands (included f x) n) s.this.found ∙ found_more before.found file inc (un.not file before w s.this.was) x n h

    named_there : (n : NodeId) → stands after.named n ≡ true → stands after.deps n ≡ true
    named_there n h = ap (λ x. stands x n) after_follows.deps ∙ stands_longer after.named (put_all [] after.named after.files) n (put_all_longer [] after.named after.files) h

    file_there : (n : NodeId) → stands after.files n ≡ true → stands after.deps n ≡ true
    file_there n h = ap (λ x. stands x n) after_follows.deps ∙ put_all_has after.named after.files n h

    all_there : list_all (λ n. stands after.deps n) before.deps ≡ true
    all_there =
        ap (list_all (λ n. stands after.deps n)) follows.deps
        ∙ all_put_all (λ n. stands after.deps n) [] before.named before.files
        (all_each (λ n. stands after.deps n) before.named (λ i n at. named_there n (ap (λ x. stands x n) s.this.named ∙ stands_at before.named i n at)))
        (all_each (λ n. stands after.deps n) before.files (λ i n at. file_there n (reached_still before.sources before.left_out before.found after.found before.files after.files follows.files reach more n i at)))

    -- the new files are dependencies
    pub news_there : (n : NodeId) → stands (news_in (slice_get a.rules rule) inc) n ≡ true → stands after.deps n ≡ true
    news_there n h =
        let k = news_put before.left_out before.files inc n (ap (λ o. stands (news_in o inc) n) (sym s.this.was) ∙ h) in
        let includes : stands (included after.found file) n ≡ true = ap (λ f. stands (included f file) n) s.this.found ∙ ap (λ xs. stands xs n) (included_this before.found file inc) ∙ k.includes in
        let place = place_of_stands before.files file (un.among file before w s.this.was) in
        let still = reached_still before.sources before.left_out before.found after.found before.files after.files follows.files reach more file place.0 place.1 in
        let put = put_all_in before.left_out before.sources (flat_map (included after.found) after.files) n (flat_has (included after.found) after.files file n still includes) in
        file_there n (ap (λ xs. stands xs n) reach.whole ∙ ⊎_elim (λ o. absurd (true_false (stands before.left_out n) o k.not_out)) (λ i. i) put)

    deps_stay : (x y : Kept) → slice_get a.rules rule ≡ Some x → slice_get b.rules rule ≡ Some y → (n : NodeId) → stands x.deps n ≡ true → stands y.deps n ≡ true
    deps_stay x y was is n h =
        let one : before ≡ x = same_Some before x (sym s.this.was ∙ was) in
        let two : after ≡ y = same_Some after y (sym s.this.is ∙ is) in
        ap (λ (k : Kept). stands k.deps n) (sym two) ∙ all_stands (λ m. stands after.deps m) before.deps n all_there (ap (λ (k : Kept). stands k.deps n) one ∙ h)

  keeps_deps_by : (o : Option NodeId) → wanted a rule ≡ o → MatchOption o (IsUnchanged a b) (λ file. ScansFile graph a b rule file inc) → KeepsDeps a b rule
  keeps_deps_by None w k = record {
    met = needs_met;
    stays = λ x y was is n h. let same : x ≡ y = same_Some x y (sym was ∙ (sym (ap (λ r. slice_get r rule) k.rules) ∙ is)) in ap (λ (z : Kept). stands z.deps n) (sym same) ∙ h;
  }
  keeps_deps_by (Some file) w s = record { met = needs_met; stays = deps_stay file w s }

  -- a scanned rule depends on all that it depended on
  pub keeps_deps : Scans graph a rule inc b → KeepsDeps a b rule
  keeps_deps s = keeps_deps_by (wanted a rule) refl s

has_tasks : (graph : RuleGraph) (p : Planned) → Fits graph p → HasTasks p
has_tasks graph p f = record { each = λ r n. let k = f r n in slice_get_within p.rules r k.kept k.is }

waits_or : (p : Planned) (rule : ℕ) → IsUnscanned p rule → (o : Option NodeId) → wanted p rule ≡ o → (state_of p.states rule ≡ Waiting) ⊎ (wanted p rule ≡ None)
waits_or p rule u None e = inr e
waits_or p rule u (Some file) e = inl (u.waits file e)

-- an event that was taken in
pub order_step : (graph : RuleGraph) (a b : Planned) (event : PlanEvent) → Goes a event b.states → Knows graph a event b → FindsBy graph a event b → AreFrom graph a → AreFrom graph b → Fits graph a → Fits graph b → AllMet a → AllFollow a → AllFollow b
    → ((r : ℕ) → IsUnscanned a r) → ((r : ℕ) → is_open a.queue r ≡ true → CanDecide a r) → (is_scan event ≡ false → LeavesQueue a b) → TakesBy a event b → KeepsOrder a → KeepsOrder b
order_step graph a b (Scanned rule found) g k d from later fits now met fa fb un can l t o =
    scan_keeps graph a b rule.0 from later (has_tasks graph a fits) (has_tasks graph b now) met g d.keeps.met (scans_others graph a b rule.0 found (waits_or a rule.0 (un rule.0) (wanted a rule.0) refl) k) o
    (t (keeps_deps graph a b rule.0 found (un rule.0) fits met fa fb k))
order_step graph a b (Fresh rule) g k d from later fits now met fa fb un can l t o = event_keeps a (Fresh rule) b refl g k d (l refl) can o
order_step graph a b (Started rule) g k d from later fits now met fa fb un can l t o = event_keeps a (Started rule) b refl g k d (l refl) can o
order_step graph a b (DoneOk rule) g k d from later fits now met fa fb un can l t o = event_keeps a (DoneOk rule) b refl g k d (l refl) can o
order_step graph a b (DoneFailed rule) g k d from later fits now met fa fb un can l t o = event_keeps a (DoneFailed rule) b refl g k d (l refl) can o
order_step graph a b (Absent rule node) g k d from later fits now met fa fb un can l t o = event_keeps a (Absent rule node) b refl g k d (l refl) can o
order_step graph a b Halt g k d from later fits now met fa fb un can l t o = event_keeps a Halt b refl g k d (l refl) can o
