-- The needed rules are those that are reached, from the beginning on and through each event.
use Rattle.std.proofs.Common.{◌≡◌, ◌≢◌, ◌∙◌, ◌⊎◌, inl, inr, ⊎_elim, ℕ, List, [], ◌++◌, Bool, true, false, ◌||◌, Option, Some, None, ap, sym, refl, subst, length, drop}
use Rattle.std.specs.Prelude.{slice_get, nat_eq, MatchOption, IfSome, IfNone}
use Rattle.std.proofs.Math.Seq.{drop-append_seam}
use Rattle.std.proofs.lemmas.Option.{same_Some}
use Rattle.std.proofs.lemmas.List.Folds.{list_any-append}
use Rattle.scons_base.specs.declared.ids.NodeId.{NodeId}
use Rattle.rule_graph.specs.Graphs.{RuleGraph}
use Rattle.rule_graph.specs.declared.rule.Rule.{Rule}
use Rattle.rule_graph.specs.Rules.{rule_of}
use Rattle.task_plan.specs.States.{state_of}
use Rattle.task_plan.specs.Queues.{is_open}
use Rattle.task_plan.specs.Named.{stands, named_of}
use Rattle.task_plan.specs.Settled.{Kept, origin_of}
use Rattle.task_plan.specs.Plans.{Planned, AreWaiting, Stays, Goes, GoesOn, is_scan, wanted}
use Rattle.task_plan.specs.Met.{is_met, is_met_from, needs_in, needs_at, AreFrom, AllMet, AreNews, Finds, FindsBy, IsAskedFor}
use Rattle.task_plan.specs.Admits.{Fits, AllFollow, IsUnchanged, ScansFile, Knows, Widens, Admits, none}
use Rattle.task_plan.specs.Orders.{is_among, needed_of, IsReached, is_root, is_needed}
use Rattle.task_plan.specs.Ordered.{GrowsInOrder, KeepsDeps, MeetsRoots, PutsInOrder, TakesFiles}
use Rattle.task_plan.specs.Rooted.{makers_in, AreReached, IsSoughtBy, AreSought, KeepsSought, IsNeededFor, NeedsNoOthers, news_in, news_of}
use Rattle.task_plan.specs.declared.states.RuleState.TheVariants.{Unneeded, Waiting, Running, Settled, Failed, Lacking}
use Rattle.task_plan.specs.declared.want.PlanEvent.{PlanEvent}
use Rattle.task_plan.specs.declared.want.PlanEvent.TheVariants.{Scanned, Fresh, Started, DoneOk, DoneFailed, Absent, Halt}
use Rattle.task_plan.proofs.MarkLemmas.{apart}
use Rattle.task_plan.proofs.MetLemmas.{AreNeededStill, still_each, finds_none}
use Rattle.task_plan.proofs.AdmitLemmas.{knows_first, unneeded_or}
use Rattle.task_plan.proofs.MetNeeds.{all_met_first, from_nothing, needed_back_decided, needed_back_ended, still_on}
use Rattle.task_plan.proofs.WatchScans.{first_or, second_or, stands_split}
use Rattle.task_plan.proofs.ScanLemmas.{origin_same}
use Rattle.task_plan.proofs.BeginLemmas.{roots_needed, roots_nothing}
use Rattle.task_plan.proofs.OrderSteps.{IsUnscanned, keeps_deps, news_there}
use Rattle.task_plan.proofs.OtherLemmas.{files_same}
use Rattle.task_plan.proofs.RootLemmas.{HasNeeds, NeedsStill, in_makers, reached_only, reached_on, has_first, has_known, needs_made, asked_reached}

-- where no state changes no rule comes to be needed
pub others_none : (g : RuleGraph) (a b : Planned) (nodes : List NodeId) → b.states ≡ a.states → b.origins ≡ a.origins → NeedsNoOthers g a b nodes
others_none g a b nodes e o = record { each = λ r u ne. absurd (ne (ap (λ s. state_of s r) e ∙ u)); files = files_same g a b nodes o }

-- nor does one by an event that is no scan; by a scan those that its new files ask for
pub others_by : (g : RuleGraph) (a b : Planned) (event : PlanEvent) → AreWaiting a.states a.queue → Goes a event b.states → FindsBy g a event b → (is_scan event ≡ true → NeedsNoOthers g a b (news_of a event)) → NeedsNoOthers g a b (news_of a event)
others_by g a b (Scanned rule found) w s o k = k refl
others_by g a b (Fresh rule) w s o k = record { each = λ r u ne. absurd (needed_back_decided g a b.states rule.0 r Settled (is_open a.queue rule.0) w refl s ne u); files = files_same g a b [] o }
others_by g a b (Started rule) w s o k = record { each = λ r u ne. absurd (needed_back_decided g a b.states rule.0 r Running (is_open a.queue rule.0) w refl s ne u); files = files_same g a b [] o }
others_by g a b (DoneOk rule) w s o k = record { each = λ r u ne. absurd (needed_back_ended g a b.states rule.0 r Settled _ refl s ne u); files = files_same g a b [] o }
others_by g a b (DoneFailed rule) w s o k = record { each = λ r u ne. absurd (needed_back_ended g a b.states rule.0 r Failed _ refl s ne u); files = files_same g a b [] o }
others_by g a b (Absent rule node) w s o k = record { each = λ r u ne. absurd (needed_back_decided g a b.states rule.0 r Lacking (is_open a.queue rule.0) w refl s ne u); files = files_same g a b [] o }
others_by g a b Halt w s o k = others_none g a b [] s o

-- A scan was noted, then new files were met, and then the order was seen to: the rules that came to be needed are asked for by the new files.
pub noted_others : {X : Type 0} (P : X → Type 0) (news : X → List NodeId) (g : RuleGraph) (a b c d : Planned) (rule : ℕ) (inc : List NodeId) (o : Option X) → b.states ≡ a.states → b.origins ≡ a.origins
    → IfSome o (λ x. AreNews a rule inc (news x)) → MatchOption o (c ≡ b) P → IfSome o (λ x. NeedsNoOthers g b c (news x)) → Stays c d → NeedsNoOthers g a d (news_in (slice_get a.rules rule) inc)
noted_others P news g a b c d rule inc None states origins w same k s =
    others_none g a d (news_in (slice_get a.rules rule) inc) (s.states ∙ ap (λ x. x.states) same ∙ states) (s.origins ∙ ap (λ x. x.origins) same ∙ origins)
noted_others P news g a b c d rule inc (Some x) states origins w taken k s =
    let is : news_in (slice_get a.rules rule) inc ≡ news x = ap (λ o. news_in o inc) w.at ∙ ap (drop (length w.kept.files)) w.is ∙ drop-append_seam w.kept.files (news x) in
    record {
      each = λ r u ne. subst (λ l. IsAskedFor g l r) (sym is) (k.each r (ap (λ y. state_of y r) states ∙ u) (λ v. ne (ap (λ y. state_of y r) s.states ∙ v)));
      files = record {
        met = λ n h. ⊎_elim (λ before. inl (ap (λ y. is_met y n) (sym origins) ∙ before))
            (λ new. inr (subst (λ l. (stands l n ≡ true) ⊎ IsNeededFor g l n) (sym is) new))
            (k.files.met n (ap (λ y. is_met y n) (sym s.origins) ∙ h));
      };
    }

-- and the roots stay
pub noted_roots : {X : Type 0} (P : X → Type 0) (in_order : X → Bool) (news : X → List NodeId) (a b c d : Planned) (rule : ℕ) (o : Option X) → IfNone o (b ≡ a) → IfSome o (λ x. TakesFiles a b rule (in_order x) (news x)) → MatchOption o (c ≡ b) P
    → IfSome o (λ x. GrowsInOrder b c rule (in_order x) (news x)) → PutsInOrder c d → d.notes.roots ≡ a.notes.roots
noted_roots P in_order news a b c d rule None same files taken grows p = p.roots ∙ ap (λ x. x.notes.roots) (taken ∙ same)
noted_roots P in_order news a b c d rule (Some x) same files taken grows p = p.roots ∙ grows.leaves.queue.roots ∙ files.leaves.roots

-- the needed rules are those that are reached, and each file that was met is for one of them still
pub record StaysReached (old new : Planned) : Type 0 where
  pub reached : AreReached new
  pub sought : KeepsSought old new

-- a needed rule needs what the graph says
sought_in : (p : Planned) (rule : ℕ) (of : Rule) (n : NodeId) → state_of p.states rule ≢ Unneeded → HasNeeds p rule of → stands (of.required ++ named_of of) n ≡ true → IsSoughtBy p n
sought_in p rule of n ne k s = record { rule = rule; needed = ne; needs = ap (λ o. stands (needs_in o) n) k.at ∙ k.needs n s }

-- What a rule needed it needs, and the rules that came to be needed are asked for by nodes whose rules are needed by one that was.
module _ (g : RuleGraph) (a b : Planned) (from : AreFrom g a) (later : AreFrom g b) (now : Fits g b) (all : AllMet b) (follow : AllFollow b) (on : AreNeededStill a b) (met : (n : NodeId) → is_met a.origins n ≡ true → is_met b.origins n ≡ true)
    (roots : b.notes.roots ≡ a.notes.roots) (k : AreReached a) (needs : (r : ℕ) (before : Kept) → state_of a.states r ≢ Unneeded → slice_get a.rules r ≡ Some before → NeedsStill a b r before) where
  still : (r : ℕ) → IsReached (needed_of a.rules a.origins) a.notes.roots r → IsReached (needed_of b.rules b.origins) b.notes.roots r
  still r i = reached_on a b k roots (origin_same g a b from later met) needs r i

  -- a file that a rule needed is needed by it
  sought_still : (n : NodeId) → IsSoughtBy a n → IsSoughtBy b n
  sought_still n k = by (slice_get a.rules k.rule) refl k.needs
    where
      by : (o : Option Kept) → slice_get a.rules k.rule ≡ o → stands (needs_in o) n ≡ true → IsSoughtBy b n
      by None e s = absurd (let no : false ≡ true = s in cc)
      by (Some before) e s =
          let m = needs k.rule before k.needed e in
          record { rule = k.rule; needed = on.still k.rule k.needed; needs = ap (λ o. stands (needs_in o) n) m.is ∙ m.stays n s }

  only : (r : ℕ) → IsReached (needed_of b.rules b.origins) b.notes.roots r → state_of b.states r ≢ Unneeded
  only r i = reached_only g b later (λ x h. on.still x (k.only x (is_root (ap (is_among x) (sym roots) ∙ h)))) r i

  reached_then : (nodes : List NodeId) → NeedsNoOthers g a b nodes
      → ((r : ℕ) (n : NodeId) → stands nodes n ≡ true → rule_of g.rules n.0 ≡ Some r → (other : ℕ) × (state_of a.states other ≢ Unneeded) × (is_among r (needed_of b.rules b.origins other) ≡ true))
      → ((n : NodeId) → stands nodes n ≡ true → IsSoughtBy b n) → StaysReached a b
  reached_then nodes others by news = record { reached = record { each = λ r ne. reached r ne (unneeded_or g (state_of a.states r)); only = only }; sought = record { each = λ requested s. record { each = λ n h. sought requested s n (others.files.met n h) } } }
    where
      base : (r : ℕ) (n : NodeId) → stands nodes n ≡ true → rule_of g.rules n.0 ≡ Some r → IsReached (needed_of b.rules b.origins) b.notes.roots r
      base r n s e = let o = by r n s e in is_needed o.0 (still o.0 (k.each o.0 o.1)) o.2

      asked : (r : ℕ) → IsAskedFor g nodes r → IsReached (needed_of b.rules b.origins) b.notes.roots r
      asked r i = asked_reached g b nodes later all only (λ rule of n at. has_known g b rule of now follow n at) base r i

      reached : (r : ℕ) → state_of b.states r ≢ Unneeded → (state_of a.states r ≡ Unneeded) ⊎ (state_of a.states r ≢ Unneeded) → IsReached (needed_of b.rules b.origins) b.notes.roots r
      reached r ne (inr n) = still r (k.each r n)
      reached r ne (inl u) = asked r (others.each r u ne)

      sought : (requested : List NodeId) → AreSought requested a → (n : NodeId) → (is_met a.origins n ≡ true) ⊎ ((stands nodes n ≡ true) ⊎ IsNeededFor g nodes n) → (stands requested n ≡ true) ⊎ IsSoughtBy b n
      sought requested s n (inl before) = ⊎_elim (λ m. inl m) (λ by. inr (sought_still n by)) (s.each n before)
      sought requested s n (inr (inl m)) = inr (news n m)
      sought requested s n (inr (inr m)) = let ne = only m.rule (asked m.rule m.asked) in inr (sought_in b m.rule m.of n ne (has_known g b m.rule m.of now follow ne m.at) m.needs)

-- nothing further is known, and no rule comes to be needed
reached_quiet : (g : RuleGraph) (a b : Planned) → AreFrom g a → AreFrom g b → Fits g b → AllMet b → AllFollow b → AreNeededStill a b → ((n : NodeId) → is_met a.origins n ≡ true → is_met b.origins n ≡ true) → b.rules ≡ a.rules
    → b.notes.roots ≡ a.notes.roots → NeedsNoOthers g a b [] → AreReached a → StaysReached a b
reached_quiet g a b from later now all follow on met rules roots others k =
    reached_then g a b from later now all follow on met roots k (λ r before n at. record { after = before; is = ap (λ x. slice_get x r) rules ∙ at; stays = λ n h. h }) [] others
    (λ r n s e. absurd (let no : false ≡ true = s in cc))
    (λ n s. absurd (let no : false ≡ true = s in cc))

-- a wanted file was scanned
module _ (g : RuleGraph) (a b : Planned) (rule : ℕ) (inc : List NodeId) (un : IsUnscanned a rule) (from : AreFrom g a) (later : AreFrom g b) (fits : Fits g a) (now : Fits g b) (before_met : AllMet a) (all : AllMet b) (fa : AllFollow a) (fb : AllFollow b)
    (on : AreNeededStill a b) (met : (n : NodeId) → is_met a.origins n ≡ true → is_met b.origins n ≡ true) (roots : b.notes.roots ≡ a.notes.roots) (same : wanted a rule ≡ None → b.origins ≡ a.origins) (others : NeedsNoOthers g a b (news_in (slice_get a.rules rule) inc)) (k : AreReached a) where
  module _ (file : NodeId) (w : wanted a rule ≡ Some file) (s : ScansFile g a b rule file inc) (d : KeepsDeps a b rule) where
    needed : state_of a.states rule ≢ Unneeded
    needed u = let no : Waiting ≡ Unneeded = sym (un.waits file w) ∙ u in absurd (cc)

    this_stays : (n : NodeId) → (stands s.this.before.required n ≡ true) ⊎ (stands s.this.before.deps n ≡ true) → (stands s.this.after.required n || stands s.this.after.deps n) ≡ true
    this_stays n (inl h) = first_or (stands s.this.after.required n) (stands s.this.after.deps n) (ap (λ xs. stands xs n) s.this.required ∙ h)
    this_stays n (inr h) = second_or (stands s.this.after.required n) (stands s.this.after.deps n) (d.stays s.this.before s.this.after s.this.was s.this.is n h)

    this_needs : NeedsStill a b rule s.this.before
    this_needs = record {
      after = s.this.after;
      is = s.this.is;
      stays = λ n h. list_any-append (λ m. nat_eq n.0 m.0) s.this.after.required s.this.after.deps ∙ this_stays n (stands_split s.this.before.required s.this.before.deps n h);
    }

    needs_by : (r : ℕ) (x : Kept) → state_of a.states r ≢ Unneeded → slice_get a.rules r ≡ Some x → (r ≡ rule) ⊎ (r ≢ rule) → NeedsStill a b r x
    needs_by r x ne at (inl same) =
        let here : slice_get a.rules rule ≡ Some x = ap (slice_get a.rules) (sym same) ∙ at in
        subst (λ (y : ℕ). NeedsStill a b y x) (sym same) (subst (NeedsStill a b rule) (same_Some s.this.before x (sym s.this.was ∙ here)) this_needs)
    needs_by r x ne at (inr other) = record { after = x; is = s.others r x other ne at; stays = λ n h. h }

    among_needs : (n : NodeId) → stands (news_in (slice_get a.rules rule) inc) n ≡ true → stands (s.this.after.required ++ s.this.after.deps) n ≡ true
    among_needs n h =
        let dep = news_there g a b rule inc un fits before_met fa fb file w s n h in
        list_any-append (λ m. nat_eq n.0 m.0) s.this.after.required s.this.after.deps ∙ second_or (stands s.this.after.required n) (stands s.this.after.deps n) dep

    new_edge : (r : ℕ) (n : NodeId) → stands (news_in (slice_get a.rules rule) inc) n ≡ true → rule_of g.rules n.0 ≡ Some r → is_among r (needed_of b.rules b.origins rule) ≡ true
    new_edge r n h e = needs_made g b rule r s.this.after n later all (on.still rule needed) s.this.is (among_needs n h) e

    reached_file : StaysReached a b
    reached_file = reached_then g a b from later now all fb on met roots k (λ r x ne at. needs_by r x ne at (apart r rule)) (news_in (slice_get a.rules rule) inc) others (λ r n h e. (rule, needed, new_edge r n h e))
        (λ n h. record { rule = rule; needed = on.still rule needed; needs = ap (λ o. stands (needs_in o) n) s.this.is ∙ among_needs n h })

  reached_scan : (o : Option NodeId) → wanted a rule ≡ o → MatchOption o (IsUnchanged a b) (λ file. ScansFile g a b rule file inc) → KeepsDeps a b rule → StaysReached a b
  reached_scan None w s d = reached_quiet g a b from later now all fb on met s.rules roots (others_none g a b [] s.states (same w)) k
  reached_scan (Some file) w s d = reached_file file w s d

-- an event that was taken in
pub reached_step : (g : RuleGraph) (a b : Planned) (event : PlanEvent) → GoesOn a.states b.states → Knows g a event b → FindsBy g a event b → AreFrom g a → AreFrom g b → Fits g a → Fits g b → AllMet a → AllMet b → AllFollow a → AllFollow b
    → ((r : ℕ) → IsUnscanned a r) → b.notes.roots ≡ a.notes.roots → NeedsNoOthers g a b (news_of a event) → AreReached a → StaysReached a b
reached_step g a b (Scanned rule found) on k d from later fits now met all fa fb un roots others r =
    reached_scan g a b rule.0 found (un rule.0) from later fits now met all fa fb (still_on g a b on) d.keeps.met roots d.same others r (wanted a rule.0) refl k (keeps_deps g a b rule.0 found (un rule.0) fits met fa fb k)
reached_step g a b (Fresh rule) on k d from later fits now met all fa fb un roots others r = reached_quiet g a b from later now all fb (still_on g a b on) (λ n h. ap (λ x. is_met x n) d ∙ h) k roots others r
reached_step g a b (Started rule) on k d from later fits now met all fa fb un roots others r = reached_quiet g a b from later now all fb (still_on g a b on) (λ n h. ap (λ x. is_met x n) d ∙ h) k roots others r
reached_step g a b (DoneOk rule) on k d from later fits now met all fa fb un roots others r = reached_quiet g a b from later now all fb (still_on g a b on) (λ n h. ap (λ x. is_met x n) d ∙ h) k roots others r
reached_step g a b (DoneFailed rule) on k d from later fits now met all fa fb un roots others r = reached_quiet g a b from later now all fb (still_on g a b on) (λ n h. ap (λ x. is_met x n) d ∙ h) k roots others r
reached_step g a b (Absent rule node) on k d from later fits now met all fa fb un roots others r = reached_quiet g a b from later now all fb (still_on g a b on) (λ n h. ap (λ x. is_met x n) d ∙ h) k roots others r
reached_step g a b Halt on k d from later fits now met all fa fb un roots others r = reached_quiet g a b from later now all fb (still_on g a b on) (λ n h. ap (λ x. is_met x n) d ∙ h) k roots others r

-- the needed rules of a plan are those that are reached, and each file that it has met is requested or for one of them
pub record BeginsReached (plan : Planned) (requested : List NodeId) : Type 0 where
  pub reached : AreReached plan
  pub sought : AreSought requested plan

-- each file that was met is for something still, where neither states nor rules nor files change
pub sought_same : (a b : Planned) (requested : List NodeId) → b.states ≡ a.states → b.rules ≡ a.rules → b.origins ≡ a.origins → AreSought requested a → AreSought requested b
sought_same a b requested states rules origins k = record { each = λ n h. ⊎_elim (λ m. inl m) (λ by. inr (still n by)) (k.each n (ap (λ o. is_met o n) (sym origins) ∙ h)) }
  where
    still : (n : NodeId) → IsSoughtBy a n → IsSoughtBy b n
    still n by = record { rule = by.rule; needed = λ u. by.needed (ap (λ x. state_of x by.rule) (sym states) ∙ u); needs = ap (λ x. stands (needs_at x by.rule) n) rules ∙ by.needs }

-- a plan of nothing is given room, and then what is requested is met
pub begins_reached : (g : RuleGraph) (a b c : Planned) (nodes : List NodeId) → Widens a b → b.notes.roots ≡ a.notes.roots → Admits g b c none [] → Finds g b c nodes → MeetsRoots g b c → NeedsNoOthers g b c nodes
    → c.notes.roots ≡ b.notes.roots ++ makers_in g nodes → a.states ≡ [] → a.origins ≡ [] → a.notes.roots ≡ [] → BeginsReached c nodes
begins_reached g a b c nodes w same admits finds meets others is states origins roots = record {
  reached = record { each = λ r ne. asked r (others.each r (none_yet r) ne); only = only };
  sought = record { each = λ n h. sought n (others.files.met n h) };
}
  where
    none_yet : (r : ℕ) → state_of b.states r ≡ Unneeded
    none_yet r = (w.each r).state ∙ ap (λ s. state_of s r) states

    none_before : b.notes.roots ≡ []
    none_before = same ∙ roots

    from : AreFrom g c
    from = finds.from ((finds_none g a b (still_each a b (λ r. (w.each r).state)) w.origins).from (from_nothing g a origins))

    only : (r : ℕ) → IsReached (needed_of c.rules c.origins) c.notes.roots r → state_of c.states r ≢ Unneeded
    only r i = reached_only g c from (roots_needed g c from (meets.roots (roots_nothing g b none_before))) r i

    made : c.notes.roots ≡ makers_in g nodes
    made = is ∙ ap (λ l. l ++ makers_in g nodes) none_before

    base : (r : ℕ) (n : NodeId) → stands nodes n ≡ true → rule_of g.rules n.0 ≡ Some r → IsReached (needed_of c.rules c.origins) c.notes.roots r
    base r n s e = is_root (ap (is_among r) made ∙ in_makers g nodes n r s e)

    has : (rule : ℕ) (of : Rule) → state_of c.states rule ≢ Unneeded → slice_get g.rules rule ≡ Some of → HasNeeds c rule of
    has rule of ne at = has_first g c rule of (knows_first g b c none_yet admits rule ne) at

    asked : (r : ℕ) → IsAskedFor g nodes r → IsReached (needed_of c.rules c.origins) c.notes.roots r
    asked r i = asked_reached g c nodes from (all_met_first g b c none_yet admits) only has base r i

    unmet : (n : NodeId) → is_met b.origins n ≡ true → false ≡ true
    unmet n h = ap is_met_from (sym (w.origins n.0 ∙ ap (λ o. origin_of o n.0) origins)) ∙ h

    sought : (n : NodeId) → (is_met b.origins n ≡ true) ⊎ ((stands nodes n ≡ true) ⊎ IsNeededFor g nodes n) → (stands nodes n ≡ true) ⊎ IsSoughtBy c n
    sought n (inl before) = absurd (let no : false ≡ true = unmet n before in cc)
    sought n (inr (inl m)) = inl m
    sought n (inr (inr m)) = let ne = only m.rule (asked m.rule m.asked) in inr (sought_in c m.rule m.of n ne (has m.rule m.of ne m.at) m.needs)
