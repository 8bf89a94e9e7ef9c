-- A plan stays tied when it is told what a file includes.
use Rattle.std.proofs.Common.{◌≡◌, ◌≢◌, ◌<◌, ◌≤◌, ℕ, zero, suc, arith, Bool, true, false, List, [], ◌++◌, length, drop, Option, Some, None, refl, sym, subst, ap, ◌∙◌, inl, inr, ◌⊎◌, ⊎_elim}
use Rattle.std.specs.Prelude.{slice_get, nat_eq, MatchOption}
use Rattle.std.specs.List.{list_all, flat_map}
use Rattle.std.proofs.lemmas.List.Folds.{list_any-append}
use Rattle.std.proofs.Math.Seq.{drop-append_seam}
use Rattle.scons_base.specs.declared.ids.NodeId.{NodeId}
use Rattle.scons_base.specs.declared.ids.RuleId.{RuleId}
use Rattle.rule_graph.specs.Graphs.{RuleGraph, path_of}
use Rattle.rule_graph.specs.Rules.{are_below, rule_of}
use Rattle.task_plan.specs.States.{state_of}
use Rattle.task_plan.specs.Named.{stands, put_all}
use Rattle.task_plan.specs.Settled.{Kept, first_kept, origin_of, is_scanned}
use Rattle.task_plan.specs.Listed.{included, with_found}
use Rattle.task_plan.specs.Plans.{Planned, IsScannedNext}
use Rattle.task_plan.specs.Met.{is_met, is_met_from, IsFrom, IsAskedFor, needs_in, needs_at}
use Rattle.task_plan.specs.Admits.{Follows, IsAdmitted, IsUnchanged, ScansFile}
use Rattle.task_plan.specs.Orders.{is_among, makers_of, needed_in, needed_of, IsReached, is_root, is_needed}
use Rattle.task_plan.specs.Rooted.{news_in, news_of, IsSoughtBy}
use Rattle.task_plan.specs.declared.files.Origin.{Origin}
use Rattle.task_plan.specs.declared.files.Origin.TheVariants.{Unmet, Source, Made}
use Rattle.task_plan.specs.declared.states.RuleState.{RuleState}
use Rattle.task_plan.specs.declared.states.RuleState.TheVariants.{Unneeded, Waiting}
use Rattle.task_plan.specs.declared.want.PlanEvent.TheVariants.{Scanned}
use Rattle.task_plan.proofs.AdmitLemmas.{waits_needed, unneeded_or}
use Rattle.task_plan.proofs.EnterLemmas.{maker_made}
use Rattle.task_plan.proofs.ListLemmas.{get-within}
use Rattle.task_plan.proofs.MarkLemmas.{apart}
use Rattle.task_plan.proofs.MetNeeds.{stands_at, put_all_in, put_all_not_out}
use Rattle.task_plan.proofs.NamedLemmas.{put_all_longer, stands_longer}
use Rattle.task_plan.proofs.NextLemmas.{place_of_stands}
use Rattle.task_plan.proofs.RestLemmas.{place_in}
use Rattle.task_plan.proofs.WalkLemmas.{node_same, included_none, included_this, included_other, scanned_other, within_or}
use Rattle.build_model.specs.Rules.{Tree, Rule}
use Rattle.build_model.specs.Graphs.{rule_at}
use Rattle.build_model.specs.Steps.{Step}
use Rattle.build_model.proofs.Lists.{true_false, none_some, some_same}
use Rattle.build_means.specs.Rules.{paths_of}
use Rattle.build_means.specs.Grown.{Begun, begun_graph, rule_numbered}
use Rattle.build_means.proofs.Lists.{or_either, or_second}
use Rattle.plan_means.specs.Planning.{IsGraphNow, IsPlanFor, IsStep}
use Rattle.plan_means.specs.Ties.{IsNew, IsAt, IsDecidedState, IsSeen, Ties}
use Rattle.plan_means.specs.Scanning.{IsFoundIn}
use Rattle.plan_means.proofs.Names.{stands_all}
use Rattle.plan_means.proofs.Reaching.{stands_flat}
use Rattle.plan_means.proofs.Knowing.{Knows, knows, in_needs, in_required, needed_met, done_ready, need_at}

-- a file by which one rule needs another
record IsNeedOf (plan : Planned) (number other : ℕ) : Type 0 where
  node : NodeId
  need : stands (needs_at plan.rules other) node ≡ true
  origin : origin_of plan.origins node.0 ≡ Made (record { 0 = number })

need_of_by : (plan : Planned) (number other : ℕ) (o : Option Kept) → slice_get plan.rules other ≡ o →
    is_among number (needed_in plan.origins o) ≡ true → IsNeedOf plan number other
need_of_by plan number other None e h = true_false (sym h)
need_of_by plan number other (Some kept) e h =
    let files = kept.required ++ kept.deps in
    let place = place_in (makers_of plan.origins files) (record { 0 = number }) h in
    let made = maker_made plan.origins files place.0 (record { 0 = number }) place.1 in
    record {
      node = made.file;
      need = ap (λ x. stands (needs_in x) made.file) e
          ∙ stands_at files made.place made.file made.at;
      origin = made.made;
    }

need_of : (plan : Planned) (number other : ℕ) → is_among number (needed_of plan.rules plan.origins other) ≡ true →
    IsNeedOf plan number other
need_of plan number other h = need_of_by plan number other (slice_get plan.rules other) refl h

module _ (b : Begun) (g : RuleGraph) (requested : List NodeId) (t : Tree) (past : List Step) (old new : Planned)
    (rule : RuleId) (file : NodeId) (found : List NodeId)
    (now : IsGraphNow b g) (ties : Ties b g requested t past old)
    (next : IsScannedNext old rule.0 file)
    (is_found : IsFoundIn b g t old rule file found) (is : IsStep g old (Scanned rule found) new) where
  abbrev news : List NodeId
  news = news_of old (Scanned rule found)

  scans : ScansFile g old new rule.0 file found
  scans = subst (λ o. MatchOption o (IsUnchanged old new) (λ f. ScansFile g old new rule.0 f found)) next.ready.wants
      is.knows

  plan_stays : IsPlanFor g requested new
  plan_stays =
      let p = ties.plan_for in
      let nodes = is_found.nodes in
      record {
        fits = is.fits p.fits;
        follow = is.follow;
        from = is.origins p.from;
        met = is.needs nodes p.fits p.met;
        reached = is.only nodes p.fits p.from p.met p.reached;
        sought = (is.sought nodes p.fits p.from p.met p.reached).each requested p.sought;
        complete = is.complete nodes p.fits p.from p.met p.reached p.complete;
        order = is.order nodes p.fits p.from p.met p.order;
        roots = is.roots ∙ p.roots;
        nodes = p.nodes;
      }

  abbrev known : (number : ℕ) → state_of old.states number ≢ Unneeded → Knows b g old number
  known number needed = knows b g requested t past old now ties number needed

  abbrev rule_needed : state_of old.states rule.0 ≢ Unneeded
  rule_needed = waits_needed g old rule.0 next.ready.waits

  abbrev k : Knows b g old rule.0
  k = knows b g requested t past old now ties rule.0 rule_needed

  before_same : scans.this.before ≡ k.kept
  before_same = some_same (sym scans.this.was ∙ k.at)

  abbrev after : Kept
  after = scans.this.after

  after_required : after.required ≡ k.kept.required
  after_required = scans.this.required ∙ ap (λ (x : Kept). x.required) before_same

  after_named : after.named ≡ k.kept.named
  after_named = scans.this.named ∙ ap (λ (x : Kept). x.named) before_same

  after_sources : after.sources ≡ k.kept.sources
  after_sources = scans.this.sources ∙ ap (λ (x : Kept). x.sources) before_same

  after_left_out : after.left_out ≡ k.kept.left_out
  after_left_out = scans.this.left_out ∙ ap (λ (x : Kept). x.left_out) before_same

  after_found : after.found ≡ with_found k.kept.found file found
  after_found = scans.this.found ∙ ap (λ (x : Kept). with_found x.found file found) before_same

  after_follows : Follows after
  after_follows = is.follow rule.0 after scans.this.is scans.this.whole

  rule_sought : (n : NodeId) → stands (k.kept.required ++ k.kept.deps) n ≡ true → IsSoughtBy old n
  rule_sought n h = record {
    rule = rule.0;
    needed = rule_needed;
    needs = need_at b g requested t past old now ties rule.0 rule_needed n h;
  }

  -- what the rule depended on was needed
  dep_sought : (n : NodeId) → stands k.kept.deps n ≡ true → IsSoughtBy old n
  dep_sought n h = rule_sought n (in_needs k.kept.required k.kept.deps n h)

  file_dep : (n : NodeId) → stands k.kept.files n ≡ true → stands k.kept.deps n ≡ true
  file_dep n h =
      ap (λ (l : List NodeId). stands l n) k.keeps.follows.deps ∙ stands_all k.kept.named k.kept.files n
      ∙ or_second (stands k.kept.named n) (stands k.kept.files n) h

  named_dep : (n : NodeId) → stands k.kept.named n ≡ true → stands k.kept.deps n ≡ true
  named_dep n h =
      ap (λ (l : List NodeId). stands l n) k.keeps.follows.deps
      ∙ stands_longer k.kept.named (put_all [] k.kept.named k.kept.files) n
      (put_all_longer [] k.kept.named k.kept.files) h

  abbrev IsOldOrNews : NodeId → Type 0
  IsOldOrNews n = IsSoughtBy old n ⊎ (stands news n ≡ true)

  news_are : (more : List NodeId) → put_all k.kept.left_out k.kept.files found ≡ k.kept.files ++ more → news ≡ more
  news_are more e =
      ap (λ o. news_in o found) k.at ∙ ap (drop (length k.kept.files)) e ∙ drop-append_seam k.kept.files more

  put_split : (n : NodeId) (more : List NodeId) → put_all k.kept.left_out k.kept.files found ≡ k.kept.files ++ more →
      stands (put_all k.kept.left_out k.kept.files found) n ≡ true → IsOldOrNews n
  put_split n more e h =
      ⊎_elim (λ f. inl (dep_sought n (file_dep n f))) (λ m. inr
      (ap (λ (l : List NodeId). stands l n) (news_are more e) ∙ m))
      (or_either (stands k.kept.files n) (stands more n)
      (sym (list_any-append (λ m. nat_eq n.0 m.0) k.kept.files more) ∙ sym (ap (λ (l : List NodeId). stands l n) e)
      ∙ h))

  found_new : (n : NodeId) → stands found n ≡ true → stands after.left_out n ≡ false → IsOldOrNews n
  found_new n h new_file =
      let l = put_all_longer k.kept.left_out k.kept.files found in
      ⊎_elim (λ o. true_false (sym (ap (λ (x : List NodeId). stands x n) after_left_out ∙ o) ∙ new_file))
      (put_split n l.more l.is)
      (put_all_in k.kept.left_out k.kept.files found n h)

  -- what was found in a file was scanned
  includes_scanned : (by n : NodeId) → stands (included k.kept.found by) n ≡ true → (c : Bool) →
      is_scanned k.kept.found by ≡ c → c ≡ true
  includes_scanned by n h true e = refl
  includes_scanned by n h false e =
      true_false (sym h ∙ ap (λ (x : List NodeId). stands x n) (included_none k.kept.found by e))

  found_old : (by n : NodeId) → stands (included k.kept.found by) n ≡ true → stands after.left_out n ≡ false →
      IsOldOrNews n
  found_old by n h new_file =
      let scanned = includes_scanned by n h (is_scanned k.kept.found by) refl in
      let place = place_of_stands k.kept.files by (ties.sees.files rule.0 k.kept rule_needed k.at by scanned) in
      let listed = stands_flat (included k.kept.found) k.kept.files place.0 by n place.1 h in
      ⊎_elim (λ o. true_false (sym (ap (λ (x : List NodeId). stands x n) after_left_out ∙ o) ∙ new_file))
      (λ m. inl (dep_sought n (file_dep n (ap (λ (x : List NodeId). stands x n) k.keeps.follows.files.whole ∙ m))))
      (put_all_in k.kept.left_out k.kept.sources (flat_map (included k.kept.found) k.kept.files) n listed)

  found_by : (by n : NodeId) (c : Bool) → nat_eq by.0 file.0 ≡ c → stands (included after.found by) n ≡ true →
      stands after.left_out n ≡ false → IsOldOrNews n
  found_by by n true e h new_file =
      let same : by ≡ file = node_same by file e in
      found_new n
      (sym (ap (λ (x : NodeId). stands (included after.found x) n) same
      ∙ ap (λ (x : List (NodeId × List NodeId)). stands (included x file) n) after_found
      ∙ ap (λ (x : List NodeId). stands x n) (included_this k.kept.found file found)) ∙ h) new_file
  found_by by n false e h new_file =
      found_old by n
      (sym (ap (λ (x : List (NodeId × List NodeId)). stands (included x by) n) after_found
      ∙ ap (λ (x : List NodeId). stands x n) (included_other k.kept.found file by found e)) ∙ h) new_file

  file_by : (n : NodeId) (i : ℕ) → slice_get after.files i ≡ Some n →
      (i < length after.sources) ⊎ (length after.sources ≤ i) → IsOldOrNews n
  file_by n i at (inl lt) =
      let l = put_all_longer after.left_out after.sources (flat_map (included after.found) after.files) in
      let source : slice_get after.sources i ≡ Some n =
      sym (get-within after.sources l.more i lt) ∙ ap (λ (x : List NodeId). slice_get x i)
      (sym (after_follows.files.whole ∙ l.is)) ∙ at in
      let was : stands k.kept.sources n ≡ true = ap (λ (x : List NodeId). stands x n) (sym after_sources)
      ∙ stands_at after.sources i n source in
      let files = put_all_longer k.kept.left_out k.kept.sources (flat_map (included k.kept.found) k.kept.files) in
      let in_files : stands k.kept.files n ≡ true =
      ap (λ (x : List NodeId). stands x n) k.keeps.follows.files.whole
      ∙ stands_longer k.kept.sources (put_all k.kept.left_out k.kept.sources
      (flat_map (included k.kept.found) k.kept.files)) n files was in
      inl (dep_sought n (file_dep n in_files))
  file_by n i at (inr le) =
      let before = after_follows.files.earlier i n at le in
      let new_file : stands after.left_out n ≡ false =
      put_all_not_out after.left_out after.sources (flat_map (included after.found) after.files) n i le
      (sym (ap (λ (x : List NodeId). slice_get x i) after_follows.files.whole) ∙ at) in
      found_by before.by n (nat_eq before.by.0 file.0) refl before.includes new_file

  dep_by : (n : NodeId) → (stands after.named n ≡ true) ⊎ (stands after.files n ≡ true) → IsOldOrNews n
  dep_by n (inl h) = inl (dep_sought n (named_dep n (ap (λ (x : List NodeId). stands x n) (sym after_named) ∙ h)))
  dep_by n (inr h) = let p = place_of_stands after.files n h in file_by n p.0 p.1 (within_or p.0 (length after.sources))

  rule_need : (n : NodeId) → (stands after.required n ≡ true) ⊎ (stands after.deps n ≡ true) → IsOldOrNews n
  rule_need n (inl h) =
      inl (rule_sought n
      (in_required k.kept.required k.kept.deps n (ap (λ (x : List NodeId). stands x n) (sym after_required) ∙ h)))
  rule_need n (inr h) =
      dep_by n (or_either (stands after.named n) (stands after.files n)
      (sym (ap (λ (x : List NodeId). stands x n) after_follows.deps ∙ stands_all after.named after.files n) ∙ h))

  need_by : (number : ℕ) → (number ≡ rule.0) ⊎ (number ≢ rule.0) → state_of old.states number ≢ Unneeded →
      (n : NodeId) → stands (needs_at new.rules number) n ≡ true → IsOldOrNews n
  need_by number (inl same) needed n h =
      rule_need n (or_either (stands after.required n) (stands after.deps n)
      (sym (list_any-append (λ m. nat_eq n.0 m.0) after.required after.deps)
      ∙ ap (λ o. stands (needs_in o) n) (sym scans.this.is) ∙ ap (λ (x : ℕ). stands (needs_at new.rules x) n)
      (sym same) ∙ h))
  need_by number (inr other) needed n h =
      let at = scans.others number (known number needed).kept other needed (known number needed).at in
      inl (record {
        rule = number;
        needed = needed;
        needs = ap (λ o. stands (needs_in o) n) ((known number needed).at ∙ sym at) ∙ h;
      })

  -- what a rule needs now that was needed before was needed before, too, or was found in the file
  need_or : (number : ℕ) → state_of old.states number ≢ Unneeded → (n : NodeId) →
      stands (needs_at new.rules number) n ≡ true → IsOldOrNews n
  need_or number needed n h = need_by number (apart number rule.0) needed n h

  sought_met : (n : NodeId) → IsSoughtBy old n → is_met old.origins n ≡ true
  sought_met n by =
      needed_met b g requested t past old now ties by.rule by.needed n
      (ap (λ o. stands (needs_in o) n) (sym (known by.rule by.needed).at) ∙ by.needs)

  made_before : (n : NodeId) (m : ℕ) (o : Origin) → IsFrom g old.states n.0 o → is_met_from o ≡ true →
      rule_of g.rules n.0 ≡ Some m → state_of old.states m ≢ Unneeded
  made_before n m Unmet from met of = true_false (sym met)
  made_before n m Source from met of = none_some (sym from ∙ of)
  made_before n m (Made r) from met of = subst (λ (x : ℕ). state_of old.states x ≢ Unneeded)
      (some_same (sym from.0 ∙ of)) from.1

  abbrev IsOldOrAsked : ℕ → Type 0
  IsOldOrAsked number = (state_of old.states number ≢ Unneeded) ⊎ IsAskedFor g news number

  made_now : (n : NodeId) (m : RuleId) → origin_of new.origins n.0 ≡ Made m → rule_of g.rules n.0 ≡ Some m.0
  made_now n m e = (subst (λ (o : Origin). IsFrom g new.states n.0 o) e (plan_stays.from.each n.0)).0

  old_need : (number : ℕ) (n : NodeId) → rule_of g.rules n.0 ≡ Some number → IsOldOrNews n → IsOldOrAsked number
  old_need number n of (inl by) =
      inl (made_before n number (origin_of old.origins n.0) (ties.plan_for.from.each n.0) (sought_met n by) of)
  old_need number n of (inr m) = inr (IsAskedFor.asked n m of)

  admitted_need : (number other : ℕ) (n : NodeId) → IsAdmitted g new other → IsAskedFor g news other →
      stands (needs_at new.rules other) n ≡ true → rule_of g.rules n.0 ≡ Some number →
      IsOldOrAsked number
  admitted_need number other n admitted is_asked need of =
      inr (IsAskedFor.needs admitted.of n is_asked admitted.at
      (ap (λ o. stands (needs_in o) n) (sym admitted.is) ∙ need) of)

  asked_next : (number other : ℕ) → (state_of old.states other ≡ Unneeded) ⊎ (state_of old.states other ≢ Unneeded) →
      state_of new.states other ≢ Unneeded → IsOldOrAsked other →
      IsNeedOf new number other → IsOldOrAsked number
  asked_next number other (inr needed) still h need =
      old_need number need.node (made_now need.node (record { 0 = number }) need.origin)
      (need_or other needed need.node need.need)
  asked_next number other (inl u) still (inl needed) need = absurd (needed u)
  asked_next number other (inl u) still (inr is_asked) need =
      admitted_need number other need.node (scans.met other u still) is_asked need.need
      (made_now need.node (record { 0 = number }) need.origin)

  -- a rule that is needed now was needed before, or is asked for by what was found
  reached_or : {number : ℕ} → IsReached (needed_of new.rules new.origins) new.notes.roots number → IsOldOrAsked number
  reached_or {number} (is_root h) = inl (ties.plan_for.order.roots number (ap (is_among number) (sym is.roots) ∙ h))
  reached_or {number} (is_needed other reached h) =
      asked_next number other (unneeded_or g (state_of old.states other)) (plan_stays.reached.only other reached)
      (reached_or reached) (need_of new number other h)

  no_rule : (n : NodeId) → origin_of new.origins n.0 ≡ Source → rule_of g.rules n.0 ≡ None
  no_rule n e = subst (λ (o : Origin). IsFrom g new.states n.0 o) e (plan_stays.from.each n.0)

  abbrev HasNone : NodeId → Type 0
  HasNone n = rule_at (begun_graph b) b.tree (path_of g.nodes n) ≡ None

  sought_none : (n : NodeId) (o : Origin) → IsSoughtBy old n → origin_of old.origins n.0 ≡ o →
      IsFrom g old.states n.0 o → is_met_from o ≡ true → rule_of g.rules n.0 ≡ None → HasNone n
  sought_none n Unmet by e from met none = true_false (sym met)
  sought_none n Source by e from met none = ties.sources by.rule n by.needed by.needs e
  sought_none n (Made m) by e from met none = none_some (sym none ∙ from.0)

  old_none : (n : NodeId) → rule_of g.rules n.0 ≡ None → IsOldOrNews n → HasNone n
  old_none n none (inl by) =
      sought_none n (origin_of old.origins n.0) by refl (ties.plan_for.from.each n.0) (sought_met n by) none
  old_none n none (inr m) = is_found.looked.these n m none

  asked_none : (number : ℕ) (n : NodeId) → state_of old.states number ≡ Unneeded → IsAdmitted g new number →
      stands (needs_at new.rules number) n ≡ true → rule_of g.rules n.0 ≡ None →
      IsOldOrAsked number → HasNone n
  asked_none number n u admitted need none (inl needed) = absurd (needed u)
  asked_none number n u admitted need none (inr is_asked) =
      is_found.looked.named number admitted.of n is_asked admitted.at
      (ap (λ o. stands (needs_in o) n) (sym admitted.is) ∙ need) none

  sources_by : (number : ℕ) (n : NodeId) →
      (state_of old.states number ≡ Unneeded) ⊎ (state_of old.states number ≢ Unneeded) →
      state_of new.states number ≢ Unneeded →
      stands (needs_at new.rules number) n ≡ true → rule_of g.rules n.0 ≡ None → HasNone n
  sources_by number n (inr needed) still need none = old_none n none (need_or number needed n need)
  sources_by number n (inl u) still need none =
      asked_none number n u (scans.met number u still) need none (reached_or (plan_stays.reached.each number still))

  -- the scanned file
  file_there : stands k.kept.files file ≡ true
  file_there =
      let same : next.ready.kept ≡ k.kept = some_same (sym next.ready.at ∙ k.at) in
      let files = ap (λ (x : Kept). slice_get x.files next.ready.place) (sym same) in
      stands_at k.kept.files next.ready.place file (files ∙ next.ready.is_file)

  file_need : stands (k.kept.required ++ k.kept.deps) file ≡ true
  file_need = in_needs k.kept.required k.kept.deps file (file_dep file file_there)

  file_new : is_scanned k.kept.found file ≡ false
  file_new =
      let same : next.ready.kept ≡ k.kept = some_same (sym next.ready.at ∙ k.at) in
      ap (λ (x : Kept). is_scanned x.found file) (sym same) ∙ next.ready.can.unscanned

  source_stays : (i : ℕ) (n : NodeId) → slice_get k.kept.files i ≡ Some n → i < length k.kept.sources →
      stands after.files n ≡ true
  source_stays i n at lt =
      let l = put_all_longer k.kept.left_out k.kept.sources (flat_map (included k.kept.found) k.kept.files) in
      let source : slice_get k.kept.sources i ≡ Some n =
      sym (get-within k.kept.sources l.more i lt)
      ∙ ap (λ (x : List NodeId). slice_get x i) (sym (k.keeps.follows.files.whole ∙ l.is)) ∙ at in
      let is_source : stands after.sources n ≡ true =
      ap (λ (x : List NodeId). stands x n) after_sources ∙ stands_at k.kept.sources i n source in
      let all = put_all_longer after.left_out after.sources (flat_map (included after.found) after.files) in
      ap (λ (x : List NodeId). stands x n) after_follows.files.whole
      ∙ stands_longer after.sources (put_all after.left_out after.sources (flat_map (included after.found) after.files))
      n all is_source

  include_stays : (by n : NodeId) (c : Bool) → nat_eq by.0 file.0 ≡ c → stands (included k.kept.found by) n ≡ true →
      stands (included after.found by) n ≡ true
  include_stays by n true e h =
      true_false (sym h ∙ ap (λ (x : List NodeId). stands x n)
      (included_none k.kept.found by (ap (is_scanned k.kept.found) (node_same by file e) ∙ file_new)))
  include_stays by n false e h =
      ap (λ (x : List (NodeId × List NodeId)). stands (included x by) n) after_found
      ∙ ap (λ (x : List NodeId). stands x n) (included_other k.kept.found file by found e) ∙ h

  stays_by : (fuel i : ℕ) (n : NodeId) → i < fuel → slice_get k.kept.files i ≡ Some n →
      (i < length k.kept.sources) ⊎ (length k.kept.sources ≤ i) → stands after.files n ≡ true
  stays_by zero i n lt at place = absurd (omega arith)
  stays_by (suc fuel) i n lt at (inl in_sources) = source_stays i n at in_sources
  stays_by (suc fuel) i n lt at (inr past_them) =
      let before = k.keeps.follows.files.earlier i n at past_them in
      let place_lt : before.place < fuel = let one = before.before in omega arith in
      let by = stays_by fuel before.place before.by place_lt before.at
      (within_or before.place (length k.kept.sources)) in
      let there_now = place_of_stands after.files before.by by in
      let includes = include_stays before.by n (nat_eq before.by.0 file.0) refl before.includes in
      let listed = stands_flat (included after.found) after.files there_now.0 before.by n there_now.1 includes in
      let new_file : stands k.kept.left_out n ≡ false =
      put_all_not_out k.kept.left_out k.kept.sources (flat_map (included k.kept.found) k.kept.files) n i past_them
      (sym (ap (λ (x : List NodeId). slice_get x i) k.keeps.follows.files.whole) ∙ at) in
      ⊎_elim (λ o. true_false (sym (ap (λ (x : List NodeId). stands x n) (sym after_left_out) ∙ o) ∙ new_file))
      (λ m. ap (λ (x : List NodeId). stands x n) after_follows.files.whole ∙ m)
      (put_all_in after.left_out after.sources (flat_map (included after.found) after.files) n listed)

  -- the files of the rule stay
  files_stay : (n : NodeId) → stands k.kept.files n ≡ true → stands after.files n ≡ true
  files_stay n h =
      let p = place_of_stands k.kept.files n h in
      let lt : p.0 < suc p.0 = omega arith in
      stays_by (suc p.0) p.0 n lt p.1 (within_or p.0 (length k.kept.sources))

  file_seen : (r : Rule) → rule_numbered b g rule.0 ≡ Some r → IsSeen b g t past r after file
  file_seen r numbered = record {
    ready = done_ready b g requested t past old now ties rule.0 rule_needed file file_need next.ready.can.done;
    includes =
        is_found.includes r numbered
        ∙ sym (ap (λ (x : List (NodeId × List NodeId)). paths_of g (included x file)) after_found
        ∙ ap (paths_of g) (included_this k.kept.found file found));
  }

  still_scanned : (f : NodeId) → nat_eq f.0 file.0 ≡ false → is_scanned after.found f ≡ true → (c : Bool) →
      is_scanned k.kept.found f ≡ c → c ≡ true
  still_scanned f e h true was = refl
  still_scanned f e h false was =
      true_false (sym (ap (λ (x : List (NodeId × List NodeId)). is_scanned x f) (sym after_found) ∙ h)
      ∙ scanned_other (λ x y. nat_eq x.0 y.0) (λ x y. refl) k.kept.found file f found e was)

  was_scanned : (f : NodeId) → nat_eq f.0 file.0 ≡ false → is_scanned after.found f ≡ true →
      is_scanned k.kept.found f ≡ true
  was_scanned f e h = still_scanned f e h (is_scanned k.kept.found f) refl

  other_included : (f : NodeId) → nat_eq f.0 file.0 ≡ false → included after.found f ≡ included k.kept.found f
  other_included f e = ap (λ (x : List (NodeId × List NodeId)). included x f) after_found
      ∙ included_other k.kept.found file f found e

  rule_seen : (r : Rule) (f : NodeId) (c : Bool) → nat_eq f.0 file.0 ≡ c → rule_numbered b g rule.0 ≡ Some r →
      is_scanned after.found f ≡ true → IsSeen b g t past r after f
  rule_seen r f true e numbered h = subst (λ (x : NodeId). IsSeen b g t past r after x) (sym (node_same f file e))
      (file_seen r numbered)
  rule_seen r f false e numbered h =
      let seen = ties.sees.each rule.0 k.kept r rule_needed k.at numbered f (was_scanned f e h) in
      record { ready = seen.ready; includes = seen.includes ∙ ap (paths_of g) (sym (other_included f e)) }

  rule_file : (f : NodeId) (c : Bool) → nat_eq f.0 file.0 ≡ c → is_scanned after.found f ≡ true →
      stands after.files f ≡ true
  rule_file f true e h = ap (stands after.files) (node_same f file e) ∙ files_stay file file_there
  rule_file f false e h = files_stay f (ties.sees.files rule.0 k.kept rule_needed k.at f (was_scanned f e h))

  rule_nodes : (f : NodeId) (c : Bool) → nat_eq f.0 file.0 ≡ c →
      are_below (length g.nodes) (included after.found f) ≡ true
  rule_nodes f true e =
      ap (λ (x : NodeId). are_below (length g.nodes) (included after.found x)) (node_same f file e)
      ∙ ap (λ (x : List (NodeId × List NodeId)). are_below (length g.nodes) (included x file)) after_found
      ∙ ap (are_below (length g.nodes)) (included_this k.kept.found file found) ∙ is_found.nodes
  rule_nodes f false e = ap (are_below (length g.nodes)) (other_included f e)
      ∙ ties.sees.nodes rule.0 k.kept rule_needed k.at f

  after_is : (number : ℕ) (kept : Kept) → number ≡ rule.0 → slice_get new.rules number ≡ Some kept → after ≡ kept
  after_is number kept same at = some_same (sym scans.this.is ∙ ap (slice_get new.rules) (sym same) ∙ at)

  other_kept : (number : ℕ) (kept : Kept) → number ≢ rule.0 → state_of old.states number ≢ Unneeded →
      slice_get new.rules number ≡ Some kept → slice_get old.rules number ≡ Some kept
  other_kept number kept other needed at =
      let know = known number needed in
      know.at ∙ ap Some (some_same (sym (scans.others number know.kept other needed know.at) ∙ at))

  first_is : (number : ℕ) (kept : Kept) → (admitted : IsAdmitted g new number) →
      slice_get new.rules number ≡ Some kept → kept ≡ first_kept g admitted.of
  first_is number kept admitted at = some_same (sym at ∙ admitted.is)

  seen_by : (number : ℕ) (kept : Kept) (r : Rule) →
      (state_of old.states number ≡ Unneeded) ⊎ (state_of old.states number ≢ Unneeded) →
      (number ≡ rule.0) ⊎ (number ≢ rule.0) →
      state_of new.states number ≢ Unneeded → slice_get new.rules number ≡ Some kept →
      rule_numbered b g number ≡ Some r → (f : NodeId) → is_scanned kept.found f ≡ true →
      IsSeen b g t past r kept f
  seen_by number kept r (inl u) y still at numbered f h =
      true_false (sym h ∙ ap (λ (x : Kept). is_scanned x.found f) (first_is number kept (scans.met number u still) at))
  seen_by number kept r (inr needed) (inl same) still at numbered f h =
      let is_after = after_is number kept same at in
      subst (λ (x : Kept). IsSeen b g t past r x f) is_after
      (rule_seen r f (nat_eq f.0 file.0) refl (ap (rule_numbered b g) (sym same) ∙ numbered)
      (ap (λ (x : Kept). is_scanned x.found f) is_after ∙ h))
  seen_by number kept r (inr needed) (inr other) still at numbered f h = ties.sees.each number kept r needed
      (other_kept number kept other needed at) numbered f h

  files_by : (number : ℕ) (kept : Kept) →
      (state_of old.states number ≡ Unneeded) ⊎ (state_of old.states number ≢ Unneeded) →
      (number ≡ rule.0) ⊎ (number ≢ rule.0) →
      state_of new.states number ≢ Unneeded → slice_get new.rules number ≡ Some kept → (f : NodeId) →
      is_scanned kept.found f ≡ true → stands kept.files f ≡ true
  files_by number kept (inl u) y still at f h =
      true_false (sym h ∙ ap (λ (x : Kept). is_scanned x.found f) (first_is number kept (scans.met number u still) at))
  files_by number kept (inr needed) (inl same) still at f h =
      let is_after = after_is number kept same at in
      sym (ap (λ (x : Kept). stands x.files f) is_after)
      ∙ rule_file f (nat_eq f.0 file.0) refl (ap (λ (x : Kept). is_scanned x.found f) is_after ∙ h)
  files_by number kept (inr needed) (inr other) still at f h = ties.sees.files number kept needed
      (other_kept number kept other needed at) f h

  nodes_by : (number : ℕ) (kept : Kept) →
      (state_of old.states number ≡ Unneeded) ⊎ (state_of old.states number ≢ Unneeded) →
      (number ≡ rule.0) ⊎ (number ≢ rule.0) →
      state_of new.states number ≢ Unneeded → slice_get new.rules number ≡ Some kept → (f : NodeId) →
      are_below (length g.nodes) (included kept.found f) ≡ true
  nodes_by number kept (inl u) y still at f =
      ap (λ (x : Kept). are_below (length g.nodes) (included x.found f))
      (first_is number kept (scans.met number u still) at)
  nodes_by number kept (inr needed) (inl same) still at f =
      ap (λ (x : Kept). are_below (length g.nodes) (included x.found f)) (sym (after_is number kept same at))
      ∙ rule_nodes f (nat_eq f.0 file.0) refl
  nodes_by number kept (inr needed) (inr other) still at f = ties.sees.nodes number kept needed
      (other_kept number kept other needed at) f

  decided_needed : (o : RuleState) → IsDecidedState o → o ≢ Unneeded
  decided_needed o h e = subst IsDecidedState e h

  not_this : (number : ℕ) → IsDecidedState (state_of old.states number) → number ≢ rule.0
  not_this number h same = subst IsDecidedState (ap (state_of old.states) same ∙ next.ready.waits) h

  scanned_by : (number : ℕ) (kept : Kept) →
      (state_of new.states number ≡ state_of old.states number)
      ⊎ ((state_of old.states number ≡ Unneeded) × (state_of new.states number ≡ Waiting)) →
      IsDecidedState (state_of new.states number) → slice_get new.rules number ≡ Some kept →
      list_all (λ n. is_scanned kept.found n) kept.files ≡ true
  scanned_by number kept (inl same) decided at =
      let was = subst IsDecidedState same decided in
      ties.scanned number kept was (other_kept number kept (not_this number was)
      (decided_needed (state_of old.states number) was) at)
  scanned_by number kept (inr h) decided at = absurd (subst IsDecidedState h.1 decided)

  at_by : (number : ℕ) (r : Rule) →
      (state_of new.states number ≡ state_of old.states number)
      ⊎ ((state_of old.states number ≡ Unneeded) × (state_of new.states number ≡ Waiting)) →
      IsAt past r (state_of old.states number) → IsAt past r (state_of new.states number)
  at_by number r (inl same) at = subst (λ (o : RuleState). IsAt past r o) (sym same) at
  at_by number r (inr h) at =
      let new_rule : IsNew past r = subst (λ (o : RuleState). IsAt past r o) h.0 at in
      subst (λ (o : RuleState). IsAt past r o) (sym h.1) new_rule

  pub scans_keep : Ties b g requested t past new
  scans_keep = record {
    plan_for = plan_stays;
    sees = record {
      each = λ number kept r still at numbered f h.
          seen_by number kept r (unneeded_or g (state_of old.states number)) (apart number rule.0) still at numbered
          f h;
      files = λ number kept still at f h. files_by number kept (unneeded_or g (state_of old.states number))
          (apart number rule.0) still at f h;
      nodes = λ number kept still at f. nodes_by number kept (unneeded_or g (state_of old.states number))
          (apart number rule.0) still at f;
    };
    scanned = λ number kept decided at. scanned_by number kept (is.states.at number) decided at;
    sources = λ number n still need e. sources_by number n (unneeded_or g (state_of old.states number)) still need
        (no_rule n e);
    asked = ties.asked;
    states = λ number r numbered. at_by number r (is.states.at number) (ties.states number r numbered);
    numbered = ties.numbered;
  }
