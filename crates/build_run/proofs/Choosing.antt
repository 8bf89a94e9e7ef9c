-- What looks leave of a build, and of a rule that it decides.
use Rattle.std.proofs.Common.{◌≡◌, ◌≢◌, ◌∙◌, ◌⊎◌, ℕ, true, false, Bool, List, [], ◌∷◌, Contains, Option, Some, cond, map, inl, inr, refl, sym, subst, ap, option_map, append-nil}
use Rattle.std.specs.Prelude.{Ok, slice_get, unwrap_or}
use Rattle.scons_base.specs.declared.ids.NodeId.{NodeId}
use Rattle.scons_base.specs.declared.ids.RuleId.{RuleId}
use Rattle.world_api.specs.Around.{Around, IsRunningTarget}
use Rattle.world_api.specs.Calls.{Asks}
use Rattle.world_api.specs.Counts.{Counts}
use Rattle.world_api.specs.Meaning.{IsImage, Meaning}
use Rattle.world_api.specs.Reads.{stamp_of}
use Rattle.deciders.specs.declared.recorded.Rec.{Rec}
use Rattle.sign_store.specs.Putting.{map_with, put_over, record_of, with_put}
use Rattle.sign_store.specs.Stores.{map_of}
use Rattle.sign_store.specs.Tables.{Map}
use Rattle.sign_store.specs.declared.store.Store.{Store}
use Rattle.rule_graph.specs.Graphs.{RuleGraph, path_of}
use Rattle.task_plan.specs.States.{state_of}
use Rattle.task_plan.specs.Plans.{Planned, IsDecidedNext}
use Rattle.task_plan.specs.Met.{IsFrom, needs_at}
use Rattle.task_plan.specs.Named.{stands}
use Rattle.task_plan.specs.Settled.{Kept, deps_in, deps_of, is_done, is_done_from, origin_of, IsReady as IsThrough}
use Rattle.task_plan.specs.declared.files.Origin.{Origin}
use Rattle.task_plan.specs.declared.files.Origin.TheVariants.{Unmet, Source, Made}
use Rattle.task_plan.specs.declared.states.RuleState.TheVariants.{Unneeded, Waiting}
use Rattle.task_plan.specs.declared.want.PlanEvent.{PlanEvent}
use Rattle.task_plan.specs.declared.want.PlanEvent.TheVariants as told
use Rattle.task_plan.proofs.MetNeeds.{all_stands}
use Rattle.build_model.specs.Rules.{Path, Content, Rule, Record, Dependency, Setting, Among, here, there}
use Rattle.build_model.specs.Contents.{in_tree}
use Rattle.build_model.specs.Moments.{Job as Given}
use Rattle.build_model.specs.Records.{dependency_of, known_digest, stamp_kept}
use Rattle.build_model.specs.Steps.{Step, Fresh, began, settled, IsReady, IsMissing}
use Rattle.build_model.proofs.Lists.{none_some, some_same, true_false, among_same}
use Rattle.build_means.specs.Due.{is_due}
use Rattle.build_means.specs.Grown.{IsLookedFor, rule_numbered}
use Rattle.build_means.specs.Present.{record_over}
use Rattle.build_means.specs.Records.{HasOwnDigests, record_in, records_in}
use Rattle.build_means.specs.Rules.{paths_of}
use Rattle.build_means.specs.Logs.{AreUnrisen}
use Rattle.build_means.proofs.Lists.{among_map}
use Rattle.build_files.specs.Dueness.{AreIdle, FindsDue, HaveOwnDigests}
use Rattle.build_files.specs.Kept.{AreTrue}
use Rattle.build_files.specs.Marked.{AreGoneOver, KeepsMarks}
use Rattle.build_files.specs.Presence.{AreStill}
use Rattle.build_files.specs.Reading.{IsUnreadIn, ReadsOnly}
use Rattle.build_files.specs.declared.inputs.Inputs.{Inputs}
use Rattle.plan_means.specs.Planning.{IsGraphNow}
use Rattle.plan_means.proofs.Knowing.{knows as known_of, among_stands, in_needs, need_at, done_ready}
use Rattle.run_means.specs.Ways.{IsWay}
use Rattle.turn_means.specs.Standing.{Outset, IsOutset, begun_at, setting_at, Standing, AreUnread, Knows}
use Rattle.turn_means.specs.Laws.{IsTold, IsWeighed, LooksOn, is_due_now}
use Rattle.turn_means.proofs.Deciding.{decided, due_agrees, makes}
use Rattle.turn_means.proofs.OwnDigests.{own_digests}
use Rattle.turn_means.proofs.Running.{MakesIt, one_rule, ready_still, source_still, unbegun_still}
use Rattle.turn_means.proofs.Turns.{looked, found_fresh}
use Rattle.build_files.proofs.Marking.{over_same as marks_kept}
use Rattle.build_run.proofs.Settling.{IsReadable, readable_settled, settled_or}
use Rattle.build_run.specs.Along.{AreAsked, GoesOn, HeldBegan, IsAlong, IsDue, KeepsEnds, is_faulted, standing_of}
use Rattle.build_run.specs.Holds.{Busy}
use Rattle.build_run.specs.Outs.{AreOut}
use Rattle.build_run.specs.Sites.{IsSound}
use Rattle.build_run.specs.declared.account.Account.{Account}
use Rattle.build_run.specs.declared.building.Options.{Options}
use Rattle.build_run.specs.declared.site.Run.{Run}
use Rattle.build_run.specs.declared.site.Site.{Site}
use Rattle.build_run.specs.Books.{AreBooked, book_of}
use Rattle.build_run.proofs.Booking.{StaysBooked, asks_booked, book_as, booked_as, fresh_booked}
use Rattle.build_run.proofs.Holding.{at_front, further}
use Rattle.build_run.proofs.EndingOn.{not_before}
use Rattle.build_run.proofs.Outs.{outs_front, not_among}

-- ---- over a look

module _ (old new : Around) (asks : Asks old new) where
  pub stamp_at : (path : Path) → (IsRunningTarget old.running path → ⊥) → stamp_of new path ≡ stamp_of old path
  stamp_at path free =
      ap (λ (c : Content). option_map (λ (bytes : List ℕ). new.stamps path) c) (asks.files path free)
      ∙ ap (λ (n : ℕ). option_map (λ (bytes : List ℕ). n) (old.tree path)) (asks.stamps path free)

  abbrev dependency_with : Setting → Rule → Path → Content → Option ℕ → Dependency
  dependency_with s r path c stamp = record { name = path; digest = known_digest s (Some c); stamp = stamp_kept r.decider stamp }

  one_same : (s : Setting) (r : Rule) (path : Path) → (IsRunningTarget old.running path → ⊥) →
      dependency_of s r (in_tree new.tree) (stamp_of new) path ≡ dependency_of s r (in_tree old.tree) (stamp_of old) path
  one_same s r path free =
      ap (λ (c : Content). dependency_with s r path c (stamp_of new path)) (asks.files path free)
      ∙ ap (λ (stamp : Option ℕ). dependency_with s r path (old.tree path) stamp) (stamp_at path free)

  deps_same : (s : Setting) (r : Rule) (paths : List Path) → ((path : Path) → Among path paths → IsRunningTarget old.running path → ⊥) →
      map (dependency_of s r (in_tree new.tree) (stamp_of new)) paths ≡ map (dependency_of s r (in_tree old.tree) (stamp_of old)) paths
  deps_same s r [] free = refl
  deps_same s r (path ∷ paths) free =
      ap (λ (d : Dependency). d ∷ map (dependency_of s r (in_tree new.tree) (stamp_of new)) paths) (one_same s r path (free path here))
      ∙ ap (λ (ds : List Dependency). dependency_of s r (in_tree old.tree) (stamp_of old) path ∷ ds)
      (deps_same s r paths (λ q m. free q (there m)))

  abbrev record_with : Setting → Rule → List Dependency → Record
  record_with s r deps = record { work = r.work; hash = s.hash; signed = r.signed; targets = r.targets; dependencies = deps }

  over_same : (s : Setting) (r : Rule) (paths : List Path) → ((path : Path) → Among path paths → IsRunningTarget old.running path → ⊥) →
      record_over s r paths new.tree (stamp_of new) ≡ record_over s r paths old.tree (stamp_of old)
  over_same s r paths free = ap (λ (deps : List Dependency). record_with s r deps) (deps_same s r paths free)

-- ---- what a rule that is decided reads

module _ (o : Outset) (outset : IsOutset o) (jobs : List Given) (s : Standing) (past : List Step)
    (way : IsWay o.wanted o.kept o.counts o.before jobs s.around past) (known : Knows o s past) where
  module _ (rule : RuleId) (next : IsDecidedNext s.plan rule.0) where
    needed : state_of s.plan.states rule.0 ≢ Unneeded
    needed u = let no : Waiting ≡ Unneeded = sym next.can.waits ∙ u in cc

    -- each waits for nothing, or is missing
    each_ready : (node : NodeId) → Among node (deps_of s.plan.rules rule.0) →
        IsReady (setting_at o) s.around.tree (settled past) (path_of s.graph.nodes node) ⊎ IsMissing (setting_at o) s.around.tree (path_of s.graph.nodes node)
    each_ready node m =
        let k = known_of (begun_at o) s.graph o.wanted.requested s.around.tree past s.plan known.now known.ties rule.0 needed in
        let through = subst (λ (x : Kept). IsThrough s.plan.states s.plan.origins x) (some_same (sym next.can.at ∙ k.at)) next.can.ready in
        let h = among_stands k.kept.deps node (among_same (ap (λ (x : Option Kept). deps_in x) k.at) m) in
        done_ready (begun_at o) s.graph o.wanted.requested s.around.tree past s.plan known.now known.ties rule.0 needed node
        (in_needs k.kept.required k.kept.deps node h)
        (all_stands (λ x. is_done s.plan.states s.plan.origins x) k.kept.deps node through.deps h)

    node_still : (node : NodeId) → Among node (deps_of s.plan.rules rule.0) → IsRunningTarget s.around.running (path_of s.graph.nodes node) → ⊥
    node_still node m target = elim (each_ready node m) [
      | inl ready ↦ ready_still o outset jobs s.around past way ready target
      | inr missing ↦ source_still o outset jobs s.around past way (path_of s.graph.nodes node) missing.no_rule target
    ]

    looked_by : (node : NodeId) (origin : Origin) → stands (needs_at s.plan.rules rule.0) node ≡ true → origin_of s.plan.origins node.0 ≡ origin →
        IsFrom s.graph s.plan.states node.0 origin → is_done_from s.plan.states origin ≡ true → IsLookedFor (begun_at o) s.graph node
    looked_by node Unmet need e from done none = true_false (sym done)
    looked_by node Source need e from done none = known.ties.sources rule.0 node needed need e
    looked_by node (Made number) need e from done none = none_some (sym none ∙ from.0)

    -- the copy rule of each was looked for
    pub looked_for : (node : NodeId) → Among node (deps_of s.plan.rules rule.0) → IsLookedFor (begun_at o) s.graph node
    looked_for node m =
        let k = known_of (begun_at o) s.graph o.wanted.requested s.around.tree past s.plan known.now known.ties rule.0 needed in
        let through = subst (λ (x : Kept). IsThrough s.plan.states s.plan.origins x) (some_same (sym next.can.at ∙ k.at)) next.can.ready in
        let h = among_stands k.kept.deps node (among_same (ap (λ (x : Option Kept). deps_in x) k.at) m) in
        let need = need_at (begun_at o) s.graph o.wanted.requested s.around.tree past s.plan known.now known.ties rule.0 needed node
        (in_needs k.kept.required k.kept.deps node h) in
        looked_by node (origin_of s.plan.origins node.0) need refl (known.ties.plan_for.from.each node.0)
        (all_stands (λ x. is_done s.plan.states s.plan.origins x) k.kept.deps node through.deps h)

    -- the rule of this number
    pub numbered_rule : (r : Rule) × (rule_numbered (begun_at o) s.graph rule.0 ≡ Some r)
    numbered_rule =
        let k = known_of (begun_at o) s.graph o.wanted.requested s.around.tree past s.plan known.now known.ties rule.0 needed in
        (k.rule, k.numbered)

    path_at : (node : NodeId) (path : Path) → slice_get s.graph.nodes node.0 ≡ Some path → path_of s.graph.nodes node ≡ path
    path_at node path at = ap (λ (x : Option Path). unwrap_or x []) at

    -- no running job writes them
    pub deps_still : AreStill s.graph s.around (deps_of s.plan.rules rule.0)
    deps_still node m path at target =
        node_still node m (subst (λ (p : Path). IsRunningTarget s.around.running p) (sym (path_at node path at)) target)

    pub paths_still : (path : Path) → Among path (paths_of s.graph (deps_of s.plan.rules rule.0)) → IsRunningTarget s.around.running path → ⊥
    paths_still path m target =
        let n = among_map (path_of s.graph.nodes) (deps_of s.plan.rules rule.0) m in
        node_still n.0 n.1 (subst (λ (p : Path). IsRunningTarget s.around.running p) n.2 target)

    -- so a look leaves how the rule is weighed
    pub weighed_on : (inputs : Inputs) (around : Around) → Asks s.around around → (r : Rule) (rec : Rec) → IsWeighed o s rule r rec →
        IsWeighed o (record s { inputs = inputs; around = around }) rule r rec
    weighed_on inputs around asks r rec w = record {
      goes_on = w.goes_on;
      met = λ path bytes e free.
          let was_free : IsRunningTarget s.around.running path → ⊥ = λ t. free (subst (λ runs. IsRunningTarget runs path) (sym asks.running) t) in
          subst (λ (all : List (List ℕ)). Contains all bytes) (sym asks.met) (w.met path bytes (sym (asks.files path was_free) ∙ e) was_free);
      chosen = w.chosen;
      is = w.is;
      present = record {
        is = w.present.is
            ∙ sym (over_same s.around around asks (setting_at o) r (paths_of s.graph (deps_of s.plan.rules rule.0)) paths_still);
        there = λ path m missing. w.present.there path m
            (record { no_rule = missing.no_rule; no_file = sym (asks.files path (paths_still path m)) ∙ missing.no_file });
      };
    }

    -- ---- of which files nothing was read

    -- a dependency that a rule makes has it settled
    dep_settled : (node : NodeId) (path : Path) (r : Rule) → Among node (deps_of s.plan.rules rule.0) → slice_get s.graph.nodes node.0 ≡ Some path →
        MakesIt o path r → Among r (settled past)
    dep_settled node path r m at e =
        readable_settled o outset jobs s.around past way path r (subst (λ (p : Path). IsReadable o s.around past p) (path_at node path at) (each_ready node m)) e

    -- nothing was read of what an unsettled rule makes
    unread_before : (inputs : Inputs) → AreUnread o s.graph inputs past → (node : ℕ) (path : Path) (r : Rule) → slice_get s.graph.nodes node ≡ Some path →
        MakesIt o path r → (Among r (settled past) → ⊥) → IsUnreadIn inputs node
    unread_before inputs unread node path r at e out = record {
      seen = unread.each node path r at e out;
      scans = λ scan nodes kept same.
          out (unread.scans scan nodes kept path r (ap (λ n. slice_get s.graph.nodes n) same ∙ at) e);
    }

    unread_after : (old new : Inputs) → ReadsOnly (deps_of s.plan.rules rule.0) old new → AreUnread o s.graph old past →
        (node : ℕ) (path : Path) (r : Rule) → slice_get s.graph.nodes node ≡ Some path → MakesIt o path r → (Among r (settled past) → ⊥) → IsUnreadIn new node
    unread_after old new only unread node path r at e out =
        only node (λ file m same. out (dep_settled file path r m (ap (λ n. slice_get s.graph.nodes n) same ∙ at) e))
        (unread_before old unread node path r at e out)

    pub unread_still : (old new : Inputs) → ReadsOnly (deps_of s.plan.rules rule.0) old new → AreUnread o s.graph old past → AreUnread o s.graph new past
    unread_still old new only unread = record {
      scans = λ scan nodes kept path r at e. elim (settled_or o outset jobs s.around past way path r e) [
        | inl m ↦ m
        | inr out ↦ absurd ((unread_after old new only unread scan.file.0 path r at e out).scans scan nodes kept refl)
      ];
      each = λ node path r at e out. (unread_after old new only unread node path r at e out).seen;
    }

  -- ---- of a rule that is due

  module _ (rule : RuleId) (r : Rule) (rec : Rec) (weighed : IsWeighed o s rule r rec) where
    own_targets : rec.targets ≡ r.targets
    own_targets = ap (λ (x : Record). x.targets) weighed.present.is

    target_free : (path : Path) → Among path r.targets → IsRunningTarget s.around.running path → ⊥
    target_free path m =
        unbegun_still o outset jobs s.around past way path (makes o outset jobs s past way known rule r rec weighed path m)
        (decided o outset jobs s past way known rule r rec weighed).not_began

    -- no running job writes its targets
    pub targets_idle : AreIdle s.around rec.targets
    targets_idle path m = target_free path (among_same own_targets m)

    -- what is held was made by others
    pub held_apart : (held : List Busy) → HeldBegan o past held → (path : Path) → Among path r.targets → (busy : Busy) → Contains held busy →
        Contains busy.hold.targets path → ⊥
    held_apart held has path m busy h made =
        let one = has busy path h made in
        (decided o outset jobs s past way known rule r rec weighed).not_began
        (subst (λ (x : Rule). Among x (began past))
        (one_rule o outset path one.1 (makes o outset jobs s past way known rule r rec weighed path m)) one.2)

-- ---- whether a rule is due

-- the held records leave what is recorded of other paths
pub map_beside : (store : Store) (held : List Busy) (path : List ℕ) → AreOut store held →
    ((busy : Busy) → Contains held busy → Contains busy.hold.targets path → ⊥) → map_with store held path ≡ map_of store path
map_beside store held path outs apart = by held (map_of store) outs apart
  where
    by : (held : List Busy) (kept : Map) → AreOut store held → ((busy : Busy) → Contains held busy → Contains busy.hold.targets path → ⊥) →
        put_over store.map.records.items held kept path ≡ kept path
    by [] kept outs apart = refl
    by (one ∷ held) kept outs apart =
        let t = outs.0.ticket in
        by held (with_put (record_of store.map.records.items one.ticket) kept) outs.2 (λ busy h. apart busy (further held one busy h))
        ∙ (ap (λ o. with_put o kept path) t.out.own.held.record_at
        ∙ ap (λ b. cond b (Some t.rec) (kept path))
        (not_among t.rec.targets path (λ h. apart one (at_front held one) (subst (λ (paths : List (List ℕ)). Contains paths path) t.same h))))

-- ---- a look leaves how a build stands

module _ {W O E : Type 0} (m : Meaning W) (o : Outset) (outset : IsOutset o) (old new : Site W O E) (along : IsAlong m o old)
    (asks : Asks (m.around old.world.now) (m.around new.world.now)) (graph : new.graph.now ≡ old.graph.now) (store : new.store.now ≡ old.store.now)
    (account : new.account.now ≡ old.account.now) (options : new.options ≡ old.options)
    (run : new.run.now ≡ record old.run.now { inputs = new.run.now.inputs }) (counts : m.counts new.world.now ≡ m.counts old.world.now)
    (truth : AreTrue (begun_at o) old.graph.now old.run.now.inputs (m.around old.world.now) → AreTrue (begun_at o) old.graph.now new.run.now.inputs (m.around new.world.now))
    (gone : new.run.now.inputs.gone ≡ old.run.now.inputs.gone)
    (unread : AreUnread o old.graph.now old.run.now.inputs along.on.past → AreUnread o old.graph.now new.run.now.inputs along.on.past)
    (marks : KeepsMarks old.graph.now old.run.now.inputs old.graph.now new.run.now.inputs) where
  same_plan : new.run.now.plan ≡ old.run.now.plan
  same_plan = ap (λ (r : Run). r.plan) run

  same_held : new.run.now.held ≡ old.run.now.held
  same_held = ap (λ (r : Run). r.held) run

  book_on : StaysBooked (book_of old) (book_of new)
  book_on = book_as (book_of old) (book_of new) store same_held (ap (λ (r : Run). r.tickets) run)
      (λ e. sym (ap (λ (a : Account). a.is_store_shut) account) ∙ e)

  looks_on : LooksOn o along.on.past (standing_of m old) (standing_of m new)
  looks_on = record {
    plan = same_plan;
    records = ap (λ (s : Store). map_with s new.run.now.held) store ∙ ap (λ (all : List Busy). map_with old.store.now all) same_held;
    faulted = ap (λ (a : Account). is_faulted a) account;
    ended = ap (λ (a : Account). a.is_ended) account;
    around = asks;
    grows = record {
      more = [];
      nodes = ap (λ (g : RuleGraph). g.nodes) graph ∙ sym (append-nil old.graph.now.nodes);
      added = [];
      rules = ap (λ (g : RuleGraph). g.rules) graph ∙ sym (append-nil old.graph.now.rules);
    };
    now = λ is. subst (λ (g : RuleGraph). IsGraphNow (begun_at o) g) (sym graph) is;
    truth = λ is. subst (λ (g : RuleGraph). AreTrue (begun_at o) g new.run.now.inputs (m.around new.world.now)) (sym graph) (truth is);
    gone = gone;
    unread = λ is. subst (λ (g : RuleGraph). AreUnread o g new.run.now.inputs along.on.past) (sym graph) (unread is);
  }

  pub along_looked : IsAlong m o new
  along_looked = record {
    on = record {
      jobs = along.on.jobs;
      past = along.on.past;
      at = looked o outset along.on.jobs (standing_of m old) (standing_of m new) along.on.past along.on.at looks_on;
      began = λ busy path h made. along.on.began busy path (subst (λ (all : List Busy). Contains all busy) same_held h) made;
      booked = λ e.
          booked_as o (m.around new.world.now) along.on.past (book_of old) (book_of new) (book_on.keeps e)
          (asks_booked o outset along.on.jobs (m.around old.world.now) (m.around new.world.now) along.on.past along.on.at.way (book_of old) asks
          (along.on.booked (book_on.unshut e)));
    };
    asked = subst (λ (x : Options). AreAsked o x) (sym options) along.asked;
    well = λ e.
        let well = along.well (sym (ap (λ (a : Account). a.is_ended) account) ∙ e) in
        record {
          unrisen = subst (λ (c : Counts). AreUnrisen o.wanted.keep o.counts c) (sym counts) well.unrisen;
          unshut = ap (λ (a : Account). a.is_store_shut) account ∙ well.unshut;
          looked = subst (λ (g : RuleGraph). AreGoneOver g new.run.now.inputs) (sym graph) (marks_kept old.graph.now old.run.now.inputs new.run.now.inputs marks well.looked);
        };
    halted = λ e. ap (λ (p : Planned). p.halted) same_plan ∙ along.halted (sym (ap (λ (a : Account). a.is_ended) account) ∙ e);
  }

-- ---- a rule that is found due, or not

module _ (o : Outset) (outset : IsOutset o) (jobs : List Given) (s : Standing) (past : List Step)
    (way : IsWay o.wanted o.kept o.counts o.before jobs s.around past) (known : Knows o s past)
    (rule : RuleId) (r : Rule) (rec : Rec) (weighed : IsWeighed o s rule r rec) where
  pub targets_are : rec.targets ≡ r.targets
  targets_are = own_targets o outset jobs s past way known rule r rec weighed

  -- what is found by the store's map over the files before a look is so now
  pub due_now : (store : Store) (held : List Busy) (inputs : Inputs) (around : Around) → Asks s.around around → HeldBegan o past held →
      AreOut store held → s.records ≡ map_with store held → (found : Bool) →
      found ≡ is_due r s.around.tree (stamp_of s.around) (records_in (map_of store)) (record_in rec) →
      found ≡ is_due_now (record s { inputs = inputs; around = around }) r rec
  due_now store held inputs around asks has outs same found is =
      let free = target_free o outset jobs s past way known rule r rec weighed in
      is
      ∙ due_agrees r s.around.tree around.tree (stamp_of s.around) (stamp_of around) (records_in (map_of store)) (records_in s.records) (record_in rec)
      (λ path m. sym (asks.files path (free path m)))
      (λ path m. sym (stamp_at s.around around asks path (free path m)))
      (λ path m. ap (λ (kept : Option Rec). option_map record_in kept)
      (sym (ap (λ (records : Map). records path) same
      ∙ map_beside store held path outs (held_apart o outset jobs s past way known rule r rec weighed held has path m))))

-- the plan is told the same where the account alone is another
pub told_before : (was : Standing) (faulted ended : Bool) (s : Standing) (event : PlanEvent) → (was.faulted ≡ true → faulted ≡ true) →
    IsTold (record was { faulted = faulted; ended = ended }) s event → IsTold was s event
told_before was faulted ended s event keeps t = record {
  step = t.step;
  goes = t.goes;
  rest = t.rest;
  reports = record { stays = λ e. t.reports.stays (keeps e); told = t.reports.told };
}

-- an end isn't taken back
pub goes_before : (before after : Account) → KeepsEnds before after → after.is_ended ≡ false → before.is_ended ≡ false
goes_before before after keeps e = not_before before.is_ended after.is_ended keeps.ended e

-- before an end a plan may go on
pub not_ended : {W O E : Type 0} (m : Meaning W) (o : Outset) (site : Site W O E) → IsAlong m o site → site.run.now.plan.halted ≡ false →
    site.account.now.is_ended ≡ false
not_ended m o site along goes = by site.account.now.is_ended refl
  where
    by : (b : Bool) → site.account.now.is_ended ≡ b → b ≡ false
    by true was = true_false (sym (along.halted was) ∙ goes)
    by false was = refl

-- the same is kept of files
pub marks_here : (g : RuleGraph) (inputs : Inputs) → KeepsMarks g inputs g inputs
marks_here g inputs = record { marked = refl; settled = λ node e. e; ruled = λ node number e. e; unruled = λ node was e. e }

module _ {W O E : Type 0} (m : Meaning W) (o : Outset) (outset : IsOutset o) (site : Site W O E) (along : IsAlong m o site) where
  -- a rule is up to date
  pub fresh_on : (rule : RuleId) (rec : Rec) (due : IsDue m o site rule rec) → is_due_now (standing_of m site) due.model rec ≡ false →
      GoesOn m o site (told.Fresh rule)
  fresh_on rule rec due not_due = record {
    told = λ s t stays. record {
      jobs = along.on.jobs;
      past = Fresh due.model ∷ along.on.past;
      at = found_fresh o outset along.on.jobs (standing_of m site) s along.on.past rule due.model rec along.on.at due.weighed not_due t;
      began = along.on.began;
      booked = λ e.
          subst (λ (a : Around). AreBooked o a (Fresh due.model ∷ along.on.past) (book_of site)) (sym (ap (λ (x : Standing). x.around) t.rest))
          (fresh_booked o (m.around site.world.now) along.on.past (book_of site) due.model
          (decided o outset along.on.jobs (standing_of m site) along.on.past along.on.at.way (along.on.at.knows due.weighed.goes_on) rule due.model
          rec due.weighed).not_began (along.on.booked e));
    };
    ends = λ e. true_false (sym e);
    goes = refl;
    reported = along.on.at.told;
    well = along.well;
  }

-- what a look at a rule that is due tells of it
module _ {W O E : Type 0} (m : Meaning W) (o : Outset) (outset : IsOutset o) (site : Site W O E) (along : IsAlong m o site)
    (rule : RuleId) (rec : Rec) (due : IsDue m o site rule rec) (world : W)
    (asks : Asks (m.around site.world.now) (m.around world)) where
  known_here : Knows o (standing_of m site) along.on.past
  known_here = along.on.at.knows due.weighed.goes_on

  pub weighed_now : IsWeighed o (record (standing_of m site) { inputs = site.run.now.inputs; around = m.around world }) rule due.model rec
  weighed_now =
      weighed_on o outset along.on.jobs (standing_of m site) along.on.past along.on.at.way known_here rule due.weighed.chosen.next
      site.run.now.inputs (m.around world) asks due.model rec due.weighed

  -- whether it is stale
  pub found_now : IsSound m site → ((disk : W) → m.tells disk → IsImage m disk (m.seen disk)) → m.tells site.world.now → (found : Bool) →
      (AreIdle (m.around site.world.now) rec.targets → HaveOwnDigests (map_of site.store.now) → HasOwnDigests rec →
      FindsDue site.graph.now rule.0 (map_of site.store.now) rec (m.around site.world.now) (Ok found)) →
      found ≡ is_due_now (record (standing_of m site) { inputs = site.run.now.inputs; around = m.around world }) due.model rec
  found_now sound reads_as tells found finds =
      let on = along.on in
      let s = standing_of m site in
      let unshut = (along.well due.weighed.goes_on).unshut in
      let own = own_digests m site.world.now site.store.now reads_as tells (sound.stored.kept unshut) in
      let is = finds (targets_idle o outset on.jobs s on.past on.at.way known_here rule due.model rec due.weighed) own due.own
      (begun_at o) due.model known_here.now.grown due.weighed.is (targets_are o outset on.jobs s on.past on.at.way known_here rule due.model rec due.weighed) in
      due_now o outset on.jobs s on.past on.at.way known_here rule due.model rec due.weighed site.store.now site.run.now.held site.run.now.inputs
      (m.around world) asks on.began (outs_front site.store.now site.run.now.held site.run.now.tickets (sound.stored.outs unshut)) refl found is
