-- What a build decides by what its rule reads.
use Rattle.std.proofs.Common.{◌≡◌, ◌∙◌, ◌<◌, true, false, Bool, List, [], ◌∷◌, Some, length, refl, sym, subst, ap}
use Rattle.std.specs.Prelude.{Result, Ok, IfOk, slice_get}
use Rattle.scons_base.specs.declared.ids.NodeId.{NodeId}
use Rattle.scons_base.specs.declared.ids.RuleId.{RuleId}
use Rattle.world_api.specs.Around.{Around, IsRunningTarget}
use Rattle.world_api.specs.Calls.{Asks}
use Rattle.world_api.specs.Meaning.{Meaning}
use Rattle.deciders.specs.declared.recorded.Rec.{Rec}
use Rattle.sign_store.specs.Putting.{map_with}
use Rattle.rule_graph.specs.Graphs.{path_of}
use Rattle.task_plan.specs.Settled.{deps_of}
use Rattle.task_plan.specs.declared.want.PlanEvent.TheVariants as told
use Rattle.build_model.specs.Rules.{Path, Rule, Among, here}
use Rattle.build_model.specs.Steps.{IsLacking, Lacks}
use Rattle.build_model.proofs.Lists.{true_false, among_same, among_left, among_right, some_same}
use Rattle.build_means.specs.Grown.{Begun, rule_numbered}
use Rattle.build_means.specs.Present.{IsFirstAbsent}
use Rattle.build_means.specs.Rules.{paths_of}
use Rattle.build_files.specs.Firsts.{first_target_of}
use Rattle.build_files.specs.Presence.{AreStill, IsPresentFor}
use Rattle.build_files.specs.declared.end.ListEnd.{ListEnd}
use Rattle.build_files.specs.declared.record.Present.{Present}
use Rattle.build_files.specs.declared.record.Present.TheVariants as present
use Rattle.plan_means.proofs.Deciding.{may_be_decided}
use Rattle.scons_report.proofs.Found.{path_at}
use Rattle.turn_means.specs.Recording.{build_at}
use Rattle.turn_means.proofs.Deciding.{tied}
use Rattle.turn_means.specs.Standing.{Outset, IsOutset, begun_at, setting_at, Standing, Knows, IsAt}
use Rattle.turn_means.specs.Laws.{HasMet, IsChosen, IsTold, IsWeighed}
use Rattle.turn_means.proofs.Turns.{lacks}
use Rattle.build_run.specs.Along.{GoesOn, IsAlong, IsDue, IsOn, KeepsEnds, Presents, is_faulted, standing_of}
use Rattle.build_run.specs.Faulted.{IsWithout}
use Rattle.build_run.specs.Sites.{most_jobs}
use Rattle.build_run.specs.declared.building.Options.{Options}
use Rattle.build_run.specs.declared.site.Run.{Run}
use Rattle.build_run.specs.declared.site.Site.{Site}
use Rattle.build_run.specs.Books.{AreBooked, book_of}
use Rattle.build_run.proofs.Booking.{lacks_booked, shut_on}
use Rattle.build_run.proofs.Unstarted.{own_first, source_same}
use Rattle.build_run.proofs.Choosing.{along_looked, deps_still, goes_before, looked_for, not_ended, numbered_rule, paths_still, told_before, unread_still, weighed_on}

-- the first that is missing is so still behind a look
absent_on : (b : Begun) (paths : List Path) (old new : Around) (path : Path) → Asks old new →
    ((p : Path) → Among p paths → IsRunningTarget old.running p → ⊥) → IsFirstAbsent b paths old.tree path → IsFirstAbsent b paths new.tree path
absent_on b paths old new path asks free absent = record {
  front = absent.front;
  rest = absent.rest;
  parts = absent.parts;
  is_missing = record {
    no_rule = absent.is_missing.no_rule;
    no_file = asks.files path (free path (among_same (sym absent.parts) (among_right absent.front here))) ∙ absent.is_missing.no_file;
  };
  front_there = λ other m missing.
      absent.front_there other m (record {
        no_rule = missing.no_rule;
        no_file =
            sym (asks.files other (free other (among_same (sym absent.parts) (among_left (path ∷ absent.rest) m))))
            ∙ missing.no_file;
      });
}

module _ {W O E : Type 0} (m : Meaning W) (o : Outset) (outset : IsOutset o) (old new : Site W O E) (along : IsAlong m o old)
    (rule : RuleId) (chosen : IsChosen old.run.now.plan rule) (asks : Asks (m.around old.world.now) (m.around new.world.now))
    (graph : new.graph.now ≡ old.graph.now) (store : new.store.now ≡ old.store.now) (account : new.account.now ≡ old.account.now)
    (options : new.options ≡ old.options) (run : new.run.now ≡ record old.run.now { inputs = new.run.now.inputs })
    (tells : m.tells new.world.now) (result : Result Present ListEnd)
    (presents : Presents m old.graph.now old.run.now old.world.now rule new.run.now new.world.now result)
    (counts : m.counts new.world.now ≡ m.counts old.world.now) where
  goes_on : old.account.now.is_ended ≡ false
  goes_on = not_ended m o old along chosen.next.goes

  known : Knows o (standing_of m old) along.on.past
  known = along.on.at.knows goes_on

  still : AreStill old.graph.now (m.around old.world.now) (deps_of old.run.now.plan.rules rule.0)
  still = deps_still o outset along.on.jobs (standing_of m old) along.on.past along.on.at.way known rule chosen.next

  free : (path : Path) → Among path (paths_of old.graph.now (deps_of old.run.now.plan.rules rule.0)) →
      IsRunningTarget (m.around old.world.now).running path → ⊥
  free = paths_still o outset along.on.jobs (standing_of m old) along.on.past along.on.at.way known rule chosen.next

  model : (r : Rule) × (rule_numbered (begun_at o) old.graph.now rule.0 ≡ Some r)
  model = numbered_rule o outset along.on.jobs (standing_of m old) along.on.past along.on.at.way known rule chosen.next

  pub along_present : IsAlong m o new
  along_present =
      along_looked m o outset old new along asks graph store account options run counts
      (λ is. presents.truth still tells (begun_at o) is) presents.gone
      (λ unread. unread_still o outset along.on.jobs (standing_of m old) along.on.past along.on.at.way known rule chosen.next
      old.run.now.inputs new.run.now.inputs presents.only unread)
      presents.marks

  abbrev Now : Standing
  Now = record (standing_of m old) { inputs = new.run.now.inputs; around = m.around new.world.now }

  same_standing : standing_of m new ≡ Now
  same_standing = (λ i. record {
    graph = graph i;
    inputs = new.run.now.inputs;
    plan = (run i).plan;
    records = map_with (store i) ((run i).held);
    faulted = is_faulted (account i);
    ended = (account i).is_ended;
    around = m.around new.world.now;
  })

  -- what is read, where nothing is looked past
  read : (present : Present) → result ≡ Ok present →
      IsPresentFor old.graph.now rule.0 (deps_of old.run.now.plan.rules rule.0) [] (m.around old.world.now) (begun_at o) present
  read present ok =
      subst (λ (keys : List Path). IsPresentFor old.graph.now rule.0 (deps_of old.run.now.plan.rules rule.0) keys (m.around old.world.now) (begun_at o) present)
      known.none_gone
      (subst (λ (r : Result Present ListEnd). IfOk r (IsPresentFor old.graph.now rule.0 (deps_of old.run.now.plan.rules rule.0)
      old.run.now.inputs.gone.keys (m.around old.world.now) (begun_at o))) ok
      (presents.present still tells (begun_at o) known.truth))

  -- a rule all of whose dependencies are there may start
  pub due_present : (rec : Rec) → result ≡ Ok (present.Record rec) → HasMet (m.around old.world.now) →
      length old.run.now.tickets < most_jobs old.options → IsDue m o new rule rec
  due_present rec ok met room =
      let is = read (present.Record rec) ok model.0 model.1 in
      record {
        room =
            subst (λ (x : Options). length new.run.now.tickets < most_jobs x) (sym options)
            (subst (λ (r : Run). length r.tickets < most_jobs old.options) (sym run) room);
        own = is.1;
        model = model.0;
        weighed =
            subst (λ (s : Standing). IsWeighed o s rule model.0 rec) (sym same_standing)
            (weighed_on o outset along.on.jobs (standing_of m old) along.on.past along.on.at.way known rule chosen.next
            new.run.now.inputs (m.around new.world.now) asks model.0 rec
            (record { goes_on = goes_on; met = met; chosen = chosen; is = model.1; present = is.0 }));
      }

  -- or one of them is missing
  pub lacks_told : (node : NodeId) → result ≡ Ok (present.Lacks node) → (faulted ended : Bool) →
      (is_faulted old.account.now ≡ true → faulted ≡ true) → faulted ≡ true → (ended ≡ false → o.wanted.keep ≡ true) →
      (s : Standing) → IsTold (record (standing_of m new) { faulted = faulted; ended = ended }) s (told.Absent rule node) →
      (ended ≡ true → s.ended ≡ true) → IsOn o (book_of new) s
  lacks_told node ok faulted ended keeps is_so keep s t stays =
      let is = read (present.Lacks node) ok model.0 model.1 in
      let path = path_of old.graph.now.nodes node in
      let absent = absent_on (begun_at o) (paths_of old.graph.now (deps_of old.run.now.plan.rules rule.0)) (m.around old.world.now) (m.around new.world.now)
      path asks free
      (is.1 (looked_for o outset along.on.jobs (standing_of m old) along.on.past along.on.at.way known rule chosen.next node is.0)) in
      let at = subst (λ (x : Standing). IsAt o along_present.on.jobs x along_present.on.past) same_standing along_present.on.at in
      let is_told = told_before Now faulted ended s (told.Absent rule node) keeps
      (subst (λ (x : Standing). IsTold (record x { faulted = faulted; ended = ended }) s (told.Absent rule node)) same_standing t) in
      record {
        jobs = along_present.on.jobs;
        past = Lacks model.0 path ∷ along_present.on.past;
        at = lacks o outset along_present.on.jobs Now s along_present.on.past rule node model.0 path at goes_on chosen.next model.1 absent is_told
            (t.reports.stays is_so) (λ e. keep (goes_with ended s.ended stays e));
        began = along_present.on.began;
        booked = λ e.
            subst (λ (a : Around). AreBooked o a (Lacks model.0 path ∷ along_present.on.past) (book_of new))
            (sym (ap (λ (x : Standing). x.around) t.rest))
            (lacks_booked o (m.around new.world.now) along_present.on.past (book_of new) model.0 path (along_present.on.booked e));
      }
    where
      goes_with : (ended now : Bool) → (ended ≡ true → now ≡ true) → now ≡ false → ended ≡ false
      goes_with true now stays e = true_false (sym (stays refl) ∙ e)
      goes_with false now stays e = refl

-- on this way the rule lacks it, and it was missing as the build began
pub lacks_then : {W O E : Type 0} (m : Meaning W) (o : Outset) → IsOutset o → (old : Site W O E) (along : IsAlong m o old) (rule : RuleId) →
    IsChosen old.run.now.plan rule → (run : Run) (after : W) → m.tells after → (result : Result Present ListEnd) →
    Presents m old.graph.now old.run.now old.world.now rule run after result → (node : NodeId) → result ≡ Ok (present.Lacks node) → (path target : Path) →
    slice_get old.graph.now.nodes node.0 ≡ Some path → first_target_of old.graph.now rule.0 ≡ Some target → IsWithout o path target
lacks_then m o outset old along rule chosen run after tells result presents node ok path target at named =
    let known = along.on.at.knows (not_ended m o old along chosen.next.goes) in
    let around = m.around old.world.now in
    let deps = deps_of old.run.now.plan.rules rule.0 in
    let there = path_of old.graph.now.nodes node in
    let still = deps_still o outset along.on.jobs (standing_of m old) along.on.past along.on.at.way known rule chosen.next in
    let model = numbered_rule o outset along.on.jobs (standing_of m old) along.on.past along.on.at.way known rule chosen.next in
    let read : IsPresentFor old.graph.now rule.0 deps [] around (begun_at o) (present.Lacks node) =
    subst (λ (keys : List Path). IsPresentFor old.graph.now rule.0 deps keys around (begun_at o) (present.Lacks node)) known.none_gone
    (subst (λ (r : Result Present ListEnd). IfOk r (IsPresentFor old.graph.now rule.0 deps old.run.now.inputs.gone.keys around (begun_at o))) ok
    (presents.present still tells (begun_at o) known.truth)) in
    let is = read model.0 model.1 in
    let absent = is.1 (looked_for o outset along.on.jobs (standing_of m old) along.on.past along.on.at.way known rule chosen.next node is.0) in
    let none = absent.is_missing in
    let may = may_be_decided (begun_at o) old.graph.now o.wanted.requested (build_at o around) along.on.past old.run.now.plan
    (tied o outset along.on.jobs (standing_of m old) along.on.past along.on.at.way known) rule.0 chosen.next.can chosen.next.goes in
    subst (λ (p : Path). IsWithout o p target) (path_at old.graph.now node path at) (record {
      rule = model.0;
      own = own_first (begun_at o) old.graph.now known.now rule.0 model.0 model.1 target named;
      lacks = record {
        jobs = along.on.jobs;
        around = around;
        past = along.on.past;
        way = along.on.at.way;
        lacks = subst (λ (r : Rule). IsLacking (setting_at o) (build_at o around) along.on.past r there) (some_same (sym may.is ∙ model.1)) (may.lacks there absent);
      };
      missing = record {
        no_rule = none.no_rule;
        no_file = source_same o outset along.on.jobs around along.on.past along.on.at.way there none.no_rule ∙ none.no_file;
      };
    })

-- behind a fault of that the build goes on, or not
module _ {W O E : Type 0} (m : Meaning W) (o : Outset) (outset : IsOutset o) (old last : Site W O E) (along : IsAlong m o old)
    (rule : RuleId) (chosen : IsChosen old.run.now.plan rule) (asks : Asks (m.around old.world.now) (m.around last.world.now))
    (graph : last.graph.now ≡ old.graph.now) (store : last.store.now ≡ old.store.now) (options : last.options ≡ old.options)
    (run : last.run.now ≡ record old.run.now { inputs = last.run.now.inputs }) (tells : m.tells last.world.now)
    (result : Result Present ListEnd)
    (presents : Presents m old.graph.now old.run.now old.world.now rule last.run.now last.world.now result)
    (counts : m.counts last.world.now ≡ m.counts old.world.now) (node : NodeId) (ok : result ≡ Ok (present.Lacks node))
    (ends : KeepsEnds old.account.now last.account.now) (faulted : is_faulted last.account.now ≡ true)
    (goes : last.account.now.is_ended ≡ false → old.options.keep ≡ true)
    (shut : last.account.now.is_store_shut ≡ old.account.now.is_store_shut) where
  here_along : IsAlong m o (record last { account = old.account })
  here_along =
      along_present m o outset old (record last { account = old.account }) along rule chosen asks graph store refl options run tells
      result presents counts

  pub lacks_on : GoesOn m o last (told.Absent rule node)
  lacks_on = record {
    told = λ s t stays.
        shut_on o (book_of (record last { account = old.account })) last.account.now.is_store_shut s shut
        (lacks_told m o outset old (record last { account = old.account }) along rule chosen asks graph store refl options run tells
        result presents counts node ok (is_faulted last.account.now) last.account.now.is_ended ends.faulted faulted
        (λ e. sym along.asked.keep ∙ goes e) s t stays);
    ends = λ e. true_false (sym e);
    goes = refl;
    reported = ends.told along.on.at.told;
    well = λ e.
        let well = here_along.well (goes_before old.account.now last.account.now ends e) in
        record { unrisen = well.unrisen; unshut = shut ∙ well.unshut; looked = well.looked };
  }
