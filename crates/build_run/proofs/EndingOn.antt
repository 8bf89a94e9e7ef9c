-- How a build goes along behind an ending.
use Rattle.std.proofs.Common.{◌≡◌, ◌∙◌, ◌⊎◌, ◌++◌, ◌∷◌, [], ℕ, Bool, true, false, List, Some, Contains, length, ◌≤◌, ap, inl, inr, refl, subst, sym, arith}
use Rattle.std.proofs.lemmas.List.{length-map}
use Rattle.world_api.specs.Around.{Around, Running, IsRunningTarget}
use Rattle.world_api.specs.Calls.{Ends}
use Rattle.world_api.specs.Causes.{HasOutcomeCause}
use Rattle.world_api.specs.Counts.{Counts}
use Rattle.world_api.specs.Meaning.{Meaning}
use Rattle.world_api.specs.declared.job.Ended.{Ended}
use Rattle.world_api.specs.declared.job.Outcome.{Outcome}
use Rattle.world_api.specs.declared.job.Outcome.TheVariants.{Done, Failed, Broken, NoMemory}
use Rattle.scons_base.specs.declared.ids.RuleId.{RuleId}
use Rattle.deciders.specs.declared.recorded.Rec.{Rec}
use Rattle.sign_store.specs.Stores.{IsTicket}
use Rattle.sign_store.specs.Tables.{Map, with_each}
use Rattle.sign_store.specs.declared.store.Store.{Store}
use Rattle.task_plan.specs.declared.want.PlanEvent.TheVariants as told
use Rattle.rule_graph.specs.Graphs.{RuleGraph}
use Rattle.task_plan.specs.Plans.{Planned, is_halt, is_scan}
use Rattle.task_plan.specs.Watched.{IsStill}
use Rattle.task_plan.specs.declared.want.Want.TheVariants as want
use Rattle.task_plan.specs.declared.want.PlanEvent.{PlanEvent}
use Rattle.build_model.specs.Rules.{Path, Rule, Among, here}
use Rattle.build_model.specs.Steps as model
use Rattle.build_model.specs.Moments.{Job as Given}
use Rattle.build_model.specs.Steps.{Step, IsRunning, began, is_over, running}
use Rattle.build_model.specs.Waiting.{IsIdle}
use Rattle.build_model.proofs.Runs.{running_few}
use Rattle.build_model.proofs.Lists.{true_false, among_right, among_same}
use Rattle.build_means.specs.Builds.{Kept, jobs_at_once}
use Rattle.build_means.proofs.Lists.{map_among}
use Rattle.run_means.proofs.Lists.{among_contains}
use Rattle.build_means.specs.Logs.{AreUnrisen, is_done}
use Rattle.build_files.specs.Marked.{AreGoneOver}
use Rattle.build_files.specs.declared.inputs.Inputs.{Inputs}
use Rattle.plan_means.specs.Planning.{IsStep}
use Rattle.plan_means.proofs.Resting.{is_idle}
use Rattle.run_means.specs.Laws.{MayWait}
use Rattle.turn_means.specs.Standing.{Outset, IsOutset, begun_at, setting_at, Standing, IsAt}
use Rattle.turn_means.specs.Recording.{build_at}
use Rattle.turn_means.specs.Laws.{IsTold, IsToldEnding, IsEnded, told_by, told_of}
use Rattle.turn_means.proofs.Deciding.{tied}
use Rattle.turn_means.proofs.Jobs.{ended_own, ends_behind}
use Rattle.turn_means.proofs.Turns.{ends}
use Rattle.turn_means.proofs.Running.{run_so, runs_for}
use Rattle.build_run.specs.Along.{is_faulted, standing_of, HeldBegan, IsAlong, IsOn, IsWantedOf, GoesWell, GoesOn, MayTake, HasFailed, HoldsFewer, KeepsEnds, KeepsKnown, StandsPut, was_put, was_refused}
use Rattle.build_run.specs.Books.{AreBooked, book_of}
use Rattle.build_run.specs.Holds.{AreApart, Busy, hold_of, holds_in, holds_of}
use Rattle.build_run.specs.Outs.{IsTicketFor}
use Rattle.build_run.specs.Sites.{KeepsRecords, PutsRecord, most_jobs, records_of}
use Rattle.build_run.specs.declared.account.Account.{Account}
use Rattle.build_run.specs.declared.building.Options.{Options}
use Rattle.build_run.specs.declared.site.Site.{Site}
use Rattle.build_run.specs.declared.tickets.Hold.{Hold}
use Rattle.build_run.proofs.Booking.{StaysBooked, booked_as, ended_booked, ends_write, with_others}
use Rattle.build_run.proofs.Clearing.{clears_same}
use Rattle.build_run.proofs.Holding.{at_front, further, in_front, in_pushed}
use Rattle.build_run.proofs.Outs.{held_count, held_in}

-- what isn't so now wasn't before
pub not_before : (old new : Bool) → (old ≡ true → new ≡ true) → new ≡ false → old ≡ false
not_before true new keeps now = true_false (sym (keeps refl) ∙ now)
not_before false new keeps now = refl

-- what a running job keeps to itself is there because the job runs
run_of : (running : List Running) (hold : Hold) → Contains (holds_of running) hold → (run : Running) × Contains running run × (hold_of run ≡ hold)
run_of [] hold h = absurd (omega (arith, h.1))
run_of (run ∷ running) hold h = elim (in_front (holds_of running) (hold_of run) hold h) [
  | inl same ↦ (run, at_front running run, same)
  | inr more ↦
      let found = run_of running hold more in
      (found.0, further running run found.0 found.1, found.2)
]

-- what the rule of a ticket makes a running job makes
pub makes_there : (running : List Running) (tickets : List Busy) (busy : Busy) → holds_of running ≡ holds_in tickets → Contains tickets busy →
    (path : Path) → Contains busy.hold.targets path → IsRunningTarget running path
makes_there running tickets busy same among path h =
    let found = run_of running busy.hold (subst (λ (holds : List Hold). Contains holds busy.hold) (sym same) (held_in tickets busy among)) in
    (found.0, found.1, subst (λ (hold : Hold). Contains hold.targets path) (sym found.2) h)

-- a standing that changed in more
rest_of : (s : Standing) (g h : RuleGraph) (i j : Inputs) (r : Kept) (a : Around) → h ≡ g → j ≡ i →
    s ≡ record { graph = h; inputs = j; plan = s.plan; records = r; faulted = s.faulted; ended = s.ended; around = a } →
    s ≡ record { graph = g; inputs = i; plan = s.plan; records = s.records; faulted = s.faulted; ended = s.ended; around = s.around }
rest_of s g h i j r a graph inputs is =
    is
    ∙ ap (λ (x : RuleGraph). standing x j r a) graph
    ∙ ap (λ (x : Inputs). standing g x r a) inputs
    ∙ ap (λ (x : Kept). standing g i x a) (sym (ap (λ (t : Standing). t.records) is))
    ∙ ap (λ (x : Around). standing g i s.records x) (sym (ap (λ (t : Standing). t.around) is))
  where
    standing : RuleGraph → Inputs → Kept → Around → Standing
    standing x y z w = record { graph = x; inputs = y; plan = s.plan; records = z; faulted = s.faulted; ended = s.ended; around = w }

step_as : (g h : RuleGraph) (p q after : Planned) (event other : PlanEvent) → h ≡ g → q ≡ p → event ≡ other → IsStep h q event after → IsStep g p other after
step_as g h p q after event other graph plan same step =
    subst (λ (e : PlanEvent). IsStep g p e after) same
    (subst (λ (x : Planned). IsStep g x event after) plan (subst (λ (x : RuleGraph). IsStep x q event after) graph step))

looked_as : (g h : RuleGraph) (i j : Inputs) → h ≡ g → j ≡ i → AreGoneOver g i → AreGoneOver h j
looked_as g h i j graph inputs looked =
    subst (λ (x : RuleGraph). AreGoneOver x j) (sym graph) (subst (λ (x : Inputs). AreGoneOver g x) (sym inputs) looked)

-- What is so behind an ending that was taken.
pub record IsTakenOn {W O E : Type 0} (m : Meaning W) (o : Outset) (old new : Site W O E) (busy : Busy) (ended : Ended) (event : PlanEvent) : Type 0 where
  pub known : KeepsKnown old new
  pub ends : KeepsEnds old.account.now new.account.now
  pub held : HoldsFewer (old.run.now.held ++ busy ∷ []) new.run.now.held
  pub among : Contains old.run.now.tickets busy
  pub is_told : event ≡ told_of ended
  pub goes : is_halt event ≡ false
  pub no_scan : is_scan event ≡ false
  pub failed : is_done ended.outcome ≡ false → is_faulted new.account.now ≡ true
  pub keeps : is_done ended.outcome ≡ false → new.account.now.is_ended ≡ false → old.options.keep ≡ true
  pub counts : new.account.now.is_ended ≡ false → AreUnrisen o.wanted.keep o.counts (m.counts old.world.now) →
      AreUnrisen o.wanted.keep o.counts (m.counts new.world.now)
  pub unshut : new.account.now.is_ended ≡ false → new.account.now.is_store_shut ≡ old.account.now.is_store_shut
  pub records : new.account.now.is_store_shut ≡ false → (path : Path) → (Contains busy.hold.targets path → ⊥) →
      records_of new path ≡ records_of old path
  pub id : busy.hold.rule.0 ≡ ended.id
  pub open_before : new.account.now.is_store_shut ≡ false → old.account.now.is_store_shut ≡ false
  pub puts : is_done ended.outcome ≡ true → PutsRecord busy.ticket old new
  pub kept : is_done ended.outcome ≡ false → KeepsRecords old new
  pub running : (one : Busy) → Contains new.run.now.tickets one → Contains old.run.now.tickets one
  pub tickets : new.account.now.is_store_shut ≡ false → (one : Busy) (rec : Rec) → Contains new.run.now.tickets one →
      IsTicket old.store.now rec one.ticket → IsTicket new.store.now rec one.ticket

-- no two of them have one number
apart_one : (holds : List Hold) (one other : Hold) → AreApart holds → Contains holds one → Contains holds other → one.rule.0 ≡ other.rule.0 →
    one ≡ other
apart_one [] one other apart h k e = absurd (omega (arith, h.1))
apart_one (hold ∷ holds) one other apart h k e = elim (in_front holds hold one h) [
  | inl same ↦ elim (in_front holds hold other k) [
    | inl is ↦ sym same ∙ is
    | inr more ↦ absurd (apart.0 other more (sym e ∙ ap (λ (x : Hold). x.rule.0) (sym same)))
  ]
  | inr front ↦ elim (in_front holds hold other k) [
    | inl is ↦ absurd (apart.0 one front (e ∙ ap (λ (x : Hold). x.rule.0) (sym is)))
    | inr more ↦ apart_one holds one other apart.1 front more e
  ]
]

-- the job that ended is that of its number
hold_in : (all : List Running) (which : Running) → Among which all → Contains (holds_of all) (hold_of which)
hold_in all which m = among_contains (map_among hold_of m)

module _ {W O E : Type 0} (m : Meaning W) (o : Outset) (outset : IsOutset o) (old new : Site W O E) (busy : Busy) (ended : Ended) (event : PlanEvent)
    (may : MayTake m o old) (is : IsTakenOn m o old new busy ended event)
    (joined : holds_of (m.around old.world.now).running ≡ holds_in old.run.now.tickets) (apart : AreApart (holds_in old.run.now.tickets))
    (Sure : Type 0) (sure : Sure) (ends : Ends Sure ended (m.around old.world.now) (m.around new.world.now)) where
  makes : (path : Path) → Contains busy.hold.targets path → IsRunningTarget (m.around old.world.now).running path
  makes = makes_there (m.around old.world.now).running old.run.now.tickets busy joined is.among

  -- where the build goes on it did before
  went_on : new.account.now.is_ended ≡ false → old.account.now.is_ended ≡ false
  went_on = not_before old.account.now.is_ended new.account.now.is_ended is.ends.ended

  unshut_now : new.account.now.is_ended ≡ false → new.account.now.is_store_shut ≡ false
  unshut_now e = is.unshut e ∙ (may.well (went_on e)).unshut

  began_behind : HeldBegan o may.on.past new.run.now.held
  began_behind one path h target = by (in_pushed old.run.now.held busy one (is.held one h))
    where
      by : Contains old.run.now.held one ⊎ (busy ≡ one) → (r : Rule) × ((setting_at o).rule_of path ≡ Some r) × Among r (began may.on.past)
      by (inl before) = may.on.began one path before target
      by (inr same) =
          let runs = runs_for o outset may.on.jobs (m.around old.world.now) may.on.past may.on.at.way
          (makes path (subst (λ (b : Busy). Contains b.hold.targets path) (sym same) target)) in
          (runs.0, runs.1, runs.2.began)

  module _ (s : Standing) (told : IsTold (standing_of m new) s event) (stays : new.account.now.is_ended ≡ true → s.ended ≡ true) where
    ended_still : s.ended ≡ false → new.account.now.is_ended ≡ false
    ended_still = not_before new.account.now.is_ended s.ended stays

    told_behind : s.ended ≡ false → IsToldEnding (standing_of m old) s ended
    told_behind e = record {
      step = step_as old.graph.now new.graph.now old.run.now.plan new.run.now.plan s.plan event (told_of ended) is.known.graph is.known.plan
          is.is_told told.step;
      rest = rest_of s old.graph.now new.graph.now old.run.now.inputs new.run.now.inputs (records_of new) (m.around new.world.now) is.known.graph is.known.inputs told.rest;
      records = λ path free. ap (λ (t : Standing). t.records path) told.rest ∙ is.records (unshut_now (ended_still e)) path (λ h. free (makes path h));
    }

    is_ended : IsEnded o (standing_of m old) s ended
    is_ended = record {
      reports = record { stays = λ e. told.reports.stays (is.ends.faulted e); told = told.reports.told };
      stays = λ e. stays (is.ends.ended e);
      goes = told.goes ∙ ap (λ p. p.halted) is.known.plan;
      failed = λ e. told.reports.stays (is.failed e);
      keeps = λ e goes. sym may.asked.keep ∙ is.keeps e (ended_still goes);
      told = told_behind;
    }

    ends_now : Ends Sure ended (m.around old.world.now) s.around
    ends_now = subst (λ (a : Around). Ends Sure ended (m.around old.world.now) a) (sym (ap (λ (t : Standing). t.around) told.rest)) ends

    -- its hold is that of the ticket
    which_hold : (which : Running) (front back : List Running) → (m.around old.world.now).running ≡ front ++ which ∷ back →
        ended.id ≡ which.job.id → busy.hold ≡ hold_of which
    which_hold which front back was id =
        let there_runs : Among which (m.around old.world.now).running = among_same (sym was) (among_right front here) in
        apart_one (holds_in old.run.now.tickets) busy.hold (hold_of which) apart (held_in old.run.now.tickets busy is.among)
        (subst (λ (holds : List Hold). Contains holds (hold_of which)) joined (hold_in (m.around old.world.now).running which there_runs))
        (is.id ∙ id)

    on_behind : IsOn o (book_of new) s
    on_behind =
        let behind = ends_behind o outset may.on.jobs (standing_of m old) s may.on.past ended may.on.at may.wait Sure sure ends_now is_ended in
        record {
          jobs = may.on.jobs;
          past = model.Ended behind.rule (is_done ended.outcome) ∷ may.on.past;
          at = behind.stands;
          began = began_behind;
          booked = λ e.
              let own = ended_own o outset may.on.jobs (standing_of m old) s may.on.past ended may.on.at may.wait Sure sure ends_now is_ended in
              ended_booked o outset may.on.jobs (m.around old.world.now) s.around may.on.past may.on.at.way behind.rule own.runs
              (ends_write Sure ended (m.around old.world.now) s.around ends_now) (book_of old) (book_of new) (may.on.booked (is.open_before e))
              busy is.among (ap (λ (h : Hold). h.targets) (which_hold ends_now.which ends_now.front ends_now.back ends_now.was ends_now.id) ∙ own.job_of.targets)
              is.running (is.tickets e) (is_done ended.outcome) (λ failed. is.kept failed e) (λ well. is.puts well e);
        }

  pub taken_on : GoesOn m o new event
  taken_on = record {
    told = on_behind;
    ends = λ scan. true_false (sym scan ∙ is.no_scan);
    goes = is.goes;
    reported = is.ends.told may.on.at.told;
    well = λ e.
        let was = may.well (went_on e) in
        record { unrisen = is.counts e was.unrisen; unshut = unshut_now e; looked = looked_as old.graph.now new.graph.now old.run.now.inputs new.run.now.inputs is.known.graph is.known.inputs was.looked };
  }

-- ---- how records are put

module _ {W O E : Type 0} (m : Meaning W) (old new : Site W O E) where
  pub put_ends : StandsPut m old new → KeepsEnds old.account.now new.account.now
  put_ends (was_put account counts) = record {
    faulted = λ e. ap is_faulted account ∙ e;
    ended = λ e. ap (λ (a : Account). a.is_ended) account ∙ e;
    told = λ told e. ap is_faulted account ∙ told (sym (ap (λ (a : Account). a.is_ended) account) ∙ e);
  }
  put_ends (was_refused end) = record { faulted = λ e. end.faulted; ended = λ e. end.ended; told = λ told e. end.faulted }

  pub put_counts : StandsPut m old new → new.account.now.is_ended ≡ false → m.counts new.world.now ≡ m.counts old.world.now
  put_counts (was_put account counts) e = counts
  put_counts (was_refused end) e = true_false (sym end.ended ∙ e)

  pub put_unshut : StandsPut m old new → new.account.now.is_ended ≡ false → new.account.now.is_store_shut ≡ old.account.now.is_store_shut
  put_unshut (was_put account counts) e = ap (λ (a : Account). a.is_store_shut) account
  put_unshut (was_refused end) e = true_false (sym end.ended ∙ e)

-- ---- what an outcome says

pub was_done : (outcome : Outcome) → outcome ≡ Done → is_done outcome ≡ true
was_done outcome e = ap is_done e

pub done_is : (outcome : Outcome) → is_done outcome ≡ true → outcome ≡ Done
done_is Done e = refl
done_is (Failed code) e = true_false (sym e)
done_is Broken e = true_false (sym e)
done_is NoMemory e = true_false (sym e)

pub was_not_done : (outcome : Outcome) → (outcome ≡ Done → ⊥) → is_done outcome ≡ false
was_not_done Done other = absurd (other refl)
was_not_done (Failed code) other = refl
was_not_done Broken other = refl
was_not_done NoMemory other = refl

pub told_done : (rule : RuleId) (ended : Ended) → rule.0 ≡ ended.id → ended.outcome ≡ Done → told.DoneOk rule ≡ told_of ended
told_done rule ended same e = ap (λ id. told.DoneOk (record { 0 = id })) same ∙ ap (told_by (record { 0 = ended.id })) (sym (was_done ended.outcome e))

pub told_failed : (rule : RuleId) (ended : Ended) → rule.0 ≡ ended.id → (ended.outcome ≡ Done → ⊥) → told.DoneFailed rule ≡ told_of ended
told_failed rule ended same e =
    ap (λ id. told.DoneFailed (record { 0 = id })) same ∙ ap (told_by (record { 0 = ended.id })) (sym (was_not_done ended.outcome e))

pub unrisen_as : (keep : Bool) (start old new : Counts) → new ≡ old → AreUnrisen keep start old → AreUnrisen keep start new
unrisen_as keep start old new same are = subst (AreUnrisen keep start) (sym same) are

-- an action that was done counts as nothing
pub unrisen_done : (keep : Bool) (start old new : Counts) (outcome : Outcome) → outcome ≡ Done → HasOutcomeCause outcome old new →
    AreUnrisen keep start old → AreUnrisen keep start new
unrisen_done keep start old new outcome e cause are =
    unrisen_as keep start old new (subst (λ (out : Outcome). HasOutcomeCause out old new) e cause) are

-- and one that failed as no more than that, in a build that goes on after it
pub unrisen_failed : (keep : Bool) (start old new : Counts) (outcome : Outcome) → keep ≡ true → HasFailed outcome → HasOutcomeCause outcome old new →
    AreUnrisen keep start old → AreUnrisen keep start new
unrisen_failed keep start old new Done keeps failed cause are = absurd failed
unrisen_failed keep start old new (Failed code) keeps failed cause are = record {
  disk = cause.disk ∙ are.disk;
  tree = cause.tree ∙ are.tree;
  start = cause.start ∙ are.start;
  action = λ none. true_false (sym keeps ∙ none);
}
unrisen_failed keep start old new Broken keeps failed cause are = absurd failed
unrisen_failed keep start old new NoMemory keeps failed cause are = absurd failed

-- a record that was put is that of what its rule makes
pub put_others : (store : Store) (busy : Busy) (old new : Map) (path : List ℕ) → IsTicketFor store busy.ticket busy.hold.targets →
    ((rec : Rec) → IsTicket store rec busy.ticket → new ≡ with_each rec.targets (Some rec) old) → (Contains busy.hold.targets path → ⊥) → new path ≡ old path
put_others store busy old new path ticket puts out =
    ap (λ (map : Map). map path) (puts ticket.rec ticket.out.own)
    ∙ with_others ticket.rec.targets (Some ticket.rec) old path (λ h. out (subst (λ (paths : List (List ℕ)). Contains paths path) ticket.same h))

-- ---- why it may wait

-- what isn't so would be so only where the build had ended
pub not_so : (b : Bool) → (b ≡ true → true ≡ false) → b ≡ false
not_so true none = true_false (none refl)
not_so false none = refl

module _ (o : Outset) (outset : IsOutset o) (s : Standing) (on : (jobs : List Given) × (past : List Step) × IsAt o jobs s past)
    (tickets : List Busy) (most : ℕ) (asked : most ≡ jobs_at_once o.wanted.jobs) (joined : holds_of s.around.running ≡ holds_in tickets)
    (halts : s.ended ≡ true → s.plan.halted ≡ true) where
  abbrev Jobs : List Given
  Jobs = on.0

  abbrev Past : List Step
  Past = on.1

  at : IsAt o Jobs s Past
  at = on.2

  -- as many run as there are tickets
  run_each : running Past ≡ length tickets
  run_each = omega (arith, at.way.count, length-map s.around.running hold_of, ap length joined, held_count tickets)

  -- no more run than may
  run_few : running Past ≤ jobs_at_once o.wanted.jobs
  run_few = running_few (setting_at o) (build_at o s.around) Past (run_so o outset Jobs s.around Past at.way)

  idle_by : (ended : Bool) → s.ended ≡ ended → is_over false Past ≡ false → (s.plan.halted ≡ false → IsStill s.plan) →
      IsIdle (setting_at o) (build_at o s.around) Past
  idle_by true e goes still = true_false (sym (at.halted (halts e)).over ∙ goes)
  idle_by false e goes still =
      is_idle (begun_at o) s.graph o.wanted.requested (build_at o s.around) Past s.plan (tied o outset Jobs s Past at.way (at.knows e))
      (still (not_so s.plan.halted (λ h. sym (at.halted h).ended ∙ e)))

  pub may_wait : (most ≤ length tickets) ⊎ (s.plan.halted ≡ false → IsStill s.plan) → MayWait o.wanted o.kept o.before s.around Past
  may_wait (inl full) goes = inl (omega (arith, full, asked, run_each, run_few))
  may_wait (inr still) goes = inr (idle_by s.ended refl goes still)

-- ---- over the records that are put before

module _ {W O E : Type 0} (m : Meaning W) (o : Outset) (outset : IsOutset o) (old mid : Site W O E) (along : IsAlong m o old)
    (around : m.around mid.world.now ≡ m.around old.world.now) (options : mid.options ≡ old.options)
    (known : KeepsKnown old mid) (held : HoldsFewer old.run.now.held mid.run.now.held)
    (records : KeepsRecords old mid) (stands : StandsPut m old mid) (book : StaysBooked (book_of old) (book_of mid)) where
  -- where the build goes on only the records were put
  same_standing : mid.account.now ≡ old.account.now → records_of mid ≡ records_of old → standing_of m mid ≡ standing_of m old
  same_standing account kept = (λ i. record {
    graph = known.graph i;
    inputs = known.inputs i;
    plan = known.plan i;
    records = kept i;
    faulted = is_faulted (account i);
    ended = (account i).is_ended;
    around = around i;
  })

  ended_there : mid.account.now.is_ended ≡ true → IsAt o along.on.jobs (standing_of m mid) along.on.past
  ended_there e =
      ends o outset along.on.jobs (standing_of m old) (standing_of m mid) along.on.past along.on.at
      (clears_same [] (m.around old.world.now) (m.around mid.world.now) around) e
      ((put_ends m old mid stands).told along.on.at.told e) (ap (λ (p : Planned). p.halted) known.plan)

  at_by : (ended : Bool) → mid.account.now.is_ended ≡ ended → StandsPut m old mid → IsAt o along.on.jobs (standing_of m mid) along.on.past
  at_by true e put = ended_there e
  at_by false e (was_refused end) = true_false (sym end.ended ∙ e)
  at_by false e (was_put account counts) =
      let goes = sym (ap (λ (a : Account). a.is_ended) account) ∙ e in
      let unshut = ap (λ (a : Account). a.is_store_shut) account ∙ (along.well goes).unshut in
      subst (λ (s : Standing). IsAt o along.on.jobs s along.on.past) (sym (same_standing account (records unshut))) along.on.at

  -- the build stands where it stood
  pub put_on : IsOn o (book_of mid) (standing_of m mid)
  put_on = record {
    jobs = along.on.jobs;
    past = along.on.past;
    at = at_by mid.account.now.is_ended refl stands;
    began = λ busy path h. along.on.began busy path (held busy h);
    booked = λ e.
        subst (λ (a : Around). AreBooked o a along.on.past (book_of mid)) (sym around)
        (booked_as o (m.around old.world.now) along.on.past (book_of old) (book_of mid) (book.keeps e) (along.on.booked (book.unshut e)));
  }

  pub put_well : mid.account.now.is_ended ≡ false → GoesWell m o mid
  put_well e =
      let was = along.well (not_before old.account.now.is_ended mid.account.now.is_ended (put_ends m old mid stands).ended e) in
      record {
        unrisen = unrisen_as o.wanted.keep o.counts (m.counts old.world.now) (m.counts mid.world.now) (put_counts m old mid stands e) was.unrisen;
        unshut = put_unshut m old mid stands e ∙ was.unshut;
        looked = looked_as old.graph.now mid.graph.now old.run.now.inputs mid.run.now.inputs known.graph known.inputs was.looked;
      }

  pub may_take : holds_of (m.around old.world.now).running ≡ holds_in old.run.now.tickets →
      IsWantedOf (length old.run.now.tickets) (most_jobs old.options) old.run.now.plan want.Wait → MayTake m o mid
  unfolding put_on
  may_take joined wanted = record {
    on = put_on;
    wait =
        subst (λ (a : Around). MayWait o.wanted o.kept o.before a along.on.past) (sym around)
        (may_wait o outset (standing_of m old) (along.on.jobs, along.on.past, along.on.at) old.run.now.tickets (most_jobs old.options)
        along.asked.jobs joined along.halted wanted);
    asked = record {
      keep = ap (λ (x : Options). x.keep) options ∙ along.asked.keep;
      jobs = ap most_jobs options ∙ along.asked.jobs;
    };
    well = put_well;
  }
