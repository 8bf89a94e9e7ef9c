-- How a build stands behind a start, and behind one that was refused.
use Rattle.std.proofs.Common.{◌≡◌, ◌∙◌, ◌<◌, true, false, List, [], ◌∷◌, ◌++◌, Contains, length, inl, inr, refl, sym, subst, ap}
use Rattle.std.proofs.lemmas.List.{length-map}
use Rattle.std.specs.Prelude.{Result, Ok, Err, IsErrAnd}
use Rattle.scons_base.specs.declared.ids.NodeId.{NodeId}
use Rattle.scons_base.specs.declared.ids.RuleId.{RuleId}
use Rattle.world_api.specs.Around.{Around}
use Rattle.world_api.specs.Calls.{Asks, Starts}
use Rattle.world_api.specs.Counts.{Counts}
use Rattle.world_api.specs.Meaning.{Meaning}
use Rattle.world_api.specs.declared.job.Job.{Job}
use Rattle.deciders.specs.declared.recorded.Rec.{Rec}
use Rattle.rule_graph.specs.Graphs.{RuleGraph}
use Rattle.task_plan.specs.Plans.{Planned}
use Rattle.task_plan.specs.Settled.{deps_of}
use Rattle.task_plan.specs.declared.want.PlanEvent.{PlanEvent}
use Rattle.task_plan.specs.declared.want.PlanEvent.TheVariants.{Started}
use Rattle.build_model.specs.Rules.{Path, Record, there}
use Rattle.build_model.specs.Steps as model
use Rattle.build_model.specs.Steps.{Began, began}
use Rattle.build_model.proofs.Lists.{true_false}
use Rattle.build_means.specs.Builds.{jobs_at_once}
use Rattle.build_means.specs.Logs.{AreUnrisen}
use Rattle.build_files.specs.Kept.{Gives, SameGone, StaysTrue}
use Rattle.build_files.specs.Marked.{AreGoneOver, KeepsMarks}
use Rattle.build_files.specs.Presence.{AreStill, IsPresentFor}
use Rattle.build_files.specs.Reading.{ReadsOnly}
use Rattle.build_files.specs.declared.end.ListEnd.{ListEnd}
use Rattle.build_files.specs.declared.inputs.Inputs.{Inputs}
use Rattle.build_files.specs.declared.record.Present.{Present}
use Rattle.plan_means.specs.Planning.{IsStep}
use Rattle.run_means.specs.Clears.{Clears}
use Rattle.run_means.specs.Turns.{job_for}
use Rattle.run_means.proofs.Keeping.{none_there}
use Rattle.turn_means.specs.Standing.{Outset, IsOutset, Standing}
use Rattle.turn_means.specs.Laws.{IsJobFrom, IsTold, is_due_now}
use Rattle.turn_means.specs.Recording.{HasRecord}
use Rattle.turn_means.specs.Writing.{Writes}
use Rattle.sign_store.specs.Stores.{IsTicket}
use Rattle.turn_means.proofs.Jobs.{launches, refuses}
use Rattle.turn_means.proofs.Recording.{weighed_have}
use Rattle.run_means.proofs.Clearing.{calls_clear}
use Rattle.build_run.specs.Along.{AreAsked, EndsOn, GoesOn, GoesWell, HeldBegan, HoldsFewer, IsAlong, IsDue, IsOn, Leads, LeadsTo, Presents, is_faulted, standing_of}
use Rattle.build_run.specs.Books.{AreBooked, Book, book_of}
use Rattle.build_run.specs.Goings.{IsJoined, Launches}
use Rattle.build_run.specs.Holds.{Busy, hold_of, holds_in}
use Rattle.build_run.specs.Outs.{KeepsSome}
use Rattle.build_run.specs.Sites.{most_jobs}
use Rattle.build_run.specs.declared.site.Run.{Run}
use Rattle.build_run.specs.declared.site.Site.{Site}
use Rattle.build_run.specs.declared.tickets.Hold.{Hold}
use Rattle.build_run.proofs.Alongs.{ended_on as ends_on}
use Rattle.build_run.proofs.Booking.{KeepsBook, StaysBooked, TakesAway, began_booked, book_as, clears_write, kept_on, refused_booked, starts_write}
use Rattle.build_run.proofs.Outs.{held_count}

-- ---- what is present

pub presents_as : {W : Type 0} (m : Meaning W) (g : RuleGraph) (old new : Run) (world after : W) (rule : RuleId) (result : Result Present ListEnd)
    (nodes : List NodeId) → nodes ≡ deps_of old.plan.rules rule.0 → SameGone old.inputs new.inputs →
    (AreStill g (m.around world) nodes → StaysTrue m g old.inputs world g new.inputs after) →
    (AreStill g (m.around world) nodes → Gives m g old.inputs world after result (IsPresentFor g rule.0 nodes old.inputs.gone.keys (m.around world))) →
    ReadsOnly nodes old.inputs new.inputs → KeepsMarks g old.inputs g new.inputs → Presents m g old world rule new after result
presents_as m g old new world after rule result nodes same gone truth present only marks = record {
  gone = gone;
  truth = λ still. truth (subst (λ (ns : List NodeId). AreStill g (m.around world) ns) (sym same) still);
  present = λ still.
      subst (λ (ns : List NodeId). Gives m g old.inputs world after result (IsPresentFor g rule.0 ns old.inputs.gone.keys (m.around world))) same
      (present (subst (λ (ns : List NodeId). AreStill g (m.around world) ns) (sym same) still));
  only = subst (λ (ns : List NodeId). ReadsOnly ns old.inputs new.inputs) same only;
  marks = marks;
}

-- ---- results

-- an end that a call passes on
pub end_leads : {W O E T : Type 0} (P : ListEnd → Type 0) (m : Meaning W) (o : Outset) (site : Site W O E) (event : PlanEvent) (result : Result T ListEnd) →
    IsErrAnd result P → EndsOn m o site → LeadsTo m o site event result
end_leads P m o site event (Ok value) is so = absurd is
end_leads P m o site event (Err end) is so = so

pub end_of_turn : {W O E : Type 0} (P : ListEnd → Type 0) (m : Meaning W) (o : Outset) (site : Site W O E) (result : Result PlanEvent ListEnd) →
    IsErrAnd result P → EndsOn m o site → Leads m o site result
end_of_turn P m o site (Ok value) is so = absurd is
end_of_turn P m o site (Err end) is so = so

-- ---- what is held, and how many actions run

pub held_within : (held left : List Busy) → KeepsSome held left → (busy : Busy) → Contains left busy → Contains held busy
held_within held left some busy h = elim some [
  | inl same ↦ subst (λ (all : List Busy). Contains all busy) same h
  | inr none ↦ none_there (subst (λ (all : List Busy). Contains all busy) none h)
]

-- fewer actions run than may
pub room_in : {W O E : Type 0} (m : Meaning W) (o : Outset) (site : Site W O E) → IsJoined m site.world.now (holds_in site.run.now.tickets) →
    m.tells site.world.now → AreAsked o site.options → length site.run.now.tickets < most_jobs site.options →
    length (m.around site.world.now).running < jobs_at_once o.wanted.jobs
room_in m o site joined tells asked room =
    let same : length site.run.now.tickets ≡ length (m.around site.world.now).running =
    sym (held_count site.run.now.tickets) ∙ (ap (λ (holds : List Hold). length holds) (sym (joined.runs tells)) ∙ length-map (m.around site.world.now).running hold_of) in
    subst (λ n. length (m.around site.world.now).running < n) asked.jobs (subst (λ n. n < most_jobs site.options) same room)

-- ---- how the build stands

-- as EndsOn, of the parts of a site
abbrev pub EndsBy : {W : Type 0} → Meaning W → Outset → W → Book → Planned → Type 0
EndsBy m o world book plan = (s : Standing) → s.around ≡ m.around world → s.ended ≡ true → s.faulted ≡ true →
    s.plan.halted ≡ plan.halted → IsOn o book s

-- the same where nothing more is held and nothing that was booked was lost
pub ends_as : {W : Type 0} (m : Meaning W) (o : Outset) (world : W) (old new : Book) (plan : Planned) → HoldsFewer old.held new.held →
    StaysBooked old new → EndsBy m o world old plan → EndsBy m o world new plan
ends_as m o world old new plan less kept ends s around ended faulted goes =
    kept_on o old new s less kept (ends s around ended faulted goes)

-- what a job that was refused left of the book: all, or none of what it makes; or the store has refused
pub data IsLeftSo (targets : List Path) (touched : Type 0) (old new : Book) : Type 0 where
  all_left : touched → KeepsBook old new → IsLeftSo targets touched old new
  none_left : TakesAway targets old new → IsLeftSo targets touched old new
  store_shut : new.shut ≡ true → IsLeftSo targets touched old new

module _ {W O E : Type 0} (m : Meaning W) (o : Outset) (outset : IsOutset o) (old : Site W O E) (along : IsAlong m o old) where
  -- an end comes
  pub ended_on : (world : W) (book : Book) (plan : Planned) → Clears [] (m.around old.world.now) (m.around world) →
      HoldsFewer old.run.now.held book.held → StaysBooked (book_of old) book → plan ≡ old.run.now.plan → EndsBy m o world book plan
  ended_on world book plan clears less stays kept s around ended faulted goes =
      kept_on o (book_of old) book s less stays
      (ends_on o outset (book_of old) (standing_of m old) s along.on
      (subst (λ (a : Around). Clears [] (m.around old.world.now) a) (sym around) clears) ended faulted (goes ∙ ap (λ (p : Planned). p.halted) kept))

  -- the same behind a look at what a rule reads
  pub ended_looked : (world : W) (run : Run) → run ≡ record old.run.now { inputs = run.inputs } → Asks (m.around old.world.now) (m.around world) →
      EndsBy m o world (record (book_of old) { held = run.held; running = run.tickets }) run.plan
  ended_looked world run rest asks =
      ended_on world (record (book_of old) { held = run.held; running = run.tickets }) run.plan
      ((calls_clear []).looks (m.around old.world.now) (m.around world) asks) (λ busy h. subst (λ (r : Run). Contains r.held busy) rest h)
      (book_as (book_of old) (record (book_of old) { held = run.held; running = run.tickets }) refl (ap (λ (r : Run). r.held) rest)
      (ap (λ (r : Run). r.tickets) rest) (λ e. e))
      (ap (λ (r : Run). r.plan) rest)

  module _ (rule : RuleId) (rec : Rec) (due : IsDue m o old rule rec) (is_due : is_due_now (standing_of m old) due.model rec ≡ true)
      (job : Job) (from : IsJobFrom old.graph.now rule rec job)
      (room : length (m.around old.world.now).running < jobs_at_once o.wanted.jobs) where
    own_targets : rec.targets ≡ due.model.targets
    own_targets = ap (λ (x : Record). x.targets) due.weighed.present.is

    targets : job.targets ≡ due.model.targets
    targets = from.targets ∙ own_targets

    -- held ones were made by rules that began before
    began_more : (held : List Busy) → ((busy : Busy) → Contains held busy → Contains old.run.now.held busy) →
        HeldBegan o (Began due.model ∷ along.on.past) held
    began_more held within busy path h made =
        let one = along.on.began busy path (within busy h) made in
        (one.0, one.1, there one.2)

    has : HasRecord o (standing_of m old) along.on.past due.model rec
    has = weighed_have o outset along.on.jobs (standing_of m old) along.on.past rule due.model rec along.on.at due.weighed.goes_on due.weighed

    unshut : old.account.now.is_store_shut ≡ false
    unshut = (along.well due.weighed.goes_on).unshut

    -- no job starts, and that is an end
    pub refused_on : (world : W) (book : Book) (plan : Planned) → Clears job.targets (m.around old.world.now) (m.around world) →
        HoldsFewer old.run.now.held book.held → plan ≡ old.run.now.plan →
        (book.shut ≡ false → TakesAway job.targets (book_of old) book) → EndsBy m o world book plan
    refused_on world book plan clears within kept takes s around ended faulted goes =
        let cleared : Clears due.model.targets (m.around old.world.now) s.around =
        subst (λ (a : Around). Clears due.model.targets (m.around old.world.now) a) (sym around)
        (subst (λ (paths : List Path). Clears paths (m.around old.world.now) (m.around world)) targets clears) in
        record {
          jobs = job_for o.wanted o.before (m.around old.world.now) due.model ∷ along.on.jobs;
          past = model.Ended due.model false ∷ Began due.model ∷ along.on.past;
          at = refuses o outset along.on.jobs (standing_of m old) along.on.past rule due.model rec along.on.at due.weighed is_due room s cleared
              ended faulted (goes ∙ ap (λ (p : Planned). p.halted) kept);
          began = λ busy path h made. began_more book.held within busy path h made;
          booked = λ e.
              refused_booked o outset along.on.jobs (m.around old.world.now) s.around along.on.past along.on.at.way due.model has.decided
              (clears_write due.model.targets (m.around old.world.now) s.around cleared) (book_of old) book (along.on.booked unshut)
              (subst (λ (paths : List Path). TakesAway paths (book_of old) book) targets (takes e));
        }

    -- by what is left of the book
    pub left_on : (world : W) (book : Book) (plan : Planned) → Clears job.targets (m.around old.world.now) (m.around world) →
        HoldsFewer old.run.now.held book.held → plan ≡ old.run.now.plan →
        IsLeftSo job.targets (Clears [] (m.around old.world.now) (m.around world)) (book_of old) book → EndsBy m o world book plan
    left_on world book plan clears within kept (all_left none keeps) =
        ended_on world book plan none within (record { unshut = λ e. unshut; keeps = λ e. keeps }) kept
    left_on world book plan clears within kept (none_left takes) = refused_on world book plan clears within kept (λ e. takes)
    left_on world book plan clears within kept (store_shut shut) =
        refused_on world book plan clears within kept (λ e. true_false (sym shut ∙ e))

    -- or it starts
    module _ (new : Site W O E) (is : Launches job (m.counts old.world.now) (m.around old.world.now) (m.around new.world.now))
        (counts : m.counts new.world.now ≡ m.counts old.world.now) (graph : new.graph.now ≡ old.graph.now) (plan : new.run.now.plan ≡ old.run.now.plan)
        (inputs : new.run.now.inputs ≡ old.run.now.inputs) (ended : new.account.now.is_ended ≡ old.account.now.is_ended)
        (faulted : is_faulted new.account.now ≡ is_faulted old.account.now) (unshut_now : new.account.now.is_store_shut ≡ false)
        (within : (busy : Busy) → Contains new.run.now.held busy → Contains old.run.now.held busy)
        (left : List Busy) (takes : TakesAway job.targets (book_of old) (record (book_of new) { running = left }))
        (busy : Busy) (makes : busy.hold.targets ≡ job.targets) (ticket : IsTicket new.store.now rec busy.ticket)
        (added : new.run.now.tickets ≡ left ++ busy ∷ []) where
      rest_now : (s : Standing) → IsTold (standing_of m new) s (Started rule) →
          s ≡ record (standing_of m old) { plan = s.plan; records = s.records; faulted = s.faulted; ended = s.ended; around = s.around }
      rest_now s told =
          let same_graph : s.graph ≡ old.graph.now = ap (λ (x : Standing). x.graph) told.rest ∙ graph in
          let same_inputs : s.inputs ≡ old.run.now.inputs = ap (λ (x : Standing). x.inputs) told.rest ∙ inputs in
          subst (λ (i : Inputs). s ≡ record s { graph = old.graph.now; inputs = i }) same_inputs
          (subst (λ (g : RuleGraph). s ≡ record s { graph = g }) same_graph refl)

      on_now : (s : Standing) → IsTold (standing_of m new) s (Started rule) → IsOn o (book_of new) s
      on_now s told = record {
        jobs = job_for o.wanted o.before (m.around old.world.now) due.model ∷ along.on.jobs;
        past = Began due.model ∷ along.on.past;
        at = launches o outset along.on.jobs (standing_of m old) along.on.past rule due.model rec along.on.at due.weighed is_due room is.mid s job
            (m.counts old.world.now)
            (record {
              room = room;
              clears = subst (λ (paths : List Path). Clears paths (m.around old.world.now) is.mid) targets is.clears;
              starts = subst (λ (a : Around). Starts job (m.counts old.world.now) is.mid a) (sym (ap (λ (x : Standing). x.around) told.rest)) is.starts;
              job_from = from;
              unrisen = (along.well due.weighed.goes_on).unrisen;
              step =
                  subst (λ (g : RuleGraph). IsStep g old.run.now.plan (Started rule) s.plan) graph
                  (subst (λ (p : Planned). IsStep new.graph.now p (Started rule) s.plan) plan told.step);
              goes = told.goes ∙ ap (λ (p : Planned). p.halted) plan;
              rest = rest_now s told;
              reports = record { stays = λ e. told.reports.stays (faulted ∙ e); told = told.reports.told };
              records = λ path out.
                  ap (λ (x : Standing). x.records path) told.rest
                  ∙ takes.others path (λ h. out (subst (λ (paths : List Path). Contains paths path) targets h));
            });
        began = λ busy path h made. began_more new.run.now.held within busy path h made;
        booked = λ e.
            subst (λ (all : List Busy). AreBooked o s.around (Began due.model ∷ along.on.past) (record (book_of new) { running = all })) (sym added)
            (began_booked o outset along.on.jobs (m.around old.world.now) s.around along.on.past along.on.at.way due.model has.decided
            (subst (λ (a : Around). Writes due.model.targets (m.around old.world.now) a) (sym (ap (λ (x : Standing). x.around) told.rest))
            (subst (λ (paths : List Path). Writes paths (m.around old.world.now) (m.around new.world.now)) targets
            (starts_write job (m.counts old.world.now) (m.around old.world.now) is.mid (m.around new.world.now) is.clears is.starts)))
            (book_of old) (record (book_of new) { running = left }) (along.on.booked unshut)
            (subst (λ (paths : List Path). TakesAway paths (book_of old) (record (book_of new) { running = left })) targets takes)
            busy rec (makes ∙ targets) own_targets ticket has.is);
      }

      well_now : new.account.now.is_ended ≡ false → GoesWell m o new
      well_now e =
          let well = along.well (sym ended ∙ e) in
          record {
            unrisen = subst (λ (c : Counts). AreUnrisen o.wanted.keep o.counts c) (sym counts) well.unrisen;
            unshut = unshut_now;
            looked =
                subst (λ (i : Inputs). AreGoneOver new.graph.now i) (sym inputs)
                (subst (λ (g : RuleGraph). AreGoneOver g old.run.now.inputs) (sym graph) well.looked);
          }

      pub launched_on : GoesOn m o new (Started rule)
      launched_on = record {
        told = λ s t stays. on_now s t;
        ends = λ e. true_false (sym e);
        goes = refl;
        reported = λ e. faulted ∙ along.on.at.told (sym ended ∙ e);
        well = well_now;
      }
