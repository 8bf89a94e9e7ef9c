-- What follows from the steps of a build over a world.
use Rattle.std.proofs.Common.{◌≡◌, ℕ, List, ◌∷◌, ◌++◌, refl, sym, subst, inl, inr, ◌⊎◌}
use Rattle.world_api.specs.Around.{Around, Started}
use Rattle.world_api.specs.declared.job.Job.{Job}
use Rattle.world_api.specs.Counts.{Counts}
use Rattle.world_api.specs.Reads.{stamp_of}
use Rattle.build_model.specs.Rules.{Rule, Among, there}
use Rattle.build_model.specs.Headline.{BuildsByContent, GraphsAreLawful, IncrementalIsClean, HighEnough}
use Rattle.build_model.specs.Laws.{IsBuild, TestsDue, HoldsForAnyDecider, EachStepIsClean, SettledBeforeStart, CoursesAreBuilds}
use Rattle.build_model.specs.Leaving.{StaysSound}
use Rattle.build_model.specs.Needs.{is_requested}
use Rattle.build_model.specs.Resting.{RestsRightly, KeepsGoing}
use Rattle.build_model.specs.Waiting.{BusyAtEachEnding}
use Rattle.build_model.specs.Steps.{Step, Fresh, Began, began, IsRun}
use Rattle.build_means.specs.Rules.{IsReading}
use Rattle.build_means.specs.Builds.{Wanted, Kept, Runs, Succeeded, IsByContent, IsJobIn, graph_in, setting_in, build_in}
use Rattle.build_means.specs.Laws.{SettledSucceed, RunsAreRight, RestsAreRight, RecordsStayTrue, LogsAreInOrder, SucceededHaveJobs, CoursesAreSeen, GoingOnIsRight, EndingsAreBusy}
use Rattle.build_means.specs.Logs.{AreUnrisen, HasStarted, EndedWell}
use Rattle.build_means.specs.Records.{records_in}
use Rattle.build_means.proofs.Testing.{tests_due}
use Rattle.build_means.proofs.Readings.{is_graph}
use Rattle.build_means.proofs.Failing.{settled_not_failed}
use Rattle.build_means.proofs.Logging.{among_right, each_start, each_began, start_at, each_settled}

module _ (w : Wanted) (kept : Kept) (counts : Counts) (before after : Around) (reading : IsReading w.graph) (runs : Runs w kept counts before after) where
  is_build : IsBuild (setting_in w before) (build_in w kept before after) runs.steps
  is_build = runs.seen.build

  is_tested : (r : Rule) → TestsDue (setting_in w before) (build_in w kept before after) r
  is_tested r = tests_due w.graph before.law w.hash before.tree before.tree (build_in w kept before after) r

  by_content : IsByContent w kept before after → BuildsByContent (graph_in w before) (build_in w kept before after) runs.steps
  by_content by = record {
    graph = is_graph w.graph reading before.law w.hash before.tree;
    by = record { tests = λ r needed. is_tested r; distinct = by.distinct; sound = by.sound; decider = by.decider };
    sources = is_build.sources;
    run = is_build.run;
  }

pub succeeds : HoldsForAnyDecider → IncrementalIsClean → SettledSucceed
succeeds any_decider incremental_is_clean w kept counts before after reading runs settled waits =
    let succeeded : Succeeded w kept counts before after = record {
      runs = runs;
      waits = waits;
      due = any_decider (setting_in w before) (build_in w kept before after) runs.steps (is_build w kept counts before after reading runs)
          (λ r needed. is_tested w kept counts before after reading runs r) settled;
      built = λ by. incremental_is_clean (graph_in w before) (build_in w kept before after) runs.steps
          (by_content w kept counts before after reading runs by) settled;
    } in
    (succeeded, refl)

pub are_right : EachStepIsClean → HighEnough → RunsAreRight
are_right each_step high_enough w kept counts before after reading runs by =
    let builds = by_content w kept counts before after reading runs by in
    each_step (setting_in w before) (build_in w kept before after) runs.steps _ (is_build w kept counts before after reading runs) builds.by
    (high_enough (graph_in w before) (build_in w kept before after) runs.steps builds.graph builds.run)

pub rest_right : RestsRightly → RestsAreRight
rest_right rests_rightly w kept counts before after runs rests =
    rests_rightly (setting_in w before) (build_in w kept before after) runs.steps rests.found runs.seen.build.run rests.at_rest

pub stay_true : StaysSound → RecordsStayTrue
stay_true stays_sound w kept counts before after runs sound later keeps =
    stays_sound (setting_in w before) (build_in w kept before after) runs.steps (records_in later) runs.seen.build runs.seen.untouched sound keeps

pub in_order : SettledBeforeStart → LogsAreInOrder
in_order settled_before_start w kept counts before after runs front job at back e =
    let IsJob : Rule → Job → Type 0 = IsJobIn w kept before after in
    let h = start_at IsJob (AreUnrisen w.keep counts) runs.log.are front job at back e in
    let run = subst (IsRun (setting_in w before) (build_in w kept before after)) h.parts runs.seen.build.run in
    record {
      rule = h.rule;
      job_of = h.of_rule;
      needs = λ q needs. among_later h.later h.past h.rule h.parts
          (each_settled IsJob (AreUnrisen w.keep counts) h.before
          (settled_before_start (setting_in w before) (build_in w kept before after) h.later h.past h.rule q run needs));
    }
  where
    among_later : {q : Rule} {steps : List Step} (later past : List Step) (r : Rule) → steps ≡ later ++ Began r ∷ past →
        Among (Fresh q) past ⊎ EndedWell (IsJobIn w kept before after) front q → Among (Fresh q) steps ⊎ EndedWell (IsJobIn w kept before after) front q
    among_later {q} later past r parts (inl m) = inl (subst (λ l. Among (Fresh q) l) (sym parts) (among_right later (there m)))
    among_later later past r parts (inr h) = inr h

pub have_jobs : SucceededHaveJobs
have_jobs w kept counts before after well =
    record { each = each; all = all }
  where
    each : (job : Job) (at : Counts) → Among (Started job at) well.runs.log.entries → (r : Rule) × Among r (began well.runs.steps) × IsJobIn w kept before after r job
    each job at m =
        let h = each_start (IsJobIn w kept before after) (AreUnrisen w.keep counts) well.runs.log.are m in
        (h.rule, h.stands, h.of_rule)

    all : (r : Rule) → Among r (began well.runs.steps) → (id : ℕ) × HasStarted (IsJobIn w kept before after) well.runs.log.entries r id
    all r m =
        let is_settled = well.due.needed r (well.due.starts.only r m).0 in
        each_began (IsJobIn w kept before after) (AreUnrisen w.keep counts) well.runs.log.are m
        (settled_not_failed (setting_in w before) (build_in w kept before after) well.runs.steps well.runs.seen.build.run is_settled)

pub are_seen : GraphsAreLawful → CoursesAreBuilds → CoursesAreSeen
are_seen lawful courses_are_builds w kept before after jobs steps reading course =
    courses_are_builds (setting_in w before) (build_in w kept before after) jobs after.tree (stamp_of after) steps
    (lawful (graph_in w before) before.tree (is_graph w.graph reading before.law w.hash before.tree)) course

pub go_on : KeepsGoing → HighEnough → GoingOnIsRight
go_on keeps_going high_enough w kept counts before after reading runs by rests taken out =
    let builds = by_content w kept counts before after reading runs by in
    keeps_going (setting_in w before) (build_in w kept before after) runs.steps rests.found taken _ (is_build w kept counts before after reading runs) builds.by
    (high_enough (graph_in w before) (build_in w kept before after) runs.steps builds.graph builds.run) rests.at_rest out

pub are_busy : BusyAtEachEnding → HighEnough → EndingsAreBusy
are_busy busy high_enough w kept counts before after reading well by later past r ended_well e =
    let builds = by_content w kept counts before after reading well.runs by in
    busy (setting_in w before) (build_in w kept before after) well.runs.steps _ (is_build w kept counts before after reading well.runs) builds.by
    (high_enough (graph_in w before) (build_in w kept before after) well.runs.steps builds.graph builds.run)
    (λ p x m is. well.due.needed x (is_requested p m is)) well.waits later past r ended_well e
