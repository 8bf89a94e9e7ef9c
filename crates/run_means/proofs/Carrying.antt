-- A build has come as far still where only targets of rules whose action runs have changed, and more was met.
use Rattle.std.proofs.Common.{◌≡◌, ◌⊎◌, List, [], ◌∷◌, map, Some, None, refl, sym, subst, ap, ◌∙◌}
use Rattle.world_api.specs.Around.{Around, Entry, Running}
use Rattle.world_api.specs.Counts.{Counts}
use Rattle.world_api.specs.Reads.{stamp_of}
use Rattle.world_api.specs.declared.job.Job.{Job}
use Rattle.build_model.specs.Rules.{Path, Bytes, Content, Tree, Rule, Setting, Among}
use Rattle.build_model.specs.Contents.{IsLawful}
use Rattle.build_model.specs.Laws.{AreGivenSo}
use Rattle.build_model.specs.Moments.{Job as Given, job_rule, MayWrite, Changes, IsCourse, changes}
use Rattle.build_model.specs.OneJob.{TakesFirst}
use Rattle.build_model.specs.Steps.{Step, Build, began, settled, running, contents_of, present_dependencies, IsRun}
use Rattle.build_model.specs.Waiting.{IsIdle, WaitsRightly}
use Rattle.build_model.proofs.Lists.{none_some, some_same, among_same}
use Rattle.build_model.proofs.Placed.{lawful}
use Rattle.build_model.proofs.Ready.{needed_place}
use Rattle.build_model.proofs.Runs.{begun_prepared, settled_done}
use Rattle.build_model.proofs.Staying.{Stays, course_is_build, given_so}
use Rattle.build_means.specs.Rules.{IsReading}
use Rattle.build_means.specs.Builds.{Wanted, Kept, IsJobIn, graph_in, setting_in, build_in}
use Rattle.build_means.specs.Logs.{AreUnrisen, AreEntries, IsLogged}
use Rattle.build_means.proofs.Courses.{course_so}
use Rattle.build_means.proofs.Lists.{among_map, map_among}
use Rattle.build_means.proofs.Logging.{logged_too}
use Rattle.build_means.proofs.Readings.{is_graph}
use Rattle.run_means.specs.Ways.{IsOwn, AreOwn, none_runs, one_runs}
use Rattle.run_means.proofs.Standing.{waited_on, takes_on, waits_on}

abbrev path_in : Path × Content → Path
path_in x = x.0

paths_given : (t : Tree) (ps : List Path) → map path_in (contents_of t ps) ≡ ps
paths_given t [] = refl
paths_given t (p ∷ ps) = ap (λ l. p ∷ l) (paths_given t ps)

-- the rules of a reading have their places
pub lawful_in : (w : Wanted) (before : Around) → IsReading w.graph → IsLawful (setting_in w before)
lawful_in w before reading = lawful (graph_in w before) before.tree
    (is_graph w.graph reading before.law w.hash before.tree)

module _ (w : Wanted) (kept : Kept) (before old new : Around) (reading : IsReading w.graph) (jobs : List Given)
    (past : List Step)
    (course : IsCourse (setting_in w before) (build_in w kept before old) jobs old.tree (stamp_of old) past)
    (change : Changes jobs past old.tree new.tree (stamp_of old) (stamp_of new))
    (grows : (bytes : Bytes) → Among bytes old.met → Among bytes new.met) where
  abbrev S : Setting
  S = setting_in w before

  abbrev B : Build
  B = build_in w kept before old

  abbrev Now : Build
  Now = build_in w kept before new

  pub course_on : IsCourse S Now jobs new.tree (stamp_of new) past
  course_on = changes new.tree (stamp_of new) change (course_so S B new.met new.tree (stamp_of new) grows course)

  given_then : AreGivenSo S jobs old.tree past
  given_then = given_so S B (lawful_in w before reading) course

  given_now : AreGivenSo S jobs new.tree past
  given_now = given_so S Now (lawful_in w before reading) course_on

  run_then : IsRun S B past
  run_then = (course_is_build S B (lawful_in w before reading) course).run

  -- what may be written has a rule that runs
  write_rule : {p : Path} → (m : MayWrite jobs past p) → S.rule_of p ≡ Some m.job.rule
  write_rule {p} m =
      let started = among_same given_then.jobs_began (map_among job_rule m.started) in
      let place = needed_place (begun_prepared S B past run_then started).wanted.is_needed in
      (lawful_in w before reading).alone place.0 m.job.rule place.1 p m.target

  no_source : {p : Path} → S.rule_of p ≡ None → MayWrite jobs past p → ⊥
  no_source none m = none_some (sym none ∙ write_rule m)

  no_settled : {p : Path} {r : Rule} → S.rule_of p ≡ Some r → Among r (settled past) → MayWrite jobs past p → ⊥
  no_settled e n m =
      m.not_done (settled_done past (subst (λ x. Among x (settled past)) (some_same (sym e ∙ write_rule m)) n))

  -- so what no rule makes, and what settled rules make, stays
  pub stays : Stays S (settled past) old.tree new.tree (stamp_of old) (stamp_of new)
  stays = record {
    sources = λ p none. (change.contents p (no_source none), change.times p (no_source none));
    made = λ p r e m. (change.contents p (no_settled e m), change.times p (no_settled e m));
  }

  pub takes_now : TakesFirst S B past → TakesFirst S Now past
  takes_now first = takes_on S B new.met new.tree (stamp_of new) past stays first

  pub waits_now : WaitsRightly S B past → WaitsRightly S Now past
  waits_now waits = waits_on S B new.met new.tree (stamp_of new) past stays waits

  pub waited_now : (running past ≡ B.jobs) ⊎ IsIdle S B past → (running past ≡ B.jobs) ⊎ IsIdle S Now past
  waited_now waited = waited_on S B new.met new.tree (stamp_of new) past stays waited

  job_dependencies : (j : Given) → Among j jobs → present_dependencies S Now j.rule ≡ present_dependencies S B j.rule
  job_dependencies j m =
      sym (paths_given new.tree (present_dependencies S Now j.rule))
      ∙ ap (map path_in) (sym (given_now.given j m) ∙ given_then.given j m)
      ∙ paths_given old.tree (present_dependencies S B j.rule)

  -- a rule that began has the same dependencies
  dependencies_now : {r : Rule} → Among r (began past) → present_dependencies S Now r ≡ present_dependencies S B r
  dependencies_now m =
      let j = among_map job_rule jobs (among_same (sym given_then.jobs_began) m) in
      subst (λ x. present_dependencies S Now x ≡ present_dependencies S B x) (sym j.2) (job_dependencies j.0 j.1)

  -- so a job is still one of it
  pub job_now : {r : Rule} {job : Job} → Among r (began past) → IsJobIn w kept before old r job →
      IsJobIn w kept before new r job
  job_now m h = record {
    work = h.work;
    targets = h.targets;
    lines = h.lines;
    signed = h.signed;
    deps = h.deps ∙ sym (dependencies_now m);
  }

  pub entries_now : {counts : Counts} {steps : List Step} {entries : List Entry} →
      ((r : Rule) → Among r (began steps) → Among r (began past)) →
      AreEntries (IsJobIn w kept before old) (AreUnrisen w.keep counts) steps entries →
      AreEntries (IsJobIn w kept before new) (AreUnrisen w.keep counts) steps entries
  entries_now {counts} {steps} {entries} within are =
      let IsJob : Rule → Job → Type 0 = IsJobIn w kept before old in
      let log : IsLogged IsJob (AreUnrisen w.keep counts) steps [] entries =
      record { entries = entries; grown = refl; are = are } in
      let too = logged_too IsJob (IsJobIn w kept before new) (AreUnrisen w.keep counts) (AreUnrisen w.keep counts)
      (λ c at. at) log
      (λ r job m of_rule. job_now (within r m) of_rule) in
      subst (λ l. AreEntries (IsJobIn w kept before new) (AreUnrisen w.keep counts) steps l) (sym too.grown) too.are

  one_now : {entries : List Entry} {run : Running} {r : Rule} → IsOwn w kept before old jobs past entries run r →
      IsOwn w kept before new jobs past entries run r
  one_now h = record {
    given = h.given;
    runs = h.runs;
    job_of = job_now h.runs.began h.job_of;
    started = record {
      job = h.started.job;
      counts = h.started.counts;
      of_rule = job_now h.runs.began h.started.of_rule;
      started = h.started.started;
      has_id = h.started.has_id;
    };
  }

  pub own_now : {entries : List Entry} {runs : List Running} {rules : List Rule} →
      AreOwn w kept before old jobs past entries runs rules →
      AreOwn w kept before new jobs past entries runs rules
  own_now none_runs = none_runs
  own_now (one_runs h more) = one_runs (one_now h) (own_now more)
