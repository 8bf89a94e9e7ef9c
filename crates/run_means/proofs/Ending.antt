-- A job ends: that is the step of its rule.
use Rattle.std.proofs.Common.{◌≡◌, suc, pred, false, List, [], ◌∷◌, ◌++◌, length, refl, sym, subst, ap, ◌∙◌, append_assoc}
use Rattle.world_api.specs.Act.{Given as Contents, Law, act}
use Rattle.world_api.specs.Around.{Around, Finished}
use Rattle.world_api.specs.Calls.{Ends}
use Rattle.world_api.specs.Counts.{Counts}
use Rattle.world_api.specs.Reads.{stamp_of}
use Rattle.world_api.specs.declared.job.Ended.{Ended}
use Rattle.world_api.specs.declared.job.Job.{Job}
use Rattle.world_api.specs.declared.job.Outcome.{Outcome}
use Rattle.world_api.specs.declared.job.Outcome.TheVariants.{Done, Failed, Broken, NoMemory}
use Rattle.world_api.specs.declared.job.Work.{Work}
use Rattle.world_api.specs.declared.job.Work.TheVariants.{Shell, Copy, Write}
use Rattle.deciders.specs.Spelling.{work_byte}
use Rattle.build_model.specs.Rules.{Path, Bytes, Rule, Among, Unique}
use Rattle.build_model.specs.Moments.{Job as Given, IsCourse, makes, fails, Changes, HasMade}
use Rattle.build_model.specs.Steps as model
use Rattle.build_model.specs.Steps.{Step, IsRunning, is_over, done, running}
use Rattle.build_model.specs.Waiting.{WaitsRightly}
use Rattle.build_model.proofs.Lists.{true_false, among_left}
use Rattle.build_means.specs.Rules.{IsReading}
use Rattle.build_means.specs.Builds.{Wanted, Kept, IsJobIn, setting_in, build_in}
use Rattle.build_means.specs.Graphs.{work_at, act_by}
use Rattle.build_means.specs.Logs.{is_done, HasStarted, has_ended}
use Rattle.run_means.specs.Ways.{IsWay, AreOwn}
use Rattle.run_means.specs.Turns.{EndsFor}
use Rattle.run_means.specs.Laws.{MayWait}
use Rattle.run_means.proofs.Lists.{among_contains, unique_less, not_among}
use Rattle.run_means.proofs.Own.{OwnParts, own_parts, own_write, own_join, own_further}
use Rattle.run_means.proofs.Clearing.{changed}
use Rattle.run_means.proofs.Carrying.{course_on, takes_now, waits_now, waited_now, entries_now, own_now}
use Rattle.run_means.proofs.Keeping.{met_on, none_there}

length_less : {A : Type 0} (x : A) (xs ys : List A) → length (xs ++ x ∷ ys) ≡ suc (length (xs ++ ys))
length_less x [] ys = refl
length_less x (y ∷ xs) ys = ap suc (length_less x xs ys)

-- the work of its number
pub work_is : (work : Work) → work_at (work_byte work) ≡ work
work_is Shell = refl
work_is Copy = refl
work_is Write = refl

-- a job of a rule makes what the rule's action does
acts_same : {old law : Law} (r : Rule) (job : Job) (given : Contents) (p : Path) → old ≡ law →
    work_byte job.work ≡ r.work →
    job.signed ≡ r.signed → job.targets ≡ r.targets →
    act old job.work job.signed job.targets given p ≡ act_by law r.work r.signed r.targets given p
acts_same {old} {law} r job given p same work signed targets =
    ap (λ l. act l job.work job.signed job.targets given p) same
    ∙ ap (λ x. act law x job.signed job.targets given p) (sym (work_is job.work) ∙ ap work_at work)
    ∙ ap (λ x. act law (work_at r.work) x job.targets given p) signed
    ∙ ap (λ x. act law (work_at r.work) r.signed x given p) targets

module _ (w : Wanted) (kept : Kept) (counts : Counts) (before old new : Around) (jobs : List Given) (past : List Step)
    (ended : Ended) (reading : IsReading w.graph) (way : IsWay w kept counts before jobs old past)
    (wait : MayWait w kept before old past)
    (Sure : Type 0) (sure : Sure) (ends : Ends Sure ended old new) where
  change : Changes jobs past old.tree new.tree (stamp_of old) (stamp_of new)
  change =
      changed old new old.running [] (λ p target. own_write w kept before old way.own target) (λ p m. none_there m)
      (λ p out others. ends.files p out) (λ p out others. ends.stamps p out)

  more : (bytes : Bytes) → Among bytes old.met → Among bytes new.met
  more = met_on old new ends.met

  ended_own : OwnParts w kept before old jobs past way.log.entries ends.front ends.which ends.back way.rules
  ended_own =
      own_parts w kept before old ends.front
      (subst (λ runs. AreOwn w kept before old jobs past way.log.entries runs way.rules) ends.was way.own)

  abbrev R : Rule
  R = ended_own.rule

  abbrev Others : List Rule
  Others = ended_own.front_rules ++ ended_own.back_rules

  abbrev After : List Step
  After = model.Ended R (is_done ended.outcome) ∷ past

  once_parts : Unique Others × (Among R Others → ⊥)
  once_parts = unique_less R ended_own.front_rules ended_own.back_rules (subst (λ l. Unique l) ended_own.parts way.once)

  has_made : ended.outcome ≡ Done →
      HasMade (setting_in w before) new.tree (record { rule = R; given = ends.which.given })
  has_made done_well p m =
      let job_of = ended_own.own.job_of in
      ends.made sure done_well p (among_contains (subst (λ ps. Among p ps) (sym job_of.targets) m))
      ∙ acts_same R ends.which.job ends.which.given p way.law job_of.work job_of.signed job_of.targets

  course_now : IsCourse (setting_in w before) (build_in w kept before new) jobs new.tree (stamp_of new) past
  course_now = course_on w kept before old new reading jobs past way.course change more

  ended_course : (o : Outcome) → ended.outcome ≡ o →
      IsCourse (setting_in w before) (build_in w kept before new) jobs new.tree (stamp_of new)
      (model.Ended R (is_done o) ∷ past)
  ended_course Done e =
      makes (record { rule = R; given = ends.which.given }) ended_own.own.given ended_own.own.runs (has_made e)
      course_now
  ended_course (Failed status) e = fails R ended_own.own.runs course_now
  ended_course Broken e = fails R ended_own.own.runs course_now
  ended_course NoMemory e = fails R ended_own.own.runs course_now

  ended_waits : (o : Outcome) → is_over false (model.Ended R (is_done o) ∷ past) ≡ false →
      WaitsRightly (setting_in w before) (build_in w kept before new) (model.Ended R (is_done o) ∷ past)
  ended_waits Done e = (
    waited_now w kept before old new reading jobs past way.course change more (wait e),
    waits_now w kept before old new reading jobs past way.course change more (way.waits e),
  )
  ended_waits (Failed status) e = true_false e
  ended_waits Broken e = true_false e
  ended_waits NoMemory e = true_false e

  -- another rule that runs isn't the one that ended
  runs_still : (q : Rule) → Among q Others → IsRunning past q → IsRunning After q
  runs_still q m runs = record {
    began = runs.began;
    not_done = not_among (λ e. once_parts.1 (subst (λ x. Among x Others) e m)) runs.not_done;
  }

  others_own : AreOwn w kept before new jobs After (way.log.entries ++ Finished ended.id ended.outcome ∷ [])
      (ends.front ++ ends.back) Others
  others_own =
      own_further w kept before new (λ j m. m) (λ e m. among_left (Finished ended.id ended.outcome ∷ []) m) runs_still
      (own_now w kept before old new reading jobs past way.course change more
      (own_join w kept before old ended_own.front_own ended_own.back_own))

  has_started : HasStarted (IsJobIn w kept before old) way.log.entries R ended.id
  has_started = subst (λ id. HasStarted (IsJobIn w kept before old) way.log.entries R id) (sym ends.id)
      ended_own.own.started

  ended_way : IsWay w kept counts before jobs new After
  ended_way = record {
    course = ended_course ended.outcome refl;
    log = record {
      entries = way.log.entries ++ Finished ended.id ended.outcome ∷ [];
      grown = ends.log ∙ ap (λ l. l ++ Finished ended.id ended.outcome ∷ []) way.log.grown
          ∙ append_assoc before.log way.log.entries (Finished ended.id ended.outcome ∷ []);
      are = entries_now w kept before old new reading jobs past way.course change more (λ q m. m)
          (has_ended R ended.id ended.outcome ended_own.own.runs.began has_started way.log.are);
    };
    rules = Others;
    own = subst
        (λ runs. AreOwn w kept before new jobs After (way.log.entries ++ Finished ended.id ended.outcome ∷ []) runs
        Others)
        (sym ends.running) others_own;
    once = once_parts.0;
    count = ap pred (way.count ∙ ap length ends.was ∙ length_less ends.which ends.front ends.back)
        ∙ sym (ap length ends.running);
    law = ends.law ∙ way.law;
    met = λ bytes m. ends.met bytes (way.met bytes m);
    first = takes_now w kept before old new reading jobs past way.course change more way.first;
    waits = ended_waits ended.outcome;
  }

  pub ended_for : EndsFor w kept counts before jobs old new past way.log.entries ends.which ended
  ended_for = record { rule = R; own = ended_own.own; way = ended_way }
