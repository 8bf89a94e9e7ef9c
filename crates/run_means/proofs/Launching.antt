-- A rule begins: its targets are cleared, and its job starts, or doesn't.
use Rattle.std.proofs.Common.{◌≡◌, suc, false, List, [], ◌∷◌, ◌++◌, length, Contains, refl, sym, subst, ap, ◌∙◌, arith, append_assoc, length-append}
use Rattle.world_api.specs.Around.{Around, Running, Started, IsRunningTarget, given_of}
use Rattle.world_api.specs.Calls.{Starts}
use Rattle.world_api.specs.Counts.{Counts}
use Rattle.world_api.specs.Reads.{stamp_of}
use Rattle.world_api.specs.declared.job.Job.{Job}
use Rattle.build_model.specs.Rules.{Path, Bytes, Content, Rule, Among, here, there}
use Rattle.build_model.specs.Contents.{in_tree, dependencies}
use Rattle.build_model.specs.Moments.{Job as Given, IsCourse, starts, fails, MayWrite, Changes}
use Rattle.build_model.specs.Steps.{Step, Began, Ended, contents_of, with_content}
use Rattle.build_model.proofs.Lists.{true_false, among_left, among_right, same_map}
use Rattle.build_model.proofs.Staying.{given_so}
use Rattle.build_means.specs.Rules.{IsReading}
use Rattle.build_means.specs.Builds.{Wanted, Kept, setting_in, build_in}
use Rattle.build_means.specs.Logs.{has_begun, was_refused}
use Rattle.run_means.specs.Ways.{IsWay, IsOwn, AreOwn, none_runs, one_runs}
use Rattle.run_means.specs.Clears.{Clears}
use Rattle.run_means.specs.Turns.{MayBegin, job_for, IsHanded}
use Rattle.run_means.proofs.Lists.{contains_among, unique_push}
use Rattle.run_means.proofs.Own.{own_write, own_runs, own_join, own_further}
use Rattle.run_means.proofs.Clearing.{changed, changes_join}
use Rattle.run_means.proofs.Carrying.{lawful_in, course_on, takes_now, waits_now, job_now, entries_now, own_now}
use Rattle.run_means.proofs.Keeping.{met_on, same_met, not_done_by}

length_push : {A : Type 0} (xs : List A) (x : A) → length (xs ++ x ∷ []) ≡ suc (length xs)
length_push xs x = omega (arith, length-append xs (x ∷ []))

abbrev with_path : Path → Content → Path × Content
with_path p c = (p, c)

module _ (w : Wanted) (kept : Kept) (counts : Counts) (before old : Around) (jobs : List Given) (past : List Step)
    (r : Rule) (reading : IsReading w.graph) (way : IsWay w kept counts before jobs old past)
    (may : MayBegin w kept before old past r) where
  abbrev Begun : List Given
  Begun = job_for w before old r ∷ jobs

  begun_course : IsCourse (setting_in w before) (build_in w kept before old) Begun old.tree (stamp_of old)
      (Began r ∷ past)
  begun_course = starts r may.decided may.start way.course

  -- from here on its targets may change, and those of the jobs that run
  run_may : (p : Path) → IsRunningTarget old.running p → MayWrite Begun (Began r ∷ past) p
  run_may p target =
      let m = own_write w kept before old way.own target in
      record { job = m.job; started = there m.started; not_done = m.not_done; target = m.target }

  these_may : (p : Path) → Contains r.targets p → MayWrite Begun (Began r ∷ past) p
  these_may p m = record {
    job = job_for w before old r;
    started = here;
    not_done = may.decided.not_done;
    target = contains_among r.targets m;
  }

  clear_change : (mid : Around) → Clears r.targets old mid →
      Changes Begun (Began r ∷ past) old.tree mid.tree (stamp_of old) (stamp_of mid)
  clear_change mid clears = changed old mid old.running r.targets run_may these_may clears.files clears.stamps

  begun_own : AreOwn w kept before old Begun (Began r ∷ past) way.log.entries old.running way.rules
  begun_own =
      own_further w kept before old (λ j m. there m) (λ e m. m)
      (λ q m runs. record { began = there runs.began; not_done = runs.not_done }) way.own

  pub refused : (new : Around) → Clears r.targets old new →
      IsWay w kept counts before Begun new (Ended r false ∷ Began r ∷ past)
  refused new clears =
      let change = clear_change new clears in
      let grows = same_met old new clears.met in
      let more = met_on old new grows in
      record {
        course = fails r (record { began = here; not_done = may.decided.not_done })
            (course_on w kept before old new reading Begun (Began r ∷ past) begun_course change more);
        log = record {
          entries = way.log.entries;
          grown = clears.log ∙ way.log.grown;
          are = entries_now w kept before old new reading Begun (Began r ∷ past) begun_course change more (λ q m. m)
              (was_refused r way.log.are);
        };
        rules = way.rules;
        own = subst (λ runs. AreOwn w kept before new Begun (Ended r false ∷ Began r ∷ past) way.log.entries runs
            way.rules) (sym clears.running)
            (own_further w kept before new (λ j m. m) (λ e m. m)
            (λ q m runs. record {
              began = runs.began;
              not_done = not_done_by may.decided.not_began (own_runs w kept before old way.own m);
            })
            (own_now w kept before old new reading Begun (Began r ∷ past) begun_course change more begun_own));
        once = way.once;
        count = way.count ∙ ap length (sym clears.running);
        law = clears.law ∙ way.law;
        met = λ bytes m. grows bytes (way.met bytes m);
        first = takes_now w kept before old new reading Begun (Began r ∷ past) begun_course change more
            (may.first, way.first);
        waits = λ e. true_false e;
      }

  module _ (mid new : Around) (job : Job) (at : Counts) (clears : Clears r.targets old mid)
      (start : Starts job at mid new)
      (handed : IsHanded w kept counts before old way.log.entries r job at) where
    abbrev Run : Running
    Run = record { job = job; given = given_of mid.tree job.deps }

    start_change : Changes Begun (Began r ∷ past) mid.tree new.tree (stamp_of mid) (stamp_of new)
    start_change =
        changed mid new mid.running job.targets
        (λ p target. run_may p (subst (λ runs. IsRunningTarget runs p) clears.running target))
        (λ p m. these_may p (subst (λ ps. Contains ps p) handed.job_of.targets m)) start.files start.stamps

    change : Changes Begun (Began r ∷ past) old.tree new.tree (stamp_of old) (stamp_of new)
    change = changes_join (clear_change mid clears) start_change

    grows : (bytes : Bytes) → Contains old.met bytes → Contains new.met bytes
    grows = same_met old new (start.met ∙ clears.met)

    more : (bytes : Bytes) → Among bytes old.met → Among bytes new.met
    more = met_on old new grows

    -- what the job is given is what its dependencies held when the rule began
    given_same : given_of mid.tree job.deps ≡ contents_of old.tree
        (dependencies (setting_in w before) (in_tree old.tree) r)
    given_same =
        let given = given_so (setting_in w before) (build_in w kept before old) (lawful_in w before reading)
        begun_course in
        ap (given_of mid.tree) handed.job_of.deps
        ∙ same_map (with_content mid.tree) (with_content old.tree)
        (dependencies (setting_in w before) (in_tree old.tree) r)
        (λ p m. ap (with_path p) (sym ((clear_change mid clears).contents p
        (given.unwritten (job_for w before old r) here p m))))

    own_last : IsOwn w kept before new Begun (Began r ∷ past) (way.log.entries ++ Started job at ∷ []) Run r
    own_last =
        let job_of = job_now w kept before old new reading Begun (Began r ∷ past) begun_course change more here
        handed.job_of in
        record {
          given = subst (λ l. Among (record { rule = r; given = l }) Begun) (sym given_same) here;
          runs = record { began = here; not_done = may.decided.not_done };
          job_of = job_of;
          started = record {
            job = job;
            counts = at;
            of_rule = job_of;
            started = among_right way.log.entries here;
            has_id = refl;
          };
        }

    own_olds : AreOwn w kept before new Begun (Began r ∷ past) (way.log.entries ++ Started job at ∷ []) old.running
        way.rules
    own_olds =
        own_further w kept before new (λ j m. m) (λ e m. among_left (Started job at ∷ []) m) (λ q m runs. runs)
        (own_now w kept before old new reading Begun (Began r ∷ past) begun_course change more begun_own)

    run_more : new.running ≡ old.running ++ Run ∷ []
    run_more = start.running ∙ ap (λ l. l ++ Run ∷ []) clears.running

    pub launched : IsWay w kept counts before Begun new (Began r ∷ past)
    launched = record {
      course = course_on w kept before old new reading Begun (Began r ∷ past) begun_course change more;
      log = record {
        entries = way.log.entries ++ Started job at ∷ [];
        grown = start.log ∙ ap (λ l. l ++ Started job at ∷ []) (clears.log ∙ way.log.grown)
            ∙ append_assoc before.log way.log.entries (Started job at ∷ []);
        are = entries_now w kept before old new reading Begun (Began r ∷ past) begun_course change more (λ q m. m)
            (has_begun r job at handed.job_of handed.unrisen handed.new_id way.log.are);
      };
      rules = way.rules ++ r ∷ [];
      own = subst
          (λ runs. AreOwn w kept before new Begun (Began r ∷ past) (way.log.entries ++ Started job at ∷ []) runs
          (way.rules ++ r ∷ []))
          (sym run_more) (own_join w kept before new own_olds (one_runs own_last none_runs));
      once = unique_push way.rules way.once (λ m. may.decided.not_began (own_runs w kept before old way.own m).began);
      count = ap suc way.count ∙ sym (ap length run_more ∙ length_push old.running Run);
      law = start.law ∙ clears.law ∙ way.law;
      met = λ bytes m. grows bytes (way.met bytes m);
      first = takes_now w kept before old new reading Begun (Began r ∷ past) begun_course change more
          (may.first, way.first);
      waits = λ e. waits_now w kept before old new reading Begun (Began r ∷ past) begun_course change more
          (way.waits e);
    }
