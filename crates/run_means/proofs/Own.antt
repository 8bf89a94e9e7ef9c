-- The jobs that run, and the rules for which they do.
use Rattle.std.proofs.Common.{◌≡◌, List, [], ◌∷◌, ◌++◌, refl, subst, ap}
use Rattle.world_api.specs.Around.{Around, Entry, Running, IsRunningTarget}
use Rattle.build_model.specs.Rules.{Path, Rule, Among, here, there}
use Rattle.build_model.specs.Moments.{Job as Given, MayWrite}
use Rattle.build_model.specs.Steps.{Step, IsRunning}
use Rattle.build_means.specs.Builds.{Wanted, Kept}
use Rattle.run_means.specs.Ways.{IsOwn, AreOwn, none_runs, one_runs}
use Rattle.run_means.proofs.Lists.{contains_among}

module _ (w : Wanted) (kept : Kept) (before around : Around) where
  module _ {jobs : List Given} {past : List Step} {entries : List Entry} where
    -- a job that runs is that of a rule
    pub own_of : {run : Running} {running : List Running} {rules : List Rule} →
        AreOwn w kept before around jobs past entries running rules → Among run running →
        (r : Rule) × IsOwn w kept before around jobs past entries run r
    own_of none_runs m = elim m [ ]
    own_of (one_runs {r = r} h more) here = (r, h)
    own_of (one_runs h more) (there m) = own_of more m

    -- and what it may write is what the rule's action may
    pub own_write : {running : List Running} {rules : List Rule} {p : Path} →
        AreOwn w kept before around jobs past entries running rules → IsRunningTarget running p → MayWrite jobs past p
    own_write {running = running} {p = p} own target =
        let h = own_of own (contains_among running target.1) in
        record {
          job = record { rule = h.0; given = target.0.given };
          started = h.1.given;
          not_done = h.1.runs.not_done;
          target = subst (λ ps. Among p ps) h.1.job_of.targets (contains_among target.0.job.targets target.2);
        }

    pub own_runs : {r : Rule} {running : List Running} {rules : List Rule} →
        AreOwn w kept before around jobs past entries running rules → Among r rules → IsRunning past r
    own_runs none_runs m = elim m [ ]
    own_runs (one_runs h more) here = h.runs
    own_runs (one_runs h more) (there m) = own_runs more m

    pub own_join : {front back : List Running} {rules others : List Rule} →
        AreOwn w kept before around jobs past entries front rules →
        AreOwn w kept before around jobs past entries back others →
        AreOwn w kept before around jobs past entries (front ++ back) (rules ++ others)
    own_join none_runs back = back
    own_join (one_runs h more) back = one_runs h (own_join more back)

  -- one of the jobs that run, and the others
  pub record OwnParts (jobs : List Given) (past : List Step) (entries : List Entry) (front : List Running)
      (which : Running)
      (back : List Running) (rules : List Rule) : Type 0 where
    pub front_rules : List Rule
    pub rule : Rule
    pub back_rules : List Rule
    pub parts : rules ≡ front_rules ++ rule ∷ back_rules
    pub front_own : AreOwn w kept before around jobs past entries front front_rules
    pub own : IsOwn w kept before around jobs past entries which rule
    pub back_own : AreOwn w kept before around jobs past entries back back_rules

  module _ {jobs : List Given} {past : List Step} {entries : List Entry} where
    one_more : {run which : Running} {front back : List Running} {r : Rule} {rules : List Rule} →
        IsOwn w kept before around jobs past entries run r → OwnParts jobs past entries front which back rules →
        OwnParts jobs past entries (run ∷ front) which back (r ∷ rules)
    one_more {r = r} h cut = record {
      front_rules = r ∷ cut.front_rules;
      rule = cut.rule;
      back_rules = cut.back_rules;
      parts = ap (λ l. r ∷ l) cut.parts;
      front_own = one_runs h cut.front_own;
      own = cut.own;
      back_own = cut.back_own;
    }

    pub own_parts : {which : Running} {back : List Running} {rules : List Rule} (front : List Running) →
        AreOwn w kept before around jobs past entries (front ++ which ∷ back) rules →
        OwnParts jobs past entries front which back rules
    own_parts [] (one_runs {r = r} {rules = rules} h more) = record {
      front_rules = [];
      rule = r;
      back_rules = rules;
      parts = refl;
      front_own = none_runs;
      own = h;
      back_own = more;
    }
    own_parts (run ∷ front) (one_runs h more) = one_more h (own_parts front more)

  -- the jobs that run are so still by more jobs, steps and entries, where the actions of their rules run still
  module _ {jobs later_jobs : List Given} {past later : List Step} {entries log : List Entry}
      (more_jobs : (j : Given) → Among j jobs → Among j later_jobs)
      (more_entries : (e : Entry) → Among e entries → Among e log) where
    own_one : {run : Running} {r : Rule} → (IsRunning past r → IsRunning later r) →
        IsOwn w kept before around jobs past entries run r →
        IsOwn w kept before around later_jobs later log run r
    own_one still h = record {
      given = more_jobs _ h.given;
      runs = still h.runs;
      job_of = h.job_of;
      started = record {
        job = h.started.job;
        counts = h.started.counts;
        of_rule = h.started.of_rule;
        started = more_entries _ h.started.started;
        has_id = h.started.has_id;
      };
    }

    pub own_further : {running : List Running} {rules : List Rule} →
        ((r : Rule) → Among r rules → IsRunning past r → IsRunning later r) →
        AreOwn w kept before around jobs past entries running rules →
        AreOwn w kept before around later_jobs later log running rules
    own_further still none_runs = none_runs
    own_further still (one_runs {r = r} h more) =
        one_runs (own_one (still r here) h) (own_further (λ q m. still q (there m)) more)
