-- What is decided of the rule that a plan has chosen: what the model asks of a rule that is found up to date, or begins.
use Rattle.std.proofs.Common.{◌≡◌, ◌<◌, ℕ, Bool, true, false, ◌||◌, List, [], ◌∷◌, length, map, Contains, Some, None, refl, sym, subst, ap, ◌∙◌, option_map}
use Rattle.std.specs.List.{list_any}
use Rattle.scons_base.specs.declared.ids.RuleId.{RuleId}
use Rattle.world_api.specs.Counts.{Counts}
use Rattle.world_api.specs.Reads.{stamp_of}
use Rattle.world_api.specs.declared.job.Job.{Job}
use Rattle.deciders.specs.Records as kept_record
use Rattle.deciders.specs.Spelling.{work_byte}
use Rattle.deciders.specs.declared.recorded.Dep.{Dep}
use Rattle.deciders.specs.declared.recorded.Rec.{Rec}
use Rattle.task_plan.specs.Settled.{deps_of}
use Rattle.build_model.specs.Rules.{Path, Content, Tree, Stamps, Rule, Record, Records, Dependency, Among, here, there}
use Rattle.build_model.specs.Contents.{in_tree}
use Rattle.build_model.specs.Moments.{Job as Given}
use Rattle.build_model.specs.OneJob.{IsTakenFirst}
use Rattle.build_model.specs.Records.{IsMet, dependency_of}
use Rattle.build_model.specs.Stale.{name_of, first_stamp}
use Rattle.build_model.specs.Steps.{Step, Build, began, present_dependencies, present_record, IsDecided}
use Rattle.build_model.proofs.Lists.{some_same}
use Rattle.build_model.proofs.Ready.{needed_place}
use Rattle.build_means.specs.Builds.{IsJobIn, jobs_at_once}
use Rattle.build_means.specs.Due.{is_due_for, is_due}
use Rattle.build_means.specs.Grown.{rule_numbered}
use Rattle.build_means.specs.Logs.{AreUnrisen, IsNewId}
use Rattle.build_means.specs.Present.{record_over}
use Rattle.build_means.specs.Records.{dependency_in, record_in, records_in}
use Rattle.build_means.specs.Rules.{paths_of}
use Rattle.build_means.proofs.Growing.{paths_stay}
use Rattle.plan_means.specs.Deciding.{IsTied, MayBeDecided}
use Rattle.plan_means.proofs.Deciding.{may_be_decided}
use Rattle.plan_means.proofs.Single.{numbered_stands}
use Rattle.plan_means.proofs.Taking.{taken_first}
use Rattle.run_means.specs.Turns.{MayBeFresh, MayBegin, IsHanded}
use Rattle.run_means.specs.Ways.{IsWay}
use Rattle.run_means.proofs.Lists.{contains_among}
use Rattle.turn_means.specs.Standing.{Outset, IsOutset, begun_at, setting_at, Standing, Knows}
use Rattle.turn_means.specs.Laws.{IsWeighed, is_due_now, IsJobFrom}
use Rattle.turn_means.proofs.Numbers.{lines_are}
use Rattle.turn_means.specs.Recording.{build_at}
use Rattle.turn_means.proofs.Running.{MakesIt, lawful, run_so, makes_each, ready_still, unbegun_same, unbegun_stamp}

pub same_any : {A : Type 0} (f h : A → Bool) (xs : List A) → ((x : A) → Among x xs → f x ≡ h x) → list_any f xs ≡ list_any h xs
same_any f h [] e = refl
same_any f h (x ∷ xs) e = ap (λ b. b || list_any f xs) (e x here) ∙ ap (λ b. h x || b) (same_any f h xs (λ y m. e y (there m)))

pub first_same : (stamps later : Stamps) (targets : List Path) → ((p : Path) → Among p targets → stamps p ≡ later p) →
    first_stamp stamps targets ≡ first_stamp later targets
first_same stamps later [] e = refl
first_same stamps later (p ∷ targets) e = e p here

-- a rule is due by what stands and is recorded at its targets alone
pub due_agrees : (r : Rule) (t u : Tree) (stamps later : Stamps) (m n : Records) (now : Record) →
    ((p : Path) → Among p r.targets → t p ≡ u p) → ((p : Path) → Among p r.targets → stamps p ≡ later p) →
    ((p : Path) → Among p r.targets → m p ≡ n p) → is_due r t stamps m now ≡ is_due r u later n now
unfolding is_due
due_agrees r t u stamps later m n now files times records =
    ap (λ b. r.always || b)
    (same_any (λ p. is_due_for r.decider (first_stamp stamps r.targets) now (t p) (m p))
    (λ p. is_due_for r.decider (first_stamp later r.targets) now (u p) (n p)) r.targets
    (λ p among.
    ap (λ s. is_due_for r.decider s now (t p) (m p)) (first_same stamps later r.targets times)
    ∙ ap (λ c. is_due_for r.decider (first_stamp later r.targets) now c (m p)) (files p among)
    ∙ ap (is_due_for r.decider (first_stamp later r.targets) now (u p)) (records p among)))

kept_names : (deps : List Dep) → map kept_record.name_of deps ≡ map name_of (map dependency_in deps)
kept_names [] = refl
kept_names (d ∷ deps) = ap (λ ps. d.name ∷ ps) (kept_names deps)

over_names : (f : Path → Dependency) → ((p : Path) → (f p).name ≡ p) → (paths : List Path) → map name_of (map f paths) ≡ paths
over_names f named [] = refl
over_names f named (p ∷ paths) = ap (λ q. q ∷ map name_of (map f paths)) (named p) ∙ ap (λ ps. p ∷ ps) (over_names f named paths)

module _ (o : Outset) (outset : IsOutset o) (jobs : List Given) (s : Standing) (past : List Step)
    (way : IsWay o.wanted o.kept o.counts o.before jobs s.around past) (knows : Knows o s past) where
  abbrev pub Now : Build
  Now = build_at o s.around

  -- the plan is tied to the build, if it ended here
  pub tied : IsTied (begun_at o) s.graph o.wanted.requested Now past s.plan
  tied = record {
    graph = knows.now;
    run = run_so o outset jobs s.around past way;
    asked = sym (paths_stay (begun_at o) s.graph knows.now.read knows.now.reading knows.now.grown o.wanted.requested outset.below);
    ties = knows.ties;
    goes_on = λ halted. knows.goes_on;
  }

  module _ (rule : RuleId) (r : Rule) (rec : Rec) (weighed : IsWeighed o s rule r rec) where
    abbrev Paths : List Path
    Paths = paths_of s.graph (deps_of s.plan.rules rule.0)

    may : MayBeDecided (begun_at o) s.graph Now past s.plan rule.0
    may = may_be_decided (begun_at o) s.graph o.wanted.requested Now past s.plan tied rule.0 weighed.chosen.next.can
        weighed.chosen.next.goes

    same : may.rule ≡ r
    same = some_same (sym may.is ∙ weighed.is)

    pub decided : IsDecided (setting_at o) Now past r
    decided = subst (λ x. IsDecided (setting_at o) Now past x) same (may.decided weighed.present.there)

    dependencies : present_dependencies (setting_at o) Now r ≡ Paths
    dependencies = subst (λ x. present_dependencies (setting_at o) Now x ≡ Paths) same may.dependencies

    pub place : (path : Path) × MakesIt o path r
    place = needed_place decided.prepared.wanted.is_needed

    pub makes : (path : Path) → Among path r.targets → MakesIt o path r
    makes path m = makes_each o outset place.0 place.1 path m

    pub place_among : Among place.0 r.targets
    place_among = (lawful o outset).makes place.0 r place.1

    -- the record over the files is that of the model
    pub record_is : record_in rec ≡ present_record (setting_at o) Now r
    record_is = weighed.present.is
        ∙ ap (λ ps. record_over (setting_at o) r ps s.around.tree (stamp_of s.around)) (sym dependencies)

    due_same : is_due r Now.before Now.stamps_before Now.records (present_record (setting_at o) Now r) ≡ is_due_now s r rec
    due_same =
        ap (is_due r Now.before Now.stamps_before Now.records) (sym record_is)
        ∙ due_agrees r Now.before s.around.tree Now.stamps_before (stamp_of s.around) Now.records (records_in s.records)
        (record_in rec)
        (λ p m. unbegun_same o outset jobs s.around past way p (makes p m) decided.not_began)
        (λ p m. unbegun_stamp o outset jobs s.around past way p (makes p m) decided.not_began)
        (λ p m. ap (option_map record_in) (sym (knows.records p r (makes p m) decided.not_began)))

    met_by : (path : Path) (c : Content) → s.around.tree path ≡ c →
        ((bytes : List ℕ) → s.around.tree path ≡ Some bytes → Contains s.around.met bytes) → IsMet s.around.met c
    met_by path None e met = tt
    met_by path (Some bytes) e met = contains_among s.around.met (met bytes e)

    each_met : (path : Path) → Among path (present_dependencies (setting_at o) Now r) → IsMet Now.met (Now.after path)
    each_met path m =
        met_by path (s.around.tree path) refl
        (λ bytes e. weighed.met path bytes e
        (ready_still o outset jobs s.around past way (decided.prepared.dependencies path m)))

    first : IsTakenFirst (setting_at o) Now past r
    first = taken_first (begun_at o) s.graph o.wanted.requested Now past s.plan tied weighed.chosen.none_ready rule r weighed.is
        weighed.chosen.first

    pub may_be_fresh : is_due_now s r rec ≡ false → MayBeFresh o.wanted o.kept o.before s.around past r
    may_be_fresh not_due = record {
      first = first;
      decided = decided;
      fresh = record {
        not_due = due_same ∙ not_due;
        each_met = each_met;
        same = λ p m. unbegun_same o outset jobs s.around past way p (makes p m) decided.not_began;
      };
    }

    pub may_begin : is_due_now s r rec ≡ true → length s.around.running < jobs_at_once o.wanted.jobs →
        MayBegin o.wanted o.kept o.before s.around past r
    may_begin is_due room = record {
      first = first;
      decided = decided;
      start = record {
        due = due_same ∙ is_due;
        each_met = each_met;
        room = subst (λ n. n < jobs_at_once o.wanted.jobs) (sym way.count) room;
      };
    }

    names : map kept_record.name_of rec.deps ≡ present_dependencies (setting_at o) Now r
    names =
        kept_names rec.deps ∙ ap (λ (x : Record). map name_of x.dependencies) weighed.present.is
        ∙ over_names (dependency_of (setting_at o) r (in_tree s.around.tree) (stamp_of s.around)) (λ p. refl) Paths
        ∙ sym dependencies

    pub is_job : (job : Job) → IsJobFrom s.graph rule rec job → IsJobIn o.wanted o.kept o.before s.around r job
    is_job job from =
        let stands = numbered_stands (begun_at o) s.graph knows.now rule.0 r weighed.is in
        record {
          work = ap work_byte from.work ∙ ap (λ (x : Record). x.work) weighed.present.is;
          targets = from.targets ∙ ap (λ (x : Record). x.targets) weighed.present.is;
          lines = from.lines stands.of stands.at
              ∙ lines_are (begun_at o) s.graph knows.now rule.0 r weighed.is stands.of place.0 stands.at place_among;
          signed = from.signed ∙ ap (λ (x : Record). x.signed) weighed.present.is;
          deps = from.deps ∙ names;
        }

    new_id : (job : Job) → IsJobFrom s.graph rule rec job → IsNewId way.log.entries job.id
    new_id job from other at m same_id =
        let numbered = knows.numbered way.log.entries way.log.grown other at m in
        let is_r : numbered.rule ≡ r =
        some_same (sym numbered.numbered ∙ ap (rule_numbered (begun_at o) s.graph) (same_id ∙ from.id) ∙ weighed.is) in
        decided.not_began (subst (λ x. Among x (began past)) is_r numbered.stands)

    pub handed : (job : Job) (at : Counts) → IsJobFrom s.graph rule rec job → AreUnrisen o.wanted.keep o.counts at →
        IsHanded o.wanted o.kept o.counts o.before s.around way.log.entries r job at
    handed job at from unrisen = record { job_of = is_job job from; unrisen = unrisen; new_id = new_id job from }
