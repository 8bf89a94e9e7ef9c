-- A build begins, stays where it is while running jobs alone write, and takes a step that no call makes.
use Rattle.std.proofs.Common.{◌≡◌, List, [], ◌∷◌, length, Contains, refl, sym, subst, ap, ◌∙◌, append-nil}
use Rattle.world_api.specs.Around.{Around}
use Rattle.world_api.specs.Calls.{Grows}
use Rattle.world_api.specs.Counts.{Counts}
use Rattle.world_api.specs.Reads.{stamp_of}
use Rattle.build_model.specs.Rules.{Path, Bytes, Rule, Among}
use Rattle.build_model.specs.Moments.{Job as Given, begins, finds, lacks, halts, Changes}
use Rattle.build_model.specs.Steps.{Step, Fresh, Lacks, Halts, began, done, IsRunning, IsLacking}
use Rattle.build_model.proofs.Lists.{true_false}
use Rattle.build_model.proofs.Staying.{course_is_seen_so}
use Rattle.build_means.specs.Rules.{IsReading}
use Rattle.build_means.specs.Builds.{Wanted, Kept, setting_in, build_in}
use Rattle.build_means.specs.Logs.{nothing, is_fresh, lacks_one, has_halted}
use Rattle.run_means.specs.Ways.{IsWay, AreOwn, none_runs}
use Rattle.run_means.specs.Clears.{Clears}
use Rattle.run_means.specs.Turns.{MayBeFresh}
use Rattle.run_means.specs.Laws.{WaysBegin, RunsSo}
use Rattle.run_means.proofs.Lists.{contains_among, among_contains, not_among}
use Rattle.run_means.proofs.Own.{own_write, own_further}
use Rattle.run_means.proofs.Clearing.{changed}
use Rattle.run_means.proofs.Carrying.{lawful_in, course_on, takes_now, waits_now, entries_now, own_now}

pub begin : WaysBegin
begin w kept counts before none = record {
  course = begins;
  log = record { entries = []; grown = sym (append-nil before.log); are = nothing };
  rules = [];
  own = subst (λ runs. AreOwn w kept before before [] [] [] runs []) (sym none) none_runs;
  once = tt;
  count = ap length (sym none);
  law = refl;
  met = λ bytes m. m;
  first = tt;
  waits = λ e. tt;
}

-- what was met is met
pub met_on : (old new : Around) → Grows old.met new.met → (bytes : Bytes) → Among bytes old.met → Among bytes new.met
met_on old new grows bytes m = contains_among new.met (grows bytes (among_contains m))

pub same_met : (old new : Around) → new.met ≡ old.met → Grows old.met new.met
same_met old new same bytes m = subst (λ l. Contains l bytes) (sym same) m

pub none_there : {A B : Type 0} {x : A} → Contains [] x → B
none_there {x = x} h = elim (contains_among [] h) [ ]

-- a rule that runs is another one than one that hasn't begun
pub not_done_by : {past : List Step} {q r : Rule} → (Among r (began past) → ⊥) → IsRunning past q →
    Among q (r ∷ done past) → ⊥
not_done_by {past} not_began runs m =
    not_among (λ e. not_began (subst (λ x. Among x (began past)) e runs.began)) runs.not_done m

module _ (w : Wanted) (kept : Kept) (counts : Counts) (before : Around) where
  pub cleared : (old new : Around) (jobs : List Given) (past : List Step) → IsReading w.graph →
      IsWay w kept counts before jobs old past →
      Clears [] old new → IsWay w kept counts before jobs new past
  cleared old new jobs past reading way clears =
      let change : Changes jobs past old.tree new.tree (stamp_of old) (stamp_of new) =
      changed old new old.running [] (λ p target. own_write w kept before old way.own target) (λ p m. none_there m)
      clears.files
      clears.stamps in
      let grows = same_met old new clears.met in
      let more = met_on old new grows in
      record {
        course = course_on w kept before old new reading jobs past way.course change more;
        log = record {
          entries = way.log.entries;
          grown = clears.log ∙ way.log.grown;
          are = entries_now w kept before old new reading jobs past way.course change more (λ r m. m) way.log.are;
        };
        rules = way.rules;
        own = subst (λ runs. AreOwn w kept before new jobs past way.log.entries runs way.rules) (sym clears.running)
            (own_now w kept before old new reading jobs past way.course change more way.own);
        once = way.once;
        count = way.count ∙ ap length (sym clears.running);
        law = clears.law ∙ way.law;
        met = λ bytes m. grows bytes (way.met bytes m);
        first = takes_now w kept before old new reading jobs past way.course change more way.first;
        waits = λ e. waits_now w kept before old new reading jobs past way.course change more (way.waits e);
      }

  -- a step that no call makes leaves what runs
  still_own : {around : Around} {jobs : List Given} {past : List Step}
      (way : IsWay w kept counts before jobs around past) (later : List Step) →
      ((r : Rule) → IsRunning past r → IsRunning later r) →
      AreOwn w kept before around jobs later way.log.entries around.running way.rules
  still_own {around} way later still =
      own_further w kept before around (λ j m. m) (λ e m. m) (λ r m runs. still r runs) way.own

  pub fresh : (around : Around) (jobs : List Given) (past : List Step) (r : Rule) →
      IsWay w kept counts before jobs around past →
      MayBeFresh w kept before around past r → IsWay w kept counts before jobs around (Fresh r ∷ past)
  fresh around jobs past r way may = record {
    course = finds r may.decided may.fresh way.course;
    log = record { entries = way.log.entries; grown = way.log.grown; are = is_fresh r way.log.are };
    rules = way.rules;
    own = still_own way (Fresh r ∷ past)
        (λ q runs. record { began = runs.began; not_done = not_done_by may.decided.not_began runs });
    once = way.once;
    count = way.count;
    law = way.law;
    met = way.met;
    first = (may.first, way.first);
    waits = way.waits;
  }

  pub lacking : (around : Around) (jobs : List Given) (past : List Step) (r : Rule) (p : Path) →
      IsWay w kept counts before jobs around past →
      IsLacking (setting_in w before) (build_in w kept before around) past r p →
      IsWay w kept counts before jobs around (Lacks r p ∷ past)
  lacking around jobs past r p way may = record {
    course = lacks r p may way.course;
    log = record { entries = way.log.entries; grown = way.log.grown; are = lacks_one r p way.log.are };
    rules = way.rules;
    own = still_own way (Lacks r p ∷ past)
        (λ q runs. record { began = runs.began; not_done = not_done_by may.not_began runs });
    once = way.once;
    count = way.count;
    law = way.law;
    met = way.met;
    first = way.first;
    waits = λ e. true_false e;
  }

  pub halting : (around : Around) (jobs : List Given) (past : List Step) → IsWay w kept counts before jobs around past →
      IsWay w kept counts before jobs around (Halts ∷ past)
  halting around jobs past way = record {
    course = halts way.course;
    log = record { entries = way.log.entries; grown = way.log.grown; are = has_halted way.log.are };
    rules = way.rules;
    own = still_own way (Halts ∷ past) (λ q runs. record { began = runs.began; not_done = runs.not_done });
    once = way.once;
    count = way.count;
    law = way.law;
    met = way.met;
    first = way.first;
    waits = λ e. true_false e;
  }

  pub did : (after : Around) (jobs : List Given) (past : List Step) → IsReading w.graph →
      IsWay w kept counts before jobs after past →
      RunsSo w kept counts before after past
  did after jobs past reading way = (
    record {
      steps = past;
      seen = course_is_seen_so (setting_in w before) (build_in w kept before after) (lawful_in w before reading)
          way.course;
      log = way.log;
      first = way.first;
    },
    refl,
  )
