-- Of the jobs that were started no more lack a record than ended otherwise than well.
use Rattle.std.proofs.Common.{◌≡◌, ◌≤◌, ◌+◌, ◌∙◌, ap, sym, subst, refl, ℕ, suc, pred, length, length-append, List, [], ◌∷◌, ◌++◌, Bool, true, false, not, cond, count_by, ◌||◌, Option, Some, None, is_none, option_map, arith}
use Rattle.std.specs.List.{list_any}
use Rattle.std.proofs.lemmas.List.{append_cancel_left}
use Rattle.scons_base.specs.Rising.{Rose}
use Rattle.world_api.specs.Meaning.{Meaning}
use Rattle.sign_store.specs.Tables.{Map}
use Rattle.build_means.specs.Builds.{Wanted, IsJobIn, build_in, setting_in}
use Rattle.build_means.specs.Logs.{AreUnrisen}
use Rattle.build_means.specs.Records.{record_in}
use Rattle.build_run.specs.Counting.{RoseBy}
use Rattle.build_run.specs.Outsets.{FinishesWell, HasRun}
use Rattle.build_run.specs.Unrecorded.{is_unrecorded, AreFewUnrecorded, HasCounted, HasMadeAll}
use Rattle.sign_store.specs.Stores.{map_of}
use Rattle.sign_store.specs.declared.store.Store.{Store}
use Rattle.task_plan.specs.Watched.{IsStill}
use Rattle.turn_means.specs.Laws.{FinishedSucceed}
use Rattle.turn_means.specs.Standing.{Outset, IsOutset}
use Rattle.build_run.specs.Along.{IsAtEnd, KeepsEnds}
use Rattle.build_run.specs.declared.account.Account.{Account}
use Rattle.build_run.specs.declared.site.Site.{Site}
use Rattle.build_run.proofs.Finishing.{has_made, made_steps}
use Rattle.std.proofs.lemmas.List.Sums.{sum_by-cons}
use Rattle.world_api.specs.Around.{Entry, Started, Finished, started_of}
use Rattle.world_api.specs.Counts.{Counts}
use Rattle.world_api.specs.declared.job.Job.{Job}
use Rattle.world_api.specs.declared.job.Outcome.TheVariants.{Done, Failed, Broken, NoMemory}
use Rattle.build_model.specs.Rules.{Rule, Setting, Among, here, there}
use Rattle.build_model.specs.Steps.{Step, Fresh, Began, Ended, Lacks, Halts, Build, began, done, settled, running, IsRun, IsRunning}
use Rattle.build_model.specs.Leaving.{IsRecordAfter, is_put, is_withdrawn, is_kept}
use Rattle.build_model.specs.Contents.{IsLawful}
use Rattle.build_model.specs.Rules.{Path, Record, Records}
use Rattle.build_model.proofs.Lists.{none_some, some_same}
use Rattle.build_model.proofs.Ready.{needed_place}
use Rattle.build_model.proofs.Runs.{begun_prepared}
use Rattle.build_means.specs.Logs.{is_done, AreEntries, nothing, is_fresh, has_begun, was_refused, has_ended, lacks_one, has_halted}
use Rattle.build_run.proofs.Counting.{count_append, count_one}
use Rattle.build_run.specs.Endings.{is_failure, is_breaking, is_want, is_ending, count_ended, CountsEndings}

-- a job's action didn't end well
abbrev pub is_lost : Entry → Bool
is_lost entry = is_ending (λ outcome. not (is_done outcome)) entry

count_push : {A : Type 0} (p : A → Bool) (xs : List A) (x : A) → count_by p (xs ++ x ∷ []) ≡ count_by p xs + cond (p x) 1 0
count_push p xs x = count_append p xs (x ∷ []) ∙ ap (λ n. count_by p xs + n) (count_one p x)

count_cons : {A : Type 0} (p : A → Bool) (x : A) (xs : List A) → count_by p (x ∷ xs) ≡ cond (p x) 1 0 + count_by p xs
count_cons p x xs = sum_by-cons (λ y. cond (p y) 1 0) x xs

-- ---- outcomes

-- each such ending is a failure, a breaking or for want of memory
pub lost_each : (entries : List Entry) →
    count_by is_lost entries ≡ count_by (is_ending is_failure) entries + count_by (is_ending is_breaking) entries + count_by (is_ending is_want) entries
lost_each [] = refl
lost_each (entry ∷ entries) =
    let rest = lost_each entries in
    let one = each entry in
    let a = count_cons is_lost entry entries in
    let b = count_cons (is_ending is_failure) entry entries in
    let c = count_cons (is_ending is_breaking) entry entries in
    let d = count_cons (is_ending is_want) entry entries in
    omega (arith, rest, one, a, b, c, d)
  where
    each : (entry : Entry) → cond (is_lost entry) 1 0 ≡ cond (is_ending is_failure entry) 1 0 + cond (is_ending is_breaking entry) 1 0 + cond (is_ending is_want entry) 1 0
    each (Started job counts) = refl
    each (Finished id Done) = refl
    each (Finished id (Failed code)) = refl
    each (Finished id Broken) = refl
    each (Finished id NoMemory) = refl

-- ---- jobs that run

started_append : (xs ys : List Entry) → started_of (xs ++ ys) ≡ started_of xs ++ started_of ys
started_append [] ys = refl
started_append (Started job counts ∷ xs) ys = ap (λ (l : List Job). job ∷ l) (started_append xs ys)
started_append (Finished id outcome ∷ xs) ys = started_append xs ys

-- a pair among others, and what stands before and behind it
record IsParted (pairs : List (Rule × Job)) (r : Rule) (job : Job) : Type 0 where
  front : List (Rule × Job)
  back : List (Rule × Job)
  parts : pairs ≡ front ++ (r, job) ∷ back

parted : {pairs : List (Rule × Job)} {r : Rule} {job : Job} → Among (r, job) pairs → IsParted pairs r job
parted {pairs = []} m = elim m [ ]
parted {pairs = x ∷ pairs} here = record { front = []; back = pairs; parts = refl }
parted {pairs = x ∷ pairs} (there m) =
    let k = parted m in record { front = x ∷ k.front; back = k.back; parts = ap (λ (l : List (Rule × Job)). x ∷ l) k.parts }

-- another rule's pair is still there once one is taken out
still_there : (front back : List (Rule × Job)) (r x : Rule) (job other : Job) → (x ≡ r → ⊥) → Among (x, other) (front ++ (r, job) ∷ back) → Among (x, other) (front ++ back)
still_there [] back r x job other differs here = absurd (differs refl)
still_there [] back r x job other differs (there m) = m
still_there (y ∷ front) back r x job other differs here = here
still_there (y ∷ front) back r x job other differs (there m) = there (still_there front back r x job other differs m)

module _ (IsJob : Rule → Job → Type 0) (AreAt : Counts → Type 0) (s : Setting) (b : Build) (u : Job → Bool) where
  -- the rules that run, with their jobs
  pub record AreOpen (past : List Step) (pairs : List (Rule × Job)) : Type 0 where
    pub size : length pairs ≡ running past
    pub all : (r : Rule) → IsRunning past r → (job : Job) × Among (r, job) pairs
    pub jobs : (r : Rule) (job : Job) → Among (r, job) pairs → IsJob r job

  pub record IsCounted (past : List Step) (entries : List Entry) : Type 0 where
    pub pairs : List (Rule × Job)
    pub are : AreOpen past pairs
    pub few : count_by u (started_of entries) ≤ count_by is_lost entries + count_by (λ (p : Rule × Job). u p.1) pairs

  -- what was made well has its record
  abbrev pub AreWell : List Step → Type 0
  AreWell past = (r : Rule) (job : Job) → Among (Ended r true) past → IsJob r job → u job ≡ false

  same_open : {past more : List Step} {pairs : List (Rule × Job)} → running more ≡ running past → ((r : Rule) → IsRunning more r → IsRunning past r) → AreOpen past pairs → AreOpen more pairs
  same_open same back a = record { size = a.size ∙ sym same; all = λ r h. a.all r (back r h); jobs = a.jobs }

  opened : {past : List Step} {pairs : List (Rule × Job)} (r : Rule) (job : Job) → IsJob r job → AreOpen past pairs → AreOpen (Began r ∷ past) ((r, job) ∷ pairs)
  opened {past} {pairs} r job of_rule a = record {
    size = let size = a.size in omega (arith, size);
    all = λ x h. by x h.began h.not_done;
    jobs = is_job;
  }
    where
      by : (x : Rule) → Among x (r ∷ began past) → (Among x (done past) → ⊥) → (other : Job) × Among (x, other) ((r, job) ∷ pairs)
      by x here out = (job, here)
      by x (there m) out = let k = a.all x (record { began = m; not_done = out }) in (k.0, there k.1)

      is_job : (x : Rule) (other : Job) → Among (x, other) ((r, job) ∷ pairs) → IsJob x other
      is_job x other here = of_rule
      is_job x other (there m) = a.jobs x other m

  refused : {past : List Step} {pairs : List (Rule × Job)} (r : Rule) → AreOpen past pairs → AreOpen (Ended r false ∷ Began r ∷ past) pairs
  refused {past} {pairs} r a = record {
    size = let size = a.size in omega (arith, size);
    all = λ x h. by x h.began h.not_done;
    jobs = a.jobs;
  }
    where
      by : (x : Rule) → Among x (r ∷ began past) → (Among x (r ∷ done past) → ⊥) → (other : Job) × Among (x, other) pairs
      by x here out = absurd (out here)
      by x (there m) out = a.all x (record { began = m; not_done = λ d. out (there d) })

  less : (n m : ℕ) → m ≡ suc n → n ≡ pred m
  less n m e = sym (ap pred e)

  closed : {past : List Step} (r : Rule) (well : Bool) (job : Job) (front back : List (Rule × Job)) → AreOpen past (front ++ (r, job) ∷ back) → AreOpen (Ended r well ∷ past) (front ++ back)
  closed {past} r well job front back a = record {
    size =
        let size = a.size in let one = length-append front ((r, job) ∷ back) in let two = length-append front back in
        less (length (front ++ back)) (running past) (omega (arith, size, one, two));
    all = λ x h.
        let k = a.all x (record { began = h.began; not_done = λ d. h.not_done (there d) }) in
        (k.0, still_there front back r x job k.0 (λ e. h.not_done (subst (λ (y : Rule). Among y (r ∷ done past)) (sym e) here)) k.1);
    jobs = λ x other m. a.jobs x other (over x other m);
  }
    where
      widen : (front : List (Rule × Job)) {x : Rule} {other : Job} → Among (x, other) (front ++ back) → Among (x, other) (front ++ (r, job) ∷ back)
      widen [] m = there m
      widen (y ∷ front) here = here
      widen (y ∷ front) (there m) = there (widen front m)

      over : (x : Rule) (other : Job) → Among (x, other) (front ++ back) → Among (x, other) (front ++ (r, job) ∷ back)
      over x other m = widen front m

  is_run : {past : List Step} (r : Rule) (well : Bool) → IsRun s b (Ended r well ∷ past) → IsRunning past r × IsRun s b past
  is_run r true run = (run.0.0, run.1)
  is_run r false run = (run.0, run.1)

  pub counted : {past : List Step} {entries : List Entry} → AreEntries IsJob AreAt past entries → IsRun s b past → AreWell past → IsCounted past entries
  counted nothing run well = record {
    pairs = [];
    are = record { size = refl; all = λ r h. elim h.began [ ]; jobs = λ r job m. elim m [ ] };
    few = omega arith;
  }
  counted (is_fresh {past} {entries} r h) run well =
      let k = counted h run.1 (λ x job m. well x job (there m)) in
      record { pairs = k.pairs; are = same_open refl (λ x i. record { began = i.began; not_done = λ d. i.not_done (there d) }) k.are; few = k.few }
  counted (has_begun {past} {entries} r job counts of_rule at new h) run well =
      let k = counted h run.1 (λ x other m. well x other (there m)) in
      let few = k.few in
      let started = ap (count_by u) (started_append entries (Started job counts ∷ [])) ∙ count_push u (started_of entries) job in
      let lost = count_push is_lost entries (Started job counts) in
      let more = count_cons (λ (p : Rule × Job). u p.1) (r, job) k.pairs in
      record { pairs = (r, job) ∷ k.pairs; are = opened r job of_rule k.are; few = omega (arith, few, started, lost, more) }
  counted (was_refused {past} {entries} r h) run well =
      let k = counted h run.1.1 (λ x job m. well x job (there (there m))) in
      record { pairs = k.pairs; are = refused r k.are; few = k.few }
  counted (has_ended {past} {entries} r id outcome ran started h) run well =
      let went = is_run r (is_done outcome) run in
      let k = counted h went.1 (λ x job m. well x job (there m)) in
      let job = k.are.all r went.0 in
      let parts = parted job.1 in
      record {
        pairs = parts.front ++ parts.back;
        are = closed r (is_done outcome) job.0 parts.front parts.back (subst (λ (l : List (Rule × Job)). AreOpen past l) parts.parts k.are);
        few = fewer k.few job.0 parts.front parts.back parts.parts (is_done outcome) refl (k.are.jobs r job.0 job.1);
      }
    where
      fewer : {pairs : List (Rule × Job)} → count_by u (started_of entries) ≤ count_by is_lost entries + count_by (λ (p : Rule × Job). u p.1) pairs →
          (job : Job) (front back : List (Rule × Job)) → pairs ≡ front ++ (r, job) ∷ back → (c : Bool) → is_done outcome ≡ c → IsJob r job →
          count_by u (started_of (entries ++ Finished id outcome ∷ [])) ≤
          count_by is_lost (entries ++ Finished id outcome ∷ []) + count_by (λ (p : Rule × Job). u p.1) (front ++ back)
      fewer few job front back parts c is of_rule =
          let same = ap (count_by u) (started_append entries (Finished id outcome ∷ [])) ∙ count_append u (started_of entries) [] in
          let lost = count_push is_lost entries (Finished id outcome) in
          let whole = ap (count_by (λ (p : Rule × Job). u p.1)) parts ∙ count_append (λ (p : Rule × Job). u p.1) front ((r, job) ∷ back) in
          let one = count_cons (λ (p : Rule × Job). u p.1) (r, job) back in
          let rest = count_append (λ (p : Rule × Job). u p.1) front back in
          let last = by c is in
          omega (arith, few, same, lost, whole, one, rest, last)
        where
          at_most : (x : Bool) → cond x 1 0 ≤ 1
          at_most true = omega arith
          at_most false = omega arith

          by : (c : Bool) → is_done outcome ≡ c → cond (u job) 1 0 ≤ cond (not (is_done outcome)) 1 0
          by true is = let none = ap {B = ℕ} (λ x. cond x 1 0) (well r job (subst (λ c. Among (Ended r true) (Ended r c ∷ past)) (sym is) here) of_rule) in omega (arith, none)
          by false is = let lost = ap {B = ℕ} (λ x. cond (not x) 1 0) is in let most = at_most (u job) in omega (arith, lost, most)
  counted (lacks_one {past} {entries} r p h) run well =
      let k = counted h run.1 (λ x job m. well x job (there m)) in
      record { pairs = k.pairs; are = same_open refl (λ x i. record { began = i.began; not_done = λ d. i.not_done (there d) }) k.are; few = k.few }
  counted (has_halted {past} {entries} h) run well =
      let k = counted h run.1 (λ x job m. well x job (there m)) in
      record { pairs = k.pairs; are = same_open refl (λ x i. record { began = i.began; not_done = i.not_done }) k.are; few = k.few }

  none_of : (pairs : List (Rule × Job)) → length pairs ≡ 0 → count_by (λ (p : Rule × Job). u p.1) pairs ≡ 0
  none_of [] e = refl
  none_of (p ∷ pairs) e = absurd (omega (arith, e))

  -- where nothing runs
  pub few_lost : {steps : List Step} {entries : List Entry} → AreEntries IsJob AreAt steps entries → IsRun s b steps → running steps ≡ 0 → AreWell steps →
      count_by u (started_of entries) ≤ count_by is_lost entries
  few_lost are run none well =
      let k = counted are run well in
      let few = k.few in
      let left = none_of k.pairs (k.are.size ∙ none) in
      omega (arith, few, left)

-- ---- records

-- a rule whose action ended well has begun and is settled
record EndsWell (past : List Step) (r : Rule) : Type 0 where
  stands : Among r (began past)
  settled_too : Among r (settled past)

module _ (s : Setting) (b : Build) where
  went_on : {past : List Step} (step : Step) {r : Rule} → EndsWell past r → (Among r (began past) → Among r (began (step ∷ past))) →
      (Among r (settled past) → Among r (settled (step ∷ past))) → EndsWell (step ∷ past) r
  went_on step k on so = record { stands = on k.stands; settled_too = so k.settled_too }

  ends_well : {r : Rule} (past : List Step) → IsRun s b past → Among (Ended r true) past → EndsWell past r
  ends_well [] run m = elim m [ ]
  ends_well (Fresh x ∷ past) run (there m) = went_on (Fresh x) (ends_well past run.1 m) (λ n. n) (λ n. there n)
  ends_well (Began x ∷ past) run (there m) = went_on (Began x) (ends_well past run.1 m) (λ n. there n) (λ n. n)
  ends_well (Ended x true ∷ past) run here = record { stands = run.0.0.began; settled_too = here }
  ends_well (Ended x true ∷ past) run (there m) = went_on (Ended x true) (ends_well past run.1 m) (λ n. n) (λ n. there n)
  ends_well (Ended x false ∷ past) run (there m) = went_on (Ended x false) (ends_well past run.1 m) (λ n. n) (λ n. n)
  ends_well (Lacks x p ∷ past) run (there m) = went_on (Lacks x p) (ends_well past run.1 m) (λ n. n) (λ n. n)
  ends_well (Halts ∷ past) run (there m) = went_on Halts (ends_well past run.1 m) (λ n. n) (λ n. n)

  module _ (steps : List Step) (lawful : IsLawful s) (run : IsRun s b steps) where
    begun_rule : {r : Rule} {p : Path} → Among r (began steps) → Among p r.targets → s.rule_of p ≡ Some r
    begun_rule {r} {p} m n =
        let place = needed_place (begun_prepared s b steps run m).wanted.is_needed in lawful.alone place.0 r place.1 p n

    -- what it made has its record
    recorded : {r : Rule} {p : Path} (m : Records) → IsRecordAfter s b steps m p → Among (Ended r true) steps → Among p r.targets → (rec : Record) × (m p ≡ Some rec)
    recorded m (is_put x stands settled_too t e) ended n = (_, e)
    recorded {r} {p} m (is_withdrawn x stands out t e) ended n =
        let k = ends_well steps run ended in
        absurd (out (subst (λ (y : Rule). Among y (settled steps)) (some_same (sym (begun_rule k.stands n) ∙ begun_rule stands t)) k.settled_too))
    recorded {r} m (is_kept out e) ended n = absurd (out r (ends_well steps run ended).stands n)

none_any : {A : Type 0} (f : A → Bool) (xs : List A) → ((x : A) → Among x xs → f x ≡ false) → list_any f xs ≡ false
none_any f [] each = refl
none_any f (x ∷ xs) each = ap (λ c. c || list_any f xs) (each x here) ∙ none_any f xs (λ y m. each y (there m))

some_mapped : {A : Type 0} (f : A → Record) (o : Option A) (rec : Record) → option_map f o ≡ Some rec → is_none o ≡ false
some_mapped f None rec e = none_some e
some_mapped f (Some x) rec e = refl

-- so a job that ended well lacks none
pub well_recorded : {A : Type 0} (f : A → Record) (kept : Path → Option A) (s : Setting) (b : Build) (steps : List Step) → IsLawful s → IsRun s b steps →
    ((p : Path) → IsRecordAfter s b steps (λ path. option_map f (kept path)) p) → (r : Rule) (targets : List Path) → Among (Ended r true) steps → targets ≡ r.targets →
    list_any (λ path. is_none (kept path)) targets ≡ false
well_recorded f kept s b steps lawful run each r targets ended same =
    ap (list_any (λ path. is_none (kept path))) same
    ∙ none_any (λ path. is_none (kept path)) r.targets (λ p n.
    let k = recorded s b steps lawful run (λ path. option_map f (kept path)) (each p) ended n in some_mapped f (kept p) k.0 k.1)

-- ---- builds

module _ {W : Type 0} (m : Meaning W) (w : Wanted) (map : Map) (a c : W) (behind : Map) (ended memory : Bool)
    (run : HasRun m w map a c behind ended) (idle : running run.runs.steps ≡ 0)
    (counted_too : CountsEndings (m.counts a) (m.counts c) memory (m.around a).log (m.around c).log) where
  these : counted_too.entries ≡ run.runs.log.entries
  these =
      append_cancel_left (m.around a).log counted_too.entries run.runs.log.entries
      (sym counted_too.grown ∙ run.runs.log.grown ∙ ap (λ (l : List Entry). l ++ run.runs.log.entries) run.rest.log)

  few : (Rose (m.counts a).disk_faults (m.counts c).disk_faults → ⊥) → memory ≡ false → AreFewUnrecorded behind run.runs.log.entries
  few calm ample =
      let seen = run.runs.seen.build in
      let lost =
      few_lost (IsJobIn w run.kept run.left (m.around c)) (AreUnrisen w.keep (m.counts a)) (setting_in w run.left) (build_in w run.kept run.left (m.around c))
      (is_unrecorded behind) run.runs.log.are seen.run idle
      (λ r job ended_well of_rule.
      well_recorded record_in behind (setting_in w run.left) (build_in w run.kept run.left (m.around c)) run.runs.steps seen.lawful seen.run
      (run.records calm) r job.targets ended_well of_rule.targets) in
      let each = lost_each run.runs.log.entries in
      let none = subst (λ (l : List Entry). count_ended is_want l ≡ 0) these (counted_too.wants ample) in
      omega (arith, lost, each, none)

  pub has_counted : HasCounted m w map a c behind ended memory
  has_counted = record {
    run = run;
    jobs = record {
      failed =
          subst (λ (l : List Entry). RoseBy (count_ended is_failure l) (m.counts a).action_failures (m.counts c).action_failures) these
          counted_too.failed;
      broken =
          subst (λ (l : List Entry). RoseBy (count_ended is_breaking l) (m.counts a).start_faults (m.counts c).start_faults) these counted_too.broken;
      few = few;
    };
  }

-- ---- as it ends

module _ {W O E : Type 0} (m : Meaning W) (o : Outset) (outset : IsOutset o) (mid : Site W O E) (after : Account)
    (there : IsAtEnd m o mid) (rest : (m.around mid.world.now).running ≡ [])
    (still : mid.run.now.plan.halted ≡ false → IsStill mid.run.now.plan)
    (ends : KeepsEnds mid.account.now after) (finishes : FinishesWell mid.graph.now mid.run.now.plan mid.account.now after)
    (law : FinishedSucceed) (none : mid.run.now.held ≡ []) (shut : after.is_store_shut ≡ mid.account.now.is_store_shut) (behind : Map)
    (same : behind ≡ map_of mid.store.now) where
  pub has_made_all : HasMadeAll o (m.around mid.world.now) after behind
  has_made_all = record {
    made = has_made m o outset mid after there rest still ends finishes law none shut behind same;
    idle =
        ap running (made_steps m o outset mid after there rest still ends finishes law none shut behind same)
        ∙ there.on.at.way.count ∙ ap length rest;
  }

-- what was lent
module _ {W O E : Type 0} (m : Meaning W) (last : Site W O E) where
  pub all_given : (o : Outset) (now world : W) (account : Account) (store : Store) → last.world.now ≡ world →
      last.account.now ≡ account → last.store.now ≡ store → last.world.now ≡ now →
      (m.tells now → m.sure now → HasMadeAll o (m.around now) last.account.now (map_of last.store.now)) →
      m.tells world → m.sure world → HasMadeAll o (m.around world) account (map_of store)
  all_given o now world account store lent lent_account lent_store same made =
      subst (λ (w : W). m.tells w → m.sure w → HasMadeAll o (m.around w) account (map_of store)) (sym same ∙ lent)
      (λ tells sure.
      subst (λ (kept : Store). HasMadeAll o (m.around now) account (map_of kept)) lent_store
      (subst (λ (a : Account). HasMadeAll o (m.around now) a (map_of last.store.now)) lent_account (made tells sure)))
