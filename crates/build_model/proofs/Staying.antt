-- What is settled doesn't change any more: so the steps of a build are legal by every later tree.
use Rattle.std.proofs.Common.{◌≡◌, ◌<◌, Bool, true, false, List, [], ◌∷◌, length, map, Some, None, refl, sym, subst, ap, ◌∙◌, inl, inr, ◌⊎◌}
use Rattle.build_model.specs.Rules.{Path, Content, Tree, Stamps, Rule, Setting, Among, here, there}
use Rattle.build_model.specs.Needs.{Found}
use Rattle.build_model.specs.Contents.{in_tree, found_in, includes_of, dependencies, IsLawful, scanned_files}
use Rattle.build_model.specs.Records.{record_of, dependency_of, known_digest, stamp_kept, IsMet}
use Rattle.build_model.specs.Steps.{Step, Fresh, Began, Ended, Lacks, Halts, Build, settled, began, IsReady, is_source, is_made, IsMissing, contents_of, with_content, IsWanted, IsPrepared, IsDecided, IsFresh, IsStart, IsMade, IsFirstMissing, IsLacking, IsRun}
use Rattle.build_model.specs.Moments.{Job, job_rule, so_far, MayWrite, Changes, HasMade, IsCourse, begins, changes, finds, starts, makes, fails, lacks, halts}
use Rattle.build_model.specs.Laws.{IsBuild, IsSeenSo, AreGivenSo}
use Rattle.build_model.proofs.Lists.{none_some, some_same, same_map, among_same, among_either}
use Rattle.build_model.proofs.Agree.{same_dependencies, same_record, same_scanned}
use Rattle.build_model.proofs.Ready.{Within, needed_place}
use Rattle.build_model.proofs.Runs.{settled_later, settled_done, begun_prepared}

-- two trees with their stamps agree at a path
abbrev pub Same : Tree → Tree → Stamps → Stamps → Path → Type 0
Same t u stamps later p = (t p ≡ u p) × (stamps p ≡ later p)

-- they agree at what no rule makes, and at what these rules make
pub record Stays (s : Setting) (rules : List Rule) (t u : Tree) (stamps later : Stamps) : Type 0 where
  pub sources : (p : Path) → s.rule_of p ≡ None → Same t u stamps later p
  pub made : (p : Path) (r : Rule) → s.rule_of p ≡ Some r → Among r rules → Same t u stamps later p

stays_less : {s : Setting} {rules more : List Rule} {t u : Tree} {stamps later : Stamps} → Within rules more →
    Stays s more t u stamps later → Stays s rules t u stamps later
stays_less w h = record { sources = h.sources; made = λ p r e m. h.made p r e (w r m) }

module _ (s : Setting) (b : Build) (lawful : IsLawful s) (t u : Tree) (stamps later : Stamps) where
  abbrev pub At : Build
  At = so_far b t stamps

  abbrev pub Later : Build
  Later = so_far b u later

  module _ (rules : List Rule) (stays : Stays s rules t u stamps later) where
    same_ready : {p : Path} → IsReady s t rules p → Same t u stamps later p
    same_ready {p} (is_source bytes none file) = stays.sources p none
    same_ready {p} (is_made r e m) = stays.made p r e m

    ready_stays : {p : Path} → IsReady s t rules p → IsReady s u rules p
    ready_stays {p} (is_source bytes none file) = is_source bytes none (sym (stays.sources p none).0 ∙ file)
    ready_stays (is_made r e m) = is_made r e m

    missing_stays : {p : Path} → IsMissing s t p → IsMissing s u p
    missing_stays {p} h = record { no_rule = h.no_rule; no_file = sym (stays.sources p h.no_rule).0 ∙ h.no_file }

    found_stays_cases : (found : Found) (r : Rule) (p : Path) →
        (found r p ≡ []) ⊎ (IsReady s t rules p × (found r p ≡ found_in s (in_tree t) r p)) →
        (found r p ≡ []) ⊎ (IsReady s u rules p × (found r p ≡ found_in s (in_tree u) r p))
    found_stays_cases found r p (inl e) = inl e
    found_stays_cases found r p (inr h) =
        inr (ready_stays h.0, h.1 ∙ ap (λ c. includes_of (s.includes r p) (Some c)) (same_ready h.0).0)

    wanted_stays : {r : Rule} → IsWanted s At rules r → IsWanted s Later rules r
    wanted_stays h = record {
      found = h.found;
      is_found = λ q p. found_stays_cases h.found q p (h.is_found q p);
      is_needed = h.is_needed;
    }

    -- a rule all of whose dependencies stay
    module _ (r : Rule) (same : (p : Path) → Among p (dependencies s (in_tree t) r) → Same t u stamps later p) where
      dependencies_stay : dependencies s (in_tree u) r ≡ dependencies s (in_tree t) r
      dependencies_stay = same_dependencies s r (in_tree t) (in_tree u) (λ p m. ap Some (same p m).0)

      scanned_stay : scanned_files s (in_tree u) r ≡ scanned_files s (in_tree t) r
      scanned_stay = same_scanned s r (in_tree t) (in_tree u) (λ p m. ap Some (same p m).0)

      stamped : record_of s r (in_tree t) later ≡ record_of s r (in_tree t) stamps
      stamped =
          ap (λ l. record { work = r.work; hash = s.hash; signed = r.signed; targets = r.targets; dependencies = l })
          (same_map (dependency_of s r (in_tree t) later) (dependency_of s r (in_tree t) stamps) (dependencies s (in_tree t) r)
          (λ p m. ap (λ x. record { name = p; digest = known_digest s (Some (t p)); stamp = stamp_kept r.decider x }) (sym (same p m).1)))

      record_stays : record_of s r (in_tree u) later ≡ record_of s r (in_tree t) stamps
      record_stays = same_record s r (in_tree t) (in_tree u) (λ p m. ap Some (same p m).0) later ∙ stamped

      contents_stay : contents_of u (dependencies s (in_tree u) r) ≡ contents_of t (dependencies s (in_tree t) r)
      contents_stay =
          ap (contents_of u) dependencies_stay
          ∙ same_map (with_content u) (with_content t) (dependencies s (in_tree t) r) (λ p m. ap (pair p) (sym (same p m).0))
        where
          pair : Path → Content → Path × Content
          pair p c = (p, c)

      same_tests : {d : Bool} → s.is_due r b.before b.stamps_before b.records (record_of s r (in_tree t) stamps) ≡ d →
          s.is_due r b.before b.stamps_before b.records (record_of s r (in_tree u) later) ≡ d
      same_tests e = ap (s.is_due r b.before b.stamps_before b.records) record_stays ∙ e

    prepared_same : {r : Rule} → IsPrepared s At rules r → (p : Path) → Among p (dependencies s (in_tree t) r) → Same t u stamps later p
    prepared_same h p m = same_ready (h.dependencies p m)

    prepared_stays : {r : Rule} → IsPrepared s At rules r → IsPrepared s Later rules r
    prepared_stays {r} h = record {
      wanted = wanted_stays h.wanted;
      whole = subst (λ l. length l < s.limit) (sym (scanned_stay r (prepared_same h))) h.whole;
      dependencies = λ p m. ready_stays (h.dependencies p (among_same (dependencies_stay r (prepared_same h)) m));
      required = h.required;
    }

    met_stays : {r : Rule} → IsPrepared s At rules r → ((p : Path) → Among p (dependencies s (in_tree t) r) → IsMet b.met (t p)) →
        (p : Path) → Among p (dependencies s (in_tree u) r) → IsMet b.met (u p)
    met_stays {r} prepared h p m =
        let n = among_same (dependencies_stay r (prepared_same prepared)) m in
        subst (λ c. IsMet b.met c) (prepared_same prepared p n).0 (h p n)

    fresh_stays : {r : Rule} → IsPrepared s At rules r → ((p : Path) → Among p r.targets → t p ≡ u p) → IsFresh s At r → IsFresh s Later r
    fresh_stays {r} prepared targets h = record {
      not_due = same_tests r (prepared_same prepared) h.not_due;
      each_met = met_stays prepared h.each_met;
      same = λ p m. h.same p m ∙ targets p m;
    }

    start_stays : {r : Rule} {past : List Step} → IsPrepared s At rules r → IsStart s At past r → IsStart s Later past r
    start_stays {r} prepared h = record { due = same_tests r (prepared_same prepared) h.due; each_met = met_stays prepared h.each_met; room = h.room }

    made_stays : {r : Rule} → IsPrepared s At rules r → ((p : Path) → Among p r.targets → t p ≡ u p) → IsMade s t r → IsMade s u r
    made_stays {r} prepared targets h p m =
        sym (targets p m) ∙ h p m
        ∙ ap (λ l. s.act r.work r.signed r.targets l p) (sym (contents_stay r (prepared_same prepared)))

    rest_same : {p : Path} → IsReady s t rules p ⊎ IsMissing s t p → Same t u stamps later p
    rest_same (inl h) = same_ready h
    rest_same {p} (inr h) = stays.sources p h.no_rule

    rest_stays : {p : Path} → IsReady s t rules p ⊎ IsMissing s t p → IsReady s u rules p ⊎ IsMissing s u p
    rest_stays (inl h) = inl (ready_stays h)
    rest_stays (inr h) = inr (missing_stays h)

    behind_same : {r : Rule} {p q : Path} → (h : IsFirstMissing s t rules r p) → Among q (p ∷ h.rest) → Same t u stamps later q
    behind_same {p = p} h here = stays.sources p h.is_missing.no_rule
    behind_same h (there m) = rest_same (h.rest_settled _ m)

    member_same : {r : Rule} {p q : Path} → (h : IsFirstMissing s t rules r p) → Among q h.front ⊎ Among q (p ∷ h.rest) → Same t u stamps later q
    member_same h (inl m) = same_ready (h.front_ready _ m)
    member_same h (inr m) = behind_same h m

    lacking_same : {r : Rule} {p : Path} → IsFirstMissing s t rules r p → (q : Path) → Among q (dependencies s (in_tree t) r) → Same t u stamps later q
    lacking_same h q m = member_same h (among_either h.front (among_same h.parts m))

    first_missing_stays : {r : Rule} {p : Path} → IsFirstMissing s t rules r p → IsFirstMissing s u rules r p
    first_missing_stays {r} h = record {
      front = h.front;
      rest = h.rest;
      parts = dependencies_stay r (lacking_same h) ∙ h.parts;
      is_missing = missing_stays h.is_missing;
      front_ready = λ q m. ready_stays (h.front_ready q m);
      rest_settled = λ q m. rest_stays (h.rest_settled q m);
    }

  decided_stays : {r : Rule} {past : List Step} → Stays s (settled past) t u stamps later → IsDecided s At past r → IsDecided s Later past r
  decided_stays {past = past} stays h = record {
    goes_on = h.goes_on;
    not_began = h.not_began;
    not_done = h.not_done;
    prepared = prepared_stays (settled past) stays h.prepared;
  }

  lacking_stays : {r : Rule} {p : Path} {past : List Step} → Stays s (settled past) t u stamps later → IsLacking s At past r p → IsLacking s Later past r p
  lacking_stays {r} {past = past} stays h = record {
    goes_on = h.goes_on;
    not_began = h.not_began;
    not_done = h.not_done;
    wanted = wanted_stays (settled past) stays h.wanted;
    whole = subst (λ l. length l < s.limit) (sym (scanned_stay (settled past) stays r (lacking_same (settled past) stays h.first_missing))) h.whole;
    first_missing = first_missing_stays (settled past) stays h.first_missing;
    required = h.required;
  }

  -- the targets of a settled rule stay
  targets_stay : {r : Rule} {rules prepared_by : List Rule} → Stays s rules t u stamps later → Among r rules → IsPrepared s At prepared_by r →
      (p : Path) → Among p r.targets → t p ≡ u p
  targets_stay {r} stays m prepared p n =
      let place = needed_place prepared.wanted.is_needed in (stays.made p r (lawful.alone place.0 r place.1 p n) m).0

  pub run_stays : (past : List Step) → Stays s (settled past) t u stamps later → IsRun s At past → IsRun s Later past
  run_stays [] stays run = tt
  run_stays (Fresh r ∷ past) stays run =
      let less = stays_less (settled_later (Fresh r) past) stays in (
        (decided_stays less run.0.0, fresh_stays (settled past) less run.0.0.prepared (targets_stay stays here run.0.0.prepared) run.0.1),
        run_stays past less run.1,
      )
  run_stays (Began r ∷ past) stays run =
      ((decided_stays stays run.0.0, start_stays (settled past) stays run.0.0.prepared run.0.1), run_stays past stays run.1)
  run_stays (Ended r true ∷ past) stays run =
      let less = stays_less (settled_later (Ended r true) past) stays in
      let prepared = begun_prepared s At past run.1 run.0.0.began in
      ((run.0.0, made_stays (settled past) less prepared (targets_stay stays here prepared) run.0.1), run_stays past less run.1)
  run_stays (Ended r false ∷ past) stays run = (run.0, run_stays past stays run.1)
  run_stays (Lacks r p ∷ past) stays run = (lacking_stays stays run.0, run_stays past stays run.1)
  run_stays (Halts ∷ past) stays run = (tt, run_stays past stays run.1)

-- what is known of a build so far: its steps are legal, and each job was given what stands there still
record Holds (s : Setting) (b : Build) (jobs : List Job) (t : Tree) (stamps : Stamps) (past : List Step) : Type 0 where
  run : IsRun s (so_far b t stamps) past
  sources : (p : Path) → s.rule_of p ≡ None → b.before p ≡ t p
  started : (j : Job) → Among j jobs → Among j.rule (began past)
  given : (j : Job) → Among j jobs → j.given ≡ contents_of t (dependencies s (in_tree t) j.rule)

module _ (s : Setting) (b : Build) (lawful : IsLawful s) where
  -- what may be written has a rule that runs
  write_rule : {jobs : List Job} {t : Tree} {stamps : Stamps} {past : List Step} {p : Path} → Holds s b jobs t stamps past →
      (w : MayWrite jobs past p) → s.rule_of p ≡ Some w.job.rule
  write_rule {t = t} {stamps = stamps} {past = past} {p = p} h w =
      let place = needed_place (begun_prepared s (so_far b t stamps) past h.run (h.started w.job w.started)).wanted.is_needed in
      lawful.alone place.0 w.job.rule place.1 p w.target

  no_write_source : {jobs : List Job} {t : Tree} {stamps : Stamps} {past : List Step} {p : Path} → Holds s b jobs t stamps past →
      s.rule_of p ≡ None → MayWrite jobs past p → ⊥
  no_write_source h none w = none_some (sym none ∙ write_rule h w)

  no_write_settled : {jobs : List Job} {t : Tree} {stamps : Stamps} {past : List Step} {p : Path} {r : Rule} → Holds s b jobs t stamps past →
      s.rule_of p ≡ Some r → Among r (settled past) → MayWrite jobs past p → ⊥
  no_write_settled {past = past} h e m w =
      w.not_done (settled_done past (subst (λ x. Among x (settled past)) (some_same (sym e ∙ write_rule h w)) m))

  changes_stay : {jobs : List Job} {t u : Tree} {stamps later : Stamps} {past : List Step} → Holds s b jobs t stamps past →
      Changes jobs past t u stamps later → Stays s (settled past) t u stamps later
  changes_stay h c = record {
    sources = λ p none. (c.contents p (no_write_source h none), c.times p (no_write_source h none));
    made = λ p r e m. (c.contents p (no_write_settled h e m), c.times p (no_write_settled h e m));
  }

  given_stays : {jobs : List Job} {t u : Tree} {stamps later : Stamps} {past : List Step} → Holds s b jobs t stamps past →
      Stays s (settled past) t u stamps later → (j : Job) → Among j jobs → j.given ≡ contents_of u (dependencies s (in_tree u) j.rule)
  given_stays {t = t} {u = u} {stamps = stamps} {later = later} {past = past} h stays j m =
      h.given j m
      ∙ sym (contents_stay s b lawful t u stamps later (settled past) stays j.rule
      (prepared_same s b lawful t u stamps later (settled past) stays (begun_prepared s (so_far b t stamps) past h.run (h.started j m))))

  changes_hold : {jobs : List Job} {t u : Tree} {stamps later : Stamps} {past : List Step} → Holds s b jobs t stamps past →
      Changes jobs past t u stamps later → Holds s b jobs u later past
  changes_hold {t = t} {u = u} {stamps = stamps} {later = later} {past = past} h c =
      let stays = changes_stay h c in
      record {
        run = run_stays s b lawful t u stamps later past stays h.run;
        sources = λ p none. h.sources p none ∙ c.contents p (no_write_source h none);
        started = h.started;
        given = given_stays h stays;
      }

  start_started : {jobs : List Job} (past : List Step) {r : Rule} {l : List (Path × Content)} → ((j : Job) → Among j jobs → Among j.rule (began past)) →
      (j : Job) → Among j (record { rule = r; given = l } ∷ jobs) → Among j.rule (r ∷ began past)
  start_started past h j here = here
  start_started past h j (there m) = there (h j m)

  start_given : {jobs : List Job} (t : Tree) (r : Rule) →
      ((j : Job) → Among j jobs → j.given ≡ contents_of t (dependencies s (in_tree t) j.rule)) →
      (j : Job) → Among j (record { rule = r; given = contents_of t (dependencies s (in_tree t) r) } ∷ jobs) →
      j.given ≡ contents_of t (dependencies s (in_tree t) j.rule)
  start_given t r h j here = refl
  start_given t r h j (there m) = h j m

  job_made : (t : Tree) (j : Job) → j.given ≡ contents_of t (dependencies s (in_tree t) j.rule) → HasMade s t j → IsMade s t j.rule
  job_made t j same h p m = h p m ∙ ap (λ l. s.act j.rule.work j.rule.signed j.rule.targets l p) same

  course_holds : {jobs : List Job} {t : Tree} {stamps : Stamps} {past : List Step} → IsCourse s b jobs t stamps past → Holds s b jobs t stamps past
  course_holds begins = record { run = tt; sources = λ p e. refl; started = λ j m. elim m [ ]; given = λ j m. elim m [ ] }
  course_holds (changes u later c course) = changes_hold (course_holds course) c
  course_holds (finds r decided fresh course) =
      let h = course_holds course in
      record { run = ((decided, fresh), h.run); sources = h.sources; started = h.started; given = h.given }
  course_holds (starts {t = t} {past = past} r decided start course) =
      let h = course_holds course in
      record { run = ((decided, start), h.run); sources = h.sources; started = start_started past h.started; given = start_given t r h.given }
  course_holds (makes {t = t} j m running made_there course) =
      let h = course_holds course in
      record { run = ((running, job_made t j (h.given j m) made_there), h.run); sources = h.sources; started = h.started; given = h.given }
  course_holds (fails r running course) =
      let h = course_holds course in
      record { run = (running, h.run); sources = h.sources; started = h.started; given = h.given }
  course_holds (lacks r p lacking course) =
      let h = course_holds course in
      record { run = (lacking, h.run); sources = h.sources; started = h.started; given = h.given }
  course_holds (halts course) =
      let h = course_holds course in
      record { run = (tt, h.run); sources = h.sources; started = h.started; given = h.given }

  pub course_is_build : {jobs : List Job} {t : Tree} {stamps : Stamps} {past : List Step} → IsCourse s b jobs t stamps past →
      IsBuild s (so_far b t stamps) past
  course_is_build course =
      let h = course_holds course in record { lawful = lawful; sources = h.sources; run = h.run }

  abbrev Untouched : Tree → Stamps → List Step → Path → Type 0
  Untouched t stamps past p = ((r : Rule) → Among r (began past) → Among p r.targets → ⊥) → Same b.before t b.stamps_before stamps p

  untouched : {jobs : List Job} {t : Tree} {stamps : Stamps} {past : List Step} → IsCourse s b jobs t stamps past → (p : Path) →
      Untouched t stamps past p
  untouched begins p out = (refl, refl)
  untouched (changes u later c course) p out =
      let h = course_holds course in
      let unwritten : MayWrite _ _ p → ⊥ = λ w. out w.job.rule (h.started w.job w.started) w.target in
      let before = untouched course p out in
      (before.0 ∙ c.contents p unwritten, before.1 ∙ c.times p unwritten)
  untouched (finds r decided fresh course) p out = untouched course p out
  untouched (starts r decided start course) p out = untouched course p (λ x m n. out x (there m) n)
  untouched (makes j m running made_there course) p out = untouched course p out
  untouched (fails r running course) p out = untouched course p out
  untouched (lacks r q lacking course) p out = untouched course p out
  untouched (halts course) p out = untouched course p out

  pub course_is_seen_so : {jobs : List Job} {t : Tree} {stamps : Stamps} {past : List Step} → IsCourse s b jobs t stamps past →
      IsSeenSo s b t stamps past
  course_is_seen_so course = record {
    build = course_is_build course;
    untouched = λ p out. (untouched course p out).0;
    unstamped = λ p out. (untouched course p out).1;
  }

  jobs_began : {jobs : List Job} {t : Tree} {stamps : Stamps} {past : List Step} → IsCourse s b jobs t stamps past →
      map job_rule jobs ≡ began past
  jobs_began begins = refl
  jobs_began (changes u later c course) = jobs_began course
  jobs_began (finds r decided fresh course) = jobs_began course
  jobs_began (starts r decided start course) = ap (λ l. r ∷ l) (jobs_began course)
  jobs_began (makes j m running made_there course) = jobs_began course
  jobs_began (fails r running course) = jobs_began course
  jobs_began (lacks r q lacking course) = jobs_began course
  jobs_began (halts course) = jobs_began course

  -- what waits for nothing isn't written
  ready_unwritten : {jobs : List Job} {t : Tree} {stamps : Stamps} {past : List Step} {p : Path} → Holds s b jobs t stamps past →
      IsReady s t (settled past) p → MayWrite jobs past p → ⊥
  ready_unwritten h (is_source bytes none file) = no_write_source h none
  ready_unwritten h (is_made r e m) = no_write_settled h e m

  pub given_so : {jobs : List Job} {t : Tree} {stamps : Stamps} {past : List Step} → IsCourse s b jobs t stamps past →
      AreGivenSo s jobs t past
  given_so {t = t} {stamps = stamps} {past = past} course =
      let h = course_holds course in
      record {
        jobs_began = jobs_began course;
        given = h.given;
        unwritten = λ j m p n. ready_unwritten h
            ((begun_prepared s (so_far b t stamps) past h.run (h.started j m)).dependencies p n);
      }
