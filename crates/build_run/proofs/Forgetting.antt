-- A build forgets what it started to make until it is made, and what failed for good.
use Rattle.std.proofs.Common.{◌≡◌, ◌≢◌, ◌∙◌, ◌++◌, ◌∷◌, ◌⊎◌, [], ℕ, Bool, false, true, List, None, Contains, append-nil, ap, inl, inr, length, refl, sym, subst}
use Rattle.std.proofs.lemmas.List.{append_cancel_left}
use Rattle.sign_store.specs.Ends.{image_in}
use Rattle.sign_store.specs.Tables.{Map}
use Rattle.world_api.specs.Around.{Around, Entry, Started, Finished}
use Rattle.world_api.specs.Banks.{Banks}
use Rattle.world_api.specs.Counts.{Counts}
use Rattle.world_api.specs.Meaning.{Meaning, IsImage}
use Rattle.world_api.specs.declared.job.Job.{Job}
use Rattle.world_api.specs.declared.job.Outcome.{Outcome}
use Rattle.world_api.specs.declared.job.Outcome.TheVariants.{Done}
use Rattle.world_api.proofs.Moments.{surely, throughout, weakens}
use Rattle.build_model.specs.Contents.{IsLawful}
use Rattle.build_model.specs.Rules.{Path, Rule, Setting, Among, here, there}
use Rattle.build_model.specs.Steps.{Step, Build, Ended, began, done, IsRun, IsRunning}
use Rattle.build_model.proofs.Lists.{among_either, among_left, some_same, true_false}
use Rattle.build_model.proofs.Ready.{needed_place}
use Rattle.build_model.proofs.Runs.{begun_prepared}
use Rattle.build_means.specs.Builds.{IsJobIn, Runs, Wanted, setting_in}
use Rattle.build_means.specs.Logs.{AreEntries, AreUnrisen, HasStarted, IsNewId, is_done, nothing, is_fresh, has_begun, was_refused, has_ended, lacks_one, has_halted}
use Rattle.turn_means.specs.Recording.{build_at}
use Rattle.turn_means.specs.Standing.{Outset, IsOutset, setting_at}
use Rattle.turn_means.proofs.Running.{lawful}
use Rattle.build_run.specs.Forgetting.{HasForgotten, IsFailed, IsForgotten}
use Rattle.build_run.specs.Remembering.{HasThroughout, begun_with}
use Rattle.build_run.specs.Safe.{IsKeptMoment, IsSafeNow, StaysSafe}
use Rattle.build_run.specs.Unmade.{HasNoneUnmade, IsUnmade, Since}
use Rattle.build_run.specs.Watches.{Covers, Never, Watch}
use Rattle.build_run.proofs.Stopped.{safe_first}
use Rattle.build_run.proofs.Unmade.{since_here}

-- ---- a job ends once

starts_more : {IsJob : Rule → Job → Type 0} {entries : List Entry} {r : Rule} {id : ℕ} (entry : Entry) → HasStarted IsJob entries r id →
    HasStarted IsJob (entries ++ entry ∷ []) r id
starts_more entry h = record {
  job = h.job;
  counts = h.counts;
  of_rule = h.of_rule;
  started = among_left (entry ∷ []) h.started;
  has_id = h.has_id;
}

job_or : Job → Entry → Job
job_or other (Started job counts) = job
job_or other (Finished id outcome) = other

same_started : {j k : Job} {c d : Counts} → Started j c ≡ Started k d → j ≡ k
unfolding job_or
same_started {j} e = ap (job_or j) e

last_started : {j k : Job} {c d : Counts} → Among (Started j c) (Started k d ∷ []) → j ≡ k
last_started here = refl
last_started (there n) = elim n [ ]

no_start : {A : Type 0} {j : Job} {c : Counts} {id : ℕ} {outcome : Outcome} → Among (Started j c) (Finished id outcome ∷ []) → A
no_start (there n) = elim n [ ]

no_end : {A : Type 0} {j : Job} {c : Counts} {id : ℕ} {outcome : Outcome} → Among (Finished id outcome) (Started j c ∷ []) → A
no_end (there n) = elim n [ ]

end_before : {id : ℕ} {outcome : Outcome} (j : Job) (c : Counts) (entries : List Entry) → Among (Finished id outcome) (entries ++ Started j c ∷ []) →
    Among (Finished id outcome) entries
end_before j c entries n = elim (among_either entries n) [
  | inl h ↦ h
  | inr h ↦ no_end h
]

start_before : {j : Job} {c : Counts} (id : ℕ) (outcome : Outcome) (entries : List Entry) → Among (Started j c) (entries ++ Finished id outcome ∷ []) →
    Among (Started j c) entries
start_before id outcome entries n = elim (among_either entries n) [
  | inl h ↦ h
  | inr h ↦ no_start h
]

last_id : {id own : ℕ} {outcome last : Outcome} → Among (Finished id outcome) (Finished own last ∷ []) → id ≡ own
last_id here = refl
last_id (there n) = elim n [ ]

last_outcome : {id own : ℕ} {outcome last : Outcome} → Among (Finished id outcome) (Finished own last ∷ []) → outcome ≡ last
last_outcome here = refl
last_outcome (there n) = elim n [ ]

both_end : {id : ℕ} {one two : Outcome} (own : ℕ) (last : Outcome) (entries : List Entry) → (Among (Finished id one) entries → Among (Finished id two) entries → one ≡ two) →
    ((outcome : Outcome) → id ≡ own → Among (Finished id outcome) entries → ⊥) →
    Among (Finished id one) (entries ++ Finished own last ∷ []) → Among (Finished id two) (entries ++ Finished own last ∷ []) → one ≡ two
both_end {one = one} {two = two} own last entries before clash m n = elim (among_either entries m) [
  | inl a ↦ elim (among_either entries n) [
    | inl b ↦ before a b
    | inr b ↦ absurd (clash one (last_id b) a)
  ]
  | inr a ↦ elim (among_either entries n) [
    | inl b ↦ absurd (clash two (last_id a) b)
    | inr b ↦ last_outcome a ∙ sym (last_outcome b)
  ]
]

both_start : {j k : Job} {c d : Counts} (own : Job) (e : Counts) (entries : List Entry) → (Among (Started j c) entries → Among (Started k d) entries → j.id ≡ k.id → j ≡ k) →
    IsNewId entries own.id → Among (Started j c) (entries ++ Started own e ∷ []) → Among (Started k d) (entries ++ Started own e ∷ []) →
    j.id ≡ k.id → j ≡ k
both_start {j} {k} {c} {d} own e entries before new m n same = elim (among_either entries m) [
  | inl a ↦ elim (among_either entries n) [
    | inl b ↦ before a b same
    | inr b ↦ absurd (new j c a (same ∙ ap (λ (x : Job). x.id) (last_started b)))
  ]
  | inr a ↦ elim (among_either entries n) [
    | inl b ↦ absurd (new k d b (sym same ∙ ap (λ (x : Job). x.id) (last_started a)))
    | inr b ↦ last_started a ∙ sym (last_started b)
  ]
]

module _ (IsJob : Rule → Job → Type 0) (AreAt : Counts → Type 0) where
  -- the rule of a job that ended began, and the build is done with it
  record IsEnded (steps : List Step) (entries : List Entry) (id : ℕ) : Type 0 where
    rule : Rule
    stands : Among rule (began steps)
    over : Among rule (done steps)
    started : HasStarted IsJob entries rule id

  later : {steps more : List Step} {entries : List Entry} {id : ℕ} → ((r : Rule) → Among r (began steps) → Among r (began more)) →
      ((r : Rule) → Among r (done steps) → Among r (done more)) → IsEnded steps entries id → IsEnded more entries id
  later on over k = record { rule = k.rule; stands = on k.rule k.stands; over = over k.rule k.over; started = k.started }

  longer : {steps : List Step} {entries : List Entry} {id : ℕ} (entry : Entry) → IsEnded steps entries id → IsEnded steps (entries ++ entry ∷ []) id
  longer entry k = record { rule = k.rule; stands = k.stands; over = k.over; started = starts_more entry k.started }

  each_ended : {steps : List Step} {entries : List Entry} {id : ℕ} {outcome : Outcome} → AreEntries IsJob AreAt steps entries →
      Among (Finished id outcome) entries → IsEnded steps entries id
  each_ended nothing m = elim m [ ]
  each_ended (is_fresh r h) m = later (λ q b. b) (λ q d. there d) (each_ended h m)
  each_ended (has_begun {entries = entries} r j c of_rule at new h) m =
      later (λ q b. there b) (λ q d. d) (longer (Started j c) (each_ended h (end_before j c entries m)))
  each_ended (was_refused r h) m = later (λ q b. there b) (λ q d. there d) (each_ended h m)
  each_ended (has_ended {entries = entries} r own last ran started h) m = elim (among_either entries m) [
    | inl before ↦ later (λ q b. b) (λ q d. there d) (longer (Finished own last) (each_ended h before))
    | inr now ↦ record {
      rule = r;
      stands = ran;
      over = here;
      started = subst (λ (i : ℕ). HasStarted IsJob (entries ++ Finished own last ∷ []) r i) (sym (last_id now)) (starts_more (Finished own last) started);
    }
  ]
  each_ended (lacks_one r p h) m = later (λ q b. b) (λ q d. there d) (each_ended h m)
  each_ended (has_halted h) m = later (λ q b. b) (λ q d. d) (each_ended h m)

  one_job : {steps : List Step} {entries : List Entry} {j k : Job} {c d : Counts} → AreEntries IsJob AreAt steps entries →
      Among (Started j c) entries → Among (Started k d) entries → j.id ≡ k.id → j ≡ k
  one_job nothing m n e = elim m [ ]
  one_job (is_fresh r h) m n e = one_job h m n e
  one_job (has_begun {entries = entries} r own at_own of_rule at new h) m n e = both_start own at_own entries (λ a b f. one_job h a b f) new m n e
  one_job (was_refused r h) m n e = one_job h m n e
  one_job (has_ended {entries = entries} r own last ran started h) m n e = one_job h (start_before own last entries m) (start_before own last entries n) e
  one_job (lacks_one r p h) m n e = one_job h m n e
  one_job (has_halted h) m n e = one_job h m n e

  module _ (s : Setting) (lawful : IsLawful s) (b : Build) (targets : (r : Rule) (job : Job) → IsJob r job → job.targets ≡ r.targets) where
    went : {past : List Step} (r : Rule) (well : Bool) → IsRun s b (Ended r well ∷ past) → IsRunning past r × IsRun s b past
    went r true run = (run.0.0, run.1)
    went r false run = (run.0, run.1)

    -- rules that began are one where they have the same targets
    one_maker : (past : List Step) → IsRun s b past → (r q : Rule) → Among r (began past) → Among q (began past) → r.targets ≡ q.targets → r ≡ q
    one_maker past run r q m n same =
        let place = needed_place (begun_prepared s b past run m).wanted.is_needed in
        let other = needed_place (begun_prepared s b past run n).wanted.is_needed in
        some_same (sym place.1 ∙ lawful.alone other.0 q other.1 place.0 (subst (λ (paths : List Path). Among place.0 paths) same (lawful.makes place.0 r place.1)))

    -- a job that runs hasn't ended
    not_twice : {past : List Step} {entries : List Entry} (r : Rule) (own : ℕ) → AreEntries IsJob AreAt past entries → IsRun s b past → IsRunning past r →
        HasStarted IsJob entries r own → (id : ℕ) (outcome : Outcome) → id ≡ own → Among (Finished id outcome) entries → ⊥
    not_twice {past} r own are run runs started id outcome same m =
        let k = each_ended are m in
        let job = one_job are k.started.started started.started (k.started.has_id ∙ same ∙ sym started.has_id) in
        let q = one_maker past run k.rule r k.stands runs.began
        (sym (targets k.rule k.started.job k.started.of_rule) ∙ ap (λ (j : Job). j.targets) job ∙ targets r started.job started.of_rule) in
        runs.not_done (subst (λ (x : Rule). Among x (done past)) q k.over)

    -- a job has one ending
    pub one_ending : {steps : List Step} {entries : List Entry} {id : ℕ} {one two : Outcome} → AreEntries IsJob AreAt steps entries → IsRun s b steps →
        Among (Finished id one) entries → Among (Finished id two) entries → one ≡ two
    one_ending nothing run m n = elim m [ ]
    one_ending (is_fresh r h) run m n = one_ending h run.1 m n
    one_ending (has_begun {entries = entries} r j c of_rule at new h) run m n = one_ending h run.1 (end_before j c entries m) (end_before j c entries n)
    one_ending (was_refused r h) run m n = one_ending h run.1.1 m n
    one_ending {id = id} (has_ended {past} {entries} r own last ran started h) run m n =
        let k = went r (is_done last) run in
        both_end own last entries (λ a b. one_ending h k.1 a b) (λ outcome same a. not_twice r own h k.1 k.0 started id outcome same a) m n
    one_ending (lacks_one r p h) run m n = one_ending h run.1 m n
    one_ending (has_halted h) run m n = one_ending h run.1 m n

-- ---- builds

-- a watch over nothing but whether the path is unmade
abbrev pub watch_unmade : {W : Type 0} → Meaning W → Wanted → W → Path → Watch
watch_unmade m w old path = record {
  setting = setting_in w (m.around old);
  start = (m.around old).log;
  truth = false;
  scope = Never;
  path = path;
  had = None;
  goes = true;
  due = None;
}

module _ {W : Type 0} (m : Meaning W) (w : Wanted) (a c : W) (idle : m.tells a → (m.around a).running ≡ []) (tells : m.tells c) (sure : m.sure c)
    (reads : IsImage m c (m.seen c)) where
  first : (path : Path) → IsSafeNow m (watch_unmade m w a path) a
  first path = safe_first m (watch_unmade m w a path) a idle (λ t u. record { acts = refl; digests = refl }) (λ e. true_false (sym e))
      (λ t banks image. record { may = λ minds. absurd minds; none = since_here (m.around a).log path (image_in banks path) })

  module _ (stays : (path : Path) → IsSafeNow m (watch_unmade m w a path) a → StaysSafe m (watch_unmade m w a path) a c) where
    through : (path : Path) → HasThroughout m a c path (λ around found. Since (m.around a).log around.log (HasNoneUnmade path found))
    through path = surely m a c (λ around banks. Since (m.around a).log around.log (HasNoneUnmade path (image_in banks path)))
        (weakens m a c (λ around banks. m.sure c → IsKeptMoment (watch_unmade m w a path) around banks)
        (λ around banks. m.sure c → Since (m.around a).log around.log (HasNoneUnmade path (image_in banks path)))
        (throughout m a c (IsKeptMoment (watch_unmade m w a path)) (stays path (first path)).moments)
        (λ t around banks kept sure. (kept sure).watched.none))

    module _ (entries : List Entry) (grown : (m.around c).log ≡ (m.around a).log ++ entries) where
      none_now : (path : Path) → IsUnmade path entries → (banks : Banks) → IsImage m c banks → image_in banks path ≡ None
      none_now path unmade banks image =
          let since = (throughout m a c (λ around banks. Since (m.around a).log around.log (HasNoneUnmade path (image_in banks path))) (through path)).now
          tells banks image sure in
          since.so (subst (λ (l : List Entry). IsUnmade path l)
          (append_cancel_left (m.around a).log entries since.entries (sym grown ∙ since.grown)) unmade)

      forgotten : (path : Path) → IsUnmade path entries → IsForgotten m c path
      forgotten path unmade = record { images = none_now path unmade; reads = none_now path unmade (m.seen c) reads }

      forgets : ((id : ℕ) (outcome : Outcome) → Among (Finished id outcome) entries → Among (Finished id Done) entries → outcome ≡ Done) → HasForgotten m a c
      forgets once = record {
        throughout = through;
        entries = entries;
        grown = grown;
        failed = λ path f. forgotten path (record {
          job = f.job;
          counts = f.counts;
          started = f.started;
          makes = f.makes;
          undone = λ well. f.badly (once f.job.id f.outcome f.ended well);
        });
      }

    -- where nothing started
    pub forgets_none : (m.around c).log ≡ (m.around a).log → HasForgotten m a c
    forgets_none same = forgets [] (same ∙ sym (append-nil (m.around a).log)) (λ id outcome n. elim n [ ])

  -- what a build that ran forgot
  pub has_forgotten : (left : Around) (kept : Map) → IsOutset (begun_with w kept (m.counts a) left) → left.log ≡ (m.around a).log →
      (runs : Runs w kept (m.counts a) left (m.around c)) →
      ((k : Watch) → k.goes ≡ true → Covers k (begun_with w kept (m.counts a) left) → IsSafeNow m k a → StaysSafe m k a c) → HasForgotten m a c
  has_forgotten left kept outset same runs stays =
      let o = begun_with w kept (m.counts a) left in
      forgets (λ path safe. stays (watch_unmade m w a path) refl (record { start = same; each = λ r starts minds. absurd minds }) safe)
      runs.log.entries (runs.log.grown ∙ ap (λ (l : List Entry). l ++ runs.log.entries) same)
      (λ id outcome n well. one_ending (IsJobIn w kept left (m.around c)) (AreUnrisen w.keep (m.counts a)) (setting_at o) (lawful o outset) (build_at o (m.around c))
      (λ r job of_rule. of_rule.targets) runs.log.are runs.seen.build.run n well)
