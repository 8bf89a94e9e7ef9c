-- What stands in the log of the steps of a build, and where.
use Rattle.std.proofs.Common.{◌≡◌, ℕ, true, false, List, [], ◌∷◌, ◌++◌, refl, sym, subst, ap, ◌∙◌, inl, inr, ◌⊎◌, append-nil, append_assoc}
use Rattle.world_api.specs.Around.{Entry, Started, Finished}
use Rattle.world_api.specs.Counts.{Counts}
use Rattle.world_api.specs.declared.job.Job.{Job}
use Rattle.world_api.specs.declared.job.Outcome.{Outcome}
use Rattle.world_api.specs.declared.job.Outcome.TheVariants.{Done, Failed, Broken, NoMemory}
use Rattle.build_model.specs.Rules.{Rule, Path, Among, here, there}
use Rattle.build_model.specs.Steps.{Step, Fresh, Began, Ended, Lacks, Halts, began, settled}
use Rattle.build_means.specs.Logs.{is_done, IsNewId, HasStarted, AreEntries, IsLogged, nothing, is_fresh, has_begun, was_refused, has_ended, lacks_one, has_halted, HasBegun, BeganAt, EndedWell}

among_left : {A : Type 0} {x : A} {xs : List A} (ys : List A) → Among x xs → Among x (xs ++ ys)
among_left ys here = here
among_left ys (there h) = there (among_left ys h)

pub among_right : {A : Type 0} {x : A} (xs : List A) {ys : List A} → Among x ys → Among x (xs ++ ys)
among_right [] h = h
among_right (y ∷ xs) h = there (among_right xs h)

over_there : {A : Type 0} {x y : A} {xs ys : List A} → Among x xs ⊎ Among x ys → Among x (y ∷ xs) ⊎ Among x ys
over_there (inl h) = inl (there h)
over_there (inr h) = inr h

among_either : {A : Type 0} {x : A} (xs : List A) {ys : List A} → Among x (xs ++ ys) → Among x xs ⊎ Among x ys
among_either [] h = inr h
among_either (y ∷ xs) here = inl here
among_either (y ∷ xs) (there h) = over_there (among_either xs h)

nil_cons : {A B : Type 0} {x : A} {xs : List A} → [] ≡ x ∷ xs → B
nil_cons e = cc e

head_or : {A : Type 0} → A → List A → A
head_or x [] = x
head_or x (y ∷ ys) = y

tail_of : {A : Type 0} → List A → List A
tail_of [] = []
tail_of (x ∷ xs) = xs

same_head : {A : Type 0} {x y : A} {xs ys : List A} → x ∷ xs ≡ y ∷ ys → x ≡ y
unfolding head_or
same_head {A} {x} e = ap (head_or x) e

same_tail : {A : Type 0} {x y : A} {xs ys : List A} → x ∷ xs ≡ y ∷ ys → xs ≡ ys
unfolding tail_of
same_tail e = ap tail_of e

cut_further : {A : Type 0} {v z x y : A} {xs front : List A} → v ≡ z → ((xs ≡ front) × (x ≡ y)) ⊎ ((mid : List A) × (xs ≡ front ++ y ∷ mid)) →
    ((v ∷ xs ≡ z ∷ front) × (x ≡ y)) ⊎ ((mid : List A) × (v ∷ xs ≡ z ∷ (front ++ y ∷ mid)))
cut_further {z = z} {xs = xs} e (inl h) = inl (ap (λ a. a ∷ xs) e ∙ ap (λ l. z ∷ l) h.0, h.1)
cut_further {z = z} {xs = xs} e (inr h) = inr (h.0, ap (λ a. a ∷ xs) e ∙ ap (λ l. z ∷ l) h.1)

-- a list with a last item, cut at an item: that is the last one, or stands before it
cut_last : {A : Type 0} (xs front : List A) (x y : A) (back : List A) → xs ++ x ∷ [] ≡ front ++ y ∷ back →
    ((xs ≡ front) × (x ≡ y)) ⊎ ((mid : List A) × (xs ≡ front ++ y ∷ mid))
cut_last [] [] x y back e = inl (refl, same_head e)
cut_last [] (z ∷ []) x y back e = nil_cons (same_tail e)
cut_last [] (z ∷ u ∷ front) x y back e = nil_cons (same_tail e)
cut_last (v ∷ xs) [] x y back e = inr (xs, ap (λ a. a ∷ xs) (same_head e))
cut_last (v ∷ xs) (z ∷ front) x y back e = cut_further (same_head e) (cut_last xs front x y back (same_tail e))

job_in : Job → Entry → Job
job_in other (Started job counts) = job
job_in other (Finished id outcome) = other

counts_in : Counts → Entry → Counts
counts_in other (Started job counts) = counts
counts_in other (Finished id outcome) = other

same_job : {j k : Job} {c d : Counts} → Started j c ≡ Started k d → j ≡ k
unfolding job_in
same_job {j} e = ap (job_in j) e

same_counts : {j k : Job} {c d : Counts} → Started j c ≡ Started k d → c ≡ d
unfolding counts_in
same_counts {c = c} e = ap (counts_in c) e

other_entry : {A : Type 0} {id : ℕ} {outcome : Outcome} {job : Job} {counts : Counts} → Finished id outcome ≡ Started job counts → A
other_entry e = cc e

module _ (IsJob : Rule → Job → Type 0) (AreAt : Counts → Type 0) where
  longer : {entries : List Entry} {r : Rule} {id : ℕ} (more : List Entry) → HasStarted IsJob entries r id → HasStarted IsJob (entries ++ more) r id
  longer more h = record { job = h.job; counts = h.counts; of_rule = h.of_rule; started = among_left more h.started; has_id = h.has_id }

  begun_before : {job : Job} {counts : Counts} {steps : List Step} (r : Rule) → HasBegun IsJob AreAt steps job counts → HasBegun IsJob AreAt (Began r ∷ steps) job counts
  begun_before r k = record { rule = k.rule; stands = there k.stands; of_rule = k.of_rule; at = k.at }

  -- another step leaves what began
  begun_still : {job : Job} {counts : Counts} {steps : List Step} (more : List Step) → began more ≡ began steps → HasBegun IsJob AreAt steps job counts →
      HasBegun IsJob AreAt more job counts
  begun_still more e k = record { rule = k.rule; stands = subst (λ l. Among k.rule l) (sym e) k.stands; of_rule = k.of_rule; at = k.at }

  start_step : {job j : Job} {counts c : Counts} {past : List Step} {entries : List Entry} (r : Rule) → IsJob r j → AreAt c →
      Among (Started job counts) entries ⊎ Among (Started job counts) (Started j c ∷ []) →
      (Among (Started job counts) entries → HasBegun IsJob AreAt past job counts) → HasBegun IsJob AreAt (Began r ∷ past) job counts
  start_step r of_rule at (inl n) next = begun_before r (next n)
  start_step r of_rule at (inr here) next = record { rule = r; stands = here; of_rule = of_rule; at = at }
  start_step r of_rule at (inr (there n)) next = elim n [ ]

  not_ending : {A : Type 0} {job : Job} {counts : Counts} {id : ℕ} {outcome : Outcome} → Among (Started job counts) (Finished id outcome ∷ []) → A
  not_ending (there n) = elim n [ ]

  end_step : {job : Job} {counts : Counts} {id : ℕ} {outcome : Outcome} {entries : List Entry} →
      Among (Started job counts) entries ⊎ Among (Started job counts) (Finished id outcome ∷ []) → Among (Started job counts) entries
  end_step (inl n) = n
  end_step (inr n) = not_ending n

  -- each start is of a rule that began
  pub each_start : {job : Job} {counts : Counts} {steps : List Step} {entries : List Entry} → AreEntries IsJob AreAt steps entries →
      Among (Started job counts) entries → HasBegun IsJob AreAt steps job counts
  each_start nothing m = elim m [ ]
  each_start (is_fresh {past} r h) m = begun_still (Fresh r ∷ past) refl (each_start h m)
  each_start (has_begun {past} {entries} r j c of_rule at new h) m = start_step r of_rule at (among_either entries m) (λ n. each_start h n)
  each_start (was_refused {past} r h) m = begun_still (Ended r false ∷ Began r ∷ past) refl (begun_before r (each_start h m))
  each_start (has_ended {past} {entries} r id outcome ran s h) m =
      begun_still (Ended r (is_done outcome) ∷ past) refl (each_start h (end_step (among_either entries m)))
  each_start (lacks_one {past} r p h) m = begun_still (Lacks r p ∷ past) refl (each_start h m)
  each_start (has_halted {past} h) m = begun_still (Halts ∷ past) refl (each_start h m)

  -- and each rule that began and didn't end otherwise than well has started
  pub each_began : {q : Rule} {steps : List Step} {entries : List Entry} → AreEntries IsJob AreAt steps entries → Among q (began steps) →
      (Among (Ended q false) steps → ⊥) → (id : ℕ) × HasStarted IsJob entries q id
  each_began nothing m well = elim m [ ]
  each_began (is_fresh r h) m well = each_began h m (λ n. well (there n))
  each_began (has_begun {entries = entries} r j c of_rule at new h) here well =
      (j.id, record { job = j; counts = c; of_rule = of_rule; started = among_right entries here; has_id = refl })
  each_began (has_begun r j c of_rule at new h) (there m) well = let k = each_began h m (λ n. well (there n)) in (k.0, longer (Started j c ∷ []) k.1)
  each_began (was_refused r h) here well = absurd (well here)
  each_began (was_refused r h) (there m) well = each_began h m (λ n. well (there (there n)))
  each_began (has_ended r id outcome ran s h) m well = let k = each_began h m (λ n. well (there n)) in (k.0, longer (Finished id outcome ∷ []) k.1)
  each_began (lacks_one r p h) m well = each_began h m (λ n. well (there n))
  each_began (has_halted h) m well = each_began h m (λ n. well (there n))

  began_later : {steps : List Step} {front : List Entry} {job : Job} {counts : Counts} (step : Step) →
      BeganAt IsJob AreAt steps front job counts → BeganAt IsJob AreAt (step ∷ steps) front job counts
  began_later step h = record {
    rule = h.rule;
    later = step ∷ h.later;
    past = h.past;
    parts = ap (λ l. step ∷ l) h.parts;
    before = h.before;
    of_rule = h.of_rule;
    at = h.at;
    new_id = h.new_id;
  }

  last_began : {past : List Step} {entries front : List Entry} {j job : Job} {c counts : Counts} (r : Rule) → IsJob r j → AreAt c → IsNewId entries j.id →
      AreEntries IsJob AreAt past entries → entries ≡ front → j ≡ job → c ≡ counts → BeganAt IsJob AreAt (Began r ∷ past) front job counts
  last_began {past} {entries} {front} {j} {job} r of_rule at new h same is so = record {
    rule = r;
    later = [];
    past = past;
    parts = refl;
    before = subst (λ l. AreEntries IsJob AreAt past l) same h;
    of_rule = subst (λ k. IsJob r k) is of_rule;
    at = subst (λ k. AreAt k) so at;
    new_id = subst (λ l. IsNewId l job.id) same (subst (λ k. IsNewId entries k.id) is new);
  }

  begin_step : {past : List Step} {entries front : List Entry} {j job : Job} {c counts : Counts} (r : Rule) → IsJob r j → AreAt c → IsNewId entries j.id →
      AreEntries IsJob AreAt past entries →
      ((entries ≡ front) × (Started j c ≡ Started job counts)) ⊎ ((mid : List Entry) × (entries ≡ front ++ Started job counts ∷ mid)) →
      ((mid : List Entry) → entries ≡ front ++ Started job counts ∷ mid → BeganAt IsJob AreAt past front job counts) →
      BeganAt IsJob AreAt (Began r ∷ past) front job counts
  begin_step r of_rule at new h (inl k) next = last_began r of_rule at new h k.0 (same_job k.1) (same_counts k.1)
  begin_step r of_rule at new h (inr k) next = began_later (Began r) (next k.0 k.1)

  before_end : {past : List Step} {entries front : List Entry} {job : Job} {counts : Counts} {id : ℕ} {outcome : Outcome} →
      ((entries ≡ front) × (Finished id outcome ≡ Started job counts)) ⊎ ((mid : List Entry) × (entries ≡ front ++ Started job counts ∷ mid)) →
      ((mid : List Entry) → entries ≡ front ++ Started job counts ∷ mid → BeganAt IsJob AreAt past front job counts) →
      BeganAt IsJob AreAt past front job counts
  before_end (inl k) next = other_entry k.1
  before_end (inr k) next = next k.0 k.1

  -- where a start stands in the log, there its rule began in the steps
  pub start_at : {steps : List Step} {entries : List Entry} → AreEntries IsJob AreAt steps entries →
      (front : List Entry) (job : Job) (counts : Counts) (back : List Entry) → entries ≡ front ++ Started job counts ∷ back →
      BeganAt IsJob AreAt steps front job counts
  start_at nothing [] job counts back e = nil_cons e
  start_at nothing (x ∷ front) job counts back e = nil_cons e
  start_at (is_fresh r h) front job counts back e = began_later (Fresh r) (start_at h front job counts back e)
  start_at (has_begun {entries = entries} r j c of_rule at new h) front job counts back e =
      begin_step r of_rule at new h (cut_last entries front (Started j c) (Started job counts) back e) (λ mid f. start_at h front job counts mid f)
  start_at (was_refused r h) front job counts back e = began_later (Ended r false) (began_later (Began r) (start_at h front job counts back e))
  start_at (has_ended {entries = entries} r id outcome ran s h) front job counts back e =
      began_later (Ended r (is_done outcome))
      (before_end (cut_last entries front (Finished id outcome) (Started job counts) back e) (λ mid f. start_at h front job counts mid f))
  start_at (lacks_one r p h) front job counts back e = began_later (Lacks r p) (start_at h front job counts back e)
  start_at (has_halted h) front job counts back e = began_later Halts (start_at h front job counts back e)

  well_longer : {entries : List Entry} {q : Rule} (more : List Entry) → EndedWell IsJob entries q → EndedWell IsJob (entries ++ more) q
  well_longer more h = record { id = h.id; started = longer more h.started; done = among_left more h.done }

  further : {steps : List Step} {entries : List Entry} {q : Rule} (step : Step) (more : List Entry) → Among (Fresh q) steps ⊎ EndedWell IsJob entries q →
      Among (Fresh q) (step ∷ steps) ⊎ EndedWell IsJob (entries ++ more) q
  further step more (inl m) = inl (there m)
  further step more (inr h) = inr (well_longer more h)

  on : {steps : List Step} {entries : List Entry} {q : Rule} (step : Step) → Among (Fresh q) steps ⊎ EndedWell IsJob entries q →
      Among (Fresh q) (step ∷ steps) ⊎ EndedWell IsJob entries q
  on step (inl m) = inl (there m)
  on step (inr h) = inr h

  settled_step : {q : Rule} {past : List Step} {entries : List Entry} (r : Rule) (id : ℕ) (o : Outcome) → HasStarted IsJob entries r id →
      Among q (settled (Ended r (is_done o) ∷ past)) → (Among q (settled past) → Among (Fresh q) past ⊎ EndedWell IsJob entries q) →
      Among (Fresh q) (Ended r (is_done o) ∷ past) ⊎ EndedWell IsJob (entries ++ Finished id o ∷ []) q
  settled_step {entries = entries} r id Done s here next = inr (record { id = id; started = longer (Finished id Done ∷ []) s; done = among_right entries here })
  settled_step r id Done s (there n) next = further (Ended r true) (Finished id Done ∷ []) (next n)
  settled_step r id (Failed status) s n next = further (Ended r false) (Finished id (Failed status) ∷ []) (next n)
  settled_step r id Broken s n next = further (Ended r false) (Finished id Broken ∷ []) (next n)
  settled_step r id NoMemory s n next = further (Ended r false) (Finished id NoMemory ∷ []) (next n)

  -- a settled rule was found up to date, or its own job ended well in the log
  pub each_settled : {q : Rule} {steps : List Step} {entries : List Entry} → AreEntries IsJob AreAt steps entries → Among q (settled steps) →
      Among (Fresh q) steps ⊎ EndedWell IsJob entries q
  each_settled nothing m = elim m [ ]
  each_settled (is_fresh r h) here = inl here
  each_settled (is_fresh r h) (there m) = on (Fresh r) (each_settled h m)
  each_settled (has_begun r j c of_rule at new h) m = further (Began r) (Started j c ∷ []) (each_settled h m)
  each_settled (was_refused r h) m = on (Ended r false) (on (Began r) (each_settled h m))
  each_settled (has_ended r id outcome ran s h) m = settled_step r id outcome s m (λ n. each_settled h n)
  each_settled (lacks_one r p h) m = on (Lacks r p) (each_settled h m)
  each_settled (has_halted h) m = on Halts (each_settled h m)

  -- how a log grows with the steps
  pub logged_nothing : (log : List Entry) → IsLogged IsJob AreAt [] log log
  logged_nothing log = record { entries = []; grown = sym (append-nil log); are = nothing }

  pub logged_fresh : {past : List Step} {old log : List Entry} (r : Rule) → IsLogged IsJob AreAt past old log → IsLogged IsJob AreAt (Fresh r ∷ past) old log
  logged_fresh r h = record { entries = h.entries; grown = h.grown; are = is_fresh r h.are }

  pub logged_lacking : {past : List Step} {old log : List Entry} (r : Rule) (p : Path) → IsLogged IsJob AreAt past old log → IsLogged IsJob AreAt (Lacks r p ∷ past) old log
  logged_lacking r p h = record { entries = h.entries; grown = h.grown; are = lacks_one r p h.are }

  pub logged_halt : {past : List Step} {old log : List Entry} → IsLogged IsJob AreAt past old log → IsLogged IsJob AreAt (Halts ∷ past) old log
  logged_halt h = record { entries = h.entries; grown = h.grown; are = has_halted h.are }

  pub logged_refusal : {past : List Step} {old log : List Entry} (r : Rule) → IsLogged IsJob AreAt past old log → IsLogged IsJob AreAt (Ended r false ∷ Began r ∷ past) old log
  logged_refusal r h = record { entries = h.entries; grown = h.grown; are = was_refused r h.are }

  pub logged_start : {past : List Step} {old log new : List Entry} (r : Rule) (job : Job) (counts : Counts) (h : IsLogged IsJob AreAt past old log) → IsJob r job → AreAt counts →
      IsNewId h.entries job.id → new ≡ log ++ Started job counts ∷ [] → IsLogged IsJob AreAt (Began r ∷ past) old new
  logged_start {old = old} r job counts h of_rule at own e = record {
    entries = h.entries ++ Started job counts ∷ [];
    grown = e ∙ ap (λ l. l ++ Started job counts ∷ []) h.grown ∙ append_assoc old h.entries (Started job counts ∷ []);
    are = has_begun r job counts of_rule at own h.are;
  }

  pub logged_end : {past : List Step} {old log new : List Entry} (r : Rule) (id : ℕ) (outcome : Outcome) (h : IsLogged IsJob AreAt past old log) → Among r (began past) →
      HasStarted IsJob h.entries r id → new ≡ log ++ Finished id outcome ∷ [] → IsLogged IsJob AreAt (Ended r (is_done outcome) ∷ past) old new
  logged_end {old = old} r id outcome h ran started e = record {
    entries = h.entries ++ Finished id outcome ∷ [];
    grown = e ∙ ap (λ l. l ++ Finished id outcome ∷ []) h.grown ∙ append_assoc old h.entries (Finished id outcome ∷ []);
    are = has_ended r id outcome ran started h.are;
  }

-- what is known of each job of a rule that began may be said otherwise
module _ (IsJob IsJobToo : Rule → Job → Type 0) (AreAt AreAtToo : Counts → Type 0) (at_too : (counts : Counts) → AreAt counts → AreAtToo counts) where
  entries_say : {steps : List Step} {entries : List Entry} → AreEntries IsJob AreAt steps entries →
      ((r : Rule) (job : Job) → Among r (began steps) → IsJob r job → IsJobToo r job) → AreEntries IsJobToo AreAtToo steps entries
  entries_say nothing too = nothing
  entries_say (is_fresh r h) too = is_fresh r (entries_say h too)
  entries_say (has_begun r job counts of_rule at own h) too =
      has_begun r job counts (too r job here of_rule) (at_too counts at) own (entries_say h (λ q j m. too q j (there m)))
  entries_say (was_refused r h) too = was_refused r (entries_say h (λ q j m. too q j (there m)))
  entries_say (has_ended r id outcome ran s h) too =
      has_ended r id outcome ran (record { job = s.job; counts = s.counts; of_rule = too r s.job ran s.of_rule; started = s.started; has_id = s.has_id }) (entries_say h too)
  entries_say (lacks_one r p h) too = lacks_one r p (entries_say h too)
  entries_say (has_halted h) too = has_halted (entries_say h too)

  pub logged_too : {steps : List Step} {old new : List Entry} → IsLogged IsJob AreAt steps old new →
      ((r : Rule) (job : Job) → Among r (began steps) → IsJob r job → IsJobToo r job) → IsLogged IsJobToo AreAtToo steps old new
  logged_too h too = record { entries = h.entries; grown = h.grown; are = entries_say h.are too }
