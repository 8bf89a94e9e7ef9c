-- Endings are counted over calls, one after another.
use Rattle.std.proofs.Common.{◌≡◌, ◌≤◌, ◌∙◌, ap, sym, subst, refl, ℕ, Bool, true, false, List, [], ◌∷◌, ◌++◌, append-nil, append_assoc, cond, length, arith}
use Rattle.std.specs.Prelude.{Result, Ok, Err}
use Rattle.build_model.proofs.Lists.{true_false}
use Rattle.world_api.specs.Around.{Around, Entry, Running, Started, Finished}
use Rattle.world_api.specs.Causes.{HasOutcomeCause, Later}
use Rattle.world_api.specs.Counts.{Counts}
use Rattle.world_api.specs.Looks.{Looks}
use Rattle.world_api.specs.Meaning.{Meaning}
use Rattle.world_api.specs.Printed.{SinkMeaning}
use Rattle.world_api.specs.declared.job.Job.{Job}
use Rattle.world_api.specs.declared.job.Outcome.{Outcome}
use Rattle.world_api.specs.declared.job.Outcome.TheVariants.{Done, Failed, Broken, NoMemory}
use Rattle.build_run.specs.Counting.{RoseBy}
use Rattle.build_run.specs.Endings.{is_breaking, is_ending, is_failure, is_want, count_ended, CountsEndings, EndingsAreCounted, KeepsWant, SiteCounts}
use Rattle.build_run.specs.FaultTexts.{Shows, ShowsIf, is_printed, is_refused, is_shut, is_wanting}
use Rattle.build_run.specs.Goings.{LaunchesAt, ClearsAt}
use Rattle.build_run.specs.Holds.{Busy, holds_in, holds_of}
use Rattle.build_run.specs.Sites.{SitePuts}
use Rattle.build_run.specs.declared.account.Account.{Account}
use Rattle.build_run.specs.declared.site.Site.{Site}
use Rattle.build_run.proofs.Counting.{count_append, count_one, rose_both, rose_once, stands_still}

-- a log that stands still
pub same_log : (before after : Counts) (memory : Bool) (old new : List Entry) → Later before after → new ≡ old → CountsEndings before after memory old new
same_log before after memory old new later same = record {
  entries = [];
  grown = same ∙ sym (append-nil old);
  failed = stands_still before.action_failures after.action_failures later.action;
  broken = stands_still before.start_faults after.start_faults later.start;
  wants = λ ample. refl;
}

-- calls behind others
pub counted_on : (a b c : Counts) (noted memory : Bool) (first mid last : List Entry) → (memory ≡ false → noted ≡ false) →
    CountsEndings a b noted first mid → CountsEndings b c memory mid last → CountsEndings a c memory first last
counted_on a b c noted memory first mid last keeps p q = record {
  entries = p.entries ++ q.entries;
  grown = q.grown ∙ ap (λ (l : List Entry). l ++ q.entries) p.grown ∙ append_assoc first p.entries q.entries;
  failed =
      subst (λ n. RoseBy n a.action_failures c.action_failures) (sym (count_append (is_ending is_failure) p.entries q.entries))
      (rose_both (count_ended is_failure p.entries) (count_ended is_failure q.entries) a.action_failures b.action_failures c.action_failures p.failed q.failed);
  broken =
      subst (λ n. RoseBy n a.start_faults c.start_faults) (sym (count_append (is_ending is_breaking) p.entries q.entries))
      (rose_both (count_ended is_breaking p.entries) (count_ended is_breaking q.entries) a.start_faults b.start_faults c.start_faults p.broken q.broken);
  wants = λ ample.
      let one = p.wants (keeps ample) in
      let two = q.wants ample in
      let both = count_append (is_ending is_want) p.entries q.entries in
      omega (arith, one, two, both);
}

-- a start
pub started_one : (before after : Counts) (memory : Bool) (old new : List Entry) (job : Job) (counts : Counts) → Later before after →
    new ≡ old ++ Started job counts ∷ [] → CountsEndings before after memory old new
started_one before after memory old new job counts later is = record {
  entries = Started job counts ∷ [];
  grown = is;
  failed =
      subst (λ n. RoseBy n before.action_failures after.action_failures) (sym (count_one (is_ending is_failure) (Started job counts)))
      (stands_still before.action_failures after.action_failures later.action);
  broken =
      subst (λ n. RoseBy n before.start_faults after.start_faults) (sym (count_one (is_ending is_breaking) (Started job counts)))
      (stands_still before.start_faults after.start_faults later.start);
  wants = λ ample. count_one (is_ending is_want) (Started job counts);
}

-- an ending
failed_by : (outcome : Outcome) (before after : Counts) → Later before after → HasOutcomeCause outcome before after →
    RoseBy (cond (is_failure outcome) 1 0) before.action_failures after.action_failures
failed_by Done before after later cause = stands_still before.action_failures after.action_failures later.action
failed_by (Failed code) before after later cause = rose_once before.action_failures after.action_failures cause.rose
failed_by Broken before after later cause = stands_still before.action_failures after.action_failures later.action
failed_by NoMemory before after later cause = stands_still before.action_failures after.action_failures later.action

broken_by : (outcome : Outcome) (before after : Counts) → Later before after → HasOutcomeCause outcome before after →
    RoseBy (cond (is_breaking outcome) 1 0) before.start_faults after.start_faults
broken_by Done before after later cause = stands_still before.start_faults after.start_faults later.start
broken_by (Failed code) before after later cause = stands_still before.start_faults after.start_faults later.start
broken_by Broken before after later cause = rose_once before.start_faults after.start_faults cause.rose
broken_by NoMemory before after later cause = stands_still before.start_faults after.start_faults later.start

abbrev one_if : Bool → ℕ
one_if c = cond c 1 0

wanted_by : (outcome : Outcome) (memory : Bool) → (outcome ≡ NoMemory → memory ≡ true) → memory ≡ false → one_if (is_want outcome) ≡ 0
wanted_by Done memory noted ample = refl
wanted_by (Failed code) memory noted ample = refl
wanted_by Broken memory noted ample = refl
wanted_by NoMemory memory noted ample = true_false (sym (noted refl) ∙ ample)

pub ended_one : (before after : Counts) (memory : Bool) (old new : List Entry) (id : ℕ) (outcome : Outcome) → Later before after →
    HasOutcomeCause outcome before after → (outcome ≡ NoMemory → memory ≡ true) → new ≡ old ++ Finished id outcome ∷ [] →
    CountsEndings before after memory old new
ended_one before after memory old new id outcome later cause noted is = record {
  entries = Finished id outcome ∷ [];
  grown = is;
  failed =
      subst (λ n. RoseBy n before.action_failures after.action_failures) (sym (count_one (is_ending is_failure) (Finished id outcome)))
      (failed_by outcome before after later cause);
  broken =
      subst (λ n. RoseBy n before.start_faults after.start_faults) (sym (count_one (is_ending is_breaking) (Finished id outcome)))
      (broken_by outcome before after later cause);
  wants = λ ample. count_one (is_ending is_want) (Finished id outcome) ∙ wanted_by outcome memory noted ample;
}

-- ---- accounts

not_true : {b : Bool} {P : Type 0} → b ≡ true → b ≡ false → P
not_true is isnt = true_false (sym is ∙ isnt)

-- a text was shown, or none was there
module _ {E : Type 0} (e : SinkMeaning E) (err : E) (old : Account) (new_err : E) (new : Account) where
  shown : (text : List ℕ) → Shows e err old text new_err new → KeepsWant old new
  shown text (is_shut shut same still) = λ ample. subst (λ (a : Account). a.memory ≡ false) same ample
  shown text (is_wanting wanting same still) = λ ample. not_true wanting ample
  shown text (is_printed free prints same) = λ ample. subst (λ (a : Account). a.memory ≡ false) same ample
  shown text (is_refused free cuts shut memory faults) = memory

  pub shown_if : {T R : Type 0} (bytes : T → List ℕ) (r : Result T R) → ShowsIf e err old bytes r new_err new → KeepsWant old new
  shown_if bytes (Ok text) shows = shown (bytes text) shows
  shown_if bytes (Err wanting) shows = shown [] (shows [])

-- an ending that was well is none for want of memory
pub not_wanted : {P : Type 0} (outcome : Outcome) → outcome ≡ Done → outcome ≡ NoMemory → P
not_wanted outcome is e = not_true (ap is_want e) (ap is_want is)

-- ---- over worlds and accounts

module _ {W : Type 0} (m : Meaning W) where
  pub counts_none : (old : W) (account : Account) (new : W) (new_account : Account) → KeepsWant account new_account → Later (m.counts old) (m.counts new) →
      (m.tells new → (m.around new).log ≡ (m.around old).log) → EndingsAreCounted m old account new new_account
  counts_none old account new new_account want later same = record {
    want = want;
    endings = λ t. same_log (m.counts old) (m.counts new) new_account.memory (m.around old).log (m.around new).log later (same t);
  }

  later_here : (w : W) → Later (m.counts w) (m.counts w)
  later_here w = record { disk = omega arith; tree = omega arith; start = omega arith; action = omega arith }

  -- a world that wasn't called
  pub counts_still : (w : W) (account : Account) (new_account : Account) → KeepsWant account new_account → EndingsAreCounted m w account w new_account
  counts_still w account new_account want = counts_none w account w new_account want (later_here w) (λ t. refl)

  pub counts_on : (a : W) (first : Account) (b : W) (mid : Account) (c : W) (last : Account) → (m.tells c → m.tells b) →
      EndingsAreCounted m a first b mid → EndingsAreCounted m b mid c last → EndingsAreCounted m a first c last
  counts_on a first b mid c last told p q = record {
    want = λ ample. p.want (q.want ample);
    endings = λ t.
        counted_on (m.counts a) (m.counts b) (m.counts c) mid.memory last.memory (m.around a).log (m.around b).log (m.around c).log q.want
        (p.endings (told t)) (q.endings t);
  }

  -- a job ended
  pub counts_ended : (old : W) (account : Account) (new : W) (new_account : Account) (id : ℕ) (outcome : Outcome) → KeepsWant account new_account →
      Later (m.counts old) (m.counts new) → HasOutcomeCause outcome (m.counts old) (m.counts new) → (outcome ≡ NoMemory → new_account.memory ≡ true) →
      (m.tells new → (m.around new).log ≡ (m.around old).log ++ Finished id outcome ∷ []) → EndingsAreCounted m old account new new_account
  counts_ended old account new new_account id outcome want later cause noted log = record {
    want = want;
    endings = λ t.
        ended_one (m.counts old) (m.counts new) new_account.memory (m.around old).log (m.around new).log id outcome later cause noted (log t);
  }

  -- a job was launched
  pub counts_launched : (old : W) (account : Account) (new : W) (new_account : Account) (job : Job) → KeepsWant account new_account →
      Later (m.counts old) (m.counts new) → LaunchesAt m job old new → EndingsAreCounted m old account new new_account
  counts_launched old account new new_account job want later launches = record {
    want = want;
    endings = λ t.
        let l = launches t in
        started_one (m.counts old) (m.counts new) new_account.memory (m.around old).log (m.around new).log job (m.counts old) later
        (l.starts.log ∙ ap (λ (log : List Entry). log ++ Started job (m.counts old) ∷ []) l.clears.log);
  }

  pub counts_cleared : (paths : List (List ℕ)) (old : W) (account : Account) (new : W) (new_account : Account) → KeepsWant account new_account →
      Later (m.counts old) (m.counts new) → ClearsAt m paths old new → EndingsAreCounted m old account new new_account
  counts_cleared paths old account new new_account want later clears = counts_none old account new new_account want later (λ t. (clears t).log)

  pub counts_looked : (old : W) (account : Account) (new : W) (new_account : Account) → KeepsWant account new_account →
      Later (m.counts old) (m.counts new) → Looks m old new → EndingsAreCounted m old account new new_account
  counts_looked old account new new_account want later looks = counts_none old account new new_account want later (λ t. (looks.around t).log)

-- ---- over sites

module _ {W O E : Type 0} (m : Meaning W) where
  pub site_counts_put : (old new : Site W O E) → SitePuts m old new → KeepsWant old.account.now new.account.now → SiteCounts m old new
  site_counts_put old new puts want =
      counts_none m old.world.now old.account.now new.world.now new.account.now want puts.goes.passes.later
      (λ t. ap (λ (a : Around). a.log) (puts.around t))

  pub site_counts_on : (a b c : Site W O E) → (m.tells c.world.now → m.tells b.world.now) → SiteCounts m a b → SiteCounts m b c → SiteCounts m a c
  site_counts_on a b c told p q =
      counts_on m a.world.now a.account.now b.world.now b.account.now c.world.now c.account.now told p q

  -- its world wasn't called
  pub site_counts_tell : (old new : Site W O E) → new.world.now ≡ old.world.now → KeepsWant old.account.now new.account.now → SiteCounts m old new
  site_counts_tell old new still want =
      subst (λ (w : W). EndingsAreCounted m old.world.now old.account.now w new.account.now) (sym still)
      (counts_still m old.world.now old.account.now new.account.now want)

  -- what a site held in the end is what its lender has
  pub counts_given : (last : Site W O E) (old : W) (before : Account) (now world : W) (account : Account) → last.world.now ≡ world →
      last.account.now ≡ account → last.world.now ≡ now → EndingsAreCounted m old before now last.account.now → EndingsAreCounted m old before world account
  counts_given last old before now world account lent lent_account same counts =
      subst (λ (a : Account). EndingsAreCounted m old before world a) lent_account
      (subst (λ (w : W). EndingsAreCounted m old before w last.account.now) (sym same ∙ lent) counts)

-- ---- over builds

module _ {W : Type 0} (m : Meaning W) (a b c : W) (memory : Bool) where
  -- nothing ended before it began
  pub all_counted : (first last : Account) → memory ≡ last.memory → (m.tells c → m.tells b) → Later (m.counts a) (m.counts b) →
      (m.tells b → (m.around b).log ≡ (m.around a).log) → EndingsAreCounted m b first c last → m.tells c →
      CountsEndings (m.counts a) (m.counts c) memory (m.around a).log (m.around c).log
  all_counted first last same told later log counted tells =
      subst (λ (noted : Bool). CountsEndings (m.counts a) (m.counts c) noted (m.around a).log (m.around c).log) (sym same)
      ((counts_on m a first b first c last told (counts_none m a first b first (λ ample. ample) later log) counted).endings tells)

  pub none_counted : Later (m.counts a) (m.counts c) → (m.tells c → (m.around c).log ≡ (m.around a).log) → m.tells c →
      CountsEndings (m.counts a) (m.counts c) memory (m.around a).log (m.around c).log
  none_counted later log tells = same_log (m.counts a) (m.counts c) memory (m.around a).log (m.around c).log later (log tells)

-- ---- where all have ended

-- no job runs where no ticket is left
pub none_left : (busies : List Busy) (running : List Running) → length busies ≤ 0 → holds_of running ≡ holds_in busies → running ≡ []
none_left [] [] short same = refl
none_left [] (run ∷ running) short same = absurd cc
none_left (busy ∷ busies) running short same = absurd (omega (arith, short))
