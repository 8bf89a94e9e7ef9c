-- Records stay true from call to call, and what a stop leaves is told by them.
use Rattle.std.proofs.Common.{◌≡◌, ◌⊎◌, inl, inr, Bool, true, false, List, [], ◌∷◌, Contains, Option, Some, None, cond, refl, sym, subst, ap, ◌∙◌, option_map}
use Rattle.std.proofs.lemmas.Slice.Eq.{bytes_eq-Decides}
use Rattle.std.specs.Str.{bytes_eq}
use Rattle.world_api.specs.Act.{act}
use Rattle.world_api.specs.Around.{Around, Running, IsRunningTarget, given_of}
use Rattle.world_api.specs.Calls.{Asks, MakesDir, Removes, Starts, Ends}
use Rattle.world_api.specs.Counts.{Counts}
use Rattle.world_api.specs.declared.job.Ended.{Ended}
use Rattle.world_api.specs.declared.job.Job.{Job}
use Rattle.world_api.specs.declared.job.Outcome.TheVariants.{Done}
use Rattle.deciders.specs.Spelling.{work_byte}
use Rattle.deciders.specs.declared.recorded.Rec.{Rec}
use Rattle.sign_store.specs.Tables.{is_among, with_each}
use Rattle.build_model.specs.Rules.{Path, Bytes, Content, Tree, Setting, Record, Among, here, there}
use Rattle.build_model.specs.Records.{AreSound, IsMadeBy, IsMet}
use Rattle.build_model.proofs.Lists.{none_some, some_same}
use Rattle.build_means.specs.Builds.{Kept}
use Rattle.build_means.specs.Graphs.{act_by}
use Rattle.build_means.specs.Records.{record_in, records_in}
use Rattle.build_means.proofs.Lists.{any_there}
use Rattle.run_means.proofs.Ending.{work_is}
use Rattle.run_means.proofs.Keeping.{none_there}
use Rattle.run_means.proofs.Lists.{contains_among, among_contains}
use Rattle.turn_means.specs.Recording.{HaveNone}
use Rattle.turn_means.specs.Safety.{IsSafe, IsLeft, IsTicketOf, IsTrue, ActsAs, AreSafe, DoneAreTrue}
use Rattle.turn_means.proofs.Files.{contained}
use Rattle.turn_means.proofs.Jobs.{run_either, run_before}

-- some running job writes a path, or none does
run_here : {run : Running} (running : List Running) {path : Path} → Contains run.job.targets path → IsRunningTarget (run ∷ running) path
run_here {run} running m = (run, among_contains here, m)

run_later : {run : Running} (running : List Running) {path : Path} → IsRunningTarget running path → IsRunningTarget (run ∷ running) path
run_later running t = (t.0, among_contains (there (contains_among running t.1)), t.2)

pub written_or : (running : List Running) (path : Path) → IsRunningTarget running path ⊎ (IsRunningTarget running path → ⊥)
written_or [] path = inr (λ t. none_there t.1)
written_or (run ∷ running) path = by (contained run.job.targets path) (written_or running path)
  where
    out : (Contains run.job.targets path → ⊥) → (IsRunningTarget running path → ⊥) → IsRunningTarget (run ∷ running) path → ⊥
    out unlisted none t = at t (contains_among (run ∷ running) t.1)
      where
        at : (t : IsRunningTarget (run ∷ running) path) → Among t.0 (run ∷ running) → ⊥
        at t here = unlisted t.2
        at t (there m) = none (t.0, among_contains m, t.2)

    by : Contains run.job.targets path ⊎ (Contains run.job.targets path → ⊥) →
        IsRunningTarget running path ⊎ (IsRunningTarget running path → ⊥) →
        IsRunningTarget (run ∷ running) path ⊎ (IsRunningTarget (run ∷ running) path → ⊥)
    by (inl m) rest = inl (run_here running m)
    by (inr unlisted) (inl t) = inl (run_later running t)
    by (inr unlisted) (inr none) = inr (out unlisted none)

among_is : (paths : List Path) (path : Path) → is_among paths path ≡ true → Among path paths
among_is paths path e =
    let h = any_there (λ other. bytes_eq other path) paths e in
    subst (λ p. Among p paths) ((bytes_eq-Decides h.0 path).0 h.2) h.1

-- a record that was read of one that is kept
has_kept : (o : Option Rec) (r : Record) → option_map record_in o ≡ Some r → o ≡ None → {A : Type 0} → A
has_kept o r e none = none_some (sym (ap (option_map record_in) none) ∙ e)

module _ (s : Setting) (records : Kept) where
  -- where no path with a record changed but such as have no file any more
  sound_on : (old new : Around) → ((bytes : Bytes) → Contains old.met bytes → Contains new.met bytes) →
      ((path : Path) (r : Record) → records_in records path ≡ Some r → (new.tree path ≡ old.tree path) ⊎ (new.tree path ≡ None)) →
      AreSound s old.met old.tree (records_in records) → AreSound s new.met new.tree (records_in records)
  sound_on old new met files sound = record {
    at_targets = sound.at_targets;
    true_of_files = λ path r bytes e file. by path r bytes e file (files path r e);
  }
    where
      met_on : (c : Content) → IsMet old.met c → IsMet new.met c
      met_on None m = tt
      met_on (Some bytes) m = contains_among new.met (met bytes (among_contains m))

      by : (path : Path) (r : Record) (bytes : Bytes) → records_in records path ≡ Some r → new.tree path ≡ Some bytes →
          (new.tree path ≡ old.tree path) ⊎ (new.tree path ≡ None) → IsMadeBy s new.met r path bytes
      by path r bytes e file (inl same) =
          let made = sound.true_of_files path r bytes e (sym same ∙ file) in
          record {
            given = made.given;
            each_met = λ x m. met_on x.1 (made.each_met x m);
            digests = made.digests;
            made = made.made;
          }
      by path r bytes e file (inr gone) = none_some (sym gone ∙ file)

  -- a path with a record isn't written by a running job
  kept_still : (around : Around) → IsSafe s around records → (path : Path) (r : Record) → records_in records path ≡ Some r →
      IsRunningTarget around.running path → ⊥
  kept_still around safe path r e target = has_kept (records path) r e (safe.none path target)

  pub stop : (around : Around) (left : Tree) → IsSafe s around records → IsLeft around left →
      AreSound s around.met left (records_in records)
  stop around left safe is_left = record {
    at_targets = safe.sound.at_targets;
    true_of_files = λ path r bytes e file.
        safe.sound.true_of_files path r bytes e (sym (is_left path (kept_still around safe path r e)) ∙ file);
  }

  same_met : (old new : Around) → new.met ≡ old.met → (bytes : Bytes) → Contains old.met bytes → Contains new.met bytes
  same_met old new same bytes m = subst (λ l. Contains l bytes) (sym same) m

  still_none : (old new : Around) → new.running ≡ old.running → IsSafe s old records → (path : Path) →
      IsRunningTarget new.running path → records path ≡ None
  still_none old new same safe path target = safe.none path (subst (λ runs. IsRunningTarget runs path) same target)

  looks : (old new : Around) → Asks old new → IsSafe s old records → IsSafe s new records
  looks old new asks safe = record {
    none = still_none old new asks.running safe;
    sound = sound_on old new (same_met old new asks.met) (λ path r e. inl (asks.files path (kept_still old safe path r e))) safe.sound;
  }

  makes_dir : (dir : Path) (old new : Around) → MakesDir dir old new → IsSafe s old records → IsSafe s new records
  makes_dir dir old new makes safe = record {
    none = still_none old new makes.running safe;
    sound = sound_on old new (same_met old new makes.met) (λ path r e. inl (makes.files path (kept_still old safe path r e))) safe.sound;
  }

  removes : (gone : Path) (old new : Around) → Removes gone old new → IsSafe s old records → IsSafe s new records
  removes gone old new removed safe = record {
    none = still_none old new removed.running safe;
    sound = sound_on old new (same_met old new removed.met) (λ path r e. by path (kept_still old safe path r e) (contained (gone ∷ []) path))
        safe.sound;
  }
    where
      here_only : {path : Path} → Contains (gone ∷ []) path → path ≡ gone
      here_only m = at (contains_among (gone ∷ []) m)
        where
          at : {path : Path} → Among path (gone ∷ []) → path ≡ gone
          at here = refl
          at (there n) = elim n [ ]

      by : (path : Path) → (IsRunningTarget old.running path → ⊥) →
          Contains (gone ∷ []) path ⊎ (Contains (gone ∷ []) path → ⊥) →
          (new.tree path ≡ old.tree path) ⊎ (new.tree path ≡ None)
      by path free (inl m) =
          subst (λ p. (new.tree p ≡ old.tree p) ⊎ (new.tree p ≡ None)) (sym (here_only m)) removed.file
      by path free (inr out) = inl (removed.others path (λ same. out (among_contains (subst (λ p. Among p (gone ∷ [])) (sym same) here))) free)

  starts : (job : Job) (counts : Counts) (old new : Around) → Starts job counts old new → HaveNone job.targets records →
      IsSafe s old records → IsSafe s new records
  starts job counts old new start without safe = record {
    none = λ path target.
        elim (run_either old.running (record { job = job; given = given_of old.tree job.deps }) path
        (subst (λ runs. IsRunningTarget runs path) start.running target)) [
          | inl t ↦ safe.none path t
          | inr m ↦ without path m
        ];
    sound = sound_on old new (same_met old new start.met)
        (λ path r e. inl (start.files path (kept_still old safe path r e) (λ m. has_kept (records path) r e (without path m)))) safe.sound;
  }

  ends : (ended : Ended) (old new : Around) → Ends (Unit {0}) ended old new → IsSafe s old records → IsSafe s new records
  ends ended old new end safe = record {
    none = λ path target.
        safe.none path (subst (λ runs. IsRunningTarget runs path) (sym end.was)
        (run_before end.front end.which end.back path (subst (λ runs. IsRunningTarget runs path) end.running target)));
    sound = sound_on old new end.met (λ path r e. inl (end.files path (kept_still old safe path r e))) safe.sound;
  }

  fewer : (around : Around) (less : Kept) → ((path : Path) → (less path ≡ records path) ⊎ (less path ≡ None)) →
      IsSafe s around records → IsSafe s around less
  fewer around less each safe = record {
    none = λ path target. by path target (each path);
    sound = record {
      at_targets = λ path r e. safe.sound.at_targets path r (kept path r e (each path));
      true_of_files = λ path r bytes e file. safe.sound.true_of_files path r bytes (kept path r e (each path)) file;
    };
  }
    where
      by : (path : Path) → IsRunningTarget around.running path → (less path ≡ records path) ⊎ (less path ≡ None) → less path ≡ None
      by path target (inl same) = same ∙ safe.none path target
      by path target (inr none) = none

      kept : (path : Path) (r : Record) → records_in less path ≡ Some r → (less path ≡ records path) ⊎ (less path ≡ None) →
          records_in records path ≡ Some r
      kept path r e (inl same) = ap (option_map record_in) (sym same) ∙ e
      kept path r e (inr none) = has_kept (less path) r e none

  puts : (around : Around) (rec : Rec) → IsTrue s around rec → IsSafe s around records →
      IsSafe s around (with_each rec.targets (Some rec) records)
  puts around rec is safe = record {
    none = λ path target. none_at path target (is_among rec.targets path) refl;
    sound = record {
      at_targets = λ path r e. at path r (is_among rec.targets path) refl e;
      true_of_files = λ path r bytes e file. made path r bytes (is_among rec.targets path) refl e file;
    };
  }
    where
      none_at : (path : Path) → IsRunningTarget around.running path → (b : Bool) → is_among rec.targets path ≡ b →
          cond b (Some rec) (records path) ≡ None
      none_at path target true e = absurd (is.still path (among_contains (among_is rec.targets path e)) target)
      none_at path target false e = safe.none path target

      at : (path : Path) (r : Record) (b : Bool) → is_among rec.targets path ≡ b →
          option_map record_in (cond b (Some rec) (records path)) ≡ Some r → Among path r.targets
      at path r true among e = subst (λ (x : Record). Among path x.targets) (some_same e) (among_is rec.targets path among)
      at path r false among e = safe.sound.at_targets path r e

      made : (path : Path) (r : Record) (bytes : Bytes) (b : Bool) → is_among rec.targets path ≡ b →
          option_map record_in (cond b (Some rec) (records path)) ≡ Some r → around.tree path ≡ Some bytes →
          IsMadeBy s around.met r path bytes
      made path r bytes true among e file =
          subst (λ x. IsMadeBy s around.met x path bytes) (some_same e)
          (is.made path bytes (among_contains (among_is rec.targets path among)) file)
      made path r bytes false among e file = safe.sound.true_of_files path r bytes e file

  pub calls : AreSafe s records
  calls = record {
    looks = looks;
    makes_dir = makes_dir;
    removes = removes;
    starts = starts;
    ends = ends;
    fewer = fewer;
    puts = puts;
  }

-- what a job made that is done is what its record says
module _ (s : Setting) (Sure : Type 0) (sure : Sure) (ended : Ended) (old new : Around) (rec : Rec) (ends : Ends Sure ended old new)
    (done : ended.outcome ≡ Done) (acts : ActsAs s old) (ticket : IsTicketOf s old.met ends.which rec) where
  met_now : (c : Content) → IsMet old.met c → IsMet new.met c
  met_now None m = tt
  met_now (Some bytes) m = contains_among new.met (ends.met bytes (among_contains m))

  pub true_for : ((path : Path) → Contains rec.targets path → IsRunningTarget new.running path → ⊥) → IsTrue s new rec
  true_for still = record {
    made = λ path bytes m file. record {
      given = ends.which.given;
      each_met = λ x n. met_now x.1 (ticket.each_met x n);
      digests = ticket.digests;
      made = acts_at path ∙ sym (ends.made sure done path (subst (λ ps. Contains ps path) ticket.targets m)) ∙ file;
    };
    still = still;
  }
    where
      acts_at : (path : Path) →
          s.act (work_byte rec.work) rec.signed rec.targets ends.which.given path
          ≡ act old.law ends.which.job.work ends.which.job.signed ends.which.job.targets ends.which.given path
      acts_at path =
          ap (λ f. f (work_byte rec.work) rec.signed rec.targets ends.which.given path) acts
          ∙ ap (λ w. act_by old.law (work_byte w) rec.signed rec.targets ends.which.given path) ticket.work
          ∙ ap (λ l. act_by old.law (work_byte ends.which.job.work) l rec.targets ends.which.given path) ticket.signed
          ∙ ap (λ l. act_by old.law (work_byte ends.which.job.work) ends.which.job.signed l ends.which.given path) ticket.targets
          ∙ ap (λ w. act old.law w ends.which.job.signed ends.which.job.targets ends.which.given path) (work_is ends.which.job.work)

pub done_true : DoneAreTrue
done_true s ended old new rec ends done acts ticket still =
    true_for s (Unit {0}) tt ended old new rec ends done acts ticket still

pub true_stays : (s : Setting) (old new : Around) (rec : Rec) → IsTrue s old rec →
    ((bytes : Bytes) → Contains old.met bytes → Contains new.met bytes) →
    ((path : Path) → Contains rec.targets path → new.tree path ≡ old.tree path) →
    ((path : Path) → Contains rec.targets path → IsRunningTarget new.running path → ⊥) → IsTrue s new rec
true_stays s old new rec is met files still = record {
  made = λ path bytes m file.
      let made = is.made path bytes m (sym (files path m) ∙ file) in
      record {
        given = made.given;
        each_met = λ x n. met_on x.1 (made.each_met x n);
        digests = made.digests;
        made = made.made;
      };
  still = still;
}
  where
    met_on : (c : Content) → IsMet old.met c → IsMet new.met c
    met_on None m = tt
    met_on (Some bytes) m = contains_among new.met (met bytes (among_contains m))
