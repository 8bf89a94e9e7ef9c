-- What the steps of building leave, one after the other.
use Rattle.std.proofs.Common.{◌≡◌, ◌≢◌, ◌∙◌, ◌<◌, ◌≤◌, ℕ, zero, suc, List, [], ◌∷◌, ◌++◌, length, sym, ap, subst, refl, inl, inr, arith, Some, None, Option, Result, Ok, Err, IfSome, IfErr}
use Rattle.std.specs.Prelude.{Contains}
use Rattle.scons_base.specs.declared.limits.TheConstants.{FILE_LIMIT}
use Rattle.world_api.specs.Act.{act}
use Rattle.world_api.specs.Around.{Around, Tree, Running, Started, Finished, IsRunningTarget, given_of}
use Rattle.world_api.specs.Calls.{Asks, Grows, Starts, Ends}
use Rattle.world_api.specs.Counts.{Counts}
use Rattle.world_api.specs.Reads.{IsOver}
use Rattle.world_api.specs.declared.refusal.ReadRefusal.{ReadRefusal}
use Rattle.world_api.specs.declared.refusal.ReadRefusal.TheVariants as refusal
use Rattle.world_api.specs.declared.job.Ended.{Ended}
use Rattle.world_api.specs.declared.job.Outcome.{Outcome}
use Rattle.world_api.specs.declared.job.Outcome.TheVariants as outcome
use Rattle.one_rule.specs.declared.rule.Rule.{Rule}
use Rattle.world_api.specs.declared.job.Work.TheVariants.{Shell}
use Rattle.one_rule.specs.declared.stops.BuildStop.{BuildStop}
use Rattle.one_rule.specs.declared.stops.BuildStop.TheVariants as build
use Rattle.one_rule.specs.declared.report.Top.{Top}
use Rattle.one_rule.specs.declared.report.Top.TheVariants.{Usage, Reading, Missing, ActionFailed, TreeFault, StartFault, OutFault, TooLarge}
use Rattle.one_rule.specs.Course.{Failed as Fails}
use Rattle.one_rule.specs.Building.{Idles, Unchanged, Leaves, Logs, nothing, ran, HasLog, HasSource, MayBuild, no_source, large_source, unreadable_source, kept_target, not_started, failed, built, clean_content, job_of}
use Rattle.one_rule.specs.BuildSteps.{IsFailStop, StepGives, source_result, unread_stop, ended_result}
use Rattle.one_rule.specs.Ends.{BuildGives, BuildMakes, FailLogs}
use Rattle.one_rule.proofs.Quiet.{no_target, same_file}

pub no_change : (around : Around) → around.running ≡ [] → Unchanged around around
no_change around idle = record { files = λ path. refl; running = idle; log = refl; met = λ bytes met. met; law = refl }

-- what is the same has grown
grown : (old new : List (List ℕ)) → new ≡ old → Grows old new
grown old new same bytes met = subst (λ all. Contains all bytes) (sym same) met

pub asked_only : (old new : Around) → old.running ≡ [] → Asks old new → Unchanged old new
asked_only old new idle asks = record {
  files = λ path. same_file old new path idle asks;
  running = asks.running ∙ idle;
  log = asks.log;
  met = grown old.met new.met asks.met;
  law = asks.law;
}

module _ (rule : Rule) where
  -- nothing done yet
  pub no_step : (around : Around) → around.running ≡ [] → Idles rule around around
  no_step around idle = record { files = λ path other. refl; running = idle; log = refl; met = λ bytes met. met; law = refl }

  pub unchanged_idles : (old new : Around) → Unchanged old new → Idles rule old new
  unchanged_idles old new same = record { files = λ path other. same.files path; running = same.running; log = same.log; met = same.met; law = same.law }

  pub asked : (old new : Around) → old.running ≡ [] → Asks old new → Idles rule old new
  asked old new idle asks = unchanged_idles old new (asked_only old new idle asks)

  pub two_steps : (old mid new : Around) → Idles rule old mid → Idles rule mid new → Idles rule old new
  two_steps old mid new first second = record {
    files = λ path other. second.files path other ∙ first.files path other;
    running = second.running;
    log = second.log ∙ first.log;
    met = λ bytes met. second.met bytes (first.met bytes met);
    law = second.law ∙ first.law;
  }

  pub idle_leaves : (counts : Counts) (old new : Around) → Idles rule old new → Leaves rule counts old new
  idle_leaves counts old new idles = record {
    files = idles.files;
    running = idles.running;
    log = subst (Logs rule counts old.log) (sym idles.log) nothing;
    met = idles.met;
    law = idles.law;
  }

  pub step_leaves : (counts : Counts) (old mid new : Around) → Idles rule old mid → Leaves rule counts mid new → Leaves rule counts old new
  step_leaves counts old mid new first second = record {
    files = λ path other. second.files path other ∙ first.files path other;
    running = second.running;
    log = subst (λ log. Logs rule counts log new.log) first.log second.log;
    met = λ bytes met. second.met bytes (first.met bytes met);
    law = second.law ∙ first.law;
  }

  -- the source, read
  module _ (old new : Around) (idle : old.running ≡ []) (asks : Asks old new) where
    at_source : old.tree rule.source ≡ new.tree rule.source
    at_source = sym (same_file old new rule.source idle asks)

    pub source_read : (content : Option (List ℕ)) → content ≡ new.tree rule.source → IfSome content (λ bytes. length bytes ≤ FILE_LIMIT) → StepGives old.tree rule (source_result rule content)
    source_read None is small = no_source (at_source ∙ sym is)
    source_read (Some bytes) is small = record { bytes = bytes; is = at_source ∙ sym is; small = small }

    pub source_refused : (why : ReadRefusal) → IsOver (new.tree rule.source) why → ((size : ℕ) → why ≡ refusal.TooLarge size → FILE_LIMIT < size) → StepGives old.tree rule (Err (unread_stop rule why))
    source_refused refusal.Fault over above = unreadable_source
    source_refused (refusal.TooLarge size) over above =
        subst (λ n. StepGives old.tree rule (Err (unread_stop rule (refusal.TooLarge n)))) over.2
        (large_source over.0 (at_source ∙ over.1) (subst (λ n. FILE_LIMIT < n) (sym over.2) (above size refl)))
    source_refused refusal.Memory over above = tt

-- an element of a list of one
only_one : {X : Type 0} (x y : X) → Contains (x ∷ []) y → x ≡ y
only_one x y (zero, in_range, is) = is
only_one x y (suc k, in_range, is) = absurd (omega arith)

no_more : {X : Type 0} (xs : List X) (y : X) (ys : List X) → [] ≡ xs ++ y ∷ ys → ⊥
no_more [] y ys e = cc
no_more (x ∷ xs) y ys e = cc

-- a list of one, cut round an element
module _ {X : Type 0} (x y : X) where
  one_cut : (front back : List X) → x ∷ [] ≡ front ++ y ∷ back → (front ++ back ≡ []) × (y ≡ x)
  one_cut [] back e = (cc, cc)
  one_cut (z ∷ front) back e = let rest : [] ≡ front ++ y ∷ back = cc in absurd (no_more front y back rest)

-- the job, started and ended
module _ (rule : Rule) (counts : Counts) (sure : Type 0) (ended : Ended) (old mid new : Around) (idle : old.running ≡ []) (starts : Starts (job_of rule) counts old mid) (ends : Ends sure ended mid new) where
  the_run : Running
  the_run = record { job = job_of rule; given = given_of old.tree (rule.source ∷ []) }

  alone : mid.running ≡ the_run ∷ []
  unfolding the_run
  alone = starts.running ∙ ap (λ runs. runs ++ the_run ∷ []) idle

  cut : (ends.front ++ ends.back ≡ []) × (ends.which ≡ the_run)
  cut = one_cut the_run ends.which ends.front ends.back (sym alone ∙ ends.was)

  other_file : (path : List ℕ) → path ≢ rule.target → IsRunningTarget mid.running path → ⊥
  unfolding the_run
  other_file path other target =
      let run = only_one the_run target.0 (subst (λ runs. Contains runs target.0) alone target.1) in
      let made = subst (λ r. Contains r.job.targets path) (sym run) target.2 in
      other (sym (only_one rule.target path made))

  pub run_logs : HasLog rule counts old.log new.log ended.outcome
  unfolding the_run
  run_logs =
      let id : ended.id ≡ 0 = ends.id ∙ ap (λ r. r.job.id) cut.1 in
      ends.log ∙ (ap (λ log. log ++ Finished ended.id ended.outcome ∷ []) starts.log ∙ ap (λ n. (old.log ++ Started (job_of rule) counts ∷ []) ++ Finished n ended.outcome ∷ []) id)

  pub run_leaves : Leaves rule counts old new
  run_leaves = record {
    files = λ path other. ends.files path (other_file path other) ∙ starts.files path (no_target old.running path idle) (λ made. other (sym (only_one rule.target path made)));
    running = ends.running ∙ cut.0;
    log = subst (Logs rule counts old.log) (sym run_logs) (ran ended.outcome);
    met = λ bytes met. ends.met bytes (grown old.met mid.met starts.met bytes met);
    law = ends.law ∙ starts.law;
  }

  made_target : sure → ended.outcome ≡ outcome.Done → new.tree rule.target ≡ clean_content old.law old.tree rule
  unfolding the_run
  made_target told done =
      ends.made told done rule.target (subst (λ r. Contains r.job.targets rule.target) (sym cut.1) (zero, omega arith, refl))
      ∙ (ap (λ r. act mid.law r.job.work r.job.signed r.job.targets r.given rule.target) cut.1
      ∙ ap (λ law. clean_content law old.tree rule) starts.law)

  makes_by : (how : Outcome) → ended.outcome ≡ how → BuildMakes sure rule counts old new (ended_result rule how)
  makes_by outcome.Done is = record { bytes = λ told. made_target told is; started = subst (HasLog rule counts old.log new.log) is run_logs }
  makes_by (outcome.Failed code) is = subst (HasLog rule counts old.log new.log) is run_logs
  makes_by outcome.Broken is = inr (subst (HasLog rule counts old.log new.log) is run_logs)
  makes_by outcome.NoMemory is = tt

  pub run_makes : BuildMakes sure rule counts old new (ended_result rule ended.outcome)
  run_makes = makes_by ended.outcome refl

-- building as a whole, by the way that its last step went
module _ (rule : Rule) (tree : Tree) (source : HasSource tree rule) where
  pub kept : (stop : BuildStop) → stop ≡ build.Stopped (TreeFault rule.target) → BuildGives tree rule (Err stop)
  kept stop is = subst (λ s. BuildGives tree rule (Err s)) (sym is) (kept_target source)

  pub made_gives : (result : Result (Unit {0}) BuildStop) → IfErr result (IsFailStop rule) → BuildGives tree rule result
  made_gives (Ok done) how = built source
  made_gives (Err (build.Stopped fault)) how = elim how [ ]
  made_gives (Err (build.Failed fault)) (inl is) = subst (λ f. MayBuild tree rule (Fails rule f)) (sym is) (not_started source)
  made_gives (Err (build.Failed fault)) (inr (code, is)) = subst (λ f. MayBuild tree rule (Fails rule f)) (sym is) (failed code source)
  made_gives (Err build.Unprinted) how = elim how [ ]
  made_gives (Err build.NoMemory) how = tt

-- what a run makes of the files as they were before the target was removed
module _ (rule : Rule) (others : rule.source ≢ rule.target) (sure : Type 0) (counts : Counts) (old mid new : Around) (first : Idles rule old mid) where
  same_clean : clean_content mid.law mid.tree rule ≡ clean_content old.law old.tree rule
  same_clean =
      ap (λ law. clean_content law mid.tree rule) first.law
      ∙ ap (λ content. act old.law Shell (rule.line ∷ []) (rule.target ∷ []) ((rule.source, content) ∷ []) rule.target) (first.files rule.source others)

  same_log : (outcome : Outcome) → HasLog rule counts mid.log new.log outcome → HasLog rule counts old.log new.log outcome
  same_log outcome h = subst (λ log. HasLog rule counts log new.log outcome) first.log h

  fail_log : (fault : Top) → FailLogs rule counts mid new fault → FailLogs rule counts old new fault
  fail_log (ActionFailed target code) h = same_log (outcome.Failed code) h
  fail_log (StartFault target) (inl same) = inl (same ∙ first.log)
  fail_log (StartFault target) (inr broken) = inr (same_log outcome.Broken broken)
  fail_log (Usage place kind) h = h ∙ first.log
  fail_log (Reading file line kind) h = h ∙ first.log
  fail_log (Missing node target) h = h ∙ first.log
  fail_log (TreeFault path) h = h ∙ first.log
  fail_log OutFault h = h ∙ first.log
  fail_log (TooLarge path size) h = h ∙ first.log

  pub made_after : (result : Result (Unit {0}) BuildStop) → BuildMakes sure rule counts mid new result → BuildMakes sure rule counts old new result
  made_after (Ok done) h = record { bytes = λ told. h.bytes told ∙ same_clean; started = same_log outcome.Done h.started }
  made_after (Err (build.Stopped fault)) h = h ∙ first.log
  made_after (Err (build.Failed fault)) h = fail_log fault h
  made_after (Err build.Unprinted) h = h ∙ first.log
  made_after (Err build.NoMemory) h = tt
