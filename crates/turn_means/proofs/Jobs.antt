-- How a build stands behind a job that starts, or is refused, and behind one that ends.
use Rattle.std.proofs.Common.{◌≡◌, ◌⊎◌, inl, inr, ◌<◌, true, false, Bool, List, [], ◌∷◌, ◌++◌, length, Contains, Some, refl, sym, subst, ap, ◌∙◌, append_assoc}
use Rattle.std.proofs.lemmas.List.{append_cancel_left}
use Rattle.scons_base.specs.declared.ids.RuleId.{RuleId}
use Rattle.world_api.specs.Around.{Around, Entry, Running, Started, Finished, IsRunningTarget, given_of}
use Rattle.world_api.specs.Calls.{Ends}
use Rattle.world_api.specs.Counts.{Counts}
use Rattle.world_api.specs.declared.job.Ended.{Ended}
use Rattle.world_api.specs.declared.job.Job.{Job}
use Rattle.deciders.specs.declared.recorded.Rec.{Rec}
use Rattle.task_plan.specs.States.{state_of}
use Rattle.task_plan.specs.declared.states.RuleState.TheVariants.{Running as Runs}
use Rattle.build_model.specs.Rules.{Path, Rule, Record, Among, here, there}
use Rattle.build_model.specs.Moments.{Job as Given}
use Rattle.build_model.specs.Steps as model
use Rattle.build_model.specs.Steps.{Step, Began, began, settled, is_over, IsRunning}
use Rattle.build_model.proofs.Lists.{true_false, among_same, among_either, among_left, among_right}
use Rattle.build_model.proofs.Runs.{settled_done}
use Rattle.build_means.specs.Builds.{jobs_at_once}
use Rattle.build_means.specs.Grown.{rule_numbered}
use Rattle.build_means.specs.Logs.{is_done}
use Rattle.plan_means.specs.Stepping.{Tells, has_begun, has_ended, has_failed}
use Rattle.plan_means.specs.Ties.{Ties}
use Rattle.plan_means.proofs.Running.{changes_keep, running_known}
use Rattle.plan_means.proofs.Stepping.{events_keep}
use Rattle.run_means.specs.Clears.{Clears}
use Rattle.run_means.specs.Laws.{MayWait}
use Rattle.run_means.specs.Turns.{MayBegin, job_for, EndsFor}
use Rattle.run_means.specs.Ways.{IsOwn, IsWay}
use Rattle.run_means.proofs.Ending.{ended_for}
use Rattle.run_means.proofs.Keeping.{none_there}
use Rattle.run_means.proofs.Launching.{launched, refused}
use Rattle.run_means.proofs.Lists.{contains_among, among_contains}
use Rattle.run_means.proofs.Settled.{stays_so}
use Rattle.turn_means.specs.Standing.{Outset, IsOutset, begun_at, Standing, IsNumbered, AreNumbered, Knows, IsAt}
use Rattle.turn_means.specs.Laws.{IsWeighed, is_due_now, IsLaunched, IsToldEnding, IsEnded, StandsBehind, told_by}
use Rattle.turn_means.specs.Writing.{Writes}
use Rattle.turn_means.proofs.Deciding.{makes, may_begin, handed}
use Rattle.turn_means.proofs.Files.{true_still}
use Rattle.turn_means.proofs.Numbers.{targets_made}
use Rattle.turn_means.proofs.Running.{MakesIt, lawful, one_rule, makes_each, begun_place, unbegun_still}
use Rattle.turn_means.proofs.Turns.{unfaulted, not_halted}

only_one : {A : Type 0} {x y : A} → Among x (y ∷ []) → x ≡ y
only_one here = refl
only_one (there m) = elim m [ ]

-- the job of a start
abbrev job_in : Job → Entry → Job
job_in other (Started job counts) = job
job_in other (Finished id outcome) = other

-- what a log has behind what it had
log_more : (base old log entries more : List Entry) (last : Entry) → old ≡ base ++ entries → log ≡ old ++ last ∷ [] → log ≡ base ++ more →
    more ≡ entries ++ last ∷ []
log_more base old log entries more last was grown now =
    append_cancel_left base more (entries ++ last ∷ [])
    (sym now ∙ grown ∙ ap (λ l. l ++ last ∷ []) was ∙ append_assoc base entries (last ∷ []))

-- one that runs among these and one more
pub run_either : (running : List Running) (last : Running) (path : Path) → IsRunningTarget (running ++ last ∷ []) path →
    IsRunningTarget running path ⊎ Contains last.job.targets path
run_either running last path target = by (among_either running (contains_among (running ++ last ∷ []) target.1))
  where
    by : Among target.0 running ⊎ Among target.0 (last ∷ []) → IsRunningTarget running path ⊎ Contains last.job.targets path
    by (inl m) = inl (target.0, among_contains m, target.2)
    by (inr m) = inr (subst (λ run. Contains run.job.targets path) (only_one m) target.2)

-- one that still runs ran
pub run_before : (front : List Running) (which : Running) (back : List Running) (path : Path) → IsRunningTarget (front ++ back) path →
    IsRunningTarget (front ++ which ∷ back) path
run_before front which back path target = (target.0, among_contains (by (among_either front (contains_among (front ++ back) target.1))), target.2)
  where
    by : Among target.0 front ⊎ Among target.0 back → Among target.0 (front ++ which ∷ back)
    by (inl m) = among_left (which ∷ back) m
    by (inr m) = among_right front (there m)

module _ (o : Outset) (outset : IsOutset o) where
  module _ (jobs : List Given) (old : Standing) (past : List Step) (rule : RuleId) (r : Rule) (rec : Rec) (at : IsAt o jobs old past)
      (weighed : IsWeighed o old rule r rec) (is_due : is_due_now old r rec ≡ true)
      (room : length old.around.running < jobs_at_once o.wanted.jobs) where
    known : Knows o old past
    known = at.knows weighed.goes_on

    may : MayBegin o.wanted o.kept o.before old.around past r
    may = may_begin o outset jobs old past at.way known rule r rec weighed is_due room

    -- no job starts, and the build is to end
    pub refuses : (new : Standing) → Clears r.targets old.around new.around → new.ended ≡ true → new.faulted ≡ true →
        new.plan.halted ≡ old.plan.halted →
        IsAt o (job_for o.wanted o.before old.around r ∷ jobs) new (model.Ended r false ∷ Began r ∷ past)
    refuses new clears ended faulted goes = record {
      way = refused o.wanted o.kept o.counts o.before old.around jobs past r outset.reading at.way may new.around clears;
      knows = λ e. true_false (sym ended ∙ e);
      halted = λ e. not_halted at.halted weighed.goes_on (sym goes ∙ e);
      told = λ e. faulted;
      well = λ e. true_false (sym faulted ∙ e);
    }

    module _ (mid : Around) (new : Standing) (job : Job) (counts : Counts) (is : IsLaunched o old mid new rule r rec job counts) where
      abbrev Jobs : List Given
      Jobs = job_for o.wanted o.before old.around r ∷ jobs

      abbrev Later : List Step
      Later = Began r ∷ past

      way_now : IsWay o.wanted o.kept o.counts o.before Jobs new.around Later
      way_now = launched o.wanted o.kept o.counts o.before old.around jobs past r outset.reading at.way may mid new.around job counts
          is.clears is.starts
          (handed o outset jobs old past at.way known rule r rec weighed job counts is.job_from is.unrisen)

      own : (path : Path) → Contains r.targets path → MakesIt o path r
      own path m = makes o outset jobs old past at.way known rule r rec weighed path (contains_among r.targets m)

      job_targets : job.targets ≡ r.targets
      job_targets = is.job_from.targets ∙ ap (λ (x : Record). x.targets) weighed.present.is

      writes : Writes r.targets old.around new.around
      writes = record {
        files = λ path free out.
            is.starts.files path (λ t. free (subst (λ runs. IsRunningTarget runs path) is.clears.running t))
            (λ m. out (subst (λ ps. Contains ps path) job_targets m))
            ∙ is.clears.files path free out;
        stamps = λ path free out.
            is.starts.stamps path (λ t. free (subst (λ runs. IsRunningTarget runs path) is.clears.running t))
            (λ m. out (subst (λ ps. Contains ps path) job_targets m))
            ∙ is.clears.stamps path free out;
        running = λ path target.
            elim (run_either mid.running (record { job = job; given = given_of mid.tree job.deps }) path
            (subst (λ runs. IsRunningTarget runs path) is.starts.running target)) [
              | inl t ↦ inl (subst (λ runs. IsRunningTarget runs path) is.clears.running t)
              | inr m ↦ inr (subst (λ ps. Contains ps path) job_targets m)
            ];
      }

      not_settled : Among r (settled past) → ⊥
      not_settled m = may.decided.not_done (settled_done past m)

      ties_now : Ties (begun_at o) old.graph o.wanted.requested new.around.tree Later new.plan
      ties_now =
          let told_ties = events_keep (begun_at o) old.graph o.wanted.requested old.around.tree past old.plan new.plan
          known.now known.ties (has_begun rule r weighed.is weighed.chosen.next) is.step in
          let same = stays_so o.wanted o.kept o.counts o.before old.around new.around jobs
          (job_for o.wanted o.before old.around r ∷ []) past (Began r ∷ []) outset.reading at.way way_now in
          changes_keep (begun_at o) old.graph o.wanted.requested old.around.tree new.around.tree Later new.plan
          (record { sources = same.sources; made = same.made }) told_ties

      -- what another rule makes isn't among its targets
      apart : {path : Path} {q : Rule} → MakesIt o path q → (Among q (r ∷ began past) → ⊥) → Contains r.targets path → ⊥
      apart {path} e not_began m =
          not_began (subst (λ x. Among x (r ∷ began past)) (one_rule o outset path (own path m) e) here)

      numbered_now : AreNumbered o old.graph Later new.around.log
      numbered_now entries grown other at_counts m =
          let grew : new.around.log ≡ old.around.log ++ Started job counts ∷ [] =
          is.starts.log ∙ ap (λ l. l ++ Started job counts ∷ []) is.clears.log in
          let more = log_more o.before.log old.around.log new.around.log at.way.log.entries entries (Started job counts)
          at.way.log.grown grew grown in
          by other (among_either at.way.log.entries (among_same more m))
        where
          by : (other : Job) → Among (Started other at_counts) at.way.log.entries ⊎ Among (Started other at_counts) (Started job counts ∷ []) →
              IsNumbered o old.graph Later other
          by other (inl n) =
              let is_one = known.numbered at.way.log.entries at.way.log.grown other at_counts n in
              record { rule = is_one.rule; numbered = is_one.numbered; targets = is_one.targets; stands = there is_one.stands }
          by other (inr n) =
              let same : other ≡ job = ap (job_in other) (only_one n) in
              record {
                rule = r;
                numbered = ap (λ (j : Job). rule_numbered (begun_at o) old.graph j.id) same
                    ∙ ap (rule_numbered (begun_at o) old.graph) is.job_from.id ∙ weighed.is;
                targets = ap (λ (j : Job). j.targets) same ∙ job_targets;
                stands = here;
              }

      knows_now : Knows o new Later
      knows_now = subst (λ s. Knows o s Later) (sym is.rest) (record {
        now = known.now;
        truth = true_still (begun_at o) old.graph old.inputs old.around new.around r.targets writes
            (λ path m. targets_made (begun_at o) old.graph known.now rule.0 r weighed.is path (contains_among r.targets m))
            (λ node path at_node m. known.unread.each node path r at_node (own path m) not_settled)
            (λ scan nodes kept path at_scan m. not_settled (known.unread.scans scan nodes kept path r at_scan (own path m))) known.truth;
        none_gone = known.none_gone;
        unread = record { scans = known.unread.scans; each = known.unread.each };
        ties = ties_now;
        goes_on = known.goes_on;
        records = λ path q e not_began. is.records path (apart e not_began) ∙ known.records path q e (λ m. not_began (there m));
        numbered = numbered_now;
      })

      pub launches : IsAt o Jobs new Later
      launches = record {
        way = way_now;
        knows = λ e. knows_now;
        halted = λ e. not_halted at.halted weighed.goes_on (sym is.goes ∙ e);
        told = is.reports.told;
        well = λ e. at.well (unfaulted old new is.reports e);
      }

  module _ (jobs : List Given) (old new : Standing) (past : List Step) (ended : Ended) (at : IsAt o jobs old past)
      (wait : MayWait o.wanted o.kept o.before old.around past) (Sure : Type 0) (sure : Sure) (ends : Ends Sure ended old.around new.around)
      (is : IsEnded o old new ended) where
    ending : EndsFor o.wanted o.kept o.counts o.before jobs old.around new.around past at.way.log.entries ends.which ended
    ending = ended_for o.wanted o.kept o.counts o.before old.around new.around jobs past ended outset.reading at.way wait Sure sure ends

    abbrev Which : Rule
    Which = ending.rule

    abbrev Behind : List Step
    Behind = model.Ended Which (is_done ended.outcome) ∷ past

    writes_none : Writes [] old.around new.around
    writes_none = record {
      files = λ path free out. ends.files path free;
      stamps = λ path free out. ends.stamps path free;
      running = λ path target.
          inl (subst (λ runs. IsRunningTarget runs path) (sym ends.was)
          (run_before ends.front ends.which ends.back path (subst (λ runs. IsRunningTarget runs path) ends.running target)));
    }

    module _ (k : Knows o old past) (is_told : IsToldEnding old new ended) where
      -- the plan is told of that rule
      ended_number : rule_numbered (begun_at o) old.graph ended.id ≡ Some Which
      ended_number =
          let started = ending.own.started in
          let one = k.numbered at.way.log.entries at.way.log.grown started.job started.counts started.started in
          let place = begun_place o outset jobs old.around past at.way one.stands in
          let target : Among place.0 one.rule.targets = (lawful o outset).makes place.0 one.rule place.1 in
          let mine : Among place.0 Which.targets = among_same (sym one.targets ∙ started.of_rule.targets) target in
          let own_place = begun_place o outset jobs old.around past at.way ending.own.runs.began in
          let same : one.rule ≡ Which = one_rule o outset place.0 place.1 (makes_each o outset own_place.0 own_place.1 place.0 mine) in
          ap (rule_numbered (begun_at o) old.graph) (ends.id ∙ sym started.has_id) ∙ one.numbered ∙ ap Some same

      tells : (well : Bool) → state_of old.plan.states ended.id ≡ Runs →
          Tells (begun_at o) old.graph old.plan (told_by (record { 0 = ended.id }) well) (model.Ended Which well)
      tells true runs = has_ended (record { 0 = ended.id }) Which ended_number runs
      tells false runs = has_failed (record { 0 = ended.id }) Which ended_number runs

      ties_behind : Ties (begun_at o) old.graph o.wanted.requested new.around.tree Behind new.plan
      ties_behind =
          let same = stays_so o.wanted o.kept o.counts o.before old.around new.around jobs [] past
          (model.Ended Which (is_done ended.outcome) ∷ []) outset.reading at.way ending.way in
          let still = changes_keep (begun_at o) old.graph o.wanted.requested old.around.tree new.around.tree past old.plan
          (record { sources = same.sources; made = same.made }) k.ties in
          let runs = running_known (begun_at o) old.graph o.wanted.requested old.around.tree past old.plan ended.id Which k.ties
          ended_number ending.own.runs in
          events_keep (begun_at o) old.graph o.wanted.requested new.around.tree past old.plan new.plan
          k.now still
          (tells (is_done ended.outcome) runs) is_told.step

      unsettled : (well : Bool) (q : Rule) → (Among q (settled (model.Ended Which well ∷ past)) → ⊥) → Among q (settled past) → ⊥
      unsettled true q out m = out (there m)
      unsettled false q out m = out m

      still_settled : (well : Bool) (q : Rule) → Among q (settled past) → Among q (settled (model.Ended Which well ∷ past))
      still_settled true q m = there m
      still_settled false q m = m

      not_over : (well keep : Bool) → (well ≡ false → keep ≡ true) → is_over keep past ≡ false →
          is_over keep (model.Ended Which well ∷ past) ≡ false
      not_over true keep keeps over = over
      not_over false true keeps over = over
      not_over false false keeps over = true_false (sym (keeps refl))

      numbered_behind : AreNumbered o old.graph Behind new.around.log
      numbered_behind entries grown other at_counts m =
          let more = log_more o.before.log old.around.log new.around.log at.way.log.entries entries (Finished ended.id ended.outcome)
          at.way.log.grown ends.log grown in
          by other (among_either at.way.log.entries (among_same more m))
        where
          by : (other : Job) → Among (Started other at_counts) at.way.log.entries ⊎
              Among (Started other at_counts) (Finished ended.id ended.outcome ∷ []) → IsNumbered o old.graph Behind other
          by other (inl n) =
              let one = k.numbered at.way.log.entries at.way.log.grown other at_counts n in
              record { rule = one.rule; numbered = one.numbered; targets = one.targets; stands = one.stands }
          by other (inr (there n)) = elim n [ ]

      knows_behind : (keeps : is_done ended.outcome ≡ false → o.wanted.keep ≡ true) → Knows o new Behind
      knows_behind keeps = subst (λ s. Knows o s Behind) (sym is_told.rest) (record {
        now = k.now;
        truth = true_still (begun_at o) old.graph old.inputs old.around new.around [] writes_none
            (λ path m. none_there m) (λ node path at_node m. none_there m)
            (λ scan nodes kept path at_scan m. none_there m) k.truth;
        none_gone = k.none_gone;
        unread = record {
          scans = λ scan nodes kept path q at_scan e.
              still_settled (is_done ended.outcome) q (k.unread.scans scan nodes kept path q at_scan e);
          each = λ node path q at_node e out. k.unread.each node path q at_node e (unsettled (is_done ended.outcome) q out);
        };
        ties = ties_behind;
        goes_on = not_over (is_done ended.outcome) o.wanted.keep keeps k.goes_on;
        records = λ path q e not_began.
            is_told.records path (unbegun_still o outset jobs old.around past at.way path e not_began) ∙ k.records path q e not_began;
        numbered = numbered_behind;
      })

    knows_then : (was : Bool) → old.ended ≡ was → new.ended ≡ false → Knows o new Behind
    knows_then true e goes_on = true_false (sym (is.stays e) ∙ goes_on)
    knows_then false e goes_on = knows_behind (at.knows e) (is.told goes_on) (λ failed. is.keeps failed goes_on)

    over_more : (well : Bool) → is_over false past ≡ true → is_over false (model.Ended Which well ∷ past) ≡ true
    over_more true over = over
    over_more false over = refl

    well_more : (well : Bool) → (well ≡ false → new.faulted ≡ true) → new.faulted ≡ false → is_over false past ≡ false →
        is_over false (model.Ended Which well ∷ past) ≡ false
    well_more true failed e over = over
    well_more false failed e over = true_false (sym (failed refl) ∙ e)

    pub ends_behind : StandsBehind o jobs new past ended
    ends_behind = record {
      rule = Which;
      stands = record {
        way = ending.way;
        knows = knows_then old.ended refl;
        halted = λ e.
            let was = at.halted (sym is.goes ∙ e) in
            record { ended = is.stays was.ended; over = over_more (is_done ended.outcome) was.over };
        told = is.reports.told;
        well = λ e. well_more (is_done ended.outcome) is.failed e (at.well (unfaulted old new is.reports e));
      };
    }

    -- the job that ended was that of the rule of the step
    pub ended_own : IsOwn o.wanted o.kept o.before old.around jobs past at.way.log.entries ends.which ends_behind.rule
    unfolding ends_behind
    ended_own = ending.own
