-- How a build comes to its end: where nothing runs no rule of its plan does, and where nothing is to be reported it succeeded.
use Rattle.std.proofs.Common.{◌≡◌, ◌∙◌, ◌+◌, ℕ, zero, suc, false, cond, List, [], ◌∷◌, Contains, length, count_by, refl, sym, subst, ap, arith}
use Rattle.std.proofs.lemmas.List.Sums.{sum_by-cons}
use Rattle.world_api.specs.Counts.{Counts}
use Rattle.world_api.specs.Meaning.{Meaning}
use Rattle.sign_store.specs.Putting.{map_with}
use Rattle.sign_store.specs.Stores.{map_of}
use Rattle.sign_store.specs.Tables.{Map}
use Rattle.task_plan.specs.States.{state_of, is_running}
use Rattle.task_plan.specs.Watched.{IsFinished, IsStill}
use Rattle.task_plan.specs.declared.states.RuleState.{RuleState}
use Rattle.task_plan.specs.declared.states.RuleState.TheVariants.{Unneeded, Waiting, Running, Settled, Failed, Lacking}
use Rattle.build_model.specs.Rules.{Rule, Setting, Among}
use Rattle.build_model.specs.Moments.{Job as Given}
use Rattle.build_model.specs.Resting.{whole_found}
use Rattle.build_model.specs.Steps.{Step, Build, running, IsRunning, IsRun}
use Rattle.build_model.proofs.Lists.{true_false}
use Rattle.build_means.specs.Builds.{Rests}
use Rattle.run_means.proofs.Keeping.{none_there}
use Rattle.build_means.specs.Logs.{AreUnrisen}
use Rattle.plan_means.specs.Deciding.{IsTied}
use Rattle.plan_means.specs.Ties.{IsAt as IsAtState}
use Rattle.plan_means.proofs.Deciding.{know}
use Rattle.plan_means.proofs.Resting.{is_at_rest}
use Rattle.turn_means.specs.Laws.{FinishedSucceed}
use Rattle.turn_means.specs.Recording.{AreRecorded, build_at}
use Rattle.turn_means.proofs.Recording.{begins}
use Rattle.sign_store.specs.declared.store.Store.{Store}
use Rattle.build_run.specs.Books.{book_of}
use Rattle.turn_means.specs.Standing.{Outset, IsOutset, begun_at, setting_at, Standing, Knows, IsAt}
use Rattle.turn_means.proofs.Deciding.{tied}
use Rattle.build_model.proofs.OneJob.{all_running}
use Rattle.turn_means.proofs.Ends.{runs, goes_on}
use Rattle.turn_means.proofs.Turns.{sets_out}
use Rattle.build_run.specs.Along.{is_faulted, standing_of, HeldBegan, IsAlong, IsAtEnd, IsOn, KeepsEnds}
use Rattle.build_run.specs.Holds.{Busy}
use Rattle.build_run.specs.Outsets.{FinishesWell, HasEndedWell, HasMade, IsReadyFor}
use Rattle.build_run.specs.declared.account.Account.{Account}
use Rattle.build_run.specs.declared.site.Site.{Site}
use Rattle.build_run.proofs.EndingOn.{not_before}

-- ---- where no job runs no rule does

none_in : (rules : List Rule) (r : Rule) → length rules ≡ 0 → Among r rules → ⊥
none_in [] r short m = elim m [ ]
none_in (x ∷ rules) r short m = absurd (omega arith)

module _ (s : Setting) (b : Build) where
  none_runs : (past : List Step) → IsRun s b past → running past ≡ 0 → (r : Rule) → IsRunning past r → ⊥
  none_runs past run none r h = let a = all_running s b past run in none_in a.rules r (a.counts ∙ none) (a.all r h)

none_more : (n : ℕ) → n ≡ 0 → 0 + n ≡ 0
none_more n e = omega (arith, e)

count_first : (state : RuleState) (n : ℕ) → (state ≡ Running → ⊥) → n ≡ 0 → cond (is_running state) 1 0 + n ≡ 0
count_first Unneeded n none e = none_more n e
count_first Waiting n none e = none_more n e
count_first Running n none e = absurd (none refl)
count_first Settled n none e = none_more n e
count_first Failed n none e = none_more n e
count_first Lacking n none e = none_more n e

count_none : (states : List RuleState) → ((number : ℕ) → state_of states number ≡ Running → ⊥) → count_by is_running states ≡ 0
count_none [] none = refl
count_none (state ∷ states) none =
    sum_by-cons (λ x. cond (is_running x) 1 0) state states
    ∙ count_first state (count_by is_running states) (none zero) (count_none states (λ number. none (suc number)))

module _ (o : Outset) (outset : IsOutset o) (jobs : List Given) (s : Standing) (past : List Step) (at : IsAt o jobs s past)
    (not_ended : s.ended ≡ false) (rest : s.around.running ≡ []) where
  known : Knows o s past
  known = at.knows not_ended

  pub its : IsTied (begun_at o) s.graph o.wanted.requested (build_at o s.around) past s.plan
  its = tied o outset jobs s past at.way known

  not_running : (number : ℕ) → state_of s.plan.states number ≡ Running → ⊥
  not_running number e =
      let k = know (begun_at o) s.graph o.wanted.requested (build_at o s.around) past s.plan its number (λ none. cc (sym e ∙ none)) in
      none_runs (setting_at o) (build_at o s.around) past its.run (at.way.count ∙ ap length rest) k.rule
      (subst (λ x. IsAtState past k.rule x) e (known.ties.states number k.rule k.numbered))

  count_is_none : count_by is_running s.plan.states ≡ 0
  count_is_none = count_none s.plan.states not_running

-- ---- what a build did

-- nothing is held
put_none : {W O E : Type 0} (site : Site W O E) (held : List Busy) → held ≡ [] → map_with site.store.now held ≡ map_of site.store.now
put_none site held none = ap (λ (busies : List Busy). map_with site.store.now busies) none

module _ {W O E : Type 0} (m : Meaning W) (o : Outset) (outset : IsOutset o) (mid : Site W O E) (after : Account)
    (there : IsAtEnd m o mid) (rest : (m.around mid.world.now).running ≡ [])
    (still : mid.run.now.plan.halted ≡ false → IsStill mid.run.now.plan)
    (ends : KeepsEnds mid.account.now after) (finishes : FinishesWell mid.graph.now mid.run.now.plan mid.account.now after)
    (law : FinishedSucceed) (none : mid.run.now.held ≡ []) (shut : after.is_store_shut ≡ mid.account.now.is_store_shut) (behind : Map)
    (same : behind ≡ map_of mid.store.now) where
  abbrev s : Standing
  s = standing_of m mid

  abbrev on : IsOn o (book_of mid) s
  on = there.on

  -- by these steps
  recorded : (steps : List Step) → steps ≡ on.past → after.is_store_shut ≡ false → AreRecorded o (m.around mid.world.now) steps behind
  recorded steps are unshut =
      subst (λ (l : List Step). AreRecorded o (m.around mid.world.now) l behind) (sym are)
      (subst (λ (kept : Map). AreRecorded o (m.around mid.world.now) on.past kept) (put_none mid mid.run.now.held none ∙ sym same)
      (on.booked (sym shut ∙ unshut)).records)

  module _ (not_ended : mid.account.now.is_ended ≡ false) where
    no_halt : mid.run.now.plan.halted ≡ false
    no_halt = not_before mid.run.now.plan.halted mid.account.now.is_ended (λ e. (on.at.halted e).ended) not_ended

    pub at_last : IsStill mid.run.now.plan
    at_last = still no_halt

    pub none_counts : count_by is_running mid.run.now.plan.states ≡ 0
    none_counts = count_is_none o outset on.jobs s on.past on.at not_ended rest

    comes_to_rest : Rests o.wanted o.kept o.before s.around on.past
    comes_to_rest =
        record {
          found = whole_found (setting_at o) (build_at o s.around) on.past;
          at_rest = is_at_rest (begun_at o) s.graph o.wanted.requested (build_at o s.around) on.past s.plan
              (its o outset on.jobs s on.past on.at not_ended rest) at_last none_counts;
        }

  module _ (well : is_faulted after ≡ false) where
    unfaulted : is_faulted mid.account.now ≡ false
    unfaulted = not_before (is_faulted mid.account.now) (is_faulted after) ends.faulted well

    goes : mid.account.now.is_ended ≡ false
    goes = not_before mid.account.now.is_ended (is_faulted mid.account.now) on.at.told unfaulted

    finished : IsFinished mid.run.now.plan
    finished =
        let plan = (on.at.knows goes).ties.plan_for in
        finishes on.at.told well (at_last goes)
        (goes_on o outset on.jobs s on.past on.at unfaulted (none_counts goes)) plan.met plan.from plan.fits

    ended_well : HasEndedWell o (m.around mid.world.now) behind
    ended_well =
        let by = law o on.jobs s on.past outset on.at unfaulted (at_last goes).scans finished in
        record { succeeded = by.0; records = recorded by.0.runs.steps by.1 (shut ∙ there.unshut goes) }

  pub has_made : HasMade o (m.around mid.world.now) after behind
  has_made =
      let ran = runs o outset on.jobs s on.past on.at in
      record {
        runs = ran.0;
        records = recorded ran.0.steps ran.1;
        rests = λ e.
            subst (λ (l : List Step). Rests o.wanted o.kept o.before s.around l) (sym ran.1)
            (comes_to_rest (not_before mid.account.now.is_ended after.is_ended ends.ended e));
        unshut = λ e. shut ∙ there.unshut (not_before mid.account.now.is_ended after.is_ended ends.ended e);
        told = ends.told on.at.told;
        met = on.at.way.met;
        succeeds = ended_well;
      }

  -- by the steps at which it stood
  pub made_steps : has_made.runs.steps ≡ on.past
  unfolding has_made
  made_steps = (runs o outset on.jobs s on.past on.at).1

-- ---- as it begins

none_began : (o : Outset) (held : List Busy) → held ≡ [] → HeldBegan o [] held
none_began o held none = subst (λ (busies : List Busy). HeldBegan o [] busies) (sym none) (λ busy path h among. none_there h)

module _ {W O E : Type 0} (m : Meaning W) (o : Outset) (site : Site W O E)
    (ready : IsReadyFor m o site.graph.now site.run.now site.store.now site.world.now site.account.now site.options)
    (none : site.run.now.held ≡ []) (idle : site.run.now.tickets ≡ []) where
  first_at : IsAt o [] (standing_of m site) []
  first_at =
      let set = ready.sets.set in
      sets_out o ready.outset (standing_of m site) (record {
        none_runs = set.none_runs;
        around = set.around;
        now = set.now;
        truth = set.truth;
        none_gone = set.none_gone;
        unread = set.unread;
        unscanned = set.unscanned;
        below = set.below;
        looked = set.looked;
        loaded = set.loaded;
        records = λ path. ap (λ (map : Map). map path) (put_none site site.run.now.held none ∙ sym ready.kept);
        goes_on = ready.blank.ended;
      })

  unrisen : AreUnrisen o.wanted.keep o.counts (m.counts site.world.now)
  unrisen = subst (λ (counts : Counts). AreUnrisen o.wanted.keep o.counts counts) ready.counts
      (record { disk = refl; tree = refl; start = refl; action = λ stops. refl })

  pub first_along : IsAlong m o site
  first_along = record {
    on = record {
      jobs = [];
      past = [];
      at = first_at;
      began = none_began o site.run.now.held none;
      booked = λ e. record {
        records = subst (λ (kept : Map). AreRecorded o (m.around site.world.now) [] kept)
            (sym (put_none site site.run.now.held none ∙ sym ready.kept)) (begins o (m.around site.world.now));
        each = λ busy h. none_there (subst (λ (all : List Busy). Contains all busy) idle h);
      };
    };
    asked = ready.asked;
    well = λ e. record { unrisen = unrisen; unshut = ready.blank.unshut; looked = ready.sets.looked };
    halted = λ e. true_false (sym e ∙ ready.blank.ended);
  }

-- ---- what was lent

module _ {W O E : Type 0} (m : Meaning W) (last : Site W O E) where
  pub made_given : (o : Outset) (now world : W) (account : Account) (store : Store) → last.world.now ≡ world →
      last.account.now ≡ account → last.store.now ≡ store → last.world.now ≡ now →
      (m.tells now → m.sure now → HasMade o (m.around now) last.account.now (map_of last.store.now)) →
      m.tells world → m.sure world → HasMade o (m.around world) account (map_of store)
  made_given o now world account store lent lent_account lent_store same made =
      subst (λ (w : W). m.tells w → m.sure w → HasMade o (m.around w) account (map_of store)) (sym same ∙ lent)
      (λ tells sure.
      subst (λ (kept : Store). HasMade o (m.around now) account (map_of kept)) lent_store
      (subst (λ (a : Account). HasMade o (m.around now) a (map_of last.store.now)) lent_account (made tells sure)))
