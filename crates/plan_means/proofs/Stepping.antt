-- A plan stays tied through each event that is no scan.
use Rattle.std.proofs.Common.{◌≡◌, ◌≢◌, ◌<◌, ◌≤◌, ℕ, zero, suc, Bool, true, false, List, [], ◌∷◌, length, set, Some, None, refl, sym, subst, ap, ◌∙◌, inl, inr, ◌⊎◌, ⊎_elim, arith}
use Rattle.std.specs.Prelude.{slice_get, if◌then◌else◌}
use Rattle.std.specs.List.{list_all}
use Rattle.std.proofs.lemmas.List.{get_or-set_same}
use Rattle.scons_base.specs.declared.ids.NodeId.{NodeId}
use Rattle.rule_graph.specs.Graphs.{RuleGraph, path_of}
use Rattle.rule_graph.specs.Rules.{rule_of}
use Rattle.task_plan.specs.States.{state_of, is_running as is_running_state}
use Rattle.task_plan.specs.Named.{stands}
use Rattle.task_plan.specs.Queues.{is_open}
use Rattle.task_plan.specs.Settled.{Kept, origin_of, is_scanned}
use Rattle.task_plan.specs.Plans.{Planned, IsDecidedNext}
use Rattle.task_plan.specs.Met.{is_met, is_met_from, IsFrom, AreNodes, needs_in, needs_at}
use Rattle.task_plan.specs.declared.files.Origin.{Origin}
use Rattle.task_plan.specs.declared.files.Origin.TheVariants.{Unmet, Source, Made}
use Rattle.task_plan.specs.declared.states.RuleState.{RuleState}
use Rattle.task_plan.specs.declared.states.RuleState.TheVariants.{Unneeded, Waiting, Running, Settled, Failed, Lacking}
use Rattle.task_plan.specs.declared.want.PlanEvent.{PlanEvent}
use Rattle.task_plan.specs.declared.want.PlanEvent.TheVariants as told
use Rattle.task_plan.proofs.MarkLemmas.{apart}
use Rattle.task_plan.proofs.PlanLemmas.{set_other}
use Rattle.task_plan.proofs.AdmitLemmas.{waits_needed}
use Rattle.task_plan.proofs.WalkLemmas.{within_or}
use Rattle.build_model.specs.Rules.{Tree, Rule, Among, here, there}
use Rattle.build_model.specs.Graphs.{rule_at}
use Rattle.build_model.specs.Steps.{Step, Fresh, Began, Ended, Lacks, Halts, began, done, IsRunning}
use Rattle.build_model.specs.Resting.{IsFaulty, has_failed as failed_there, lacks_one as lacks_there}
use Rattle.build_model.proofs.Lists.{true_false, none_some, some_same}
use Rattle.build_model.proofs.Ready.{ready_more}
use Rattle.build_model.proofs.Runs.{settled_later}
use Rattle.build_means.specs.Grown.{Begun, begun_graph, rule_numbered}
use Rattle.plan_means.specs.Planning.{IsGraphNow, IsPlanFor, IsStep}
use Rattle.plan_means.specs.Ties.{IsNew, IsAt, IsSeen, Sees, IsDecidedState, Ties}
use Rattle.plan_means.specs.Stepping.{Tells, is_fresh, has_begun, lacks_one, has_ended, has_failed, has_halted}
use Rattle.plan_means.proofs.Single.{one_number}
use Rattle.plan_means.proofs.Knowing.{knows, needed_met}

-- which rule a step is about
abbrev pub IsOf : Step → Rule → Type 0
IsOf (Fresh r) x = x ≡ r
IsOf (Began r) x = x ≡ r
IsOf (Ended r well) x = x ≡ r
IsOf (Lacks r p) x = x ≡ r
IsOf Halts x = ⊥

or_before : {r x : Rule} {rules : List Rule} → Among x (r ∷ rules) → (x ≡ r) ⊎ Among x rules
or_before here = inl refl
or_before (there m) = inr m

-- what began or is done after a step began or was done before, or is the step's own rule
began_or : (step : Step) (past : List Step) {x : Rule} → Among x (began (step ∷ past)) →
    IsOf step x ⊎ Among x (began past)
began_or (Fresh r) past m = inr m
began_or (Began r) past m = or_before m
began_or (Ended r well) past m = inr m
began_or (Lacks r p) past m = inr m
began_or Halts past m = inr m

done_or : (step : Step) (past : List Step) {x : Rule} → Among x (done (step ∷ past)) → IsOf step x ⊎ Among x (done past)
done_or (Fresh r) past m = or_before m
done_or (Began r) past m = inr m
done_or (Ended r well) past m = or_before m
done_or (Lacks r p) past m = or_before m
done_or Halts past m = inr m

began_stays : (step : Step) (past : List Step) {x : Rule} → Among x (began past) → Among x (began (step ∷ past))
began_stays (Fresh r) past m = m
began_stays (Began r) past m = there m
began_stays (Ended r well) past m = m
began_stays (Lacks r p) past m = m
began_stays Halts past m = m

faulty_stays : (step : Step) (past : List Step) {x : Rule} → IsFaulty past x → IsFaulty (step ∷ past) x
faulty_stays step past (failed_there m) = failed_there (there m)
faulty_stays step past (lacks_there p m) = lacks_there p (there m)

outside : {A : Type 0} {B : Type 0} → (A → ⊥) → A ⊎ B → B
outside other (inl a) = absurd (other a)
outside other (inr x) = x

new_stays : (step : Step) (past : List Step) (x : Rule) → (IsOf step x → ⊥) → IsNew past x → IsNew (step ∷ past) x
new_stays step past x other new = record {
  not_began = λ m. new.not_began (outside other (began_or step past m));
  not_done = λ m. new.not_done (outside other (done_or step past m));
}

-- how far another rule is stays
pub at_stays : (step : Step) (past : List Step) (x : Rule) (o : RuleState) → (IsOf step x → ⊥) → IsAt past x o →
    IsAt (step ∷ past) x o
at_stays step past x Unneeded other at = new_stays step past x other at
at_stays step past x Waiting other at = new_stays step past x other at
at_stays step past x Running other at =
    record { began = began_stays step past at.began; not_done = λ m. at.not_done (outside other (done_or step past m)) }
at_stays step past x Settled other at = settled_later step past x at
at_stays step past x Failed other at = faulty_stays step past at
at_stays step past x Lacking other at = faulty_stays step past at

past_state : (states : List RuleState) (number : ℕ) → length states ≤ number → state_of states number ≡ Unneeded
past_state [] number le = refl
past_state (o ∷ states) zero le = absurd (omega arith)
past_state (o ∷ states) (suc number) le = past_state states number (omega arith)

within_state : (states : List RuleState) (number : ℕ) → state_of states number ≢ Unneeded →
    (number < length states) ⊎ (length states ≤ number) → number < length states
within_state states number needed (inl lt) = lt
within_state states number needed (inr le) = absurd (needed (past_state states number le))

-- What an event changes of a plan, and its step of what is so of rules: the states of the event's own rule alone.
pub record Moves (b : Begun) (g : RuleGraph) (past : List Step) (old new : Planned) (step : Step)
    (Own : ℕ → Type 0) : Type 0 where
  pub own_or : (number : ℕ) → Own number ⊎ (Own number → ⊥)
  pub rules : new.rules ≡ old.rules
  pub others : (number : ℕ) → (Own number → ⊥) → state_of new.states number ≡ state_of old.states number
  pub needed : (number : ℕ) → Own number → state_of old.states number ≢ Unneeded
  pub scanned : (number : ℕ) (kept : Kept) → Own number → slice_get old.rules number ≡ Some kept →
      list_all (λ n. is_scanned kept.found n) kept.files ≡ true
  pub at : (number : ℕ) (r : Rule) → Own number → rule_numbered b g number ≡ Some r →
      IsAt (step ∷ past) r (state_of new.states number)
  pub apart : (number : ℕ) (r : Rule) → (Own number → ⊥) → rule_numbered b g number ≡ Some r → IsOf step r → ⊥
  pub numbered : (x : Rule) → IsOf step x → (number : ℕ) × (rule_numbered b g number ≡ Some x)

module _ (b : Begun) (g : RuleGraph) (requested : List NodeId) (t : Tree) (past : List Step) (old new : Planned)
    (event : PlanEvent) (step : Step)
    (now : IsGraphNow b g) (ties : Ties b g requested t past old) (is : IsStep g old event new)
    (nodes : AreNodes g event) (Own : ℕ → Type 0) (moves : Moves b g past old new step Own) where
  plan_stays : IsPlanFor g requested new
  plan_stays =
      let p = ties.plan_for in
      record {
        fits = is.fits p.fits;
        follow = is.follow;
        from = is.origins p.from;
        met = is.needs nodes p.fits p.met;
        reached = is.only nodes p.fits p.from p.met p.reached;
        sought = (is.sought nodes p.fits p.from p.met p.reached).each requested p.sought;
        complete = is.complete nodes p.fits p.from p.met p.reached p.complete;
        order = is.order nodes p.fits p.from p.met p.order;
        roots = is.roots ∙ p.roots;
        nodes = p.nodes;
      }

  needed_before_by : (number : ℕ) → Own number ⊎ (Own number → ⊥) → state_of new.states number ≢ Unneeded →
      state_of old.states number ≢ Unneeded
  needed_before_by number (inl own) needed = moves.needed number own
  needed_before_by number (inr other) needed = λ e. needed (moves.others number other ∙ e)

  needed_before : (number : ℕ) → state_of new.states number ≢ Unneeded → state_of old.states number ≢ Unneeded
  needed_before number needed = needed_before_by number (moves.own_or number) needed

  kept_before : (number : ℕ) (kept : Kept) → slice_get new.rules number ≡ Some kept →
      slice_get old.rules number ≡ Some kept
  kept_before number kept at = ap (λ rules. slice_get rules number) (sym moves.rules) ∙ at

  seen_stays : (r : Rule) (kept : Kept) (file : NodeId) → IsSeen b g t past r kept file →
      IsSeen b g t (step ∷ past) r kept file
  seen_stays r kept file seen = record {
    ready = ⊎_elim (λ h. inl (ready_more (settled_later step past) h)) (λ h. inr h) seen.ready;
    includes = seen.includes;
  }

  sees_stays : Sees b g t (step ∷ past) new
  sees_stays = record {
    each = λ number kept r needed at numbered file h.
        seen_stays r kept file (ties.sees.each number kept r (needed_before number needed)
        (kept_before number kept at) numbered file h);
    files = λ number kept needed at file h. ties.sees.files number kept (needed_before number needed)
        (kept_before number kept at) file h;
    nodes = λ number kept needed at file. ties.sees.nodes number kept (needed_before number needed)
        (kept_before number kept at) file;
  }

  scanned_by : (number : ℕ) (kept : Kept) → Own number ⊎ (Own number → ⊥) →
      IsDecidedState (state_of new.states number) → slice_get old.rules number ≡ Some kept →
      list_all (λ n. is_scanned kept.found n) kept.files ≡ true
  scanned_by number kept (inl own) decided at = moves.scanned number kept own at
  scanned_by number kept (inr other) decided at = ties.scanned number kept
      (subst IsDecidedState (moves.others number other) decided) at

  source_by : (number : ℕ) (n : NodeId) (o : Origin) → state_of old.states number ≢ Unneeded →
      stands (needs_at old.rules number) n ≡ true → origin_of old.origins n.0 ≡ o →
      IsFrom g old.states n.0 o → is_met_from o ≡ true → rule_of g.rules n.0 ≡ None →
      rule_at (begun_graph b) b.tree (path_of g.nodes n) ≡ None
  source_by number n Unmet needed need e from met none = true_false (sym met)
  source_by number n Source needed need e from met none = ties.sources number n needed need e
  source_by number n (Made m) needed need e from met none = none_some (sym none ∙ from.0)

  need_was_met : (number : ℕ) (needed : state_of old.states number ≢ Unneeded) (n : NodeId) →
      stands (needs_at old.rules number) n ≡ true → is_met old.origins n ≡ true
  need_was_met number needed n h =
      needed_met b g requested t past old now ties number needed n
      (ap (λ o. stands (needs_in o) n) (sym (knows b g requested t past old now ties number needed).at) ∙ h)

  no_rule : (n : NodeId) → origin_of new.origins n.0 ≡ Source → rule_of g.rules n.0 ≡ None
  no_rule n e = subst (λ (o : Origin). IsFrom g new.states n.0 o) e (plan_stays.from.each n.0)

  sources_stay : (number : ℕ) (n : NodeId) → state_of new.states number ≢ Unneeded →
      stands (needs_at new.rules number) n ≡ true → origin_of new.origins n.0 ≡ Source →
      rule_at (begun_graph b) b.tree (path_of g.nodes n) ≡ None
  sources_stay number n needed need e =
      let before = needed_before number needed in
      let was : stands (needs_at old.rules number) n ≡ true = ap (λ rules. stands (needs_at rules number) n)
      (sym moves.rules) ∙ need in
      source_by number n (origin_of old.origins n.0) before was refl (ties.plan_for.from.each n.0)
      (need_was_met number before n was) (no_rule n e)

  at_by : (number : ℕ) (r : Rule) → Own number ⊎ (Own number → ⊥) → rule_numbered b g number ≡ Some r →
      IsAt (step ∷ past) r (state_of new.states number)
  at_by number r (inl own) numbered = moves.at number r own numbered
  at_by number r (inr other) numbered =
      subst (λ (o : RuleState). IsAt (step ∷ past) r o) (sym (moves.others number other))
      (at_stays step past r (state_of old.states number) (moves.apart number r other numbered)
      (ties.states number r numbered))

  numbered_by : (x : Rule) → Among x (began (step ∷ past)) ⊎ Among x (done (step ∷ past)) →
      (number : ℕ) × (rule_numbered b g number ≡ Some x)
  numbered_by x (inl m) = ⊎_elim (λ own. moves.numbered x own) (λ n. ties.numbered x (inl n)) (began_or step past m)
  numbered_by x (inr m) = ⊎_elim (λ own. moves.numbered x own) (λ n. ties.numbered x (inr n)) (done_or step past m)

  stays_tied : Ties b g requested t (step ∷ past) new
  stays_tied = record {
    plan_for = plan_stays;
    sees = sees_stays;
    scanned = λ number kept decided at. scanned_by number kept (moves.own_or number) decided
        (kept_before number kept at);
    sources = sources_stay;
    asked = ties.asked;
    states = λ number r numbered. at_by number r (moves.own_or number) numbered;
    numbered = numbered_by;
  }

-- the state of one rule is set
module _ (b : Begun) (g : RuleGraph) (requested : List NodeId) (t : Tree) (past : List Step) (old new : Planned)
    (step : Step) (now : IsGraphNow b g)
    (ties : Ties b g requested t past old) (rule : ℕ) (r : Rule) (numbered : rule_numbered b g rule ≡ Some r)
    (v : RuleState) (is_of : (x : Rule) → IsOf step x → x ≡ r)
    (states : new.states ≡ set old.states rule v) (rules : new.rules ≡ old.rules)
    (needed : state_of old.states rule ≢ Unneeded)
    (scanned : (kept : Kept) → slice_get old.rules rule ≡ Some kept → list_all (λ n. is_scanned kept.found n)
    kept.files ≡ true) (at : IsAt (step ∷ past) r v) where
  this_state : state_of new.states rule ≡ v
  this_state =
      ap (λ s. state_of s rule) states
      ∙ get_or-set_same old.states rule v Unneeded (within_state old.states rule needed
      (within_or rule (length old.states)))

  own_at : (number : ℕ) (x : Rule) → number ≡ rule → rule_numbered b g number ≡ Some x →
      IsAt (step ∷ past) x (state_of new.states number)
  own_at number x same is =
      let rule_same : r ≡ x = some_same (sym numbered ∙ ap (rule_numbered b g) (sym same) ∙ is) in
      subst (λ (o : RuleState). IsAt (step ∷ past) x o) (sym (ap (state_of new.states) same ∙ this_state))
      (subst (λ (y : Rule). IsAt (step ∷ past) y v) rule_same at)

  moves_one : Moves b g past old new step (λ number. number ≡ rule)
  moves_one = record {
    own_or = λ number. apart number rule;
    rules = rules;
    others = λ number other. ap (λ s. state_of s number) states ∙ set_other old.states rule number v other;
    needed = λ number same e. needed (ap (state_of old.states) (sym same) ∙ e);
    scanned = λ number kept same k. scanned kept (ap (slice_get old.rules) (sym same) ∙ k);
    at = own_at;
    apart =
        λ number x other is own. other (one_number b g now number rule x is (numbered ∙ ap Some (sym (is_of x own))));
    numbered = λ x own. (rule, numbered ∙ ap Some (sym (is_of x own)));
  }

if_open : {A : Type 0} (c : Bool) (x y : A) → c ≡ true → (if c then x else y) ≡ x
if_open c x y e = ap (λ d. if d then x else y) e

running_needed : (o : RuleState) → is_running_state o ≡ true → o ≢ Unneeded
running_needed o h e = true_false (sym h ∙ ap is_running_state e)

module _ (b : Begun) (g : RuleGraph) (requested : List NodeId) (t : Tree) (past : List Step) (old new : Planned)
    (now : IsGraphNow b g) (ties : Ties b g requested t past old) where
  decided_scanned : (rule : ℕ) → IsDecidedNext old rule → (kept : Kept) → slice_get old.rules rule ≡ Some kept →
      list_all (λ n. is_scanned kept.found n) kept.files ≡ true
  decided_scanned rule next kept at =
      subst (λ (k : Kept). list_all (λ n. is_scanned k.found n) k.files ≡ true) (some_same (sym next.can.at ∙ at))
      next.can.ready.scanned

  running_scanned : (rule : ℕ) → state_of old.states rule ≡ Running → (kept : Kept) →
      slice_get old.rules rule ≡ Some kept → list_all (λ n. is_scanned kept.found n) kept.files ≡ true
  running_scanned rule runs kept at = ties.scanned rule kept (subst IsDecidedState (sym runs) tt) at

  runs_true : (rule : ℕ) → state_of old.states rule ≡ Running → is_running_state (state_of old.states rule) ≡ true
  runs_true rule runs = ap is_running_state runs

  new_at : (rule : ℕ) (r : Rule) → rule_numbered b g rule ≡ Some r → IsDecidedNext old rule → IsNew past r
  new_at rule r numbered next = subst (λ (o : RuleState). IsAt past r o) next.can.waits (ties.states rule r numbered)

  begun_at : (r : Rule) → IsNew past r → IsRunning (Began r ∷ past) r
  begun_at r new_rule = record { began = here; not_done = new_rule.not_done }

  moves_halt : new.states ≡ old.states → new.rules ≡ old.rules → Moves b g past old new Halts (λ number. ⊥)
  moves_halt states rules = record {
    own_or = λ number. inr (λ own. own);
    rules = rules;
    others = λ number other. ap (λ s. state_of s number) states;
    needed = λ number own. absurd own;
    scanned = λ number kept own at. absurd own;
    at = λ number x own is. absurd own;
    apart = λ number x other is own. own;
    numbered = λ x own. absurd own;
  }

  pub events_keep : {event : PlanEvent} {step : Step} → Tells b g old event step → IsStep g old event new →
      Ties b g requested t (step ∷ past) new
  events_keep (is_fresh rule r numbered next) is =
      stays_tied b g requested t past old new (told.Fresh rule) (Fresh r) now ties is tt (λ number. number ≡ rule.0)
      (moves_one b g requested t past old new (Fresh r) now ties rule.0 r numbered Settled (λ x e. e)
      (is.states ∙ if_open (is_open old.queue rule.0) _ _ next.first.opened) is.knows
      (waits_needed g old rule.0 next.can.waits) (decided_scanned rule.0 next) here)
  events_keep (has_begun rule r numbered next) is =
      stays_tied b g requested t past old new (told.Started rule) (Began r) now ties is tt (λ number. number ≡ rule.0)
      (moves_one b g requested t past old new (Began r) now ties rule.0 r numbered Running (λ x e. e)
      (is.states ∙ if_open (is_open old.queue rule.0) _ _ next.first.opened) is.knows
      (waits_needed g old rule.0 next.can.waits) (decided_scanned rule.0 next)
      (begun_at r (new_at rule.0 r numbered next)))
  events_keep (lacks_one rule node r p numbered next) is =
      stays_tied b g requested t past old new (told.Absent rule node) (Lacks r p) now ties is tt
      (λ number. number ≡ rule.0)
      (moves_one b g requested t past old new (Lacks r p) now ties rule.0 r numbered Lacking (λ x e. e)
      (is.states ∙ if_open (is_open old.queue rule.0) _ _ next.first.opened) is.knows
      (waits_needed g old rule.0 next.can.waits) (decided_scanned rule.0 next)
      (lacks_there p here))
  events_keep (has_ended rule r numbered runs) is =
      stays_tied b g requested t past old new (told.DoneOk rule) (Ended r true) now ties is tt
      (λ number. number ≡ rule.0)
      (moves_one b g requested t past old new (Ended r true) now ties rule.0 r numbered Settled (λ x e. e)
      (is.states ∙ if_open (is_running_state (state_of old.states rule.0)) _ _ (runs_true rule.0 runs)) is.knows
      (running_needed (state_of old.states rule.0) (runs_true rule.0 runs)) (running_scanned rule.0 runs) here)
  events_keep (has_failed rule r numbered runs) is =
      stays_tied b g requested t past old new (told.DoneFailed rule) (Ended r false) now ties is tt
      (λ number. number ≡ rule.0)
      (moves_one b g requested t past old new (Ended r false) now ties rule.0 r numbered Failed (λ x e. e)
      (is.states ∙ if_open (is_running_state (state_of old.states rule.0)) _ _ (runs_true rule.0 runs)) is.knows
      (running_needed (state_of old.states rule.0) (runs_true rule.0 runs)) (running_scanned rule.0 runs)
      (failed_there here))
  events_keep has_halted is =
      stays_tied b g requested t past old new told.Halt Halts now ties is tt (λ number. ⊥)
      (moves_halt is.states is.knows)
