-- That what was noted of rules at fault is so still.
use Rattle.std.proofs.Common.{◌≡◌, ◌∙◌, ◌⊎◌, inl, inr, ⊎_elim, ap, sym, subst, refl, ℕ, zero, suc, List, [], ◌∷◌, ◌++◌, Option, Some, None, Bool, true, false, ◌||◌, set, arith}
use Rattle.std.specs.Prelude.{nat_eq, slice_get, if◌then◌else◌, Result, Ok, Err}
use Rattle.std.proofs.lemmas.Bool.Decides.{nat_tests}
use Rattle.std.specs.Option.{option_and_then}
use Rattle.std.proofs.lemmas.Option.{none-some}
use Rattle.std.proofs.lemmas.List.Elements.{Contains-append_left, Contains-push}
use Rattle.std.proofs.lemmas.List.Folds.{list_any-append}
use Rattle.scons_base.specs.declared.ids.NodeId.{NodeId}
use Rattle.scons_base.specs.declared.ids.RuleId.{RuleId}
use Rattle.rule_graph.specs.declared.rule.Rule as declared
use Rattle.rule_graph.specs.Graphs.{RuleGraph}
use Rattle.rule_graph.specs.declared.build_fault.BuildFault.{BuildFault}
use Rattle.task_plan.specs.Orders.{is_among}
use Rattle.task_plan.specs.Plans.{Planned, Goes}
use Rattle.task_plan.specs.Queues.{is_open}
use Rattle.task_plan.specs.States.{is_faulty, is_running, state_of}
use Rattle.task_plan.specs.declared.states.RuleState.{RuleState}
use Rattle.task_plan.specs.declared.states.RuleState.TheVariants.{Unneeded, Waiting, Running, Settled, Failed, Lacking}
use Rattle.task_plan.specs.declared.want.PlanEvent.{PlanEvent}
use Rattle.task_plan.specs.declared.want.PlanEvent.TheVariants as told
use Rattle.build_model.specs.Rules.{Path}
use Rattle.build_model.proofs.Lists.{true_false}
use Rattle.build_means.proofs.Lists.{or_first, or_second}
use Rattle.task_plan.proofs.ListLemmas.{get-front}
use Rattle.build_files.specs.Firsts.{first_target_of}
use Rattle.build_files.specs.Searched.{GrowsTo}
use Rattle.build_files.specs.declared.end.ListEnd.{ListEnd}
use Rattle.build_run.specs.Along.{StepsOr, Tells}
use Rattle.build_run.specs.Noted.{IsOfRule, IsKept, IsNoted, IsKeptIn, IsNotedIn, KeepsNoted, NotesEvent, NotesDone, AreNotedBy, SiteKeepsNoted, SiteStaysNoting}
use Rattle.build_run.specs.declared.account.Account.{Account}
use Rattle.build_run.specs.declared.site.Site.{Site}

-- ---- faults and rules that are kept

-- behind an end all is so
pub noted_over : (new : Account) → new.is_ended ≡ true → (g : RuleGraph) (rule : ℕ) → IsNotedIn g new rule
noted_over new e g rule = IsNoted.over e

pub kept_over : (new : Account) → new.is_ended ≡ true → (f : BuildFault) → IsKeptIn new f
kept_over new e f = IsKept.over e

-- a fault more
pub kept_more : (ended : Bool) (faults : List BuildFault) (f more : BuildFault) → IsKept ended faults f → IsKept ended (faults ++ more ∷ []) f
kept_more ended faults f more (IsKept.over e) = IsKept.over e
kept_more ended faults f more (IsKept.stands h) = IsKept.stands (Contains-append_left faults (more ∷ []) f h)

pub kept_now : (ended : Bool) (faults : List BuildFault) (f : BuildFault) → IsKept ended (faults ++ f ∷ []) f
kept_now ended faults f = IsKept.stands (Contains-push faults f)

pub noted_more : (g : RuleGraph) (ended : Bool) (noted : List RuleId) (faults : List BuildFault) (more : BuildFault) (rule : ℕ) → IsNoted g ended noted faults rule →
    IsNoted g ended noted (faults ++ more ∷ []) rule
noted_more g ended noted faults more rule (IsNoted.over e) = IsNoted.over e
noted_more g ended noted faults more rule (IsNoted.stands path named among any) =
    IsNoted.stands path named among (any.0, Contains-append_left faults (more ∷ []) any.0 any.1, any.2)

-- among some rules, and among further ones
pub among_front : (rules more : List RuleId) (rule : ℕ) → is_among rule rules ≡ true → is_among rule (rules ++ more) ≡ true
among_front rules more rule h = list_any-append (λ r. nat_eq r.0 rule) rules more ∙ or_first (is_among rule rules) (is_among rule more) h

pub among_back : (rules more : List RuleId) (rule : ℕ) → is_among rule more ≡ true → is_among rule (rules ++ more) ≡ true
among_back rules more rule h = list_any-append (λ r. nat_eq r.0 rule) rules more ∙ or_second (is_among rule rules) (is_among rule more) h

among_now : (noted : List RuleId) (rule : RuleId) → is_among rule.0 (noted ++ rule ∷ []) ≡ true
among_now noted rule = among_back noted (rule ∷ []) rule.0 (here rule.0)
  where
    here : (n : ℕ) → (nat_eq n n || false) ≡ true
    here n = grind (arith, nat_tests)

-- a rule more
pub noted_beside : (g : RuleGraph) (ended : Bool) (noted : List RuleId) (faults : List BuildFault) (more : RuleId) (rule : ℕ) → IsNoted g ended noted faults rule →
    IsNoted g ended (noted ++ more ∷ []) faults rule
noted_beside g ended noted faults more rule (IsNoted.over e) = IsNoted.over e
noted_beside g ended noted faults more rule (IsNoted.stands path named among any) = IsNoted.stands path named (among_front noted (more ∷ []) rule among) any

-- the rule itself, of a fault that was kept
pub noted_now : (g : RuleGraph) (ended : Bool) (noted : List RuleId) (faults : List BuildFault) (rule : RuleId) (f : BuildFault) (path : Path) → first_target_of g rule.0 ≡ Some path → IsOfRule path f →
    IsKept ended faults f → IsNoted g ended (noted ++ rule ∷ []) faults rule.0
noted_now g ended noted faults rule f path named of (IsKept.over e) = IsNoted.over e
noted_now g ended noted faults rule f path named of (IsKept.stands h) = IsNoted.stands path named (among_now noted rule) (f, h, of)

-- where an end may have come
pub noted_or : (g : RuleGraph) (ended more : Bool) (noted : List RuleId) (faults : List BuildFault) (rule : ℕ) → IsNoted g ended noted faults rule → IsNoted g (ended || more) noted faults rule
noted_or g true more noted faults rule n = IsNoted.over refl
noted_or g false more noted faults rule (IsNoted.over e) = true_false (sym e)
noted_or g false more noted faults rule (IsNoted.stands path named among any) = IsNoted.stands path named among any

pub ruleset noting = (noted_over, kept_over, kept_more, kept_now, noted_more, noted_beside, noted_now, noted_or)

-- a grown graph names a rule as it did
pub noted_grown : (g h : RuleGraph) (ended : Bool) (noted : List RuleId) (faults : List BuildFault) (rule : ℕ) → ((path : Path) → first_target_of g rule ≡ Some path → first_target_of h rule ≡ Some path) →
    IsNoted g ended noted faults rule → IsNoted h ended noted faults rule
noted_grown g h ended noted faults rule grows (IsNoted.over e) = IsNoted.over e
noted_grown g h ended noted faults rule grows (IsNoted.stands path named among any) = IsNoted.stands path (grows path named) among any

-- ---- a plan is told

set_faulty : (states : List RuleState) (rule number : ℕ) (state : RuleState) → is_faulty state ≡ false → is_faulty (state_of (set states rule state) number) ≡ true → is_faulty (state_of states number) ≡ true
set_faulty [] rule number state e h = h
set_faulty (x ∷ states) zero zero state e h = true_false (sym h ∙ e)
set_faulty (x ∷ states) zero (suc number) state e h = h
set_faulty (x ∷ states) (suc rule) zero state e h = h
set_faulty (x ∷ states) (suc rule) (suc number) state e h = set_faulty states rule number state e h

set_other : (states : List RuleState) (rule number : ℕ) (state : RuleState) → is_faulty (state_of (set states rule state) number) ≡ true → (number ≡ rule) ⊎ (is_faulty (state_of states number) ≡ true)
set_other [] rule number state h = inr h
set_other (x ∷ states) zero zero state h = inl refl
set_other (x ∷ states) zero (suc number) state h = inr h
set_other (x ∷ states) (suc rule) zero state h = inr h
set_other (x ∷ states) (suc rule) (suc number) state h = ⊎_elim (λ e. inl (ap suc e)) (λ k. inr k) (set_other states rule number state h)

module _ (plan : Planned) (g : RuleGraph) (account : Account) (notes : AreNotedBy plan g account) where
  -- where a rule is set to a state that is no fault
  well_set : (c : Bool) (rule : ℕ) (state : RuleState) → is_faulty state ≡ false → (states : List RuleState) → states ≡ (if c then set plan.states rule state else plan.states) → (number : ℕ) →
      is_faulty (state_of states number) ≡ true → IsNotedIn g account number
  well_set true rule state e states is number h = notes number (set_faulty plan.states rule number state e (ap (λ (l : List RuleState). is_faulty (state_of l number)) (sym is) ∙ h))
  well_set false rule state e states is number h = notes number (ap (λ (l : List RuleState). is_faulty (state_of l number)) (sym is) ∙ h)

  -- or to one that is, and is noted
  fault_set : (c : Bool) (rule : ℕ) (state : RuleState) → IsNotedIn g account rule → (states : List RuleState) → states ≡ (if c then set plan.states rule state else plan.states) → (number : ℕ) →
      is_faulty (state_of states number) ≡ true → IsNotedIn g account number
  fault_set true rule state n states is number h =
      ⊎_elim (λ (e : number ≡ rule). subst (λ x. IsNotedIn g account x) (sym e) n) (λ k. notes number k)
      (set_other plan.states rule number state (ap (λ (l : List RuleState). is_faulty (state_of l number)) (sym is) ∙ h))
  fault_set false rule state n states is number h = notes number (ap (λ (l : List RuleState). is_faulty (state_of l number)) (sym is) ∙ h)

  unneeded_well : (o p : RuleState) → (p ≡ o) ⊎ ((o ≡ Unneeded) × (p ≡ Waiting)) → is_faulty p ≡ true → is_faulty o ≡ true
  unneeded_well o p (inl e) h = ap is_faulty (sym e) ∙ h
  unneeded_well o p (inr e) h = true_false (sym h ∙ ap is_faulty e.1)

  pub event_noted : (event : PlanEvent) (states : List RuleState) → Goes plan event states → NotesEvent g account event → (number : ℕ) → is_faulty (state_of states number) ≡ true → IsNotedIn g account number
  event_noted (told.Scanned rule found) states goes n number h = notes number (unneeded_well (state_of plan.states number) (state_of states number) (goes.at number) h)
  event_noted (told.Fresh rule) states goes n number h = well_set (is_open plan.queue rule.0) rule.0 Settled refl states goes number h
  event_noted (told.Started rule) states goes n number h = well_set (is_open plan.queue rule.0) rule.0 Running refl states goes number h
  event_noted (told.DoneOk rule) states goes n number h = well_set (is_running (state_of plan.states rule.0)) rule.0 Settled refl states goes number h
  event_noted (told.DoneFailed rule) states goes n number h = fault_set (is_running (state_of plan.states rule.0)) rule.0 Failed n states goes number h
  event_noted (told.Absent rule node) states goes n number h = fault_set (is_open plan.queue rule.0) rule.0 Lacking n states goes number h
  event_noted told.Halt states goes n number h = notes number (ap (λ (l : List RuleState). is_faulty (state_of l number)) (sym goes) ∙ h)

  tells_by : (done : Result PlanEvent ListEnd) (new : Planned) (after : Account) → Tells g plan account done new after → KeepsNoted account after → NotesDone g account done → AreNotedBy new g after
  tells_by (Ok event) new after (StepsOr.stepped step halted same) keeps n number h = keeps g number (event_noted event new.states step.states n number h)
  tells_by (Ok event) new after (StepsOr.wanted over faulted scan) keeps n number h = IsNoted.over over
  tells_by (Err end) new after tells keeps n number h = IsNoted.over tells.1.ended

  -- so it is once a plan was told, and halted where an end came
  pub told_noted : (done : Result PlanEvent ListEnd) (mid new : Planned) (after : Account) → Tells g plan account done mid after → KeepsNoted account after → NotesDone g account done →
      (after.is_ended ≡ false → new ≡ mid) → AreNotedBy new g after
  told_noted done mid new after tells keeps n same = by after.is_ended refl
    where
      by : (c : Bool) → after.is_ended ≡ c → AreNotedBy new g after
      by true e number h = IsNoted.over e
      by false e number h =
          tells_by done mid after tells keeps n number (ap (λ (p : Planned). is_faulty (state_of p.states number)) (sym (same e)) ∙ h)

-- ---- sites

module _ {W O E : Type 0} where
  -- where the plan is the same
  pub noting_on : (old new : Site W O E) → new.run.now.plan ≡ old.run.now.plan → SiteKeepsNoted old new → SiteStaysNoting old new
  noting_on old new same keeps notes rule h = keeps rule (notes rule (sym (ap (λ (p : Planned). is_faulty (state_of p.states rule)) same) ∙ h))

-- a grown graph has the names that it had
pub names_grow : (g h : RuleGraph) → GrowsTo g h → (rule : ℕ) (path : Path) → first_target_of g rule ≡ Some path → first_target_of h rule ≡ Some path
names_grow g h grows rule path named = by (slice_get g.rules rule) refl named
  where
    node_by : (o : Option NodeId) → option_and_then (λ (n : NodeId). slice_get g.nodes n.0) o ≡ Some path → option_and_then (λ (n : NodeId). slice_get h.nodes n.0) o ≡ Some path
    node_by None e = e
    node_by (Some n) e = ap (λ (l : List Path). slice_get l n.0) grows.nodes ∙ get-front g.nodes grows.more n.0 path e

    by : (o : Option declared.Rule) → slice_get g.rules rule ≡ o → option_and_then (λ r. option_and_then (λ n. slice_get g.nodes n.0) (slice_get r.targets 0)) o ≡ Some path →
        first_target_of h rule ≡ Some path
    by None e f = absurd (none-some path f)
    by (Some r) e f =
        ap (λ (o : Option declared.Rule). option_and_then (λ x. option_and_then (λ n. slice_get h.nodes n.0) (slice_get x.targets 0)) o)
        (ap (λ (l : List declared.Rule). slice_get l rule) grows.rules ∙ get-front g.rules grows.added rule r e)
        ∙ node_by (slice_get r.targets 0) f
