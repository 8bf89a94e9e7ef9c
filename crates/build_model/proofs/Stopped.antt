-- At one job and up to its fault a build follows the build order, at any status.
use Rattle.std.proofs.Common.{◌≡◌, ◌<◌, true, false, List, [], ◌∷◌, ◌++◌, length, Option, Some, None, refl, sym, subst, ap, ◌∙◌, inl, inr, ◌⊎◌, append_assoc}
use Rattle.build_model.specs.Rules.{Path, Content, Rule, Setting, Among, here, there, Unique}
use Rattle.build_model.specs.Reach.{scan_list}
use Rattle.build_model.specs.Needs.{Found, NeedsThrough, Needed, needs_in_order, IsBuildOrder}
use Rattle.build_model.specs.Contents.{Known, View, found_in, includes_of}
use Rattle.build_model.specs.Steps.{Step, Fresh, Began, Ended, Lacks, Halts, Build, settled, began, done, is_over, IsReady, is_source, is_made, IsMissing, IsRunning, IsRun, present_record}
use Rattle.build_model.specs.Resting.{IsFaulty, has_failed, lacks_one, IsFoundWhole}
use Rattle.build_model.specs.OneJob.{IsPassed, is_settled, is_running, is_faulty, waits, SeesReady, StandsBehind, StandsBefore, IsTakenInOrder, TakesInOrder, SeesMissing, IsPast, BeginsFront}
use Rattle.build_model.proofs.Lists.{true_false, among_right}
use Rattle.build_model.proofs.Ready.{Within, Agrees, agrees_less}
use Rattle.build_model.proofs.Runs.{settled_done, settled_after, began_after, run_before, began_due, fresh_of, fresh_or_began}
use Rattle.build_model.proofs.Ordering.{needs_in_order_of, AreAlike, order_once, one_front}
use Rattle.build_model.proofs.Alike.{Waits, needs_alike}
use Rattle.build_model.proofs.OneJob.{none_runs, compare, stands_behind, begun_in_order}
use Rattle.build_model.proofs.Ending.{faulty_over}

-- after some steps of a build in which nothing is at fault yet, and while no action runs
module _ (s : Setting) (b : Build) (view : View) (past : List Step) (run : IsRun s b past) (sees : Agrees s b (settled past) view)
    (missing : SeesMissing s b view) (found : Found) (whole : IsFoundWhole s b past found)
    (no_loop : (r : Rule) → Needed s.rule_of found b.requested r → NeedsThrough s.rule_of found r r → ⊥)
    (not_cut : (r : Rule) → Needed s.rule_of found b.requested r → length (scan_list s.limit (found r) r) < s.limit)
    (no_fault : (x : Rule) → IsFaulty past x → ⊥) (none : (y : Rule) → IsRunning past y → ⊥) where
  abbrev Ready : Path → Type 0
  Ready p = IsReady s b.after (settled past) p

  none_included : (r : Rule) (p : Path) (k : Known) → view p ≡ k → IsMissing s b.after p → includes_of (s.includes r p) k ≡ []
  none_included r p None is h = refl
  none_included r p (Some None) is h = refl
  none_included r p (Some (Some bytes)) is h = absurd (missing p bytes h is)

  source_included : (r : Rule) (p : Path) (c : Content) → s.rule_of p ≡ None → b.after p ≡ c → (Ready p → ⊥) → found_in s view r p ≡ []
  source_included r p (Some bytes) no_rule is unready = absurd (unready (is_source bytes no_rule is))
  source_included r p None no_rule is unready = none_included r p (view p) refl (record { no_rule = no_rule; no_file = is })

  unready_cases : (r : Rule) (p : Path) (o : Option Rule) → s.rule_of p ≡ o → (Ready p → ⊥) → found r p ≡ [] →
      (found r p ≡ found_in s view r p) ⊎ Waits s.rule_of (settled past) p
  unready_cases r p None no_rule unready e = inl (e ∙ sym (source_included r p (b.after p) no_rule refl unready))
  unready_cases r p (Some q) is unready e = inr (q, (is, λ m. unready (is_made q is m)))

  alike_cases : (r : Rule) (p : Path) → (Ready p × (found r p ≡ found_in s view r p)) ⊎ ((Ready p → ⊥) × (found r p ≡ [])) →
      (found r p ≡ found_in s view r p) ⊎ Waits s.rule_of (settled past) p
  alike_cases r p (inl h) = inl h.1
  alike_cases r p (inr h) = unready_cases r p (s.rule_of p) refl h.0 h.1

  stopped_alike : (r : Rule) → Needed s.rule_of found b.requested r →
      AreAlike (settled past) (needs_in_order s.rule_of s.limit found r) (needs_in_order s.rule_of s.limit (found_in s view) r)
  stopped_alike r needed =
      needs_alike (Waits s.rule_of (settled past)) s.rule_of (settled past) (found r) (found_in s view r) s.limit r
      (λ p. alike_cases r p (compare s b view past run sees found whole r p)) (λ p m w. w)

  passed_settles : {x : Rule} → Needed s.rule_of found b.requested x → IsPassed s past found x →
      Within (needs_in_order s.rule_of s.limit found x) (settled past) → Among x (settled past)
  passed_settles needed (is_settled m) w = m
  passed_settles {x} needed (is_running h) w = absurd (none x h)
  passed_settles {x} needed (is_faulty h) w = absurd (no_fault x h)
  passed_settles {x} needed (waits q needs out) w =
      absurd (out (w q (needs_in_order_of s.rule_of s.limit {found = found} (not_cut x needed) needs)))

  pub stopped_behind : {r : Rule} {order whole_order : List Rule} (front behind : List Rule) →
      IsBuildOrder s.rule_of s.limit found b.requested order → order ≡ front ++ r ∷ behind →
      ((y : Rule) → Among y front → IsPassed s past found y) → (Among r (settled past) → ⊥) →
      IsBuildOrder s.rule_of s.limit (found_in s view) b.requested whole_order → StandsBehind whole_order (settled past) r
  stopped_behind front behind is_order is passed out whole_is =
      stands_behind s b view past run sees found whole no_loop stopped_alike front behind is_order is
      (λ y needed m w. passed_settles needed (passed y m) w) out whole_is

-- a list of steps that is cut at one of them
record StepCut (steps : List Step) (step : Step) : Type 0 where
  later : List Step
  past : List Step
  parts : steps ≡ later ++ step ∷ past

cut_later : {steps : List Step} {step : Step} (first : Step) → StepCut steps step → StepCut (first ∷ steps) step
cut_later first c = record { later = first ∷ c.later; past = c.past; parts = ap (λ l. first ∷ l) c.parts }

cut_at_step : {steps : List Step} {step : Step} → Among step steps → StepCut steps step
cut_at_step (here {xs = xs}) = record { later = []; past = xs; parts = refl }
cut_at_step (there {y = y} m) = cut_later y (cut_at_step m)

cut_at_start : {r : Rule} (steps : List Step) → Among r (began steps) → StepCut steps (Began r)
cut_at_start [] m = elim m [ ]
cut_at_start (Fresh x ∷ past) m = cut_later (Fresh x) (cut_at_start past m)
cut_at_start (Began x ∷ past) here = record { later = []; past = past; parts = refl }
cut_at_start (Began x ∷ past) (there m) = cut_later (Began x) (cut_at_start past m)
cut_at_start (Ended x well ∷ past) m = cut_later (Ended x well) (cut_at_start past m)
cut_at_start (Lacks x p ∷ past) m = cut_later (Lacks x p) (cut_at_start past m)
cut_at_start (Halts ∷ past) m = cut_later Halts (cut_at_start past m)

module _ (s : Setting) (b : Build) where
  takes_before_step : (step : Step) (past : List Step) → TakesInOrder s b (step ∷ past) → TakesInOrder s b past
  takes_before_step (Fresh x) past takes = takes
  takes_before_step (Began x) past takes = takes.1
  takes_before_step (Ended x well) past takes = takes
  takes_before_step (Lacks x p) past takes = takes.1
  takes_before_step Halts past takes = takes

  takes_before : (later past : List Step) → TakesInOrder s b (later ++ past) → TakesInOrder s b past
  takes_before [] past takes = takes
  takes_before (step ∷ later) past takes = takes_before later past (takes_before_step step (later ++ past) takes)

  module _ (one : b.jobs ≡ 1) where
    -- at one job what runs is what began last
    last_begun : {r : Rule} (past : List Step) → IsRun s b past → Among r (began past) → (Among r (done past) → ⊥) →
        (earlier : List Rule) × (began past ≡ r ∷ earlier)
    last_begun [] run m out = elim m [ ]
    last_begun (Fresh x ∷ past) run m out = last_begun past run.1 m (λ d. out (there d))
    last_begun (Began x ∷ past) run here out = (began past, refl)
    last_begun {r} (Began x ∷ past) run (there m) out =
        absurd (none_runs s b past run.1 one run.0.1.room r (record { began = m; not_done = out }))
    last_begun (Ended x well ∷ past) run m out = last_begun past run.1 m (λ d. out (there d))
    last_begun (Lacks x p ∷ past) run m out = last_begun past run.1 m (λ d. out (there d))
    last_begun (Halts ∷ past) run m out = last_begun past run.1 m out

  module _ (stops : b.keeps_going ≡ false) where
    no_fault_yet : {past : List Step} → is_over b.keeps_going past ≡ false → (x : Rule) → IsFaulty past x → ⊥
    no_fault_yet {past} goes_on x h = true_false (sym (faulty_over h) ∙ ap (λ k. is_over k past) (sym stops) ∙ goes_on)

    -- nothing begins behind a fault
    none_begun : (r : Rule) (later past : List Step) → IsRun s b (later ++ Ended r false ∷ past) →
        began (later ++ Ended r false ∷ past) ≡ began past
    none_begun r [] past run = refl
    none_begun r (Fresh x ∷ later) past run = none_begun r later past run.1
    none_begun r (Began x ∷ later) past run =
        absurd (no_fault_yet run.0.0.goes_on r (has_failed (among_right later here)))
    none_begun r (Ended x well ∷ later) past run = none_begun r later past run.1
    none_begun r (Lacks x p ∷ later) past run = none_begun r later past run.1
    none_begun r (Halts ∷ later) past run = none_begun r later past run.1

  module _ (view : View) (steps : List Step) (order : List Rule) (run : IsRun s b steps) (one : b.jobs ≡ 1) (stops : b.keeps_going ≡ false)
      (takes : TakesInOrder s b steps) (sees : SeesReady s b steps view) (missing : SeesMissing s b view)
      (is_order : IsBuildOrder s.rule_of s.limit (found_in s view) b.requested order) where
    taken_behind : (later past : List Step) (r : Rule) → steps ≡ later ++ past → IsTakenInOrder s b past r →
        is_over b.keeps_going past ≡ false → (Among r (done past) → ⊥) → StandsBehind order (settled past) r
    taken_behind later past r e taken goes_on not_done =
        let past_run = run_before s b later past (subst (λ l. IsRun s b l) e run) in
        let past_sees = agrees_less s b (settled_after later past) (subst (λ l. Agrees s b (settled l) view) e sees) in
        let first = taken.first in
        stopped_behind s b view past past_run past_sees missing first.found first.found_whole taken.no_cycle taken.not_cut
        (no_fault_yet stops goes_on) (none_runs s b past past_run one taken.room) first.front first.behind first.is_order first.parts
        first.passed (λ m. not_done (settled_done past m)) is_order

    begun_behind : (later past : List Step) (r : Rule) → steps ≡ later ++ Began r ∷ past → StandsBehind order (settled past) r
    begun_behind later past r e =
        let decided = (run_before s b later (Began r ∷ past) (subst (λ l. IsRun s b l) e run)).0.0 in
        taken_behind (later ++ Began r ∷ []) past r (e ∙ sym (append_assoc later (Began r ∷ []) past))
        (takes_before later (Began r ∷ past) (subst (λ l. TakesInOrder s b l) e takes)).0 decided.goes_on decided.not_done

    lacking_behind : (later past : List Step) (r : Rule) (p : Path) → steps ≡ later ++ Lacks r p ∷ past → StandsBehind order (settled past) r
    lacking_behind later past r p e =
        let lacking = (run_before s b later (Lacks r p ∷ past) (subst (λ l. IsRun s b l) e run)).0 in
        taken_behind (later ++ Lacks r p ∷ []) past r (e ∙ sym (append_assoc later (Lacks r p ∷ []) past))
        (takes_before later (Lacks r p ∷ past) (subst (λ l. TakesInOrder s b l) e takes)).0 lacking.goes_on lacking.not_done

    due_began : {x : Rule} (later past : List Step) → steps ≡ later ++ past → Among (Fresh x) past ⊎ Among x (began past) →
        s.is_due x b.before b.stamps_before b.records (present_record s b x) ≡ true → Among x (began steps)
    due_began later past e (inl m) due =
        true_false (sym due ∙ (fresh_of s b m (run_before s b later past (subst (λ l. IsRun s b l) e run))).not_due)
    due_began {x} later past e (inr m) due = subst (λ l. Among x (began l)) (sym e) (began_after later past x m)

    is_past : {x r : Rule} (later past : List Step) → steps ≡ later ++ past → StandsBehind order (settled past) r → StandsBefore order x r →
        IsPast s b steps x
    is_past {x} {r} later past e h k =
        let same : (k.front ++ x ∷ k.between) ++ r ∷ k.behind ≡ h.front ++ r ∷ h.behind =
        append_assoc k.front (x ∷ k.between) (r ∷ k.behind) ∙ sym k.parts ∙ h.parts in
        let once : Unique (h.front ++ r ∷ h.behind) =
        subst (λ l. Unique l) h.parts (order_once (needs_in_order s.rule_of s.limit (found_in s view)) is_order.visits) in
        let m : Among x (settled past) =
        h.all_settled x (one_front r k.behind h.behind (k.front ++ x ∷ k.between) h.front same once x (among_right k.front here)) in
        record {
          is_settled = subst (λ l. Among x (settled l)) (sym e) (settled_after later past x m);
          due_began = due_began later past e (fresh_or_began s b past (run_before s b later past (subst (λ l. IsRun s b l) e run)) m);
        }

    past_begun : (r x : Rule) → Among r (began steps) → StandsBefore order x r → IsPast s b steps x
    past_begun r x m k =
        let c = cut_at_start steps m in
        is_past (c.later ++ Began r ∷ []) c.past (c.parts ∙ sym (append_assoc c.later (Began r ∷ []) c.past))
        (begun_behind c.later c.past r c.parts) k

    last_failed : (r : Rule) → Among (Ended r false) steps → (earlier : List Rule) × (began steps ≡ r ∷ earlier)
    last_failed r m =
        let c = cut_at_step m in
        let cut_run = subst (λ l. IsRun s b l) c.parts run in
        let ended = (run_before s b c.later (Ended r false ∷ c.past) cut_run) in
        let g = last_begun one c.past ended.1 ended.0.began ended.0.not_done in
        (g.0, ap began c.parts ∙ none_begun stops r c.later c.past cut_run ∙ g.1)

    past_fault : (r x : Rule) → IsFaulty steps r → StandsBefore order x r → IsPast s b steps x
    past_fault r x (has_failed m) k =
        let g = last_failed r m in past_begun r x (subst (λ l. Among r l) (sym g.1) here) k
    past_fault r x (lacks_one p m) k =
        let c = cut_at_step m in
        is_past (c.later ++ Lacks r p ∷ []) c.past (c.parts ∙ sym (append_assoc c.later (Lacks r p ∷ []) c.past))
        (lacking_behind c.later c.past r p c.parts) k

    pub front_begins : BeginsFront s b order steps
    front_begins = record {
      follows = begun_in_order s b steps order run begun_behind;
      lacking = lacking_behind;
      only_due = λ r m. began_due s b steps run m;
      before_begun = past_begun;
      before_fault = past_fault;
      last = last_failed;
    }
