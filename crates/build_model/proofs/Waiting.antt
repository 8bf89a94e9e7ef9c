-- Where nothing can be decided, what isn't settled leads to an action that runs.
use Rattle.std.proofs.Common.{◌≡◌, ◌<◌, ℕ, Bool, true, false, List, [], ◌∷◌, ◌++◌, Some, None, sym, subst, ap, ◌∙◌, inl, inr, ◌⊎◌, append_assoc}
use Rattle.build_model.specs.Rules.{Path, Rule, Setting, Among, here, there}
use Rattle.build_model.specs.Reach.{Reaches}
use Rattle.build_model.specs.Needs.{Found, Needs, as_dependency, NeedsThrough, directly, through, Needed, is_needed}
use Rattle.build_model.specs.Contents.{View, in_tree, found_in, includes_of, clean, height}
use Rattle.build_model.specs.Steps.{Step, Fresh, Began, Ended, Lacks, Halts, Build, settled, began, running, IsReady, is_source, is_made, IsMissing, IsPrepared, IsRunning, IsRun, Succeeds}
use Rattle.build_model.specs.Laws.{NeedsIn, IsBuild, IsByContent, EachStep}
use Rattle.build_model.specs.Resting.{IsFaulty, has_failed, lacks_one}
use Rattle.build_model.specs.OneJob.{IsPassed, is_settled, is_running, is_faulty, waits}
use Rattle.build_model.specs.Waiting.{IsIdle, WaitsRightly, IsStaleIn, IsPending, NeedsPending, IsAwaited, IsTakenOutThen, AllWait, IsBusy, all_run, all_wait}
use Rattle.build_model.proofs.Lists.{none_some, some_same, among_right, among_same}
use Rattle.build_model.proofs.Ready.{needs_more, needed_more, Agrees, agrees_less, tree_agrees, needs_among}
use Rattle.build_model.proofs.Runs.{settled_done, settled_after, began_after, run_before, begun_prepared, needed_settled, through_settled, fresh_or_began}
use Rattle.build_model.proofs.Clean.{each_step_is_clean, settled_agrees, missing_stuck}
use Rattle.build_model.proofs.Resting.{faulty_unsettled}
use Rattle.build_model.proofs.TakenOut.{needed_too, found_taken_out}

module _ (s : Setting) (b : Build) (top : ℕ) (later past : List Step) (build : IsBuild s b (later ++ past)) (by : IsByContent s b top)
    (low : height (settled (later ++ past)) < top) (succeeds : Succeeds s b (later ++ past)) (idle : IsIdle s b past) where
  abbrev view : View
  view = clean s b.before top

  abbrev found : Found
  found = idle.found

  abbrev IsNeeded : Rule → Type 0
  IsNeeded r = Needed s.rule_of found b.requested r

  agrees_end : Agrees s b (settled (later ++ past)) view
  agrees_end = settled_agrees s b build.lawful build.sources top by (later ++ past) build.run low

  agrees_now : Agrees s b (settled past) view
  agrees_now = agrees_less s b (settled_after later past) agrees_end

  each : EachStep s b view (later ++ past)
  each = each_step_is_clean s b (later ++ past) top build by low

  clean_cases : (r : Rule) (p : Path) {y : Path} →
      (IsReady s b.after (settled past) p × (found r p ≡ found_in s (in_tree b.after) r p)) ⊎ ((IsReady s b.after (settled past) p → ⊥) × (found r p ≡ [])) →
      Among y (found r p) → Among y (found_in s view r p)
  clean_cases r p (inl h) m = among_same (h.1 ∙ ap (includes_of (s.includes r p)) (sym (agrees_now p h.0))) m
  clean_cases r p (inr h) m = elim (among_same h.1 m) [ ]

  in_clean : (r : Rule) (p y : Path) → Among y (found r p) → Among y (found_in s view r p)
  in_clean r p y m = clean_cases r p (idle.found_whole r p) m

  tree_cases : (r : Rule) (p : Path) {y : Path} →
      (IsReady s b.after (settled past) p × (found r p ≡ found_in s (in_tree b.after) r p)) ⊎ ((IsReady s b.after (settled past) p → ⊥) × (found r p ≡ [])) →
      Among y (found r p) → Among y (found_in s (in_tree b.after) r p)
  tree_cases r p (inl h) m = among_same h.1 m
  tree_cases r p (inr h) m = elim (among_same h.1 m) [ ]

  needs_tree : {r q : Rule} → Needs s.rule_of found r q → NeedsIn s (in_tree b.after) r q
  needs_tree needs = needs_more (λ r p y m. tree_cases r p (idle.found_whole r p) m) needs

  through_clean : {r q : Rule} → NeedsThrough s.rule_of found r q → NeedsThrough s.rule_of (found_in s view) r q
  through_clean (directly needs) = directly (needs_more in_clean needs)
  through_clean (through x needs more) = through x (needs_more in_clean needs) (through_clean more)

  at_end : {r : Rule} → IsNeeded r → Among r (settled (later ++ past))
  at_end needed = needed_settled s b view (later ++ past) build.run agrees_end succeeds (needed_more in_clean needed)

  -- an action runs behind a rule
  data Leads (r : Rule) : Type 0 where
    has_settled : Among r (settled past) → Leads r
    runs : IsRunning past r → Leads r
    behind : (q : Rule) → NeedsThrough s.rule_of found r q → IsRunning past q → Leads r

  passed_on : {r q : Rule} → Needs s.rule_of found r q → (Among q (settled past) → ⊥) → Leads q → Leads r
  passed_on needs out (has_settled m) = absurd (out m)
  passed_on {q = q} needs out (runs h) = behind q (directly needs) h
  passed_on {q = q} needs out (behind x t h) = behind x (through q needs t) h

  faulty_after : {x : Rule} → IsFaulty past x → IsFaulty (later ++ past) x
  faulty_after (has_failed m) = has_failed (among_right later m)
  faulty_after (lacks_one p m) = lacks_one p (among_right later m)

  passed_leads : {r : Rule} (l : List Step) → IsNeeded r → IsPrepared s b (settled (l ++ past)) r →
      ((q : Rule) → IsNeeded q → Among q (settled (l ++ past)) → Leads q) → IsPassed s past found r → Leads r
  passed_leads l needed prepared next (is_settled m) = has_settled m
  passed_leads l needed prepared next (is_running h) = runs h
  passed_leads l needed prepared next (is_faulty h) = absurd (faulty_unsettled s b build.run (faulty_after h) (at_end needed))
  passed_leads {r} l needed prepared next (waits q needs out) =
      passed_on needs out (next q (is_needed r needed needs)
      (needs_among s b r prepared (in_tree b.after) (tree_agrees s b (settled (l ++ past))) (needs_tree needs)))

  leads : (l : List Step) → IsRun s b (l ++ past) → (r : Rule) → IsNeeded r → Among r (settled (l ++ past)) → Leads r
  leads [] run r needed m = has_settled m
  leads (Fresh x ∷ l) run r needed here = passed_leads l needed run.0.0.prepared (leads l run.1) (idle.passed r needed)
  leads (Fresh x ∷ l) run r needed (there m) = leads l run.1 r needed m
  leads (Began x ∷ l) run r needed m = leads l run.1 r needed m
  leads (Ended x true ∷ l) run r needed here =
      passed_leads l needed (begun_prepared s b (l ++ past) run.1 run.0.0.began) (leads l run.1) (idle.passed r needed)
  leads (Ended x true ∷ l) run r needed (there m) = leads l run.1 r needed m
  leads (Ended x false ∷ l) run r needed m = leads l run.1 r needed m
  leads (Lacks x p ∷ l) run r needed m = leads l run.1 r needed m
  leads (Halts ∷ l) run r needed m = leads l run.1 r needed m

  leads_now : {r : Rule} → IsNeeded r → Leads r
  leads_now {r} needed = leads later build.run r needed (at_end needed)

  pending : {r : Rule} → IsRunning past r → IsPending s b view past r
  pending {r} h =
      let right = each.began r (began_after later past r h.began) in
      record { needed = right.0; stale = right.1; not_ended = h.not_done }

  leads_out : {p : Path} {x : Rule} → s.rule_of p ≡ Some x → (IsReady s b.after (settled past) p → ⊥) → Leads x → IsAwaited s b view past p
  leads_out {x = x} e unready (has_settled m) = absurd (unready (is_made x e m))
  leads_out {x = x} e unready (runs h) = record { rule = x; is_rule = e; why = inl (pending h) }
  leads_out {x = x} e unready (behind q t h) =
      record { rule = x; is_rule = e; why = inr (record { other = q; needs = through_clean t; pending = pending h }) }

  hindered : (r : Rule) (p : Path) (x : Rule) → IsNeeded r → Reaches (found r) r p → s.rule_of p ≡ Some x →
      (IsReady s b.after (settled past) p → ⊥) → IsAwaited s b view past p
  hindered r p x needed reached e unready = leads_out e unready (leads_now (is_needed r needed (as_dependency p reached e)))

  stuck : (p : Path) → IsMissing s b.after p → view p ≡ None
  stuck p m = missing_stuck s b build.lawful build.sources top by m

  -- what is settled is no longer awaited
  settled_in : {x : Rule} → Among x (settled past) → IsPending s b view past x ⊎ NeedsPending s b view past x → ⊥
  settled_in m (inl h) = h.not_ended (settled_done past m)
  settled_in m (inr h) =
      h.pending.not_ended (settled_done past (through_settled s b view past (run_before s b later past build.run) agrees_now h.needs m))

  ready_in : (p : Path) → IsReady s b.after (settled past) p → IsAwaited s b view past p → ⊥
  ready_in p (is_source bytes none file) o = none_some (sym none ∙ o.is_rule)
  ready_in p (is_made r e m) o = settled_in (subst (λ x. Among x (settled past)) (some_same (sym e ∙ o.is_rule)) m) o.why

  found_out : IsTakenOutThen s b view past found
  found_out r p needed reached =
      found_taken_out s b view (settled past) agrees_now stuck found idle.found_whole (IsAwaited s b view past) hindered
      ready_in (λ q none o. none_some (sym none ∙ o.is_rule)) r p needed reached

  stale_waits : {r : Rule} → IsStaleIn s b view r → (Among r (began past) → ⊥) → Leads r → NeedsPending s b view past r
  stale_waits {r} is_stale not_began (has_settled m) = cases (fresh_or_began s b past (run_before s b later past build.run) m)
    where
      cases : Among (Fresh r) past ⊎ Among r (began past) → NeedsPending s b view past r
      cases (inl f) = absurd (each.fresh r (among_right later f) is_stale)
      cases (inr n) = absurd (not_began n)
  stale_waits is_stale not_began (runs h) = absurd (not_began h.began)
  stale_waits is_stale not_began (behind q t h) = record { other = q; needs = through_clean t; pending = pending h }

  all_waiting : (taken : Found) → IsTakenOutThen s b view past taken → AllWait s b view past taken
  all_waiting taken out r needed is_stale not_began =
      stale_waits is_stale not_began (leads_now (needed_too s b view (settled past) agrees_now stuck found idle.found_whole
      (IsAwaited s b view past) hindered taken out needed))

  pub busy_idle : IsBusy s b view past
  busy_idle = all_wait found found_out all_waiting

module _ (s : Setting) (b : Build) where
  waits_before_step : (step : Step) (past : List Step) → WaitsRightly s b (step ∷ past) → WaitsRightly s b past
  waits_before_step (Fresh x) past w = w
  waits_before_step (Began x) past w = w
  waits_before_step (Ended x well) past w = w.1
  waits_before_step (Lacks x p) past w = w
  waits_before_step Halts past w = w

  waits_before : (later past : List Step) → WaitsRightly s b (later ++ past) → WaitsRightly s b past
  waits_before [] past w = w
  waits_before (step ∷ later) past w = waits_before later past (waits_before_step step (later ++ past) w)

  busy_cases : (top : ℕ) (later past : List Step) → IsBuild s b (later ++ past) → IsByContent s b top →
      height (settled (later ++ past)) < top → Succeeds s b (later ++ past) → (running past ≡ b.jobs) ⊎ IsIdle s b past →
      IsBusy s b (clean s b.before top) past
  busy_cases top later past build by low succeeds (inl e) = all_run e
  busy_cases top later past build by low succeeds (inr idle) = busy_idle s b top later past build by low succeeds idle

  pub busy : (steps : List Step) (top : ℕ) → IsBuild s b steps → IsByContent s b top → height (settled steps) < top → Succeeds s b steps →
      WaitsRightly s b steps → (later past : List Step) (r : Rule) (well : Bool) → steps ≡ later ++ Ended r well ∷ past →
      IsBusy s b (clean s b.before top) past
  busy steps top build by low succeeds waits_so later past r well e =
      let same : steps ≡ (later ++ Ended r well ∷ []) ++ past = e ∙ sym (append_assoc later (Ended r well ∷ []) past) in
      busy_cases top (later ++ Ended r well ∷ []) past (subst (λ l. IsBuild s b l) same build) by
      (subst (λ l. height (settled l) < top) same low) (subst (λ l. Succeeds s b l) same succeeds)
      (waits_before later (Ended r well ∷ past) (subst (λ l. WaitsRightly s b l) e waits_so)).0
