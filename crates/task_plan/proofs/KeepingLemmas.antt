-- The queue keeps to the build order through what an event changes.
use Rattle.std.proofs.Common.{arith, ◌≡◌, ◌≢◌, ◌<◌, ◌≤◌, ◌∙◌, ◌⊎◌, inl, inr, ℕ, List, [], ◌++◌, Bool, true, false, ap, sym, refl, subst, length, set, get_or-set_same, Some}
use Rattle.std.specs.Prelude.{slice_get, ltb, not, if◌then◌else◌}
use Rattle.std.specs.List.{list_all}
use Rattle.std.proofs.lemmas.Bool.{ltb-true, ltb-false}
use Rattle.std.proofs.lemmas.Option.{same_Some}
use Rattle.std.proofs.lemmas.List.{get_or_past}
use Rattle.std.proofs.lemmas.List.Folds.{list_all-append}
use Rattle.scons_base.specs.declared.ids.NodeId.{NodeId}
use Rattle.scons_base.specs.declared.ids.RuleId.{RuleId}
use Rattle.task_plan.specs.States.{state_of, is_running}
use Rattle.task_plan.specs.Queues.{is_open}
use Rattle.task_plan.specs.Settled.{Kept, origin_of, is_settled, is_done, is_done_from}
use Rattle.task_plan.specs.Plans.{Planned, CanDecide, Goes, is_scan}
use Rattle.rule_graph.specs.Graphs.{RuleGraph}
use Rattle.task_plan.specs.Admits.{Knows}
use Rattle.task_plan.specs.Met.{FindsBy}
use Rattle.task_plan.specs.Orders.{is_among, needed_of, Visits}
use Rattle.task_plan.specs.Ordered.{is_left, left, needs_left, is_past, AreNeedsDone, IsOrderLeft, KeepsOrder, LeavesQueue}
use Rattle.task_plan.specs.declared.states.RuleState.{RuleState}
use Rattle.task_plan.specs.declared.states.RuleState.TheVariants.{Unneeded, Waiting, Running, Settled, Failed, Lacking}
use Rattle.task_plan.specs.declared.files.Origin.{Origin}
use Rattle.task_plan.specs.declared.files.Origin.TheVariants.{Unmet, Source, Made}
use Rattle.task_plan.specs.declared.want.PlanEvent.{PlanEvent}
use Rattle.task_plan.specs.declared.want.PlanEvent.TheVariants.{Scanned, Fresh, Started, DoneOk, DoneFailed, Absent, Halt}
use Rattle.task_plan.proofs.MarkLemmas.{apart}
use Rattle.task_plan.proofs.ListLemmas.{and_both, list_all_weaker}
use Rattle.task_plan.proofs.PlanLemmas.{true_false, set_other}
use Rattle.task_plan.proofs.ProjectLemmas.{project, alike, kept_twice}
use Rattle.task_plan.proofs.KeptLemmas.{settled_needs}

not_back : (a b : Bool) → (a ≡ true → b ≡ true) → not b ≡ true → not a ≡ true
not_back true b f h = absurd (true_false (not b) h (ap not (f refl)))
not_back false b f h = refl

-- the queue stands depth first over needs that are given
pub record IsOrderBy (p : Planned) (base : ℕ → List RuleId) : Type 0 where
  pub met : List RuleId
  pub visits : Visits (length p.rules) base [] (left p.states p.notes.roots) met (left p.states p.queue.order)

-- What is left of the order is what was left, less what was settled since, where the rules that it has need what they needed.
pub carry_to : (old new : Planned) (base : ℕ → List RuleId) (P : ℕ → Type 0) → ((x : ℕ) → is_left new.states x ≡ true → is_left old.states x ≡ true)
    → ((r : ℕ) → is_left new.states r ≡ false → left new.states (needed_of old.rules old.origins r) ≡ []) → ((r : ℕ) → P r → left new.states (needed_of old.rules old.origins r) ≡ base r)
    → ((r s : ℕ) → P r → is_among s (left new.states (needed_of old.rules old.origins r)) ≡ true → P s) → ((r : ℕ) → P r → r < length old.rules → r < length new.rules)
    → ((r : ℕ) → P r → length old.rules ≤ r → length new.rules ≤ r) → ((r : ℕ) → is_among r (left new.states old.notes.roots) ≡ true → P r) → new.queue.order ≡ old.queue.order → new.notes.roots ≡ old.notes.roots
    → IsOrderLeft old → IsOrderBy new base
carry_to old new base P less closed same next known unknown roots order same_roots o = record { met = left new.states o.met; visits = ends }
  where
    both : (xs : List RuleId) → left new.states (left old.states xs) ≡ left new.states xs
    both xs = kept_twice (is_left new.states) (is_left old.states) less xs

    kept : Visits (length old.rules) (λ r. left new.states (needs_left old r)) [] (left new.states (left old.states old.notes.roots)) (left new.states o.met) (left new.states (left old.states old.queue.order))
    kept = project (length old.rules) (needs_left old) (is_left new.states) (λ r e. both (needed_of old.rules old.origins r) ∙ closed r e) o.visits

    now : Visits (length new.rules) base [] (left new.states (left old.states old.notes.roots)) (left new.states o.met) (left new.states (left old.states old.queue.order))
    now =
        alike (length old.rules) (length new.rules) (λ r. left new.states (needs_left old r)) base P (λ r k. both (needed_of old.rules old.origins r) ∙ same r k)
        (λ r s k h. next r s k (ap (is_among s) (sym (both (needed_of old.rules old.origins r))) ∙ h)) known unknown (λ r h. roots r (ap (is_among r) (sym (both old.notes.roots)) ∙ h)) kept

    ends : Visits (length new.rules) base [] (left new.states new.notes.roots) (left new.states o.met) (left new.states new.queue.order)
    ends =
        subst (λ (l : List RuleId). Visits (length new.rules) base [] l (left new.states o.met) (left new.states new.queue.order)) (both old.notes.roots ∙ ap (left new.states) (sym same_roots))
        (subst (λ (l : List RuleId). Visits (length new.rules) base [] (left new.states (left old.states old.notes.roots)) (left new.states o.met) l) (both old.queue.order ∙ ap (left new.states) (sym order)) now)

pub carry : (old new : Planned) (P : ℕ → Type 0) → ((x : ℕ) → is_left new.states x ≡ true → is_left old.states x ≡ true)
    → ((r : ℕ) → is_left new.states r ≡ false → left new.states (needed_of old.rules old.origins r) ≡ []) → ((r : ℕ) → P r → left new.states (needed_of old.rules old.origins r) ≡ needs_left new r)
    → ((r s : ℕ) → P r → is_among s (left new.states (needed_of old.rules old.origins r)) ≡ true → P s) → ((r : ℕ) → P r → r < length old.rules → r < length new.rules)
    → ((r : ℕ) → P r → length old.rules ≤ r → length new.rules ≤ r) → ((r : ℕ) → is_among r (left new.states old.notes.roots) ≡ true → P r) → new.queue.order ≡ old.queue.order → new.notes.roots ≡ old.notes.roots
    → IsOrderLeft old → IsOrderLeft new
carry old new P less closed same next known unknown roots order same_roots o =
    let c = carry_to old new (needs_left new) P less closed same next known unknown roots order same_roots o in
    record { met = c.met; visits = c.visits }

done_from : (old new : List RuleState) (o : Origin) → ((r : ℕ) → is_settled (state_of old r) ≡ true → is_settled (state_of new r) ≡ true) → is_done_from old o ≡ true → is_done_from new o ≡ true
done_from old new Unmet f h = h
done_from old new Source f h = h
done_from old new (Made rule) f h = f rule.0 h

-- what was settled is, a rule goes on only where its needs are done, and no needed rule is dropped
pub keeps_on : (old new : Planned) → LeavesQueue old new → new.rules ≡ old.rules → new.origins ≡ old.origins → ((r : ℕ) → is_settled (state_of old.states r) ≡ true → is_settled (state_of new.states r) ≡ true)
    → ((r : ℕ) (kept : Kept) → is_past (state_of new.states r) ≡ true → slice_get old.rules r ≡ Some kept → AreNeedsDone old kept) → ((r : ℕ) → state_of old.states r ≢ Unneeded → state_of new.states r ≢ Unneeded)
    → KeepsOrder old → KeepsOrder new
keeps_on old new l rules origins settled past needed k = record {
  ordered = λ ok.
      carry old new (λ _. Unit {0}) (λ x. not_back (is_settled (state_of old.states x)) (is_settled (state_of new.states x)) (settled x)) (λ r e. ap (left new.states) (same r) ∙ settled_needs new done r e)
      (λ r _. ap (left new.states) (same r)) (λ r s _ _. tt) (λ r _ lt. let n = ap length rules in omega arith) (λ r _ le. let n = ap length rules in omega arith) (λ r _. tt) l.order l.roots (k.ordered (l.fits ok));
  done = done;
  roots = λ r h. needed r (k.roots r (ap (is_among r) (sym l.roots) ∙ h));
}
  where
    same : (r : ℕ) → needed_of old.rules old.origins r ≡ needed_of new.rules new.origins r
    same r = ap (λ rs. needed_of rs old.origins r) (sym rules) ∙ ap (λ o. needed_of new.rules o r) (sym origins)

    done : (rule : ℕ) (kept : Kept) → is_past (state_of new.states rule) ≡ true → slice_get new.rules rule ≡ Some kept → AreNeedsDone new kept
    done rule kept is at =
        list_all_weaker (λ n. is_done old.states old.origins n) (λ n. is_done new.states new.origins n) (kept.required ++ kept.deps)
        (λ n h. ap (λ o. is_done_from new.states (origin_of o n.0)) origins ∙ done_from old.states new.states (origin_of old.origins n.0) settled h)
        (past rule kept is (ap (λ rs. slice_get rs rule) (sym rules) ∙ at))

-- where no state changes
pub keeps_still : (old new : Planned) → LeavesQueue old new → new.rules ≡ old.rules → new.origins ≡ old.origins → new.states ≡ old.states → KeepsOrder old → KeepsOrder new
keeps_still old new l rules origins e k =
    keeps_on old new l rules origins (λ r h. ap (λ s. is_settled (state_of s r)) e ∙ h) (λ r kept h at. k.done r kept (ap (λ s. is_past (state_of s r)) (sym e) ∙ h) at)
    (λ r n h. n (ap (λ s. state_of s r) (sym e) ∙ h)) k

-- where a rule that isn't settled goes to another state, and all its needs are done
pub keeps_set : (old new : Planned) (rule : ℕ) (v : RuleState) → v ≢ Unneeded → LeavesQueue old new → new.rules ≡ old.rules → new.origins ≡ old.origins → new.states ≡ set old.states rule v
    → is_settled (state_of old.states rule) ≡ false → ((kept : Kept) → slice_get old.rules rule ≡ Some kept → AreNeedsDone old kept) → KeepsOrder old → KeepsOrder new
keeps_set old new rule v is l rules origins e open' ready k =
    keeps_on old new l rules origins (λ r h. settled r h (apart r rule)) (λ r kept h at. past r kept h at (apart r rule)) (λ r n. needed r n (apart r rule)) k
  where
    other : (r : ℕ) → r ≢ rule → state_of new.states r ≡ state_of old.states r
    other r ne = ap (λ s. state_of s r) e ∙ set_other old.states rule r v ne

    settled : (r : ℕ) → is_settled (state_of old.states r) ≡ true → (r ≡ rule) ⊎ (r ≢ rule) → is_settled (state_of new.states r) ≡ true
    settled r h (inl this) = absurd (true_false (is_settled (state_of old.states rule)) (ap (λ x. is_settled (state_of old.states x)) (sym this) ∙ h) open')
    settled r h (inr ne) = ap is_settled (other r ne) ∙ h

    past : (r : ℕ) (kept : Kept) → is_past (state_of new.states r) ≡ true → slice_get old.rules r ≡ Some kept → (r ≡ rule) ⊎ (r ≢ rule) → AreNeedsDone old kept
    past r kept h at (inl this) = ready kept (ap (slice_get old.rules) (sym this) ∙ at)
    past r kept h at (inr ne) = k.done r kept (ap is_past (sym (other r ne)) ∙ h) at

    here : (b : Bool) → ltb rule (length old.states) ≡ b → state_of old.states rule ≢ Unneeded → state_of (set old.states rule v) rule ≢ Unneeded
    here true lt n h = is (sym (get_or-set_same old.states rule v Unneeded (ltb-true rule (length old.states) lt)) ∙ h)
    here false lt n h = n (get_or_past old.states rule Unneeded (ltb-false rule (length old.states) lt))

    needed : (r : ℕ) → state_of old.states r ≢ Unneeded → (r ≡ rule) ⊎ (r ≢ rule) → state_of new.states r ≢ Unneeded
    needed r n (inl this) h =
        here (ltb rule (length old.states)) refl (λ z. n (ap (state_of old.states) this ∙ z)) (ap (λ s. state_of s rule) (sym e) ∙ ap (state_of new.states) (sym this) ∙ h)
    needed r n (inr ne) h = n (sym (other r ne) ∙ h)

needs_of_decided : (p : Planned) (rule : ℕ) → CanDecide p rule → (kept : Kept) → slice_get p.rules rule ≡ Some kept → AreNeedsDone p kept
needs_of_decided p rule can kept at =
    let done = λ (n : NodeId). is_done p.states p.origins n in
    let same : can.kept ≡ kept = same_Some can.kept kept (sym can.at ∙ at) in
    let all = list_all-append done can.kept.required can.kept.deps ∙ and_both (list_all done can.kept.required) (list_all done can.kept.deps) can.ready.required can.ready.deps in
    ap (λ (x : Kept). list_all done (x.required ++ x.deps)) (sym same) ∙ all

-- a decision
keeps_decided : (b : Bool) (old new : Planned) (rule : ℕ) (v : RuleState) → is_open old.queue rule ≡ b → v ≢ Unneeded → LeavesQueue old new → new.rules ≡ old.rules → new.origins ≡ old.origins
    → new.states ≡ (if b then set old.states rule v else old.states) → ((r : ℕ) → is_open old.queue r ≡ true → CanDecide old r) → KeepsOrder old → KeepsOrder new
keeps_decided true old new rule v o is l rules origins e can k =
    let this = can rule o in
    keeps_set old new rule v is l rules origins e (ap is_settled this.waits) (needs_of_decided old rule this) k
keeps_decided false old new rule v o is l rules origins e can k = keeps_still old new l rules origins e k

running_past : (s : RuleState) → is_running s ≡ true → is_past s ≡ true
running_past Unneeded e = absurd (cc)
running_past Waiting e = absurd (cc)
running_past Running e = refl
running_past Settled e = absurd (cc)
running_past Failed e = absurd (cc)
running_past Lacking e = absurd (cc)

running_unsettled : (s : RuleState) → is_running s ≡ true → is_settled s ≡ false
running_unsettled Unneeded e = refl
running_unsettled Waiting e = refl
running_unsettled Running e = refl
running_unsettled Settled e = absurd (cc)
running_unsettled Failed e = refl
running_unsettled Lacking e = refl

-- an ending
keeps_ended : (b : Bool) (old new : Planned) (rule : ℕ) (v : RuleState) → is_running (state_of old.states rule) ≡ b → v ≢ Unneeded → LeavesQueue old new → new.rules ≡ old.rules → new.origins ≡ old.origins
    → new.states ≡ (if b then set old.states rule v else old.states) → KeepsOrder old → KeepsOrder new
keeps_ended true old new rule v o is l rules origins e k =
    keeps_set old new rule v is l rules origins e (running_unsettled (state_of old.states rule) o) (λ kept at. k.done rule kept (running_past (state_of old.states rule) o) at) k
keeps_ended false old new rule v o is l rules origins e k = keeps_still old new l rules origins e k

-- an event that is no scan
pub event_keeps : (old : Planned) (event : PlanEvent) (new : Planned) → is_scan event ≡ false → Goes old event new.states → new.rules ≡ old.rules → new.origins ≡ old.origins → LeavesQueue old new
    → ((r : ℕ) → is_open old.queue r ≡ true → CanDecide old r) → KeepsOrder old → KeepsOrder new
event_keeps old (Scanned rule found) new quiet g rules origins l can k = absurd (cc)
event_keeps old (Fresh rule) new quiet g rules origins l can k = keeps_decided (is_open old.queue rule.0) old new rule.0 Settled refl (λ h. cc) l rules origins g can k
event_keeps old (Started rule) new quiet g rules origins l can k = keeps_decided (is_open old.queue rule.0) old new rule.0 Running refl (λ h. cc) l rules origins g can k
event_keeps old (DoneOk rule) new quiet g rules origins l can k = keeps_ended (is_running (state_of old.states rule.0)) old new rule.0 Settled refl (λ h. cc) l rules origins g k
event_keeps old (DoneFailed rule) new quiet g rules origins l can k = keeps_ended (is_running (state_of old.states rule.0)) old new rule.0 Failed refl (λ h. cc) l rules origins g k
event_keeps old (Absent rule node) new quiet g rules origins l can k = keeps_decided (is_open old.queue rule.0) old new rule.0 Lacking refl (λ h. cc) l rules origins g can k
event_keeps old Halt new quiet g rules origins l can k = keeps_still old new l rules origins g k

-- what an event that is no scan makes of what is known of rules and files: nothing
pub quiet_rules : (graph : RuleGraph) (old : Planned) (event : PlanEvent) (new : Planned) → is_scan event ≡ false → Knows graph old event new → new.rules ≡ old.rules
quiet_rules graph old (Scanned rule found) new quiet k = absurd (cc)
quiet_rules graph old (Fresh rule) new quiet k = k
quiet_rules graph old (Started rule) new quiet k = k
quiet_rules graph old (DoneOk rule) new quiet k = k
quiet_rules graph old (DoneFailed rule) new quiet k = k
quiet_rules graph old (Absent rule node) new quiet k = k
quiet_rules graph old Halt new quiet k = k

pub quiet_origins : (graph : RuleGraph) (old : Planned) (event : PlanEvent) (new : Planned) → is_scan event ≡ false → FindsBy graph old event new → new.origins ≡ old.origins
quiet_origins graph old (Scanned rule found) new quiet k = absurd (cc)
quiet_origins graph old (Fresh rule) new quiet k = k
quiet_origins graph old (Started rule) new quiet k = k
quiet_origins graph old (DoneOk rule) new quiet k = k
quiet_origins graph old (DoneFailed rule) new quiet k = k
quiet_origins graph old (Absent rule node) new quiet k = k
quiet_origins graph old Halt new quiet k = k
