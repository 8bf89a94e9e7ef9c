-- The queue keeps to the build order through a scan.
use Rattle.std.proofs.Common.{arith, ◌≡◌, ◌≢◌, ◌<◌, ◌∙◌, ◌⊎◌, inl, inr, ⊎_elim, ℕ, List, [], ◌∷◌, ◌++◌, Bool, true, false, ◌||◌, ap, sym, refl, subst, length, Option, Some, None}
use Rattle.std.specs.Prelude.{slice_get, not, nat_eq, cond, MatchOption}
use Rattle.std.specs.List.{list_all, cons_option}
use Rattle.std.proofs.lemmas.Option.{same_Some, none-some}
use Rattle.std.proofs.lemmas.List.Folds.{list_all-append}
use Rattle.scons_base.specs.declared.ids.NodeId.{NodeId}
use Rattle.scons_base.specs.declared.ids.RuleId.{RuleId}
use Rattle.rule_graph.specs.Graphs.{RuleGraph}
use Rattle.task_plan.specs.States.{state_of}
use Rattle.task_plan.specs.Settled.{Kept, origin_of, is_settled, is_done, is_done_from}
use Rattle.task_plan.specs.Plans.{Planned, AreMet, wanted}
use Rattle.task_plan.specs.Met.{is_met, is_met_from, are_met, IsFrom, AreFrom, AllMet}
use Rattle.task_plan.specs.Admits.{IsUnchanged, ScansFile, Scans}
use Rattle.task_plan.specs.Orders.{is_among, maker_of, makers_of, needed_in, needed_of, IsOrder}
use Rattle.task_plan.specs.Ordered.{is_left, left, needs_left, is_past, AreNeedsDone, IsOrderLeft, KeepsOrder, LeavesQueue, NeedsMore, Precedes, PutsInOrder, ScansOrder, TakesOrder}
use Rattle.task_plan.specs.declared.states.RuleState.{RuleState}
use Rattle.task_plan.specs.declared.states.RuleState.TheVariants.{Unneeded, Waiting}
use Rattle.task_plan.specs.declared.files.Origin.{Origin}
use Rattle.task_plan.specs.declared.files.Origin.TheVariants.{Unmet, Source, Made}
use Rattle.task_plan.proofs.MarkLemmas.{apart}
use Rattle.task_plan.proofs.ListLemmas.{and_left, and_right, and_both, none_past}
use Rattle.task_plan.proofs.PlanLemmas.{true_false}
use Rattle.task_plan.proofs.ReachedLemmas.{none_among, first_or, later}
use Rattle.task_plan.proofs.ProjectLemmas.{kept_by, kept_alike, comes_once}
use Rattle.task_plan.proofs.KeptLemmas.{settled_needs, order_left}
use Rattle.task_plan.proofs.KeepingLemmas.{IsOrderBy, carry_to}
use Rattle.task_plan.proofs.ExtendLemmas.{StandsBefore, extend, before_kept}
use Rattle.std.proofs.lemmas.Bool.Decides.{nat_tests}
use Rattle.task_plan.proofs.LeaveLemmas.{leaves_trans}

-- of each needed rule something is known
pub record HasTasks (p : Planned) : Type 0 where
  pub each : (rule : ℕ) → state_of p.states rule ≢ Unneeded → rule < length p.rules

-- what is known of other rules stays, and of rules that run or are settled
pub record LeavesOthers (old new : Planned) (rule : ℕ) : Type 0 where
  pub others : (r : ℕ) (kept : Kept) → r ≢ rule → state_of old.states r ≢ Unneeded → slice_get old.rules r ≡ Some kept → slice_get new.rules r ≡ Some kept
  pub past : (r : ℕ) (kept : Kept) → is_past (state_of old.states r) ≡ true → slice_get old.rules r ≡ Some kept → slice_get new.rules r ≡ Some kept

waiting_past : (s : RuleState) → s ≡ Waiting → is_past s ≡ true → ⊥
waiting_past s e h = true_false (is_past s) h (ap is_past e)

past_needed : (s : RuleState) → is_past s ≡ true → s ≢ Unneeded
past_needed s h e = true_false (is_past s) h (ap is_past e)

-- a scan leaves the others
pub scans_others : (graph : RuleGraph) (old new : Planned) (rule : ℕ) (found : List NodeId) → (state_of old.states rule ≡ Waiting) ⊎ (wanted old rule ≡ None) → Scans graph old rule found new → LeavesOthers old new rule
scans_others graph old new rule found w s = by (wanted old rule) refl w s
  where
    by : (o : Option NodeId) → wanted old rule ≡ o → (state_of old.states rule ≡ Waiting) ⊎ (o ≡ None) → MatchOption o (IsUnchanged old new) (λ file. ScansFile graph old new rule file found) → LeavesOthers old new rule
    by None e u k = record { others = λ r kept ne n at. ap (λ rs. slice_get rs r) k.rules ∙ at; past = λ r kept h at. ap (λ rs. slice_get rs r) k.rules ∙ at }
    by (Some file) e (inl waits) k = record {
      others = k.others;
      past = λ r kept h at. k.others r kept (λ same. waiting_past (state_of old.states rule) waits (ap (λ x. is_past (state_of old.states x)) (sym same) ∙ h)) (past_needed (state_of old.states r) h) at;
    }
    by (Some file) e (inr none) k = absurd (none-some file (sym none))

made_rule : (m n : RuleId) → Some m.0 ≡ Some n.0 → Made m ≡ Made n
made_rule m n e = ap (λ (x : ℕ). Made (record { 0 = x })) (same_Some m.0 n.0 e)

same_by : (graph : RuleGraph) (s t : List RuleState) (node : ℕ) (a b : Origin) → IsFrom graph s node a → IsFrom graph t node b → is_met_from a ≡ true → is_met_from b ≡ true → b ≡ a
same_by graph s t node Unmet b f g m n = absurd (cc)
same_by graph s t node Source Unmet f g m n = absurd (cc)
same_by graph s t node (Made rule) Unmet f g m n = absurd (cc)
same_by graph s t node Source Source f g m n = refl
same_by graph s t node Source (Made rule) f g m n = absurd (none-some rule.0 (sym f ∙ g.0))
same_by graph s t node (Made rule) Source f g m n = absurd (none-some rule.0 (sym g ∙ f.0))
same_by graph s t node (Made rule) (Made other) f g m n = made_rule other rule (sym g.0 ∙ f.0)

-- a file that was met comes from where it came
pub origin_same : (graph : RuleGraph) (old new : Planned) → AreFrom graph old → AreFrom graph new → ((n : NodeId) → is_met old.origins n ≡ true → is_met new.origins n ≡ true) → (n : NodeId) → is_met old.origins n ≡ true
    → origin_of new.origins n.0 ≡ origin_of old.origins n.0
origin_same graph old new f g met n m = same_by graph old.states new.states n.0 (origin_of old.origins n.0) (origin_of new.origins n.0) (f.each n.0) (g.each n.0) m (met n m)

-- so files that were met are made by the same rules
pub makers_same : (o p : List Origin) (files : List NodeId) → ((n : NodeId) → is_met o n ≡ true → origin_of p n.0 ≡ origin_of o n.0) → are_met o files ≡ true → makers_of o files ≡ makers_of p files
makers_same o p [] f h = refl
makers_same o p (n ∷ files) f h =
    let rest = makers_same o p files f (and_right (is_met o n) (are_met o files) h) in
    let this = f n (and_left (is_met o n) (are_met o files) h) in
    ap (λ x. cons_option (maker_of x) (makers_of o files)) (sym this) ∙ ap (cons_option (maker_of (origin_of p n.0))) rest

maker_needed : (graph : RuleGraph) (states : List RuleState) (node s : ℕ) (o : Origin) (rest : List RuleId) → IsFrom graph states node o → (is_among s rest ≡ true → state_of states s ≢ Unneeded) → is_among s (cons_option (maker_of o) rest) ≡ true
    → state_of states s ≢ Unneeded
maker_needed graph states node s Unmet rest f g h = g h
maker_needed graph states node s Source rest f g h = g h
maker_needed graph states node s (Made rule) rest f g h = ⊎_elim (λ e u. f.1 (ap (state_of states) e ∙ u)) g (first_or s rule rest h)

-- what makes a file is needed
makers_needed : (graph : RuleGraph) (p : Planned) (files : List NodeId) (s : ℕ) → AreFrom graph p → is_among s (makers_of p.origins files) ≡ true → state_of p.states s ≢ Unneeded
makers_needed graph p [] s f h = none_among s h
makers_needed graph p (n ∷ files) s f h = maker_needed graph p.states n.0 s (origin_of p.origins n.0) (makers_of p.origins files) (f.each n.0) (makers_needed graph p files s f) h

pub needed_needed : (graph : RuleGraph) (p : Planned) (r s : ℕ) → AreFrom graph p → is_among s (needed_of p.rules p.origins r) ≡ true → state_of p.states s ≢ Unneeded
needed_needed graph p r s f = by (slice_get p.rules r)
  where
    by : (o : Option Kept) → is_among s (needed_in p.origins o) ≡ true → state_of p.states s ≢ Unneeded
    by None h = none_among s h
    by (Some kept) h = makers_needed graph p (kept.required ++ kept.deps) s f h

kept_at : (b : Bool) (p : ℕ → Bool) (x : ℕ) (r : RuleId) (rs : List RuleId) → (is_among x (kept_by p rs) ≡ true → is_among x rs ≡ true) → is_among x (cond b (r ∷ kept_by p rs) (kept_by p rs)) ≡ true → is_among x (r ∷ rs) ≡ true
kept_at true p x r rs f h = more (nat_eq r.0 x) (is_among x (kept_by p rs)) (is_among x rs) f h
  where
    more : (c d e : Bool) → (d ≡ true → e ≡ true) → (c || d) ≡ true → (c || e) ≡ true
    more true d e g k = refl
    more false d e g k = g k
kept_at false p x r rs f h = later x r rs (f h)

pub among_more : (p : ℕ → Bool) (x : ℕ) (rs : List RuleId) → is_among x (kept_by p rs) ≡ true → is_among x rs ≡ true
among_more p x [] h = h
among_more p x (r ∷ rs) h = kept_at (p r.0) p x r rs (among_more p x rs) h

done_met : (states : List RuleState) (o : Origin) → is_done_from states o ≡ true → is_met_from o ≡ true
done_met states Unmet h = h
done_met states Source h = refl
done_met states (Made rule) h = refl

done_on : (old new : List RuleState) (o : Origin) → ((r : ℕ) → is_settled (state_of old r) ≡ true → is_settled (state_of new r) ≡ true) → is_done_from old o ≡ true → is_done_from new o ≡ true
done_on old new Unmet f h = h
done_on old new Source f h = h
done_on old new (Made rule) f h = f rule.0 h

eq_true : (m n : ℕ) → m ≡ n → nat_eq m n ≡ true
eq_true m n e = grind (arith, nat_tests)

eq_false : (m n : ℕ) → m ≢ n → nat_eq m n ≡ false
eq_false m n e = grind (arith, nat_tests)

-- what each rule needs, but for one
abbrev but_at : ℕ → List RuleId → (ℕ → List RuleId) → ℕ → List RuleId
but_at rule this needs r = cond (nat_eq r rule) this (needs r)

but_this : (rule : ℕ) (this : List RuleId) (needs : ℕ → List RuleId) (r : ℕ) → r ≡ rule → but_at rule this needs r ≡ this
but_this rule this needs r e = ap (λ b. cond b this (needs r)) (eq_true r rule e)

but_other : (rule : ℕ) (this : List RuleId) (needs : ℕ → List RuleId) (r : ℕ) → r ≢ rule → but_at rule this needs r ≡ needs r
but_other rule this needs r ne = ap (λ b. cond b this (needs r)) (eq_false r rule ne)

module _ (graph : RuleGraph) (old new : Planned) (rule : ℕ) (from : AreFrom graph old) (then : AreFrom graph new) (tasks : HasTasks old) (after : HasTasks new) (all_met : AllMet old) (m : AreMet old.states new.states)
    (met : (n : NodeId) → is_met old.origins n ≡ true → is_met new.origins n ≡ true) (l : LeavesOthers old new rule) (k : KeepsOrder old) where
  states_by : (r : ℕ) (P : Type 0) → ((state_of new.states r ≡ state_of old.states r) → P) → ((state_of old.states r ≡ Unneeded) → (state_of new.states r ≡ Waiting) → P) → P
  states_by r P f g = ⊎_elim f (λ b. g b.0 b.1) (m.at r)

  settled_on : (r : ℕ) → is_settled (state_of old.states r) ≡ true → is_settled (state_of new.states r) ≡ true
  settled_on r h = states_by r (is_settled (state_of new.states r) ≡ true) (λ e. ap is_settled e ∙ h) (λ u w. absurd (true_false (is_settled (state_of old.states r)) h (ap is_settled u)))

  needed_on : (r : ℕ) → state_of old.states r ≢ Unneeded → state_of new.states r ≢ Unneeded
  needed_on r n = states_by r (state_of new.states r ≢ Unneeded) (λ e h. n (sym e ∙ h)) (λ u w. absurd (n u))

  past_before : (r : ℕ) → is_past (state_of new.states r) ≡ true → is_past (state_of old.states r) ≡ true
  past_before r h = states_by r (is_past (state_of old.states r) ≡ true) (λ e. ap is_past (sym e) ∙ h) (λ u w. absurd (waiting_past (state_of new.states r) w h))

  same_origin : (n : NodeId) → is_met old.origins n ≡ true → origin_of new.origins n.0 ≡ origin_of old.origins n.0
  same_origin n h = origin_same graph old new from then met n h

  done_still : (n : NodeId) → is_done old.states old.origins n ≡ true → is_done new.states new.origins n ≡ true
  done_still n h = ap (is_done_from new.states) (same_origin n (done_met old.states (origin_of old.origins n.0) h)) ∙ done_on old.states new.states (origin_of old.origins n.0) settled_on h

  all_done : (files : List NodeId) → list_all (λ n. is_done old.states old.origins n) files ≡ true → list_all (λ n. is_done new.states new.origins n) files ≡ true
  all_done [] h = refl
  all_done (n ∷ files) h =
      and_both (is_done new.states new.origins n) (list_all (λ x. is_done new.states new.origins x) files) (done_still n (and_left (is_done old.states old.origins n) (list_all (λ x. is_done old.states old.origins x) files) h))
      (all_done files (and_right (is_done old.states old.origins n) (list_all (λ x. is_done old.states old.origins x) files) h))

  -- what was known of a needed rule
  known_of : (r : ℕ) → state_of old.states r ≢ Unneeded → (kept : Kept) × (slice_get old.rules r ≡ Some kept)
  known_of r n = by (slice_get old.rules r) refl
    where
      by : (o : Option Kept) → slice_get old.rules r ≡ o → (kept : Kept) × (slice_get old.rules r ≡ Some kept)
      by None e = let le = none_past old.rules r e in let lt = tasks.each r n in absurd (omega arith)
      by (Some kept) e = (kept, e)

  done_new : (r : ℕ) (kept : Kept) → is_past (state_of new.states r) ≡ true → slice_get new.rules r ≡ Some kept → AreNeedsDone new kept
  done_new r kept h at =
      let p = past_before r h in
      let was = known_of r (past_needed (state_of old.states r) p) in
      let same : was.0 ≡ kept = same_Some was.0 kept (sym (l.past r was.0 p was.1) ∙ at) in
      ap (λ (x : Kept). list_all (λ n. is_done new.states new.origins n) (x.required ++ x.deps)) (sym same) ∙ all_done (was.0.required ++ was.0.deps) (k.done r was.0 p was.1)

  -- what another rule needs
  needs_other : (r : ℕ) → r ≢ rule → state_of old.states r ≢ Unneeded → needed_of old.rules old.origins r ≡ needed_of new.rules new.origins r
  needs_other r ne n =
      let was = known_of r n in
      let a = all_met.each r was.0 n was.1 in
      let all = list_all-append (λ x. is_met old.origins x) was.0.required was.0.deps ∙ and_both (are_met old.origins was.0.required) (are_met old.origins was.0.deps) a.required a.deps in
      ap (needed_in old.origins) was.1 ∙ makers_same old.origins new.origins (was.0.required ++ was.0.deps) same_origin all ∙ ap (needed_in new.origins) (sym (l.others r was.0 ne n was.1))

  order_kept : ScansOrder old new rule → new.notes.is_ordered ≡ true → IsOrderLeft new
  order_kept s ok = record {
    met = taken.met;
    visits = extend (length new.rules) (but_at rule (left new.states (needed_of old.rules old.origins rule)) (needs_left new)) (needs_left new) rule more.more this others taken.visits (λ x h. inr (stands x h));
  }
    where
      more : NeedsMore old new rule
      more = s.needs ok

      still : (x : ℕ) → is_left new.states x ≡ is_left old.states x
      still x = ap (λ y. not (is_settled y)) (s.states ok x)

      same_left : (xs : List RuleId) → left new.states xs ≡ left old.states xs
      same_left xs = kept_alike (is_left new.states) (is_left old.states) still xs

      same : (r : ℕ) → state_of old.states r ≢ Unneeded → (r ≡ rule) ⊎ (r ≢ rule) → left new.states (needed_of old.rules old.origins r) ≡ but_at rule (left new.states (needed_of old.rules old.origins rule)) (needs_left new) r
      same r n (inl e) = ap (λ x. left new.states (needed_of old.rules old.origins x)) e ∙ sym (but_this rule (left new.states (needed_of old.rules old.origins rule)) (needs_left new) r e)
      same r n (inr ne) = ap (left new.states) (needs_other r ne n) ∙ sym (but_other rule (left new.states (needed_of old.rules old.origins rule)) (needs_left new) r ne)

      taken : IsOrderBy new (but_at rule (left new.states (needed_of old.rules old.origins rule)) (needs_left new))
      taken =
          carry_to old new (but_at rule (left new.states (needed_of old.rules old.origins rule)) (needs_left new)) (λ r. state_of old.states r ≢ Unneeded) (λ x h. sym (still x) ∙ h) (λ r e. same_left (needed_of old.rules old.origins r) ∙ settled_needs old k.done r (sym (still r) ∙ e)) (λ r n. same r n (apart r rule))
          (λ r t n h. needed_needed graph old r t from (among_more (is_left new.states) t (needed_of old.rules old.origins r) h)) (λ r n lt. after.each r (needed_on r n))
          (λ r n le. let lt = tasks.each r n in absurd (omega arith)) (λ r h. k.roots r (among_more (is_left new.states) r old.notes.roots h)) s.queue.order s.queue.roots (k.ordered (s.queue.fits ok))

      this : (r : ℕ) → r ≡ rule → needs_left new r ≡ but_at rule (left new.states (needed_of old.rules old.origins rule)) (needs_left new) r ++ more.more
      this r e =
          ap (needs_left new) e ∙ same_left (needed_of new.rules new.origins rule) ∙ more.is ∙ ap (λ l. l ++ more.more) (sym (same_left (needed_of old.rules old.origins rule))) ∙ ap (λ l. l ++ more.more) (sym (but_this rule (left new.states (needed_of old.rules old.origins rule)) (needs_left new) r e))

      others : (r : ℕ) → r ≢ rule → needs_left new r ≡ but_at rule (left new.states (needed_of old.rules old.origins rule)) (needs_left new) r
      others r ne = sym (but_other rule (left new.states (needed_of old.rules old.origins rule)) (needs_left new) r ne)

      stands : (x : ℕ) → is_among x more.more ≡ true → StandsBefore (left new.states new.queue.order) x rule
      stands x h =
          let p = more.before x h in
          let w = more.still x h in
          before_kept (is_left new.states) new.queue.order p.place p.further (record { 0 = x }) (record { 0 = rule }) p.before p.at p.behind (still x ∙ w.0) (still rule ∙ w.1) (comes_once (length new.rules) (but_at rule (left new.states (needed_of old.rules old.origins rule)) (needs_left new)) taken.visits)

  -- the queue keeps to the order where a scan leaves it, or makes it anew
  pub scan_keeps : TakesOrder old new rule → KeepsOrder new
  scan_keeps t = record {
    ordered = by t.order;
    done = done_new;
    roots = λ r h. needed_on r (k.roots r (ap (is_among r) (sym t.roots) ∙ h));
  }
    where
      by : ScansOrder old new rule ⊎ IsOrder new.rules new.origins new.notes.roots new.queue.order → new.notes.is_ordered ≡ true → IsOrderLeft new
      by (inl s) ok = order_kept s ok
      by (inr o) ok = record { met = left new.states o.met; visits = order_left new new.queue.order (settled_needs new done_new) o }

-- the order is seen to after a scan
pub takes_then : (a b c : Planned) (rule : ℕ) → ScansOrder a b rule → c.states ≡ b.states → c.rules ≡ b.rules → c.origins ≡ b.origins → PutsInOrder b c → TakesOrder a c rule
takes_then a b c rule s states rules origins p = record { roots = p.roots ∙ s.queue.roots; order = by p.order }
  where
    by : LeavesQueue b c ⊎ IsOrder c.rules c.origins c.notes.roots c.queue.order → ScansOrder a c rule ⊎ IsOrder c.rules c.origins c.notes.roots c.queue.order
    by (inr o) = inr o
    by (inl l) = inl (record {
      queue = leaves_trans a b c s.queue l;
      states = λ ok r. ap (λ x. state_of x r) states ∙ s.states (l.fits ok) r;
      needs = λ ok.
          let n = s.needs (l.fits ok) in
          record {
            more = n.more;
            is = ap (λ x. left a.states (needed_of x c.origins rule)) rules ∙ ap (λ x. left a.states (needed_of b.rules x rule)) origins ∙ n.is;
            before = λ r h. subst (λ (q : List RuleId). Precedes q r rule) (sym l.order) (n.before r h);
            still = n.still;
          };
    })
