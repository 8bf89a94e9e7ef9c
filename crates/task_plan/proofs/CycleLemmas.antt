-- What a walk finds that looks for a rule which waits for itself.
use Rattle.std.proofs.Common.{arith, ◌≡◌, ◌≢◌, ◌<◌, ◌≤◌, ◌∙◌, ◌⊎◌, inl, inr, ℕ, zero, suc, ◌+◌, ◌-◌, List, [], ◌∷◌, ◌++◌, Bool, true, false, ◌||◌, ap, sym, refl, length, set, take, drop, get_or, Some, length-append, get_or-set_other, subst, replicate}
use Rattle.std.specs.Prelude.{slice_get, map, nat_eq}
use Rattle.std.proofs.lemmas.Bool.Decides.{nat_tests}
use Rattle.std.proofs.lemmas.List.{take-append-le, take_all, length-drop, get_or-replicate, length-replicate, get_or_past}
use Rattle.std.proofs.lemmas.List.Folds.{list_any-append, list_any_more}
use Rattle.std.proofs.lemmas.Option.{same_Some, none-some, slice_get_within, slice_get-get_or}
use Rattle.scons_base.specs.declared.ids.RuleId.{RuleId}
use Rattle.task_plan.specs.Settled.{Kept, kept_of, needs_of}
use Rattle.task_plan.specs.States.{state_of}
use Rattle.task_plan.specs.Admits.{queues}
use Rattle.task_plan.specs.Cycles.{is_unsettled, WaitsFor, IsChain, IsLed, IsCycle}
use Rattle.task_plan.specs.Orders.{makers_of}
use Rattle.task_plan.specs.Walks.{colour_of, IsToCome, EntersNeeds, AllEntered, AreToEnter, IsExplored, IsWithin, AreOpen, IsBefore, IsOther, IsBegun, IsWalk, ComesBack, with_entered}
use Rattle.task_plan.specs.declared.states.RuleState.{RuleState}
use Rattle.task_plan.specs.declared.files.Origin.{Origin}
use Rattle.task_plan.specs.declared.task.Task.{Task}
use Rattle.task_plan.specs.declared.walk.Step.{Step}
use Rattle.task_plan.specs.declared.walk.Step.TheVariants.{Enter, Leave}
use Rattle.task_plan.specs.declared.cycles.Colour.{Colour}
use Rattle.task_plan.specs.declared.cycles.Colour.TheVariants.{New, Open, Closed}
use Rattle.task_plan.specs.declared.cycles.Walk.{Walk}
use Rattle.task_plan.proofs.MarkLemmas.{apart}
use Rattle.task_plan.proofs.PlanLemmas.{true_false}
use Rattle.task_plan.proofs.ListLemmas.{get-front, get-last, get-within, get-behind}
use Rattle.task_plan.proofs.ExploreLemmas.{explored_leaves, explored_met, explored_enters, explored_first}
use Rattle.task_plan.proofs.WantLemmas.{kept_at}
use Rattle.task_plan.proofs.EnterLemmas.{maker_made}

-- two lists that end with one item each are equal where what stands before is, and the items are
last_same : {X : Type 0} (xs ys : List X) (x y : X) → xs ++ x ∷ [] ≡ ys ++ y ∷ [] → (xs ≡ ys) × (x ≡ y)
last_same [] [] x y e = (refl, same_Some x y (ap (λ l. slice_get l 0) e))
last_same [] (b ∷ ys) x y e = absurd (let n = ap length e in let m = length-append ys (y ∷ []) in omega arith)
last_same (a ∷ xs) [] x y e = absurd (let n = ap length e in let m = length-append xs (x ∷ []) in omega arith)
last_same (a ∷ xs) (b ∷ ys) x y e =
    let head : a ≡ b = same_Some a b (ap (λ l. slice_get l 0) e) in
    let r = last_same xs ys x y (ap (drop 1) e) in
    (rw (head, r.0) refl, r.1)

never_last : {X : Type 0} (xs : List X) (x : X) → [] ≡ xs ++ x ∷ [] → ⊥
never_last xs x e = let n = ap length e in let m = length-append xs (x ∷ []) in omega arith

enters_each : (st : List RuleState) (k : List Kept) (o : List Origin) (rule : RuleId) (needed : List RuleId) (old : List Step)
    → ((n : ℕ) (other : RuleId) → slice_get needed n ≡ Some other → WaitsFor st k o rule other) → EntersNeeds st k o rule old (with_entered old needed)
enters_each st k o rule [] old f = EntersNeeds.none
enters_each st k o rule (other ∷ needed) old f = EntersNeeds.more other (f 0 other refl) (enters_each st k o rule needed old (λ n next e. f (suc n) next e))

-- a rule of the steps leads to those that it needs
pub enters_needs : (st : List RuleState) (ts : List Task) (o : List Origin) (rule : RuleId) (task : Task) (old new : List Step) → is_unsettled (state_of st rule.0) ≡ true → slice_get ts rule.0 ≡ Some task
    → new ≡ with_entered old (makers_of o (needs_of task)) → EntersNeeds st (map kept_of ts) o rule old new
enters_needs st ts o rule task old new u at e =
    let needs = λ (n : ℕ) (other : RuleId) (h : slice_get (makers_of o (needs_of task)) n ≡ Some other). maker_made o (needs_of task) n other h in
    rw e
    (enters_each st (map kept_of ts) o rule (makers_of o (needs_of task)) old
    (λ n other h. record { unsettled = u; kept = kept_of task; at = kept_at ts rule.0 task at; needs = needs n other h }))

module _ (st : List RuleState) (k : List Kept) (o : List Origin) where
  pub led_none : (rule : RuleId) → IsLed st k o [] rule
  led_none rule = record { last = λ n a e at. absurd (omega arith) }

  last_place : {X : Type 0} (xs : List X) (x y : X) (n : ℕ) → n + 1 ≡ length (xs ++ x ∷ []) → slice_get (xs ++ x ∷ []) n ≡ Some y → x ≡ y
  last_place xs x y n e at =
      let m = length-append xs (x ∷ []) in
      let past : length xs ≤ n = omega arith in
      let zero_place : n - length xs ≡ 0 = omega arith in
      let here : slice_get (x ∷ []) 0 ≡ Some y = ap (slice_get (x ∷ [])) (sym zero_place) ∙ sym (get-behind xs (x ∷ []) n past) ∙ at in
      same_Some x y here

  led_by : (chain : List RuleId) (rule other : RuleId) → WaitsFor st k o rule other → IsLed st k o (chain ++ rule ∷ []) other
  led_by chain rule other need = record { last = λ n a e at. let same : rule ≡ a = last_place chain rule a n e at in subst (λ (x : RuleId). WaitsFor st k o x other) same need }

  pub within_enters : (rule : RuleId) (chain : List RuleId) (old new : List Step) → EntersNeeds st k o rule old new → IsWithin st k o old (chain ++ rule ∷ []) → IsWithin st k o new (chain ++ rule ∷ [])
  within_enters rule chain old new EntersNeeds.none w = w
  within_enters rule chain old new (EntersNeeds.more other need e) w = IsWithin.enters other (led_by chain rule other need) (within_enters rule chain old _ e w)

  -- a walk that entered a rule led to it
  pub record IsEntering (steps : List Step) (chain : List RuleId) (rule : RuleId) : Type 0 where
    pub led : IsLed st k o chain rule
    pub within : IsWithin st k o steps chain

  enter_leave : (r s : RuleId) → Enter r ≡ Leave s → ⊥
  enter_leave r s e = cc

  enter_same : (r s : RuleId) → Enter r ≡ Enter s → r ≡ s
  enter_same r s e = cc

  leave_same : (r s : RuleId) → Leave r ≡ Leave s → r ≡ s
  leave_same r s e = cc

  entering_by : (all steps : List Step) (chain : List RuleId) (rule : RuleId) → all ≡ steps ++ Enter rule ∷ [] → IsWithin st k o all chain → IsEntering steps chain rule
  entering_by all steps chain rule e IsWithin.nothing = absurd (never_last steps (Enter rule) e)
  entering_by all steps chain rule e (IsWithin.enters r led w) =
      let both = last_same _ steps (Enter r) (Enter rule) e in
      let same : r ≡ rule = enter_same r rule both.1 in
      record { led = subst (IsLed st k o chain) same led; within = subst (λ (x : List Step). IsWithin st k o x chain) both.0 w }
  entering_by all steps chain rule e (IsWithin.leaves r w) =
      let both = last_same _ steps (Leave r) (Enter rule) e in
      absurd (enter_leave rule r (sym both.1))

  pub entering : (steps : List Step) (chain : List RuleId) (rule : RuleId) → IsWithin st k o (steps ++ Enter rule ∷ []) chain → IsEntering steps chain rule
  entering steps chain rule w = entering_by _ steps chain rule refl w

  -- a walk that leaves a rule was within it last
  pub record IsLeaving (steps : List Step) (chain : List RuleId) (rule : RuleId) : Type 0 where
    pub rest : List RuleId
    pub is : chain ≡ rest ++ rule ∷ []
    pub within : IsWithin st k o steps rest

  leaving_by : (all steps : List Step) (chain : List RuleId) (rule : RuleId) → all ≡ steps ++ Leave rule ∷ [] → IsWithin st k o all chain → IsLeaving steps chain rule
  leaving_by all steps chain rule e IsWithin.nothing = absurd (never_last steps (Leave rule) e)
  leaving_by all steps chain rule e (IsWithin.enters r led w) =
      let both = last_same _ steps (Enter r) (Leave rule) e in
      absurd (enter_leave r rule both.1)
  leaving_by all steps chain rule e (IsWithin.leaves {chain = rest} r w) =
      let both = last_same _ steps (Leave r) (Leave rule) e in
      let same : r ≡ rule = leave_same r rule both.1 in
      record { rest = rest; is = ap (λ x. rest ++ x ∷ []) same; within = subst (λ (x : List Step). IsWithin st k o x rest) both.0 w }

  pub leaving : (steps : List Step) (chain : List RuleId) (rule : RuleId) → IsWithin st k o (steps ++ Leave rule ∷ []) chain → IsLeaving steps chain rule
  leaving steps chain rule w = leaving_by _ steps chain rule refl w

  chain_front : (chain : List RuleId) (rule : RuleId) → IsChain st k o (chain ++ rule ∷ []) → IsChain st k o chain
  chain_front chain rule c = record { each = λ n a b e f. c.each n a b (get-front chain (rule ∷ []) n a e) (get-front chain (rule ∷ []) (n + 1) b f) }

  chain_more_at : (chain : List RuleId) (rule : RuleId) (n : ℕ) (a b : RuleId) → (n + 1 < length chain) ⊎ (length chain ≤ n + 1) → IsChain st k o chain → IsLed st k o chain rule
      → slice_get (chain ++ rule ∷ []) n ≡ Some a → slice_get (chain ++ rule ∷ []) (n + 1) ≡ Some b → WaitsFor st k o a b
  chain_more_at chain rule n a b (inl lt) c l e f = c.each n a b (sym (get-within chain (rule ∷ []) n (omega arith)) ∙ e) (sym (get-within chain (rule ∷ []) (n + 1) lt) ∙ f)
  chain_more_at chain rule n a b (inr le) c l e f =
      let m = length-append chain (rule ∷ []) in
      let lt = slice_get_within (chain ++ rule ∷ []) (n + 1) b f in
      let last : n + 1 ≡ length chain = omega arith in
      let same : rule ≡ b = last_place chain rule b (n + 1) (omega arith) f in
      subst (WaitsFor st k o a) same (l.last n a last (sym (get-within chain (rule ∷ []) n (omega arith)) ∙ e))

  split : (n m : ℕ) → (n < m) ⊎ (m ≤ n)
  split n m = grind arith

  pub chain_more : (chain : List RuleId) (rule : RuleId) → IsChain st k o chain → IsLed st k o chain rule → IsChain st k o (chain ++ rule ∷ [])
  chain_more chain rule c l = record { each = λ n a b e f. chain_more_at chain rule n a b (split (n + 1) (length chain)) c l e f }

-- whether a rule stands among these and one more
among-append : (chain : List RuleId) (rule : RuleId) (r : ℕ) → queues (chain ++ rule ∷ []) r ≡ (queues chain r || (nat_eq rule.0 r || false))
among-append chain rule r = list_any-append (λ q. nat_eq q.0 r) chain (rule ∷ [])

or_left : (a b : Bool) → a ≡ true → (a || b) ≡ true
or_left true b h = refl
or_left false b h = absurd (cc)

or_right : (a b : Bool) → b ≡ true → (a || b) ≡ true
or_right true b h = refl
or_right false b h = h

or_only : (a b : Bool) → b ≡ false → (a || (b || false)) ≡ true → a ≡ true
or_only true b e h = refl
or_only false true e h = absurd (cc)
or_only false false e h = h

eq_true : (m n : ℕ) → m ≡ n → nat_eq m n ≡ true
eq_true m n e = grind (arith, nat_tests)

eq_false : (m n : ℕ) → m ≢ n → nat_eq m n ≡ false
eq_false m n e = grind (arith, nat_tests)

opened_at : (colours : List Colour) (chain : List RuleId) (rule : RuleId) (r : ℕ) → (r ≡ rule.0) ⊎ (r ≢ rule.0) → AreOpen colours chain → colour_of (set colours rule.0 Open) r ≡ Open → queues (chain ++ rule ∷ []) r ≡ true
opened_at colours chain rule r (inl same) a h =
    among-append chain rule r ∙ or_right (queues chain r) (nat_eq rule.0 r || false) (or_left (nat_eq rule.0 r) false (eq_true rule.0 r (sym same)))
opened_at colours chain rule r (inr ne) a h =
    among-append chain rule r ∙ or_left (queues chain r) (nat_eq rule.0 r || false) (a.each r (sym (get_or-set_other colours rule.0 r Open Closed ne) ∙ h))

closed_here : (colours : List Colour) (r : ℕ) → colour_of (set colours r Closed) r ≡ Open → ⊥
closed_here [] r h = cc
closed_here (c ∷ colours) zero h = cc
closed_here (c ∷ colours) (suc r) h = closed_here colours r h

closed_at : (colours : List Colour) (chain : List RuleId) (rule : RuleId) (r : ℕ) → (r ≡ rule.0) ⊎ (r ≢ rule.0) → AreOpen colours (chain ++ rule ∷ []) → colour_of (set colours rule.0 Closed) r ≡ Open → queues chain r ≡ true
closed_at colours chain rule r (inl same) a h = absurd (closed_here colours rule.0 (ap (colour_of (set colours rule.0 Closed)) (sym same) ∙ h))
closed_at colours chain rule r (inr ne) a h =
    or_only (queues chain r) (nat_eq rule.0 r) (eq_false rule.0 r (λ e. ne (sym e)))
    (sym (among-append chain rule r) ∙ a.each r (sym (get_or-set_other colours rule.0 r Closed Closed ne) ∙ h))

module _ (st : List RuleState) (k : List Kept) (o : List Origin) where
  -- the walk is within one rule more
  pub walk_opens : (u v w : Walk) (rule : RuleId) → IsBefore st k o u (Enter rule) → colour_of u.colours.items rule.0 ≡ New → v.chain.items ≡ u.chain.items ++ rule ∷ [] → v.steps.items ≡ u.steps.items ++ Leave rule ∷ []
      → v.colours.items ≡ set u.colours.items rule.0 Open → w ≡ record v { steps = w.steps } → EntersNeeds st k o rule v.steps.items w.steps.items
      → AllEntered st k o rule v.steps.items w.steps.items → IsWalk st k o w
  walk_opens u v w rule i fresh c s h e n all =
      let before = entering st k o u.steps.items u.chain.items rule i.within in
      let enters : EntersNeeds st k o rule (u.steps.items ++ Leave rule ∷ []) w.steps.items = rw s at n in
      let entered : AllEntered st k o rule (u.steps.items ++ Leave rule ∷ []) w.steps.items = rw s at all in
      let chain : w.chain.items ≡ u.chain.items ++ rule ∷ [] = ap (λ (x : Walk). x.chain.items) e ∙ c in
      let colours : w.colours.items ≡ set u.colours.items rule.0 Open = ap (λ (x : Walk). x.colours.items) e ∙ h in
      let first : IsWithin st k o v.steps.items (u.chain.items ++ rule ∷ []) = rw s (IsWithin.leaves rule before.within) in
      record {
        within = rw chain (within_enters st k o rule u.chain.items v.steps.items w.steps.items n first);
        chain = rw chain (chain_more st k o u.chain.items rule i.chain before.led);
        opened = rw (chain, colours) (record { each = λ r f. opened_at u.colours.items u.chain.items rule r (apart r rule.0) i.opened f });
        explored = rw colours (explored_enters st k o u.colours.items u.steps.items w.steps.items rule i.explored fresh enters entered);
      }

  -- it leaves the last
  pub walk_leaves : (u v : Walk) (steps : List Step) (rule : RuleId) → IsWithin st k o (steps ++ Leave rule ∷ []) u.chain.items → IsChain st k o u.chain.items → AreOpen u.colours.items u.chain.items
      → IsExplored st k o u.colours.items (steps ++ Leave rule ∷ []) → v.steps.items ≡ steps
      → v.chain.items ≡ take (length u.chain.items - 1) u.chain.items → v.colours.items ≡ set u.colours.items rule.0 Closed → IsWalk st k o v
  walk_leaves u v steps rule w c a x s e h =
      let l = leaving st k o steps u.chain.items rule w in
      let n = ap length l.is in
      let m = length-append l.rest (rule ∷ []) in
      let front : take (length u.chain.items - 1) u.chain.items ≡ l.rest =
      ap (take (length u.chain.items - 1)) l.is ∙ take-append-le (length u.chain.items - 1) l.rest (rule ∷ []) (omega arith) ∙ take_all (length u.chain.items - 1) l.rest (omega arith) in
      let chain : v.chain.items ≡ l.rest = e ∙ front in
      let before : IsChain st k o (l.rest ++ rule ∷ []) = rw l.is at c in
      let opened : AreOpen u.colours.items (l.rest ++ rule ∷ []) = rw l.is at a in
      record {
        within = rw (s, chain) l.within;
        chain = rw chain (chain_front st k o l.rest rule before);
        opened = rw (chain, h) (record { each = λ r f. closed_at u.colours.items l.rest rule r (apart r rule.0) opened f });
        explored = rw (s, h) (explored_leaves st k o u.colours.items steps rule x);
      }

  -- a step was taken off
  pub walk_before : (u v : Walk) (step : Step) → IsWalk st k o u → v ≡ record u { steps = v.steps } → u.steps.items ≡ v.steps.items ++ step ∷ [] → IsBefore st k o v step
  walk_before u v step i e s =
      let chain : v.chain.items ≡ u.chain.items = ap (λ (x : Walk). x.chain.items) e in
      let colours : v.colours.items ≡ u.colours.items = ap (λ (x : Walk). x.colours.items) e in
      record { within = rw chain (rw s at i.within); chain = rw chain i.chain; opened = rw (chain, colours) i.opened; explored = rw colours (rw s at i.explored) }

  -- the walk comes to a rule that it is through with
  pub walk_met : (u : Walk) (rule : RuleId) → IsBefore st k o u (Enter rule) → colour_of u.colours.items rule.0 ≡ Closed → IsWalk st k o u
  walk_met u rule i h = record {
    within = (entering st k o u.steps.items u.chain.items rule i.within).within;
    chain = i.chain;
    opened = i.opened;
    explored = explored_met st k o u.colours.items u.steps.items rule i.explored h;
  }

  -- or it leaves one
  pub before_leaving : (u v : Walk) (rule : RuleId) → IsBefore st k o u (Leave rule) → v.steps ≡ u.steps → v.chain.items ≡ take (length u.chain.items - 1) u.chain.items
      → v.colours.items ≡ set u.colours.items rule.0 Closed → IsWalk st k o v
  before_leaving u v rule i t c h = walk_leaves u v u.steps.items rule i.within i.chain i.opened i.explored (ap (λ x. x.items) t) c h

  -- or there is no step
  pub walk_same : (u v : Walk) → IsWalk st k o u → v ≡ record u { steps = v.steps } → v.steps.items ≡ u.steps.items → IsWalk st k o v
  walk_same u v i e s =
      let chain : v.chain.items ≡ u.chain.items = ap (λ (x : Walk). x.chain.items) e in
      let colours : v.colours.items ≡ u.colours.items = ap (λ (x : Walk). x.colours.items) e in
      record { within = rw (s, chain) i.within; chain = rw chain i.chain; opened = rw (chain, colours) i.opened; explored = rw (s, colours) i.explored }

  -- the walk is within the rule already
  pub comes_back : (w : Walk) (rule : RuleId) → IsBefore st k o w (Enter rule) → colour_of w.colours.items rule.0 ≡ Open → ComesBack st k o w.chain.items rule
  comes_back w rule i h = record { linked = i.chain; among = i.opened.each rule.0 h; led = (entering st k o w.steps.items w.chain.items rule i.within).led }

  get-drop : {X : Type 0} (xs : List X) (i n : ℕ) → slice_get (drop i xs) n ≡ slice_get xs (i + n)
  get-drop xs zero n = ap (slice_get xs) (let e : n ≡ 0 + n = omega arith in e)
  get-drop [] (suc i) n = refl
  get-drop (x ∷ xs) (suc i) n = let e : suc (i + n) ≡ suc i + n = omega arith in get-drop xs i n ∙ ap (slice_get (x ∷ xs)) e

  -- the rules from one on that the last one needs
  pub cycle_from : (chain : List RuleId) (i : ℕ) (rule : RuleId) → ComesBack st k o chain rule → slice_get chain i ≡ Some rule → IsCycle st k o (drop i chain)
  cycle_from chain i rule b at =
      let lt = slice_get_within chain i rule at in
      let len = length-drop i chain in
      record {
        some = omega arith;
        chain = record {
          each = λ n x y e f.
              let g : i + (n + 1) ≡ (i + n) + 1 = omega arith in
              b.linked.each (i + n) x y (sym (get-drop chain i n) ∙ e) (ap (slice_get chain) (sym g) ∙ sym (get-drop chain i (n + 1)) ∙ f);
        };
        first = rule;
        at = get-drop chain i 0 ∙ (let g : i + 0 ≡ i = omega arith in ap (slice_get chain) g) ∙ at;
        back = record { last = λ n x e f. b.led.last (i + n) x (omega arith) (sym (get-drop chain i n) ∙ f) };
      }

-- no rule is open yet
none_open_by : (n r : ℕ) → (r < n) ⊎ (n ≤ r) → colour_of (replicate n New) r ≡ Open → ⊥
none_open_by n r (inl lt) h = let e : New ≡ Open = sym (get_or-replicate n r New Closed lt) ∙ h in cc
none_open_by n r (inr le) h = let e : Closed ≡ Open = sym (get_or_past (replicate n New) r Closed (let l = length-replicate n New in omega arith)) ∙ h in cc

either : (n m : ℕ) → (n < m) ⊎ (m ≤ n)
either n m = grind arith

new_closed : (n r : ℕ) → r < n → colour_of (replicate n New) r ≡ Closed → ⊥
new_closed n r lt h = let e : New ≡ Closed = sym (get_or-replicate n r New Closed lt) ∙ h in cc

pub begun_new : (w : Walk) (n : ℕ) → w.steps.items ≡ [] → w.chain.items ≡ [] → w.colours.items ≡ replicate n New → IsBegun n w
begun_new w n s c e = record {
  within = λ st k o. rw s IsWithin.nothing;
  chain = c;
  opened = record { each = λ r h. absurd (none_open_by n r (either r n) (sym (ap (λ x. colour_of x r) e) ∙ h)) };
  fresh = λ r lt h. new_closed n r lt (sym (ap (λ x. colour_of x r) e) ∙ h);
  entering = λ m rule h. none-some (Leave rule) (ap (λ x. slice_get x m) (sym s) ∙ h);
}

module _ (n : ℕ) (u w : Walk) (rule : RuleId) (e : w ≡ record u { steps = w.steps }) (s : w.steps.items ≡ u.steps.items ++ Enter rule ∷ []) where
  leave_by : (m : ℕ) (r : RuleId) → IsBegun n u → (slice_get u.steps.items m ≡ Some (Leave r)) ⊎ (Leave r ≡ Enter rule) → ⊥
  leave_by m r b (inl h) = b.entering m r h
  leave_by m r b (inr h) = let no : Leave r ≡ Enter rule = h in cc

  -- one more is to be entered
  pub begun_more : IsBegun n u → IsBegun n w
  begun_more b =
      let chain : w.chain.items ≡ u.chain.items = ap (λ (x : Walk). x.chain.items) e in
      let colours : w.colours.items ≡ u.colours.items = ap (λ (x : Walk). x.colours.items) e in
      record {
        within = λ st k o. rw s (IsWithin.enters rule (led_none st k o rule) (b.within st k o));
        chain = chain ∙ b.chain;
        opened = rw colours b.opened;
        fresh = λ r lt h. b.fresh r lt (sym (ap (λ x. colour_of x r) colours) ∙ h);
        entering = λ m r h. leave_by m r b (get-last u.steps.items (Enter rule) m (Leave r) (ap (λ x. slice_get x m) (sym s) ∙ h));
      }

  come_at : (p : ℕ) (r : RuleId) → (slice_get u.steps.items p ≡ Some (Enter r)) ⊎ (slice_get u.steps.items p ≡ Some (Leave r)) → (slice_get w.steps.items p ≡ Some (Enter r)) ⊎ (slice_get w.steps.items p ≡ Some (Leave r))
  come_at p r (inl h) = inl (ap (λ x. slice_get x p) s ∙ get-front u.steps.items (Enter rule ∷ []) p (Enter r) h)
  come_at p r (inr h) = inr (ap (λ x. slice_get x p) s ∙ get-front u.steps.items (Enter rule ∷ []) p (Leave r) h)

  to_come_on : (r : RuleId) → IsToCome u.steps.items 0 r → IsToCome w.steps.items 0 r
  to_come_on r t = record { place = t.place; behind = t.behind; at = come_at t.place r t.at }

  -- as many as before are
  pub to_enter_still : (i : ℕ) → AreToEnter n i u → AreToEnter n i w
  to_enter_still i a = record { begun = begun_more a.begun; each = λ r lt. to_come_on r (a.each r lt) }

  last_step : {X : Type 0} (xs : List X) (x : X) → slice_get (xs ++ x ∷ []) (length xs) ≡ Some x
  last_step [] x = refl
  last_step (y ∷ xs) x = last_step xs x

  to_enter_by : (i : ℕ) (r : RuleId) → rule.0 ≡ i → AreToEnter n i u → (r.0 < i) ⊎ (i ≤ r.0) → r.0 < i + 1 → IsToCome w.steps.items 0 r
  to_enter_by i r same a (inl lt) more = to_come_on r (a.each r lt)
  to_enter_by i r same a (inr le) more =
      let number : rule.0 ≡ r.0 = omega arith in
      let this : rule ≡ r = ap (λ (m : ℕ). let x : RuleId = record { 0 = m } in x) number in
      record { place = length u.steps.items; behind = omega arith; at = inl (ap (λ x. slice_get x (length u.steps.items)) s ∙ last_step u.steps.items (Enter rule) ∙ ap (λ x. Some (Enter x)) this) }

  -- and the next one
  pub to_enter_more : (i : ℕ) → rule.0 ≡ i → AreToEnter n i u → AreToEnter n (i + 1) w
  to_enter_more i same a = record { begun = begun_more a.begun; each = λ r lt. to_enter_by i r same a (either r.0 i) lt }

pub to_enter_none : (n : ℕ) (w : Walk) → IsBegun n w → AreToEnter n 0 w
to_enter_none n w b = record { begun = b; each = λ r lt. absurd (omega arith) }

pub begun_walk : (st : List RuleState) (k : List Kept) (o : List Origin) (n : ℕ) (w : Walk) → n ≡ length k → AreToEnter n n w → IsWalk st k o w
begun_walk st k o n w same a =
    let b = a.begun in
    record {
      within = rw b.chain (b.within st k o);
      chain = record { each = λ n x y e f. absurd (let lt = slice_get_within w.chain.items n x e in let none = ap length b.chain in omega arith) };
      opened = record { each = λ r h. rw b.chain (b.opened.each r h) };
      explored = explored_first st k o w.colours.items w.steps.items (λ r lt h. b.fresh r (omega arith) h) b.entering (λ rule lt. a.each rule (omega arith));
    }

or_neither : (a b : Bool) → a ≡ false → b ≡ false → (a || b) ≡ false
or_neither true b e f = absurd (cc)
or_neither false b e f = f

-- none of the first stands at a place more
pub none_more : (chain : List RuleId) (i r : ℕ) → i < length chain → queues (take i chain) r ≡ false → IsOther chain i r → queues (take (i + 1) chain) r ≡ false
none_more chain i r lt h other =
    let d : RuleId = record { 0 = 0 } in
    list_any_more (λ q. nat_eq q.0 r) chain i d lt
    ∙ or_neither (queues (take i chain) r) (nat_eq (get_or chain i d).0 r) h (other.each (get_or chain i d) (slice_get-get_or chain i d lt))

-- a rule that stands among these isn't missed
pub never_missed : (chain : List RuleId) (i r : ℕ) → queues chain r ≡ true → length chain ≤ i → queues (take i chain) r ≡ false → ⊥
never_missed chain i r h le none = true_false (queues chain r) h (sym (ap (λ q. queues q r) (take_all i chain le)) ∙ none)

pub ruleset seeking = (none_more, never_missed)
