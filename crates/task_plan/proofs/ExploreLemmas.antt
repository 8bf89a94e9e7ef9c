-- A walk that comes to its end has seen all rules, and none that waits for itself.
use Rattle.std.proofs.Common.{arith, ◌≡◌, ◌≢◌, ◌<◌, ◌≤◌, ◌∙◌, ◌⊎◌, inl, inr, ℕ, zero, suc, ◌+◌, List, [], ◌∷◌, ◌++◌, Bool, true, false, ◌||◌, ap, sym, refl, length, set, get_or, Some, length-append, get_or-set_other, subst}
use Rattle.std.specs.Prelude.{slice_get, map, nat_eq}
use Rattle.std.proofs.lemmas.Option.{same_Some, none-some, slice_get_within, slice_get-get_or}
use Rattle.scons_base.specs.declared.ids.RuleId.{RuleId}
use Rattle.task_plan.specs.States.{state_of}
use Rattle.task_plan.specs.Settled.{Kept, kept_of, needs_of}
use Rattle.task_plan.specs.Cycles.{is_unsettled, WaitsFor, IsCycle}
use Rattle.task_plan.specs.Orders.{makers_of}
use Rattle.task_plan.specs.Walks.{colour_of, IsToCome, IsSeen, among, IsPast, AreOrdered, IsExplored, AllEntered, EntersNeeds, with_entered}
use Rattle.task_plan.specs.declared.states.RuleState.{RuleState}
use Rattle.task_plan.specs.declared.files.Origin.{Origin}
use Rattle.task_plan.specs.declared.task.Task.{Task}
use Rattle.task_plan.specs.declared.walk.Step.{Step}
use Rattle.task_plan.specs.declared.walk.Step.TheVariants.{Enter, Leave}
use Rattle.task_plan.specs.declared.cycles.Colour.{Colour}
use Rattle.task_plan.specs.declared.cycles.Colour.TheVariants.{New, Open, Closed}
use Rattle.task_plan.proofs.MarkLemmas.{apart}
use Rattle.task_plan.proofs.ListLemmas.{get-front, get-last}
use Rattle.task_plan.proofs.WantLemmas.{kept_at}
use Rattle.task_plan.proofs.EnterLemmas.{made_maker, entered_comes}

nat_same : (m n : ℕ) → nat_eq m n ≡ true → m ≡ n
nat_same m n e = grind arith

same_eq : (n : ℕ) → nat_eq n n ≡ true
same_eq n = grind arith

rule_same : (a b : RuleId) → a.0 ≡ b.0 → a ≡ b
rule_same a b e = ap (λ (n : ℕ). let x : RuleId = record { 0 = n } in x) e

enter_leave : (r s : RuleId) → Enter r ≡ Leave s → ⊥
enter_leave r s e = cc

enter_same : (r s : RuleId) → Enter r ≡ Enter s → r ≡ s
enter_same r s e = cc

leave_same : (r s : RuleId) → Leave r ≡ Leave s → r ≡ s
leave_same r s e = cc

or_first : (a b : Bool) → a ≡ true → (a || b) ≡ true
or_first true b h = refl
or_first false b h = absurd (cc)

or_second : (a b : Bool) → b ≡ true → (a || b) ≡ true
or_second true b h = refl
or_second false b h = h

place_last : {X : Type 0} (xs : List X) (x : X) → slice_get (xs ++ x ∷ []) (length xs) ≡ Some x
place_last [] x = refl
place_last (y ∷ xs) x = place_last xs x

within_or : (n m : ℕ) → (n < m) ⊎ (m ≤ n)
within_or n m = grind arith

-- a rule that was closed is, where another one is closed or opened
set_closed : (colours : List Colour) (r : ℕ) → colour_of (set colours r Closed) r ≡ Closed
set_closed [] r = refl
set_closed (c ∷ colours) zero = refl
set_closed (c ∷ colours) (suc r) = set_closed colours r

still_closed_by : (colours : List Colour) (r x : ℕ) → (x ≡ r) ⊎ (x ≢ r) → colour_of colours x ≡ Closed → colour_of (set colours r Closed) x ≡ Closed
still_closed_by colours r x (inl same) h = ap (colour_of (set colours r Closed)) same ∙ set_closed colours r
still_closed_by colours r x (inr ne) h = get_or-set_other colours r x Closed Closed ne ∙ h

still_closed : (colours : List Colour) (r x : ℕ) → colour_of colours x ≡ Closed → colour_of (set colours r Closed) x ≡ Closed
still_closed colours r x h = still_closed_by colours r x (apart x r) h

was_closed_by : (colours : List Colour) (r x : ℕ) → (x ≡ r) ⊎ (x ≢ r) → colour_of (set colours r Closed) x ≡ Closed → (x ≡ r) ⊎ (colour_of colours x ≡ Closed)
was_closed_by colours r x (inl same) h = inl same
was_closed_by colours r x (inr ne) h = inr (sym (get_or-set_other colours r x Closed Closed ne) ∙ h)

not_closed_open : (colours : List Colour) (r : ℕ) → colour_of colours r ≡ New → colour_of (set colours r Open) r ≡ Closed → ⊥
not_closed_open [] r h e = cc
not_closed_open (c ∷ colours) zero h e = cc
not_closed_open (c ∷ colours) (suc r) h e = not_closed_open colours r h e

open_closed_by : (colours : List Colour) (r x : ℕ) → (x ≡ r) ⊎ (x ≢ r) → colour_of colours r ≡ New → colour_of (set colours r Open) x ≡ Closed → colour_of colours x ≡ Closed
open_closed_by colours r x (inl same) n h = absurd (not_closed_open colours r n (ap (colour_of (set colours r Open)) (sym same) ∙ h))
open_closed_by colours r x (inr ne) n h = sym (get_or-set_other colours r x Open Closed ne) ∙ h

closed_open_by : (colours : List Colour) (r x : ℕ) → (x ≡ r) ⊎ (x ≢ r) → colour_of colours r ≡ New → colour_of colours x ≡ Closed → colour_of (set colours r Open) x ≡ Closed
closed_open_by colours r x (inl same) n h = absurd (let no : New ≡ Closed = sym n ∙ ap (colour_of colours) (sym same) ∙ h in cc)
closed_open_by colours r x (inr ne) n h = get_or-set_other colours r x Open Closed ne ∙ h

-- the rule of a step at a place, where the last one is taken off
front_or_last : (steps : List Step) (step s : Step) (n : ℕ) → slice_get (steps ++ step ∷ []) n ≡ Some s → (slice_get steps n ≡ Some s) ⊎ (s ≡ step)
front_or_last steps step s n e = get-last steps step n s e

place_within : (steps : List Step) (step s : Step) (n : ℕ) → slice_get (steps ++ step ∷ []) n ≡ Some s → n ≤ length steps
place_within steps step s n e = let lt = slice_get_within (steps ++ step ∷ []) n s e in let l = length-append steps (step ∷ []) in omega arith

module _ (st : List RuleState) (k : List Kept) (o : List Origin) where
  -- on a cycle each rule waits for one of it
  record IsNext (cycle : List RuleId) (rule : RuleId) : Type 0 where
    next : RuleId
    place : ℕ
    at : slice_get cycle place ≡ Some next
    waits : WaitsFor st k o rule next

  next_by : (cycle : List RuleId) (i : IsCycle st k o cycle) (n : ℕ) (a : RuleId) → slice_get cycle n ≡ Some a → (n + 1 < length cycle) ⊎ (length cycle ≤ n + 1) → IsNext cycle a
  next_by cycle i n a at (inl lt) =
      let next = get_or cycle (n + 1) a in
      let there = slice_get-get_or cycle (n + 1) a lt in
      record { next = next; place = n + 1; at = there; waits = i.chain.each n a next at there }
  next_by cycle i n a at (inr le) =
      let lt = slice_get_within cycle n a at in
      let last : n + 1 ≡ length cycle = omega arith in
      record { next = i.first; place = 0; at = i.at; waits = i.back.last n a last at }

  next_of : (cycle : List RuleId) (i : IsCycle st k o cycle) (n : ℕ) (a : RuleId) → slice_get cycle n ≡ Some a → IsNext cycle a
  next_of cycle i n a at = next_by cycle i n a at (within_or (n + 1) (length cycle))

  known : (a b : RuleId) → WaitsFor st k o a b → a.0 < length k
  known a b w = slice_get_within k a.0 w.kept w.at

  never_past : (cycle : List RuleId) (i : IsCycle st k o cycle) (n : ℕ) (a : RuleId) → slice_get cycle n ≡ Some a → length k ≤ a.0 → ⊥
  never_past cycle i n a at le = let next = next_of cycle i n a at in let lt = known a next.next next.waits in omega arith

  -- no rule of a cycle stands in such an order
  none_ordered : (order : List ℕ) → AreOrdered st k o order → (cycle : List RuleId) (i : IsCycle st k o cycle) (n : ℕ) (a : RuleId) → slice_get cycle n ≡ Some a → among order a.0 ≡ true → ⊥
  none_ordered order AreOrdered.nothing cycle i n a at h = let no : false ≡ true = h in cc
  none_ordered order (AreOrdered.more {order = rest} rule f w) cycle i n a at h = by_case (λ m b there s. none_ordered rest w cycle i m b there s) (nat_eq rule.0 a.0) refl h
    where
      past_by : ((m : ℕ) (b : RuleId) → slice_get cycle m ≡ Some b → among rest b.0 ≡ true → ⊥) → (b : RuleId) (m : ℕ) → slice_get cycle m ≡ Some b → IsPast k rest b.0 → ⊥
      past_by on b m there (inl s) = on m b there s
      past_by on b m there (inr le) = never_past cycle i m b there le

      by_case : ((m : ℕ) (b : RuleId) → slice_get cycle m ≡ Some b → among rest b.0 ≡ true → ⊥) → (c : Bool) → nat_eq rule.0 a.0 ≡ c → (c || among rest a.0) ≡ true → ⊥
      by_case on true e s =
          let same : a ≡ rule = rule_same a rule (sym (nat_same rule.0 a.0 e)) in
          let next = next_of cycle i n a at in
          past_by on next.next next.place next.at (f next.next (subst (λ (x : RuleId). WaitsFor st k o x next.next) same next.waits))
      by_case on false e s = on n a at s

  -- a walk without steps has seen none that waits for itself
  pub none_waits : (colours : List Colour) (steps : List Step) → IsExplored st k o colours steps → steps ≡ [] → (cycle : List RuleId) → IsCycle st k o cycle → ⊥
  none_waits colours steps x e cycle i = by_seen (x.seen i.first (known i.first (next_of cycle i 0 i.first i.at).next (next_of cycle i 0 i.first i.at).waits))
    where
      at_none : (n : ℕ) (s : Step) → slice_get steps n ≡ Some s → ⊥
      at_none n s h = none-some s (ap (λ y. slice_get y n) (sym e) ∙ h)

      by_place : (n : ℕ) (s t : Step) → (slice_get steps n ≡ Some s) ⊎ (slice_get steps n ≡ Some t) → ⊥
      by_place n s t (inl h) = at_none n s h
      by_place n s t (inr h) = at_none n t h

      by_past : IsPast k x.order i.first.0 → ⊥
      by_past (inl h) = none_ordered x.order x.ordered cycle i 0 i.first i.at h
      by_past (inr le) = never_past cycle i 0 i.first i.at le

      by_seen : IsSeen colours steps 0 i.first → ⊥
      by_seen (inl h) = by_past (x.closed i.first.0 h)
      by_seen (inr t) = by_place t.place (Enter i.first) (Leave i.first) t.at

  -- where a rule was seen that isn't closed, it is seen where its steps are
  seen_by : (colours other : List Colour) (steps new : List Step) (from : ℕ) (rule : RuleId) → (colour_of colours rule.0 ≡ Closed → colour_of other rule.0 ≡ Closed)
      → ((n : ℕ) → from ≤ n → slice_get steps n ≡ Some (Enter rule) → IsSeen other new from rule) → ((n : ℕ) → from ≤ n → slice_get steps n ≡ Some (Leave rule) → IsSeen other new from rule)
      → IsSeen colours steps from rule → IsSeen other new from rule
  seen_by colours other steps new from rule f g h (inl c) = inl (f c)
  seen_by colours other steps new from rule f g h (inr t) = at_by t.at
    where
      at_by : (slice_get steps t.place ≡ Some (Enter rule)) ⊎ (slice_get steps t.place ≡ Some (Leave rule)) → IsSeen other new from rule
      at_by (inl e) = g t.place t.behind e
      at_by (inr e) = h t.place t.behind e

  -- the walk leaves a rule
  module _ (colours : List Colour) (steps : List Step) (rule : RuleId) (x : IsExplored st k o colours (steps ++ Leave rule ∷ [])) where
    left : (r : RuleId) → r ≡ rule → colour_of (set colours rule.0 Closed) r.0 ≡ Closed
    left r e = ap (λ y. colour_of (set colours rule.0 Closed) y.0) e ∙ set_closed colours rule.0

    left_enter : (from : ℕ) (r : RuleId) (n : ℕ) → from ≤ n → (slice_get steps n ≡ Some (Enter r)) ⊎ (Enter r ≡ Leave rule) → IsSeen (set colours rule.0 Closed) steps from r
    left_enter from r n le (inl e) = inr (record { place = n; behind = le; at = inl e })
    left_enter from r n le (inr e) = absurd (enter_leave r rule e)

    left_leave : (from : ℕ) (r : RuleId) (n : ℕ) → from ≤ n → (slice_get steps n ≡ Some (Leave r)) ⊎ (Leave r ≡ Leave rule) → IsSeen (set colours rule.0 Closed) steps from r
    left_leave from r n le (inl e) = inr (record { place = n; behind = le; at = inr e })
    left_leave from r n le (inr e) = inl (left r (leave_same r rule e))

    left_seen : (from : ℕ) (r : RuleId) → IsSeen colours (steps ++ Leave rule ∷ []) from r → IsSeen (set colours rule.0 Closed) steps from r
    left_seen from r s =
        seen_by colours (set colours rule.0 Closed) (steps ++ Leave rule ∷ []) steps from r (still_closed colours rule.0 r.0)
        (λ n le e. left_enter from r n le (front_or_last steps (Leave rule) (Enter r) n e)) (λ n le e. left_leave from r n le (front_or_last steps (Leave rule) (Leave r) n e)) s

    -- all that it waits for is closed
    left_past : (other : RuleId) → WaitsFor st k o rule other → IsSeen colours (steps ++ Leave rule ∷ []) (length steps + 1) other → IsPast k x.order other.0
    left_past other w (inl c) = x.closed other.0 c
    left_past other w (inr t) = absurd (at_by t.at)
      where
        at_by : (slice_get (steps ++ Leave rule ∷ []) t.place ≡ Some (Enter other)) ⊎ (slice_get (steps ++ Leave rule ∷ []) t.place ≡ Some (Leave other)) → ⊥
        at_by (inl e) = let le = place_within steps (Leave rule) (Enter other) t.place e in let b = t.behind in omega arith
        at_by (inr e) = let le = place_within steps (Leave rule) (Leave other) t.place e in let b = t.behind in omega arith

    past_on : (r : ℕ) → IsPast k x.order r → IsPast k (rule.0 ∷ x.order) r
    past_on r (inl h) = inl (or_second (nat_eq rule.0 r) (among x.order r) h)
    past_on r (inr le) = inr le

    left_closed : (r : ℕ) → (r ≡ rule.0) ⊎ (colour_of colours r ≡ Closed) → IsPast k (rule.0 ∷ x.order) r
    left_closed r (inl same) = inl (or_first (nat_eq rule.0 r) (among x.order r) (ap (nat_eq rule.0) same ∙ same_eq rule.0))
    left_closed r (inr c) = past_on r (x.closed r c)

    pub explored_leaves : IsExplored st k o (set colours rule.0 Closed) steps
    explored_leaves = record {
      order = rule.0 ∷ x.order;
      ordered = AreOrdered.more rule (λ other w. left_past other w (x.followed (length steps) rule other (place_last steps (Leave rule)) w)) x.ordered;
      closed = λ r c. left_closed r (was_closed_by colours rule.0 r (apart r rule.0) c);
      followed = λ n r other e w. left_seen (n + 1) other (x.followed n r other (get-front steps (Leave rule ∷ []) n (Leave r) e) w);
      seen = λ r lt. left_seen 0 r (x.seen r lt);
    }

  -- the walk comes to a rule that is closed
  module _ (colours : List Colour) (steps : List Step) (rule : RuleId) (x : IsExplored st k o colours (steps ++ Enter rule ∷ [])) (done : colour_of colours rule.0 ≡ Closed) where
    met_enter : (from : ℕ) (r : RuleId) (n : ℕ) → from ≤ n → (slice_get steps n ≡ Some (Enter r)) ⊎ (Enter r ≡ Enter rule) → IsSeen colours steps from r
    met_enter from r n le (inl e) = inr (record { place = n; behind = le; at = inl e })
    met_enter from r n le (inr e) = inl (ap (λ y. colour_of colours y.0) (enter_same r rule e) ∙ done)

    met_leave : (from : ℕ) (r : RuleId) (n : ℕ) → from ≤ n → (slice_get steps n ≡ Some (Leave r)) ⊎ (Leave r ≡ Enter rule) → IsSeen colours steps from r
    met_leave from r n le (inl e) = inr (record { place = n; behind = le; at = inr e })
    met_leave from r n le (inr e) = absurd (enter_leave rule r (sym e))

    met_seen : (from : ℕ) (r : RuleId) → IsSeen colours (steps ++ Enter rule ∷ []) from r → IsSeen colours steps from r
    met_seen from r s =
        seen_by colours colours (steps ++ Enter rule ∷ []) steps from r (λ c. c)
        (λ n le e. met_enter from r n le (front_or_last steps (Enter rule) (Enter r) n e)) (λ n le e. met_leave from r n le (front_or_last steps (Enter rule) (Leave r) n e)) s

    pub explored_met : IsExplored st k o colours steps
    explored_met = record {
      order = x.order;
      ordered = x.ordered;
      closed = x.closed;
      followed = λ n r other e w. met_seen (n + 1) other (x.followed n r other (get-front steps (Enter rule ∷ []) n (Leave r) e) w);
      seen = λ r lt. met_seen 0 r (x.seen r lt);
    }

  -- behind the steps that were there rules are entered alone
  enters_more : (rule : RuleId) (old new : List Step) → EntersNeeds st k o rule old new → (n : ℕ) (s : Step) → slice_get old n ≡ Some s → slice_get new n ≡ Some s
  enters_more rule old new EntersNeeds.none n s e = e
  enters_more rule old new (EntersNeeds.more {steps = steps} other w f) n s e = get-front steps (Enter other ∷ []) n s (enters_more rule old steps f n s e)

  enters_leave : (rule : RuleId) (old new : List Step) → EntersNeeds st k o rule old new → (n : ℕ) (r : RuleId) → slice_get new n ≡ Some (Leave r) → slice_get old n ≡ Some (Leave r)
  enters_leave rule old new EntersNeeds.none n r e = e
  enters_leave rule old new (EntersNeeds.more {steps = steps} other w f) n r e = by_last (enters_leave rule old steps f n r) (get-last steps (Enter other) n (Leave r) e)
    where
      by_last : (slice_get steps n ≡ Some (Leave r) → slice_get old n ≡ Some (Leave r)) → (slice_get steps n ≡ Some (Leave r)) ⊎ (Leave r ≡ Enter other) → slice_get old n ≡ Some (Leave r)
      by_last on (inl h) = on h
      by_last on (inr h) = absurd (enter_leave other r (sym h))

  -- the walk enters a rule that is new
  module _ (colours : List Colour) (steps new : List Step) (rule : RuleId) (x : IsExplored st k o colours (steps ++ Enter rule ∷ [])) (fresh : colour_of colours rule.0 ≡ New)
      (e : EntersNeeds st k o rule (steps ++ Leave rule ∷ []) new) (all : AllEntered st k o rule (steps ++ Leave rule ∷ []) new) where
    front : (n : ℕ) (s : Step) → slice_get steps n ≡ Some s → slice_get new n ≡ Some s
    front n s h = enters_more rule (steps ++ Leave rule ∷ []) new e n s (get-front steps (Leave rule ∷ []) n s h)

    this : slice_get new (length steps) ≡ Some (Leave rule)
    this = enters_more rule (steps ++ Leave rule ∷ []) new e (length steps) (Leave rule) (place_last steps (Leave rule))

    new_enter : (from : ℕ) (r : RuleId) (n : ℕ) → from ≤ n → n ≤ length steps → (slice_get steps n ≡ Some (Enter r)) ⊎ (Enter r ≡ Enter rule) → IsSeen (set colours rule.0 Open) new from r
    new_enter from r n le most (inl h) = inr (record { place = n; behind = le; at = inl (front n (Enter r) h) })
    new_enter from r n le most (inr h) =
        let same : rule ≡ r = sym (enter_same r rule h) in
        inr (record { place = length steps; behind = omega arith; at = inr (this ∙ ap (λ y. Some (Leave y)) same) })

    new_leave : (from : ℕ) (r : RuleId) (n : ℕ) → from ≤ n → (slice_get steps n ≡ Some (Leave r)) ⊎ (Leave r ≡ Enter rule) → IsSeen (set colours rule.0 Open) new from r
    new_leave from r n le (inl h) = inr (record { place = n; behind = le; at = inr (front n (Leave r) h) })
    new_leave from r n le (inr h) = absurd (enter_leave rule r (sym h))

    new_seen : (from : ℕ) (r : RuleId) → IsSeen colours (steps ++ Enter rule ∷ []) from r → IsSeen (set colours rule.0 Open) new from r
    new_seen from r s =
        seen_by colours (set colours rule.0 Open) (steps ++ Enter rule ∷ []) new from r (closed_open_by colours rule.0 r.0 (apart r.0 rule.0) fresh)
        (λ n le h. new_enter from r n le (place_within steps (Enter rule) (Enter r) n h) (front_or_last steps (Enter rule) (Enter r) n h))
        (λ n le h. new_leave from r n le (front_or_last steps (Enter rule) (Leave r) n h)) s

    this_seen : (n : ℕ) (r other : RuleId) → n ≤ length steps → slice_get new n ≡ Some (Leave r) → WaitsFor st k o r other → (slice_get steps n ≡ Some (Leave r)) ⊎ (Leave r ≡ Leave rule) → IsSeen (set colours rule.0 Open) new (n + 1) other
    this_seen n r other most h w (inl there) = new_seen (n + 1) other (x.followed n r other (get-front steps (Enter rule ∷ []) n (Leave r) there) w)
    this_seen n r other most h w (inr same) =
        let t = all.each other (subst (λ (y : RuleId). WaitsFor st k o y other) (leave_same r rule same) w) in
        let l = length-append steps (Leave rule ∷ []) in
        let b = t.behind in
        inr (record { place = t.place; behind = omega arith; at = t.at })

    pub explored_enters : IsExplored st k o (set colours rule.0 Open) new
    explored_enters = record {
      order = x.order;
      ordered = x.ordered;
      closed = λ r c. x.closed r (open_closed_by colours rule.0 r (apart r rule.0) fresh c);
      followed = λ n r other h w.
          let old = enters_leave rule (steps ++ Leave rule ∷ []) new e n r h in
          this_seen n r other (place_within steps (Leave rule) (Leave r) n old) h w (front_or_last steps (Leave rule) (Leave r) n old);
      seen = λ r lt. new_seen 0 r (x.seen r lt);
    }

-- what a rule waits for is to come where the rules of all its needs are
pub all_entered : (st : List RuleState) (ts : List Task) (o : List Origin) (rule : RuleId) (task : Task) (old new : List Step) → slice_get ts rule.0 ≡ Some task
    → new ≡ with_entered old (makers_of o (needs_of task)) → AllEntered st (map kept_of ts) o rule old new
all_entered st ts o rule task old new at e = record {
  each = λ other w.
      let same : w.kept ≡ kept_of task = same_Some w.kept (kept_of task) (sym w.at ∙ kept_at ts rule.0 task at) in
      let made = made_maker o (needs_of task) w.needs.place w.needs.file other (sym (ap (λ k. slice_get (k.required ++ k.deps) w.needs.place) same) ∙ w.needs.at) w.needs.made in
      subst (λ (s : List Step). IsToCome s (length old) other) (sym e) (entered_comes old (makers_of o (needs_of task)) made.0 other made.1);
}

pub none_entered : (st : List RuleState) (k : List Kept) (o : List Origin) (rule : RuleId) (old new : List Step) → is_unsettled (state_of st rule.0) ≡ false → AllEntered st k o rule old new
none_entered st k o rule old new e = record { each = λ other w. absurd (let no : false ≡ true = sym e ∙ w.unsettled in cc) }

pub past_entered : (st : List RuleState) (k : List Kept) (o : List Origin) (rule : RuleId) (old new : List Step) → length k ≤ rule.0 → AllEntered st k o rule old new
past_entered st k o rule old new le = record { each = λ other w. absurd (let lt = slice_get_within k rule.0 w.kept w.at in omega arith) }

-- nothing was seen yet
pub explored_first : (st : List RuleState) (k : List Kept) (o : List Origin) (colours : List Colour) (steps : List Step) → ((r : ℕ) → r < length k → colour_of colours r ≡ Closed → ⊥)
    → ((n : ℕ) (rule : RuleId) → slice_get steps n ≡ Some (Leave rule) → ⊥) → ((rule : RuleId) → rule.0 < length k → IsToCome steps 0 rule) → IsExplored st k o colours steps
explored_first st k o colours steps fresh entering all = record {
  order = [];
  ordered = AreOrdered.nothing;
  closed = λ r c. first_closed r c (within_or r (length k));
  followed = λ n rule other e w. absurd (entering n rule e);
  seen = λ rule lt. inr (all rule lt);
}
  where
    first_closed : (r : ℕ) → colour_of colours r ≡ Closed → (r < length k) ⊎ (length k ≤ r) → IsPast k [] r
    first_closed r c (inl lt) = absurd (fresh r lt c)
    first_closed r c (inr le) = inr le
