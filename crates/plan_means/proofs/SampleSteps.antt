-- The plan of the example, told that its rule is up to date.
use Rattle.std.proofs.Common.{◌≡◌, ◌≢◌, ◌⊎◌, inl, inr, ℕ, zero, suc, Bool, true, false, ◌||◌, List, [], ◌∷◌, Some, refl, sym, subst, arith}
use Rattle.std.specs.Prelude.{slice_get, nat_eq}
use Rattle.scons_base.specs.declared.ids.NodeId.{NodeId}
use Rattle.task_plan.specs.States.{state_of}
use Rattle.task_plan.specs.Named.{stands}
use Rattle.task_plan.specs.Settled.{Kept, first_kept, origin_of}
use Rattle.task_plan.specs.Met.{IsFrom, AreNeedsMet}
use Rattle.task_plan.specs.Admits.{IsKnown, Follows, AllFollow}
use Rattle.task_plan.specs.Orders.{is_among, needed_of, nothing_left, IsReached, is_root, is_needed}
use Rattle.task_plan.specs.Ordered.{IsOrderLeft, KeepsOrder, AreNeedsDone, is_past}
use Rattle.task_plan.specs.Rooted.{AreReached, IsSoughtBy, AreSought}
use Rattle.task_plan.specs.Watched.{IsComplete}
use Rattle.task_plan.specs.declared.states.RuleState.TheVariants.{Unneeded, Waiting, Settled}
use Rattle.task_plan.specs.declared.want.PlanEvent.TheVariants as told
use Rattle.task_plan.proofs.ReachedLemmas.{same_number}
use Rattle.build_model.proofs.Lists.{true_false, none_some, some_same}
use Rattle.plan_means.specs.Planning.{IsStep}
use Rattle.plan_means.specs.Examples.{object_rule, graph, first_rule, plan, settled_plan}

only_rule : (P : ℕ → Type 0) → P 0 → (number : ℕ) → state_of settled_plan.states number ≢ Unneeded → P number
only_rule P p zero needed = p
only_rule P p (suc n) needed = absurd (needed refl)

settled_needed : Settled ≢ Unneeded
settled_needed e = cc

settled_waits : Settled ≢ Waiting
settled_waits e = cc

unneeded_waits : Unneeded ≢ Waiting
unneeded_waits e = cc

only_first : (c : Bool) → (c || false) ≡ true → c ≡ true
only_first true e = refl
only_first false e = e

none_waits : (rule : ℕ) → state_of settled_plan.states rule ≡ Waiting → ⊥
none_waits zero e = settled_waits e
none_waits (suc n) e = unneeded_waits e

follows : Follows (first_kept graph object_rule)
follows = record { files = record { whole = refl; earlier = λ n file at le. none_some at }; deps = refl }

follow : AllFollow settled_plan
follow zero k e h = subst Follows (some_same e) follows
follow (suc n) k e h = none_some e

from : (node : ℕ) → IsFrom graph settled_plan.states node (origin_of settled_plan.origins node)
from zero = refl
from (suc zero) = (refl, settled_needed)
from (suc (suc n)) = tt

needs_met : AreNeedsMet settled_plan.origins (first_kept graph object_rule)
needs_met = record { required = refl; deps = refl; found = λ file other h. true_false (sym h) }

all_met : (rule : ℕ) (k : Kept) → slice_get settled_plan.rules rule ≡ Some k → AreNeedsMet settled_plan.origins k
all_met zero k e = subst (AreNeedsMet settled_plan.origins) (some_same e) needs_met
all_met (suc n) k e = none_some e

no_more : (n : ℕ) → is_among (suc n) (first_rule ∷ []) ≡ true → ⊥
no_more n h = let e : 0 ≡ suc n = same_number 0 (suc n) (only_first (nat_eq 0 (suc n)) h) in absurd (omega (arith, e))

none_needed : (other n : ℕ) → is_among n (needed_of settled_plan.rules settled_plan.origins other) ≡ true → ⊥
none_needed zero n h = true_false (sym h)
none_needed (suc other) n h = true_false (sym h)

reached_only : {rule : ℕ} →
    IsReached (needed_of settled_plan.rules settled_plan.origins) settled_plan.notes.roots rule →
    is_among rule (first_rule ∷ []) ≡ true
reached_only (is_root h) = h
reached_only {rule} (is_needed other i h) = absurd (none_needed other rule h)

needed_still : (rule : ℕ) → state_of plan.states rule ≢ Unneeded → state_of settled_plan.states rule ≢ Unneeded
needed_still zero needed = settled_needed
needed_still (suc n) needed = needed

root_needed : (rule : ℕ) → is_among rule (first_rule ∷ []) ≡ true → state_of settled_plan.states rule ≢ Unneeded
root_needed zero h = settled_needed
root_needed (suc n) h = absurd (no_more n h)

reached : AreReached settled_plan
reached = record {
  each = λ rule needed. only_rule (λ n. IsReached (needed_of settled_plan.rules settled_plan.origins)
      settled_plan.notes.roots n) (is_root refl) rule needed;
  only = λ rule i. root_needed rule (reached_only i);
}

still_sought : (requested : List NodeId) → AreSought requested plan → AreSought requested settled_plan
still_sought requested s = record { each = λ n met. by n (s.each n met) }
  where
    by : (n : NodeId) → (stands requested n ≡ true) ⊎ IsSoughtBy plan n → (stands requested n ≡ true) ⊎ IsSoughtBy settled_plan n
    by n (inl asked) = inl asked
    by n (inr k) = inr (record { rule = k.rule; needed = needed_still k.rule k.needed; needs = k.needs })

complete : IsComplete settled_plan
complete = record {
  watched = record { each = λ rule apart. record { each = λ k at waits e f. absurd (none_waits rule waits) } };
  queued = record {
    placed = λ ordered rule waits. absurd (none_waits rule waits);
    opened = λ ordered rule apart. record { opened = λ k at waits e f passed whole. absurd (none_waits rule waits) };
  };
  ordered = record { fits = λ none. refl };
  room = record { marks = omega arith; waiters = omega arith };
}

needs_done : (rule : ℕ) (k : Kept) → is_past (state_of settled_plan.states rule) ≡ true →
    slice_get settled_plan.rules rule ≡ Some k → AreNeedsDone settled_plan k
needs_done zero k past e = subst (AreNeedsDone settled_plan) (some_same e) refl
needs_done (suc n) k past e = none_some e

order_left : IsOrderLeft settled_plan
order_left = record { met = []; visits = nothing_left }

order : KeepsOrder settled_plan
order = record { ordered = λ e. order_left; done = needs_done; roots = root_needed }

known : IsKnown graph settled_plan.rules 0
known = record {
  of = object_rule;
  at = refl;
  kept = first_kept graph object_rule;
  is = refl;
  targets = refl;
  required = refl;
  named = refl;
  sources = refl;
  left_out = refl;
  whole = refl;
}

pub fresh_step : IsStep graph plan (told.Fresh first_rule) settled_plan
fresh_step = record {
  states = refl;
  knows = refl;
  fits = λ f rule needed. only_rule (λ n. IsKnown graph settled_plan.rules n) known rule needed;
  follow = follow;
  origins = λ f. record { each = from };
  needs = λ nodes f m. record { each = λ rule k needed e. all_met rule k e };
  only = λ nodes f o m r. reached;
  sought = λ nodes f o m r. record { each = still_sought };
  roots = refl;
  complete = λ nodes f o m r c. complete;
  order = λ nodes f o m k. order;
}
