-- The order stands where rules pass needs, find files to scan, and are opened.
use Rattle.std.proofs.Common.{◌≡◌, ◌∙◌, ◌<◌, ◌≤◌, ◌⊎◌, ◌≢◌, inl, inr, ℕ, ◌+◌, List, [], ◌∷◌, Bool, true, false, ◌||◌, ap, sym, refl, subst, length, take, set, get_or, get_or-set_other}
use Rattle.std.specs.List.{list_all}
use Rattle.std.proofs.lemmas.List.{take_all, take_more}
use Rattle.std.proofs.lemmas.List.Folds.{list_any-append}
use Rattle.scons_base.specs.declared.ids.NodeId.{NodeId}
use Rattle.scons_base.specs.declared.ids.RuleId.{RuleId}
use Rattle.task_plan.specs.Plans.{Planned, Stays}
use Rattle.task_plan.specs.Watching.{WidensWatch, Passes, Readies, Offers}
use Rattle.task_plan.specs.Ordered.{AreReady, IsReadyFor, LeavesQueue, LeavesOrder, Precedes, PutsInOrder}
use Rattle.task_plan.specs.Named.{stands}
use Rattle.std.specs.Prelude.{nat_eq}
use Rattle.task_plan.proofs.WalkLemmas.{node_same}
use Rattle.task_plan.specs.Orders.{IsOrder}
use Rattle.task_plan.specs.States.{state_of}
use Rattle.task_plan.specs.Settled.{origin_of, is_done, is_done_from, is_settled}
use Rattle.task_plan.specs.Met.{is_met, is_met_from}
use Rattle.task_plan.specs.declared.states.RuleState.TheVariants.{Waiting}
use Rattle.task_plan.specs.declared.files.Origin.{Origin}
use Rattle.task_plan.specs.declared.files.Origin.TheVariants.{Unmet, Source, Made}
use Rattle.task_plan.proofs.MarkLemmas.{apart}
use Rattle.task_plan.proofs.ListLemmas.{list_all_weaker}
use Rattle.task_plan.proofs.PlanLemmas.{true_false}

pub leaves_same : (a : Planned) → LeavesQueue a a
leaves_same a = record { order = refl; roots = refl; fits = λ h. h }

pub leaves_trans : (a b c : Planned) → LeavesQueue a b → LeavesQueue b c → LeavesQueue a c
leaves_trans a b c l m = record { order = m.order ∙ l.order; roots = m.roots ∙ l.roots; fits = λ h. l.fits (m.fits h) }

pub leaves_passes : (a b : Planned) (rule : ℕ) → Passes a b rule → LeavesQueue a b
leaves_passes a b rule p = record {
  order = ap (λ (x : Planned). x.queue.order) p.rest;
  roots = ap (λ (x : Planned). x.notes.roots) p.rest;
  fits = λ h. sym (ap (λ (x : Planned). x.notes.is_ordered) p.rest) ∙ h;
}

pub leaves_readies : (a b : Planned) (rule start : ℕ) → Readies a b rule start → LeavesQueue a b
leaves_readies a b rule start p = record {
  order = ap (λ (x : Planned). x.queue.order) p.rest;
  roots = ap (λ (x : Planned). x.notes.roots) p.rest;
  fits = λ h. sym (ap (λ (x : Planned). x.notes.is_ordered) p.rest) ∙ h;
}

pub leaves_offers : (a b : Planned) (rule : ℕ) → Offers a b rule → LeavesQueue a b
leaves_offers a b rule o = record {
  order = o.order;
  roots = ap (λ (x : Planned). x.notes.roots) o.rest;
  fits = λ h. sym (ap (λ (x : Planned). x.notes.is_ordered) o.rest) ∙ h;
}

-- a rule that hears of a file passes needs, finds files and is opened
pub leaves_told : (a b c d : Planned) (rule start : ℕ) → Passes a b rule → Readies b c rule start → Offers c d rule → LeavesQueue a d
leaves_told a b c d rule start p r o = leaves_trans a c d (leaves_trans a b c (leaves_passes a b rule p) (leaves_readies b c rule start r)) (leaves_offers c d rule o)

-- an order is that of a plan of which the same is known
order_of : (a d : Planned) (order : List RuleId) → d.rules ≡ a.rules → d.origins ≡ a.origins → d.notes.roots ≡ a.notes.roots → d.queue.order ≡ order → IsOrder a.rules a.origins a.notes.roots order
    → IsOrder d.rules d.origins d.notes.roots d.queue.order
order_of a d order rules origins roots same o =
    subst (λ l. IsOrder d.rules d.origins d.notes.roots l) (sym same)
    (subst (λ l. IsOrder d.rules d.origins l order) (sym roots) (subst (λ l. IsOrder d.rules l a.notes.roots order) (sym origins) (subst (λ l. IsOrder l a.origins a.notes.roots order) (sym rules) o)))

-- the rules were put in an order
pub put_anew : (a b d : Planned) (order : List RuleId) → b ≡ record a { queue = b.queue } → d ≡ record b { queue = d.queue } → b.queue.order ≡ order → d.queue.order ≡ b.queue.order
    → IsOrder a.rules a.origins a.notes.roots order → PutsInOrder a (record d { notes = record d.notes { is_ordered = true } })
put_anew a b d order e f first still o = record {
  roots = ap (λ (x : Planned). x.notes.roots) both;
  order = inr (order_of a d order (ap (λ (x : Planned). x.rules) both) (ap (λ (x : Planned). x.origins) both) (ap (λ (x : Planned). x.notes.roots) both) (still ∙ first) o);
}
  where
    both : d ≡ record a { queue = d.queue }
    both = f ∙ ap (λ (x : Planned). record x { queue = d.queue }) e

pub put_still : (a b : Planned) → LeavesQueue a b → PutsInOrder a b
put_still a b l = record { roots = l.roots; order = inl l }

-- the order is seen to, and then a rule is opened
pub put_offers : (a b c : Planned) (rule : ℕ) → PutsInOrder a b → Offers b c rule → PutsInOrder a c
put_offers a b c rule p o = record { roots = ap (λ (x : Planned). x.notes.roots) o.rest ∙ p.roots; order = by p.order }
  where
    by : LeavesQueue a b ⊎ IsOrder b.rules b.origins b.notes.roots b.queue.order → LeavesQueue a c ⊎ IsOrder c.rules c.origins c.notes.roots c.queue.order
    by (inl l) = inl (leaves_trans a b c l (leaves_offers b c rule o))
    by (inr i) = inr (order_of b c b.queue.order (ap (λ (x : Planned). x.rules) o.rest) (ap (λ (x : Planned). x.origins) o.rest) (ap (λ (x : Planned). x.notes.roots) o.rest) o.order i)

pub order_same : (a : Planned) → LeavesOrder a a
order_same a = record { queue = leaves_same a; states = λ ok r. refl; origins = λ n h. refl }

pub order_trans : (a b c : Planned) → LeavesOrder a b → LeavesOrder b c → LeavesOrder a c
order_trans a b c l m = record {
  queue = leaves_trans a b c l.queue m.queue;
  states = λ ok r. m.states ok r ∙ l.states (m.queue.fits ok) r;
  origins = λ n h. m.origins n (ap is_met_from (l.origins n h) ∙ h) ∙ l.origins n h;
}

-- where no state changes, nor where files come from
pub order_stays : (a b : Planned) → Stays a b → LeavesQueue a b → LeavesOrder a b
order_stays a b s l = record { queue = l; states = λ ok r. ap (λ x. state_of x r) s.states; origins = λ n h. ap (λ x. origin_of x n.0) s.origins }

pub order_unordered : (a b : Planned) → b ≡ record a { notes = record a.notes { is_ordered = b.notes.is_ordered } } → (b.notes.is_ordered ≡ true → a.notes.is_ordered ≡ true) → LeavesOrder a b
order_unordered a b e f = record {
  queue = record { order = ap (λ (x : Planned). x.queue.order) e; roots = ap (λ (x : Planned). x.notes.roots) e; fits = f };
  states = λ ok r. ap (λ (x : Planned). state_of x.states r) e;
  origins = λ n h. ap (λ (x : Planned). origin_of x.origins n.0) e;
}

pub order_waiting : (a b : Planned) → b ≡ record a { notes = record a.notes { waiters = b.notes.waiters } } → LeavesOrder a b
order_waiting a b e = record {
  queue = record { order = ap (λ (x : Planned). x.queue.order) e; roots = ap (λ (x : Planned). x.notes.roots) e; fits = λ h. sym (ap (λ (x : Planned). x.notes.is_ordered) e) ∙ h };
  states = λ ok r. ap (λ (x : Planned). state_of x.states r) e;
  origins = λ n h. ap (λ (x : Planned). origin_of x.origins n.0) e;
}

-- a rule is needed, and the order doesn't fit
pub order_begun : (a b : Planned) (rule : ℕ) → b ≡ record a { states = set a.states rule Waiting; notes = record a.notes { is_ordered = false } } → LeavesOrder a b
order_begun a b rule e = record {
  queue = record { order = ap (λ (x : Planned). x.queue.order) e; roots = ap (λ (x : Planned). x.notes.roots) e; fits = λ h. absurd (true_false b.notes.is_ordered h (ap (λ (x : Planned). x.notes.is_ordered) e)) };
  states = λ h r. absurd (true_false b.notes.is_ordered h (ap (λ (x : Planned). x.notes.is_ordered) e));
  origins = λ n h. ap (λ (x : Planned). origin_of x.origins n.0) e;
}

-- a file is met
pub order_noted : (a b : Planned) (node : ℕ) (v : Origin) → origin_of a.origins node ≡ Unmet → b ≡ record a { origins = set a.origins node v } → LeavesOrder a b
order_noted a b node v unmet e = record {
  queue = record { order = ap (λ (x : Planned). x.queue.order) e; roots = ap (λ (x : Planned). x.notes.roots) e; fits = λ h. sym (ap (λ (x : Planned). x.notes.is_ordered) e) ∙ h };
  states = λ ok r. ap (λ (x : Planned). state_of x.states r) e;
  origins = λ n h. by n h (apart n.0 node);
}
  where
    by : (n : NodeId) → is_met a.origins n ≡ true → (n.0 ≡ node) ⊎ (n.0 ≢ node) → origin_of b.origins n.0 ≡ origin_of a.origins n.0
    by n h (inl same) = absurd (true_false (is_met a.origins n) h (ap (λ x. is_met_from (origin_of a.origins x)) same ∙ ap is_met_from unmet))
    by n h (inr ne) = ap (λ (x : Planned). origin_of x.origins n.0) e ∙ get_or-set_other a.origins node n.0 v Unmet ne

-- there is room for more
pub order_widens : (a b : Planned) → WidensWatch a b → b.notes.roots ≡ a.notes.roots → LeavesOrder a b
order_widens a b w e = record {
  queue = record { order = ap (λ q. q.order) w.queue; roots = e; fits = λ h. sym w.ordered ∙ h };
  states = λ ok r. w.states r;
  origins = λ n h. w.origins n.0;
}

-- a rule passes needs, and finds its next file
pub order_looked : (a b c : Planned) (rule start : ℕ) → Stays a b → Stays b c → Passes a b rule → Readies b c rule start → LeavesOrder a c
order_looked a b c rule start s t p r = order_trans a b c (order_stays a b s (leaves_passes a b rule p)) (order_stays b c t (leaves_readies b c rule start r))

done_in : (a b : Planned) (o p : Origin) → ((r : ℕ) → state_of b.states r ≡ state_of a.states r) → (is_met_from o ≡ true → p ≡ o) → is_done_from a.states o ≡ true → is_done_from b.states p ≡ true
done_in a b Unmet p f g h = absurd (cc)
done_in a b Source p f g h = ap (is_done_from b.states) (g refl)
done_in a b (Made rule) p f g h = ap (is_done_from b.states) (g refl) ∙ ap is_settled (f rule.0) ∙ h

-- what is done stays done where the order still fits
pub done_still : (a b : Planned) (n : NodeId) → LeavesOrder a b → b.notes.is_ordered ≡ true → is_done a.states a.origins n ≡ true → is_done b.states b.origins n ≡ true
done_still a b n l ok h = done_in a b (origin_of a.origins n.0) (origin_of b.origins n.0) (l.states ok) (l.origins n) h

pub all_done_still : (a b : Planned) (files : List NodeId) → LeavesOrder a b → b.notes.is_ordered ≡ true → list_all (λ n. is_done a.states a.origins n) files ≡ true → list_all (λ n. is_done b.states b.origins n) files ≡ true
all_done_still a b files l ok h = list_all_weaker (λ n. is_done a.states a.origins n) (λ n. is_done b.states b.origins n) files (λ n k. done_still a b n l ok k) h

-- what is ready for a rule stays so
pub ready_still : (a b : Planned) (rule : ℕ) (n : NodeId) → LeavesOrder a b → b.notes.is_ordered ≡ true → IsReadyFor a rule n → IsReadyFor b rule n
ready_still a b rule n l ok (inl h) = inl (done_still a b n l ok h)
ready_still a b rule n l ok (inr c) = inr (record { by = c.by; made = l.origins n (ap is_met_from c.made) ∙ c.made; precedes = subst (λ (q : List RuleId). Precedes q c.by.0 rule) (sym l.queue.order) c.precedes })

-- this file is ready, and no other stands here
pub ready_one : (a : Planned) (rule : ℕ) (node : NodeId) → (a.notes.is_ordered ≡ true → IsReadyFor a rule node) → AreReady a rule (node ∷ [])
ready_one a rule node r ok n h = by (nat_eq n.0 node.0) refl h
  where
    by : (b : Bool) → nat_eq n.0 node.0 ≡ b → (b || false) ≡ true → IsReadyFor a rule n
    by true e k = subst (IsReadyFor a rule) (sym (node_same n node e)) (r ok)
    by false e k = absurd (cc)

-- one more file is ready
pub ready_more : (b c : Planned) (rule : ℕ) (files : List NodeId) (i : ℕ) (d : NodeId) → i < length files → LeavesOrder b c → AreReady b rule (take i files) → AreReady c rule (get_or files i d ∷ []) → AreReady c rule (take (i + 1) files)
ready_more b c rule files i d lt l r this ok n h = by (stands (take i files) n) refl
  where
    both : (stands (take i files) n || stands (get_or files i d ∷ []) n) ≡ true
    both = sym (list_any-append (λ m. nat_eq n.0 m.0) (take i files) (get_or files i d ∷ [])) ∙ ap (λ l. stands l n) (sym (take_more files i d lt)) ∙ h

    by : (b : Bool) → stands (take i files) n ≡ b → IsReadyFor c rule n
    by true e = ready_still b c rule n l ok (r (l.queue.fits ok) n e)
    by false e = this ok n (sym (ap (λ x. x || stands (get_or files i d ∷ []) n) e) ∙ both)

pub ready_all : (b : Planned) (rule : ℕ) (files : List NodeId) (i : ℕ) → length files ≤ i → AreReady b rule (take i files) → AreReady b rule files
ready_all b rule files i le r ok n h = r ok n (ap (λ l. stands l n) (take_all i files le) ∙ h)
