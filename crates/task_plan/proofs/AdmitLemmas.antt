-- How rules come to be known, one step after another.
use Rattle.std.proofs.Common.{arith, ◌≡◌, ◌≢◌, ◌<◌, ◌≤◌, ◌∙◌, ◌⊎◌, inl, inr, ℕ, ◌+◌, List, [], ◌∷◌, ◌++◌, Bool, true, false, ◌||◌, ap, sym, refl, length, set, drop, Option, Some, None, append_assoc, length-set, get_or-set_same}
use Rattle.std.specs.Prelude.{slice_get, nat_eq, nat_lt, MatchOption, if◌then◌else◌}
use Rattle.std.proofs.lemmas.List.{append-nil, drop_all, drop_more, drop-append-le}
use Rattle.std.proofs.lemmas.List.Folds.{list_any-append, list_all-append}
use Rattle.std.proofs.lemmas.Option.{same_Some, slice_get_within, get_or_from_slice_get}
use Rattle.std.proofs.lemmas.Bool.Decides.{nat_tests}
use Rattle.scons_base.specs.declared.ids.NodeId.{NodeId}
use Rattle.scons_base.specs.declared.ids.RuleId.{RuleId}
use Rattle.rule_graph.specs.declared.rule.Rule.{Rule}
use Rattle.rule_graph.specs.Graphs.{RuleGraph}
use Rattle.task_plan.specs.States.{state_of, is_running}
use Rattle.task_plan.specs.Queues.{is_open}
use Rattle.task_plan.specs.Named.{named_of}
use Rattle.task_plan.specs.Settled.{Kept, kept_of, first_kept, origin_of}
use Rattle.task_plan.specs.Loaded.{IsTaskOf}
use Rattle.task_plan.specs.Plans.{Planned, Stays, wanted, AreWaiting, Goes}
use Rattle.task_plan.specs.Admits.{IsFirstAt, IsKnown, Fits, TakesScan, ScansFile, IsUnchanged, Scans, Knows, queues, IsSame, Widens, StaysAt, Admission, ComesAt, Admits, are_rules, Brings, none, IsBegun, NotesFile, NotesNone, IsAdmitted}
use Rattle.task_plan.specs.Met.{is_met_from, is_met, are_met, KeepsRoom}
use Rattle.task_plan.specs.declared.states.RuleState.{RuleState}
use Rattle.task_plan.specs.declared.states.RuleState.TheVariants.{Unneeded, Waiting, Running, Settled, Failed, Lacking}
use Rattle.task_plan.specs.declared.task.Task.{Task}
use Rattle.task_plan.specs.declared.want.PlanEvent.{PlanEvent}
use Rattle.task_plan.specs.declared.want.PlanEvent.TheVariants.{Scanned, Fresh, Started, DoneOk, DoneFailed, Absent, Halt}
use Rattle.task_plan.proofs.MarkLemmas.{apart}
use Rattle.task_plan.proofs.PlanLemmas.{true_false, set_other}
use Rattle.task_plan.proofs.ListLemmas.{get-set_other, get-set_same, get-front, none_past, and_both, all_by, list_all_weaker}
use Rattle.task_plan.proofs.MetLemmas.{lt_from, keeps_same, keeps_trans}

pub same_at : (a b : Planned) (r : ℕ) → b.states ≡ a.states → b.rules ≡ a.rules → IsSame a b r
same_at a b r e f = record { state = ap (λ s. state_of s r) e; kept = λ k at. ap (λ s. slice_get s r) f ∙ at }

same_then : (a b c : Planned) (r : ℕ) → IsSame a b r → IsSame b c r → IsSame a c r
same_then a b c r s t = record { state = t.state ∙ s.state; kept = λ k at. t.kept k (s.kept k at) }

pub widens_stays : (a b : Planned) → Stays a b → Widens a b
widens_stays a b s = record {
  each = λ r. same_at a b r s.states s.rules;
  origins = λ n. ap (λ o. origin_of o n) s.origins;
  keeps = keeps_same a b s.origins s.states;
}

pub widens_same : (a b : Planned) → b ≡ a → Widens a b
widens_same a b e = record {
  each = λ r. same_at a b r (ap (λ p. p.states) e) (ap (λ p. p.rules) e);
  origins = λ n. ap (λ p. origin_of p.origins n) e;
  keeps = keeps_same a b (ap (λ p. p.origins) e) (ap (λ p. p.states) e);
}

pub widens_trans : (a b c : Planned) → Widens a b → Widens b c → Widens a c
widens_trans a b c v w = record {
  each = λ r. same_then a b c r (v.each r) (w.each r);
  origins = λ n. w.origins n ∙ v.origins n;
  keeps = keeps_trans a b c v.keeps w.keeps;
}

-- there is a rule more
pub widens_more : (a b : Planned) (x : Kept) → b.states ≡ a.states → b.rules ≡ a.rules ++ x ∷ [] → b.origins ≡ a.origins → Widens a b
widens_more a b x e f o = record {
  each = λ r. record { state = ap (λ s. state_of s r) e; kept = λ k at. ap (λ s. slice_get s r) f ∙ get-front a.rules (x ∷ []) r k at };
  origins = λ n. ap (λ y. origin_of y n) o;
  keeps = keeps_same a b o e;
}

-- or a state more
pub widens_states : (a b : Planned) → ((r : ℕ) → state_of b.states r ≡ state_of a.states r) → b.rules ≡ a.rules → b.origins ≡ a.origins → length a.states ≤ length b.states → Widens a b
widens_states a b e f o le = record {
  each = λ r. record { state = e r; kept = λ k at. ap (λ s. slice_get s r) f ∙ at };
  origins = λ n. ap (λ y. origin_of y n) o;
  keeps = record { met = λ n h. ap (λ y. is_met y n) o ∙ h; files = let n = ap length o in omega arith; states = le };
}

-- or files more
pub widens_files : (a b : Planned) → b.states ≡ a.states → b.rules ≡ a.rules → ((n : ℕ) → origin_of b.origins n ≡ origin_of a.origins n) → length a.origins ≤ length b.origins → Widens a b
widens_files a b e f o le = record {
  each = λ r. same_at a b r e f;
  origins = o;
  keeps = record { met = λ n h. ap is_met_from (o n.0) ∙ h; files = le; states = let n = ap length e in omega arith };
}

pub ruleset widening = (widens_same, widens_stays, widens_trans)

or_none : (x : Bool) → x ≡ false → (x || false) ≡ false
or_none true h = h
or_none false h = refl

pub lt_true : (m n : ℕ) → m < n → nat_lt m n ≡ true
lt_true m n h = grind (arith, nat_tests)

eq_true : (m n : ℕ) → m ≡ n → nat_eq m n ≡ true
eq_true m n e = grind (arith, nat_tests)

eq_false : (m n : ℕ) → m ≢ n → nat_eq m n ≡ false
eq_false m n e = grind (arith, nat_tests)

-- a rule that wasn't needed waits now
pub begun_set : (a b : Planned) (rule : ℕ) → state_of a.states rule ≡ Unneeded → b.states ≡ set a.states rule Waiting → b.rules ≡ a.rules → b.origins ≡ a.origins → IsBegun a b rule
begun_set a b rule u e f o = record {
  was = u;
  states = λ r ne. ap (λ s. state_of s r) e ∙ set_other a.states rule r Waiting ne;
  rules = f;
  origins = o;
  room = ap length e ∙ length-set a.states rule Waiting;
}

-- so it is needed
pub begun_needed : (a b : List RuleState) (rule : ℕ) → rule < length a → b ≡ set a rule Waiting → state_of b rule ≢ Unneeded
begun_needed a b rule lt e = λ u.
    let waits : state_of b rule ≡ Waiting = ap (λ s. state_of s rule) e ∙ get_or-set_same a rule Waiting Unneeded lt in
    let no : Waiting ≡ Unneeded = sym waits ∙ u in
    cc

module _ (g : RuleGraph) where
  pub admits_widens : (a b : Planned) → Widens a b → Admits g a b none []
  admits_widens a b w = record { each = λ r. inl (record { same = w.each r; skipped = refl; queued = refl }); keeps = w.keeps }

  -- a file was met
  admits_noted : (a b : Planned) → b.states ≡ a.states → b.rules ≡ a.rules → KeepsRoom a b → Admits g a b none []
  admits_noted a b e f k = record { each = λ r. inl (record { same = same_at a b r e f; skipped = refl; queued = refl }); keeps = k }

  admitted_still : (a b : Planned) (r : ℕ) → IsSame a b r → KeepsRoom a b → IsAdmitted g a r → IsAdmitted g b r
  admitted_still a b r s k f = record {
    of = f.of;
    at = f.at;
    is = s.kept (first_kept g f.of) f.is;
    met = list_all_weaker (λ n. is_met a.origins n) (λ n. is_met b.origins n) (f.of.required ++ named_of f.of) k.met f.met;
  }

  -- the queue goes on to another one, where the rules that leave it are skipped
  module _ (a b c : Planned) (s t : ℕ → Bool) (p q u : List RuleId) (r : ℕ) (leave : queues p r ≡ true → (t r ≡ true) ⊎ (queues u r ≡ true)) (come : queues q r ≡ true → queues u r ≡ true)
      (skips : t r ≡ true → (s r ≡ true) ⊎ (queues p r ≡ true)) (all : queues u r ≡ true → (queues p r ≡ true) ⊎ (queues q r ≡ true)) (keeps : KeepsRoom b c) where
    false_by : (x : Bool) → (x ≡ true → ⊥) → x ≡ false
    false_by true f = absurd (f refl)
    false_by false f = refl

    no_queue : queues p r ≡ false → queues q r ≡ false → (queues p r ≡ true) ⊎ (queues q r ≡ true) → ⊥
    no_queue e f (inl h) = true_false (queues p r) h e
    no_queue e f (inr h) = true_false (queues q r) h f

    admission_on : Admission g c q r → Admission g c u r
    admission_on (inl f) = inl f
    admission_on (inr (inl e)) = inr (inl e)
    admission_on (inr (inr h)) = inr (inr (come h))

    leaves : t r ≡ false → (t r ≡ true) ⊎ (queues u r ≡ true) → Admission g c u r
    leaves e (inl h) = absurd (true_false (t r) h e)
    leaves e (inr h) = inr (inr h)

    admission_same : StaysAt b c t q r → Admission g b p r → Admission g c u r
    admission_same k (inl f) = inl (admitted_still b c r k.same keeps f)
    admission_same k (inr (inl e)) = inr (inl (k.same.state ∙ e))
    admission_same k (inr (inr h)) = leaves k.skipped (leave h)

    from_skip : StaysAt a b s p r → (s r ≡ true) ⊎ (queues p r ≡ true) → ⊥
    from_skip k (inl h) = true_false (s r) h k.skipped
    from_skip k (inr h) = true_false (queues p r) h k.queued

    from_on : StaysAt a b s p r → (state_of b.states r ≡ Unneeded) ⊎ (t r ≡ true) → (state_of a.states r ≡ Unneeded) ⊎ (s r ≡ true)
    from_on k (inl e) = inl (sym k.same.state ∙ e)
    from_on k (inr h) = absurd (from_skip k (skips h))

    then_at : StaysAt a b s p r ⊎ ComesAt g a b s p r → StaysAt b c t q r ⊎ ComesAt g b c t q r → StaysAt a c s u r ⊎ ComesAt g a c s u r
    then_at (inl k) (inl l) = inl (record {
      same = same_then a b c r k.same l.same;
      skipped = k.skipped;
      queued = false_by (queues u r) (λ h. no_queue k.queued l.queued (all h));
    })
    then_at (inl k) (inr l) = inr (record { from = from_on k l.from; to = admission_on l.to })
    then_at (inr k) (inl l) = inr (record { from = k.from; to = admission_same l k.to })
    then_at (inr k) (inr l) = inr (record { from = k.from; to = admission_on l.to })

  or_split : (x y : Bool) → (x || y) ≡ true → (x ≡ true) ⊎ (y ≡ true)
  or_split true y h = inl refl
  or_split false y h = inr h

  or_first : (x y : Bool) → x ≡ true → (x || y) ≡ true
  or_first true y h = refl
  or_first false y h = absurd (cc)

  or_second : (x y : Bool) → y ≡ true → (x || y) ≡ true
  or_second true y h = refl
  or_second false y h = h

  queues-append : (p q : List RuleId) (r : ℕ) → queues (p ++ q) r ≡ (queues p r || queues q r)
  queues-append p q r = list_any-append (λ x. nat_eq x.0 r) p q

  pub in_first : (p q : List RuleId) (r : ℕ) → queues p r ≡ true → queues (p ++ q) r ≡ true
  in_first p q r h = queues-append p q r ∙ or_first (queues p r) (queues q r) h

  pub in_second : (p q : List RuleId) (r : ℕ) → queues q r ≡ true → queues (p ++ q) r ≡ true
  in_second p q r h = queues-append p q r ∙ or_second (queues p r) (queues q r) h

  pub in_either : (p q : List RuleId) (r : ℕ) → queues (p ++ q) r ≡ true → (queues p r ≡ true) ⊎ (queues q r ≡ true)
  in_either p q r h = or_split (queues p r) (queues q r) (sym (queues-append p q r) ∙ h)

  -- first some rules are met or admitted, and then others are met
  pub admits_then : (a b c : Planned) (s : ℕ → Bool) (p q : List RuleId) → Admits g a b s p → Admits g b c none q → Admits g a c s (p ++ q)
  admits_then a b c s p q k l = record {
    each = λ r.
        then_at a b c s none p q (p ++ q) r (λ h. inr (in_first p q r h)) (λ h. in_second p q r h) (λ h. absurd (cc)) (λ h. in_either p q r h) l.keeps (k.each r) (l.each r);
    keeps = keeps_trans a b c k.keeps l.keeps;
  }

  -- rules are met, and then admitted
  pub admits_all : (a b c : Planned) (p : List RuleId) → Admits g a b none p → Admits g b c (queues p) [] → Admits g a c none []
  admits_all a b c p k l = record {
    each = λ r.
        then_at a b c none (queues p) p [] [] r (λ h. inl h) (λ h. h) (λ h. inr h) (λ h. inr h) l.keeps (k.each r) (l.each r);
    keeps = keeps_trans a b c k.keeps l.keeps;
  }

  pub brings_none : (a b : Planned) (p q : List RuleId) → Widens a b → q ≡ p → Brings g a b none p q
  brings_none a b p q w e = record { more = []; is = e ∙ sym (append-nil p); rules = refl; admits = admits_widens a b w }

  rules_both : (p q : List RuleId) → are_rules g p ≡ true → are_rules g q ≡ true → are_rules g (p ++ q) ≡ true
  rules_both p q e f = list_all-append (λ x. nat_lt x.0 (length g.rules)) p q ∙ and_both (are_rules g p) (are_rules g q) e f

  pub brings_then : (a b c : Planned) (s : ℕ → Bool) (p q u : List RuleId) → Brings g a b s p q → Brings g b c none q u → Brings g a c s p u
  brings_then a b c s p q u k l = record {
    more = k.more ++ l.more;
    is = l.is ∙ ap (λ x. x ++ l.more) k.is ∙ append_assoc p k.more l.more;
    rules = rules_both k.more l.more k.rules l.rules;
    admits = admits_then a b c s k.more l.more k.admits l.admits;
  }

  pub brings_widens : (a b c : Planned) (s : ℕ → Bool) (p q : List RuleId) → Brings g a b s p q → Widens b c → Brings g a c s p q
  brings_widens a b c s p q k w = brings_then a b c s p q q k (brings_none b c q q w refl)

  pub widens_brings : (a b c : Planned) (p q : List RuleId) → Widens a b → Brings g b c none p q → Brings g a c none p q
  widens_brings a b c p q w k = brings_then a b c none p p q (brings_none a b p p w refl) k

  -- a file was met, and then rules were
  pub noted_brings : (a b c : Planned) (p q : List RuleId) → b.states ≡ a.states → b.rules ≡ a.rules → KeepsRoom a b → Brings g b c none p q → Brings g a c none p q
  noted_brings a b c p q e f n k =
      brings_then a b c none p p q (record { more = []; is = sym (append-nil p); rules = refl; admits = admits_noted a b e f n }) k

  -- or no rule is
  pub brings_noted : (a b : Planned) (p q : List RuleId) → b.states ≡ a.states → b.rules ≡ a.rules → KeepsRoom a b → q ≡ p → Brings g a b none p q
  brings_noted a b p q e f n same = record { more = []; is = same ∙ sym (append-nil p); rules = refl; admits = admits_noted a b e f n }

  begun_at : (a b : Planned) (rule : RuleId) (r : ℕ) → (r ≡ rule.0) ⊎ (r ≢ rule.0) → IsBegun a b rule.0 → StaysAt a b none (rule ∷ []) r ⊎ ComesAt g a b none (rule ∷ []) r
  begun_at a b rule r (inl same) k = inr (record { from = inl (ap (state_of a.states) same ∙ k.was); to = inr (inr (or_first (nat_eq rule.0 r) false (eq_true rule.0 r (sym same)))) })
  begun_at a b rule r (inr ne) k = inl (record {
    same = record { state = k.states r ne; kept = λ x at. ap (λ s. slice_get s r) k.rules ∙ at };
    skipped = refl;
    queued = or_none (nat_eq rule.0 r) (eq_false rule.0 r (λ e. ne (sym e)));
  })

  -- a rule is met
  pub brings_begun : (a b : Planned) (rule : RuleId) (p q : List RuleId) → IsBegun a b rule.0 → rule.0 < length g.rules → q ≡ p ++ rule ∷ [] → Brings g a b none p q
  brings_begun a b rule p q k lt e = record {
    more = rule ∷ [];
    is = e;
    rules = and_both (nat_lt rule.0 (length g.rules)) true (lt_true rule.0 (length g.rules) lt) refl;
    admits = record {
      each = λ r. begun_at a b rule r (apart r rule.0) k;
      keeps = record { met = λ n h. ap (λ o. is_met o n) k.origins ∙ h; files = let n = ap length k.origins in omega arith; states = let n = k.room in omega arith };
    };
  }

  past_none : (rules : List Kept) (n : ℕ) (x : Option Kept) → slice_get rules n ≡ x → n < length rules → (k : Kept) × (slice_get rules n ≡ Some k)
  past_none rules n None e lt = absurd (let le = none_past rules n e in omega arith)
  past_none rules n (Some k) e lt = (k, e)

  pub put_known : (a b : Planned) (rule : ℕ) (of : Rule) (task : Task) → b.rules ≡ set a.rules rule (kept_of task) → length a.states ≤ length a.rules → length g.rules ≤ length a.states
      → slice_get g.rules rule ≡ Some of → IsTaskOf g of task → slice_get b.rules rule ≡ Some (first_kept g of)
  put_known a b rule of task f room fits at t =
      let lt = slice_get_within g.rules rule of at in
      let there = past_none a.rules rule (slice_get a.rules rule) refl (omega arith) in
      ap (λ y. slice_get y rule) f ∙ get-set_same a.rules rule (kept_of task) there.0 there.1 ∙ ap Some t.kept

  -- a rule is as needed as it was, and what was known of the others is
  put_same : (a b : Planned) (rule r : ℕ) (v : Kept) → r ≢ rule → b.states ≡ a.states → b.rules ≡ set a.rules rule v → IsSame a b r
  put_same a b rule r v ne s f = record { state = ap (λ y. state_of y r) s; kept = λ k there. ap (λ y. slice_get y r) f ∙ get-set_other a.rules rule r v ne ∙ there }

  module _ (a b c e : Planned) (rule : ℕ) (of : Rule) (task : Task) (p : List RuleId) (s : b.states ≡ a.states) (f : b.rules ≡ set a.rules rule (kept_of task)) (o : b.origins ≡ a.origins)
      (room : length a.states ≤ length a.rules) (fits : length g.rules ≤ length a.states) (at : slice_get g.rules rule ≡ Some of) (t : IsTaskOf g of task) (k : Admits g b c none p) (rules : c.rules ≡ b.rules)
      (w : Widens c e) (met : are_met c.origins (of.required ++ named_of of) ≡ true) where
    put_keeps : KeepsRoom a e
    put_keeps = keeps_trans a b e (keeps_same a b o s) (keeps_trans b c e k.keeps w.keeps)

    put_here : IsAdmitted g e rule
    put_here =
        let known : slice_get c.rules rule ≡ Some (first_kept g of) = ap (λ y. slice_get y rule) rules ∙ put_known a b rule of task f room fits at t in
        record {
          of = of;
          at = at;
          is = (w.each rule).kept (first_kept g of) known;
          met = list_all_weaker (λ n. is_met c.origins n) (λ n. is_met e.origins n) (of.required ++ named_of of) w.keeps.met met;
        }

    put_other : (r : ℕ) → r ≢ rule → StaysAt a e (nat_eq rule) p r ⊎ ComesAt g a e (nat_eq rule) p r
    put_other r ne =
        let l : Admits g b e none (p ++ []) = admits_then b c e none p [] k (admits_widens c e w) in
        then_at a b e (nat_eq rule) none [] p p r (λ h. absurd (cc)) (λ h. h) (λ h. absurd (cc)) (λ h. inr h) (keeps_trans b c e k.keeps w.keeps)
        (inl (record { same = put_same a b rule r (kept_of task) ne s f; skipped = eq_false rule r (λ x. ne (sym x)); queued = refl }))
        ((rw append-nil at l).each r)

    put_at : (r : ℕ) → (r ≡ rule) ⊎ (r ≢ rule) → StaysAt a e (nat_eq rule) p r ⊎ ComesAt g a e (nat_eq rule) p r
    put_at r (inl same) = inr (record { from = inr (eq_true rule r (sym same)); to = inl (rw same put_here) })
    put_at r (inr ne) = put_other r ne

    -- a rule that was to be admitted is, and what it needs was met
    admits_put : Admits g a e (nat_eq rule) p
    admits_put = record { each = λ r. put_at r (apart r rule); keeps = put_keeps }

  pub brings_one : (a b c d e : Planned) (rule : ℕ) (of : Rule) (task : Task) (p q : List RuleId) → b.states ≡ a.states → b.rules ≡ set a.rules rule (kept_of task) → b.origins ≡ a.origins
      → length a.states ≤ length a.rules → length g.rules ≤ length a.states → slice_get g.rules rule ≡ Some of → IsTaskOf g of task → Brings g b c none p q → c.rules ≡ b.rules
      → are_met c.origins (of.required ++ named_of of) ≡ true → Stays c d → Stays d e → Brings g a e (nat_eq rule) p q
  brings_one a b c d e rule of task p q s f o room fits at t k rules met u v = record {
    more = k.more;
    is = k.is;
    rules = k.rules;
    admits =
        admits_put a b c e rule of task k.more s f o room fits at t k.admits rules (widens_trans c d e (widens_stays c d u) (widens_stays d e v)) met;
  }

  first_at : (a : Planned) (q : List RuleId) (r : ℕ) (x : Bool) → queues q r ≡ x → StaysAt a a (queues q) q r ⊎ ComesAt g a a (queues q) q r
  first_at a q r true h = inr (record { from = inr h; to = inr (inr h) })
  first_at a q r false h = inl (record { same = same_at a a r refl refl; skipped = h; queued = h })

  -- none is admitted yet
  pub admits_first : (a : Planned) (q : List RuleId) → Admits g a a (queues q) q
  admits_first a q = record { each = λ r. first_at a q r (queues q r) refl; keeps = keeps_same a a refl refl }

  drop_here : (q : List RuleId) (place : ℕ) (rule : RuleId) → slice_get q place ≡ Some rule → drop place q ≡ rule ∷ drop (place + 1) q
  drop_here q place rule e =
      let lt = slice_get_within q place rule e in
      drop_more q place rule lt ∙ ap (λ x. x ∷ drop (place + 1) q) (get_or_from_slice_get q place rule rule e)

  -- one rule more is admitted
  pub admits_next : (a b c : Planned) (s : ℕ → Bool) (q u : List RuleId) (place : ℕ) (rule : RuleId) → slice_get q place ≡ Some rule → Admits g a b s (drop place q)
      → Brings g b c (nat_eq rule.0) q u → Admits g a c s (drop (place + 1) u)
  admits_next a b c s q u place rule e k l =
      let lt = slice_get_within q place rule e in
      let now : drop place q ≡ rule ∷ drop (place + 1) q = drop_here q place rule e in
      let next : drop (place + 1) u ≡ drop (place + 1) q ++ l.more = ap (drop (place + 1)) l.is ∙ drop-append-le (place + 1) q l.more (omega arith) in
      rw next (record {
        each = λ r.
            then_at a b c s (nat_eq rule.0) (rule ∷ drop (place + 1) q) l.more (drop (place + 1) q ++ l.more) r
            (λ h. leave_by r (or_split (nat_eq rule.0 r) (queues (drop (place + 1) q) r) h))
            (λ h. in_second (drop (place + 1) q) l.more r h)
            (λ h. inr (or_first (nat_eq rule.0 r) (queues (drop (place + 1) q) r) h))
            (λ h. all_by r (in_either (drop (place + 1) q) l.more r h))
            l.admits.keeps ((rw now at k).each r) (l.admits.each r);
        keeps = keeps_trans a b c k.keeps l.admits.keeps;
      })
    where
      leave_by : (r : ℕ) → (nat_eq rule.0 r ≡ true) ⊎ (queues (drop (place + 1) q) r ≡ true) → (nat_eq rule.0 r ≡ true) ⊎ (queues (drop (place + 1) q ++ l.more) r ≡ true)
      leave_by r (inl h) = inl h
      leave_by r (inr h) = inr (in_first (drop (place + 1) q) l.more r h)

      all_by : (r : ℕ) → (queues (drop (place + 1) q) r ≡ true) ⊎ (queues l.more r ≡ true) → (queues (rule ∷ drop (place + 1) q) r ≡ true) ⊎ (queues l.more r ≡ true)
      all_by r (inl h) = inl (or_second (nat_eq rule.0 r) (queues (drop (place + 1) q) r) h)
      all_by r (inr h) = inr h

  pub rules_next : (a b : Planned) (s : ℕ → Bool) (q u : List RuleId) → are_rules g q ≡ true → Brings g a b s q u → are_rules g u ≡ true
  rules_next a b s q u e l = ap (are_rules g) l.is ∙ rules_both q l.more e l.rules

  pub rule_in : (q : List RuleId) (place : ℕ) (rule : RuleId) → are_rules g q ≡ true → slice_get q place ≡ Some rule → rule.0 < length g.rules
  rule_in q place rule e at = lt_from rule.0 (length g.rules) (all_by (λ x. nat_lt x.0 (length g.rules)) q place rule (nat_lt rule.0 (length g.rules)) refl e at)

  -- all are admitted
  pub admits_end : (a b : Planned) (s : ℕ → Bool) (q : List RuleId) (place : ℕ) → slice_get q place ≡ None → Admits g a b s (drop place q) → Admits g a b s []
  admits_end a b s q place e k =
      let none_left : drop place q ≡ [] = drop_all place q (none_past q place e) in
      rw none_left at k

  -- some are met, and then all of them are admitted
  pub brings_all : (a b c : Planned) (p : List RuleId) → Brings g a b none [] p → Admits g b c (queues p) [] → Admits g a c none []
  brings_all a b c p k l =
      let e : p ≡ k.more = k.is in
      admits_all a b c k.more k.admits (rw e at l)

  pub brings_rules : (a b : Planned) (p : List RuleId) → Brings g a b none [] p → are_rules g p ≡ true
  brings_rules a b p k =
      let e : p ≡ k.more = k.is in
      ap (are_rules g) e ∙ k.rules

  -- there is room, some are met, nothing further is known for a while, and then all of them are admitted
  pub grows : (a b c d e f h : Planned) (p : List RuleId) → Widens a b → Brings g b c none [] p → Stays c d → Stays d e → Stays e f → Admits g f h (queues p) [] → Admits g a h none []
  grows a b c d e f h p w k s t same l =
      let on : Widens c f = widens_trans c d f (widens_stays c d s) (widens_trans d e f (widens_stays d e t) (widens_stays e f same)) in
      brings_all a f h p (brings_widens a c f none [] p (widens_brings a b c [] p w k) on) l

  -- a rule that is needed now was admitted
  pub met_by : (a b : Planned) (r : ℕ) → state_of b.states r ≢ Unneeded → StaysAt a b none [] r ⊎ ComesAt g a b none [] r → state_of a.states r ≡ Unneeded → IsAdmitted g b r
  met_by a b r ne (inl k) e = absurd (ne (k.same.state ∙ e))
  met_by a b r ne (inr k) e = met_to k.to
    where
      met_to : Admission g b [] r → IsAdmitted g b r
      met_to (inl f) = f
      met_to (inr (inl u)) = absurd (ne u)
      met_to (inr (inr h)) = absurd (cc)

  first_of : (b : Planned) (r : ℕ) → IsAdmitted g b r → IsFirstAt g b.rules r
  first_of b r f = record { of = f.of; at = f.at; is = f.is }

  kept_by : (a b : Planned) (r : ℕ) (x : Kept) → state_of a.states r ≢ Unneeded → StaysAt a b none [] r ⊎ ComesAt g a b none [] r → slice_get a.rules r ≡ Some x → slice_get b.rules r ≡ Some x
  kept_by a b r x ne (inl k) e = k.same.kept x e
  kept_by a b r x ne (inr k) e = absurd (from_none k.from)
    where
      from_none : (state_of a.states r ≡ Unneeded) ⊎ (none r ≡ true) → ⊥
      from_none (inl u) = ne u
      from_none (inr h) = cc

  -- what a plan knows that was made of nothing
  pub knows_first : (a b : Planned) → ((r : ℕ) → state_of a.states r ≡ Unneeded) → Admits g a b none [] → (r : ℕ) → state_of b.states r ≢ Unneeded → IsFirstAt g b.rules r
  knows_first a b u k r ne = first_of b r (met_by a b r ne (k.each r) (u r))

  known_first : (rules : List Kept) (r : ℕ) → IsFirstAt g rules r → IsKnown g rules r
  known_first rules r f = record {
    of = f.of;
    at = f.at;
    kept = first_kept g f.of;
    is = f.is;
    targets = refl;
    required = refl;
    named = refl;
    sources = refl;
    left_out = refl;
    whole = refl;
  }

  pub fits_first : (b : Planned) → ((r : ℕ) → state_of b.states r ≢ Unneeded → IsFirstAt g b.rules r) → Fits g b
  fits_first b k r ne = known_first b.rules r (k r ne)

  pub scans_none : (a b : Planned) (rule : ℕ) (inc : List NodeId) → wanted a rule ≡ None → b.states ≡ a.states → b.rules ≡ a.rules → Scans g a rule inc b
  scans_none a b rule inc e s f = rw e (record { states = s; rules = f })

  pub scans_unnoted : (a b c : Planned) (rule : ℕ) (inc : List NodeId) → NotesNone a b rule → Stays b c → Scans g a rule inc c
  scans_unnoted a b c rule inc n s = scans_none a c rule inc n.wants (s.states ∙ n.same.states) (s.rules ∙ n.same.rules)

  pub waits_needed : (a : Planned) (r : ℕ) → state_of a.states r ≡ Waiting → state_of a.states r ≢ Unneeded
  waits_needed a r e u = let no : Waiting ≡ Unneeded = sym e ∙ u in cc

  needed_on : (a b : Planned) (r : ℕ) → b.states ≡ a.states → state_of a.states r ≢ Unneeded → state_of b.states r ≢ Unneeded
  needed_on a b r e ne u = ne (sym (ap (λ s. state_of s r) e) ∙ u)

  -- the file that was wanted was noted, and then rules were met and admitted
  pub scans_file : (a b c : Planned) (rule : ℕ) (inc : List NodeId) → NotesFile a b rule inc → b.states ≡ a.states → Admits g b c none [] → Scans g a rule inc c
  scans_file a b c rule inc n e k = rw n.wants (record {
    this = record {
      before = n.this.before;
      was = n.this.was;
      after = n.this.after;
      is = kept_by b c rule n.this.after (needed_on a b rule e (waits_needed a rule n.waits)) (k.each rule) n.this.is;
      targets = n.this.targets;
      required = n.this.required;
      named = n.this.named;
      sources = n.this.sources;
      left_out = n.this.left_out;
      found = n.this.found;
      whole = n.this.whole;
    };
    others = λ r x ne needed at. kept_by b c r x (needed_on a b r e needed) (k.each r) (n.others r x ne at);
    met = λ r u ne. met_by b c r ne (k.each r) (ap (λ s. state_of s r) e ∙ u);
  })

  admits_on : (a b c : Planned) (s : ℕ → Bool) → Admits g a b s [] → Widens b c → Admits g a c s []
  admits_on a b c s k w = admits_then a b c s [] [] k (admits_widens b c w)

  pub scans_on : (a b c d : Planned) (rule : ℕ) (inc : List NodeId) → NotesFile a b rule inc → b.states ≡ a.states → Admits g b c none [] → Widens c d → Scans g a rule inc d
  scans_on a b c d rule inc n e k w = scans_file a b d rule inc n e (admits_on b c d none k w)

  -- what was noted was taken in, or nothing was, and then nothing further is known
  pub scans_noted : {X : Type 0} (a b c d : Planned) (rule : ℕ) (inc : List NodeId) (o : Option X) → MatchOption o (NotesNone a b rule) (λ _. NotesFile a b rule inc) → b.states ≡ a.states
      → MatchOption o (c ≡ b) (λ _. Admits g b c none []) → Stays c d → Scans g a rule inc d
  scans_noted a b c d rule inc None n e k s = scans_unnoted a b d rule inc n (rw (sym k) s)
  scans_noted a b c d rule inc (Some x) n e k s = scans_on a b c d rule inc n e k (widens_stays c d s)

  scans_still_at : (a b c : Planned) (rule : ℕ) (inc : List NodeId) (o : Option NodeId) → MatchOption o (IsUnchanged a b) (λ file. ScansFile g a b rule file inc) → c.states ≡ b.states → c.rules ≡ b.rules → c.origins ≡ b.origins
      → MatchOption o (IsUnchanged a c) (λ file. ScansFile g a c rule file inc)
  scans_still_at a b c rule inc None u e f o = record { states = e ∙ u.states; rules = f ∙ u.rules }
  scans_still_at a b c rule inc (Some file) s e f o = record {
    this = record {
      before = s.this.before;
      was = s.this.was;
      after = s.this.after;
      is = ap (λ y. slice_get y rule) f ∙ s.this.is;
      targets = s.this.targets;
      required = s.this.required;
      named = s.this.named;
      sources = s.this.sources;
      left_out = s.this.left_out;
      found = s.this.found;
      whole = s.this.whole;
    };
    others = λ r x ne needed at. ap (λ y. slice_get y r) f ∙ s.others r x ne needed at;
    met = λ r u ne. admitted_still b c r (same_at b c r e f) (keeps_same b c o e) (s.met r u (λ v. ne (ap (λ y. state_of y r) e ∙ v)));
  }

  -- nothing further is known where neither states nor rules nor files change
  pub scans_still : (a b c : Planned) (rule : ℕ) (inc : List NodeId) → Scans g a rule inc b → c.states ≡ b.states → c.rules ≡ b.rules → c.origins ≡ b.origins → Scans g a rule inc c
  scans_still a b c rule inc s e f o = scans_still_at a b c rule inc (wanted a rule) s e f o

  pub unneeded_or : (x : RuleState) → (x ≡ Unneeded) ⊎ (x ≢ Unneeded)
  unneeded_or Unneeded = inl refl
  unneeded_or Waiting = inr (λ e. cc)
  unneeded_or Running = inr (λ e. cc)
  unneeded_or Settled = inr (λ e. cc)
  unneeded_or Failed = inr (λ e. cc)
  unneeded_or Lacking = inr (λ e. cc)

  known_same : (a b : Planned) (r : ℕ) → b.rules ≡ a.rules → IsKnown g a.rules r → IsKnown g b.rules r
  known_same a b r e k = rw e k

  known_kept : (a b : Planned) (r : ℕ) → ((x : Kept) → slice_get a.rules r ≡ Some x → slice_get b.rules r ≡ Some x) → IsKnown g a.rules r → IsKnown g b.rules r
  known_kept a b r f k = record {
    of = k.of;
    at = k.at;
    kept = k.kept;
    is = f k.kept k.is;
    targets = k.targets;
    required = k.required;
    named = k.named;
    sources = k.sources;
    left_out = k.left_out;
    whole = k.whole;
  }

  known_scanned : (a b : Planned) (r : ℕ) (file : NodeId) (inc : List NodeId) → TakesScan a b r file inc → IsKnown g a.rules r → IsKnown g b.rules r
  known_scanned a b r file inc t k =
      let same : t.before ≡ k.kept = same_Some t.before k.kept (sym t.was ∙ k.is) in
      record {
        of = k.of;
        at = k.at;
        kept = t.after;
        is = t.is;
        targets = t.targets ∙ ap (λ x. x.targets) same ∙ k.targets;
        required = t.required ∙ ap (λ x. x.required) same ∙ k.required;
        named = t.named ∙ ap (λ x. x.named) same ∙ k.named;
        sources = t.sources ∙ ap (λ x. x.sources) same ∙ k.sources;
        left_out = t.left_out ∙ ap (λ x. x.left_out) same ∙ k.left_out;
        whole = t.whole;
      }

  scanned_at : (a b : Planned) (rule r : ℕ) (file : NodeId) (inc : List NodeId) → ScansFile g a b rule file inc → Fits g a → (state_of a.states r ≡ Unneeded) ⊎ (state_of a.states r ≢ Unneeded)
      → (r ≡ rule) ⊎ (r ≢ rule) → state_of b.states r ≢ Unneeded → IsKnown g b.rules r
  scanned_at a b rule r file inc s f (inl u) w ne = known_first b.rules r (first_of b r (s.met r u ne))
  scanned_at a b rule r file inc s f (inr n) (inl same) ne = rw same (known_scanned a b rule file inc s.this (rw same at (f r n)))
  scanned_at a b rule r file inc s f (inr n) (inr other) ne = known_kept a b r (λ x at. s.others r x other n at) (f r n)

  fits_scanned : (a b : Planned) (rule : ℕ) (inc : List NodeId) (o : Option NodeId) → MatchOption o (IsUnchanged a b) (λ file. ScansFile g a b rule file inc) → Fits g a → Fits g b
  fits_scanned a b rule inc None s f = λ r ne. known_same a b r s.rules (f r (λ u. ne (ap (λ x. state_of x r) s.states ∙ u)))
  fits_scanned a b rule inc (Some file) s f = λ r ne. scanned_at a b rule r file inc s f (unneeded_or (state_of a.states r)) (apart r rule) ne

  pub needed_set : (a : List RuleState) (rule r : ℕ) (v : RuleState) → state_of a rule ≢ Unneeded → (r ≡ rule) ⊎ (r ≢ rule) → state_of (set a rule v) r ≢ Unneeded → state_of a r ≢ Unneeded
  needed_set a rule r v n (inl same) ne = rw same n
  needed_set a rule r v n (inr other) ne = λ u. ne (set_other a rule r v other ∙ u)

  fits_decided : (a b : Planned) (rule : ℕ) (v : RuleState) (o : Bool) → AreWaiting a.states a.queue → is_open a.queue rule ≡ o → b.states ≡ (if o then set a.states rule v else a.states) → b.rules ≡ a.rules → Fits g a → Fits g b
  fits_decided a b rule v true w o e s f = λ r ne. known_same a b r s (f r (needed_set a.states rule r v (waits_needed a rule (w.waits rule o)) (apart r rule) (λ u. ne (ap (λ x. state_of x r) e ∙ u))))
  fits_decided a b rule v false w o e s f = λ r ne. known_same a b r s (f r (λ u. ne (ap (λ x. state_of x r) e ∙ u)))

  pub running_needed : (x : RuleState) → is_running x ≡ true → x ≢ Unneeded
  running_needed Unneeded h u = absurd (cc)
  running_needed Waiting h u = cc
  running_needed Running h u = cc
  running_needed Settled h u = cc
  running_needed Failed h u = cc
  running_needed Lacking h u = cc

  fits_ended : (a b : Planned) (rule : ℕ) (v : RuleState) (o : Bool) → is_running (state_of a.states rule) ≡ o → b.states ≡ (if o then set a.states rule v else a.states) → b.rules ≡ a.rules → Fits g a → Fits g b
  fits_ended a b rule v true o e s f = λ r ne. known_same a b r s (f r (needed_set a.states rule r v (running_needed (state_of a.states rule) o) (apart r rule) (λ u. ne (ap (λ x. state_of x r) e ∙ u))))
  fits_ended a b rule v false o e s f = λ r ne. known_same a b r s (f r (λ u. ne (ap (λ x. state_of x r) e ∙ u)))

  -- an event keeps that what is known is what the graph says
  pub fits_step : (a b : Planned) (event : PlanEvent) → AreWaiting a.states a.queue → Goes a event b.states → Knows g a event b → Fits g a → Fits g b
  fits_step a b (Scanned rule found) w s k f = fits_scanned a b rule.0 found (wanted a rule.0) k f
  fits_step a b (Fresh rule) w s k f = fits_decided a b rule.0 Settled (is_open a.queue rule.0) w refl s k f
  fits_step a b (Started rule) w s k f = fits_decided a b rule.0 Running (is_open a.queue rule.0) w refl s k f
  fits_step a b (DoneOk rule) w s k f = fits_ended a b rule.0 Settled (is_running (state_of a.states rule.0)) refl s k f
  fits_step a b (DoneFailed rule) w s k f = fits_ended a b rule.0 Failed (is_running (state_of a.states rule.0)) refl s k f
  fits_step a b (Absent rule node) w s k f = fits_decided a b rule.0 Lacking (is_open a.queue rule.0) w refl s k f
  fits_step a b Halt w s k f = λ r ne. known_same a b r k (f r (λ u. ne (ap (λ x. state_of x r) s ∙ u)))

-- there is room, then rules are met and admitted, and then nothing further is
pub begins : (g : RuleGraph) (a b c d : Planned) → Widens a b → Admits g b c none [] → Stays c d → Admits g a d none []
begins g a b c d w k s = admits_then g a c d none [] [] (admits_then g a b c none [] [] (admits_widens g a b w) k) (admits_widens g c d (widens_stays c d s))

pub ruleset beginning = (begins, widens_stays)

pub ruleset meeting = (brings_none, brings_then, brings_begun, widens_stays, widens_same)

pub ruleset scanning = (brings_all, brings_widens, widens_brings, widens_stays, widens_same, widens_trans)
