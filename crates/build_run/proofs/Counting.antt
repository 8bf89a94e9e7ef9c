-- That no more faults of a kind are found than its count rose by.
use Rattle.std.proofs.Common.{◌≡◌, ◌≤◌, ◌+◌, ◌-◌, ◌∙◌, inl, inr, sym, subst, refl, ℕ, List, [], ◌∷◌, ◌++◌, Bool, cond, arith, min}
use Rattle.std.specs.List.{count_by}
use Rattle.std.proofs.lemmas.List.Sums.{sum_by-append, sum_by-cons}
use Rattle.scons_base.specs.Rising.{Rose}
use Rattle.rule_graph.specs.declared.build_fault.BuildFault.{BuildFault}
use Rattle.rule_graph.specs.declared.build_fault.BuildFault.TheVariants as fault
use Rattle.build_run.specs.Causes.{Outside, IsLater, HasCause, AreCounted}
use Rattle.build_run.specs.Counting.{RoseBy, is_action_fault, is_start_fault, is_tree_fault, is_out_fault}

pub stands_still : (a b : ℕ) → a ≤ b → RoseBy 0 a b
stands_still a b le = record { later = le; more = omega (arith, le) }

pub rose_once : (a b : ℕ) → Rose a b → RoseBy 1 a b
rose_once a b r = record { later = r.later; more = r.more }

pub rose_so : (n a b c : ℕ) → RoseBy n a b → b ≤ c → RoseBy n a c
rose_so n a b c r le = let up = r.later in let more = r.more in record { later = omega (arith, up, le); more = omega (arith, more, le) }

rose_fewer : (n m a b : ℕ) → m ≤ n → RoseBy n a b → RoseBy m a b
rose_fewer n m a b le r = let up = r.later in let more = r.more in record { later = up; more = omega (arith, more, le) }

pub rose_both : (n m a b c : ℕ) → RoseBy n a b → RoseBy m b c → RoseBy (n + m) a c
rose_both n m a b c r s =
    let up = r.later in let more = r.more in let later = s.later in let further = s.more in
    record { later = omega (arith, up, later); more = omega (arith, more, further, up) }

pub count_append : {A : Type 0} (p : A → Bool) (xs ys : List A) → count_by p (xs ++ ys) ≡ count_by p xs + count_by p ys
count_append p xs ys = sum_by-append (λ x. cond (p x) 1 0) xs ys

pub count_one : {A : Type 0} (p : A → Bool) (f : A) → count_by p (f ∷ []) ≡ cond (p f) 1 0
count_one p f = sum_by-cons (λ x. cond (p x) 1 0) f [] ∙ none (cond (p f) 1 0)
  where
    none : (n : ℕ) → n + 0 ≡ n
    none n = omega arith

of_one : (p : BuildFault → Bool) (f : BuildFault) (a b : ℕ) → RoseBy (cond (p f) 1 0) a b → RoseBy (count_by p (f ∷ [])) a b
of_one p f a b r = subst (λ n. RoseBy n a b) (sym (count_one p f)) r

of_more : (p : BuildFault → Bool) (fs more : List BuildFault) (a b c : ℕ) → RoseBy (count_by p fs) a b → RoseBy (count_by p more) b c → RoseBy (count_by p (fs ++ more)) a c
of_more p fs more a b c r s = subst (λ n. RoseBy n a c) (sym (count_append p fs more)) (rose_both (count_by p fs) (count_by p more) a b c r s)

of_fewer : (p : BuildFault → Bool) (fs more : List BuildFault) (a b : ℕ) → RoseBy (count_by p (fs ++ more)) a b → RoseBy (count_by p fs) a b
of_fewer p fs more a b r = let e = count_append p fs more in rose_fewer (count_by p (fs ++ more)) (count_by p fs) a b (omega (arith, e)) r

-- where nothing was found yet
pub counted_none : (now : Outside) → AreCounted now now []
counted_none now = record {
  action = stands_still now.counts.action_failures now.counts.action_failures (omega arith);
  start = stands_still now.counts.start_faults now.counts.start_faults (omega arith);
  tree = stands_still now.counts.tree_faults now.counts.tree_faults (omega arith);
  of_out = 0;
  of_err = 0;
  sinks = refl;
  out = stands_still now.out now.out (omega arith);
  err = stands_still now.err now.err (omega arith);
}

-- the same faults, later
pub counted_on : (start old new : Outside) (fs : List BuildFault) → IsLater old new → AreCounted start old fs → AreCounted start new fs
counted_on start old new fs p a = record {
  action = rose_so (count_by is_action_fault fs) start.counts.action_failures old.counts.action_failures new.counts.action_failures a.action p.counts.action;
  start = rose_so (count_by is_start_fault fs) start.counts.start_faults old.counts.start_faults new.counts.start_faults a.start p.counts.start;
  tree = rose_so (count_by is_tree_fault fs) start.counts.tree_faults old.counts.tree_faults new.counts.tree_faults a.tree p.counts.tree;
  of_out = a.of_out;
  of_err = a.of_err;
  sinks = a.sinks;
  out = rose_so a.of_out start.out old.out new.out a.out p.out;
  err = rose_so a.of_err start.err old.err new.err a.err p.err;
}

-- further faults
pub counted_more : (start old new : Outside) (fs more : List BuildFault) → AreCounted start old fs → AreCounted old new more → AreCounted start new (fs ++ more)
counted_more start old new fs more a b = record {
  action = of_more is_action_fault fs more start.counts.action_failures old.counts.action_failures new.counts.action_failures a.action b.action;
  start = of_more is_start_fault fs more start.counts.start_faults old.counts.start_faults new.counts.start_faults a.start b.start;
  tree = of_more is_tree_fault fs more start.counts.tree_faults old.counts.tree_faults new.counts.tree_faults a.tree b.tree;
  of_out = a.of_out + b.of_out;
  of_err = a.of_err + b.of_err;
  sinks = let e = a.sinks in let f = b.sinks in let both = count_append is_out_fault fs more in omega (arith, e, f, both);
  out = rose_both a.of_out b.of_out start.out old.out new.out a.out b.out;
  err = rose_both a.of_err b.of_err start.err old.err new.err a.err b.err;
}

-- fewer faults
pub counted_fewer : (start now : Outside) (fs more : List BuildFault) → AreCounted start now (fs ++ more) → AreCounted start now fs
counted_fewer start now fs more a = record {
  action = of_fewer is_action_fault fs more start.counts.action_failures now.counts.action_failures a.action;
  start = of_fewer is_start_fault fs more start.counts.start_faults now.counts.start_faults a.start;
  tree = of_fewer is_tree_fault fs more start.counts.tree_faults now.counts.tree_faults a.tree;
  of_out = count_by is_out_fault fs - min (count_by is_out_fault fs) a.of_err;
  of_err = min (count_by is_out_fault fs) a.of_err;
  sinks = split (count_by is_out_fault fs) a.of_err;
  out =
      let both = count_append is_out_fault fs more in
      rose_fewer a.of_out (count_by is_out_fault fs - min (count_by is_out_fault fs) a.of_err) start.out now.out
      (within (count_by is_out_fault fs) (count_by is_out_fault more) a.of_out a.of_err (sym both ∙ a.sinks)) a.out;
  err = rose_fewer a.of_err (min (count_by is_out_fault fs) a.of_err) start.err now.err (least (count_by is_out_fault fs) a.of_err) a.err;
}
  where
    split : (n e : ℕ) → n ≡ n - min n e + min n e
    split n e = omega arith

    least : (n e : ℕ) → min n e ≤ e
    least n e = omega arith

    within : (n m o e : ℕ) → n + m ≡ o + e → n - min n e ≤ o
    within n m o e h = omega (arith, h)

-- one fault of a kind that has no count
module _ (old new : Outside) (p : IsLater old new) (f : BuildFault) where
  abbrev Kept : (BuildFault → Bool) → ℕ → ℕ → Type 0
  Kept test a b = RoseBy (cond (test f) 1 0) a b

  -- what stands still but for one
  counted_as : Kept is_action_fault old.counts.action_failures new.counts.action_failures → Kept is_start_fault old.counts.start_faults new.counts.start_faults
      → Kept is_tree_fault old.counts.tree_faults new.counts.tree_faults → (m n : ℕ) → cond (is_out_fault f) 1 0 ≡ m + n → RoseBy m old.out new.out → RoseBy n old.err new.err
      → AreCounted old new (f ∷ [])
  counted_as action start tree m n e out err = record {
    action = of_one is_action_fault f old.counts.action_failures new.counts.action_failures action;
    start = of_one is_start_fault f old.counts.start_faults new.counts.start_faults start;
    tree = of_one is_tree_fault f old.counts.tree_faults new.counts.tree_faults tree;
    of_out = m;
    of_err = n;
    sinks = count_one is_out_fault f ∙ e;
    out = out;
    err = err;
  }

module _ (old new : Outside) (p : IsLater old new) where
  action_still : RoseBy 0 old.counts.action_failures new.counts.action_failures
  action_still = stands_still old.counts.action_failures new.counts.action_failures p.counts.action

  start_still : RoseBy 0 old.counts.start_faults new.counts.start_faults
  start_still = stands_still old.counts.start_faults new.counts.start_faults p.counts.start

  tree_still : RoseBy 0 old.counts.tree_faults new.counts.tree_faults
  tree_still = stands_still old.counts.tree_faults new.counts.tree_faults p.counts.tree

  out_still : RoseBy 0 old.out new.out
  out_still = stands_still old.out new.out p.out

  err_still : RoseBy 0 old.err new.err
  err_still = stands_still old.err new.err p.err

  -- the disk has a count that isn't gone by
  pub counted_store : AreCounted old new (fault.StoreFault ∷ [])
  counted_store = counted_as old new p fault.StoreFault action_still start_still tree_still 0 0 refl out_still err_still

  -- a fault that has its cause
  pub counted_one : (f : BuildFault) → HasCause old new f → AreCounted old new (f ∷ [])
  counted_one (fault.Missing node target) h = counted_as old new p (fault.Missing node target) action_still start_still tree_still 0 0 refl out_still err_still
  counted_one (fault.Cycle paths) h = counted_as old new p (fault.Cycle paths) action_still start_still tree_still 0 0 refl out_still err_still
  counted_one (fault.ActionFailed target code) h =
      counted_as old new p (fault.ActionFailed target code) (rose_once old.counts.action_failures new.counts.action_failures h) start_still tree_still 0 0 refl out_still err_still
  counted_one (fault.TreeFault path) h = counted_as old new p (fault.TreeFault path) action_still start_still (rose_once old.counts.tree_faults new.counts.tree_faults h) 0 0 refl out_still err_still
  counted_one (fault.StartFault target) h = counted_as old new p (fault.StartFault target) action_still (rose_once old.counts.start_faults new.counts.start_faults h) tree_still 0 0 refl out_still err_still
  counted_one fault.StoreFault h = counted_store
  counted_one fault.OutFault (inl h) = counted_as old new p fault.OutFault action_still start_still tree_still 1 0 refl (rose_once old.out new.out h) err_still
  counted_one fault.OutFault (inr h) = counted_as old new p fault.OutFault action_still start_still tree_still 0 1 refl out_still (rose_once old.err new.err h)
  counted_one (fault.TooLarge path size) h = counted_as old new p (fault.TooLarge path size) action_still start_still tree_still 0 0 refl out_still err_still
  counted_one (fault.TooMany what count) h = counted_as old new p (fault.TooMany what count) action_still start_still tree_still 0 0 refl out_still err_still
