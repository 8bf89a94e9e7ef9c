-- What is accounted for, carried on from call to call.
use Rattle.std.proofs.Common.{ap, ◌≡◌, ◌≢◌, ◌∙◌, ◌≤◌, ◌⊎◌, inl, inr, sym, subst, refl, ℕ, List, [], ◌∷◌, ◌++◌, true, false, Bool, Some, Contains, arith}
use Rattle.std.specs.Prelude.{All, Result, Ok, Err, IsErrAnd}
use Rattle.std.proofs.lemmas.Bool.{false≢true}
use Rattle.std.proofs.lemmas.List.Elements.{All-push, All-pop, All-nil, All-weaker, Contains-append_left, Contains-push}
use Rattle.world_api.specs.Causes.{Later, TreeFails, DiskFails, StartFails, ActionFails, HasOutcomeCause}
use Rattle.scons_base.specs.Rising.{Rose}
use Rattle.world_api.specs.Counts.{Counts}
use Rattle.world_api.specs.Looks.{IsTreeAlone}
use Rattle.world_api.specs.declared.job.Outcome.{Outcome}
use Rattle.world_api.specs.declared.job.Outcome.TheVariants as outcome
use Rattle.rule_graph.specs.declared.build_fault.BuildFault.{BuildFault}
use Rattle.rule_graph.specs.declared.build_fault.BuildFault.TheVariants as fault
use Rattle.build_files.specs.Causes.{HasLookCause, HasEndCause, IsInside, IsQuiet}
use Rattle.build_files.specs.Causes.{HasFaultCause as HasLookFault}
use Rattle.build_files.specs.declared.end.ListEnd.{ListEnd}
use Rattle.build_files.specs.declared.end.ListEnd.TheVariants as end
use Rattle.build_run.specs.Causes.{Outside, outside, IsLater, HasCause, HasPrintEnd, HasStartCause, HasStartEnd, IsInner, IsTreeFault, IsStartFault, IsActionFault, IsUnstarted, HasAny, AreCounted, AreTold, AreCaused}
use Rattle.world_api.specs.Printed.{SinkMeaning}
use Rattle.build_run.specs.Ledgers.{Ledger, Accounted, Reports, blank, ledger_of, with_fault, wanting, with_shut, with_end, with_done, with_outcome}
use Rattle.build_run.specs.declared.account.Account.{Account}
use Rattle.build_run.proofs.Counting.{counted_none, counted_on, counted_more, counted_fewer, counted_one, counted_store}

rose_on : (a b c : ℕ) → Rose a b → b ≤ c → Rose a c
rose_on a b c r le = let up = r.later in let more = r.more in record { later = omega (arith, up, le); more = omega (arith, more, le) }

rose_from : (a b c : ℕ) → a ≤ b → Rose b c → Rose a c
rose_from a b c le r = let up = r.later in let more = r.more in record { later = omega (arith, up, le); more = omega (arith, more, le) }

later_here : (a : Outside) → IsLater a a
later_here a = record { counts = record { disk = omega arith; tree = omega arith; start = omega arith; action = omega arith }; out = omega arith; err = omega arith }

later_on : (a b c : Outside) → IsLater a b → IsLater b c → IsLater a c
later_on a b c p q =
    let x = p.counts in let y = q.counts in let o = p.out in let u = q.out in let e = p.err in let f = q.err in
    record {
      counts = record { disk = omega (arith, x.disk, y.disk); tree = omega (arith, x.tree, y.tree); start = omega (arith, x.start, y.start); action = omega (arith, x.action, y.action) };
      out = omega (arith, o, u);
      err = omega (arith, e, f);
    }

out_on : (start mid new : Outside) → IsLater mid new → Rose start.out mid.out ⊎ Rose start.err mid.err → Rose start.out new.out ⊎ Rose start.err new.err
out_on start mid new p (inl r) = inl (rose_on start.out mid.out new.out r p.out)
out_on start mid new p (inr r) = inr (rose_on start.err mid.err new.err r p.err)

out_from : (start mid new : Outside) → IsLater start mid → Rose mid.out new.out ⊎ Rose mid.err new.err → Rose start.out new.out ⊎ Rose start.err new.err
out_from start mid new p (inl r) = inl (rose_from start.out mid.out new.out p.out r)
out_from start mid new p (inr r) = inr (rose_from start.err mid.err new.err p.err r)

-- a cause is one still
cause_on : (start mid new : Outside) → IsLater mid new → (f : BuildFault) → HasCause start mid f → HasCause start new f
cause_on start mid new p (fault.Missing node target) h = h
cause_on start mid new p (fault.Cycle paths) h = h
cause_on start mid new p (fault.ActionFailed target code) h = rose_on _ _ _ h p.counts.action
cause_on start mid new p (fault.TreeFault path) h = rose_on _ _ _ h p.counts.tree
cause_on start mid new p (fault.StartFault target) h = rose_on _ _ _ h p.counts.start
cause_on start mid new p fault.StoreFault h = rose_on _ _ _ h p.counts.disk
cause_on start mid new p fault.OutFault h = out_on start mid new p h
cause_on start mid new p (fault.TooLarge path size) h = h
cause_on start mid new p (fault.TooMany what count) h = h

-- a cause since later is one since before
cause_from : (start mid new : Outside) → IsLater start mid → (f : BuildFault) → HasCause mid new f → HasCause start new f
cause_from start mid new p (fault.Missing node target) h = h
cause_from start mid new p (fault.Cycle paths) h = h
cause_from start mid new p (fault.ActionFailed target code) h = rose_from _ _ _ p.counts.action h
cause_from start mid new p (fault.TreeFault path) h = rose_from _ _ _ p.counts.tree h
cause_from start mid new p (fault.StartFault target) h = rose_from _ _ _ p.counts.start h
cause_from start mid new p fault.StoreFault h = rose_from _ _ _ p.counts.disk h
cause_from start mid new p fault.OutFault h = out_from start mid new p h
cause_from start mid new p (fault.TooLarge path size) h = h
cause_from start mid new p (fault.TooMany what count) h = h

any_more : (P : BuildFault → Type 0) (faults : List BuildFault) (f : BuildFault) → HasAny P faults → HasAny P (faults ++ f ∷ [])
any_more P faults f h = (h.0, Contains-append_left faults (f ∷ []) h.0 h.1, h.2)

told_more : (old new : Outside) (faults : List BuildFault) (f : BuildFault) → AreTold old new faults → AreTold old new (faults ++ f ∷ [])
told_more old new faults f a = record {
  disk = λ ne. Contains-append_left faults (f ∷ []) fault.StoreFault (a.disk ne);
  tree = λ ne. any_more IsTreeFault faults f (a.tree ne);
  start = λ ne. any_more IsStartFault faults f (a.start ne);
  action = λ ne. any_more IsActionFault faults f (a.action ne);
  out = λ ne. Contains-append_left faults (f ∷ []) fault.OutFault (a.out ne);
  err = λ ne. Contains-append_left faults (f ∷ []) fault.OutFault (a.err ne);
}

-- no count fell, and each that changed has its fault among these
record Moves (old new : Outside) (faults : List BuildFault) : Type 0 where
  later : IsLater old new
  disk : (new.counts.disk_faults ≡ old.counts.disk_faults) ⊎ Contains faults fault.StoreFault
  tree : (new.counts.tree_faults ≡ old.counts.tree_faults) ⊎ HasAny IsTreeFault faults
  start : (new.counts.start_faults ≡ old.counts.start_faults) ⊎ HasAny IsStartFault faults
  action : (new.counts.action_failures ≡ old.counts.action_failures) ⊎ HasAny IsActionFault faults
  out : (new.out ≡ old.out) ⊎ Contains faults fault.OutFault
  err : (new.err ≡ old.err) ⊎ Contains faults fault.OutFault

by_move : {P : Type 0} (a b c : ℕ) → (c ≡ b) ⊎ P → (b ≢ a → P) → c ≢ a → P
by_move a b c (inl same) told ne = told (λ e. ne (same ∙ e))
by_move a b c (inr p) told ne = p

told_on : (start old new : Outside) (faults : List BuildFault) → AreTold start old faults → Moves old new faults → AreTold start new faults
told_on start old new faults a m = record {
  disk = by_move _ _ _ m.disk a.disk;
  tree = by_move _ _ _ m.tree a.tree;
  start = by_move _ _ _ m.start a.start;
  action = by_move _ _ _ m.action a.action;
  out = by_move _ _ _ m.out a.out;
  err = by_move _ _ _ m.err a.err;
}

each_on : (start old new : Outside) (faults : List BuildFault) → IsLater old new → All (HasCause start old) faults → All (HasCause start new) faults
each_on start old new faults p each = All-weaker (HasCause start old) (HasCause start new) (cause_on start old new p) faults each

-- a fault that has its cause, where it tells what changed
added : (start old new : Outside) (ledger : Ledger) (f : BuildFault) → HasCause old new f → Moves old new (ledger.faults ++ f ∷ []) → Accounted start old ledger → Accounted start new (with_fault ledger f)
added start old new ledger f cause m a = record {
  later = later_on start old new a.later m.later;
  each = All-push (HasCause start new) ledger.faults f (each_on start old new ledger.faults m.later a.each) (cause_from start old new a.later f cause);
  counted = counted_more start old new ledger.faults (f ∷ []) a.counted (counted_one old new m.later f cause);
  told = λ is. told_on start old new (ledger.faults ++ f ∷ []) (told_more start old ledger.faults f (a.told is)) m;
  shut = λ is. rose_on _ _ _ (a.shut is) m.later.counts.disk;
}

later_tree : (a b : Counts) (out err : ℕ) → TreeFails a b → IsLater (outside a out err) (outside b out err)
later_tree a b out err f = let up = f.rose.later in record { counts = record { disk = omega (arith, f.disk); tree = up; start = omega (arith, f.start); action = omega (arith, f.action) }; out = omega arith; err = omega arith }

later_disk : (a b : Counts) (out err : ℕ) → DiskFails a b → IsLater (outside a out err) (outside b out err)
later_disk a b out err f = let up = f.rose.later in record { counts = record { disk = up; tree = omega (arith, f.tree); start = omega (arith, f.start); action = omega (arith, f.action) }; out = omega arith; err = omega arith }

later_start : (a b : Counts) (out err : ℕ) → StartFails a b → IsLater (outside a out err) (outside b out err)
later_start a b out err f = let up = f.rose.later in record { counts = record { disk = omega (arith, f.disk); tree = omega (arith, f.tree); start = up; action = omega (arith, f.action) }; out = omega arith; err = omega arith }

later_action : (a b : Counts) (out err : ℕ) → ActionFails a b → IsLater (outside a out err) (outside b out err)
later_action a b out err f = let up = f.rose.later in record { counts = record { disk = omega (arith, f.disk); tree = omega (arith, f.tree); start = omega (arith, f.start); action = up }; out = omega arith; err = omega arith }

later_alone : (a b : Counts) (out err : ℕ) → IsTreeAlone a b → IsLater (outside a out err) (outside b out err)
later_alone a b out err f = record { counts = record { disk = omega (arith, f.disk); tree = f.tree; start = omega (arith, f.start); action = omega (arith, f.action) }; out = omega arith; err = omega arith }

-- no count fell over a look
later_fault : (a b : Counts) (f : BuildFault) → HasLookFault a b f → IsLater (outside a 0 0) (outside b 0 0)
later_fault a b (fault.Missing node target) h = absurd h
later_fault a b (fault.Cycle paths) h = absurd h
later_fault a b (fault.ActionFailed target code) h = absurd h
later_fault a b (fault.TreeFault path) h = later_tree a b 0 0 h
later_fault a b (fault.StartFault target) h = absurd h
later_fault a b fault.StoreFault h = absurd h
later_fault a b fault.OutFault h = absurd h
later_fault a b (fault.TooLarge path size) h = subst (λ (c : Counts). IsLater (outside a 0 0) (outside c 0 0)) (sym h) (later_here (outside a 0 0))
later_fault a b (fault.TooMany what count) h = subst (λ (c : Counts). IsLater (outside a 0 0) (outside c 0 0)) (sym h) (later_here (outside a 0 0))

pub later_looked : {T : Type 0} (a b : Counts) (r : Result T ListEnd) → HasLookCause a b r → Later a b
later_looked a b (Ok value) h = subst (λ (c : Counts). Later a c) (sym h) (later_here (outside a 0 0)).counts
later_looked a b (Err (end.Fault f)) h = (later_fault a b f h).counts
later_looked a b (Err end.Memory) h = (later_alone a b 0 0 h).counts

-- the exit of a `?`, where nothing outside was at fault
pub quiet_exit : {T : Type 0} (r : Result T ListEnd) (e : ListEnd) → IsErrAnd r (λ x. x ≡ e) → IsInside e → IsQuiet r
quiet_exit (Ok value) e is inside = absurd is
quiet_exit (Err x) e is inside = λ counts. subst (λ (y : ListEnd). HasEndCause counts counts y) (sym is) (inside counts)

module _ (start : Outside) (ledger : Ledger) where
  -- where nothing changed
  pub same_counts : (a b : Counts) (out err : ℕ) → b ≡ a → Accounted start (outside a out err) ledger → Accounted start (outside b out err) ledger
  same_counts a b out err same h = subst (λ c. Accounted start (outside c out err) ledger) (sym same) h

  pub same_out : (counts : Counts) (a b err : ℕ) → b ≡ a → Accounted start (outside counts a err) ledger → Accounted start (outside counts b err) ledger
  same_out counts a b err same h = subst (λ o. Accounted start (outside counts o err) ledger) (sym same) h

  -- for want of memory nothing need be told
  pub wanting_on : (old new : Outside) → IsLater old new → Accounted start old ledger → Accounted start new (wanting ledger)
  wanting_on old new p a = record {
    later = later_on start old new a.later p;
    each = each_on start old new ledger.faults p a.each;
    counted = counted_on start old new ledger.faults p a.counted;
    told = λ is. absurd (false≢true (sym is));
    shut = λ is. rose_on _ _ _ (a.shut is) p.counts.disk;
  }

  pub wanted : (now : Outside) → Accounted start now ledger → Accounted start now (wanting ledger)
  wanted now a = wanting_on now now (later_here now) a

  -- a fault is dropped for want of memory
  pub dropped : (now : Outside) (f : BuildFault) → Accounted start now (with_fault ledger f) → Accounted start now (wanting ledger)
  dropped now f a = record {
    later = a.later;
    each = front_of (HasCause start now) ledger.faults f a.each;
    counted = counted_fewer start now ledger.faults (f ∷ []) a.counted;
    told = λ is. absurd (false≢true (sym is));
    shut = a.shut;
  }
    where
      front_of : (P : BuildFault → Type 0) (fs : List BuildFault) (f : BuildFault) → All P (fs ++ f ∷ []) → All P fs
      front_of P fs f each = (All-pop P (fs ++ f ∷ []) fs (Some f) refl each).0

  -- a fault for which nothing outside need be at fault
  pub inner : (now : Outside) (f : BuildFault) → IsInner f → Accounted start now ledger → Accounted start now (with_fault ledger f)
  inner now f is a = added start now now ledger f (is now now) (record { later = later_here now; disk = inl refl; tree = inl refl; start = inl refl; action = inl refl; out = inl refl; err = inl refl }) a

  tree_fault : (old new : Counts) (out err : ℕ) (path : List ℕ) → TreeFails old new → Accounted start (outside old out err) ledger → Accounted start (outside new out err) (with_fault ledger (fault.TreeFault path))
  tree_fault old new out err path f a = added start (outside old out err) (outside new out err) ledger (fault.TreeFault path) f.rose (record {
    later = later_tree old new out err f;
    disk = inl f.disk;
    tree = inr (fault.TreeFault path, Contains-push ledger.faults (fault.TreeFault path), tt);
    start = inl f.start;
    action = inl f.action;
    out = inl refl;
    err = inl refl;
  }) a

  start_fault : (old new : Counts) (out err : ℕ) (target : List ℕ) → StartFails old new → Accounted start (outside old out err) ledger → Accounted start (outside new out err) (with_fault ledger (fault.StartFault target))
  start_fault old new out err target f a = added start (outside old out err) (outside new out err) ledger (fault.StartFault target) f.rose (record {
    later = later_start old new out err f;
    disk = inl f.disk;
    tree = inl f.tree;
    start = inr (fault.StartFault target, Contains-push ledger.faults (fault.StartFault target), tt);
    action = inl f.action;
    out = inl refl;
    err = inl refl;
  }) a

  -- the disk refused
  pub disk_fault : (old new : Counts) (out err : ℕ) → DiskFails old new → Accounted start (outside old out err) ledger → Accounted start (outside new out err) (with_shut ledger)
  disk_fault old new out err f a =
      let more = added start (outside old out err) (outside new out err) ledger fault.StoreFault f.rose (record {
        later = later_disk old new out err f;
        disk = inr (Contains-push ledger.faults fault.StoreFault);
        tree = inl f.tree;
        start = inl f.start;
        action = inl f.action;
        out = inl refl;
        err = inl refl;
      }) a in
      record { later = more.later; each = more.each; counted = more.counted; told = more.told; shut = λ is. rose_from _ _ _ a.later.counts.disk f.rose }

  -- the disk has refused before
  pub shut_fault : (now : Outside) → ledger.shut ≡ true → Accounted start now ledger → Accounted start now (with_fault ledger fault.StoreFault)
  shut_fault now is a = record {
    later = a.later;
    each = All-push (HasCause start now) ledger.faults fault.StoreFault a.each (a.shut is);
    counted = counted_more start now now ledger.faults (fault.StoreFault ∷ []) a.counted (counted_store now now (later_here now));
    told = λ m. told_more start now ledger.faults fault.StoreFault (a.told m);
    shut = a.shut;
  }

  pub out_fault : (counts : Counts) (old new err : ℕ) → Rose old new → Accounted start (outside counts old err) ledger → Accounted start (outside counts new err) (with_fault ledger fault.OutFault)
  out_fault counts old new err r a = added start (outside counts old err) (outside counts new err) ledger fault.OutFault (inl r) (record {
    later = record { counts = (later_here (outside counts old err)).counts; out = r.later; err = omega arith };
    disk = inl refl;
    tree = inl refl;
    start = inl refl;
    action = inl refl;
    out = inr (Contains-push ledger.faults fault.OutFault);
    err = inl refl;
  }) a

  pub err_fault : (counts : Counts) (out old new : ℕ) → Rose old new → Accounted start (outside counts out old) ledger → Accounted start (outside counts out new) (with_fault ledger fault.OutFault)
  err_fault counts out old new r a = added start (outside counts out old) (outside counts out new) ledger fault.OutFault (inr r) (record {
    later = record { counts = (later_here (outside counts out old)).counts; out = omega arith; err = r.later };
    disk = inl refl;
    tree = inl refl;
    start = inl refl;
    action = inl refl;
    out = inl refl;
    err = inr (Contains-push ledger.faults fault.OutFault);
  }) a

  look_fault : (old new : Counts) (out err : ℕ) (f : BuildFault) → HasLookFault old new f → Accounted start (outside old out err) ledger → Accounted start (outside new out err) (with_fault ledger f)
  look_fault old new out err (fault.Missing node target) h a = absurd h
  look_fault old new out err (fault.Cycle paths) h a = absurd h
  look_fault old new out err (fault.ActionFailed target code) h a = absurd h
  look_fault old new out err (fault.TreeFault path) h a = tree_fault old new out err path h a
  look_fault old new out err (fault.StartFault target) h a = absurd h
  look_fault old new out err fault.StoreFault h a = absurd h
  look_fault old new out err fault.OutFault h a = absurd h
  look_fault old new out err (fault.TooLarge path size) h a = inner (outside new out err) (fault.TooLarge path size) (λ x y. tt) (same_counts old new out err h a)
  look_fault old new out err (fault.TooMany what count) h a = inner (outside new out err) (fault.TooMany what count) (λ x y. tt) (same_counts old new out err h a)

  pub look_end : (old new : Counts) (out err : ℕ) (e : ListEnd) → HasEndCause old new e → Accounted start (outside old out err) ledger → Accounted start (outside new out err) (with_end ledger e)
  look_end old new out err (end.Fault f) h a = look_fault old new out err f h a
  look_end old new out err end.Memory h a = wanting_on (outside old out err) (outside new out err) (later_alone old new out err h) a

  -- a look, and what it ends with
  pub looked : {T : Type 0} (old new : Counts) (out err : ℕ) (r : Result T ListEnd) → HasLookCause old new r → Accounted start (outside old out err) ledger → Accounted start (outside new out err) (with_done ledger r)
  looked old new out err (Ok value) h a = same_counts old new out err h a
  looked old new out err (Err e) h a = look_end old new out err e h a

  -- an end for which nothing outside is at fault
  pub inside : (counts : Counts) (out err : ℕ) (e : ListEnd) → IsInside e → Accounted start (outside counts out err) ledger → Accounted start (outside counts out err) (with_end ledger e)
  inside counts out err e is a = look_end counts counts out err e (is counts) a

  -- the exits of a `?`
  pub exit_same : {T : Type 0} (now : Outside) (r : Result T ListEnd) (e : ListEnd) → IsErrAnd r (λ x. x ≡ e) → Accounted start now (with_end ledger e) → Accounted start now (with_done ledger r)
  exit_same now (Ok value) e h a = absurd h
  exit_same now (Err x) e h a = subst (λ y. Accounted start now (with_end ledger y)) (sym h) a

  pub exit_inside : {T : Type 0} (counts : Counts) (out err : ℕ) (r : Result T ListEnd) → IsErrAnd r IsInside → Accounted start (outside counts out err) ledger → Accounted start (outside counts out err) (with_done ledger r)
  exit_inside counts out err (Ok value) h a = absurd h
  exit_inside counts out err (Err x) h a = inside counts out err x h a

  -- a print that was refused
  pub print_end : (counts : Counts) (old new err : ℕ) (e : ListEnd) → HasPrintEnd old new e → Accounted start (outside counts old err) ledger → Accounted start (outside counts new err) (with_end ledger e)
  print_end counts old new err (end.Fault (fault.Missing node target)) h a = absurd h
  print_end counts old new err (end.Fault (fault.Cycle paths)) h a = absurd h
  print_end counts old new err (end.Fault (fault.ActionFailed target code)) h a = absurd h
  print_end counts old new err (end.Fault (fault.TreeFault path)) h a = absurd h
  print_end counts old new err (end.Fault (fault.StartFault target)) h a = absurd h
  print_end counts old new err (end.Fault fault.StoreFault) h a = absurd h
  print_end counts old new err (end.Fault fault.OutFault) h a = out_fault counts old new err h a
  print_end counts old new err (end.Fault (fault.TooLarge path size)) h a = absurd h
  print_end counts old new err (end.Fault (fault.TooMany what count)) h a = absurd h
  print_end counts old new err end.Memory h a = absurd h

  -- a start that was refused
  start_end : (old new : Counts) (out err : ℕ) (e : ListEnd) → HasStartEnd old new e → Accounted start (outside old out err) ledger → Accounted start (outside new out err) (with_end ledger e)
  start_end old new out err (end.Fault (fault.Missing node target)) h a = absurd h
  start_end old new out err (end.Fault (fault.Cycle paths)) h a = absurd h
  start_end old new out err (end.Fault (fault.ActionFailed target code)) h a = absurd h
  start_end old new out err (end.Fault (fault.TreeFault path)) h a = absurd h
  start_end old new out err (end.Fault (fault.StartFault target)) h a = start_fault old new out err target h a
  start_end old new out err (end.Fault fault.StoreFault) h a = absurd h
  start_end old new out err (end.Fault fault.OutFault) h a = absurd h
  start_end old new out err (end.Fault (fault.TooLarge path size)) h a = absurd h
  start_end old new out err (end.Fault (fault.TooMany what count)) h a = absurd h
  start_end old new out err end.Memory h a = elim h [
    | inl same ↦ wanted (outside new out err) (same_counts old new out err same a)
    | inr fails ↦ wanting_on (outside old out err) (outside new out err) (later_start old new out err fails) a
  ]

  -- a start, and what it ends with
  pub begun : {T : Type 0} (old new : Counts) (out err : ℕ) (r : Result T ListEnd) → HasStartCause old new r → Accounted start (outside old out err) ledger → Accounted start (outside new out err) (with_done ledger r)
  begun old new out err (Ok value) h a = same_counts old new out err h a
  begun old new out err (Err e) h a = start_end old new out err e h a

  -- an ending, of whichever target
  pub settled : (old new : Counts) (out err : ℕ) (target : List ℕ) (o : Outcome) → HasOutcomeCause o old new → Accounted start (outside old out err) ledger → Accounted start (outside new out err) (with_outcome ledger target o)
  settled old new out err target outcome.Done h a = same_counts old new out err h a
  settled old new out err target (outcome.Failed code) h a = added start (outside old out err) (outside new out err) ledger (fault.ActionFailed target code) h.rose (record {
    later = later_action old new out err h;
    disk = inl h.disk;
    tree = inl h.tree;
    start = inl h.start;
    action = inr (fault.ActionFailed target code, Contains-push ledger.faults (fault.ActionFailed target code), tt);
    out = inl refl;
    err = inl refl;
  }) a
  settled old new out err target outcome.Broken h a = start_fault old new out err target h a
  settled old new out err target outcome.NoMemory h a = wanted (outside new out err) (same_counts old new out err h a)

  -- an ending that isn't told for want of memory
  pub untold : (now : Outside) (target : List ℕ) (o : Outcome) → Accounted start now (with_outcome ledger target o) → Accounted start now (wanting ledger)
  untold now target outcome.Done a = wanted now a
  untold now target (outcome.Failed code) a = dropped now (fault.ActionFailed target code) a
  untold now target outcome.Broken a = dropped now (fault.StartFault target) a
  untold now target outcome.NoMemory a = a

-- the end of a start that was refused
pub refused_start : (old new : Counts) (e : ListEnd) → StartFails old new → IsUnstarted e → HasStartEnd old new e
refused_start old new (end.Fault (fault.Missing node target)) fails is = absurd is
refused_start old new (end.Fault (fault.Cycle paths)) fails is = absurd is
refused_start old new (end.Fault (fault.ActionFailed target code)) fails is = absurd is
refused_start old new (end.Fault (fault.TreeFault path)) fails is = absurd is
refused_start old new (end.Fault (fault.StartFault target)) fails is = fails
refused_start old new (end.Fault fault.StoreFault) fails is = absurd is
refused_start old new (end.Fault fault.OutFault) fails is = absurd is
refused_start old new (end.Fault (fault.TooLarge path size)) fails is = absurd is
refused_start old new (end.Fault (fault.TooMany what count)) fails is = absurd is
refused_start old new end.Memory fails is = inr fails

-- at the start nothing was found
pub at_first : (start : Outside) → Accounted start start blank
at_first start = record {
  later = later_here start;
  each = All-nil (HasCause start start);
  counted = counted_none start;
  told = λ is. record { disk = λ ne. absurd (ne refl); tree = λ ne. absurd (ne refl); start = λ ne. absurd (ne refl); action = λ ne. absurd (ne refl); out = λ ne. absurd (ne refl); err = λ ne. absurd (ne refl) };
  shut = λ is. absurd (false≢true is);
}

-- the same faults
pub as_faults : (start now : Outside) (old new : List BuildFault) (shut memory : Bool) → new ≡ old
    → Accounted start now (record { faults = old; shut = shut; memory = memory }) → Accounted start now (record { faults = new; shut = shut; memory = memory })
as_faults start now old new shut memory same a = subst (λ (fs : List BuildFault). Accounted start now (record { faults = fs; shut = shut; memory = memory })) (sym same) a

-- the same account
pub account_as : (start now : Outside) (old new : Ledger) → new ≡ old → Accounted start now old → Accounted start now new
account_as start now old new same a = subst (λ ledger. Accounted start now ledger) (sym same) a

-- an ending that isn't told for want of memory, of whichever target
pub wants_untold : {E : Type 0} (e : SinkMeaning E) (err : E) (old : Account) (target : List ℕ) (o : Outcome) (new : Account) → ledger_of new ≡ wanting (ledger_of old) → Reports e err old (with_outcome (ledger_of old) target o) err new
wants_untold e err old target o new is = record {
  shut = ap (λ (l : Ledger). l.shut) is;
  accounts = λ counts out start a. account_as start _ (wanting (ledger_of old)) (ledger_of new) is (untold start (ledger_of old) _ target o a);
}

-- an answer with the faults of an account, of which the store is no more asked
pub ended : (start now : Outside) (ledger : Ledger) (faults : List BuildFault) (memory : Bool) → faults ≡ ledger.faults → memory ≡ ledger.memory
    → Accounted start now ledger → Accounted start now (record { faults = faults; shut = false; memory = memory })
ended start now ledger faults memory same said a = record {
  later = a.later;
  each = subst (λ fs. All (HasCause start now) fs) (sym same) a.each;
  counted = subst (λ fs. AreCounted start now fs) (sym same) a.counted;
  told = λ is. subst (λ fs. AreTold start now fs) (sym same) (a.told (sym said ∙ is));
  shut = λ is. absurd (false≢true is);
}

pub caused : (start now : Outside) (ledger : Ledger) → Accounted start now ledger → AreCaused start now ledger.faults ledger.memory
caused start now ledger a = record { later = a.later; each = a.each; counted = a.counted; told = a.told }
