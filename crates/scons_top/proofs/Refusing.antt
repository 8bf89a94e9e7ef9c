-- What a run tells that comes to open a signature file whose bytes are wrong.
use Rattle.std.proofs.Common.{◌≡◌, ◌≢◌, ◌∙◌, ◌⊎◌, inl, inr, sym, subst, refl, ℕ, List, Contains, arith}
use Rattle.std.specs.Prelude.{All, Ok}
use Rattle.std.proofs.lemmas.List.Elements.{All-contains}
use Rattle.world_api.specs.Banks.{Banks}
use Rattle.world_api.specs.declared.disk.Bank.{Bank}
use Rattle.rule_graph.specs.declared.build_fault.What.TheVariants as what
use Rattle.sign_store.specs.Readings.{AreReadable, AreSmall, IsLarge, IsRefusal}
use Rattle.sign_store.specs.declared.refusals.StoreRefusal.{StoreRefusal}
use Rattle.sign_store.specs.declared.refusals.StoreRefusal.TheVariants as refusal
use Rattle.scons_top.specs.declared.report.Report.{Report}
use Rattle.scons_top.specs.declared.report.Top.{Top}
use Rattle.scons_top.specs.declared.report.Top.TheVariants as top
use Rattle.scons_top.specs.declared.step.Step.{Step}
use Rattle.scons_top.specs.declared.step.Step.TheVariants as step
use Rattle.scons_top.specs.declared.stop.Stop.{Stop}
use Rattle.scons_top.specs.Foreign.{ComesToOpen, EndsByBytes, EndsOpening, IsOpened, OpensByBytes, StopsAtBytes, StopsOpening, StopsOpeningAt}
use Rattle.scons_top.specs.Steps.{IsStopOr, IsTold}
use Rattle.scons_top.specs.Stops.{stop_of_store}

-- ---- the bytes have one refusal

not_foreign : (banks : Banks) (bank : Bank) → AreReadable banks → IsRefusal banks (refusal.Foreign bank) → ⊥
not_foreign banks bank readable h = readable.known bank h.1

not_large : (banks : Banks) (size : ℕ) → AreSmall banks → IsLarge banks size → ⊥
not_large banks size small (inl h) = let a = small.a in let is = h.0 in let over = h.1 in omega (arith, a, is, over)
not_large banks size small (inr h) = let b = small.b in let is = h.1 in let over = h.2 in omega (arith, b, is, over)

same_bank : (banks : Banks) (a b : Bank) → IsRefusal banks (refusal.Foreign a) → IsRefusal banks (refusal.Foreign b) → a ≡ b
same_bank banks a b h k = let one = h.1 in let other = k.1 in cc

same_size : (banks : Banks) (n size : ℕ) → IsLarge banks n → IsLarge banks size → n ≡ size
same_size banks n size (inl h) (inl k) = sym h.0 ∙ k.0
same_size banks n size (inl h) (inr k) = let is = h.0 in let over = h.1 in let within = k.0 in absurd (omega (arith, is, over, within))
same_size banks n size (inr h) (inl k) = let is = k.0 in let over = k.1 in let within = h.0 in absurd (omega (arith, is, over, within))
same_size banks n size (inr h) (inr k) = sym h.1 ∙ k.1

-- ---- what is told of it

tells_foreign : (banks : Banks) (faults : List Top) (why : StoreRefusal) (bank : Bank) → IsRefusal banks why → IsRefusal banks (refusal.Foreign bank) → IsTold (stop_of_store why) faults
    → Contains faults (top.StoreForeign bank) ⊎ Contains faults top.StoreFault
tells_foreign banks faults refusal.Fault bank h f told = inr told
tells_foreign banks faults (refusal.Foreign other) bank h f told = inl (subst (λ (b : Bank). Contains faults (top.StoreForeign b)) (same_bank banks other bank h f) told)
tells_foreign banks faults (refusal.Large size) bank h f told = absurd (not_large banks size f.0 h)
tells_foreign banks faults refusal.Memory bank h f told = absurd told

tells_large : (banks : Banks) (faults : List Top) (why : StoreRefusal) (size : ℕ) → IsRefusal banks why → IsRefusal banks (refusal.Large size) → IsTold (stop_of_store why) faults
    → Contains faults (top.TooMany what.StoreBytes size) ⊎ Contains faults top.StoreFault
tells_large banks faults refusal.Fault size h f told = inr told
tells_large banks faults (refusal.Foreign bank) size h f told = absurd (not_large banks size h.0 f)
tells_large banks faults (refusal.Large n) size h f told = inl (subst (λ (m : ℕ). Contains faults (top.TooMany what.StoreBytes m)) (same_size banks n size h f) told)
tells_large banks faults refusal.Memory size h f told = absurd told

only_large : (banks : Banks) (why : StoreRefusal) (size : ℕ) → IsRefusal banks why → IsStopOr (stop_of_store why) (top.TooMany what.StoreBytes size) → IsRefusal banks (refusal.Large size)
only_large banks refusal.Fault size h (inl same) = absurd (let no = same in cc)
only_large banks refusal.Fault size h (inr out) = absurd (let no = out in cc)
only_large banks (refusal.Foreign bank) size h (inl same) = absurd (let no = same in cc)
only_large banks (refusal.Foreign bank) size h (inr out) = absurd (let no = out in cc)
only_large banks (refusal.Large n) size h (inl same) = subst (IsLarge banks) (let is : n ≡ size = cc in is) h
only_large banks (refusal.Large n) size h (inr out) = absurd (let no = out in cc)
only_large banks refusal.Memory size h is = absurd is

-- ---- where it is told

opened_or_store : (at : Step) → ComesToOpen at → (at ≡ step.Store) ⊎ IsOpened at
opened_or_store step.Words comes = absurd comes
opened_or_store step.Load comes = absurd comes
opened_or_store step.Top comes = absurd comes
opened_or_store step.Reading comes = absurd comes
opened_or_store step.Help comes = absurd comes
opened_or_store step.Requests comes = absurd comes
opened_or_store step.Cleaning comes = absurd comes
opened_or_store step.Store comes = inl refl
opened_or_store step.Listing comes = inr tt
opened_or_store step.Building comes = inr tt

opening_at : (banks : Banks) (at : Step) (s : Stop) → at ≡ step.Store → StopsOpeningAt banks at s → StopsOpening banks s
opening_at banks at s is h = subst (λ (x : Step). StopsOpeningAt banks x s) is h

-- a report comes only where the file was opened, or isn't to be
module _ (banks : Banks) (at : Step) (report : Report) (is : report.step ≡ at) (h : EndsByBytes banks at (Ok report)) where
  ends_nowhere : {P : Type 0} → (AreReadable banks → ⊥) → (at ≡ step.Store) ⊎ IsOpened at → P
  ends_nowhere never (inl store) = absurd (h.1 store)
  ends_nowhere never (inr opened) = absurd (never (h.0.readable opened))

  pub report_opens : OpensByBytes banks report
  report_opens = record {
    foreign = λ bank refused comes. ends_nowhere (λ readable. not_foreign banks bank readable refused) (opened_or_store at (subst ComesToOpen is comes));
    large = λ size refused comes. ends_nowhere (λ readable. not_large banks size readable.small refused) (opened_or_store at (subst ComesToOpen is comes));
    only = λ size store has. absurd (h.1 (sym is ∙ store));
  }

-- and a stop there is for what the bytes say, or by the disk, or for want of memory
module _ (banks : Banks) (at : Step) (s : Stop) (report : Report) (is : report.step ≡ at) (alone : All (IsStopOr s) report.faults)
    (told : report.status ≢ 3 → IsTold s report.faults) (h : StopsAtBytes banks at s) where
  opening : at ≡ step.Store → StopsOpening banks s
  opening store = opening_at banks at s store h.opening

  tells : (store : at ≡ step.Store) → report.status ≢ 3 → IsTold (stop_of_store (opening store).why) report.faults
  tells store ne = subst (λ (x : Stop). IsTold x report.faults) (opening store).stops (told ne)

  foreign_at : (bank : Bank) → IsRefusal banks (refusal.Foreign bank) → (at ≡ step.Store) ⊎ IsOpened at → EndsOpening (top.StoreForeign bank) report
  foreign_at bank refused (inl store) =
      record { ends = is ∙ store; told = λ ne. tells_foreign banks report.faults (opening store).why bank (opening store).refused refused (tells store ne) }
  foreign_at bank refused (inr opened) = absurd (not_foreign banks bank (h.readable opened) refused)

  large_at : (size : ℕ) → IsRefusal banks (refusal.Large size) → (at ≡ step.Store) ⊎ IsOpened at → EndsOpening (top.TooMany what.StoreBytes size) report
  large_at size refused (inl store) =
      record { ends = is ∙ store; told = λ ne. tells_large banks report.faults (opening store).why size (opening store).refused refused (tells store ne) }
  large_at size refused (inr opened) = absurd (not_large banks size (h.readable opened).small refused)

  only_at : (size : ℕ) → at ≡ step.Store → Contains report.faults (top.TooMany what.StoreBytes size) → IsRefusal banks (refusal.Large size)
  only_at size store has =
      only_large banks (opening store).why size (opening store).refused
      (subst (λ (x : Stop). IsStopOr x (top.TooMany what.StoreBytes size)) (opening store).stops (All-contains (IsStopOr s) report.faults (top.TooMany what.StoreBytes size) alone has))

  pub stop_opens : OpensByBytes banks report
  stop_opens = record {
    foreign = λ bank refused comes. foreign_at bank refused (opened_or_store at (subst ComesToOpen is comes));
    large = λ size refused comes. large_at size refused (opened_or_store at (subst ComesToOpen is comes));
    only = λ size store has. only_at size (sym is ∙ store) has;
  }
