-- The endings on a board stay the runner's own answers.
use Rattle.std.proofs.Common.{◌≡◌, ℕ, zero, suc, List, [], ◌∷◌, ◌++◌, Option, Bool, refl, sym, ap, subst, arith, inl, inr}
use Rattle.std.specs.Prelude.{Contains, ◌⊎◌, Result, Ok, Err, Some, None, IfOk, IfSome, IfNone, OnOk, OnErr}
use Rattle.job_runner.specs.Answers.{Answer, Gives, AreGiven}
use Rattle.job_runner.specs.Lists.{Lists, HandsIn, Takes, Puts, Picks}
use Rattle.job_runner.specs.declared.slip.Slip.{Slip}
use Rattle.job_runner.specs.declared.slip.Ending.{Ending}

abbrev End : Type 0
End = ℕ × Ending

contains_snoc : (xs : List End) (y x : End) → Contains (xs ++ y ∷ []) x → Contains xs x ⊎ (y ≡ x)
contains_snoc [] y x (zero, inside, is) = inr is
contains_snoc [] y x (suc k, inside, is) = absurd (omega arith)
contains_snoc (z ∷ xs) y x (zero, inside, is) = inl (zero, omega arith, is)
contains_snoc (z ∷ xs) y x (suc k, inside, is) =
    elim (contains_snoc xs y x (k, omega arith, is)) [
      | inl there ↦ inl (suc there.0, omega (arith, there.1), there.2)
      | inr last ↦ inr last
    ]

more_own : (told : Slip → Option Answer) (gave : Ending → Bool) (xs : List End) (number : ℕ) (ending : Ending) → Gives told gave ending → AreGiven told gave xs → AreGiven told gave (xs ++ (number, ending) ∷ [])
more_own told gave xs number ending is own n e there =
    elim (contains_snoc xs (number, ending) (n, e) there) [
      | inl before ↦ own n e before
      | inr last ↦ subst (Gives told gave) (ap (λ (x : End). x.1) last) is
    ]

same_own : (told : Slip → Option Answer) (gave : Ending → Bool) (old new : Lists) → new.ended ≡ old.ended → AreGiven told gave old.ended → AreGiven told gave new.ended
same_own told gave old new same own = subst (AreGiven told gave) (sym same) own

pub own_by_hand_in : {E : Type 0} (told : Slip → Option Answer) (gave : Ending → Bool) (slip : Slip) (r : Result ℕ E) (old new : Lists) → IfOk r (λ number. HandsIn number slip old new) → OnErr r (new ≡ old)
    → AreGiven told gave old.ended → AreGiven told gave new.ended
own_by_hand_in told gave slip (Ok number) old new ok err own = same_own told gave old new (ap (λ (l : Lists). l.ended) ok.lists) own
own_by_hand_in told gave slip (Err e) old new ok err own = same_own told gave old new (ap (λ (l : Lists). l.ended) err) own

pub own_by_take : {A : Type 0} (told : Slip → Option Answer) (gave : Ending → Bool) (number : A → ℕ) (slip : A → Slip) (r : Option A) (old new : Lists)
    → IfNone r ((old.waiting ≡ []) × (new ≡ old)) → IfSome r (λ taken. Takes (number taken) (slip taken) old new) → AreGiven told gave old.ended → AreGiven told gave new.ended
own_by_take told gave number slip None old new none some own = same_own told gave old new (ap (λ (l : Lists). l.ended) none.1) own
own_by_take told gave number slip (Some taken) old new none some own = same_own told gave old new (ap (λ (l : Lists). l.ended) some.lists) own

pub own_by_put : {A E : Type 0} (told : Slip → Option Answer) (gave : Ending → Bool) (number : ℕ) (ending : Ending) (r : Result A E) (old new : Lists) → OnOk r (Puts number ending old new) → OnErr r (new ≡ old)
    → Gives told gave ending → AreGiven told gave old.ended → AreGiven told gave new.ended
own_by_put told gave number ending (Ok a) old new ok err is own =
    subst (AreGiven told gave) (sym (ap (λ (l : Lists). l.ended) ok.lists)) (more_own told gave old.ended number ending is own)
own_by_put told gave number ending (Err e) old new ok err is own = same_own told gave old new (ap (λ (l : Lists). l.ended) err) own

pub own_by_pick : (told : Slip → Option Answer) (gave : Ending → Bool) (r : Option End) (old new : Lists) → IfNone r ((old.ended ≡ []) × (new ≡ old)) → IfSome r (λ picked. Picks picked.0 picked.1 old new)
    → AreGiven told gave old.ended → AreGiven told gave new.ended
own_by_pick told gave None old new none some own = same_own told gave old new (ap (λ (l : Lists). l.ended) none.1) own
own_by_pick told gave (Some picked) old new none some own =
    let front = subst (AreGiven told gave) some.oldest own in
    λ n e there. front n e (suc there.0, omega (arith, there.1), there.2)

pub picked_own : (told : Slip → Option Answer) (gave : Ending → Bool) (r : Option End) (old new : Lists) → IfSome r (λ picked. Picks picked.0 picked.1 old new) → AreGiven told gave old.ended
    → IfSome r (λ picked. Gives told gave picked.1)
picked_own told gave None old new some own = tt
picked_own told gave (Some picked) old new some own =
    let front = subst (AreGiven told gave) some.oldest own in
    front picked.0 picked.1 (zero, omega arith, refl)
