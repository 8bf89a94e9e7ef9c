-- What a stop is that a refusal becomes.
use Rattle.std.proofs.Common.{◌≡◌, ◌≢◌, ◌∙◌, Result, Ok, Err, sym, ap, subst}
use Rattle.std.specs.Prelude.{IfErr, IsErrAnd}
use Rattle.scons_host.specs.declared.stop.Refusal.{Refusal}
use Rattle.scons_host.specs.declared.stop.Refusal.TheVariants as refusal
use Rattle.scons_host.specs.declared.stop.Stop.{Stop}
use Rattle.scons_host.specs.Refusals.{of_refusal, told_by}
use Rattle.scons_host.specs.Shown.{IsTold}

-- the exit of a `?` with a refusal
pub refusal_told : {X : Type 0} (by : Result X Refusal) (r : Refusal) (s : Stop) → s ≡ of_refusal r → (r ≢ refusal.Memory → by ≡ Err r) → IsTold s → told_by of_refusal by ≡ Err s
refusal_told {X = X} by (refusal.Kind kind) s is gives told =
    ap (told_by of_refusal) (gives (λ e. cc)) ∙ ap (λ t. let made : Result X Stop = Err t in made) (sym is)
refusal_told by refusal.Memory s is gives told = absurd (subst IsTold is told)

pub told_exit : {T X : Type 0} (by : Result X Refusal) (r : Refusal) (made : Result T Stop) → IsErrAnd made (λ s. s ≡ of_refusal r) → (r ≢ refusal.Memory → by ≡ Err r) → IfErr made (λ s. IsTold s → told_by of_refusal by ≡ Err s)
told_exit by r (Ok x) is gives = absurd is
told_exit by r (Err s) is gives = λ told. refusal_told by r s is gives told
