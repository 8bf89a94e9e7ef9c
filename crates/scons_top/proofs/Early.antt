-- Early faults among those of a run.
use Rattle.std.proofs.Common.{◌≡◌, subst, sym, List, [], ◌∷◌, ◌++◌, Contains}
use Rattle.std.specs.Prelude.{Result, Ok, Err, IfOk, IfErr}
use Rattle.std.proofs.lemmas.List.Elements.{All-push, All-nil, All-contains}
use Rattle.world_api.specs.Meaning.{Meaning}
use Rattle.scons_top.specs.Faults.{IsEarly, IsEarlyStop, IsLateStop, EarlyOnlyIf}
use Rattle.scons_top.specs.declared.report.Report.{Report}
use Rattle.scons_top.specs.declared.report.Top.{Top}
use Rattle.scons_top.specs.declared.stop.Stop.{Stop}
use Rattle.world_api.specs.Looks.{Looks}
use Rattle.world_api.proofs.Looking.{looks_joined}

-- one fault more
pub added : (P : Type 0) (old : List Top) (fault : Top) (new : List Top) → new ≡ old ++ fault ∷ [] → (IsEarly fault → P) → EarlyOnlyIf P old → EarlyOnlyIf P new
added P old fault new same is each = subst (λ faults. EarlyOnlyIf P faults) (sym same) (All-push (λ other. IsEarly other → P) old fault each is)

pub as_before : (P : Type 0) (old new : List Top) → new ≡ old → EarlyOnlyIf P old → EarlyOnlyIf P new
as_before P old new same each = subst (λ faults. EarlyOnlyIf P faults) (sym same) each

pub none_early : (P : Type 0) (faults : List Top) → faults ≡ [] → EarlyOnlyIf P faults
none_early P faults none = subst (λ some. EarlyOnlyIf P some) (sym none) (All-nil (λ other. IsEarly other → P))

pub early_in : (P : Type 0) (faults : List Top) (fault : Top) → EarlyOnlyIf P faults → Contains faults fault → IsEarly fault → P
early_in P faults fault each has is = All-contains (λ other. IsEarly other → P) faults fault each has is

-- a report without a fault
pub good_late : {E : Type 0} (r : Result Report E) → IfOk r (λ report. report.faults ≡ []) → IfOk r (λ report. EarlyOnlyIf ⊥ report.faults)
good_late (Ok report) none = none_early ⊥ report.faults none
good_late (Err e) none = none

-- a stop that isn't early
pub late_stop : {T : Type 0} (P : Type 0) (r : Result T Stop) → IfErr r IsLateStop → IfErr r (λ stop. IsEarlyStop stop → P)
late_stop P (Ok value) late = late
late_stop P (Err stop) late = λ is. absurd (late is)

-- a stop of whichever kind
pub any_stop : {T : Type 0} (P : Type 0) (r : Result T Stop) → P → IfErr r (λ stop. IsEarlyStop stop → P)
any_stop P (Ok value) p = tt
any_stop P (Err stop) p = λ is. p

pub stop_after : {T W : Type 0} (m : Meaning W) (a b c : W) (r : Result T Stop) → Looks m a b → IfErr r (λ stop. IsEarlyStop stop → Looks m b c) → IfErr r (λ stop. IsEarlyStop stop → Looks m a c)
stop_after m a b c (Ok value) first then = then
stop_after m a b c (Err stop) first then = λ is. looks_joined m a b c first (then is)
