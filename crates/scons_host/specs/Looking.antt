-- The lemmas for functions that look once, or put one thing into the heap.
use Rattle.std.proofs.Common.{◌≡◌, subst, sym, refl}
use Rattle.std.specs.Prelude.{Result, Ok, Err, IfErr, IsErrAnd}
use Rattle.world_api.specs.Counts.{Counts}
use Rattle.world_api.proofs.Looking.{files_same, alone_same, alone_failed}
use Rattle.py_host.proofs.Extending.{extends_same}
use Rattle.scons_host.specs.Causes.{HasStopCause, HasLookCause, IsInside}
use Rattle.scons_host.specs.Refusals.{of_refusal}
use Rattle.scons_host.specs.declared.stop.Refusal.{Refusal}
use Rattle.scons_host.specs.declared.stop.Refusal.TheVariants as refusal
use Rattle.scons_host.specs.declared.stop.Stop.{Stop}
use Rattle.scons_host.specs.declared.stop.Stop.TheVariants as stop

-- a stop for which nothing outside is at fault
pub inside : (a b : Counts) (s : Stop) → b ≡ a → IsInside s → HasStopCause a b s
inside a b s same is = subst (λ c. HasStopCause a c s) (sym same) (is a)

-- a result for which nothing outside is at fault
pub inside_result : {T : Type 0} (a b : Counts) (r : Result T Stop) → b ≡ a → IfErr r IsInside → HasLookCause a b r
inside_result a b (Ok value) same is = same
inside_result a b (Err s) same is = inside a b s same is

-- a refusal, and want of memory
pub refusal_inside : (r : Refusal) → IsInside (of_refusal r)
refusal_inside (refusal.Kind kind) = λ counts. refl
refusal_inside refusal.Memory = λ counts. alone_same counts counts refl

pub refusal_stops : (f : Refusal) (s : Stop) → s ≡ of_refusal f → IsInside s
refusal_stops f s is = subst IsInside (sym is) (refusal_inside f)

pub refusal_exit : {T : Type 0} (a b : Counts) (f : Refusal) (r : Result T Stop) → b ≡ a → IsErrAnd r (λ s. s ≡ of_refusal f) → HasLookCause a b r
refusal_exit a b f (Ok value) same is = absurd is
refusal_exit a b f (Err s) same is = inside a b s same (refusal_stops f s is)

pub memory_exit : {T : Type 0} (a b : Counts) (r : Result T Stop) → b ≡ a → IsErrAnd r (λ s. s ≡ stop.Memory) → HasLookCause a b r
memory_exit a b r same is = refusal_exit a b refusal.Memory r same is

pub refusal_inside_exit : {T : Type 0} (f : Refusal) (r : Result T Stop) → IsErrAnd r (λ s. s ≡ of_refusal f) → IfErr r IsInside
refusal_inside_exit f (Ok value) is = tt
refusal_inside_exit f (Err s) is = refusal_stops f s is

pub memory_inside_exit : {T : Type 0} (r : Result T Stop) → IsErrAnd r (λ s. s ≡ stop.Memory) → IfErr r IsInside
memory_inside_exit r is = refusal_inside_exit refusal.Memory r is

pub ruleset looking = (files_same, extends_same, alone_same, alone_failed, inside, refusal_inside, refusal_exit, memory_exit, refusal_inside_exit, memory_inside_exit)
