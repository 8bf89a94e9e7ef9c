-- Looks one after the other, and what their ends stand for.
use Rattle.std.proofs.Common.{◌≡◌, sym, subst}
use Rattle.std.specs.Prelude.{Result, Ok, Err, IsErrAnd, OnOk}
use Rattle.world_api.specs.Counts.{Counts}
use Rattle.rule_graph.specs.declared.build_fault.BuildFault.{BuildFault}
use Rattle.rule_graph.specs.declared.build_fault.BuildFault.TheVariants as fault
use Rattle.build_files.specs.declared.end.ListEnd.{ListEnd}
use Rattle.build_files.specs.declared.end.ListEnd.TheVariants as end
use Rattle.build_files.specs.Causes.{HasEndCause as HasLookEnd, HasFaultCause as HasLookFault, IsInside as IsInsideLook}
use Rattle.world_api.proofs.Looking.{looks_same, looks_joined, alone_same}
use Rattle.scons_report.specs.Causes.{HasEndCause, HasFaultCause, HasListCause, IsInside}

of_fault : (a b : Counts) (f : BuildFault) → HasLookFault a b f → HasFaultCause a b f
of_fault a b (fault.Missing node target) h = absurd h
of_fault a b (fault.Cycle paths) h = absurd h
of_fault a b (fault.ActionFailed target code) h = h
of_fault a b (fault.TreeFault path) h = h
of_fault a b (fault.StartFault target) h = h
of_fault a b fault.StoreFault h = h
of_fault a b fault.OutFault h = h
of_fault a b (fault.TooLarge path size) h = h
of_fault a b (fault.TooMany what count) h = h

-- what ends a look ends a list
pub of_look : (a b : Counts) (e : ListEnd) → HasLookEnd a b e → HasEndCause a b e
of_look a b (end.Fault f) h = of_fault a b f h
of_look a b end.Memory h = h

-- nothing was at fault before
pub look_after : (a b c : Counts) (e : ListEnd) → b ≡ a → HasLookEnd b c e → HasEndCause a c e
look_after a b c e same h = of_look a c e (subst (λ x. HasLookEnd x c e) same h)

pub end_after : (a b c : Counts) (e : ListEnd) → b ≡ a → HasEndCause b c e → HasEndCause a c e
end_after a b c e same h = subst (λ x. HasEndCause x c e) same h

-- nothing was at fault at all
pub inside_look : (a b : Counts) (e : ListEnd) → b ≡ a → IsInsideLook e → HasEndCause a b e
inside_look a b e same is = of_look a b e (subst (λ c. HasLookEnd a c e) (sym same) (is a))

pub inside : (a b : Counts) (e : ListEnd) → b ≡ a → IsInside e → HasEndCause a b e
inside a b e same is = subst (λ c. HasEndCause a c e) (sym same) (is a)

-- the exit of a `?` where nothing was at fault
pub inside_exit : {T : Type 0} (a b : Counts) (r : Result T ListEnd) → b ≡ a → IsErrAnd r IsInsideLook → HasListCause a b r
inside_exit a b (Ok value) same is = absurd is
inside_exit a b (Err e) same is = inside_look a b e same is

pub ruleset ending = (looks_same, looks_joined, alone_same, of_look, look_after, end_after, inside_look, inside)

-- where a call ends in an error nothing is said of what it gives
pub exit_ok : {T E : Type 0} (P : E → Type 0) (Q : Type 0) (r : Result T E) → IsErrAnd r P → OnOk r Q
exit_ok P Q (Ok value) is = absurd is
exit_ok P Q (Err e) is = tt

-- where a call ends in this error, and nothing was at fault before it
pub exit_cause : {T : Type 0} (a b c : Counts) (e : ListEnd) (r : Result T ListEnd) → b ≡ a → HasEndCause b c e → IsErrAnd r (λ x. x ≡ e) → HasListCause a c r
exit_cause a b c e (Ok value) same h is = absurd is
exit_cause a b c e (Err x) same h is = subst (λ (y : ListEnd). HasEndCause a c y) (sym is) (end_after a b c e same h)
