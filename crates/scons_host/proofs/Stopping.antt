-- A call that is refused is refused with what was read so far around it.
use Rattle.std.proofs.Common.{◌≡◌, ◌≢◌, ℕ, Result, Ok, Err, IfErr, ap, subst}
use Rattle.py_host.specs.declared.place.Place.{Place}
use Rattle.scons_decls.specs.declared.answer.Answer.{Answer}
use Rattle.scons_decls.specs.declared.call.Call.{Call}
use Rattle.scons_decls.specs.declared.fault.NameFault.{NameFault}
use Rattle.scons_decls.specs.declared.fault.NameFault.TheVariants as fault
use Rattle.scons_decls.specs.declared.place.Place.{Place as Site}
use Rattle.scons_decls.specs.State.{Declared}
use Rattle.scons_declare.specs.Names.{declared_by}
use Rattle.scons_calls.specs.Results.{and_then}
use Rattle.scons_host.specs.Asked.{declared_in, site_of}
use Rattle.scons_host.specs.SoFar.{SoFar, with_declared}

stopped : (s : SoFar) (place : Place) (env : ℕ) (one : Call) (e : NameFault) → declared_by s.declared env (site_of place) one ≡ Err e → declared_in s place env one ≡ Err e
unfolding declared_in
stopped s place env one e is = ap (λ (made : Result (Answer × Declared) NameFault). and_then made (λ d. let r : Result (Answer × SoFar) NameFault = Ok (d.0, with_declared s d.1) in r)) is

pub fault_in : (s : SoFar) (place : Place) (at : Site) (env : ℕ) (one : Call) (made : Result Answer NameFault) → at ≡ site_of place → IfErr made (λ e. e ≢ fault.Memory → declared_by s.declared env at one ≡ Err e) → IfErr made (λ e. e ≢ fault.Memory → declared_in s place env one ≡ Err e)
fault_in s place at env one (Ok answer) same w = w
fault_in s place at env one (Err e) same w = λ m. stopped s place env one e (subst (λ p. declared_by s.declared env p one ≡ Err e) same (w m))
