-- The name of a library's file.
use Rattle.std.proofs.Common.{◌≡◌, ℕ, List, ◌++◌, ap}
use Rattle.std.specs.Prelude.{Result, Ok, Err, codes}
use Rattle.scons_rules.specs.declared.fault.RuleReadFault.{RuleReadFault}
use Rattle.scons_rules.specs.Expanding.{Expanding, text_of}
use Rattle.scons_rules.specs.Libraries.{file_name}
use Rattle.scons_rules.specs.Steps.{and_then}

pub no_prefix : (x : Expanding) (name : List ℕ) (e : RuleReadFault) → text_of x (codes "$LIBPREFIX") ≡ Err e → file_name x name ≡ Err e
no_prefix x name e fault = ap (λ r. and_then r (λ prefix. and_then (text_of x (codes "$LIBSUFFIX")) (λ suffix. Ok (prefix ++ name ++ suffix)))) fault
