-- Faults that are found before anything is removed or built.
use Rattle.std.specs.Prelude.{List, All}
use Rattle.scons_top.specs.declared.report.Top.{Top}
use Rattle.scons_top.specs.declared.report.Top.TheVariants as top
use Rattle.scons_top.specs.declared.stop.OwnFault.{OwnFault}
use Rattle.scons_top.specs.declared.stop.OwnFault.TheVariants as own
use Rattle.scons_top.specs.declared.stop.Stop.{Stop}
use Rattle.scons_top.specs.declared.stop.Stop.TheVariants as stop

-- the fault of a run that one of its own is
abbrev pub top_of_own : OwnFault → Top
top_of_own (own.Usage place kind) = top.Usage place kind
top_of_own (own.Reading file line kind) = top.Reading file line kind
top_of_own (own.UnknownTarget word) = top.UnknownTarget word
top_of_own (own.StoreForeign bank) = top.StoreForeign bank

-- a refused word, a script that can't be read, or a word that names nothing
abbrev pub IsEarly : Top → Type 0
IsEarly (top.Usage place kind) = Unit {0}
IsEarly (top.Reading file line kind) = Unit {0}
IsEarly (top.Missing node target) = ⊥
IsEarly (top.UnknownTarget word) = Unit {0}
IsEarly (top.Cycle paths) = ⊥
IsEarly (top.ActionFailed target code) = ⊥
IsEarly (top.TreeFault path) = ⊥
IsEarly (top.StartFault target) = ⊥
IsEarly top.StoreFault = ⊥
IsEarly (top.StoreForeign bank) = ⊥
IsEarly top.OutFault = ⊥
IsEarly (top.TooLarge path size) = ⊥
IsEarly (top.TooMany what count) = ⊥

abbrev pub IsLate : Top → Type 0
IsLate fault = IsEarly fault → ⊥

abbrev pub IsEarlyStop : Stop → Type 0
IsEarlyStop (stop.Fault fault) = IsEarly (top_of_own fault)
IsEarlyStop (stop.Build fault) = ⊥
IsEarlyStop stop.Memory = ⊥

abbrev pub IsLateStop : Stop → Type 0
IsLateStop stop = IsEarlyStop stop → ⊥

-- where one of these faults is early, this is so
abbrev pub EarlyOnlyIf : Type 0 → List Top → Type 0
EarlyOnlyIf P faults = All (λ fault. IsEarly fault → P) faults
