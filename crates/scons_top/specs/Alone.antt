-- That a run which one fault ended reports that fault alone.
use Rattle.std.specs.Prelude.{List, [], ◌∷◌}
use Rattle.scons_top.specs.declared.report.Top.{Top}
use Rattle.scons_top.specs.declared.report.Top.TheVariants as top
use Rattle.scons_top.specs.declared.step.Step.{Step}
use Rattle.scons_top.specs.declared.step.Step.TheVariants as step

-- a fault and no other, but that standard error refused its line; or none
pub data AreOne : List Top → Type 0 where
  no_fault : AreOne []
  one_fault : (f : Top) → AreOne (f ∷ [])
  unprinted : (f : Top) → AreOne (f ∷ top.OutFault ∷ [])

-- a list and a build write a last line behind a fault, and a build may go on behind it
abbrev pub GoesOn : Step → Type 0
GoesOn step.Listing = Unit {0}
GoesOn step.Building = Unit {0}
GoesOn other = ⊥

-- every other step ends with its first fault
abbrev pub EndsAtOne : Step → List Top → Type 0
EndsAtOne at faults = (GoesOn at → ⊥) → AreOne faults
