-- Why nothing new starts any more in a build that was to go on after a fault.
use Rattle.std.specs.Prelude.{◌≡◌, ◌⊎◌, Bool, true, List, Result, Ok, Err}
use Rattle.rule_graph.specs.declared.build_fault.BuildFault.{BuildFault}
use Rattle.rule_graph.specs.declared.build_fault.BuildFault.TheVariants as fault
use Rattle.build_files.specs.declared.end.ListEnd.{ListEnd}
use Rattle.build_files.specs.declared.end.ListEnd.TheVariants as end
use Rattle.build_run.specs.Causes.{HasAny}
use Rattle.build_run.specs.declared.account.Account.{Account}
use Rattle.build_run.specs.declared.building.Options.{Options}
use Rattle.build_run.specs.declared.end.BuildEnd.{BuildEnd}
use Rattle.build_run.specs.declared.site.Site.{Site}

-- a fault after which nothing new starts, whatever was asked: with keep-going others go on after a failed action, a missing
-- dependency and a cycle
abbrev pub IsLast : BuildFault → Type 0
IsLast (fault.Missing node target) = ⊥
IsLast (fault.Cycle paths) = ⊥
IsLast (fault.ActionFailed target code) = ⊥
IsLast (fault.TreeFault path) = Unit {0}
IsLast (fault.StartFault target) = Unit {0}
IsLast fault.StoreFault = Unit {0}
IsLast fault.OutFault = Unit {0}
IsLast (fault.TooLarge path size) = Unit {0}
IsLast (fault.TooMany what count) = Unit {0}

-- such an end
abbrev pub IsLastEnd : ListEnd → Type 0
IsLastEnd (end.Fault fault) = IsLast fault
IsLastEnd end.Memory = Unit {0}

-- what ends in an end ends in such a one
abbrev pub EndsLast : {T : Type 0} → Result T ListEnd → Type 0
EndsLast (Ok value) = Unit {0}
EndsLast (Err e) = IsLastEnd e

-- memory was wanting, or such a fault is among these
abbrev pub HasLast : Bool → List BuildFault → Type 0
HasLast memory faults = (memory ≡ true) ⊎ HasAny IsLast faults

-- ---- accounts

-- Nothing new starts any more only where memory was wanting, or after such a fault.
abbrev pub IsReasoned : Account → Type 0
IsReasoned account = account.is_ended ≡ true → HasLast account.memory account.faults.items

abbrev pub StaysReasoned : Account → Account → Type 0
StaysReasoned old new = IsReasoned old → IsReasoned new

-- So it is with keep-going.
abbrev pub HasReason : Bool → Account → Type 0
HasReason keep account = keep ≡ true → IsReasoned account

abbrev pub KeepsReason : Bool → Account → Account → Type 0
KeepsReason keep old new = HasReason keep old → HasReason keep new

-- ---- sites

-- So it is at a site, where it was asked for.
abbrev pub SiteHasReason : {W O E : Type 0} → Site W O E → Type 0
SiteHasReason site = HasReason site.options.keep site.account.now

abbrev pub SiteKeepsReason : {W O E : Type 0} → Site W O E → Site W O E → Type 0
SiteKeepsReason old new = SiteHasReason old → SiteHasReason new

-- ---- builds

-- With keep-going a build ends only where memory was wanting, or after such a fault.
abbrev pub EndsForReason : Options → BuildEnd → Type 0
EndsForReason options answer = options.keep ≡ true → answer.is_ended ≡ true → HasLast answer.memory answer.faults
