-- Why leftover copies aren't taken away, and what of the outside that stands for.
use Rattle.std.specs.Prelude.{◌≡◌, ◌⊎◌, ℕ, List, [], None, Contains, Result, Ok, Err, OnOk}
use Rattle.world_api.specs.Around.{Around}
use Rattle.world_api.specs.Causes.{DiskFails}
use Rattle.world_api.specs.Counts.{Counts}
use Rattle.world_api.specs.Meaning.{Meaning}
use Rattle.rule_graph.specs.Graphs.{RuleGraph}
use Rattle.deciders.specs.declared.recorded.Rec.{Rec}
use Rattle.sign_store.specs.Copies.{IsCopyIn}
use Rattle.sign_store.specs.Tables.{Map}
use Rattle.build_files.specs.Leftovers.{IsLeftover}
use Rattle.rule_graph.specs.declared.build_fault.BuildFault.TheVariants as fault
use Rattle.build_files.specs.Causes.{HasEndCause}
use Rattle.build_files.specs.declared.end.ListEnd.{ListEnd}
use Rattle.build_files.specs.declared.end.ListEnd.TheVariants as end

-- a fault of the signature file comes only where the disk was at fault, and alone; any other end is that of a look
abbrev pub HasTakeEnd : Counts → Counts → ListEnd → Type 0
HasTakeEnd old new (end.Fault fault.StoreFault) = DiskFails old new
HasTakeEnd old new (end.Fault other) = HasEndCause old new (end.Fault other)
HasTakeEnd old new end.Memory = HasEndCause old new end.Memory

-- where all went well nothing was at fault
abbrev pub HasTakeCause : {T : Type 0} → Counts → Counts → Result T ListEnd → Type 0
HasTakeCause old new (Ok value) = new ≡ old
HasTakeCause old new (Err e) = HasTakeEnd old new e

-- files that `may` go are there or gone, and every other file is as it was
abbrev pub OnlyGo : (List ℕ → Type 0) → Around → Around → Type 0
OnlyGo may old new = (path : List ℕ) → (new.tree path ≡ old.tree path) ⊎ (may path × (new.tree path ≡ None))

-- so it is where nothing runs, and the world tells
abbrev pub Takes : {W : Type 0} → Meaning W → W → W → (List ℕ → Type 0) → Type 0
Takes m old new may = m.tells new → (m.around old).running ≡ [] → OnlyGo may (m.around old) (m.around new)

-- a leftover copy stands there: a record in the map is of it
abbrev pub IsLeftAt : RuleGraph → Around → Map → List ℕ → Type 0
IsLeftAt g around map path = (rec : Rec) × IsCopyIn map rec × IsLeftover g around rec × Contains rec.targets path

-- a target of one of these records
abbrev pub IsTargetOf : List Rec → List ℕ → Type 0
IsTargetOf recs path = (rec : Rec) × Contains recs rec × Contains rec.targets path

-- none of these paths is a file any more, if there is a value
abbrev pub AreTaken : {W T E : Type 0} → Meaning W → W → (List ℕ → Type 0) → Result T E → Type 0
AreTaken m world may result = m.tells world → OnOk result ((path : List ℕ) → may path → (m.around world).tree path ≡ None)
