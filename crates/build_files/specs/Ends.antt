-- What a reading of a file that was refused ends with.
use Rattle.std.specs.Prelude.{◌≡◌, ◌≢◌}
use Rattle.world_api.specs.Causes.{TreeFails}
use Rattle.world_api.specs.Counts.{Counts}
use Rattle.world_api.specs.declared.refusal.ReadRefusal.{ReadRefusal}
use Rattle.world_api.specs.declared.refusal.ReadRefusal.TheVariants as refused
use Rattle.build_files.specs.Causes.{HasEndCause}
use Rattle.build_files.specs.declared.end.ListEnd.{ListEnd}

-- where the tree was at fault the end has that cause, and any other refusal stands for nothing outside
abbrev pub IsReadEnd : ReadRefusal → ListEnd → Type 0
IsReadEnd refusal e = (old new : Counts) → (refusal ≢ refused.Fault → new ≡ old) → (refusal ≡ refused.Fault → TreeFails old new) → HasEndCause old new e
