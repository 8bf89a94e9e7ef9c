-- Forms of scripts as the code gives them: a fault of form is told of the script itself, on a line of it.
use Rattle.std.specs.Prelude.{◌≡◌, ℕ, List, Result, Ok, Err}
use Rattle.py_tree.specs.declared.line.Script.{Script}
use Rattle.py_tree.specs.Tree.{script_tree}
use Rattle.scons_host.specs.declared.end.ReadKind.{ReadKind}
use Rattle.scons_host.specs.declared.stop.Stop.{Stop}
use Rattle.scons_host.specs.declared.stop.Stop.TheVariants as stop
use Rattle.scons_host.specs.Forms.{Form, IsForm}
use Rattle.scons_host.specs.Untold.{untold_kind}

-- a fault on a line of a script, with whatever is told besides; or want of memory
abbrev pub IsThere : List ℕ → ℕ → ReadKind → Stop → Type 0
IsThere path line kind (stop.There at on why) = (at ≡ path) × (on ≡ line) × (untold_kind why ≡ kind)
IsThere path line kind (stop.Here why) = ⊥
IsThere path line kind (stop.Tree at) = ⊥
IsThere path line kind stop.Out = ⊥
IsThere path line kind (stop.TooLarge at size) = ⊥
IsThere path line kind (stop.TooMany what count) = ⊥
IsThere path line kind stop.Memory = Unit {0}

-- the fault of a script that has these bytes; or want of memory
abbrev pub IsBroken : List ℕ → List ℕ → Stop → Type 0
IsBroken path bytes (stop.There at line kind) = (at ≡ path) × IsForm bytes (Err (line, untold_kind kind))
IsBroken path bytes (stop.Here kind) = ⊥
IsBroken path bytes (stop.Tree at) = ⊥
IsBroken path bytes stop.Out = ⊥
IsBroken path bytes (stop.TooLarge at size) = ⊥
IsBroken path bytes (stop.TooMany what count) = ⊥
IsBroken path bytes stop.Memory = Unit {0}

abbrev pub GivesFault : Stop → Form → Type 0
GivesFault (stop.There at line kind) form = form ≡ Err (line, untold_kind kind)
GivesFault (stop.Here kind) form = ⊥
GivesFault (stop.Tree at) form = ⊥
GivesFault stop.Out form = ⊥
GivesFault (stop.TooLarge at size) form = ⊥
GivesFault (stop.TooMany what count) form = ⊥
GivesFault stop.Memory form = Unit {0}

-- this form is given, but for what is told besides of a fault, unless memory ran out
abbrev pub GivesForm : Result Script Stop → Form → Type 0
GivesForm (Ok script) form = form ≡ Ok (script_tree script)
GivesForm (Err e) form = GivesFault e form
