-- What the texts and nodes of a script name.
use Rattle.std.specs.Prelude.{ℕ, List, [], ◌∷◌, map, Result, Ok, Err, if◌then◌else◌}
use Rattle.env_subst.specs.Expansions.{is_literal}
use Rattle.scons_decls.specs.declared.fault.NameFault.{NameFault}
use Rattle.scons_decls.specs.declared.fault.NameFault.TheVariants.{BadArgument}
use Rattle.scons_decls.specs.declared.given.Given.{Given}
use Rattle.scons_decls.specs.declared.given.Given.TheVariants as given
use Rattle.scons_decls.specs.Faults.{path_from}
use Rattle.scons_decls.specs.Steps.{and_then, each}
use Rattle.scons_decls.specs.Environs.{spelled}
use Rattle.scons_decls.specs.State.{Declared}

-- the path that an expanded text names, read from the directory of the script
abbrev pub path_at : Declared → List ℕ → Result (List ℕ) NameFault
path_at d text = path_from d.locals.top d.locals.dir text

-- the path that a text names: what the text stands for, read from there; a text without a `$` stands for itself
abbrev pub path_of : Declared → ℕ → List ℕ → Result (List ℕ) NameFault
path_of d env text = if is_literal text then path_at d text else and_then (spelled d.envs d.locals env text) (path_at d)

-- the file that an argument of a call stands for
abbrev pub file_of : Declared → ℕ → List ℕ → Given → Result (List ℕ) NameFault
file_of d env call (given.Text text) = path_of d env text
file_of d env call (given.File path) = Ok path
file_of d env call (given.Dir path) = Err (BadArgument call)
file_of d env call (given.Alias name) = Err (BadArgument call)

-- the directory that one stands for
abbrev pub dir_of : Declared → ℕ → List ℕ → Given → Result (List ℕ) NameFault
dir_of d env call (given.Text text) = path_of d env text
dir_of d env call (given.File path) = Err (BadArgument call)
dir_of d env call (given.Dir path) = Ok path
dir_of d env call (given.Alias name) = Err (BadArgument call)

abbrev pub files_of : Declared → ℕ → List ℕ → List Given → Result (List (List ℕ)) NameFault
files_of d env call nodes = each (file_of d env call) nodes
