-- The aliases that scripts declared, as lists: their names, and what each stands for.
use Rattle.std.specs.Prelude.{ℕ, List, map}
use Rattle.scons_decls.specs.declared.aliases.AliasParts.{AliasParts}
use Rattle.scons_decls.specs.Aliased.{Aliases}

abbrev pub names_in : Aliases → List (List ℕ)
names_in aliases = map (λ a. a.0) aliases

abbrev pub parts_in : Aliases → List AliasParts
parts_in aliases = map (λ a. a.1) aliases
