-- Aliases, with what they stand for.
use Rattle.std.specs.Prelude.{ℕ, List, [], ◌++◌, unwrap_or}
use Rattle.scons_decls.specs.declared.given.Given.{Given}
use Rattle.scons_decls.specs.declared.aliases.AliasParts.{AliasParts}
use Rattle.scons_decls.specs.declared.aliases.Role.{Role}
use Rattle.scons_decls.specs.declared.aliases.Role.TheVariants.{Member, Required, Ignored}
use Rattle.scons_decls.specs.Tables.{Table, value_at, put}

-- aliases in the order in which they were first named
abbrev pub Aliases : Type 0
Aliases = Table AliasParts

abbrev pub no_parts : AliasParts
no_parts = record { required = []; members = []; ignored = [] }

-- nodes behind those that an alias has as members, as what it requires, or as what it ignores
abbrev pub with_role : Role → List Given → AliasParts → AliasParts
with_role Member nodes p = record { required = p.required; members = p.members ++ nodes; ignored = p.ignored }
with_role Required nodes p = record { required = p.required ++ nodes; members = p.members; ignored = p.ignored }
with_role Ignored nodes p = record { required = p.required; members = p.members; ignored = p.ignored ++ nodes }

-- a name that is no alias yet becomes one
abbrev pub with_nodes : Aliases → List ℕ → Role → List Given → Aliases
with_nodes aliases name role nodes = put aliases name (with_role role nodes (unwrap_or (value_at aliases name) no_parts))
