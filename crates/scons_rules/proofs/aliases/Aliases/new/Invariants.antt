use Rattle.std.proofs.Common.{◌≡◌, take}
use Rattle.scons_rules.specs.AliasTable.{names_in, parts_in}
use Rattle.scons_rules.specs.Aliased.{lists_of}
use Rattle.scons_rules.proofs.aliases.Aliases.new.Given as goal

abbrev pub invariant-aliases : goal.invariant-aliases
invariant-aliases l = l.lists.items ≡ lists_of (names_in l.state.aliases) (take l.place (parts_in l.state.aliases))
