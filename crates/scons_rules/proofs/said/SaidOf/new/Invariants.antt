use Rattle.std.proofs.Common.{take}
use Rattle.scons_rules.specs.AliasTable.{names_in}
use Rattle.scons_rules.specs.Sayings.{Tells, spoken_in}
use Rattle.scons_rules.proofs.said.SaidOf.new.Given as goal

abbrev pub invariant-loop-one : goal.invariant-loop-one
invariant-loop-one l = Tells (spoken_in (names_in l.state.aliases) l.aliases (take l.one-index l.state.said.items)) l.said
