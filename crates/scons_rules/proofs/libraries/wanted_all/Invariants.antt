use Rattle.std.proofs.Common.{◌≡◌, map, drop}
use Rattle.scons_rules.specs.Expanding.{expanding}
use Rattle.scons_rules.specs.Libraries.{Files, library, each_library, found_in}
use Rattle.scons_rules.proofs.Stepping.{behind}
use Rattle.scons_rules.proofs.libraries.wanted_all.Given as goal

abbrev pub invariant-loop-item : goal.invariant-loop-item
invariant-loop-item l = (f : Files)
    → behind (map (found_in f) l.wanted) (each_library f (expanding l.rule) l.dirs (drop l.item-index l.items)) ≡ each_library f (expanding l.rule) l.dirs l.items
