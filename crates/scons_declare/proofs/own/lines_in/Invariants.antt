use Rattle.std.proofs.Common.{◌≡◌, ◌++◌, drop}
use Rattle.std.specs.Prelude.{flat_map}
use Rattle.scons_declare.specs.Owns.{lines_in}
use Rattle.scons_declare.proofs.own.lines_in.Given as goal

abbrev pub invariant-loop-text : goal.invariant-loop-text
invariant-loop-text l = l.lines ++ flat_map lines_in (drop l.text-index l.action) ≡ flat_map lines_in l.action
