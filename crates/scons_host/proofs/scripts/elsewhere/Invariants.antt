use Rattle.std.proofs.Common.{◌≡◌, drop}
use Rattle.scons_host.specs.Scripts.{elsewhere as elsewhere_of}
use Rattle.scons_host.proofs.scripts.elsewhere.Given as goal

abbrev pub invariant-loop-path : goal.invariant-loop-path
invariant-loop-path l = elsewhere_of l.dir l.paths ≡ elsewhere_of l.dir (drop l.path-index l.paths)
