use Rattle.std.proofs.Common.{◌≡◌, ◌∷◌, take}
use Rattle.scons_base.specs.Parts.{dir_of}
use Rattle.build_files.proofs.includes.Dirs.of.Given as goal

abbrev pub invariant-loop-dir : goal.invariant-loop-dir
invariant-loop-dir l = l.dirs.items ≡ dir_of l.file ∷ take l.dir-index l.paths
