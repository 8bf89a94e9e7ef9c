use Rattle.scons_decls.proofs.Above.{height}
use Rattle.scons_decls.proofs.Noted.{Climbed}
use Rattle.scons_decls.proofs.made.add_dirs.Given as goal

abbrev pub invariant-dirs : goal.invariant-dirs
invariant-dirs l = Climbed l.initial.dirs.keys l.dirs.keys l.initial.dir l.dir

abbrev pub decreases-dirs : goal.decreases-dirs
decreases-dirs l = height l.dir
