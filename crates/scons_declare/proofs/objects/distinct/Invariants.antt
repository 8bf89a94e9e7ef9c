use Rattle.std.proofs.Common.{◌≡◌, drop, []}
use Rattle.std.specs.Str.{bytes_eq}
use Rattle.indexmap.specs.IndexSet.{insert_all}
use Rattle.scons_declare.proofs.objects.distinct.Given as goal

abbrev pub invariant-loop-path : goal.invariant-loop-path
invariant-loop-path l = insert_all bytes_eq l.once.keys (drop l.path-index l.paths) ≡ insert_all bytes_eq [] l.paths
