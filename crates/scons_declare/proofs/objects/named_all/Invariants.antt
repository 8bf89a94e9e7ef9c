use Rattle.std.proofs.Common.{◌≡◌, drop}
use Rattle.scons_decls.specs.Steps.{each}
use Rattle.scons_decls.specs.State.{declared_of}
use Rattle.scons_decls.proofs.Stepping.{behind}
use Rattle.scons_declare.specs.Affixes.{named}
use Rattle.scons_declare.proofs.objects.named_all.Given as goal

abbrev pub invariant-loop-one : goal.invariant-loop-one
invariant-loop-one l = behind l.paths (each (named (declared_of l.state) l.site.env.0 l.name l.affixes) (drop l.one-index l.given)) ≡ each (named (declared_of l.state) l.site.env.0 l.name l.affixes) l.given
