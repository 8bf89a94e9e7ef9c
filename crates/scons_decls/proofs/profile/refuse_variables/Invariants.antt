use Rattle.std.proofs.Common.{◌≡◌, drop}
use Rattle.scons_decls.specs.Steps.{all_of}
use Rattle.scons_decls.specs.References.{var_allowed}
use Rattle.scons_decls.proofs.profile.refuse_variables.Given as goal

abbrev pub invariant-loop-name : goal.invariant-loop-name
invariant-loop-name l = all_of var_allowed (drop l.name-index l.values) ≡ all_of var_allowed l.values
