use Rattle.std.proofs.Common.{refl}
use Rattle.scons_calls.specs.Names.{names_table}
use Rattle.scons_calls.proofs.name.NameId.count.Goals as goal

pub returns : goal.returns
unfolding names_table
returns c = refl
