use Rattle.std.proofs.lemmas.Slice.Eq.{slice_eq-Decides}
use Rattle.act_table.proofs.SameContents.{pair_eq-Decides}
use Rattle.act_table.proofs.same.are_same_contents.Goals as goal

pub returns : goal.returns
returns c = slice_eq-Decides pair_eq-Decides c.args.a.now c.args.b.now c.is.result c.is.ensures
