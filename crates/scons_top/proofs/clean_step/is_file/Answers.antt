use Rattle.std.proofs.Common.{◌∙◌, ap}
use Rattle.scons_top.specs.Cleaned.{is_file_kind}
use Rattle.scons_top.proofs.Clearing.{kind_is}
use Rattle.scons_top.proofs.Stepping.{tree_end}
use Rattle.scons_top.proofs.clean_step.is_file.Goals as goal

pub returns-in-Ok-clause-file : goal.returns-in-Ok-clause-file
returns-in-Ok-clause-file g c = λ t. c.names_file.ensures ∙ ap is_file_kind (c.in-Ok.ensures.kind t) ∙ kind_is (g.W.Disk.meaning.around c.kind.new.self) c.args.path.now

pub returns-in-Err-clause-tree : goal.returns-in-Err-clause-tree
returns-in-Err-clause-tree g c = tree_end c.tree.result c.tree.ensures
