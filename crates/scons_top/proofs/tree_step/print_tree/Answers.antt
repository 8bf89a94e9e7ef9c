use Rattle.scons_top.proofs.Shown.{watches_shown}
use Rattle.scons_top.proofs.tree_step.print_tree.Goals as goal

pub returns-clause-watches : goal.returns-clause-watches
returns-clause-watches g c = watches_shown g.W.Disk.meaning _ _ _ _ c.tree_text.result c.tree_text.ensures.looks c.tree_text.ensures.cause
