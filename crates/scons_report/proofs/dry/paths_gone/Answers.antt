use Rattle.std.proofs.Common.{◌∙◌, List, subst}
use Rattle.deciders.specs.declared.recorded.Rec.{Rec}
use Rattle.scons_report.specs.Overs.{AreTargetsOf}
use Rattle.scons_report.proofs.Leftover.{gone_are}
use Rattle.sign_store.specs.Stores.{map_of_view}
use Rattle.scons_report.proofs.dry.paths_gone.Goals as goal

pub returns-clause-gone : goal.returns-clause-gone
returns-clause-gone g c = λ tells idle.
    let m = g.W.Disk.meaning in
    let asks = c.leftover_copies.ensures.looks.around tells in
    gone_are c.args.graph.now (map_of_view c.args.view.now) (m.around c.args.world.now) (m.around c.leftover_copies.new.world) c.in_ok-left.left _ idle asks
    (c.in_ok-left.ensures.left (tells, asks.running ∙ idle))
    (subst (λ (left : List Rec). AreTargetsOf left c.in_ok-targets_of.field-0.keys) c.as_slice.ensures c.in_ok-targets_of.ensures)
