use Rattle.std.proofs.Common.{◌∙◌, List, sym, subst}
use Rattle.deciders.specs.declared.recorded.Rec.{Rec}
use Rattle.sign_store.specs.Copies.{IsCopyIn, AreCopiesOf}
use Rattle.build_files.specs.Leftovers.{AreLeftovers}
use Rattle.build_files.proofs.Left.{none_without, ok_left}
use Rattle.build_files.proofs.leftovers.leftover_copies.Goals as goal

pub returns-then-not-has_copies-clause-left : goal.returns-then-not-has_copies-clause-left
returns-then-not-has_copies-clause-left g c = λ at.
    let around = g.W.Disk.meaning.around c.args.world.now in
    let among = IsCopyIn (g.R.Records.map c.args.records.now) in
    subst (λ (left : List Rec). AreLeftovers c.args.graph.now around among left) (sym c.empty.ensures)
    (none_without c.args.graph.now around among (sym c.has_copies.ensures ∙ c.if-not-has_copies.true))

pub returns-clause-left : goal.returns-clause-left
returns-clause-left g c = λ at.
    let map = g.R.Records.map c.args.records.now in
    let copies = subst (λ (recs : List Rec). AreCopiesOf map recs) (sym c.as_slice.ensures) c.in_ok-copies.ensures in
    ok_left c.args.graph.now (g.W.Disk.meaning.around c.leftovers_of.new.world) (IsCopyIn map) c.as_slice.result.now c.leftovers_of.result copies.each copies.all (c.leftovers_of.ensures.left at)
