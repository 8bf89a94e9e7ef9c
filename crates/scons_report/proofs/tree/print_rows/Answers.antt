use Rattle.std.proofs.Common.{◌∙◌, ◌++◌, List, ℕ, length, sym, ap, append_assoc}
use Rattle.scons_report.specs.Trees.{shown_in}
use Rattle.scons_report.specs.Walks.{text_left}
use Rattle.scons_report.proofs.Trees.{taken, takes_some}
use Rattle.scons_report.proofs.TreePrints.{tree_later, prints_more}
use Rattle.scons_report.proofs.tree.print_rows.Goals as goal

pub returns-in_err-write-in-Some : goal.returns-in_err-write-in-Some
returns-in_err-write-in-Some g c =
    let m = g.O.Sink.meaning in
    let i = c.loop-row.invariant in
    let shown = shown_in c.args.graph.now c.args.plan.now in
    let nodes = length c.args.graph.now.nodes in
    let r = c.from_residual-in_err-write-in-Some in
    let t = taken shown nodes c.loop-row.walk c.take.new.self c.in-Some.next (takes_some _ _ _ _ c.in-Some.is c.in_ok-next.ensures) in
    tree_later m _ _ _ i.done _ _ _ r.result r.ensures.1 (i.parts ∙ ap (λ (rest : List ℕ). i.done ++ rest) t) i.prints c.in_err-write-in-Some.ensures.writes

pub loop-row-preserved : goal.loop-row-preserved
loop-row-preserved g c =
    let m = g.O.Sink.meaning in
    let i = c.loop-row.invariant in
    let shown = shown_in c.args.graph.now c.args.plan.now in
    let nodes = length c.args.graph.now.nodes in
    let t = taken shown nodes c.loop-row.walk c.take.new.self c.in-Some.next (takes_some _ _ _ _ c.in-Some.is c.in_ok-next.ensures) in
    let w = c.in_ok-write-in-Some.ensures.writes in
    let left = text_left shown nodes c.write.new.self in
    record {
      done = i.done ++ w.line;
      parts = i.parts ∙ (ap (λ (rest : List ℕ). i.done ++ rest) (t ∙ w.parts) ∙ sym (append_assoc i.done w.line left));
      prints = prints_more m _ _ _ i.done w.line i.prints w.prints;
      within = c.in_ok-write-in-Some.ensures.within;
    }
