use Rattle.std.proofs.Common.{◌∙◌, ℕ, List, length, ap, subst, sym, ◌++◌}
use Rattle.scons_report.specs.Trees.{shown_in}
use Rattle.scons_report.specs.Walks.{IsBegun, text_left}
use Rattle.scons_report.proofs.Trees.{begun_within, begun_left}
use Rattle.scons_report.proofs.TreePrints.{tree_cut, tree_then}
use Rattle.scons_report.proofs.tree.print_tree.Goals as goal

pub print_rows-requires : goal.print_rows-requires
print_rows-requires g c =
    let b : IsBegun (length c.args.graph.now.nodes) c.args.children.now c.in_ok-walk.walk = subst (λ (n : ℕ). IsBegun n c.args.children.now c.in_ok-walk.walk) c.len.ensures.len c.in_ok-walk.ensures in
    begun_within _ _ _ b

pub returns-in_err-show : goal.returns-in_err-show
returns-in_err-show g c =
    let shown = shown_in c.args.graph.now c.args.plan.now in
    let b : IsBegun (length c.args.graph.now.nodes) c.args.children.now c.in_ok-walk.walk = subst (λ (n : ℕ). IsBegun n c.args.children.now c.in_ok-walk.walk) c.len.ensures.len c.in_ok-walk.ensures in
    let r = c.from_residual-in_err-show in
    let parts = begun_left shown c.args.word.now c.args.children.now c.in_ok-walk.walk b in
    tree_cut g.O.Sink.meaning _ _ c.as_str.result.now _ _ _ r.result r.ensures.1 (c.as_str.ensures.value ∙ c.in_ok-text.ensures)
    (record { more = text_left shown (length c.args.graph.now.nodes) c.in_ok-walk.walk; parts = parts }) c.in_err-show.ensures

pub returns : goal.returns
returns g c =
    let shown = shown_in c.args.graph.now c.args.plan.now in
    let b : IsBegun (length c.args.graph.now.nodes) c.args.children.now c.in_ok-walk.walk = subst (λ (n : ℕ). IsBegun n c.args.children.now c.in_ok-walk.walk) c.len.ensures.len c.in_ok-walk.ensures in
    let parts = begun_left shown c.args.word.now c.args.children.now c.in_ok-walk.walk b in
    let left = text_left shown (length c.args.graph.now.nodes) c.in_ok-walk.walk in
    let text = c.as_str.ensures.value ∙ c.in_ok-text.ensures in
    tree_then g.O.Sink.meaning _ _ _ c.as_str.result.now _ left c.print_rows.result (parts ∙ ap (λ (l : List ℕ). l ++ left) (sym text)) c.in_ok-show.ensures c.print_rows.ensures
