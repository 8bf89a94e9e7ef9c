use Rattle.std.proofs.Common.{◌≡◌, ◌∙◌, ◌++◌, List, ℕ, Bool, length, get_or, sym, ap, subst}
use Rattle.std.specs.Prelude.{false}
use Rattle.scons_base.specs.declared.ids.NodeId.{NodeId}
use Rattle.scons_report.specs.Trees.{children_of, form_of, shown_in}
use Rattle.scons_report.specs.Walks.{text_left, GoesBelow}
use Rattle.scons_report.proofs.Trees.{leads, goes, still}
use Rattle.scons_report.proofs.TreePrints.{tree_cut, tree_wants_first, writes_end}
use Rattle.scons_report.proofs.tree.Walk.write.Goals as goal

pub returns-in_err-text-clause-writes : goal.returns-in_err-text-clause-writes
returns-in_err-text-clause-writes g c =
    let r = c.from_residual in
    writes_end g.O.Sink.meaning _ _ _ _ r.result _ r.ensures.1 (tree_wants_first g.O.Sink.meaning _ _ r.result r.ensures.1)

pub returns-in_err-show-clause-writes : goal.returns-in_err-show-clause-writes
returns-in_err-show-clause-writes g c =
    let r = c.from_residual-in_err-show in
    let shown = shown_in c.args.graph.now c.args.plan.now in
    let nodes = length c.args.graph.now.nodes in
    let form = c.form_of-form.result in
    let children = children_of c.args.graph.now c.args.plan.now c.args.next.node in
    let is : form ≡ form_of children (get_or c.args.self.now.is_open.items c.args.next.node.0 false) =
    c.form_of-form.ensures ∙ (ap (λ (ns : List NodeId). form_of ns c.is_open.result) c.children_of-children.ensures ∙ ap (λ (b : Bool). form_of children b) c.is_open.ensures) in
    let text = c.as_str.ensures.value ∙ c.in_ok-text.ensures.text in
    let line = leads shown nodes c.args.self.now c.args.self.now c.args.next form is c.requires.within c.in_ok-text.ensures.within in
    writes_end g.O.Sink.meaning _ _ _ _ r.result _ r.ensures.1
    (tree_cut g.O.Sink.meaning _ _ c.as_str.result.now _ _ _ r.result r.ensures.1 text line c.in_err-show.ensures)

pub returns-clause-writes : goal.returns-clause-writes
returns-clause-writes g c =
    let shown = shown_in c.args.graph.now c.args.plan.now in
    let nodes = length c.args.graph.now.nodes in
    let form = c.form_of-form.result in
    let children = children_of c.args.graph.now c.args.plan.now c.args.next.node in
    let is : form ≡ form_of children (get_or c.args.self.now.is_open.items c.args.next.node.0 false) =
    c.form_of-form.ensures ∙ (ap (λ (ns : List NodeId). form_of ns c.is_open.result) c.children_of-children.ensures ∙ ap (λ (b : Bool). form_of children b) c.is_open.ensures) in
    let text = c.as_str.ensures.value ∙ c.in_ok-text.ensures.text in
    let new = c.go_below.new.self in
    let under : GoesBelow form c.args.self.now new c.args.next children = subst (λ (ns : List NodeId). GoesBelow form c.args.self.now new c.args.next ns) c.children_of-children.ensures c.in_ok-go_below.ensures in
    let whole = goes shown nodes c.args.self.now new c.args.next form is c.requires.within c.in_ok-text.ensures.within under in
    record {
      line = c.as_str.result.now;
      parts = whole ∙ ap (λ (l : List ℕ). l ++ text_left shown nodes new) (sym text);
      prints = c.in_ok-show.ensures;
    }

pub returns-clause-within : goal.returns-clause-within
returns-clause-within g c =
    let shown = shown_in c.args.graph.now c.args.plan.now in
    let nodes = length c.args.graph.now.nodes in
    let form = c.form_of-form.result in
    let children = children_of c.args.graph.now c.args.plan.now c.args.next.node in
    let is : form ≡ form_of children (get_or c.args.self.now.is_open.items c.args.next.node.0 false) =
    c.form_of-form.ensures ∙ (ap (λ (ns : List NodeId). form_of ns c.is_open.result) c.children_of-children.ensures ∙ ap (λ (b : Bool). form_of children b) c.is_open.ensures) in
    let new = c.go_below.new.self in
    let under : GoesBelow form c.args.self.now new c.args.next children = subst (λ (ns : List NodeId). GoesBelow form c.args.self.now new c.args.next ns) c.children_of-children.ensures c.in_ok-go_below.ensures in
    still shown nodes c.args.self.now new c.args.next form is c.requires.within c.in_ok-text.ensures.within under
