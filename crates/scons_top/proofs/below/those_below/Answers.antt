use Rattle.std.proofs.Common.{◌≡◌, ◌∙◌, ◌<◌, ◌≤◌, ◌+◌, ◌-◌, refl, sym, subst, ℕ, List, length, drop, take, get_or, Vec, Global}
use Rattle.std.proofs.lemmas.List.{take_rest}
use Rattle.std.proofs.lemmas.List.Elements.{All-drop, All-take, All-get_or, All-push}
use Rattle.scons_base.specs.Normal.{is_top, is_root}
use Rattle.scons_base.specs.declared.ids.NodeId.{NodeId}
use Rattle.scons_top.specs.Below.{nodes_below}
use Rattle.scons_top.specs.Requested.{AreNodes}
use Rattle.scons_top.proofs.Orders.{first_wide, nodes_ended, nodes_kept, nodes_more, nodes_stopped, second_wide}
use Rattle.scons_top.proofs.below.those_below.Goals as goal
use Rattle.scons_top.proofs.below.those_below.Goals.{then-is_below+in_ok-push, else-is_below+else-not-is_wide}
use Rattle.scons_top.proofs.below.those_below.Goals.{else-loop-path-test, then-loop-path-test+else-is_below+then-not-is_wide}

pub loop-path-preserved : goal.loop-path-preserved
loop-path-preserved c =
    let dir = c.args.dir.now in
    let targets = c.args.targets.now in
    let first = c.in_ok-first.first in
    let item = c.loop-path-item in
    let i = c.loop-path.path-index in
    let before = c.loop-path.invariant in
    let same = take_rest targets first in
    let lt = subst (λ (l : List (List ℕ × NodeId)). i < length l) same c.loop-path-test.true in
    let at = subst (λ (l : List (List ℕ × NodeId)). item.result ≡ get_or l i item.result) same item.is in
    elim c.if-is_below.branch [
      | then-is_below+in_ok-push w ↦ record {
        nodes = λ graph known.
            let P = λ (target : List ℕ × NodeId). target.1.0 < length graph.nodes in
            let are = λ (nodes : Vec NodeId Global). AreNodes graph nodes.items in
            let rest = All-take P (length targets - first) (drop first targets) (All-drop P first targets known) in
            let one : P item.result = subst P (sym item.is) (All-get_or P _ i item.result c.loop-path-test.true rest) in
            let all = All-push (λ (node : NodeId). node.0 < length graph.nodes) c.loop-path.nodes.items item.result.1 (before.nodes graph known) one in
            subst are (sym w.nodes-is) (subst (AreNodes graph) (sym w.in_ok-push.ensures.items) all);
        those = subst (λ (nodes : Vec NodeId Global). nodes.items ≡ nodes_below dir (take (i + 1) (drop first targets))) (sym w.nodes-is)
            (nodes_more dir (drop first targets) i item.result _ _ lt at (sym c.is_below.ensures ∙ w.if-is_below.true) w.in_ok-push.ensures.items before.those);
      }
      | else-is_below+else-not-is_wide w ↦ record {
        nodes = λ graph known. subst (λ (nodes : Vec NodeId Global). AreNodes graph nodes.items) (sym w.nodes-is) (before.nodes graph known);
        those = subst (λ (nodes : Vec NodeId Global). nodes.items ≡ nodes_below dir (take (i + 1) (drop first targets))) (sym w.nodes-is)
            (nodes_kept dir (drop first targets) i item.result _ _ lt at (sym c.is_below.ensures ∙ w.if-is_below.false) refl before.those);
      }
    ]

pub returns-clause-those : goal.returns-clause-those
returns-clause-those c = λ order.
    let dir = c.args.dir.now in
    let targets = c.args.targets.now in
    let first = c.in_ok-first.first in
    let starts = c.in_ok-first.ensures.starts order in
    let nodes = c.loop-path.nodes.items in
    let i = c.loop-path.path-index in
    let same = take_rest targets first in
    elim c.loop-path-test.branch [
      | else-loop-path-test w ↦
          nodes_ended dir targets first starts i nodes (subst (λ (l : List (List ℕ × NodeId)). length l ≤ i) same w.loop-path-test.false) c.loop-path.invariant.those
      | then-loop-path-test+else-is_below+then-not-is_wide w ↦
          let x = w.loop-path-item.result in
          let lt = subst (λ (l : List (List ℕ × NodeId)). i < length l) same w.loop-path-test.true in
          let at = subst (λ (l : List (List ℕ × NodeId)). x ≡ get_or l i x) same w.loop-path-item.is in
          let wide = sym c.is_wide-is_wide.ensures ∙ w.if-not-is_wide.true in
          nodes_stopped dir targets first starts order i x lt at (first_wide (is_top dir) (is_root dir) wide) (second_wide (is_top dir) (is_root dir) wide)
          (sym w.is_below.ensures ∙ w.if-is_below.false) nodes c.loop-path.invariant.those
    ]
