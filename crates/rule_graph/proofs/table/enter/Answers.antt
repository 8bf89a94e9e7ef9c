use Rattle.std.proofs.Common.{arith, ◌≡◌, ◌<◌, ◌∷◌, ◌∙◌, ap, sym, true, Some, take, drop, get_or, length}
use Rattle.std.specs.Prelude.{nat_eq, if◌then◌else◌}
use Rattle.std.proofs.Math.ListN.{length-set}
use Rattle.std.proofs.lemmas.List.Folds.{list_any_more}
use Rattle.rule_graph.specs.Rules.{rule_at, is_target_of, are_below}
use Rattle.rule_graph.proofs.RuleLemmas.{rule_at-set, entered_more, first_below, rest_below}
use Rattle.rule_graph.proofs.table.enter.Goals as goal

pub loop-node-preserved : goal.loop-node-preserved
loop-node-preserved c =
    let i = c.loop-node.node-index in
    let nodes = c.args.nodes.now in
    let node = get_or nodes i record { 0 = 0 } in
    let table = c.loop-node.table.items in
    let within : i < length nodes = c.loop-node-test.true in
    let low : node.0 < length table = first_below (length table) nodes i record { 0 = 0 } within c.loop-node.invariant.below in
    record {
      entered = λ n.
          rule_at-set table node.0 n c.args.id low
          ∙ entered_more (is_target_of (take i nodes) n) (nat_eq node.0 n) c.args.id.0 (rule_at c.args.table.now.items n) (rule_at table n) (c.loop-node.invariant.entered n)
          ∙ ap (λ b. if b then Some c.args.id.0 else rule_at c.args.table.now.items n) (sym (list_any_more (λ t. nat_eq t.0 n) nodes i record { 0 = 0 } within));
      below = rw length-set (rest_below (length table) nodes i record { 0 = 0 } within c.loop-node.invariant.below);
    }
