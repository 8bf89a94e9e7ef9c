use Rattle.std.proofs.Common.{arith, ◌≡◌, ◌<◌, ◌∙◌, length, get_or, take}
use Rattle.std.specs.Prelude.{nat_lt}
use Rattle.std.proofs.lemmas.Bool.{lt-ltb}
use Rattle.std.proofs.lemmas.List.Folds.{list_all_more}
use Rattle.rule_graph.proofs.RuleLemmas.{and_both, below_more}
use Rattle.rule_graph.proofs.table.cover.Goals as goal

pub loop-node-preserved : goal.loop-node-preserved
loop-node-preserved c =
    let i = c.loop-node.node-index in
    let nodes = c.args.nodes.now in
    let size = length c.cover_one.new.table.items in
    let within : i < length nodes = c.loop-node-test.true in
    record {
      same = λ n. c.in_ok-cover_one.ensures.same n ∙ c.loop-node.invariant.same n;
      covered =
          list_all_more (λ t. nat_lt t.0 size) nodes i record { 0 = 0 } within
          ∙ and_both _ _ (below_more (length c.loop-node.table.items) size (take i nodes) c.in_ok-cover_one.ensures.grows c.loop-node.invariant.covered)
          (lt-ltb (get_or nodes i record { 0 = 0 }).0 size c.in_ok-cover_one.ensures.covered);
    }
