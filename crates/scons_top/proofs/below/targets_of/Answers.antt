use Rattle.std.proofs.Common.{◌≡◌, subst, arith, List, ℕ}
use Rattle.std.specs.List.Sorted.{IsPermutation}
use Rattle.scons_base.specs.declared.ids.NodeId.{NodeId}
use Rattle.scons_top.proofs.Listed.{listed_more, listed_all, path_first}
use Rattle.scons_top.specs.Below.{AreListed}
use Rattle.scons_top.proofs.below.targets_of.Goals as goal

pub loop-number-preserved : goal.loop-number-preserved
loop-number-preserved c = record {
  nodes = c.add_targets.ensures.nodes c.loop-number.invariant.nodes;
  listed = listed_more c.args.graph.now c.loop-number.number _ _ (omega arith) c.loop-number.invariant.listed c.in_ok-add_targets.ensures.adds;
}

pub returns-clause-listed : goal.returns-clause-listed
returns-clause-listed c =
    let sorted = c.sort.new.self.items in
    let whole = listed_all c.args.graph.now c.loop-number.number c.loop-number.targets.items (omega arith) c.loop-number.invariant.listed in
    let listed : AreListed c.args.graph.now sorted = record {
      all = subst (λ (l : List (List ℕ × NodeId)). IsPermutation l sorted) whole c.in_ok-sort.ensures.permutation;
      order = λ k d low lt. path_first _ _ (c.in_ok-sort.ensures.sorted k d low lt);
    } in
    listed
