use Rattle.scons_calls.specs.Kinds.{replaced_pair, pairs_in}
use Rattle.scons_calls.specs.Results.{and_one}
use Rattle.scons_calls.proofs.Loops.{asked_more, asked_none}
use Rattle.scons_calls.proofs.replacing.pairs_of.Goals as goal
use Rattle.scons_calls.proofs.replacing.pairs_of.Goals.{in-Some+in_ok-push_pair, in_default}

pub pairs-preserved : goal.pairs-preserved
pairs-preserved c =
    elim c.match-pair_at.branch [
      | in-Some+in_ok-push_pair w ↦ asked_more (λ xs a. and_one xs (replaced_pair c.args.heap.now a)) (pairs_in c.args.heap.now c.args.dict.0) c.pairs.at c.pair_at.result c.pairs.pairs w.push_pair.new.pairs c.match-pair_at.pairs w.in-Some.pair _ c.pair_at.ensures w.in-Some.is w.in_ok-push_pair.ensures.ok w.pairs-is c.pairs.invariant
      | in_default w ↦ asked_none (λ xs a. and_one xs (replaced_pair c.args.heap.now a)) (pairs_in c.args.heap.now c.args.dict.0) c.pairs.at c.pair_at.result c.pairs.pairs c.match-pair_at.pairs _ c.pair_at.ensures w.in_default.is w.pairs-is c.pairs.invariant
    ]
