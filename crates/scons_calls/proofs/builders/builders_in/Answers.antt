use Rattle.scons_calls.specs.Kinds.{pairs_in}
use Rattle.scons_calls.specs.Results.{and_one}
use Rattle.scons_calls.specs.Variables.{builder_pair}
use Rattle.scons_calls.proofs.Loops.{asked_more, asked_none}
use Rattle.scons_calls.proofs.builders.builders_in.Goals as goal
use Rattle.scons_calls.proofs.builders.builders_in.Goals.{in-Some+in_ok-push_named, in_default}

pub pairs-preserved : goal.pairs-preserved
pairs-preserved c =
    elim c.match-pair_at.branch [
      | in-Some+in_ok-push_named w ↦ asked_more (λ xs a. and_one xs (builder_pair c.args.heap.now c.args.objects.now a)) (pairs_in c.args.heap.now c.args.dict.0) c.pairs.at c.pair_at.result c.pairs.builders w.push_named.new.builders c.match-pair_at.builders w.in-Some.pair _ c.pair_at.ensures w.in-Some.is w.in_ok-push_named.ensures.ok w.builders-is c.pairs.invariant
      | in_default w ↦ asked_none (λ xs a. and_one xs (builder_pair c.args.heap.now c.args.objects.now a)) (pairs_in c.args.heap.now c.args.dict.0) c.pairs.at c.pair_at.result c.pairs.builders c.match-pair_at.builders _ c.pair_at.ensures w.in_default.is w.builders-is c.pairs.invariant
    ]
