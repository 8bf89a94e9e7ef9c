use Rattle.std.proofs.Common.{◌∙◌, ◌++◌, ap}
use Rattle.scons_top.specs.declared.requests.Request.{Request}
use Rattle.scons_top.proofs.Requesting.{asked_more, nodes_added}
use Rattle.scons_top.proofs.build_step.nodes_of.Goals as goal

pub loop-request-preserved : goal.loop-request-preserved
loop-request-preserved c =
    let requests = c.args.requests.now in
    let i = c.loop-request.request-index in
    let old = c.loop-request.nodes.items in
    let new = c.extend_from_slice.new.self.items in
    let item = c.request-item in
    let added = c.in_ok-extend_from_slice.ensures.items in
    record {
      are = asked_more requests i item.result old new c.loop-request-test.true c.loop-request.invariant.are
          (added ∙ ap (λ l. old ++ l) (c.as_slice.ensures.value ∙ ap (λ (r : Request). r.nodes.items) item.is));
      nodes = λ graph asks.
          nodes_added graph requests i item.result old c.as_slice.result.now new c.loop-request-test.true item.is c.as_slice.ensures.value added asks
          (c.loop-request.invariant.nodes graph asks);
    }
