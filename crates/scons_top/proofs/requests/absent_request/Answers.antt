use Rattle.std.proofs.Common.{◌≡◌, ◌∙◌, sym, true, false}
use Rattle.scons_top.specs.Below.{has_below}
use Rattle.scons_top.proofs.Opening.{bytes_memory}
use Rattle.scons_top.proofs.Asking.{asked_memory, ends_weaker, none_as}
use Rattle.scons_top.specs.Asked.{IsWord, NamesNone}
use Rattle.scons_top.proofs.Finding.{below_none, below_some, none_found, silent_made, silent_memory, some_found}
use Rattle.scons_top.proofs.Causing.{inner_memory}
use Rattle.scons_top.proofs.requests.absent_request.Goals as goal

pub returns-in_err-nodes-clause-step : goal.returns-in_err-nodes-clause-step
returns-in_err-nodes-clause-step c = inner_memory c.from_residual.result c.from_residual.ensures.1

pub returns-in_err-nodes-clause-stops : goal.returns-in_err-nodes-clause-stops
returns-in_err-nodes-clause-stops c = asked_memory (IsWord c.args.word.now) c.from_residual.result c.from_residual.ensures.1

pub returns-in_err-nodes-clause-bytes : goal.returns-in_err-nodes-clause-bytes
returns-in_err-nodes-clause-bytes c = λ banks. bytes_memory banks c.from_residual.result c.from_residual.ensures.1

pub returns-clause-stops : goal.returns-clause-stops
returns-clause-stops c = ends_weaker NamesNone (IsWord c.args.word.now) c.made.result (none_as (IsWord c.args.word.now)) c.made.ensures.stops

pub returns-in_err-nodes-clause-finds : goal.returns-in_err-nodes-clause-finds
returns-in_err-nodes-clause-finds c = λ known. silent_memory _ _ c.from_residual.result c.from_residual.ensures.1

pub returns-then-is_empty-clause-finds : goal.returns-then-is_empty-clause-finds
returns-then-is_empty-clause-finds c = λ known word is.
    let nodes = c.in_ok-nodes.nodes in
    below_none c.args.graph.now c.args.path.now nodes.items (c.in_ok-nodes.ensures.below known)
    (none_found _ nodes.items nodes.ok.0 (sym c.is_empty.ensures ∙ c.if-is_empty.true))

pub returns-clause-finds : goal.returns-clause-finds
returns-clause-finds c = λ known.
    let nodes = c.in_ok-nodes.nodes in
    silent_made (has_below c.args.graph.now c.args.path.now ≡ true) (has_below c.args.graph.now c.args.path.now ≡ false) c.made.result c.made.ensures.stops
    (below_some c.args.graph.now c.args.path.now nodes.items (c.in_ok-nodes.ensures.below known)
    (some_found _ nodes.items nodes.ok.0 (sym c.is_empty.ensures ∙ c.if-is_empty.false)))
