use Rattle.std.proofs.Common.{◌∙◌, sym}
use Rattle.build_files.proofs.Places.{numbered}
use Rattle.build_files.proofs.inputs.Inputs.known.Goals as goal

pub returns-then-branch-clause-known : goal.returns-then-branch-clause-known
returns-then-branch-clause-known g c = λ told b is.
    let at = numbered c.args.graph.now.nodes c.in-Some.node.0 c.args.path.now (sym c.in-Some.ensures) in
    (sym (c.in_ok-is_known.ensures.known told b c.args.path.now at is) ∙ c.if-branch.true, at)

pub returns-else-branch-clause-known : goal.returns-else-branch-clause-known
returns-else-branch-clause-known g c = λ told b is.
    let at = numbered c.args.graph.now.nodes c.in-Some.node.0 c.args.path.now (sym c.in-Some.ensures) in
    sym (c.in_ok-is_known.ensures.known told b c.args.path.now at is) ∙ c.if-branch.false
