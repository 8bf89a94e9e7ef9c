use Rattle.std.proofs.Common.{◌∙◌, length}
use Rattle.scons_rules.proofs.Naming.{all_got, all_named, all_nodes}
use Rattle.scons_rules.proofs.adding.rule_nodes.Goals as goal

pub returns-clause-ok : goal.returns-clause-ok
returns-clause-ok c =
    all_got _ _ _ _ _ _ _ _ _ _ _ _ _ c.in_ok-targets.ensures.ok c.in_ok-sources.ensures.ok c.in_ok-libs.ensures.ok
    (rw c.as_slice.ensures at c.in_ok-depends.ensures.ok) (rw c.as_slice-2.ensures at c.in_ok-required.ensures.ok) (rw c.as_slice-3.ensures at c.in_ok-ignored.ensures.ok)

pub returns-clause-named : goal.returns-clause-named
returns-clause-named c =
    all_named _ _ _ _ _ _ _ c.args.paths.now _ c.in_ok-targets.ensures.nodes c.in_ok-sources.ensures.nodes c.in_ok-libs.ensures.nodes
    (rw c.as_slice.ensures at c.in_ok-depends.ensures.nodes) (rw c.as_slice-2.ensures at c.in_ok-required.ensures.nodes) (rw c.as_slice-3.ensures at c.in_ok-ignored.ensures.nodes)

pub returns-clause-nodes : goal.returns-clause-nodes
returns-clause-nodes c =
    all_nodes _ _ _ _ _ _ _ c.args.paths.now _ c.in_ok-targets.ensures.nodes c.in_ok-sources.ensures.nodes c.in_ok-libs.ensures.nodes
    (rw c.as_slice.ensures at c.in_ok-depends.ensures.nodes) (rw c.as_slice-2.ensures at c.in_ok-required.ensures.nodes) (rw c.as_slice-3.ensures at c.in_ok-ignored.ensures.nodes)
    (c.in_ok-targets.ensures.some c.requires)
