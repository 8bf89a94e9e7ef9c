use Rattle.std.proofs.Common.{◌≡◌, ◌∙◌, List, Some, ap, subst, sym}
use Rattle.scons_base.specs.declared.ids.NodeId.{NodeId}
use Rattle.rule_graph.specs.declared.rule.Rule.{Rule}
use Rattle.build_means.proofs.Lists.{some_same}
use Rattle.build_files.specs.Kept.{includes_in, past}
use Rattle.build_files.specs.Searched.{meant, AreNodesOf}
use Rattle.build_files.specs.declared.includes.Scan.{Scan}
use Rattle.build_files.proofs.Scans.{found_is, found_true}
use Rattle.build_files.proofs.inputs.Inputs.found_before.Goals as goal

pub returns-in_err-from_slice-in-Some-clause-truth : goal.returns-in_err-from_slice-in-Some-clause-truth
returns-in_err-from_slice-in-Some-clause-truth c = λ b around is.
    found_true b c.args.graph.now c.args.self.now _ around (c.list_of.ensures.truth b c.args.graph.now _ around c.in_ok-rule_at.ensures.at is.found) is

pub returns-in_ok-from_slice-in-Some-clause-found : goal.returns-in_ok-from_slice-in-Some-clause-found
returns-in_ok-from_slice-in-Some-clause-found c = λ b around x path rule at is.
    let graph = c.args.graph.now in
    let gone = c.args.self.now.gone.keys in
    let listed = c.list_of.ensures.truth b graph gone around c.in_ok-rule_at.ensures.at is.found in
    let scan : Scan = record { file = c.args.file; dirs = c.in_ok-dirs.dirs } in
    let same : c.in_ok-rule_at.field-0.now ≡ x = some_same (sym c.in_ok-rule_at.ensures.at ∙ rule) in
    let dirs = c.in_ok-dirs.ensures.list b graph gone around c.in_ok-rule_at.ensures.at is.found ∙ ap (λ (r : Rule). Some r.paths) same in
    let nodes = found_is b graph gone around c.list_of.new.self scan c.in-Some.found.now.items x.paths path dirs at
    (listed.each scan c.in-Some.found.now (sym c.in-Some.ensures.value)) in
    subst (λ (found : List NodeId). AreNodesOf graph (meant b x.paths path (includes_in (past gone around.tree path))) found)
    (sym (c.new.ensures ∙ c.in_ok-from_slice-in-Some.ensures.items ∙ c.as_slice.ensures.value)) nodes
