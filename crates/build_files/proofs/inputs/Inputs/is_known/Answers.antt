use Rattle.world_api.proofs.Looking.{looks_joined}
use Rattle.build_files.proofs.Truths.{asked}
use Rattle.build_files.proofs.Knowing.{unmade_node, known_made, known_unmade, known_file, known_copied}
use Rattle.std.proofs.Common.{◌≡◌, ◌∙◌, sym, subst, IfOk, is_some}
use Rattle.build_means.specs.Copies.{copied_from}
use Rattle.build_means.specs.Rules.{IsReading}
use Rattle.build_means.proofs.Lists.{some_same}
use Rattle.build_files.proofs.inputs.Inputs.is_known.Goals as goal

pub returns-clause-looks : goal.returns-clause-looks
returns-clause-looks g c = looks_joined _ _ _ _ c.is_file.ensures.looks c.has_copy_rule.ensures.looks

pub returns-then-is_some-clause-known : goal.returns-then-is_some-clause-known
returns-then-is_some-clause-known g c = λ told b path at is.
    known_made b c.args.graph.now c.args.self.now _ _ path c.rule_of.result (record { apart = c.laws.ensures.apart; single = c.laws.ensures.single; named = c.laws.ensures.named })
    c.rule_of.ensures.of (sym c.is_some.ensures ∙ c.if-is_some.true) at is

pub returns-in_err-is_file-clause-truth : goal.returns-in_err-is_file-clause-truth
returns-in_err-is_file-clause-truth g c = λ told b is.
    c.is_file.ensures.truth (unmade_node c.args.graph.now c.args.node.0 c.rule_of.result c.laws.ensures.apart c.rule_of.ensures.of (sym c.is_some.ensures ∙ c.if-is_some.false)) told b is

pub returns-then-branch-clause-truth : goal.returns-then-branch-clause-truth
returns-then-branch-clause-truth g c = λ told b is.
    c.is_file.ensures.truth (unmade_node c.args.graph.now c.args.node.0 c.rule_of.result c.laws.ensures.apart c.rule_of.ensures.of (sym c.is_some.ensures ∙ c.if-is_some.false)) told b is

pub returns-in_err-path_of-clause-truth : goal.returns-in_err-path_of-clause-truth
returns-in_err-path_of-clause-truth g c = λ told b is.
    c.is_file.ensures.truth (unmade_node c.args.graph.now c.args.node.0 c.rule_of.result c.laws.ensures.apart c.rule_of.ensures.of (sym c.is_some.ensures ∙ c.if-is_some.false)) told b is

pub returns-clause-truth : goal.returns-clause-truth
returns-clause-truth g c = λ told b is.
    let free = unmade_node c.args.graph.now c.args.node.0 c.rule_of.result c.laws.ensures.apart c.rule_of.ensures.of (sym c.is_some.ensures ∙ c.if-is_some.false) in
    asked b _ _ _ _ (c.has_copy_rule.ensures.looks.around told) (c.is_file.ensures.truth free (c.has_copy_rule.ensures.looks.told.told told) b is)

pub returns-then-branch-clause-known : goal.returns-then-branch-clause-known
returns-then-branch-clause-known g c = λ told b path at is.
    let now : IsReading c.args.graph.now = record { apart = c.laws.ensures.apart; single = c.laws.ensures.single; named = c.laws.ensures.named } in
    let none = sym c.is_some.ensures ∙ c.if-is_some.false in
    let free = unmade_node c.args.graph.now c.args.node.0 c.rule_of.result c.laws.ensures.apart c.rule_of.ensures.of none in
    known_file _ _ _ (known_unmade b c.args.graph.now c.args.self.now _ _ path c.rule_of.result now c.rule_of.ensures.of none at is)
    (sym c.if-branch.true ∙ c.in_ok-is_file.ensures.file told b path at free is)

pub returns-clause-known : goal.returns-clause-known
returns-clause-known g c = λ told b path at is.
    let now : IsReading c.args.graph.now = record { apart = c.laws.ensures.apart; single = c.laws.ensures.single; named = c.laws.ensures.named } in
    let none = sym c.is_some.ensures ∙ c.if-is_some.false in
    let free = unmade_node c.args.graph.now c.args.node.0 c.rule_of.result c.laws.ensures.apart c.rule_of.ensures.of none in
    let before = c.has_copy_rule.ensures.looks.told.told told in
    let later = c.is_file.ensures.truth free before b is in
    let there = c.in_ok-path_of.ensures.at in
    let same = some_same (sym there ∙ at) in
    known_copied _ _ _ _ (known_unmade b c.args.graph.now c.args.self.now _ _ path c.rule_of.result now c.rule_of.ensures.of none at is)
    (sym c.if-branch.false ∙ c.in_ok-is_file.ensures.file before b path at free is)
    (subst (λ p. IfOk c.has_copy_rule.result (λ has. has ≡ is_some (copied_from b.graph b.tree p))) same (c.has_copy_rule.ensures.copied told b later))
