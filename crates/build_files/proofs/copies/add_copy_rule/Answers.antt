use Rattle.std.proofs.Common.{sym, subst}
use Rattle.rule_graph.specs.declared.rule.Rule.{Rule}
use Rattle.rule_graph.specs.Graphs.{AddsRule}
use Rattle.build_means.specs.Rules.{IsReading}
use Rattle.build_files.specs.Kept.{AreTrue}
use Rattle.build_files.specs.Searched.{GrowsTo}
use Rattle.build_files.proofs.Copying.{grew_same, grew_by_nodes, grew_joined, grew_added, copy_true, copy_made, source_true}
use Rattle.build_files.proofs.Looking.{interned_below}
use Rattle.build_files.proofs.Noting.{more_interned}
use Rattle.build_files.proofs.copies.add_copy_rule.Goals as goal

pub add_rule-requires : goal.add_rule-requires
add_rule-requires c = c.in_ok-rule.ensures.rule _ (interned_below _ _ _ _ c.args.node.0 c.in_ok-source.ensures.ok.0 c.requires) c.in_ok-source.ensures.ok.1

pub returns-in_err-source-clause-grows : goal.returns-in_err-source-clause-grows
returns-in_err-source-clause-grows c = subst (λ g. GrowsTo c.args.graph.now g) (sym c.in_err-source.ensures.err) (grew_same c.args.graph.now)

pub returns-in_err-source-clause-truth : goal.returns-in_err-source-clause-truth
returns-in_err-source-clause-truth c = λ b inputs around path at none copied is. subst (λ g. AreTrue b g inputs around) (sym c.in_err-source.ensures.err) is

pub returns-in_err-rule-clause-grows : goal.returns-in_err-rule-clause-grows
returns-in_err-rule-clause-grows c = grew_by_nodes _ _ (more_interned c.args.graph.now c.intern.new.self c.args.source.now _ c.in_ok-source.ensures.ok.0 c.intern.ensures.rest)

pub returns-in_err-rule-clause-truth : goal.returns-in_err-rule-clause-truth
returns-in_err-rule-clause-truth c = λ b inputs around path at none copied is.
    let first : IsReading c.args.graph.now = record { apart = c.laws.ensures.apart; single = c.laws.ensures.single; named = c.laws.ensures.named } in
    let second : IsReading c.intern.new.self = record { apart = c.laws-2.ensures.apart; single = c.laws-2.ensures.single; named = c.laws-2.ensures.named } in
    source_true c.args.graph.now c.intern.new.self c.args.source.now _ c.in_ok-source.ensures.ok.0 c.intern.ensures.rest b inputs around first second is

pub returns-clause-grows : goal.returns-clause-grows
returns-clause-grows c =
    grew_joined c.args.graph.now c.intern.new.self c.add_rule.new.self
    (grew_by_nodes _ _ (more_interned c.args.graph.now c.intern.new.self c.args.source.now _ c.in_ok-source.ensures.ok.0 c.intern.ensures.rest)) (grew_added _ _ c.in_ok-rule.rule _ c.in_ok-add_rule.ensures.ok)

pub returns-clause-truth : goal.returns-clause-truth
returns-clause-truth c = λ b inputs around path at none copied is.
    let first : IsReading c.args.graph.now = record { apart = c.laws.ensures.apart; single = c.laws.ensures.single; named = c.laws.ensures.named } in
    let second : IsReading c.intern.new.self = record { apart = c.laws-2.ensures.apart; single = c.laws-2.ensures.single; named = c.laws-2.ensures.named } in
    let third : IsReading c.add_rule.new.self = record { apart = c.laws-3.ensures.apart; single = c.laws-3.ensures.single; named = c.laws-3.ensures.named } in
    copy_true b c.args.graph.now c.intern.new.self c.add_rule.new.self inputs around c.args.node c.in_ok-source.source path c.args.source.now _ c.in_ok-source.ensures.ok.0 c.intern.ensures.rest
    (subst (λ (rule : Rule). AddsRule c.intern.new.self rule c.in_ok-add_rule.field-0.0 c.add_rule.new.self) c.in_ok-rule.ensures.is c.in_ok-add_rule.ensures.ok) first second third at none copied is

pub returns-clause-made : goal.returns-clause-made
returns-clause-made c = λ none.
    let second : IsReading c.intern.new.self = record { apart = c.laws-2.ensures.apart; single = c.laws-2.ensures.single; named = c.laws-2.ensures.named } in
    let third : IsReading c.add_rule.new.self = record { apart = c.laws-3.ensures.apart; single = c.laws-3.ensures.single; named = c.laws-3.ensures.named } in
    copy_made c.args.graph.now c.intern.new.self c.add_rule.new.self c.args.node c.in_ok-source.source _ c.intern.ensures.rest (subst (λ (rule : Rule). AddsRule c.intern.new.self rule c.in_ok-add_rule.field-0.0 c.add_rule.new.self) c.in_ok-rule.ensures.is c.in_ok-add_rule.ensures.ok) second third none

pub returns-in_err-add_rule-clause-grows : goal.returns-in_err-add_rule-clause-grows
returns-in_err-add_rule-clause-grows c =
    subst (λ g. GrowsTo c.args.graph.now g) (sym c.in_err-add_rule.ensures.err)
    (grew_by_nodes _ _ (more_interned c.args.graph.now c.intern.new.self c.args.source.now _ c.in_ok-source.ensures.ok.0 c.intern.ensures.rest))

pub returns-in_err-add_rule-clause-truth : goal.returns-in_err-add_rule-clause-truth
returns-in_err-add_rule-clause-truth c = λ b inputs around path at none copied is.
    let first : IsReading c.args.graph.now = record { apart = c.laws.ensures.apart; single = c.laws.ensures.single; named = c.laws.ensures.named } in
    let second : IsReading c.intern.new.self = record { apart = c.laws-2.ensures.apart; single = c.laws-2.ensures.single; named = c.laws-2.ensures.named } in
    subst (λ g. AreTrue b g inputs around) (sym c.in_err-add_rule.ensures.err)
    (source_true c.args.graph.now c.intern.new.self c.args.source.now _ c.in_ok-source.ensures.ok.0 c.intern.ensures.rest b inputs around first second is)
