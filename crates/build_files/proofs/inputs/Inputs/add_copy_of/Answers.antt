use Rattle.std.proofs.Common.{◌∙◌, sym}
use Rattle.build_means.specs.Rules.{IsReading}
use Rattle.build_files.proofs.Copying.{grew_same, made_alone, place_grown}
use Rattle.build_files.proofs.Knowing.{from_found}
use Rattle.build_files.proofs.Looking.{quiet}
use Rattle.build_files.proofs.Truths.{asked}
use Rattle.build_files.proofs.inputs.Inputs.add_copy_of.Goals as goal

pub returns-in-Some-clause-cause : goal.returns-in-Some-clause-cause
returns-in-Some-clause-cause g c = quiet _ _ c.add_copy_rule.result c.in_ok-source.ensures.cause c.add_copy_rule.ensures.quiet

pub returns-in_err-path_of-clause-grows : goal.returns-in_err-path_of-clause-grows
returns-in_err-path_of-clause-grows g c = grew_same c.args.graph.now

pub returns-in_err-source-clause-grows : goal.returns-in_err-source-clause-grows
returns-in_err-source-clause-grows g c = grew_same c.args.graph.now

pub returns-in_err-source-clause-truth : goal.returns-in_err-source-clause-truth
returns-in_err-source-clause-truth g c = λ none told b is. asked b _ _ _ _ (c.copied_from.ensures.looks.around told) is

pub returns-in-None-clause-grows : goal.returns-in-None-clause-grows
returns-in-None-clause-grows g c = grew_same c.args.graph.now

pub returns-in-None-clause-truth : goal.returns-in-None-clause-truth
returns-in-None-clause-truth g c = λ none told b is. asked b _ _ _ _ (c.copied_from.ensures.looks.around told) is

pub returns-in-None-clause-left : goal.returns-in-None-clause-left
returns-in-None-clause-left g c = λ none told b is.
    let now : IsReading c.args.graph.now = record { apart = c.laws.ensures.apart; single = c.laws.ensures.single; named = c.laws.ensures.named } in
    record {
      path = c.in_ok-path_of.field-0.now;
      at = c.in_ok-path_of.ensures.at;
      uncopied = λ _. sym (from_found b c.args.graph.now c.args.self.now _ _ c.in_ok-path_of.field-0.now _ now (c.copied_from.ensures.looks.around told)
          (sym c.in-None.is ∙ c.in_ok-source.ensures.from told) is);
    }

pub returns-in-Some-clause-truth : goal.returns-in-Some-clause-truth
returns-in-Some-clause-truth g c = λ none told b is.
    let now : IsReading c.args.graph.now = record { apart = c.laws.ensures.apart; single = c.laws.ensures.single; named = c.laws.ensures.named } in
    let asks = c.copied_from.ensures.looks.around told in
    c.add_copy_rule.ensures.truth b c.args.self.now _ c.in_ok-path_of.field-0.now c.in_ok-path_of.ensures.at none
    (sym (from_found b c.args.graph.now c.args.self.now _ _ c.in_ok-path_of.field-0.now _ now asks (sym c.in-Some.is ∙ c.in_ok-source.ensures.from told) is))
    (asked b _ _ _ _ asks is)

pub returns-in-Some-clause-left : goal.returns-in-Some-clause-left
returns-in-Some-clause-left g c = λ none told b is.
    made_alone b c.add_copy_rule.new.graph c.args.node.0 c.in_ok-path_of.field-0.now c.add_copy_rule.result
    (place_grown c.args.graph.now c.add_copy_rule.new.graph c.args.node.0 c.in_ok-path_of.field-0.now c.add_copy_rule.ensures.grows c.in_ok-path_of.ensures.at)
    (c.add_copy_rule.ensures.made none)
