use Rattle.std.proofs.Common.{rules, tests, ◌≡◌, ◌==◌, [], true, false}
use Rattle.std.proofs.lemmas.Iterator.{cases_from_all}
use Rattle.std.proofs.lemmas.Iterator.Splits.{YieldsList-from_slice_split}
use Rattle.scons_base.proofs.Passed.{all_passed}
use Rattle.one_rule.specs.LineForm.{is_word, space}
use Rattle.one_rule.proofs.line_form.has_single_spaces.Goals as goal

pub returns : goal.returns
returns c =
    all_passed [] _ _ _ (cases_from_all _ _ _ (λ x. is_word x ≡ true) (λ x. is_word x ≡ false) c.all.ensures.ran
    (YieldsList-from_slice_split _ (λ b. b == space) c.args.line.now c.split.ensures.rest c.split.ensures.done c.split.ensures.closure (λ x r q k. search (rules, tests)))
    (λ x q k. search (rules, tests)) (λ x q k. search (rules, tests)))
