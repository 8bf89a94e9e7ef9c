use Rattle.std.proofs.Common.{sym, ◌∙◌}
use Rattle.env_text.specs.Views.{plain_word}
use Rattle.env_text.proofs.WordLists.{name_read, behind_name, number_read, behind_number}
use Rattle.env_text.proofs.word.word_at.Goals as goal

pub returns-then-is_name_first-clause-word : goal.returns-then-is_name_first-clause-word
returns-then-is_name_first-clause-word c =
    name_read c.args.first c.args.bytes.now c.args.rest.now c.name_text.result.now (sym c.is_name_first.ensures ∙ c.if-is_name_first.true) c.requires
    (c.name_text.ensures ∙ c.cut_name.ensures.front)

pub returns-then-is_name_first-clause-rest : goal.returns-then-is_name_first-clause-rest
returns-then-is_name_first-clause-rest c =
    behind_name c.args.first c.args.bytes.now c.args.rest.now c.cut_name.result.1.now (sym c.is_name_first.ensures ∙ c.if-is_name_first.true) c.requires c.cut_name.ensures.rest

pub returns-then-is_ascii_digit-clause-word : goal.returns-then-is_ascii_digit-clause-word
returns-then-is_ascii_digit-clause-word c =
    number_read c.args.first c.args.bytes.now c.args.rest.now c.cut_digits.result.0.now (plain_word c.number_of.result)
    (sym c.is_name_first.ensures ∙ c.if-is_name_first.false) (sym c.is_ascii_digit.ensures.value ∙ c.if-is_ascii_digit.true) c.requires c.cut_digits.ensures.front c.number_of.ensures

pub returns-then-is_ascii_digit-clause-rest : goal.returns-then-is_ascii_digit-clause-rest
returns-then-is_ascii_digit-clause-rest c =
    behind_number c.args.first c.args.bytes.now c.args.rest.now c.cut_digits.result.1.now
    (sym c.is_name_first.ensures ∙ c.if-is_name_first.false) (sym c.is_ascii_digit.ensures.value ∙ c.if-is_ascii_digit.true) c.requires c.cut_digits.ensures.rest
