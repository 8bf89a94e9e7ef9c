use Rattle.std.proofs.Common.{rules, tests, ◌==◌, ap, ◌∙◌, map}
use Rattle.std.proofs.lemmas.Iterator.Consumers.{map_from_collect}
use Rattle.std.proofs.lemmas.Iterator.Splits.{YieldsList-from_slice_split}
use Rattle.one_rule.specs.Fields.{fields_of}
use Rattle.one_rule.specs.LineForm.{quote}
use Rattle.one_rule.proofs.line_form.cut_at_quotes.Goals as goal

pub returns : goal.returns
returns c =
    let parts = rw c.in_ok-parts.was at (map_from_collect c.collect.result c.collect.ensures.ran (YieldsList-from_slice_split _ (λ b. b == quote) c.args.line.now c.split.ensures.rest c.split.ensures.done c.split.ensures.closure (λ x r q k. search (rules, tests)))) in
    c.fields_between.ensures ∙ ap fields_of (ap (map (λ part. part.now)) c.as_slice.ensures.value ∙ parts)
