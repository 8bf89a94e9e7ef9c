use Rattle.std.proofs.Common.{◌+◌, ap, sym, ◌∙◌, length, flat_map}
use Rattle.std.proofs.lemmas.Iterator.{YieldsList-from_chars}
use Rattle.std.proofs.lemmas.Iterator.Consumers.{YieldsList-end}
use Rattle.std.proofs.lemmas.List.{map-id}
use Rattle.py_text.specs.Quoting.{escaped}
use Rattle.py_text.specs.Sizes.{saturated}
use Rattle.py_text.proofs.QuoteLemmas.{length-quoted}
use Rattle.py_text.proofs.quoting.quoted_length.Goals as goal

pub returns : goal.returns
returns c =
    let quote = c.quote_of-quote.result in
    let all = YieldsList-end (YieldsList-from_chars c.args.text.now c.utf8.text cc) c.loop-c.yielded _ c.loop-c.yielded_by _ _ c.in-None.is c.next.ensures.steps in
    c.loop-c.invariant ∙ ap (λ l. saturated (2 + length (flat_map (escaped quote) l))) (sym (map-id c.loop-c.yielded) ∙ all.0)
    ∙ ap saturated (length-quoted c.args.text.now quote c.quote_of-quote.ensures)
