use Rattle.std.proofs.Common.{◌++◌, ap, sym, ◌∙◌, encode_utf8, flat_map}
use Rattle.std.proofs.lemmas.Iterator.{YieldsList-from_chars}
use Rattle.std.proofs.lemmas.Iterator.Consumers.{YieldsList-end}
use Rattle.std.proofs.lemmas.List.{map-id}
use Rattle.py_text.specs.Quoting.{escaped}
use Rattle.py_text.proofs.QuoteLemmas.{quoted_is}
use Rattle.py_text.proofs.quoting.quoted.Goals as goal

pub returns : goal.returns
returns c =
    let quote = c.quote_of-quote.result in
    let all = YieldsList-end (YieldsList-from_chars c.args.text.now c.utf8.text cc) c.loop-c.yielded _ c.loop-c.yielded_by _ _ c.in-None.is c.next.ensures.steps in
    (c.in_ok-push-2.ensures {u = tt}).bytes
    ∙ ap (λ l. l ++ encode_utf8 quote) (c.loop-c.invariant ∙ ap (λ l. encode_utf8 quote ++ flat_map (escaped quote) l) (sym (map-id c.loop-c.yielded) ∙ all.0))
    ∙ quoted_is c.args.text.now quote c.quote_of-quote.ensures
