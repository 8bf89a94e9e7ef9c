use Rattle.std.proofs.Common.{◌++◌, ap, sym, ◌∙◌, encode_utf8, flat_map}
use Rattle.std.proofs.lemmas.Iterator.{YieldsList-from_chars}
use Rattle.std.proofs.lemmas.Iterator.Consumers.{YieldsList-end}
use Rattle.std.proofs.lemmas.List.{map-id}
use Rattle.py_text.proofs.replacing.interspersed.Goals as goal

pub returns : goal.returns
returns c =
    let all = YieldsList-end (YieldsList-from_chars c.args.text.now c.utf8.text cc) c.loop-c.yielded _ c.loop-c.yielded_by _ _ c.in-None.is c.next.ensures.steps in
    (c.in_ok-push_str-2.ensures {u = tt}).bytes
    ∙ ap (λ l. l ++ c.args.new.now) (c.loop-c.invariant ∙ ap (flat_map (λ x. c.args.new.now ++ encode_utf8 x)) (sym (map-id c.loop-c.yielded) ∙ all.0))
