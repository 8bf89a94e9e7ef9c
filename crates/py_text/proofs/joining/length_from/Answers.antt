use Rattle.std.proofs.Common.{◌++◌, ℕ, List, ap, sym, ◌∙◌, length, map, flat_map}
use denote.Ref.{Bor}
use Rattle.std.proofs.lemmas.List.{map_push, map-id}
use Rattle.std.proofs.lemmas.Iterator.{YieldsList-from_slice}
use Rattle.std.proofs.lemmas.Iterator.Consumers.{YieldsList-from_copied, YieldsList-end}
use Rattle.py_text.specs.Sizes.{saturated}
use Rattle.py_text.proofs.JoinLemmas.{one_part_more}
use Rattle.py_text.proofs.joining.length_from.Goals as goal

pub loop-part-preserved : goal.loop-part-preserved
loop-part-preserved c =
    let now : Bor (List ℕ) → List ℕ = λ part. part.now in
    one_part_more c.args.separator.now c.in-Some.part.now c.args.first.now (map now c.loop-part.yielded) c.loop-part.length c.saturating_add.result c.saturating_add-length.result
    c.loop-part.invariant c.saturating_add.ensures c.saturating_add-length.ensures
    ∙ ap (λ parts. saturated (length (c.args.first.now ++ flat_map (λ y. c.args.separator.now ++ y) parts))) (sym (map_push now c.loop-part.yielded c.in-Some.part))

pub returns : goal.returns
returns c =
    let shown : List (Bor (List ℕ)) → List (List ℕ) = λ l. map (λ part. part.now) l in
    let all = YieldsList-end (YieldsList-from_copied (YieldsList-from_slice c.args.others.now cc)) c.loop-part.yielded _ c.loop-part.yielded_by _ _ c.in-None.is c.next.ensures.steps in
    c.loop-part.invariant
    ∙ ap (λ parts. saturated (length (c.args.first.now ++ flat_map (λ y. c.args.separator.now ++ y) (shown parts)))) (sym (map-id c.loop-part.yielded) ∙ all.0)
