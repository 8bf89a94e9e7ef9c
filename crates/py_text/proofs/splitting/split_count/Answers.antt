use Rattle.std.proofs.Common.{rules, ◌≡◌, ◌+◌, ◌++◌, ◌∷◌, [], ap, sym, ◌∙◌, length}
use Rattle.std.specs.Str.{IsUtf8}
use Rattle.std.proofs.lemmas.List.{length_push}
use Rattle.py_text.specs.Sizes.{saturated}
use Rattle.py_text.proofs.CutLemmas.{cuts_more, cuts_end}
use Rattle.py_text.proofs.JoinLemmas.{saturated_add}
use Rattle.py_text.proofs.splitting.split_count.Goals as goal

pub cuts-preserved : goal.cuts-preserved
cuts-preserved c =
    let parts = c.cuts.invariant.0.0 in
    let part = c.in-Some.field-0-0.now in
    let cut = c.in-Some.ensures {u = tt} in
    let part_utf8 : IsUtf8 part = search rules in
    let counted : c.saturating_add-count.result ≡ saturated (length (parts ++ part ∷ []) + 1) =
    c.saturating_add-count.ensures ∙ saturated_add c.cuts.count (length parts + 1) 1 c.cuts.invariant.0.1 ∙ ap (λ n. saturated (n + 1)) (sym (length_push parts part)) in (
      (parts ++ part ∷ [], counted, cuts_more c.args.separator.now c.args.text.now c.cuts.rest.now part c.in-Some.after.now parts c.requires c.utf8.separator part_utf8 c.cuts.invariant.0.2 cut.0 cut.2),
      search rules,
    )

pub returns : goal.returns
returns c =
    let parts = c.cuts.invariant.0.0 in
    c.cuts.invariant.0.1 ∙ ap saturated (sym (length_push parts c.cuts.rest.now))
    ∙ ap (λ l. saturated (length l)) (cuts_end c.args.separator.now c.args.text.now c.cuts.rest.now parts c.cuts.invariant.1 c.cuts.invariant.0.2 (rw c.in_default.is at c.cut_at_first.ensures))
