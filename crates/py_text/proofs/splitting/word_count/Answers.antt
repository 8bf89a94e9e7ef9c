use Rattle.std.proofs.Common.{rules, ◌≡◌, ◌+◌, ◌++◌, ◌∷◌, [], ap, sym, refl, ◌∙◌, length}
use Rattle.std.specs.Prelude.{filter}
use Rattle.std.specs.Str.{IsUtf8}
use Rattle.std.proofs.lemmas.List.{length-append}
use Rattle.py_text.specs.Sizes.{saturated}
use Rattle.py_text.specs.Splitting.{is_word}
use Rattle.py_text.proofs.JoinLemmas.{saturated_add}
use Rattle.py_text.proofs.WhiteLemmas.{words_more, words_end}
use Rattle.py_text.proofs.splitting.word_count.Goals as goal

pub parts-preserved : goal.parts-preserved
parts-preserved c =
    let words = c.parts.invariant.0.0 in
    let more = filter is_word (c.in-Some.part.now ∷ []) in
    let cut = c.in-Some.ensures {u = tt} in
    let part_utf8 : IsUtf8 c.in-Some.part.now = search rules in
    let counted : c.saturating_add-count.result ≡ saturated (length (words ++ more)) =
    c.saturating_add-count.ensures ∙ saturated_add c.parts.count (length words) c.words_in.result c.parts.invariant.0.1
    ∙ ap (λ n. saturated (length words + n)) c.words_in.ensures ∙ ap saturated (sym (length-append words more)) in (
      (
        words ++ more,
        counted,
        words_more words (words ++ more) c.parts.rest.now c.in-Some.part.now c.in-Some.after.now part_utf8 refl (record { within = cut.0; before = cut.1; behind = cut.2 }) ∙ c.parts.invariant.0.2,
      ),
      search rules,
    )

pub returns : goal.returns
returns c =
    let words = c.parts.invariant.0.0 in
    let more = filter is_word (c.parts.rest.now ∷ []) in
    c.saturating_add.ensures ∙ saturated_add c.parts.count (length words) c.words_in-2.result c.parts.invariant.0.1
    ∙ ap (λ n. saturated (length words + n)) c.words_in-2.ensures ∙ ap saturated (sym (length-append words more))
    ∙ ap (λ l. saturated (length l)) (words_end words (words ++ more) c.parts.rest.now c.parts.invariant.1 refl (rw c.in_default.is at c.cut_at_white.ensures) ∙ c.parts.invariant.0.2)
