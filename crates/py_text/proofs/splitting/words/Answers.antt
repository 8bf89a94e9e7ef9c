use Rattle.std.proofs.Common.{rules, List, ℕ, ◌∙◌, map}
use denote.Ref.{Bor}
use Rattle.std.specs.Str.{IsUtf8}
use Rattle.py_text.proofs.WhiteLemmas.{words_more, words_end}
use Rattle.py_text.proofs.splitting.words.Goals as goal

pub parts-preserved : goal.parts-preserved
parts-preserved c =
    let now : List (Bor (List ℕ)) → List (List ℕ) = λ l. map (λ word. word.now) l in
    let cut = c.in-Some.ensures {u = tt} in
    let part_utf8 : IsUtf8 c.in-Some.part.now = search rules in (
      words_more (now c.parts.words.items) (now c.push_word.new.words.items) c.parts.rest.now c.in-Some.part.now c.in-Some.after.now part_utf8 (c.in_ok-push_word.ensures {u = tt})
          (record { within = cut.0; before = cut.1; behind = cut.2 }) ∙ c.parts.invariant.0,
      search rules,
    )

pub returns : goal.returns
returns c =
    let now : List (Bor (List ℕ)) → List (List ℕ) = λ l. map (λ word. word.now) l in
    words_end (now c.parts.words.items) (now c.push_word-2.new.words.items) c.parts.rest.now c.parts.invariant.1 (c.in_ok-push_word-2.ensures {u = tt}) (rw c.in_default.is at c.cut_at_white.ensures)
    ∙ c.parts.invariant.0
