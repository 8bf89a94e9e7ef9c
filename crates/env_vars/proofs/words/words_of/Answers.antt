use Rattle.std.proofs.Common.{rules, ◌∙◌}
use Rattle.env_text.proofs.Whites.{words_step, words_end}
use Rattle.env_vars.proofs.words.words_of.Goals as goal

pub parts-preserved : goal.parts-preserved
parts-preserved c = (
  words_step _ _ _ _ _ (c.in_ok-push_word.ensures {u = tt}) (c.in-Some.ensures {u = tt}).0 (c.in-Some.ensures {u = tt}).1 (c.in-Some.ensures {u = tt}).2 ∙ c.parts.invariant.0,
  search rules,
)

pub returns : goal.returns
returns c =
    words_end _ _ _ (c.in_ok-push_word-2.ensures {u = tt}) (rw c.in_default.is at c.split_at_white.ensures) ∙ c.parts.invariant.0
