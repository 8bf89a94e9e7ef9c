use Rattle.std.proofs.Common.{◌∙◌, ap, sym}
use Rattle.py_tree.specs.Tree.{text}
use Rattle.py_tree.proofs.Views.{expr_tree-Text}
use Rattle.py_parse.proofs.TextPieces.{text_alone, text_more, first_part, pieces_continue_over}
use Rattle.py_parse.proofs.pieces.behind_text.Goals as goal

pub returns-then-not-sees : goal.returns-then-not-sees
returns-then-not-sees c = record {
  goes = λ d. text_alone d _ _ _ (sym c.sees.ensures ∙ c.if-not-sees.true) (expr_tree-Text _ _ ∙ ap (text c.args.token.now.line) c.in_ok-text.ensures);
}

pub returns : goal.returns
returns c =
    let found = first_part _ _ _ _ _ c.new-pieces.ensures.items c.in_ok-push.ensures.items c.in_ok-text.ensures in
    record { goes = pieces_continue_over _ _ _ _ _ _ (λ d o r. text_more _ _ _ found (sym c.sees.ensures ∙ c.if-not-sees.false) r) c.next_piece.ensures.goes }
