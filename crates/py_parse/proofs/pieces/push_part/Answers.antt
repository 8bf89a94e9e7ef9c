use Rattle.std.proofs.Common.{◌∙◌, ◌++◌, ◌∷◌, [], map, ap}
use Rattle.py_tree.specs.Tree.{Tree, piece_tree, text}
use Rattle.py_tree.proofs.Views.{piece_tree-Part}
use Rattle.py_parse.proofs.Cases.{map_more}
use Rattle.py_parse.proofs.pieces.push_part.Goals as goal

pub returns : goal.returns
returns c =
    map_more piece_tree _ _ _ c.in_ok-push.ensures.items
    ∙ ap (λ (t : Tree). map piece_tree c.args.pieces.now.items ++ t ∷ []) (piece_tree-Part _ _ ∙ ap (text c.args.token.now.line) c.in_ok-text.ensures)
