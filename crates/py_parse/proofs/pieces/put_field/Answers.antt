use Rattle.std.proofs.Common.{true, subst}
use Rattle.py_tree.specs.Tree.{piece_tree}
use Rattle.py_parse.specs.Open.{PiecesContinue, pieces_from}
use Rattle.py_parse.proofs.Cases.{map_more}
use Rattle.py_parse.proofs.pieces.put_field.Goals as goal

pub returns-clause-goes : goal.returns-clause-goes
returns-clause-goes c =
    subst (λ found. PiecesContinue c.args.line (pieces_from true c.args.line found) c.args.tokens.now c.next_piece.result)
    (map_more piece_tree _ _ _ c.in_ok-push.ensures.items) c.next_piece.ensures.goes
