use Rattle.std.proofs.Common.{arith, refl}
use Rattle.py_tree.proofs.Views.{expr_tree-Joined}
use Rattle.py_parse.proofs.Cases.{taken_shorter}
use Rattle.py_parse.proofs.TextPieces.{steps_as, part_more, turned, field_stands, pieces_ended, pieces_unfit}
use Rattle.py_parse.proofs.pieces.next_piece.Goals as goal

pub pieces-init : goal.pieces-init
pieces-init c = ((λ d o r. r), omega arith)

pub returns-in-Field-clause-stays : goal.returns-in-Field-clause-stays
returns-in-Field-clause-stays c = c.pieces.invariant.1

pub returns-in-Field-clause-goes : goal.returns-in-Field-clause-goes
returns-in-Field-clause-goes c = λ d o r.
    let f = steps_as _ _ _ _ c.in-Field.is c.piece_step.ensures in
    c.pieces.invariant.0 d o (field_stands _ _ _ f.0 f.1 f.2 r)

pub returns-in-Ends-clause-goes : goal.returns-in-Ends-clause-goes
returns-in-Ends-clause-goes c = λ d.
    let f = steps_as _ _ _ _ c.in-Ends.is c.piece_step.ensures in
    c.pieces.invariant.0 d _ (pieces_ended d _ _ _ _ f.0 f.1 f.2 (expr_tree-Joined _ _))

pub returns-in-Unfit-clause-goes : goal.returns-in-Unfit-clause-goes
returns-in-Unfit-clause-goes c = λ d.
    let f = steps_as _ _ _ _ c.in-Unfit.is c.piece_step.ensures in
    c.pieces.invariant.0 d _ (pieces_unfit d _ _ _ _ f.0 f.1 f.2 f.3)

pub pieces-preserved-in-Part : goal.pieces-preserved-in-Part
pieces-preserved-in-Part c =
    let t = steps_as _ _ _ _ c.in-Part.is c.piece_step.ensures in
    let s = taken_shorter t in
    let i = c.pieces.invariant.1 in
    ((λ d o r. c.pieces.invariant.0 d o (part_more _ _ _ _ t c.in_ok-push_part-in-Part.ensures r)), omega (arith, s, i))

pub pieces-preserved : goal.pieces-preserved
pieces-preserved c =
    let t = steps_as _ _ _ _ c.in-Turns.is c.piece_step.ensures in
    let s = taken_shorter t.1 in
    let i = c.pieces.invariant.1 in
    ((λ d o r. c.pieces.invariant.0 d o (turned _ _ _ _ refl t.1 t.2 t.3 r)), omega (arith, s, i))
