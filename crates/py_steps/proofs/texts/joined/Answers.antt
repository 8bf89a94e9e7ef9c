use Rattle.std.proofs.Common.{◌∙◌, List, ℕ, ap, sym, map, length}
use Rattle.std.proofs.lemmas.Result.{err_from_is_err_and}
use Rattle.scons_base.specs.declared.limits.TheConstants.{TEXT_LIMIT}
use Rattle.py_tree.specs.Tree.{trees, piece_tree}
use Rattle.py_heap.specs.Units.{room}
use Rattle.py_compare.specs.Growing.{Growth}
use Rattle.py_steps.specs.Growths.{put_pieces}
use Rattle.py_steps.proofs.Growing.{joined_too_big, joined_unpaid, joined_made}
use Rattle.py_steps.proofs.texts.joined.Goals as goal

pub returns-in_err-text-clause-fault : goal.returns-in_err-text-clause-fault
returns-in_err-text-clause-fault c =
    let grew = c.in_ok-put_pieces.ensures ∙ ap (λ (g : Growth). put_pieces c.args.heap.now g (trees (map piece_tree c.args.pieces.now)) c.args.values.now) c.new-whole.ensures in
    let p = err_from_is_err_and c.from_residual-in_err-text.result c.from_residual-in_err-text.ensures.1 in
    rw (p.1, p.2) (λ m. joined_too_big c.args.heap.now c.args.budget.now (trees (map piece_tree c.args.pieces.now)) c.args.values.now c.put_pieces.new.whole grew c.in_err-text.field-0.0 (sym c.into_text.ensures ∙ c.in_err-text.was))

pub returns-in_err-text_room-clause-fault : goal.returns-in_err-text_room-clause-fault
returns-in_err-text_room-clause-fault c =
    let grew = c.in_ok-put_pieces.ensures ∙ ap (λ (g : Growth). put_pieces c.args.heap.now g (trees (map piece_tree c.args.pieces.now)) c.args.values.now) c.new-whole.ensures in
    let p = err_from_is_err_and c.from_residual-in_err-text_room.result c.from_residual-in_err-text_room.ensures.1 in
    rw (p.1, p.2) (λ m. joined_unpaid c.args.heap.now c.args.budget.now (trees (map piece_tree c.args.pieces.now)) c.args.values.now c.put_pieces.new.whole grew c.in_ok-text.text (sym c.into_text.ensures ∙ c.in_ok-text.was) c.in_err-text_room.field-0.0
    (ap (λ (s : List ℕ). room TEXT_LIMIT c.args.budget.now (length s)) (sym c.as_str.ensures) ∙ c.in_err-text_room.ensures.fault))

pub returns-clause-ok : goal.returns-clause-ok
returns-clause-ok c =
    let grew = c.in_ok-put_pieces.ensures ∙ ap (λ (g : Growth). put_pieces c.args.heap.now g (trees (map piece_tree c.args.pieces.now)) c.args.values.now) c.new-whole.ensures in
    joined_made c.args.heap.now c.args.budget.now (trees (map piece_tree c.args.pieces.now)) c.args.values.now c.put_pieces.new.whole grew c.in_ok-text.text (sym c.into_text.ensures ∙ c.in_ok-text.was) c.add_text.new.self c.in_ok-made.made c.text_room.new.budget
    (ap (λ (s : List ℕ). room TEXT_LIMIT c.args.budget.now (length s)) (sym c.as_str.ensures) ∙ c.in_ok-text_room.ensures.ok) c.in_ok-made.ensures.ok.0 c.in_ok-made.ensures.ok.1
