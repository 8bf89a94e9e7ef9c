use Rattle.std.proofs.Common.{rules, ◌≡◌, ◌++◌, ◌∷◌, [], Some, ap, sym, ◌∙◌, subst, map}
use Rattle.std.proofs.lemmas.List.{map_push}
use Rattle.py_text.specs.Formatting.{literal_run}
use Rattle.py_text.specs.Views.{plain_piece}
use Rattle.py_text.proofs.FormatLemmas.{Read, read_none, read_more, read_stops, read_end}
use Rattle.py_text.proofs.formatting.format_pieces.Goals as goal

pub pieces-init : goal.pieces-init
pieces-init c = (subst (λ pieces. Read c.args.format.now c.args.format.now (map plain_piece pieces)) (sym c.new-pieces.ensures.items) (read_none c.args.format.now), c.utf8.format)

pub pieces-preserved : goal.pieces-preserved
pieces-preserved c =
    let old = map plain_piece c.pieces.pieces.items in
    let piece = plain_piece c.in-Some-read_letter.piece in
    let cut = c.in-Some.ensures {u = tt} in
    let pieces : map plain_piece c.push.new.self.items ≡ old ++ literal_run c.in-Some.literal.now ++ piece ∷ [] =
    ap (map plain_piece) (c.in_ok-push-in-Some-read_letter.ensures {u = tt}).items ∙ map_push plain_piece c.push_literal.new.pieces.items c.in-Some-read_letter.piece
    ∙ ap (λ l. l ++ piece ∷ []) (c.in_ok-push_literal.ensures {u = tt}) in (
      rw pieces (read_more c.args.format.now c.pieces.rest.now c.in-Some.literal.now c.in-Some.behind.now c.in-Some-read_letter.after.now old piece c.pieces.invariant.0 cut.0 cut.1 (c.in-Some-read_letter.ensures {u = tt})),
      search rules,
    )

pub returns-in-None-clause-bad_text : goal.returns-in-None-clause-bad_text
returns-in-None-clause-bad_text c = λ _.
    let cut = c.in-Some.ensures {u = tt} in
    read_stops c.args.format.now c.pieces.rest.now c.in-Some.literal.now c.in-Some.behind.now (map plain_piece c.pieces.pieces.items) c.pieces.invariant.0 cut.0 cut.1 (c.in-None.ensures {u = tt})

pub returns-clause-ok : goal.returns-clause-ok
returns-clause-ok c =
    read_end c.args.format.now c.pieces.rest.now (map plain_piece c.pieces.pieces.items) c.pieces.invariant.0 (rw c.in_default.is at c.cut_at_percent.ensures)
    ∙ ap Some (sym (c.in_ok-push_literal-2.ensures {u = tt}))
