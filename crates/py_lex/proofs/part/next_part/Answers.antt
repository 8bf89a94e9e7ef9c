use Rattle.std.proofs.Common.{rules, ap, ◌∙◌, subst, sym}
use Rattle.py_lex.specs.Parts.{Parts}
use Rattle.py_lex.specs.Views.{part_of}
use Rattle.py_lex.specs.declared.part.PartPiece.TheVariants.{Plain}
use Rattle.py_lex.proofs.PartSpelling.{field_at, closed_at, unclosed_at, lone_at, bad_escape_at, not_utf8_at, leads_on, leads_on_line}
use Rattle.py_lex.proofs.part.next_part.Goals as goal

pub returns-in-Opens-clause-parts : goal.returns-in-Opens-clause-parts
returns-in-Opens-clause-parts c =
    subst (λ p. Parts c.args.style c.args.bytes.now (part_of p)) (sym c.ended.ensures)
    (field_at c.part.invariant c.next_part_piece-piece.ensures.piece c.next_part_piece-piece.ensures.rest c.in-Opens.is)

pub returns-in-Plain-Closes-clause-parts : goal.returns-in-Plain-Closes-clause-parts
returns-in-Plain-Closes-clause-parts c =
    subst (λ p. Parts c.args.style c.args.bytes.now (part_of p)) (sym c.ended-in-Plain-Closes.ensures)
    (closed_at c.part.invariant c.next_part_piece-piece.ensures.piece c.next_part_piece-piece.ensures.rest (c.in-Plain-Closes.is ∙ ap Plain (rw c.in-Plain-Closes.is at c.in-Plain-Closes.field-0-is)))

pub returns-in-Plain-Unclosed-clause-parts : goal.returns-in-Plain-Unclosed-clause-parts
returns-in-Plain-Unclosed-clause-parts c =
    unclosed_at c.part.invariant c.next_part_piece-piece.ensures.piece c.next_part_piece-piece.ensures.rest (c.in-Plain-Unclosed.is ∙ ap Plain (rw c.in-Plain-Unclosed.is at c.in-Plain-Unclosed.field-0-is))

pub returns-in-Plain-BadEscape-clause-parts : goal.returns-in-Plain-BadEscape-clause-parts
returns-in-Plain-BadEscape-clause-parts c =
    subst (λ p. Parts c.args.style c.args.bytes.now (part_of p)) (sym c.refused.ensures)
    (bad_escape_at c.part.invariant c.next_part_piece-piece.ensures.piece c.next_part_piece-piece.ensures.rest (c.in-Plain-BadEscape.is ∙ ap Plain (rw c.in-Plain-BadEscape.is at c.in-Plain-BadEscape.field-0-is)))

pub returns-in-Plain-NotUtf8-clause-parts : goal.returns-in-Plain-NotUtf8-clause-parts
returns-in-Plain-NotUtf8-clause-parts c =
    subst (λ p. Parts c.args.style c.args.bytes.now (part_of p)) (sym c.refused-in-Plain-NotUtf8.ensures)
    (not_utf8_at c.part.invariant c.next_part_piece-piece.ensures.piece c.next_part_piece-piece.ensures.rest (c.in-Plain-NotUtf8.is ∙ ap Plain (rw c.in-Plain-NotUtf8.is at c.in-Plain-NotUtf8.field-0-is)))

pub returns-in-Lone-clause-parts : goal.returns-in-Lone-clause-parts
returns-in-Lone-clause-parts c =
    subst (λ p. Parts c.args.style c.args.bytes.now (part_of p)) (sym c.refused-in-Lone.ensures)
    (lone_at c.part.invariant c.next_part_piece-piece.ensures.piece c.next_part_piece-piece.ensures.rest c.in-Lone.is)

pub part-preserved-in_ok-push_chars-in-Plain-Stands : goal.part-preserved-in_ok-push_chars-in-Plain-Stands
part-preserved-in_ok-push_chars-in-Plain-Stands c =
    leads_on c.part.invariant c.next_part_piece-piece.ensures.piece c.next_part_piece-piece.ensures.rest _ _ (c.in-Plain-Stands.is ∙ ap Plain (rw c.in-Plain-Stands.is at c.in-Plain-Stands.field-0-is)) c.in_ok-push_chars-in-Plain-Stands.ensures (c.next_part_piece-piece.ensures.shorter (search rules))

pub part-preserved : goal.part-preserved
part-preserved c =
    leads_on_line c.part.invariant c.next_part_piece-piece.ensures.piece c.next_part_piece-piece.ensures.rest _ _ (c.in-Plain-EndsLine.is ∙ ap Plain (rw c.in-Plain-EndsLine.is at c.in-Plain-EndsLine.field-0-is)) c.in_ok-push_chars-in-Plain-EndsLine.ensures (c.next_part_piece-piece.ensures.shorter (search rules))
