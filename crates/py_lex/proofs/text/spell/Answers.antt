use Rattle.std.proofs.Common.{rules}
use Rattle.py_lex.proofs.Spelling.{closed_at, unclosed_at, bad_escape_at, not_utf8_at, leads_on, leads_on_line}
use Rattle.py_lex.proofs.text.spell.Goals as goal

pub returns-in-Closes-clause-spells : goal.returns-in-Closes-clause-spells
returns-in-Closes-clause-spells c =
    closed_at c.text.invariant c.next_piece-piece.ensures.piece c.next_piece-piece.ensures.rest c.in-Closes.is

pub returns-in-Unclosed-clause-spells : goal.returns-in-Unclosed-clause-spells
returns-in-Unclosed-clause-spells c =
    unclosed_at c.text.invariant c.next_piece-piece.ensures.piece c.next_piece-piece.ensures.rest c.in-Unclosed.is

pub returns-in-BadEscape-clause-spells : goal.returns-in-BadEscape-clause-spells
returns-in-BadEscape-clause-spells c =
    bad_escape_at c.text.invariant c.next_piece-piece.ensures.piece c.next_piece-piece.ensures.rest c.in-BadEscape.is

pub returns-in-NotUtf8-clause-spells : goal.returns-in-NotUtf8-clause-spells
returns-in-NotUtf8-clause-spells c =
    not_utf8_at c.text.invariant c.next_piece-piece.ensures.piece c.next_piece-piece.ensures.rest c.in-NotUtf8.is

pub text-preserved-in_ok-push_chars-in-Stands : goal.text-preserved-in_ok-push_chars-in-Stands
text-preserved-in_ok-push_chars-in-Stands c =
    leads_on c.text.invariant c.next_piece-piece.ensures.piece c.next_piece-piece.ensures.rest _ _ c.in-Stands.is c.in_ok-push_chars-in-Stands.ensures (c.next_piece-piece.ensures.shorter (search rules))

pub text-preserved : goal.text-preserved
text-preserved c =
    leads_on_line c.text.invariant c.next_piece-piece.ensures.piece c.next_piece-piece.ensures.rest _ _ c.in-EndsLine.is c.in_ok-push_chars-in-EndsLine.ensures (c.next_piece-piece.ensures.shorter (search rules))
