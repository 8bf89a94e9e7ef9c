use Rattle.std.proofs.Common.{◌<◌, sym, subst}
use Rattle.std.proofs.lemmas.Bool.{false≢true}
use Rattle.py_lex.specs.Utf8.{IsClean}
use Rattle.py_lex.proofs.TextUtf8.{text_is_utf8, opening_is_clean}
use Rattle.py_lex.proofs.token.text_token.Goals as goal

pub unreachable-requires : goal.unreachable-requires
unreachable-requires c =
    let opens = opening_is_clean c.args.raw c.args.quote c.args.rest.now c.requires.quote c.requires.clean in
    let text = text_is_utf8 (subst (λ s. s.quote < 128) (sym c.opening.ensures.style) opens.quote) (rw c.in-Closed.is at c.in_ok-value.ensures.spells) (subst (λ x. IsClean x) (sym c.opening.ensures.rest) opens.inside) in
    false≢true (c.in-Err.ensures.succeeds text.0)
