use Rattle.std.proofs.Common.{sym, subst}
use Rattle.py_lex.specs.Utf8.{IsClean}
use Rattle.py_lex.proofs.Clean.{clean_next}
use Rattle.py_lex.proofs.StepUtf8.{is_quote}
use Rattle.py_lex.proofs.token.next_token.Goals as goal

pub text_token-requires-clause-clean : goal.text_token-requires-clause-clean
text_token-requires-clause-clean c =
    clean_next c.in-Some.byte.now c.in-Some.rest.now (subst (λ x. IsClean x) c.in-Some.ensures.cases.0 c.requires.clean) (is_quote c.in-Some.byte.now (sym c.in-Quote.ensures))
