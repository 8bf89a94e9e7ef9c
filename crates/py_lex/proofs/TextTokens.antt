-- A text that is read is a token.
use Rattle.std.proofs.Common.{◌≡◌, ℕ, Bool, List, ap, subst}
use Rattle.py_token.specs.declared.token.TokenKind.TheVariants as token
use Rattle.py_lex.specs.declared.piece.Style.{Style}
use Rattle.py_lex.specs.Texts.{closed, Spells, opening}
use Rattle.py_lex.specs.Tokens.{takes, TextAt}

pub text_taken : (raw : Bool) (q depth : ℕ) (rest : List ℕ) (style : Style) (inside : List ℕ) → style ≡ (opening raw q rest).0 → inside ≡ (opening raw q rest).1 → (value text : List ℕ) (lines : ℕ) (after : List ℕ) → Spells style inside (closed value lines after) → text ≡ value → TextAt raw q depth rest (takes (token.Text text) lines depth after)
text_taken raw q depth rest style inside e f value text lines after r is =
    (closed value lines after, (subst (λ x. Spells x (opening raw q rest).1 (closed value lines after)) e (subst (λ x. Spells style x (closed value lines after)) f r), ap (λ t. takes (token.Text t) lines depth after) is))
