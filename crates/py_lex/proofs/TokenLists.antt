-- Tokens behind tokens.
use Rattle.std.proofs.Common.{◌≡◌, ℕ, zero, suc, ◌+◌, List, [], ◌∷◌, ◌++◌, refl, sym, ap, ◌∙◌, add-one, append_assoc}
use Rattle.std.specs.Prelude.{replicate}
use Rattle.py_token.specs.declared.token.Token.{Token}
use Rattle.py_token.specs.declared.token.TokenKind.{TokenKind}
use Rattle.py_token.specs.declared.token.TokenKind.TheVariants.{Name, Integer, Text, Word, Mark, FStart, FPart, FEnd, Newline, Indent, Dedent}
use Rattle.py_lex.specs.Steps.{token_at, text_behind, with_text, added, dedents}

replicate_behind : {X : Type 0} (n : ℕ) (x : X) → replicate n x ++ x ∷ [] ≡ x ∷ replicate n x
replicate_behind zero x = refl
replicate_behind (suc n) x = ap (λ xs. x ∷ xs) (replicate_behind n x)

pub dedents_more : (line n : ℕ) (xs : List Token) → (xs ++ dedents line n) ++ token_at line Dedent ∷ [] ≡ xs ++ dedents line (n + 1)
dedents_more line n xs = append_assoc xs (dedents line n) (token_at line Dedent ∷ []) ∙ ap (λ t. xs ++ t) (replicate_behind n (token_at line Dedent) ∙ sym (ap (λ k. dedents line k) (add-one n)))

pub with_text-append : (xs : List Token) (a : Token) (line : ℕ) (text : List ℕ) → with_text (xs ++ a ∷ []) line text ≡ xs ++ text_behind a.kind a line text
with_text-append [] a line text = refl
with_text-append (x ∷ []) a line text = refl
with_text-append (x ∷ y ∷ more) a line text = ap (λ t. x ∷ t) (with_text-append (y ∷ more) a line text)

pub added_other : (kind : TokenKind) (xs : List Token) (line : ℕ) → ((t : List ℕ) → kind ≡ Text t → ⊥) → added kind xs line ≡ xs ++ token_at line kind ∷ []
added_other (Name t) xs line = λ h. refl
added_other (Integer n) xs line = λ h. refl
added_other (Text t) xs line = λ h. absurd (h t refl)
added_other (Word k) xs line = λ h. refl
added_other (Mark m) xs line = λ h. refl
added_other FStart xs line = λ h. refl
added_other (FPart t) xs line = λ h. refl
added_other FEnd xs line = λ h. refl
added_other Newline xs line = λ h. refl
added_other Indent xs line = λ h. refl
added_other Dedent xs line = λ h. refl

pub behind_other : (kind : TokenKind) (a : Token) (line : ℕ) (text : List ℕ) → ((t : List ℕ) → kind ≡ Text t → ⊥) → text_behind kind a line text ≡ a ∷ token_at line (Text text) ∷ []
behind_other (Name t) a line text = λ h. refl
behind_other (Integer n) a line text = λ h. refl
behind_other (Text t) a line text = λ h. absurd (h t refl)
behind_other (Word k) a line text = λ h. refl
behind_other (Mark m) a line text = λ h. refl
behind_other FStart a line text = λ h. refl
behind_other (FPart t) a line text = λ h. refl
behind_other FEnd a line text = λ h. refl
behind_other Newline a line text = λ h. refl
behind_other Indent a line text = λ h. refl
behind_other Dedent a line text = λ h. refl
