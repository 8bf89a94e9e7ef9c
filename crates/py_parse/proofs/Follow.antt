-- What may follow each part, so that one token ahead decides what is read.
use Rattle.std.proofs.Common.{◌≡◌, ℕ, List, [], ◌∷◌, Bool, true, false, ◌&&◌, ◌||◌, refl}
use Rattle.std.specs.Prelude.{not}
use Rattle.std.specs.List.{list_all}
use Rattle.py_token.specs.declared.keyword.Keyword.{Keyword}
use Rattle.py_token.specs.declared.keyword.Keyword.TheVariants as keyword'
use Rattle.py_token.specs.declared.mark.Mark.{Mark}
use Rattle.py_token.specs.declared.mark.Mark.TheVariants as mark'
use Rattle.py_token.specs.declared.token.Token.{Token}
use Rattle.py_token.specs.declared.token.TokenKind.{TokenKind}
use Rattle.py_token.specs.declared.token.TokenKind.TheVariants as kind'
use Rattle.py_parse.specs.declared.level.Level.TheVariants as level'
use Rattle.py_parse.specs.declared.terminal.Terminal.TheVariants as terminal'
use Rattle.py_parse.specs.Terminals.{Want, one, fits}
use Rattle.py_parse.specs.Grammar as g
use Rattle.py_parse.specs.Grammar.{Part}

abbrev pub any_fits : List Want → TokenKind → Bool
any_fits [] k = false
any_fits (w ∷ ws) k = fits w k || any_fits ws k

abbrev pub blocked : List Want → List Token → Bool
blocked ws [] = false
blocked ws (x ∷ ts) = any_fits ws x.kind

abbrev all_words : List Keyword
all_words = keyword'.FalseValue ∷ keyword'.NoneValue ∷ keyword'.TrueValue ∷ keyword'.And ∷ keyword'.As ∷ keyword'.Assert ∷ keyword'.Async ∷ keyword'.Await ∷ keyword'.Break ∷ keyword'.Class ∷ keyword'.Continue ∷ keyword'.Def ∷ keyword'.Del ∷ keyword'.Elif ∷ keyword'.Else ∷ keyword'.Except ∷ keyword'.Finally ∷ keyword'.For ∷ keyword'.From ∷ keyword'.Global ∷ keyword'.If ∷ keyword'.Import ∷ keyword'.In ∷ keyword'.Is ∷ keyword'.Lambda ∷ keyword'.Nonlocal ∷ keyword'.Not ∷ keyword'.Or ∷ keyword'.Pass ∷ keyword'.Raise ∷ keyword'.Return ∷ keyword'.Try ∷ keyword'.While ∷ keyword'.With ∷ keyword'.Yield ∷ []

abbrev all_marks : List Mark
all_marks = mark'.OpenParen ∷ mark'.CloseParen ∷ mark'.OpenBracket ∷ mark'.CloseBracket ∷ mark'.OpenBrace ∷ mark'.CloseBrace ∷ mark'.Comma ∷ mark'.Colon ∷ mark'.Dot ∷ mark'.Semicolon ∷ mark'.Assign ∷ mark'.PlusAssign ∷ mark'.MinusAssign ∷ mark'.StarAssign ∷ mark'.Equal ∷ mark'.NotEqual ∷ mark'.Less ∷ mark'.LessEqual ∷ mark'.Greater ∷ mark'.GreaterEqual ∷ mark'.Plus ∷ mark'.Minus ∷ mark'.Star ∷ mark'.FloorDivide ∷ mark'.Percent ∷ mark'.Slash ∷ mark'.Power ∷ mark'.At ∷ mark'.Bar ∷ mark'.Ampersand ∷ mark'.Caret ∷ mark'.Tilde ∷ mark'.ShiftLeft ∷ mark'.ShiftRight ∷ mark'.Arrow ∷ mark'.Walrus ∷ []

both_first : (a b : Bool) → (a && b) ≡ true → a ≡ true
both_first true b h = refl
both_first false b h = h

both_second : (a b : Bool) → (a && b) ≡ true → b ≡ true
both_second true b h = h
both_second false b h = cc

data Among_words : Keyword → List Keyword → Type 0 where
  here_words : {x : Keyword} {xs : List Keyword} → Among_words x (x ∷ xs)
  there_words : {x y : Keyword} {xs : List Keyword} → Among_words x xs → Among_words x (y ∷ xs)

every_word_in : (P : Keyword → Bool) (xs : List Keyword) (x : Keyword) → list_all P xs ≡ true → Among_words x xs → P x ≡ true
every_word_in P [] x h a = elim a [ ]
every_word_in P (y ∷ ys) x h here_words = both_first (P y) (list_all P ys) h
every_word_in P (y ∷ ys) x h (there_words a) = every_word_in P ys x (both_second (P y) (list_all P ys) h) a

place_words : (x : Keyword) → Among_words x all_words
place_words keyword'.FalseValue = here_words
place_words keyword'.NoneValue = (there_words here_words)
place_words keyword'.TrueValue = (there_words (there_words here_words))
place_words keyword'.And = (there_words (there_words (there_words here_words)))
place_words keyword'.As = (there_words (there_words (there_words (there_words here_words))))
place_words keyword'.Assert = (there_words (there_words (there_words (there_words (there_words here_words)))))
place_words keyword'.Async = (there_words (there_words (there_words (there_words (there_words (there_words here_words))))))
place_words keyword'.Await = (there_words (there_words (there_words (there_words (there_words (there_words (there_words here_words)))))))
place_words keyword'.Break = (there_words (there_words (there_words (there_words (there_words (there_words (there_words (there_words here_words))))))))
place_words keyword'.Class = (there_words (there_words (there_words (there_words (there_words (there_words (there_words (there_words (there_words here_words)))))))))
place_words keyword'.Continue = (there_words (there_words (there_words (there_words (there_words (there_words (there_words (there_words (there_words (there_words here_words))))))))))
place_words keyword'.Def = (there_words (there_words (there_words (there_words (there_words (there_words (there_words (there_words (there_words (there_words (there_words here_words)))))))))))
place_words keyword'.Del = (there_words (there_words (there_words (there_words (there_words (there_words (there_words (there_words (there_words (there_words (there_words (there_words here_words))))))))))))
place_words keyword'.Elif = (there_words (there_words (there_words (there_words (there_words (there_words (there_words (there_words (there_words (there_words (there_words (there_words (there_words here_words)))))))))))))
place_words keyword'.Else = (there_words (there_words (there_words (there_words (there_words (there_words (there_words (there_words (there_words (there_words (there_words (there_words (there_words (there_words here_words))))))))))))))
place_words keyword'.Except = (there_words (there_words (there_words (there_words (there_words (there_words (there_words (there_words (there_words (there_words (there_words (there_words (there_words (there_words (there_words here_words)))))))))))))))
place_words keyword'.Finally = (there_words (there_words (there_words (there_words (there_words (there_words (there_words (there_words (there_words (there_words (there_words (there_words (there_words (there_words (there_words (there_words here_words))))))))))))))))
place_words keyword'.For = (there_words (there_words (there_words (there_words (there_words (there_words (there_words (there_words (there_words (there_words (there_words (there_words (there_words (there_words (there_words (there_words (there_words here_words)))))))))))))))))
place_words keyword'.From = (there_words (there_words (there_words (there_words (there_words (there_words (there_words (there_words (there_words (there_words (there_words (there_words (there_words (there_words (there_words (there_words (there_words (there_words here_words))))))))))))))))))
place_words keyword'.Global = (there_words (there_words (there_words (there_words (there_words (there_words (there_words (there_words (there_words (there_words (there_words (there_words (there_words (there_words (there_words (there_words (there_words (there_words (there_words here_words)))))))))))))))))))
place_words keyword'.If = (there_words (there_words (there_words (there_words (there_words (there_words (there_words (there_words (there_words (there_words (there_words (there_words (there_words (there_words (there_words (there_words (there_words (there_words (there_words (there_words here_words))))))))))))))))))))
place_words keyword'.Import = (there_words (there_words (there_words (there_words (there_words (there_words (there_words (there_words (there_words (there_words (there_words (there_words (there_words (there_words (there_words (there_words (there_words (there_words (there_words (there_words (there_words here_words)))))))))))))))))))))
place_words keyword'.In = (there_words (there_words (there_words (there_words (there_words (there_words (there_words (there_words (there_words (there_words (there_words (there_words (there_words (there_words (there_words (there_words (there_words (there_words (there_words (there_words (there_words (there_words here_words))))))))))))))))))))))
place_words keyword'.Is = (there_words (there_words (there_words (there_words (there_words (there_words (there_words (there_words (there_words (there_words (there_words (there_words (there_words (there_words (there_words (there_words (there_words (there_words (there_words (there_words (there_words (there_words (there_words here_words)))))))))))))))))))))))
place_words keyword'.Lambda = (there_words (there_words (there_words (there_words (there_words (there_words (there_words (there_words (there_words (there_words (there_words (there_words (there_words (there_words (there_words (there_words (there_words (there_words (there_words (there_words (there_words (there_words (there_words (there_words here_words))))))))))))))))))))))))
place_words keyword'.Nonlocal = (there_words (there_words (there_words (there_words (there_words (there_words (there_words (there_words (there_words (there_words (there_words (there_words (there_words (there_words (there_words (there_words (there_words (there_words (there_words (there_words (there_words (there_words (there_words (there_words (there_words here_words)))))))))))))))))))))))))
place_words keyword'.Not = (there_words (there_words (there_words (there_words (there_words (there_words (there_words (there_words (there_words (there_words (there_words (there_words (there_words (there_words (there_words (there_words (there_words (there_words (there_words (there_words (there_words (there_words (there_words (there_words (there_words (there_words here_words))))))))))))))))))))))))))
place_words keyword'.Or = (there_words (there_words (there_words (there_words (there_words (there_words (there_words (there_words (there_words (there_words (there_words (there_words (there_words (there_words (there_words (there_words (there_words (there_words (there_words (there_words (there_words (there_words (there_words (there_words (there_words (there_words (there_words here_words)))))))))))))))))))))))))))
place_words keyword'.Pass = (there_words (there_words (there_words (there_words (there_words (there_words (there_words (there_words (there_words (there_words (there_words (there_words (there_words (there_words (there_words (there_words (there_words (there_words (there_words (there_words (there_words (there_words (there_words (there_words (there_words (there_words (there_words (there_words here_words))))))))))))))))))))))))))))
place_words keyword'.Raise = (there_words (there_words (there_words (there_words (there_words (there_words (there_words (there_words (there_words (there_words (there_words (there_words (there_words (there_words (there_words (there_words (there_words (there_words (there_words (there_words (there_words (there_words (there_words (there_words (there_words (there_words (there_words (there_words (there_words here_words)))))))))))))))))))))))))))))
place_words keyword'.Return = (there_words (there_words (there_words (there_words (there_words (there_words (there_words (there_words (there_words (there_words (there_words (there_words (there_words (there_words (there_words (there_words (there_words (there_words (there_words (there_words (there_words (there_words (there_words (there_words (there_words (there_words (there_words (there_words (there_words (there_words here_words))))))))))))))))))))))))))))))
place_words keyword'.Try = (there_words (there_words (there_words (there_words (there_words (there_words (there_words (there_words (there_words (there_words (there_words (there_words (there_words (there_words (there_words (there_words (there_words (there_words (there_words (there_words (there_words (there_words (there_words (there_words (there_words (there_words (there_words (there_words (there_words (there_words (there_words here_words)))))))))))))))))))))))))))))))
place_words keyword'.While = (there_words (there_words (there_words (there_words (there_words (there_words (there_words (there_words (there_words (there_words (there_words (there_words (there_words (there_words (there_words (there_words (there_words (there_words (there_words (there_words (there_words (there_words (there_words (there_words (there_words (there_words (there_words (there_words (there_words (there_words (there_words (there_words here_words))))))))))))))))))))))))))))))))
place_words keyword'.With = (there_words (there_words (there_words (there_words (there_words (there_words (there_words (there_words (there_words (there_words (there_words (there_words (there_words (there_words (there_words (there_words (there_words (there_words (there_words (there_words (there_words (there_words (there_words (there_words (there_words (there_words (there_words (there_words (there_words (there_words (there_words (there_words (there_words here_words)))))))))))))))))))))))))))))))))
place_words keyword'.Yield = (there_words (there_words (there_words (there_words (there_words (there_words (there_words (there_words (there_words (there_words (there_words (there_words (there_words (there_words (there_words (there_words (there_words (there_words (there_words (there_words (there_words (there_words (there_words (there_words (there_words (there_words (there_words (there_words (there_words (there_words (there_words (there_words (there_words (there_words here_words))))))))))))))))))))))))))))))))))

every_word : (P : Keyword → Bool) → list_all P all_words ≡ true → (x : Keyword) → P x ≡ true
every_word P h x = every_word_in P all_words x h (place_words x)

data Among_marks : Mark → List Mark → Type 0 where
  here_marks : {x : Mark} {xs : List Mark} → Among_marks x (x ∷ xs)
  there_marks : {x y : Mark} {xs : List Mark} → Among_marks x xs → Among_marks x (y ∷ xs)

every_mark_in : (P : Mark → Bool) (xs : List Mark) (x : Mark) → list_all P xs ≡ true → Among_marks x xs → P x ≡ true
every_mark_in P [] x h a = elim a [ ]
every_mark_in P (y ∷ ys) x h here_marks = both_first (P y) (list_all P ys) h
every_mark_in P (y ∷ ys) x h (there_marks a) = every_mark_in P ys x (both_second (P y) (list_all P ys) h) a

place_marks : (x : Mark) → Among_marks x all_marks
place_marks mark'.OpenParen = here_marks
place_marks mark'.CloseParen = (there_marks here_marks)
place_marks mark'.OpenBracket = (there_marks (there_marks here_marks))
place_marks mark'.CloseBracket = (there_marks (there_marks (there_marks here_marks)))
place_marks mark'.OpenBrace = (there_marks (there_marks (there_marks (there_marks here_marks))))
place_marks mark'.CloseBrace = (there_marks (there_marks (there_marks (there_marks (there_marks here_marks)))))
place_marks mark'.Comma = (there_marks (there_marks (there_marks (there_marks (there_marks (there_marks here_marks))))))
place_marks mark'.Colon = (there_marks (there_marks (there_marks (there_marks (there_marks (there_marks (there_marks here_marks)))))))
place_marks mark'.Dot = (there_marks (there_marks (there_marks (there_marks (there_marks (there_marks (there_marks (there_marks here_marks))))))))
place_marks mark'.Semicolon = (there_marks (there_marks (there_marks (there_marks (there_marks (there_marks (there_marks (there_marks (there_marks here_marks)))))))))
place_marks mark'.Assign = (there_marks (there_marks (there_marks (there_marks (there_marks (there_marks (there_marks (there_marks (there_marks (there_marks here_marks))))))))))
place_marks mark'.PlusAssign = (there_marks (there_marks (there_marks (there_marks (there_marks (there_marks (there_marks (there_marks (there_marks (there_marks (there_marks here_marks)))))))))))
place_marks mark'.MinusAssign = (there_marks (there_marks (there_marks (there_marks (there_marks (there_marks (there_marks (there_marks (there_marks (there_marks (there_marks (there_marks here_marks))))))))))))
place_marks mark'.StarAssign = (there_marks (there_marks (there_marks (there_marks (there_marks (there_marks (there_marks (there_marks (there_marks (there_marks (there_marks (there_marks (there_marks here_marks)))))))))))))
place_marks mark'.Equal = (there_marks (there_marks (there_marks (there_marks (there_marks (there_marks (there_marks (there_marks (there_marks (there_marks (there_marks (there_marks (there_marks (there_marks here_marks))))))))))))))
place_marks mark'.NotEqual = (there_marks (there_marks (there_marks (there_marks (there_marks (there_marks (there_marks (there_marks (there_marks (there_marks (there_marks (there_marks (there_marks (there_marks (there_marks here_marks)))))))))))))))
place_marks mark'.Less = (there_marks (there_marks (there_marks (there_marks (there_marks (there_marks (there_marks (there_marks (there_marks (there_marks (there_marks (there_marks (there_marks (there_marks (there_marks (there_marks here_marks))))))))))))))))
place_marks mark'.LessEqual = (there_marks (there_marks (there_marks (there_marks (there_marks (there_marks (there_marks (there_marks (there_marks (there_marks (there_marks (there_marks (there_marks (there_marks (there_marks (there_marks (there_marks here_marks)))))))))))))))))
place_marks mark'.Greater = (there_marks (there_marks (there_marks (there_marks (there_marks (there_marks (there_marks (there_marks (there_marks (there_marks (there_marks (there_marks (there_marks (there_marks (there_marks (there_marks (there_marks (there_marks here_marks))))))))))))))))))
place_marks mark'.GreaterEqual = (there_marks (there_marks (there_marks (there_marks (there_marks (there_marks (there_marks (there_marks (there_marks (there_marks (there_marks (there_marks (there_marks (there_marks (there_marks (there_marks (there_marks (there_marks (there_marks here_marks)))))))))))))))))))
place_marks mark'.Plus = (there_marks (there_marks (there_marks (there_marks (there_marks (there_marks (there_marks (there_marks (there_marks (there_marks (there_marks (there_marks (there_marks (there_marks (there_marks (there_marks (there_marks (there_marks (there_marks (there_marks here_marks))))))))))))))))))))
place_marks mark'.Minus = (there_marks (there_marks (there_marks (there_marks (there_marks (there_marks (there_marks (there_marks (there_marks (there_marks (there_marks (there_marks (there_marks (there_marks (there_marks (there_marks (there_marks (there_marks (there_marks (there_marks (there_marks here_marks)))))))))))))))))))))
place_marks mark'.Star = (there_marks (there_marks (there_marks (there_marks (there_marks (there_marks (there_marks (there_marks (there_marks (there_marks (there_marks (there_marks (there_marks (there_marks (there_marks (there_marks (there_marks (there_marks (there_marks (there_marks (there_marks (there_marks here_marks))))))))))))))))))))))
place_marks mark'.FloorDivide = (there_marks (there_marks (there_marks (there_marks (there_marks (there_marks (there_marks (there_marks (there_marks (there_marks (there_marks (there_marks (there_marks (there_marks (there_marks (there_marks (there_marks (there_marks (there_marks (there_marks (there_marks (there_marks (there_marks here_marks)))))))))))))))))))))))
place_marks mark'.Percent = (there_marks (there_marks (there_marks (there_marks (there_marks (there_marks (there_marks (there_marks (there_marks (there_marks (there_marks (there_marks (there_marks (there_marks (there_marks (there_marks (there_marks (there_marks (there_marks (there_marks (there_marks (there_marks (there_marks (there_marks here_marks))))))))))))))))))))))))
place_marks mark'.Slash = (there_marks (there_marks (there_marks (there_marks (there_marks (there_marks (there_marks (there_marks (there_marks (there_marks (there_marks (there_marks (there_marks (there_marks (there_marks (there_marks (there_marks (there_marks (there_marks (there_marks (there_marks (there_marks (there_marks (there_marks (there_marks here_marks)))))))))))))))))))))))))
place_marks mark'.Power = (there_marks (there_marks (there_marks (there_marks (there_marks (there_marks (there_marks (there_marks (there_marks (there_marks (there_marks (there_marks (there_marks (there_marks (there_marks (there_marks (there_marks (there_marks (there_marks (there_marks (there_marks (there_marks (there_marks (there_marks (there_marks (there_marks here_marks))))))))))))))))))))))))))
place_marks mark'.At = (there_marks (there_marks (there_marks (there_marks (there_marks (there_marks (there_marks (there_marks (there_marks (there_marks (there_marks (there_marks (there_marks (there_marks (there_marks (there_marks (there_marks (there_marks (there_marks (there_marks (there_marks (there_marks (there_marks (there_marks (there_marks (there_marks (there_marks here_marks)))))))))))))))))))))))))))
place_marks mark'.Bar = (there_marks (there_marks (there_marks (there_marks (there_marks (there_marks (there_marks (there_marks (there_marks (there_marks (there_marks (there_marks (there_marks (there_marks (there_marks (there_marks (there_marks (there_marks (there_marks (there_marks (there_marks (there_marks (there_marks (there_marks (there_marks (there_marks (there_marks (there_marks here_marks))))))))))))))))))))))))))))
place_marks mark'.Ampersand = (there_marks (there_marks (there_marks (there_marks (there_marks (there_marks (there_marks (there_marks (there_marks (there_marks (there_marks (there_marks (there_marks (there_marks (there_marks (there_marks (there_marks (there_marks (there_marks (there_marks (there_marks (there_marks (there_marks (there_marks (there_marks (there_marks (there_marks (there_marks (there_marks here_marks)))))))))))))))))))))))))))))
place_marks mark'.Caret = (there_marks (there_marks (there_marks (there_marks (there_marks (there_marks (there_marks (there_marks (there_marks (there_marks (there_marks (there_marks (there_marks (there_marks (there_marks (there_marks (there_marks (there_marks (there_marks (there_marks (there_marks (there_marks (there_marks (there_marks (there_marks (there_marks (there_marks (there_marks (there_marks (there_marks here_marks))))))))))))))))))))))))))))))
place_marks mark'.Tilde = (there_marks (there_marks (there_marks (there_marks (there_marks (there_marks (there_marks (there_marks (there_marks (there_marks (there_marks (there_marks (there_marks (there_marks (there_marks (there_marks (there_marks (there_marks (there_marks (there_marks (there_marks (there_marks (there_marks (there_marks (there_marks (there_marks (there_marks (there_marks (there_marks (there_marks (there_marks here_marks)))))))))))))))))))))))))))))))
place_marks mark'.ShiftLeft = (there_marks (there_marks (there_marks (there_marks (there_marks (there_marks (there_marks (there_marks (there_marks (there_marks (there_marks (there_marks (there_marks (there_marks (there_marks (there_marks (there_marks (there_marks (there_marks (there_marks (there_marks (there_marks (there_marks (there_marks (there_marks (there_marks (there_marks (there_marks (there_marks (there_marks (there_marks (there_marks here_marks))))))))))))))))))))))))))))))))
place_marks mark'.ShiftRight = (there_marks (there_marks (there_marks (there_marks (there_marks (there_marks (there_marks (there_marks (there_marks (there_marks (there_marks (there_marks (there_marks (there_marks (there_marks (there_marks (there_marks (there_marks (there_marks (there_marks (there_marks (there_marks (there_marks (there_marks (there_marks (there_marks (there_marks (there_marks (there_marks (there_marks (there_marks (there_marks (there_marks here_marks)))))))))))))))))))))))))))))))))
place_marks mark'.Arrow = (there_marks (there_marks (there_marks (there_marks (there_marks (there_marks (there_marks (there_marks (there_marks (there_marks (there_marks (there_marks (there_marks (there_marks (there_marks (there_marks (there_marks (there_marks (there_marks (there_marks (there_marks (there_marks (there_marks (there_marks (there_marks (there_marks (there_marks (there_marks (there_marks (there_marks (there_marks (there_marks (there_marks (there_marks here_marks))))))))))))))))))))))))))))))))))
place_marks mark'.Walrus = (there_marks (there_marks (there_marks (there_marks (there_marks (there_marks (there_marks (there_marks (there_marks (there_marks (there_marks (there_marks (there_marks (there_marks (there_marks (there_marks (there_marks (there_marks (there_marks (there_marks (there_marks (there_marks (there_marks (there_marks (there_marks (there_marks (there_marks (there_marks (there_marks (there_marks (there_marks (there_marks (there_marks (there_marks (there_marks here_marks)))))))))))))))))))))))))))))))))))

every_mark : (P : Mark → Bool) → list_all P all_marks ≡ true → (x : Mark) → P x ≡ true
every_mark P h x = every_mark_in P all_marks x h (place_marks x)

-- a test that holds of every kind of token
pub every_kind : (P : TokenKind → Bool) → list_all (λ w. P (kind'.Word w)) all_words ≡ true → list_all (λ m. P (kind'.Mark m)) all_marks ≡ true →
    ((n : List ℕ) → P (kind'.Name n) ≡ true) → ((n : ℕ) → P (kind'.Integer n) ≡ true) → ((t : List ℕ) → P (kind'.Text t) ≡ true) →
    P kind'.FStart ≡ true → ((t : List ℕ) → P (kind'.FPart t) ≡ true) → P kind'.FEnd ≡ true →
    P kind'.Newline ≡ true → P kind'.Indent ≡ true → P kind'.Dedent ≡ true → (k : TokenKind) → P k ≡ true
every_kind P w m n i t fs fp fe nl ind ded (kind'.Name x) = n x
every_kind P w m n i t fs fp fe nl ind ded (kind'.Integer x) = i x
every_kind P w m n i t fs fp fe nl ind ded (kind'.Text x) = t x
every_kind P w m n i t fs fp fe nl ind ded (kind'.Word x) = every_word (λ v. P (kind'.Word v)) w x
every_kind P w m n i t fs fp fe nl ind ded (kind'.Mark x) = every_mark (λ v. P (kind'.Mark v)) m x
every_kind P w m n i t fs fp fe nl ind ded kind'.FStart = fs
every_kind P w m n i t fs fp fe nl ind ded (kind'.FPart x) = fp x
every_kind P w m n i t fs fp fe nl ind ded kind'.FEnd = fe
every_kind P w m n i t fs fp fe nl ind ded kind'.Newline = nl
every_kind P w m n i t fs fp fe nl ind ded kind'.Indent = ind
every_kind P w m n i t fs fp fe nl ind ded kind'.Dedent = ded

abbrev pub excludes : List Want → List Want → TokenKind → Bool
excludes fs ss k = not (any_fits fs k && any_fits ss k)

abbrev pub covers : List Want → List Want → TokenKind → Bool
covers ss ts k = any_fits ss k || not (any_fits ts k)

pub excluded : (a b : Bool) → not (a && b) ≡ true → a ≡ true → b ≡ false
excluded true true h e = cc
excluded false true h e = cc
excluded a false h e = refl

pub covered : (a b : Bool) → (a || not b) ≡ true → a ≡ false → b ≡ false
covered true b h e = cc
covered false true h e = cc
covered false false h e = refl

abbrev pub s_free : List Want
s_free = []

abbrev pub s_pieces : List Want
s_pieces = (one terminal'.Text) ∷ (one terminal'.FStart) ∷ []

abbrev pub s_atom : List Want
s_atom = (one terminal'.Link) ∷ (one terminal'.Text) ∷ (one terminal'.FStart) ∷ []

abbrev pub s_product : List Want
s_product = (one (terminal'.Operator level'.Product)) ∷ (one terminal'.Link) ∷ (one terminal'.Text) ∷ (one terminal'.FStart) ∷ []

abbrev pub s_sum : List Want
s_sum = (one (terminal'.Operator level'.Sum)) ∷ (one (terminal'.Operator level'.Product)) ∷ (one terminal'.Link) ∷ (one terminal'.Text) ∷ (one terminal'.FStart) ∷ []

abbrev pub s_cmp : List Want
s_cmp = (one terminal'.Comparison) ∷ (g.keyword keyword'.Not) ∷ (g.keyword keyword'.Is) ∷ (one (terminal'.Operator level'.Sum)) ∷ (one (terminal'.Operator level'.Product)) ∷ (one terminal'.Link) ∷ (one terminal'.Text) ∷ (one terminal'.FStart) ∷ []

abbrev pub s_and : List Want
s_and = (one (terminal'.Operator level'.And)) ∷ (one terminal'.Comparison) ∷ (g.keyword keyword'.Not) ∷ (g.keyword keyword'.Is) ∷ (one (terminal'.Operator level'.Sum)) ∷ (one (terminal'.Operator level'.Product)) ∷ (one terminal'.Link) ∷ (one terminal'.Text) ∷ (one terminal'.FStart) ∷ []

abbrev pub s_plain : List Want
s_plain = (one (terminal'.Operator level'.Or)) ∷ (one (terminal'.Operator level'.And)) ∷ (one terminal'.Comparison) ∷ (g.keyword keyword'.Not) ∷ (g.keyword keyword'.Is) ∷ (one (terminal'.Operator level'.Sum)) ∷ (one (terminal'.Operator level'.Product)) ∷ (one terminal'.Link) ∷ (one terminal'.Text) ∷ (one terminal'.FStart) ∷ []

abbrev pub s_expr : List Want
s_expr = (g.keyword keyword'.If) ∷ (one (terminal'.Operator level'.Or)) ∷ (one (terminal'.Operator level'.And)) ∷ (one terminal'.Comparison) ∷ (g.keyword keyword'.Not) ∷ (g.keyword keyword'.Is) ∷ (one (terminal'.Operator level'.Sum)) ∷ (one (terminal'.Operator level'.Product)) ∷ (one terminal'.Link) ∷ (one terminal'.Text) ∷ (one terminal'.FStart) ∷ []

abbrev pub s_items : List Want
s_items = (g.mark mark'.Comma) ∷ (one terminal'.Expression) ∷ (g.keyword keyword'.If) ∷ (one (terminal'.Operator level'.Or)) ∷ (one (terminal'.Operator level'.And)) ∷ (one terminal'.Comparison) ∷ (g.keyword keyword'.Not) ∷ (g.keyword keyword'.Is) ∷ (one (terminal'.Operator level'.Sum)) ∷ (one (terminal'.Operator level'.Product)) ∷ (one terminal'.Link) ∷ (one terminal'.Text) ∷ (one terminal'.FStart) ∷ []

abbrev pub s_args : List Want
s_args = (g.mark mark'.Assign) ∷ (g.mark mark'.Comma) ∷ (one terminal'.Expression) ∷ (g.keyword keyword'.If) ∷ (one (terminal'.Operator level'.Or)) ∷ (one (terminal'.Operator level'.And)) ∷ (one terminal'.Comparison) ∷ (g.keyword keyword'.Not) ∷ (g.keyword keyword'.Is) ∷ (one (terminal'.Operator level'.Sum)) ∷ (one (terminal'.Operator level'.Product)) ∷ (one terminal'.Link) ∷ (one terminal'.Text) ∷ (one terminal'.FStart) ∷ []

abbrev pub s_names : List Want
s_names = (g.mark mark'.Comma) ∷ []

abbrev pub s_tests : List Want
s_tests = (g.keyword keyword'.If) ∷ (one (terminal'.Operator level'.Or)) ∷ (one (terminal'.Operator level'.And)) ∷ (one terminal'.Comparison) ∷ (g.keyword keyword'.Not) ∷ (g.keyword keyword'.Is) ∷ (one (terminal'.Operator level'.Sum)) ∷ (one (terminal'.Operator level'.Product)) ∷ (one terminal'.Link) ∷ (one terminal'.Text) ∷ (one terminal'.FStart) ∷ []

abbrev pub s_upper : List Want
s_upper = (one terminal'.Expression) ∷ (g.keyword keyword'.If) ∷ (one (terminal'.Operator level'.Or)) ∷ (one (terminal'.Operator level'.And)) ∷ (one terminal'.Comparison) ∷ (g.keyword keyword'.Not) ∷ (g.keyword keyword'.Is) ∷ (one (terminal'.Operator level'.Sum)) ∷ (one (terminal'.Operator level'.Product)) ∷ (one terminal'.Link) ∷ (one terminal'.Text) ∷ (one terminal'.FStart) ∷ []

abbrev pub s_small : List Want
s_small = (g.mark mark'.Assign) ∷ (one terminal'.Augment) ∷ (g.mark mark'.Comma) ∷ (one terminal'.Expression) ∷ (g.keyword keyword'.If) ∷ (one (terminal'.Operator level'.Or)) ∷ (one (terminal'.Operator level'.And)) ∷ (one terminal'.Comparison) ∷ (g.keyword keyword'.Not) ∷ (g.keyword keyword'.Is) ∷ (one (terminal'.Operator level'.Sum)) ∷ (one (terminal'.Operator level'.Product)) ∷ (one terminal'.Link) ∷ (one terminal'.Text) ∷ (one terminal'.FStart) ∷ []

abbrev pub s_line : List Want
s_line = (g.keyword keyword'.Elif) ∷ (g.keyword keyword'.Else) ∷ []

abbrev pub s_script : List Want
s_script = (one terminal'.Any) ∷ []

abbrev pub f_atom : List Want
f_atom = (one terminal'.Bracket) ∷ (one terminal'.Text) ∷ (one terminal'.FStart) ∷ (one terminal'.Leaf) ∷ []

abbrev pub f_unary : List Want
f_unary = (g.mark mark'.Minus) ∷ (one terminal'.Bracket) ∷ (one terminal'.Text) ∷ (one terminal'.FStart) ∷ (one terminal'.Leaf) ∷ []

abbrev pub f_neg : List Want
f_neg = (g.keyword keyword'.Not) ∷ (g.mark mark'.Minus) ∷ (one terminal'.Bracket) ∷ (one terminal'.Text) ∷ (one terminal'.FStart) ∷ (one terminal'.Leaf) ∷ []

abbrev pub f_small : List Want
f_small = (g.keyword keyword'.Pass) ∷ (g.keyword keyword'.From) ∷ (g.keyword keyword'.Break) ∷ (g.keyword keyword'.Continue) ∷ (g.keyword keyword'.Return) ∷ (g.keyword keyword'.Not) ∷ (g.mark mark'.Minus) ∷ (one terminal'.Bracket) ∷ (one terminal'.Text) ∷ (one terminal'.FStart) ∷ (one terminal'.Leaf) ∷ []

abbrev pub f_line : List Want
f_line = (g.keyword keyword'.If) ∷ (g.keyword keyword'.For) ∷ (g.keyword keyword'.While) ∷ (g.keyword keyword'.Def) ∷ (g.keyword keyword'.Pass) ∷ (g.keyword keyword'.From) ∷ (g.keyword keyword'.Break) ∷ (g.keyword keyword'.Continue) ∷ (g.keyword keyword'.Return) ∷ (g.keyword keyword'.Not) ∷ (g.mark mark'.Minus) ∷ (one terminal'.Bracket) ∷ (one terminal'.Text) ∷ (one terminal'.FStart) ∷ (one terminal'.Leaf) ∷ []
