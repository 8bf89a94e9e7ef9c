-- Operators and delimiters: sections 2.5 and 2.6 of the Python language reference, those of the subset and those that
-- the parser refuses.
use Rattle.std.specs.Prelude.{ℕ, nat_eq, List, [], ◌∷◌, Option, find}
use Rattle.std.specs.List.{starts_with}
use Rattle.py_token.specs.declared.mark.Mark.{Mark}
use Rattle.py_token.specs.declared.mark.Mark.TheVariants.{OpenParen, CloseParen, OpenBracket, CloseBracket, OpenBrace, CloseBrace, Comma, Colon, Dot, Semicolon, Assign, PlusAssign, MinusAssign, StarAssign, Equal, NotEqual, Less, LessEqual, Greater, GreaterEqual, Plus, Minus, Star, FloorDivide, Percent, Slash, Power, At, Bar, Ampersand, Caret, Tilde, ShiftLeft, ShiftRight, Arrow, Walrus}
use Rattle.py_token.specs.Marks.{mark_text}

-- those of two bytes, then those of one
abbrev pub marks : List Mark
marks =
    PlusAssign ∷ MinusAssign ∷ StarAssign ∷ Equal ∷ NotEqual ∷ LessEqual ∷ GreaterEqual ∷ FloorDivide ∷ Power ∷
    ShiftLeft ∷ ShiftRight ∷ Arrow ∷ Walrus ∷ OpenParen ∷ CloseParen ∷ OpenBracket ∷ CloseBracket ∷ OpenBrace ∷
    CloseBrace ∷ Comma ∷ Colon ∷ Dot ∷ Semicolon ∷ Assign ∷ Less ∷ Greater ∷ Plus ∷ Minus ∷ Star ∷ Percent ∷ Slash ∷
    At ∷ Bar ∷ Ampersand ∷ Caret ∷ Tilde ∷ []

-- the longest mark in front: the first of the list that the bytes begin with
abbrev pub mark_at : List ℕ → Option Mark
mark_at bytes = find (λ m. starts_with nat_eq bytes (mark_text m)) marks
