-- The keywords of Python 3: section 2.3.1 of the language reference, "Keywords".
use Rattle.std.specs.Prelude.{ℕ, List, [], ◌∷◌, Option, nat_eq, codes, find}
use Rattle.std.specs.Cmp.Lexicographic.{pointwise}
use Rattle.py_token.specs.declared.keyword.Keyword.{Keyword}
use Rattle.py_token.specs.declared.keyword.Keyword.TheVariants.{FalseValue, NoneValue, TrueValue, And, As, Assert, Async, Await, Break, Class, Continue, Def, Del, Elif, Else, Except, Finally, For, From, Global, If, Import, In, Is, Lambda, Nonlocal, Not, Or, Pass, Raise, Return, Try, While, With, Yield}

abbrev pub word_of : Keyword → List ℕ
word_of FalseValue = codes "False"
word_of NoneValue = codes "None"
word_of TrueValue = codes "True"
word_of And = codes "and"
word_of As = codes "as"
word_of Assert = codes "assert"
word_of Async = codes "async"
word_of Await = codes "await"
word_of Break = codes "break"
word_of Class = codes "class"
word_of Continue = codes "continue"
word_of Def = codes "def"
word_of Del = codes "del"
word_of Elif = codes "elif"
word_of Else = codes "else"
word_of Except = codes "except"
word_of Finally = codes "finally"
word_of For = codes "for"
word_of From = codes "from"
word_of Global = codes "global"
word_of If = codes "if"
word_of Import = codes "import"
word_of In = codes "in"
word_of Is = codes "is"
word_of Lambda = codes "lambda"
word_of Nonlocal = codes "nonlocal"
word_of Not = codes "not"
word_of Or = codes "or"
word_of Pass = codes "pass"
word_of Raise = codes "raise"
word_of Return = codes "return"
word_of Try = codes "try"
word_of While = codes "while"
word_of With = codes "with"
word_of Yield = codes "yield"

abbrev pub keywords : List Keyword
keywords =
    FalseValue ∷ NoneValue ∷ TrueValue ∷ And ∷ As ∷ Assert ∷ Async ∷ Await ∷ Break ∷ Class ∷ Continue ∷
    Def ∷ Del ∷ Elif ∷ Else ∷ Except ∷ Finally ∷ For ∷ From ∷ Global ∷ If ∷ Import ∷ In ∷ Is ∷ Lambda ∷
    Nonlocal ∷ Not ∷ Or ∷ Pass ∷ Raise ∷ Return ∷ Try ∷ While ∷ With ∷ Yield ∷ []

-- the keyword that a name is
abbrev pub keyword_of : List ℕ → Option Keyword
keyword_of name = find (λ k. pointwise nat_eq (word_of k) name) keywords
