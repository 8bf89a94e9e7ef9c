-- Texts behind one another: sections 2.4.2 and 2.4.3 of the Python language reference. What is charged and limited is own:
-- a field costs what showing its value does, and the whole is charged once it is known how long it is.
use Rattle.std.specs.Prelude.{false, List, [], ◌∷◌, ◌++◌, ℕ, Ok}
use Rattle.py_tree.specs.Tree.{Tree, nil, cons, text, field}
use Rattle.py_heap.specs.declared.value.Value.{Value}
use Rattle.py_heap.specs.declared.value.Value.TheVariants as v
use Rattle.py_heap.specs.Heap.{Objects, text_at, with_text}
use Rattle.py_heap.specs.Given.{next_text}
use Rattle.py_heap.specs.Units.{Units}
use Rattle.py_compare.specs.Outcomes.{Outcome, then_by, new_text}
use Rattle.py_compare.specs.Showing.{show_of}

-- a field gives what `str` gives of its value, which costs no more than showing it
abbrev pub shown_field : Objects → Units → Value → Outcome
shown_field h u x = then_by (show_of h u x false) (λ s. Ok (next_text h, with_text h s.0, s.1))

-- the fields among some pieces
abbrev pub fields_of : Tree → Tree
fields_of (cons (field l t) ps) = cons (field l t) (fields_of ps)
fields_of (cons other ps) = fields_of ps
fields_of other = nil

abbrev pub text_of : Objects → Value → List ℕ
text_of h (v.Text id) = text_at h id.0
text_of h other = []

-- the characters of some pieces one after another, where the fields gave these values
abbrev pub characters_in : Objects → Tree → List Value → List ℕ
characters_in h (cons (field l t) ps) (x ∷ xs) = text_of h x ++ characters_in h ps xs
characters_in h (cons (field l t) ps) [] = characters_in h ps []
characters_in h (cons (text l t) ps) xs = t ++ characters_in h ps xs
characters_in h (cons other ps) xs = characters_in h ps xs
characters_in h other xs = []

abbrev pub joined_text : Objects → Units → Tree → List Value → Outcome
joined_text h u ps xs = new_text h u (characters_in h ps xs)
