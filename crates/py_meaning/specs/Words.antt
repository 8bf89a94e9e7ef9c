-- The words of methods, and the name of what is called.
use Rattle.std.specs.Prelude.{◌≡◌, ℕ, List, [], ◌∷◌, Option, Some, None, codes, if◌then◌else◌}
use Rattle.std.specs.Str.{bytes_eq}
use Rattle.py_methods.specs.declared.name.Name.{Name}
use Rattle.py_methods.specs.declared.name.Name.TheVariants as name
use Rattle.py_meaning.specs.declared.fault.Called.{Called}
use Rattle.py_meaning.specs.declared.fault.Called.TheVariants as named
use Rattle.py_meaning.specs.Lookup.{builtin_named}

abbrev pub name_in : List (List ℕ × Name) → List ℕ → Option Name
name_in [] n = None
name_in (e ∷ es) n = if bytes_eq n e.0 then Some e.1 else name_in es n

abbrev pub text_words : List (List ℕ × Name)
text_words =
    (codes "split", name.Split) ∷ (codes "strip", name.Strip) ∷ (codes "lstrip", name.Lstrip)
    ∷ (codes "rstrip", name.Rstrip)
    ∷ (codes "startswith", name.Startswith) ∷ (codes "endswith", name.Endswith) ∷ (codes "replace", name.Replace)
    ∷ (codes "join", name.Join) ∷ (codes "find", name.Find) ∷ (codes "lower", name.Lower)
    ∷ (codes "upper", name.Upper) ∷ []

abbrev pub list_words : List (List ℕ × Name)
list_words =
    (codes "append", name.Append) ∷ (codes "extend", name.Extend) ∷ (codes "insert", name.Insert)
    ∷ (codes "pop", name.Pop) ∷ (codes "remove", name.Remove) ∷ (codes "index", name.Index)
    ∷ (codes "reverse", name.Reverse) ∷ (codes "sort", name.Sort) ∷ []

abbrev pub dict_words : List (List ℕ × Name)
dict_words =
    (codes "get", name.Get) ∷ (codes "keys", name.Keys) ∷ (codes "values", name.Values) ∷ (codes "items", name.Items)
    ∷ (codes "update", name.Update) ∷ (codes "setdefault", name.Setdefault) ∷ (codes "copy", name.Copy) ∷ []

abbrev or_next : Option Name → Option Name → Option Name
or_next (Some x) next = Some x
or_next None next = next

-- the method that a word names: of texts, lists or dicts
abbrev pub method_named : List ℕ → Option Name
method_named n = or_next (name_in text_words n) (or_next (name_in list_words n) (name_in dict_words n))

-- the name of what is called: of a function the one that its `def` has, else the word by which it is found
abbrev pub IsNameOf : Called → List ℕ → Type 0
IsNameOf (named.Function name) n = n ≡ name
IsNameOf (named.Builtin b) n = builtin_named n ≡ Some b
IsNameOf (named.Method m) n = method_named n ≡ Some m
