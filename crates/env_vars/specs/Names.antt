-- The variables whose values have a form of their own.
use Rattle.std.specs.Prelude.{ℕ, Bool, List, [], ◌∷◌, codes}
use Rattle.std.specs.List.{list_any}
use Rattle.std.specs.Str.{bytes_eq}

-- the variables that hold word lists
abbrev pub word_variables : List (List ℕ)
word_variables = codes "CCFLAGS" ∷ codes "CFLAGS" ∷ codes "CXXFLAGS" ∷ codes "CPPFLAGS" ∷ codes "LINKFLAGS" ∷ codes "ARFLAGS" ∷ codes "RANLIBFLAGS" ∷ []

-- the variables that hold lists
abbrev pub list_variables : List (List ℕ)
list_variables = codes "CPPPATH" ∷ codes "CPPDEFINES" ∷ codes "LIBS" ∷ codes "LIBPATH" ∷ []

-- the variables that a new environment of SCons doesn't have yet: here they are there from the start, with no item
abbrev pub late_variables : List (List ℕ)
late_variables = codes "CPPFLAGS" ∷ list_variables

-- whether the name is among these
abbrev pub is_among : List (List ℕ) → List ℕ → Bool
is_among names name = list_any (λ n. bytes_eq n name) names

abbrev pub is_word_variable : List ℕ → Bool
is_word_variable name = is_among word_variables name

abbrev pub is_list_variable : List ℕ → Bool
is_list_variable name = is_among list_variables name

abbrev pub is_late_variable : List ℕ → Bool
is_late_variable name = is_among late_variables name

-- CPPDEFINES takes a dict as its pairs
abbrev pub takes_dict : List ℕ → Bool
takes_dict name = bytes_eq name (codes "CPPDEFINES")
