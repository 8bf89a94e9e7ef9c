-- The variables that a new environment has. The names are those of SCons on POSIX; the values are this project's own.
use Rattle.std.specs.Prelude.{ℕ, List, [], ◌∷◌, ◌++◌, map, codes}
use Rattle.env_vars.specs.declared.value.EnvValue.TheVariants as value
use Rattle.env_vars.specs.Vars.{Var}

abbrev pub text_rows : List (List ℕ × List ℕ)
text_rows =
    (codes "CC", codes "cc")
    ∷ (codes "CXX", codes "c++")
    ∷ (codes "CCCOM", codes "$CC -o $TARGET -c $CFLAGS $CCFLAGS $_CCCOMCOM $SOURCES")
    ∷ (codes "CXXCOM", codes "$CXX -o $TARGET -c $CXXFLAGS $CCFLAGS $_CCCOMCOM $SOURCES")
    ∷ (codes "_CCCOMCOM", codes "$CPPFLAGS $_CPPDEFFLAGS $_CPPINCFLAGS")
    ∷ (codes "_CPPDEFFLAGS", codes "${_concat(CPPDEFPREFIX, CPPDEFINES, CPPDEFSUFFIX, __env__)}")
    ∷ (codes "_CPPINCFLAGS", codes "$( ${_concat(INCPREFIX, CPPPATH, INCSUFFIX, __env__, RDirs)} $)")
    ∷ (codes "_LIBDIRFLAGS", codes "$( ${_concat(LIBDIRPREFIX, LIBPATH, LIBDIRSUFFIX, __env__, RDirs)} $)")
    ∷ (codes "_LIBFLAGS", codes "${_concat(LIBLINKPREFIX, LIBS, LIBLINKSUFFIX, __env__)}")
    ∷ (codes "LINK", codes "$SMARTLINK")
    ∷ (codes "LINKCOM", codes "$LINK -o $TARGET $LINKFLAGS $SOURCES $_LIBDIRFLAGS $_LIBFLAGS")
    ∷ (codes "ARCOM", codes "$AR $ARFLAGS $TARGET $SOURCES")
    ∷ (codes "AR", codes "ar")
    ∷ (codes "RANLIB", codes "ranlib")
    ∷ (codes "RANLIBCOM", codes "$RANLIB $RANLIBFLAGS $TARGET")
    ∷ (codes "INCPREFIX", codes "-I")
    ∷ (codes "CPPDEFPREFIX", codes "-D")
    ∷ (codes "LIBLINKPREFIX", codes "-l")
    ∷ (codes "LIBDIRPREFIX", codes "-L")
    ∷ (codes "OBJSUFFIX", codes ".o")
    ∷ (codes "PROGSUFFIX", codes "")
    ∷ (codes "LIBPREFIX", codes "lib")
    ∷ (codes "LIBSUFFIX", codes ".a")
    ∷ []

abbrev pub word_rows : List (List ℕ × List (List ℕ))
word_rows =
    (codes "CCFLAGS", [])
    ∷ (codes "CFLAGS", [])
    ∷ (codes "CXXFLAGS", [])
    ∷ (codes "CPPFLAGS", [])
    ∷ (codes "LINKFLAGS", [])
    ∷ (codes "ARFLAGS", codes "rc" ∷ [])
    ∷ (codes "RANLIBFLAGS", [])
    ∷ []

abbrev pub list_rows : List (List ℕ)
list_rows = codes "CPPPATH" ∷ codes "CPPDEFINES" ∷ codes "LIBS" ∷ codes "LIBPATH" ∷ []

abbrev pub text_vars : List Var
text_vars = map (λ row. (row.0, value.Text row.1)) text_rows

abbrev pub word_vars : List Var
word_vars = map (λ row. (row.0, value.Words row.1)) word_rows

abbrev pub list_vars : List Var
list_vars = map (λ name. (name, value.List [])) list_rows

-- texts, word lists, lists
abbrev pub initial_vars : List Var
initial_vars = text_vars ++ (word_vars ++ list_vars)
