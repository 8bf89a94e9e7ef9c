-- The languages of sources.
use Rattle.std.specs.Prelude.{ℕ, List, Bool, is_some, ◌||◌, Option, Some, None, codes, if◌then◌else◌}
use Rattle.std.specs.Str.{bytes_eq}
use Rattle.scons_base.specs.Parts.{suffix_of}
use Rattle.scons_decls.specs.declared.language.Language.{Language}
use Rattle.scons_decls.specs.declared.language.Language.TheVariants.{C, CPlusPlus}

abbrev pub is_plus_plus : List ℕ → Bool
is_plus_plus suffix =
    bytes_eq suffix (codes ".C") || (bytes_eq suffix (codes ".cc") || (bytes_eq suffix (codes ".cpp") || bytes_eq suffix (codes ".cxx")))

-- the language of a suffix
abbrev pub spoken_by : List ℕ → Option Language
spoken_by suffix = if bytes_eq suffix (codes ".c") then Some C else (if is_plus_plus suffix then Some CPlusPlus else None)

-- the language of a source
abbrev pub language_of : List ℕ → Option Language
language_of path = spoken_by (suffix_of path)

-- a source that compilers take
abbrev pub is_compiled : List ℕ → Bool
is_compiled path = is_some (language_of path)
