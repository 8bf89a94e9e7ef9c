-- The prefixes and suffixes that builders put round a name.
use Rattle.std.specs.Prelude.{ℕ, ◌==◌, ◌-◌, ◌&&◌, ◌||◌, not, length, take, List, [], ◌∷◌, ◌++◌, Bool, false, Result, Ok, Err, if◌then◌else◌}
use Rattle.std.specs.List.{list_all, starts_with, ends_with}
use Rattle.std.specs.Char.{is_ascii_digit}
use Rattle.std.specs.Prelude.{nat_eq}
use Rattle.std.specs.Str.{bytes_eq}
use Rattle.indexmap.specs.IndexSet.{insert_all}
use Rattle.scons_base.specs.Parts.{name_of, suffix_of, dir_of, joined}
use Rattle.env_pieces.specs.declared.form.Mode.TheVariants as mode
use Rattle.scons_decls.specs.declared.fault.NameFault.{NameFault}
use Rattle.scons_decls.specs.declared.fault.NameFault.TheVariants.{BadArgument}
use Rattle.scons_decls.specs.declared.given.Given.{Given}
use Rattle.scons_decls.specs.declared.given.Given.TheVariants as given
use Rattle.scons_declare.specs.declared.suffixes.Affixes as code
use Rattle.scons_decls.specs.Faults.{path_read}
use Rattle.scons_decls.specs.Steps.{and_then, each}
use Rattle.scons_decls.specs.Environs.{expanded}
use Rattle.scons_decls.specs.State.{Declared}
use Rattle.scons_decls.specs.Paths.{file_of}

-- what a builder puts in front of names and behind them
abbrev pub Affixed : Type 0
Affixed = code.Affixes

abbrev pub plain : Affixed
plain = record { prefix = []; suffix = [] }

-- what a text of the environment stands for; an empty one for nothing
abbrev pub affix : Declared → ℕ → List ℕ → Result (List ℕ) NameFault
affix d env text = if length text == 0 then Ok [] else expanded d.envs d.locals env mode.Text text

unfoldable pub affixes : Declared → ℕ → List ℕ → List ℕ → Result Affixed NameFault
affixes d env prefix suffix =
    and_then (affix d env prefix) (λ p. and_then (affix d env suffix) (λ s. Ok (record { prefix = p; suffix = s })))

-- a suffix as a builder was given it, with a dot in front unless it begins with `.`, `_` or `$`
abbrev pub dotted : List ℕ → List ℕ
dotted [] = []
dotted (b ∷ bytes) = if b == 46 || (b == 95 || b == 36) then b ∷ bytes else 46 ∷ b ∷ bytes

abbrev pub are_digits : List ℕ → Bool
are_digits bytes = not (length bytes == 0) && list_all is_ascii_digit bytes

-- a dot and digits
abbrev pub is_number : List ℕ → Bool
is_number [] = false
is_number (b ∷ digits) = b == 46 && are_digits digits

-- the suffix of a name as builders see it: one of digits alone is a part of the name, as of `lua5.4`
abbrev pub counted_suffix : List ℕ → List ℕ
counted_suffix path = if is_number (suffix_of path) then [] else suffix_of path

-- the name of a path with the prefix in front, where it doesn't have it, and the suffix behind, where it has none
abbrev pub with_prefix : List ℕ → List ℕ → List ℕ
with_prefix prefix name = if bytes_eq name prefix || not (starts_with nat_eq name prefix) then prefix ++ name else name

abbrev pub with_suffix : List ℕ → List ℕ → List ℕ → List ℕ
with_suffix suffix counted name = if length counted == 0 && not (ends_with nat_eq name suffix) then suffix else []

abbrev pub affixed_name : Affixed → List ℕ → List ℕ
affixed_name a path = with_prefix a.prefix (name_of path) ++ with_suffix a.suffix (counted_suffix path) (name_of path)

-- the path of a name in a directory
abbrev pub path_in : List ℕ → List ℕ → Result (List ℕ) NameFault
path_in dir name = path_read (joined dir name)

abbrev pub affixed : Affixed → List ℕ → Result (List ℕ) NameFault
affixed a path = path_in (dir_of path) (affixed_name a path)

-- the path of a target or of a source: one that is given by a text gets prefix and suffix
abbrev pub named_by : Affixed → Given → List ℕ → Result (List ℕ) NameFault
named_by a (given.Text text) path = if length a.prefix == 0 && length a.suffix == 0 then Ok path else affixed a path
named_by a (given.File file) path = Ok path
named_by a (given.Dir dir) path = Ok path
named_by a (given.Alias name) path = Ok path

unfoldable pub named : Declared → ℕ → List ℕ → Affixed → Given → Result (List ℕ) NameFault
named d env call a one = and_then (file_of d env call one) (named_by a one)

-- targets, each once, of which there has to be one
abbrev pub each_once : List ℕ → List (List ℕ) → Result (List (List ℕ)) NameFault
each_once call [] = Err (BadArgument call)
each_once call (path ∷ paths) = Ok (insert_all bytes_eq [] (path ∷ paths))

abbrev pub targets_of : Declared → ℕ → List ℕ → Affixed → List Given → Result (List (List ℕ)) NameFault
targets_of d env call a targets = and_then (each (named d env call a) targets) (each_once call)

-- a name without a suffix, where it ends with it
abbrev pub without : List ℕ → List ℕ → List ℕ
without suffix name = if ends_with nat_eq name suffix then take (length name - length suffix) name else name

-- whether a text that isn't empty stands behind something in a name
abbrev pub is_behind : List ℕ → List ℕ → Bool
is_behind known name = not (length known == 0) && (not (length name == length known) && ends_with nat_eq name known)

-- a name without what is known to stand behind it, or else without its suffix
abbrev pub bare_by : List ℕ → List ℕ → List ℕ → List ℕ
bare_by known counted name = if is_behind known name then without known name else without counted name

-- the target that a source has where none was named: prefix, the name without `known` or its suffix, and suffix
unfoldable pub target_of : List ℕ → Affixed → List ℕ → Result (List ℕ) NameFault
target_of known a source =
    path_in (dir_of source) (a.prefix ++ bare_by known (counted_suffix source) (name_of source) ++ a.suffix)
