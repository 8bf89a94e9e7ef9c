-- The entries of a list variable, as libraries and search paths ask for them: its items as texts and nodes, and in place of
-- one name alone the items of that variable. What stands for nothing is no entry.
use Rattle.std.specs.Prelude.{ℕ, zero, suc, ◌+◌, ◌-◌, ◌==◌, nat_lt, length, List, [], ◌∷◌, ◌++◌, codes, Option, None, Some, Result, Ok, Err, if◌then◌else◌}
use Rattle.env_text.specs.Alone.{name_alone}
use Rattle.env_text.specs.Readings.{reading_of}
use Rattle.env_pieces.specs.Pieces.{pieces_of}
use Rattle.env_pieces.specs.Forms.{text_of}
use Rattle.scons_base.specs.declared.limits.TheConstants.{REFERENCE_LIMIT}
use Rattle.scons_base.specs.Resolve.{spelling}
use Rattle.variant_dirs.specs.Variants.{searched}
use Rattle.env_subst.specs.declared.fault.SubstFault.{SubstFault}
use Rattle.env_subst.specs.declared.fault.SubstFault.TheVariants.{TooMany}
use Rattle.env_subst.specs.declared.library.LibItem.{LibItem}
use Rattle.env_subst.specs.declared.library.LibItem.TheVariants.{Name, Node}
use Rattle.env_subst.specs.declared.saying.Saying.{Saying}
use Rattle.env_subst.specs.declared.saying.Saying.TheVariants.{Read, Plain, Path}
use Rattle.env_subst.specs.Settings.{Setting}
use Rattle.env_subst.specs.Expansions.{Answer, Names, Found, is_literal, sayings_in, text_at, height, started, start, dirs_named}

-- entries in their order, up to the end or to the first fault
pub data Entries : Type 0 where
  over : Entries
  fails : SubstFault → Entries
  entry : LibItem → Entries → Entries

-- a text, which is no entry where it is empty
abbrev pub named : List ℕ → Entries → Entries
named t rest = if length t == 0 then rest else entry (Name t) rest

-- what was read as an entry, and the others behind so many references
abbrev pub read_entry : Answer → (ℕ → Entries) → Entries
read_entry (Ok s) rest = named (text_of (pieces_of s.sheet)) (rest s.references)
read_entry (Err fault) rest = fails fault

abbrev pub variable_entries : (List ℕ → ℕ → (ℕ → Entries) → Entries) → List ℕ → ℕ → (ℕ → Entries) → Entries
variable_entries spread name n rest = if nat_lt n REFERENCE_LIMIT then spread name (n + 1) rest else fails (TooMany (REFERENCE_LIMIT + 1))

-- a text of a variable's value: one name alone stands for the entries of that variable, a text without a `$` for itself
abbrev pub text_entry : Setting → (List ℕ → ℕ → (ℕ → Entries) → Entries) → Names → List ℕ → List ℕ → Option (List ℕ) → ℕ → (ℕ → Entries) → Entries
text_entry w spread names owner t (Some name) n rest =
    variable_entries spread name n rest
text_entry w spread names owner t None n rest =
    if is_literal t then named t (rest n) else read_entry (text_at w names owner t (started n)) rest

-- the entry of one thing that a variable says, if it is one, and then what follows
abbrev pub first_entry : Setting → (List ℕ → ℕ → (ℕ → Entries) → Entries) → Names → List ℕ → Saying → ℕ → (ℕ → Entries) → Entries
first_entry w spread names owner (Read t) n rest = text_entry w spread names owner t (name_alone (reading_of t)) n rest
first_entry w spread names owner (Plain t) n rest = named t (rest n)
first_entry w spread names owner (Path path) n rest = entry (Node path) (rest n)

-- the entries of what a variable says, behind so many references, and then what follows
abbrev pub entries_with : Setting → (List ℕ → ℕ → (ℕ → Entries) → Entries) → Names → List ℕ → List Saying → ℕ → (ℕ → Entries) → Entries
entries_with w spread names owner [] n rest = rest n
entries_with w spread names owner (x ∷ xs) n rest =
    first_entry w spread names owner x n (λ m. entries_with w spread names owner xs m rest)

-- the entries of a variable, where these are open and so many may stand in each other
unfoldable pub spread : Setting → ℕ → Names → List ℕ → ℕ → (ℕ → Entries) → Entries
spread w zero names name n rest = fails (TooMany (REFERENCE_LIMIT + 1))
spread w (suc more) names name n rest =
    entries_with w (spread w more (names ++ name ∷ [])) (names ++ name ∷ []) name (sayings_in w names name) n rest

abbrev pub entries_at : Setting → Names → List ℕ → ℕ → (ℕ → Entries) → Entries
entries_at w names name n rest = spread w (height - length names) names name n rest

-- all entries of a variable
abbrev pub entries_of : Setting → List ℕ → Entries
entries_of w name = entries_at w [] name 0 (λ n. over)

-- the items of LIBS, or the first fault
abbrev pub with_item : LibItem → Result (List LibItem) SubstFault → Result (List LibItem) SubstFault
with_item x (Ok items) = Ok (x ∷ items)
with_item x (Err fault) = Err fault

abbrev pub items_of : Entries → Result (List LibItem) SubstFault
items_of over = Ok []
items_of (fails fault) = Err fault
items_of (entry x rest) = with_item x (items_of rest)

-- items and those behind them
abbrev pub more_items : List LibItem → Result (List LibItem) SubstFault → Result (List LibItem) SubstFault
more_items items (Ok more) = Ok (items ++ more)
more_items items (Err fault) = Err fault

abbrev pub lib_items : Setting → Result (List LibItem) SubstFault
lib_items w = items_of (entries_of w (codes "LIBS"))

-- the directories of entries, or the first fault
abbrev pub Paths : Type 0
Paths = Result (List (List ℕ)) SubstFault

abbrev pub behind : List (List ℕ) → Paths → Paths
behind dirs (Ok more) = Ok (dirs ++ more)
behind dirs (Err fault) = Err fault

abbrev pub behind_found : Found → Paths → Paths
behind_found (Ok found) more = behind found.0 more
behind_found (Err fault) more = Err fault

abbrev pub entry_dirs : Setting → LibItem → Found
entry_dirs w (Name t) = dirs_named w t start
entry_dirs w (Node path) = Ok (searched w.locals.variants w.locals.top (spelling w.locals.top path), start)

abbrev pub dirs_of : Setting → Entries → Paths
dirs_of w over = Ok []
dirs_of w (fails fault) = Err fault
dirs_of w (entry x rest) = behind_found (entry_dirs w x) (dirs_of w rest)

-- the search path that a variable holds, as directories
abbrev pub search_path : Setting → List ℕ → Paths
search_path w name = dirs_of w (entries_of w name)
