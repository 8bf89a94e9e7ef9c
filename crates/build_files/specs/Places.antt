-- Where a name of an include line is looked for.
use Rattle.std.specs.Prelude.{◌≡◌, ◌<◌, ℕ, List, length}
use Rattle.scons_base.specs.Resolve.{resolved}
use Rattle.variant_dirs.specs.declared.variants.Variant.{Variant}
use Rattle.variant_dirs.specs.Variants.{searched}

-- the places of a name in a directory, where it has any
abbrev pub ArePlaces : List Variant → List ℕ → List ℕ → List ℕ → List (List ℕ) → Type 0
ArePlaces variants top dir name places = 0 < length places → places ≡ searched variants top (resolved top dir name)
