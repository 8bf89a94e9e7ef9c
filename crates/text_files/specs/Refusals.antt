-- Why a text isn't made.
use Rattle.std.specs.Prelude.{◌≡◌, ◌-◌, ◌^◌, ℕ, min, List, [], ◌∷◌, length, Option, Some, None, nat_lt, true, false, Result, Ok, Err, if◌then◌else◌}
use Rattle.text_files.specs.declared.refusal.TextRefusal.{TextRefusal}
use Rattle.text_files.specs.declared.refusal.TextRefusal.TheVariants as refusal
use Rattle.world_api.specs.Replacing.{Pair, replaced}
use Rattle.world_api.specs.Writing.{files_read, joined_by, made_of, pairs_in}

abbrev pub first_long : ℕ → ℕ → Option ℕ → Option ℕ
first_long limit len later = if nat_lt limit len then Some len else later

-- the length of what one of the pairs makes, the first that passes the limit
abbrev pub too_long : ℕ → List ℕ → List Pair → Option ℕ
too_long limit bytes [] = None
too_long limit bytes (pair ∷ pairs) =
    first_long limit (length (replaced pair.0 pair.1 bytes)) (too_long limit (replaced pair.0 pair.1 bytes) pairs)

abbrev pub joined_too_long : ℕ → List ℕ → Option (List (List ℕ)) → Option (List Pair) → Option ℕ
joined_too_long limit between (Some files) (Some pairs) =
    first_long limit (length (joined_by between files)) (too_long limit (joined_by between files) pairs)
joined_too_long limit between (Some files) None = None
joined_too_long limit between None pairs = None

-- the same of what a write makes on its way: the one text, the joined files, and the result after each pair
abbrev pub written_too_long : ℕ → List (List ℕ) → List (Option (List ℕ)) → Option ℕ
written_too_long limit [] given = None
written_too_long limit (text ∷ []) given = first_long limit (length text) None
written_too_long limit (count ∷ between ∷ texts) given =
    joined_too_long limit between (files_read count given) (pairs_in texts)

-- a length as 64 bits tell it
abbrev pub told : ℕ → ℕ
told len = min len (2 ^ 64 - 1)

-- what is made where nothing is too long, and that length elsewhere; want of memory is free
abbrev pub Makes : {A : Type 0} → Result A TextRefusal → Option ℕ → A → Type 0
Makes (Ok made) None whole = made ≡ whole
Makes (Ok made) (Some len) whole = ⊥
Makes (Err (refusal.TooLarge len)) None whole = ⊥
Makes (Err (refusal.TooLarge len)) (Some first) whole = len ≡ told first
Makes (Err refusal.Memory) long whole = Unit {0}

-- what such files and such pairs give, joined and replaced
abbrev pub MakesOfFiles : Result (Option (List ℕ)) TextRefusal → ℕ → List ℕ → Option (List (List ℕ)) → Option (List Pair) → Type 0
MakesOfFiles result limit between files pairs = Makes result (joined_too_long limit between files pairs) (made_of between files pairs)

-- one step: bytes of at most this length, or how many more there would be
abbrev pub MakesUpTo : ℕ → List ℕ → Result (List ℕ) TextRefusal → Type 0
MakesUpTo limit whole (Ok made) = (made ≡ whole) × (nat_lt limit (length whole) ≡ false)
MakesUpTo limit whole (Err (refusal.TooLarge len)) = (len ≡ told (length whole)) × (nat_lt limit (length whole) ≡ true)
MakesUpTo limit whole (Err refusal.Memory) = Unit {0}
