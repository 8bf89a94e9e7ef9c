-- What an index or a slice selects: as Python's subscriptions and slicings, sections 6.3.2 and 6.3.3 of its reference, but
-- that an index outside the range selects nothing.
use Rattle.std.specs.Prelude.{◌≡◌, ℕ, ◌+◌, ◌-◌, min, ◌&&◌, nat_lt, nat_le, List, take, drop, length, Option, None, Some, encode_utf8_all, if◌then◌else◌}
use Rattle.std.specs.Str.{chars}
use Rattle.env_text.specs.declared.part.Index.{Index}
use Rattle.env_text.specs.declared.part.Index.TheVariants.{FromFront, FromBack}
use Rattle.env_text.specs.declared.part.Selection.{Selection}
use Rattle.env_text.specs.declared.part.Selection.TheVariants.{Whole, Item, Slice}

-- the end of a slice of a list of so many: those outside the list are its ends
abbrev pub slice_end : Option Index → ℕ → ℕ → ℕ
slice_end None missing len = missing
slice_end (Some (FromFront place)) missing len = min place len
slice_end (Some (FromBack place)) missing len = len - place

-- one item, or none outside the list
abbrev pub item_range : Index → ℕ → ℕ × ℕ
item_range (FromFront place) len = if nat_lt place len then (place, place + 1) else (0, 0)
item_range (FromBack place) len = if nat_lt 0 place && nat_le place len then (len - place, len - place + 1) else (0, 0)

-- where the selected part of a list of so many begins and ends
abbrev pub range_of : Selection → ℕ → ℕ × ℕ
range_of Whole len = (0, len)
range_of (Item index) len = item_range index len
range_of (Slice from to) len = (slice_end from 0 len, slice_end to len len)

abbrev pub between : {X : Type 0} → ℕ × ℕ → List X → List X
between range xs = take (range.1 - range.0) (drop range.0 xs)

abbrev pub selected : {X : Type 0} → Selection → List X → List X
selected selection xs = between (range_of selection (length xs)) xs

-- of a text its characters are selected
abbrev pub selected_text : Selection → List ℕ → List ℕ
selected_text selection text = encode_utf8_all (selected selection (chars text))

-- the place in a text behind so many characters, or behind all
abbrev pub place_behind : ℕ → List ℕ → ℕ
place_behind count text = length (encode_utf8_all (take count (chars text)))

-- where the part of this range of characters stands
abbrev pub Cuts : List ℕ → ℕ × ℕ → ℕ × ℕ → Type 0
Cuts text range places =
    (from : ℕ) × ((to : ℕ) × (places ≡ (place_behind from text, place_behind to text)) × (between (from, to) (chars text) ≡ between range (chars text)))

-- the place of an end of a slice
abbrev pub end_place : Option Index → ℕ → List ℕ → ℕ
end_place None missing text = missing
end_place (Some (FromFront place)) missing text = place_behind place text
end_place (Some (FromBack place)) missing text = place_behind (length (chars text) - place) text
