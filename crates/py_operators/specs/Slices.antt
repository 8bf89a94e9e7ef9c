-- Slices: section 6.3.3 of the Python language reference, without steps. An end is cut to the length.
use Rattle.std.specs.Prelude.{ℕ, ◌-◌, ℤ, pos, negsuc, suc, List, Option, Some, None, min, take, drop, length}

-- where an end of a slice lies in something of a length: a negative one counts from the end
abbrev pub end_in : ℤ → ℕ → ℕ
end_in (pos n) len = min n len
end_in (negsuc n) len = len - suc n

-- the first end is 0 where it is left out, the second one the length
abbrev pub from_in : Option ℤ → ℕ → ℕ
from_in None len = 0
from_in (Some i) len = end_in i len

abbrev pub to_in : Option ℤ → ℕ → ℕ
to_in None len = len
to_in (Some i) len = end_in i len

-- the items between two ends
abbrev pub slice_of : {X : Type 0} → List X → Option ℤ → Option ℤ → List X
slice_of xs from to = take (to_in to (length xs) - from_in from (length xs)) (drop (from_in from (length xs)) xs)
