-- A set of small numbers, as a list that has `true` at the members, and the tree that keeps it.
use Rattle.std.specs.Prelude.{◌≡◌, ◌<◌, ◌+◌, ◌*◌, ◌^◌, ℕ, Bool, false, ◌||◌, List, get_or, length, drop}

-- what stands at a place of the tree
abbrev pub mark_at : List Bool → ℕ → Bool
mark_at tree i = get_or tree i false

-- what stands at the two places below
abbrev pub below : List Bool → ℕ → Bool
below tree i = mark_at tree (2 * i) || mark_at tree (2 * i + 1)

-- a complete binary tree over so many numbers, a power of two, laid out with the children of `n` at `2n` and `2n + 1`: a place is
-- marked where one of the two below it is
pub record IsTree (tree : List Bool) (room : ℕ) : Type 0 where
  pub size : length tree ≡ 2 * room
  pub parents : (i : ℕ) → 0 < i → i < room → mark_at tree i ≡ below tree i

-- the numbers are the lowest level
abbrev pub leaves : List Bool → ℕ → List Bool
leaves tree room = drop room tree

-- so much room is that of a tree of so many levels above the numbers
pub record IsRoom (room levels : ℕ) : Type 0 where
  pub few : levels < 32
  pub power : room ≡ 2 ^ levels
