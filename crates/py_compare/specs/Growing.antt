-- What is kept of a text while it grows: its bytes as long as a text may have so many, and after that their number alone
-- (own). So a text that is over the limit can be told its length without being made.
use Rattle.std.specs.Prelude.{ℕ, ◌+◌, List, [], ◌++◌, Result, if◌then◌else◌, nat_le, length}
use Rattle.py_heap.specs.declared.fault.ValueFault.{ValueFault}
use Rattle.scons_base.specs.declared.limits.TheConstants.{TEXT_LIMIT}
use Rattle.py_heap.specs.Units.{limited, told_length}

pub record Growth : Type 0 where
  pub kept : List ℕ
  pub size : ℕ

abbrev pub not_begun : Growth
not_begun = record { kept = []; size = 0 }

-- with a piece behind it
unfoldable pub grown : Growth → List ℕ → Growth
grown g piece = record {
  kept = if nat_le (g.size + length piece) TEXT_LIMIT then g.kept ++ piece else [];
  size = told_length (g.size + length piece);
}

-- the text, or that it is too big
abbrev pub whole_of : Growth → Result (List ℕ) ValueFault
whole_of g = limited TEXT_LIMIT g.size g.kept
