-- What is kept of each file, by the numbers of their nodes.
use Rattle.std.specs.Prelude.{◌≡◌, ◌≢◌, ℕ, List, None, false, get_or, OnOk, OnErr, Result}
use Rattle.scons_base.specs.declared.memory.Memory.{Memory}
use Rattle.build_files.specs.declared.seen.Seen.{Seen}

-- nothing is kept of a file that wasn't looked at
abbrev pub unseen : Seen
unseen = record { is_file = None; digest = None; includes = None; stamp = None; is_settled = false }

-- what is kept of a file
abbrev pub seen_at : List Seen → ℕ → Seen
seen_at files node = get_or files node unseen

-- of each file the same is kept
abbrev pub SeesTheSame : List Seen → List Seen → Type 0
SeesTheSame old new = (node : ℕ) → seen_at new node ≡ seen_at old node

-- of one file this is kept now, and of each other the same
pub record SeesOne (old new : List Seen) (node : ℕ) (seen : Seen) : Type 0 where
  pub this : seen_at new node ≡ seen
  pub others : (other : ℕ) → other ≢ node → seen_at new other ≡ seen_at old other

-- what is kept of one file changes so, unless memory is wanting
pub record Sees {T : Type 0} (old new : List Seen) (node : ℕ) (change : Seen → Seen) (result : Result T Memory) : Type 0 where
  pub done : OnOk result (SeesOne old new node (change (seen_at old node)))
  pub same : OnErr result (SeesTheSame old new)
