-- What is kept of files as room is made for more.
use Rattle.std.proofs.Common.{◌≡◌, ℕ, zero, suc, List, [], ◌∷◌, ◌++◌, refl}
use Rattle.build_files.specs.declared.seen.Seen.{Seen}
use Rattle.build_files.specs.Seen.{seen_at, unseen}

pub room_more : (files : List Seen) (node : ℕ) → seen_at (files ++ unseen ∷ []) node ≡ seen_at files node
room_more [] zero = refl
room_more [] (suc node) = refl
room_more (seen ∷ files) zero = refl
room_more (seen ∷ files) (suc node) = room_more files node
