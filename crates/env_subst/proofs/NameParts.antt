-- The name of a path and its suffix.
use Rattle.std.proofs.Common.{arith, ◌≡◌, ◌-◌, ℕ, Bool, true, false, List, [], length, drop}
use Rattle.std.specs.Prelude.{if◌then◌else◌, nat_le}
use Rattle.std.specs.Str.{IsUtf8, IsCharBoundary}
use Rattle.std.proofs.lemmas.List.{drop_all}
use Rattle.std.proofs.lemmas.Str.{IsCharBoundary-from_drop}
use Rattle.scons_base.specs.Normal.{dot}
use Rattle.scons_base.specs.Parts.{suffix_of, name_of, behind_last}
use Rattle.scons_base.proofs.Tails.{drop-again}

-- a suffix stands at the end of the name
suffix_ends : (path : List ℕ) → drop (length (name_of path) - length (suffix_of path)) (name_of path) ≡ suffix_of path
suffix_ends path = from (nat_le (behind_last dot (name_of path)) 1)
  where
    n : ℕ
    n = behind_last dot (name_of path)

    from : (b : Bool) → drop (length (name_of path) - length (if b then [] else drop (n - 1) (name_of path))) (name_of path) ≡ (if b then [] else drop (n - 1) (name_of path))
    from true = drop_all _ (name_of path) (omega arith)
    from false = drop-again (n - 1) (name_of path)

pub boundary : (name path suffix : List ℕ) → name ≡ name_of path → suffix ≡ suffix_of path → IsUtf8 suffix → IsCharBoundary name (length name - length suffix)
boundary name path suffix e f utf8 =
    IsCharBoundary-from_drop name _ (omega arith) (rw (e, f, suffix_ends path) (rw f at utf8))
