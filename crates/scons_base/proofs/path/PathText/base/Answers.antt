use Rattle.std.proofs.Common.{arith, ◌≡◌, ◌-◌, ℕ, List, length}
use Rattle.std.specs.Str.{IsUtf8, IsCharBoundary}
use Rattle.std.proofs.lemmas.Str.{IsCharBoundary-from_drop}
use Rattle.scons_base.specs.Parts.{suffix_of}
use Rattle.scons_base.proofs.Tails.{suffix_ends}
use Rattle.scons_base.proofs.path.PathText.base.Goals as goal

boundary : (path self suffix : List ℕ) → path ≡ self → suffix ≡ suffix_of self → IsUtf8 suffix → IsCharBoundary path (length path - length suffix)
boundary path self suffix e f utf8 =
    IsCharBoundary-from_drop path _ (omega arith) (rw (e, f, suffix_ends self) (rw f at utf8))

pub range-requires-clause-end_boundary : goal.range-requires-clause-end_boundary
range-requires-clause-end_boundary c = boundary _ c.args.self.now _ c.as_str-text.ensures c.suffix.ensures c.suffix.utf8
