use Rattle.std.proofs.Common.{◌≡◌, ◌++◌, length, take}
use Rattle.std.specs.Int.{w32, to_be_bytes}
use Rattle.std.specs.List.{flat_map, AllByRecursion}
use Rattle.deciders.specs.Spelling.{sized, IsText}
use Rattle.deciders.proofs.encoding.push_texts.Given as goal

abbrev pub invariant-loop-text : goal.invariant-loop-text
invariant-loop-text l =
    (l.out.items ≡ l.fn.out.items ++ (to_be_bytes w32 (length l.texts) ++ flat_map sized (take l.text-index l.texts)))
    × AllByRecursion IsText (take l.text-index l.texts)
