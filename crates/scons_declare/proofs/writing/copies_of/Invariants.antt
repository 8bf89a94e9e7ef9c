use Rattle.std.proofs.Common.{◌≡◌, take}
use Rattle.scons_declare.proofs.writing.copies_of.Given as goal

abbrev pub invariant-loop-key : goal.invariant-loop-key
invariant-loop-key l = l.copies ≡ take l.key-index l.pairs
