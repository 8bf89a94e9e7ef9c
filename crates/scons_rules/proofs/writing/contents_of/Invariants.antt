use Rattle.std.proofs.Common.{◌≡◌, Some, map, take}
use Rattle.scons_rules.proofs.writing.contents_of.Given as goal

abbrev pub invariant-loop-text : goal.invariant-loop-text
invariant-loop-text l = l.contents.items ≡ map Some (take l.text-index l.texts)
