use Rattle.std.proofs.Common.{◌≡◌, drop}
use Rattle.scons_decls.specs.Steps.{all_of}
use Rattle.scons_decls.specs.References.{item_allowed}
use Rattle.scons_decls.proofs.references.refuse_items.Given as goal

abbrev pub invariant-loop-item : goal.invariant-loop-item
invariant-loop-item l = all_of item_allowed (drop l.item-index l.items) ≡ all_of item_allowed l.items
