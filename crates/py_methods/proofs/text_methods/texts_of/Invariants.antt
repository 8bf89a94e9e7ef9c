use Rattle.std.proofs.Common.{◌≡◌, drop, map, []}
use Rattle.py_methods.specs.TextMethods.{texts_onto}
use Rattle.py_methods.proofs.text_methods.texts_of.Given as goal

abbrev pub invariant-items : goal.invariant-items
invariant-items l = texts_onto l.heap l.owner (map (λ t. t.now) l.texts.items) (drop l.item-index l.items) ≡ texts_onto l.heap l.owner [] l.items
