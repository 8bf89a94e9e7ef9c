use Rattle.std.proofs.Common.{◌∙◌, rules}
use Rattle.std.proofs.lemmas.Fn.{always_returns_same}
use Rattle.py_heap.specs.Many.{with_texts}
use Rattle.py_compare.proofs.SortOrder.{in_front, in_front-order, in_front-told}
use Rattle.py_compare.proofs.InOrder.{in_order-is}
use Rattle.py_compare.proofs.sorting.in_order_with.Goals as goal

pub returns : goal.returns
returns c =
    let h = with_texts c.args.heap.now c.args.texts.now in
    let sort = c.in_ok-sort_by.ensures in
    c.new.ensures ∙ in_order-is h c.args.items.now c.extend_from_slice.new.self.items c.sort_by.new.self.items c.requires (search rules)
    (sort.sorted (in_front h) (in_front-order h) (always_returns_same _ _ _ (λ a r f k. (in_front-told h a.0.now a.1.0.now r (search rules), search rules))))
    (sort.stable (in_front h) (in_front-order h) (always_returns_same _ _ _ (λ a r f k. (in_front-told h a.0.now a.1.0.now r (search rules), search rules))))
