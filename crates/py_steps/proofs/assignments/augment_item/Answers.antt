use Rattle.std.proofs.Common.{map}
use Rattle.std.proofs.lemmas.Result.{on_ok_weaker}
use Rattle.py_tree.specs.Tree.{trees, expr_tree, link_tree}
use Rattle.py_steps.proofs.Places.{augment_none, augment_item_at, index_there, other_there, none_last}
use Rattle.py_steps.proofs.assignments.augment_item.Goals as goal

pub returns-in_default : goal.returns-in_default
returns-in_default c = λ s. augment_none c.args.line c.args.operator (expr_tree c.args.atom.now) (trees (map link_tree c.args.links.now)) (expr_tree c.args.value.now) c.args.desk.now s (none_last c.args.links.now c.in_default.ensures.cases)

pub returns-in_default-last : goal.returns-in_default-last
returns-in_default-last c = λ s. augment_none c.args.line c.args.operator (expr_tree c.args.atom.now) (trees (map link_tree c.args.links.now)) (expr_tree c.args.value.now) c.args.desk.now s
    (other_there c.args.links.now c.in-Some.front.now c.in-Some.last.now c.in-Some.ensures.cases.0 c.in_default-last.not-Index)

pub returns : goal.returns
returns c = on_ok_weaker c.push_place.result
    (λ e. λ s. augment_item_at c.args.line c.args.operator c.args.atom c.args.value c.deref.result c.in-Some.front (trees (map link_tree c.args.links.now)) c.in-Index.place c.args.desk.now c.push_augment.new.desk c.push_place.new.desk s
    (index_there c.args.links.now c.in-Some.front.now c.in-Some.last.now c.in-Index.place c.in-Index.index c.deref.result.now c.in-Some.ensures.cases.0 c.in-Index.is c.deref.ensures) c.in_ok-push_augment.ensures e)
    c.push_place.ensures
