use Rattle.std.proofs.Common.{map}
use Rattle.std.proofs.lemmas.Result.{on_ok_weaker}
use Rattle.py_tree.specs.Tree.{trees, expr_tree, link_tree}
use Rattle.py_steps.proofs.Assigning.{none_takes, item_takes}
use Rattle.py_steps.proofs.Places.{index_there, other_there, none_last}
use Rattle.py_steps.proofs.assignments.assign_item.Goals as goal

pub returns-in_default : goal.returns-in_default
returns-in_default c = λ l s.
    none_takes l (expr_tree c.args.atom.now) (trees (map link_tree c.args.links.now)) c.args.desk.now c.take-value.new.self s
    (none_last c.args.links.now c.in_default.ensures.cases) c.take-value.ensures.left

pub returns-in_default-last : goal.returns-in_default-last
returns-in_default-last c = λ l s.
    none_takes l (expr_tree c.args.atom.now) (trees (map link_tree c.args.links.now)) c.args.desk.now c.take-value-in_default-last.new.self s
    (other_there c.args.links.now c.in-Some.front.now c.in-Some.last.now c.in-Some.ensures.cases.0 c.in_default-last.not-Index) c.take-value-in_default-last.ensures.left

pub returns : goal.returns
returns c = on_ok_weaker c.push_place.result
    (λ e. λ l s. item_takes l c.args.atom c.deref.result c.in-Some.front (trees (map link_tree c.args.links.now)) c.in-Index.line c.args.desk.now c.push.new.self c.push_place.new.desk s
    (index_there c.args.links.now c.in-Some.front.now c.in-Some.last.now c.in-Index.line c.in-Index.index c.deref.result.now c.in-Some.ensures.cases.0 c.in-Index.is c.deref.ensures) c.in_ok-push.ensures e)
    c.push_place.ensures
