use Rattle.std.proofs.lemmas.Result.{on_ok_weaker}
use Rattle.py_tree.specs.Tree.{expr_tree}
use Rattle.py_steps.proofs.Places.{augment_name_goes, augment_as, augment_other, post_tree}
use Rattle.py_steps.proofs.assignments.augment.Goals as goal

pub returns-in-Name : goal.returns-in-Name
returns-in-Name c = on_ok_weaker c.augment_name.result (λ e. λ s. augment_name_goes c.args.line c.args.operator c.args.target c.args.value c.in-Name.line _ c.args.desk.now c.augment_name.new.desk s c.in-Name.is e) c.augment_name.ensures

pub returns-in-Post : goal.returns-in-Post
returns-in-Post c = on_ok_weaker c.augment_item.result (λ u. λ s. augment_as c.args.target.now _ _ c.args.line c.args.operator (expr_tree c.args.value.now) c.args.desk.now c.augment_item.new.desk s c.in-Post.is (post_tree c.in-Post.atom c.in-Post.links c.deref.result.now c.as_slice.result.now c.deref.ensures c.as_slice.ensures.value) (u s)) c.augment_item.ensures

pub returns-in_default : goal.returns-in_default
returns-in_default c = λ s. augment_other c.args.target.now c.args.line c.args.operator (expr_tree c.args.value.now) c.args.desk.now s c.in_default.not-Name c.in_default.not-Post
