use Rattle.std.proofs.Common.{◌≡◌, ap, sym, ◌∙◌, refl, false}
use Rattle.scons_base.specs.Parts.{is_absolute}
use Rattle.scons_base.proofs.Joining.{joined_named, IsNamed}
use Rattle.scons_base.proofs.path.PathText.resolve.Goals as goal

named : (c : goal.In-Ok) → IsNamed c.args.top.now c.args.dir.now c.args.text.now c.in-Ok.path
named c =
    let dir = c.if-not-leads_on.ensures {u = tt} refl in
    let text = c.if-not-leads_on-2.ensures {u = tt} refl in
    let path = c.in-Ok.ensures {u = tt} in
    let relative : is_absolute c.args.dir.now ≡ false = ap is_absolute (sym c.normal_text.ensures.value) ∙ dir.1 in
    joined_named c.args.top.now c.args.dir.now c.args.text.now c.in-Ok.path c.normal_text.ensures.valid relative text.0 text.1 text.2 path.no_fault path.path

pub returns-in-Ok-clause-path : goal.returns-in-Ok-clause-path
returns-in-Ok-clause-path c = (named c).named

pub returns-in-Ok-clause-again : goal.returns-in-Ok-clause-again
returns-in-Ok-clause-again c = (named c).again

pub returns-in-Ok-clause-no_fault : goal.returns-in-Ok-clause-no_fault
returns-in-Ok-clause-no_fault c = (named c).no_fault
