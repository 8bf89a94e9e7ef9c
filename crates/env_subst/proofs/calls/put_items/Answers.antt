use Rattle.env_subst.specs.Settings.{setting_of}
use Rattle.env_subst.specs.Sayings.{sayings_of}
use Rattle.env_subst.specs.Desks.{desk_of}
use Rattle.env_subst.proofs.Doing.{leads_too}
use Rattle.env_subst.proofs.CallSteps.{alone_item}
use Rattle.env_subst.proofs.calls.put_items.Goals as goal

pub returns-then-is_over : goal.returns-then-is_over
returns-then-is_over c =
    let l = c.args.setting.now.locals.now in
    let w = setting_of c.args.setting.now in
    let d = desk_of l c.args.desk.now in
    leads_too w _ _ (desk_of l c.put_item.new.desk) c.put_item.result
    (alone_item w d c.args.call c.args.first.saying (sayings_of l c.args.first.rest) (c.is_over.ensures c.if-is_over.true l)) c.put_item.ensures
