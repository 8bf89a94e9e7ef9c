use Rattle.env_subst.specs.Settings.{setting_of}
use Rattle.env_subst.specs.Contents.{content_of}
use Rattle.env_subst.specs.Sayings.{sayings_of}
use Rattle.env_subst.specs.Desks.{desk_of}
use Rattle.env_subst.proofs.Doing.{expands_nothing, expand_step, leads_too}
use Rattle.env_subst.proofs.reading.expand.Goals as goal

pub say_all-requires : goal.say_all-requires
say_all-requires c =
    let l = c.args.setting.now.locals.now in
    expands_nothing (setting_of c.args.setting.now) c.args.desk.now.names c.args.name (content_of c.in_ok-holding.holding) (sayings_of l c.said.result)
    (c.in_ok-holding.ensures {u = tt}) (c.said.ensures l)

pub returns : goal.returns
returns c =
    let l = c.args.setting.now.locals.now in
    leads_too (setting_of c.args.setting.now) _ _ (desk_of l c.say_all.new.desk) c.say_all.result
    (expand_step (setting_of c.args.setting.now) (desk_of l c.args.desk.now) c.args.name (content_of c.in_ok-holding.holding) (sayings_of l c.said.result)
    (c.in_ok-holding.ensures {u = tt}) (c.said.ensures l))
    c.say_all.ensures
