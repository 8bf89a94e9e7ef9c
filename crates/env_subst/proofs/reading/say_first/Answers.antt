use Rattle.env_subst.specs.Settings.{setting_of}
use Rattle.env_subst.specs.Sayings.{sayings_of}
use Rattle.env_subst.specs.Expansions.{text_at}
use Rattle.env_subst.specs.Desks.{desk_of}
use Rattle.env_subst.proofs.Doing.{leads_too, alone_read}
use Rattle.env_subst.proofs.reading.say_first.Goals as goal

pub returns-then-is_over : goal.returns-then-is_over
returns-then-is_over c =
    let l = c.args.setting.now.locals.now in
    let w = setting_of c.args.setting.now in
    let d = desk_of l c.args.desk.now in
    leads_too w _ _ (desk_of l c.say_one.new.desk) c.say_one.result
    (alone_read w (text_at w d.names c.args.name) c.args.first.saying (sayings_of l c.args.first.rest) d (c.is_over.ensures c.if-is_over.true l)) c.say_one.ensures
