use Rattle.env_subst.specs.Settings.{setting_of}
use Rattle.env_subst.specs.Sayings.{sayings_of}
use Rattle.env_subst.specs.Desks.{desk_of}
use Rattle.env_subst.proofs.Doing.{not_open, says_in, says_nothing_at_all}
use Rattle.env_subst.proofs.reading.say_opened.Goals as goal

pub open-requires : goal.open-requires
open-requires c =
    let l = c.args.setting.now.locals.now in
    not_open c.args.name c.args.desk.now.names (sayings_of l c.args.sayings) c.in-Some.first.saying (sayings_of l c.in-Some.first.rest) c.requires (rw c.in-Some.is at (c.in_ok-first.ensures {u = tt}))

pub returns-in_ok-open-in-Some : goal.returns-in_ok-open-in-Some
returns-in_ok-open-in-Some c =
    let l = c.args.setting.now.locals.now in
    says_in (setting_of c.args.setting.now) (desk_of l c.args.desk.now) (desk_of l c.open.new.desk) (desk_of l c.say_first.new.desk) c.args.name c.say_first.result
    ((c.in_ok-open-in-Some.ensures {u = tt}) l)
    (not_open c.args.name c.args.desk.now.names (sayings_of l c.args.sayings) c.in-Some.first.saying (sayings_of l c.in-Some.first.rest) c.requires (rw c.in-Some.is at (c.in_ok-first.ensures {u = tt})))
    (sayings_of l c.args.sayings) c.in-Some.first.saying (sayings_of l c.in-Some.first.rest) (rw c.in-Some.is at (c.in_ok-first.ensures {u = tt}))
    c.say_first.ensures

pub returns-in-None : goal.returns-in-None
returns-in-None c =
    let l = c.args.setting.now.locals.now in
    says_nothing_at_all (setting_of c.args.setting.now) (desk_of l c.args.desk.now) c.args.name (sayings_of l c.args.sayings) (rw c.in-None.is at (c.in_ok-first.ensures {u = tt}))
