use Rattle.std.proofs.Common.{◌≤◌, refl, length, arith}
use Rattle.env_subst.specs.Settings.{setting_of}
use Rattle.env_subst.specs.Sayings.{sayings_of}
use Rattle.env_subst.specs.Desks.{tasks_of, desk_of}
use Rattle.env_subst.proofs.Doing.{desk, put_leads, literal_says}
use Rattle.env_subst.proofs.reading.say_all.Goals as goal

pub returns-in-Some : goal.returns-in-Some
returns-in-Some c =
    let l = c.args.setting.now.locals.now in
    let w = setting_of c.args.setting.now in
    let d = c.args.desk.now in
    let few : length d.names ≤ 100000 = omega arith in
    let said = c.in-Some.ensures {u = tt} in
    literal_says w (desk_of l d) (desk (tasks_of l d.tasks.tasks.items) d.names c.put.new.pieces d.references) c.args.name c.in-Some.text.now (sayings_of l c.args.sayings) c.put.result few
    (said.0 l) said.1 said.2 c.requires
    (put_leads w (tasks_of l d.tasks.tasks.items) d.names d.pieces c.put.new.pieces d.references c.in-Some.text.now c.in-Some.text.now c.put.result refl c.put.ensures.ok c.put.ensures.fault)
