use Rattle.env_subst.specs.Settings.{setting_of}
use Rattle.env_subst.specs.Desks.{tasks_of}
use Rattle.env_subst.proofs.Doing.{put_leads}
use Rattle.env_subst.proofs.reading.say_inside.Goals as goal

pub returns-in-Read : goal.returns-in-Read
returns-in-Read c = rw c.in-Read.is c.read_inside.ensures

pub returns-in-Plain : goal.returns-in-Plain
returns-in-Plain c =
    let l = c.args.setting.now.locals.now in
    let d = c.args.desk.now in
    rw c.in-Plain.is (put_leads (setting_of c.args.setting.now) (tasks_of l d.tasks.tasks.items) d.names d.pieces c.put.new.pieces d.references
    c.in-Plain.text c.as_str.result.now c.put.result c.as_str.ensures c.put.ensures.ok c.put.ensures.fault)

pub returns-in-Path : goal.returns-in-Path
returns-in-Path c =
    let l = c.args.setting.now.locals.now in
    let d = c.args.desk.now in
    rw c.in-Path.is (put_leads (setting_of c.args.setting.now) (tasks_of l d.tasks.tasks.items) d.names d.pieces c.put-in-Path.new.pieces d.references
    c.in-Path.path c.as_str-in-Path.result.now c.put-in-Path.result c.as_str-in-Path.ensures c.put-in-Path.ensures.ok c.put-in-Path.ensures.fault)
