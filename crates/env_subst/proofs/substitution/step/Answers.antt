use Rattle.std.proofs.Common.{ap}
use Rattle.env_pieces.specs.Pieces.{pieces_of}
use Rattle.env_subst.specs.Settings.{setting_of}
use Rattle.env_subst.specs.Desks.{tasks_of, resumes}
use Rattle.env_subst.proofs.Doing.{put_leads}
use Rattle.env_subst.proofs.CallSteps.{all_put}
use Rattle.env_subst.proofs.substitution.step.Goals as goal

pub returns-in-Put : goal.returns-in-Put
returns-in-Put c =
    let l = c.args.setting.now.locals.now in
    let d = c.args.desk.now in
    rw c.in-Put.is (put_leads (setting_of c.args.setting.now) (tasks_of l d.tasks.tasks.items) d.names d.pieces c.put.new.pieces d.references
    c.in-Put.text c.as_str.result.now c.put.result c.as_str.ensures c.put.ensures.ok c.put.ensures.fault)

pub returns-in-Read : goal.returns-in-Read
returns-in-Read c = rw c.in-Read.is c.read_on.ensures

pub returns-in-Say : goal.returns-in-Say
returns-in-Say c = rw c.in-Say.is c.say_more.ensures

pub returns-in-Inside : goal.returns-in-Inside
returns-in-Inside c = rw c.in-Inside.is c.say_inside.ensures

pub returns-in-Expand : goal.returns-in-Expand
returns-in-Expand c = rw c.in-Expand.is c.expand.ensures

pub returns-in-Items : goal.returns-in-Items
returns-in-Items c = rw c.in-Items.is c.more_items.ensures

pub returns-in-Dirs : goal.returns-in-Dirs
returns-in-Dirs c = rw c.in-Dirs.is c.put_dirs.ensures

pub returns-in-Apart : goal.returns-in-Apart
returns-in-Apart c = rw c.in-Apart.is c.put_read.ensures

pub returns-in-PutAll : goal.returns-in-PutAll
returns-in-PutAll c =
    let l = c.args.setting.now.locals.now in
    let d = c.args.desk.now in
    rw c.in-PutAll.is (all_put (setting_of c.args.setting.now) (tasks_of l d.tasks.tasks.items) d.names d.pieces c.put_all.new.pieces d.references
    (pieces_of c.in-PutAll.pieces) c.put_all.result c.put_all.ensures.ok c.put_all.ensures.fault)

pub returns-in-Close : goal.returns-in-Close
returns-in-Close c =
    let l = c.args.setting.now.locals.now in
    let d = c.args.desk.now in
    rw c.in-Close.is (ap (λ names. resumes (setting_of c.args.setting.now) (tasks_of l d.tasks.tasks.items) names (record { sheet = d.pieces; references = d.references })) c.leave.ensures)
