use Rattle.std.proofs.Common.{◌∙◌}
use Rattle.env_subst.specs.Settings.{setting_of}
use Rattle.env_subst.specs.Expansions.{puts, reads_part}
use Rattle.env_subst.specs.Parts.{owned_part}
use Rattle.env_subst.specs.declared.part.OwnedPart.TheVariants as owned
use Rattle.env_subst.specs.Desks.{tasks_of, deeper_of}
use Rattle.env_subst.proofs.Doing.{put_leads, mark_leads, mark_part, rest_left, leads_too, desk}
use Rattle.env_subst.proofs.reading.read_part.Goals as goal

pub returns-in_ok-push_rest-in-Text : goal.returns-in_ok-push_rest-in-Text
returns-in_ok-push_rest-in-Text c =
    let l = c.args.setting.now.locals.now in
    let w = setting_of c.args.setting.now in
    let d = c.args.desk.now in
    let more = tasks_of l c.push_rest.new.stack.tasks.items in
    rw c.in-Text.is (leads_too w _ _ (desk more d.names c.put.new.pieces d.references) c.put.result
    (rest_left w (tasks_of l d.tasks.tasks.items) more d.names d.pieces d.references c.args.owner c.args.rest.text c.args.rest.at (puts c.in-Text.text) ((c.in_ok-push_rest-in-Text.ensures {u = tt}) l))
    (put_leads w more d.names d.pieces c.put.new.pieces d.references c.in-Text.text c.as_str.result.now c.put.result c.as_str.ensures c.put.ensures.ok c.put.ensures.fault))

pub returns-in_ok-push_rest-in-Mark : goal.returns-in_ok-push_rest-in-Mark
returns-in_ok-push_rest-in-Mark c =
    let l = c.args.setting.now.locals.now in
    let w = setting_of c.args.setting.now in
    let d = c.args.desk.now in
    let m = c.in-Mark.mark in
    let more = tasks_of l c.push_rest-in-Mark.new.stack.tasks.items in
    rw c.in-Mark.is (leads_too w _ _ (desk more d.names c.put_mark.new.pieces d.references) c.put_mark.result
    (mark_part w d.names c.args.owner c.args.at m (desk more d.names d.pieces d.references)
    ∙ rest_left w (tasks_of l d.tasks.tasks.items) more d.names d.pieces d.references c.args.owner c.args.rest.text c.args.rest.at
    (reads_part w (deeper_of w d.names) d.names c.args.owner c.args.at (owned_part (owned.Mark m))) ((c.in_ok-push_rest-in-Mark.ensures {u = tt}) l))
    (mark_leads w more d.names d.pieces c.put_mark.new.pieces d.references m c.put_mark.result c.put_mark.ensures.ok c.put_mark.ensures.fault))

pub returns-in-Variable : goal.returns-in-Variable
returns-in-Variable c = rw c.in-Variable.is c.read_variable.ensures

pub returns-in-Call : goal.returns-in-Call
returns-in-Call c = rw c.in-Call.is c.read_call.ensures
