use Rattle.std.proofs.Common.{◌≡◌, ◌∙◌, ◌≤◌, ap, refl, sym, length, arith}
use Rattle.env_subst.specs.Settings.{setting_of}
use Rattle.env_subst.specs.Expansions.{is_literal}
use Rattle.env_subst.specs.Desks.{tasks_of, desk_of}
use Rattle.env_subst.proofs.Doing.{desk, begin_step, begin_fails, put_leads, literal_begins}
use Rattle.env_subst.proofs.reading.begin.Goals as goal

pub returns-then-len : goal.returns-then-len
returns-then-len c = λ _.
    let l = c.args.setting.now.locals.now in
    begin_fails (setting_of c.args.setting.now) (tasks_of l c.args.desk.now.tasks.tasks.items) c.args.desk.now.names c.args.desk.now.pieces c.args.desk.now.references c.args.owner c.args.text (omega arith)

pub returns-then-stands_for_itself : goal.returns-then-stands_for_itself
returns-then-stands_for_itself c =
    let l = c.args.setting.now.locals.now in
    let w = setting_of c.args.setting.now in
    let d = c.args.desk.now in
    let few : length d.names ≤ 100001 = omega arith in
    let same : c.as_str.result.now ≡ c.args.text = c.as_str.ensures in
    let itself = c.stands_for_itself.ensures c.if-stands_for_itself.true in
    literal_begins w (desk_of l d) (desk (tasks_of l d.tasks.tasks.items) d.names c.put_whole.new.pieces d.references) c.args.owner c.args.text c.put_whole.result few
    (ap is_literal (sym same) ∙ itself.0) (omega (arith, ap length same, itself.1))
    (put_leads w (tasks_of l d.tasks.tasks.items) d.names d.pieces c.put_whole.new.pieces d.references c.args.text c.args.text c.put_whole.result refl c.put_whole.ensures.ok c.put_whole.ensures.fault)

pub returns : goal.returns
returns c =
    let l = c.args.setting.now.locals.now in
    begin_step (setting_of c.args.setting.now) (tasks_of l c.args.desk.now.tasks.tasks.items) (tasks_of l c.push.new.stack.tasks.items)
    c.args.desk.now.names c.args.desk.now.pieces c.args.desk.now.references c.args.owner c.args.text c.beginning-place.result.text c.beginning-place.result.at
    (omega arith) c.beginning-place.ensures.text c.beginning-place.ensures.at ((c.in_ok-push.ensures {u = tt}) l)
