use Rattle.env_subst.specs.Settings.{setting_of}
use Rattle.env_subst.specs.Desks.{desk_of}
use Rattle.env_subst.proofs.Doing.{read_inside_none, reads_in}
use Rattle.env_subst.proofs.reading.read_inside.Goals as goal

pub returns-then-is_open : goal.returns-then-is_open
returns-then-is_open c =
    let l = c.args.setting.now.locals.now in
    read_inside_none (setting_of c.args.setting.now) (desk_of l c.args.desk.now) c.args.name c.args.text cc

pub returns : goal.returns
returns c =
    let l = c.args.setting.now.locals.now in
    reads_in (setting_of c.args.setting.now) (desk_of l c.args.desk.now) (desk_of l c.open.new.desk) (desk_of l c.begin.new.desk) c.args.name c.begin.result
    ((c.in_ok-open.ensures {u = tt}) l) (cc) c.args.text c.begin.ensures
