use Rattle.std.proofs.Common.{◌≡◌, ◌==◌, true, false, length, arith}
use Rattle.env_subst.specs.Settings.{setting_of}
use Rattle.env_subst.specs.Desks.{desk_of}
use Rattle.env_subst.proofs.Doing.{leads_too}
use Rattle.env_subst.proofs.CallSteps.{known_empty, known_dirs, known_plain}
use Rattle.env_subst.proofs.calls.put_known.Goals as goal

pub returns-then-is_empty : goal.returns-then-is_empty
returns-then-is_empty c =
    let e : (length c.args.text == 0) ≡ true = grind arith in
    known_empty (setting_of c.args.setting.now) (desk_of c.args.setting.now.locals.now c.args.desk.now) c.args.call c.args.text e

pub returns-then-call : goal.returns-then-call
returns-then-call c =
    let l = c.args.setting.now.locals.now in
    let w = setting_of c.args.setting.now in
    let e : (length c.args.text == 0) ≡ false = grind arith in
    let f : c.args.call.directories ≡ true = grind arith in
    leads_too w _ _ (desk_of l c.put_named.new.desk) c.put_named.result (known_dirs w (desk_of l c.args.desk.now) c.args.call c.args.text _ c.as_str-then-call.ensures e f) c.put_named.ensures

pub returns : goal.returns
returns c =
    let l = c.args.setting.now.locals.now in
    let w = setting_of c.args.setting.now in
    let e : (length c.args.text == 0) ≡ false = grind arith in
    let f : c.args.call.directories ≡ false = grind arith in
    leads_too w _ _ (desk_of l c.put_between.new.desk) c.put_between.result (known_plain w (desk_of l c.args.desk.now) c.args.call c.args.text e f) c.put_between.ensures
