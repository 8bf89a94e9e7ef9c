use Rattle.std.specs.Prelude.{Err}
use Rattle.std.proofs.Common.{◌∙◌, sym, ap}
use Rattle.env_text.specs.Views.{plain}
use Rattle.env_subst.specs.Settings.{setting_of}
use Rattle.env_subst.specs.Parts.{owned_part}
use Rattle.env_subst.specs.Desks.{desk_of}
use Rattle.env_subst.proofs.Doing.{read_ends, read_fails, read_step, leads_too}
use Rattle.env_subst.proofs.reading.read_on.Goals as goal

pub returns-in-End : goal.returns-in-End
returns-in-End c =
    let l = c.args.setting.now.locals.now in
    read_ends (setting_of c.args.setting.now) c.args.desk.now.names c.args.owner c.args.place.text c.as_str.result.now c.args.place.at c.as_str.ensures
    (desk_of l c.args.desk.now) (c.in-End.ensures {u = tt}).reads

pub returns-in-BadBrace : goal.returns-in-BadBrace
returns-in-BadBrace c = λ known.
    let l = c.args.setting.now.locals.now in
    read_fails (setting_of c.args.setting.now) c.args.desk.now.names c.args.owner c.args.place.text c.as_str.result.now c.args.place.at c.as_str.ensures
    (desk_of l c.args.desk.now) (c.in-BadBrace.ensures {u = tt}).reads
    ∙ ap (λ e. Err e) (sym (c.bad_brace.ensures known))

pub returns-in_ok-part-in-Part : goal.returns-in_ok-part-in-Part
returns-in_ok-part-in-Part c =
    let l = c.args.setting.now.locals.now in
    leads_too (setting_of c.args.setting.now) _ _ (desk_of l c.read_part.new.desk) c.read_part.result
    (read_step (setting_of c.args.setting.now) c.args.desk.now.names c.args.owner c.args.place.text c.as_str.result.now c.args.place.at c.as_str.ensures
    (desk_of l c.args.desk.now) (owned_part c.in_ok-part-in-Part.part) (plain c.in-Part.part) c.in-Part.next
    (c.in-Part.ensures {u = tt}).reads (c.in_ok-part-in-Part.ensures {u = tt}))
    c.read_part.ensures
