use Rattle.std.proofs.Common.{◌≡◌, ◌&&◌, ◌==◌, not, true, false, length, arith}
use Rattle.env_pieces.specs.Pieces.{pieces_of}
use Rattle.env_pieces.specs.Forms.{text_of}
use Rattle.env_subst.specs.Settings.{setting_of}
use Rattle.env_subst.specs.Desks.{tasks_of, desk_of}
use Rattle.env_subst.proofs.Doing.{leads_too}
use Rattle.env_subst.proofs.CallSteps.{read_known, read_empty, read_put}
use Rattle.env_subst.proofs.apart.put_read.Goals as goal

pub returns-then-not-alone : goal.returns-then-not-alone
returns-then-not-alone c =
    let l = c.args.setting.now.locals.now in
    let w = setting_of c.args.setting.now in
    let d = c.args.desk.now in
    let known : (c.args.call.directories && not c.args.alone) ≡ true = grind arith in
    leads_too w _ _ (desk_of l c.put_known.new.desk) c.put_known.result
    (read_known w (tasks_of l d.tasks.tasks.items) d.names d.pieces c.replace-inner.result c.args.outer c.replace-inner.new.dest d.references c.args.call c.args.alone
    c.replace-inner.ensures.value c.replace-inner.ensures.after c.in_ok-text.text (c.in_ok-text.ensures {u = tt}) known)
    c.put_known.ensures

pub returns-then-is_blank : goal.returns-then-is_blank
returns-then-is_blank c =
    let l = c.args.setting.now.locals.now in
    let w = setting_of c.args.setting.now in
    let d = c.args.desk.now in
    let other : (c.args.call.directories && not c.args.alone) ≡ false = grind arith in
    let empty : (length (text_of (pieces_of c.replace-inner.result)) == 0) ≡ true = cc in
    read_empty w (tasks_of l d.tasks.tasks.items) d.names d.pieces c.replace-inner.result c.args.outer c.replace-inner.new.dest d.references c.args.call c.args.alone
    c.replace-inner.ensures.value c.replace-inner.ensures.after other empty

pub returns : goal.returns
returns c =
    let l = c.args.setting.now.locals.now in
    let w = setting_of c.args.setting.now in
    let d = c.args.desk.now in
    let other : (c.args.call.directories && not c.args.alone) ≡ false = grind arith in
    let full : (length (text_of (pieces_of c.replace-inner.result)) == 0) ≡ false = cc in
    leads_too w _ _ (desk_of l c.put_pieces.new.desk) c.put_pieces.result
    (read_put w (tasks_of l d.tasks.tasks.items) d.names d.pieces c.replace-inner.result c.args.outer c.replace-inner.new.dest d.references c.args.call c.args.alone
    c.replace-inner.ensures.value c.replace-inner.ensures.after other full)
    c.put_pieces.ensures
