use Rattle.std.proofs.Common.{◌≡◌, ◌≤◌, ◌∙◌, true, ap, length, arith}
use Rattle.env_subst.specs.Settings.{setting_of}
use Rattle.env_subst.specs.Contents.{said}
use Rattle.env_subst.specs.Sayings.{sayings_of}
use Rattle.env_subst.specs.Expansions.{is_open}
use Rattle.env_subst.specs.Frames.{frames_of, left_of}
use Rattle.env_subst.proofs.EntrySteps.{opens_too_deep, opens_again, is_opened}
use Rattle.env_subst.proofs.entries.open.Goals as goal

pub returns-then-len : goal.returns-then-len
returns-then-len c = λ _.
    let w = setting_of c.args.setting.now in
    let e = c.args.entries.now in
    opens_too_deep w e.names c.args.name e.references (left_of w (frames_of w.locals e.frames.frames.items) e.names) (omega arith)

pub returns-then-is_open : goal.returns-then-is_open
returns-then-is_open c =
    let w = setting_of c.args.setting.now in
    let e = c.args.entries.now in
    let few : length e.names ≤ 100001 = omega arith in
    let there : is_open c.args.name e.names ≡ true = cc in
    opens_again w e.names c.args.name e.references (left_of w (frames_of w.locals e.frames.frames.items) e.names) few there

pub returns : goal.returns
returns c =
    let w = setting_of c.args.setting.now in
    let e = c.args.entries.now in
    let few : length e.names ≤ 100001 = omega arith in
    is_opened w (frames_of w.locals e.frames.frames.items) (frames_of w.locals c.push.new.frames.frames.items) e.names c.enter.new.self c.args.name c.in_ok-copy.field-0 (sayings_of w.locals c.said-rest.result) e.references few
    (c.said-rest.ensures w.locals ∙ ap (said w.locals) (c.in_ok-held_in.ensures {u = tt})) (c.in_ok-copy.ensures {u = tt}) (c.in_ok-enter.ensures {u = tt}).ok ((c.in_ok-push.ensures {u = tt}) w.locals)
