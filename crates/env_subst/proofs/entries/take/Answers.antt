use Rattle.std.proofs.Common.{◌≡◌, ◌∙◌, ap, sym, subst}
use Rattle.env_subst.specs.Settings.{setting_of}
use Rattle.env_subst.specs.Sayings.{sayings_of}
use Rattle.env_subst.specs.Entries.{entry, variable_entries, entries_at}
use Rattle.env_subst.specs.Frames.{frames_of, left_of, Steps}
use Rattle.env_subst.proofs.EntrySteps.{taken_rest, nothing_taken, entry_taken, variable_taken}
use Rattle.env_subst.proofs.entries.take.Goals as goal

pub returns-in-Nothing : goal.returns-in-Nothing
returns-in-Nothing c =
    let w = setting_of c.args.setting.now in
    let e = c.args.entries.now in
    let frames = frames_of w.locals e.frames.frames.items in
    let more = frames_of w.locals c.push.new.frames.frames.items in
    let xs = sayings_of w.locals c.args.first.rest in
    let found = c.in_ok-found.ensures {u = tt} in
    let same : c.found_in.new.names ≡ e.names = found.names in
    nothing_taken w e.names c.args.name c.args.first.saying xs frames more e.references c.in_ok-found.references ((c.in_ok-push.ensures {u = tt}) w.locals)
    (rw c.in-Nothing.is at (found.first (taken_rest w e.names c.args.name xs frames)))
    ∙ ap (λ ns. left_of w more ns c.in_ok-found.references) (sym same)

pub returns-in-Entry : goal.returns-in-Entry
returns-in-Entry c =
    let w = setting_of c.args.setting.now in
    let e = c.args.entries.now in
    let frames = frames_of w.locals e.frames.frames.items in
    let more = frames_of w.locals c.push.new.frames.frames.items in
    let xs = sayings_of w.locals c.args.first.rest in
    let found = c.in_ok-found.ensures {u = tt} in
    let same : c.found_in.new.names ≡ e.names = found.names in
    entry_taken w e.names c.args.name c.args.first.saying xs frames more e.references c.in_ok-found.references ((c.in_ok-push.ensures {u = tt}) w.locals)
    c.in-Entry.entry (rw c.in-Entry.is at (found.first (taken_rest w e.names c.args.name xs frames)))
    ∙ ap (λ ns. entry c.in-Entry.entry (left_of w more ns c.in_ok-found.references)) (sym same)

pub returns-in-Variable : goal.returns-in-Variable
returns-in-Variable c =
    let w = setting_of c.args.setting.now in
    let e = c.args.entries.now in
    let frames = frames_of w.locals e.frames.frames.items in
    let more = frames_of w.locals c.push.new.frames.frames.items in
    let xs = sayings_of w.locals c.args.first.rest in
    let found = c.in_ok-found.ensures {u = tt} in
    let same : c.found_in.new.names ≡ e.names = found.names in
    subst (λ whole. Steps w whole c.enter.new.entries c.enter.result)
    (sym (variable_taken w e.names c.args.name c.args.first.saying xs frames more e.references c.in_ok-found.references ((c.in_ok-push.ensures {u = tt}) w.locals)
    c.in-Variable.name (rw c.in-Variable.is at (found.first (taken_rest w e.names c.args.name xs frames)))
    ∙ ap (λ ns. variable_entries (entries_at w ns) c.in-Variable.name c.in_ok-found.references (left_of w more ns)) (sym same)))
    c.enter.ensures
