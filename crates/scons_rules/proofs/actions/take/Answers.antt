use Rattle.std.proofs.Common.{◌∙◌, ap, sym, refl}
use Rattle.std.specs.Borrow.{Bor}
use Rattle.std.proofs.lemmas.List.{map_push}
use Rattle.scons_rules.specs.Expanding.{expanding}
use Rattle.scons_rules.specs.ActionsLeft.{texts_in, list_items}
use Rattle.scons_rules.proofs.Acting.{took, after_text}
use Rattle.scons_rules.proofs.actions.take.Goals as goal

pub returns-in-Some : goal.returns-in-Some
returns-in-Some c =
    took (expanding c.args.rule.now) c.args.actions.now c.follow.new.actions c.args.action.now (list_items c.in-Some.list) c.follow.result
    (sym c.in-Some.ensures) c.follow.ensures.ok c.follow.ensures.fault

pub returns-in_ok-push-in-None : goal.returns-in_ok-push-in-None
returns-in_ok-push-in-None c =
    after_text (expanding c.args.rule.now) c.args.actions.now (record { left = c.args.actions.now.left; found = c.push.new.self; references = c.args.actions.now.references })
    c.args.action.now (sym c.in-None.ensures)
    (ap texts_in c.in_ok-push-in-None.ensures.items ∙ map_push (λ t. t.now) c.args.actions.now.found.items c.args.action) refl refl
