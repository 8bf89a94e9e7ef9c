use Rattle.std.proofs.Common.{◌+◌, ℕ, refl, ap, ◌∙◌}
use Rattle.env_subst.specs.Selections.{place_behind}
use Rattle.env_subst.proofs.CharCuts.{item_front, item_beyond}
use Rattle.env_subst.proofs.select.front_ends.Goals as goal

pub returns-then-place-text : goal.returns-then-place-text
returns-then-place-text c = (0, (0, refl, item_beyond c.args.text.now c.args.place c.utf8.text c.if-place-text.true))

pub returns : goal.returns
returns c =
    let place = c.args.place in
    let text = c.args.text.now in
    (place, (place + 1, ap (λ (n : ℕ). (n, c.front_len-2.result)) c.front_len.ensures ∙ ap (λ (n : ℕ). (place_behind place text, n)) c.front_len-2.ensures, item_front text place (place + 1) refl))
