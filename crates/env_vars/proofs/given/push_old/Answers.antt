use Rattle.std.proofs.Common.{◌≡◌, ◌∙◌, ◌<◌, ◌+◌, ◌++◌, length, sym, ap, arith, length-append}
use Rattle.env_vars.specs.Given.{value_items, spaced_len}
use Rattle.env_vars.proofs.Lengths.{old_len, none_shown, longer_with}
use Rattle.env_vars.proofs.given.push_old.Goals as goal

pub returns-then-len-before-clause-len : goal.returns-then-len-before-clause-len
returns-then-len-before-clause-len c =
    let old = c.args.old.now in
    let put : c.push_value.new.items.items ≡ c.args.given.now.items ++ value_items old = c.in_ok-push_value.ensures {u = tt} in
    let some : 0 < length (value_items old) = omega (arith, ap length put, length-append c.args.given.now.items (value_items old)) in
    longer_with c.args.len (length c.args.as_text.now) (spaced_len (value_items old)) c.longer.result (old_len old some ∙ ap (λ t. length t + 1) (sym c.requires.text)) c.longer.ensures

pub returns-else-len-before-clause-len : goal.returns-else-len-before-clause-len
returns-else-len-before-clause-len c =
    let old = c.args.old.now in
    let put : c.push_value.new.items.items ≡ c.args.given.now.items ++ value_items old = c.in_ok-push_value.ensures {u = tt} in
    let none : length (value_items old) ≡ 0 = omega (arith, ap length put, length-append c.args.given.now.items (value_items old)) in
    (omega (arith, none_shown (value_items old) none), c.requires.len)
