use Rattle.std.proofs.Common.{◌∙◌, ◌+◌, ◌++◌, sym, ap, arith}
use Rattle.std.specs.Option.{option_copied}
use Rattle.std.proofs.lemmas.Result.{err_from_is_err_and}
use Rattle.env_vars.specs.Given.{given_item, given_items, spaced_len}
use Rattle.env_vars.proofs.Lengths.{len_none, len_append, given_on, given_too_long}
use Rattle.env_vars.proofs.given.push_given.Goals as goal

pub loop-item-init : goal.loop-item-init
loop-item-init c = record {
  whole = ap (λ xs. xs ++ given_items c.args.name.now (option_copied c.args.old) c.args.items.now) c.requires.none;
  len = sym (ap spaced_len c.requires.none ∙ len_none);
  fits = omega arith;
}

pub loop-item-preserved : goal.loop-item-preserved
loop-item-preserved c =
    let name = c.args.name.now in
    let old = option_copied c.args.old in
    let x = c.item-item.result in
    let more = c.in_ok-len.ensures {u = tt} in
    record {
      whole = given_on name old c.args.items.now c.loop-item.item-index x c.loop-item-test.true c.item-item.is c.loop-item.given.items c.push_item.new.given.items
          (given_items name old c.args.items.now) more.ok c.loop-item.invariant.whole;
      len = more.len.0 ∙ ap (λ n. n + spaced_len (given_item name old x)) c.loop-item.invariant.len ∙ sym (len_append c.loop-item.given.items (given_item name old x)) ∙ ap spaced_len (sym more.ok);
      fits = more.len.1;
    }

pub returns-in_err-len-clause-too_long : goal.returns-in_err-len-clause-too_long
returns-in_err-len-clause-too_long c =
    let name = c.args.name.now in
    let old = option_copied c.args.old in
    let x = c.item-item.result in
    let p = err_from_is_err_and c.from_residual.result c.from_residual.ensures.1 in
    rw (p.1, p.2) (λ h. given_too_long name old c.args.items.now c.loop-item.item-index x c.loop-item-test.true c.item-item.is c.loop-item.given.items
    (given_items name old c.args.items.now) 16777217 c.loop-item.len c.loop-item.invariant.len c.loop-item.invariant.whole ((c.in_err-len.ensures {u = tt}).len h))
