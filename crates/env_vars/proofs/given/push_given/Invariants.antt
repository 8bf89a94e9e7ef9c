use Rattle.std.proofs.Common.{◌≡◌, ◌≤◌, ◌++◌, drop}
use Rattle.std.specs.Option.{option_copied}
use Rattle.env_vars.specs.Given.{given_items, spaced_len}
use Rattle.env_vars.proofs.given.push_given.Given as goal

-- with the items that are left these are all
abbrev pub invariant-loop-item : goal.invariant-loop-item
invariant-loop-item l = record {
  whole : l.given.items ++ given_items l.name (option_copied l.fn.old) (drop l.item-index l.items) ≡ given_items l.name (option_copied l.fn.old) l.items;
  len : l.len ≡ spaced_len l.given.items;
  fits : l.len ≤ 16777217;
}
