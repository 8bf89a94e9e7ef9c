use Rattle.std.proofs.Common.{◌≡◌, ◌++◌, map, drop, string_bytes}
use Rattle.env_vars.specs.Given.{behind_spaces, item_text}
use Rattle.env_vars.proofs.shown.put_rest.Given as goal

-- with the items that are left the text is whole
abbrev pub invariant-loop-item : goal.invariant-loop-item
invariant-loop-item l =
    string_bytes l.text ++ behind_spaces (map item_text (drop l.item-index l.items)) ≡ string_bytes l.initial.text ++ behind_spaces (map item_text l.items)
