use Rattle.std.proofs.Common.{◌≡◌, ◌++◌, drop}
use Rattle.std.specs.Option.{option_map}
use Rattle.env_vars.specs.Added.{texts_of}
use Rattle.env_vars.proofs.forms.texts_of.Given as goal

-- with the texts that are left these are the texts of the list
abbrev pub invariant-loop-item : goal.invariant-loop-item
invariant-loop-item l = option_map (λ rest. l.texts.items ++ rest) (texts_of (drop l.item-index l.items)) ≡ texts_of l.items
