use Rattle.std.proofs.Common.{◌≡◌, ◌++◌, take}
use Rattle.env_vars.specs.Added.{as_items}
use Rattle.env_vars.proofs.forms.push_words.Given as goal

abbrev pub invariant-loop-word : goal.invariant-loop-word
invariant-loop-word l = l.items.items ≡ l.initial.items.items ++ as_items (take l.word-index l.words)
