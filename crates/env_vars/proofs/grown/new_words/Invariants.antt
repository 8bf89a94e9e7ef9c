use Rattle.std.proofs.Common.{◌≡◌, ◌++◌, take}
use Rattle.std.specs.Prelude.{fold}
use Rattle.env_vars.specs.Added.{as_items, add_new}
use Rattle.env_vars.proofs.grown.new_words.Given as goal

abbrev pub invariant-loop-word : goal.invariant-loop-word
invariant-loop-word l = as_items (l.old ++ l.new.items) ≡ fold add_new (as_items l.old) (take l.word-index (as_items l.added))
