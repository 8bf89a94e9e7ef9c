use Rattle.std.proofs.Common.{◌≡◌, ◌++◌, List, ℕ, length}
use denote.Text.{Utf8}
use denote.Shadow.{shadow}
use Rattle.py_text.specs.Sizes.{saturated}
use Rattle.py_text.specs.Splitting.{words_of}
use Rattle.py_text.proofs.splitting.word_count.Given as goal

-- with the words that are left, those that were counted are the words of the text
abbrev pub invariant-parts : goal.invariant-parts
invariant-parts l = ((words : List (List ℕ)) × (l.count ≡ saturated (length words)) × (words ++ words_of l.rest ≡ words_of l.text)) × shadow (Utf8 l.rest)

abbrev pub decreases-parts : goal.decreases-parts
decreases-parts l = length l.rest
