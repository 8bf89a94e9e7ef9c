use Rattle.std.proofs.Common.{◌≡◌, ◌++◌, length, map}
use denote.Text.{Utf8}
use denote.Shadow.{shadow}
use Rattle.py_text.specs.Splitting.{words_of}
use Rattle.py_text.proofs.splitting.words.Given as goal

-- with the words that are left these are the words of the text
abbrev pub invariant-parts : goal.invariant-parts
invariant-parts l = (map (λ word. word.now) l.words.items ++ words_of l.rest ≡ words_of l.text) × shadow (Utf8 l.rest)

abbrev pub decreases-parts : goal.decreases-parts
decreases-parts l = length l.rest
