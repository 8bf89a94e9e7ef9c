use Rattle.std.proofs.Common.{◌≡◌, ◌++◌, length}
use denote.Shadow.{shadow}
use denote.Text.{Utf8}
use Rattle.env_text.specs.White.{words_of}
use Rattle.env_vars.proofs.words.words_of.Given as goal

-- with the words that are left these are the words of the text
abbrev pub invariant-parts : goal.invariant-parts
invariant-parts l = (l.words.items ++ words_of l.rest ≡ words_of l.text) × shadow (Utf8 l.rest)

abbrev pub decreases-parts : goal.decreases-parts
decreases-parts l = length l.rest
