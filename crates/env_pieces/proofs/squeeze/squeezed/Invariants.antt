use Rattle.std.proofs.Common.{◌≡◌, length, string_bytes}
use Rattle.std.specs.Prelude.{fold}
use denote.Shadow.{shadow}
use denote.Text.{Utf8}
use Rattle.env_text.specs.White.{words_of}
use Rattle.env_pieces.specs.Forms.{put_word, squeezed}
use Rattle.env_pieces.proofs.squeeze.squeezed.Given as goal

-- the words that are left, put behind those that are there, give the whole
abbrev pub invariant-parts : goal.invariant-parts
invariant-parts l = (fold put_word (string_bytes l.out) (words_of l.rest) ≡ squeezed l.text) × shadow (Utf8 l.rest)

abbrev pub decreases-parts : goal.decreases-parts
decreases-parts l = length l.rest
