use Rattle.std.proofs.Common.{◌≡◌}
use Rattle.std.specs.Prelude.{false, true}
use Rattle.scons_words.proofs.WordLemmas.{stray_letter}
use Rattle.scons_words.proofs.reading.first_letter.Goals as goal

pub returns-in-None-clause-none : goal.returns-in-None-clause-none
returns-in-None-clause-none c =
    stray_letter c.args.letters.now c.utf8.letters c.requires (λ cut. let some : false ≡ true = c.in-None.ensures.variant.1 cut in cc)
