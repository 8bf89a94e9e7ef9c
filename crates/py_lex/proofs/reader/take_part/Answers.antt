use Rattle.std.proofs.Common.{refl}
use Rattle.py_lex.proofs.PartUtf8.{part_is_utf8}
use Rattle.py_lex.proofs.PartFits.{part_fits, part_read, part_quote, part_fits_next}
use Rattle.py_lex.proofs.reader.take_part.Goals as goal

pub push_part-requires : goal.push_part-requires
push_part-requires c =
    record { utf8 = (part_is_utf8 (part_quote c.args.text c.args.reader.mode c.requires.part c.requires.fits.quote) (part_read c.in-Ends.is c.in_ok-field.ensures.parts) c.requires.clean).0 }

pub returns-in-Ends-clause-fits : goal.returns-in-Ends-clause-fits
returns-in-Ends-clause-fits c =
    part_fits_next c.args.text c.in-Ends.field c.in-Ends.lines _ _ (part_quote c.args.text c.args.reader.mode c.requires.part c.requires.fits.quote) c.requires.fits
    (part_fits c.in-Ends.is c.args.reader.rest.now c.in_ok-field.ensures.fits) c.mode_behind-reader.ensures refl refl
