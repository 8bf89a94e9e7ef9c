use Rattle.std.proofs.Common.{arith, ◌<◌, length, sym, subst}
use Rattle.py_lex.specs.Utf8.{IsClean}
use Rattle.py_lex.proofs.PartFits.{turn_fits}
use Rattle.py_lex.proofs.StepUtf8.{name_is_clean, quoted_is}
use Rattle.py_lex.proofs.token.name_token.Goals as goal

pub text_token-requires-clause-clean : goal.text_token-requires-clause-clean
text_token-requires-clause-clean c =
    let rest = subst (λ x. IsClean x) (sym c.cut_name.ensures.rest) (name_is_clean c.args.bytes.now c.requires.clean) in
    (quoted_is c.cut_name.result.1.now c.in-Some.quote c.in-Some.inside.now c.in-Some.ensures.quoted rest).1

pub returns-in-Format-clause-fits : goal.returns-in-Format-clause-fits
returns-in-Format-clause-fits c =
    let shorter : length c.in-Some.inside.now < length c.args.bytes.now = omega (arith, c.in-Some.ensures.fits, c.cut_name.ensures.fits) in
    turn_fits c.args.depth c.args.bytes.now c.in-Some.inside.now c.text_begun.result shorter (c.text_begun.ensures.fits c.args.depth)

pub returns-in-RawFormat-clause-fits : goal.returns-in-RawFormat-clause-fits
returns-in-RawFormat-clause-fits c =
    let shorter : length c.in-Some.inside.now < length c.args.bytes.now = omega (arith, c.in-Some.ensures.fits, c.cut_name.ensures.fits) in
    turn_fits c.args.depth c.args.bytes.now c.in-Some.inside.now c.text_begun-in-RawFormat.result shorter (c.text_begun-in-RawFormat.ensures.fits c.args.depth)
