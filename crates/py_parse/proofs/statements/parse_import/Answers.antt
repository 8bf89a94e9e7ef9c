use Rattle.std.proofs.Common.{refl}
use Rattle.py_parse.proofs.Paths.{import_unfit0, import_unfit1, import_unfit2, import_unfit3, import_unfit4, import_ok}
use Rattle.py_parse.proofs.statements.parse_import.Goals as goal

pub returns-in_default : goal.returns-in_default
returns-in_default c = λ d. import_unfit0 d _ c.in_default.ensures

pub returns-in_default-strip : goal.returns-in_default-strip
returns-in_default-strip c = λ d. import_unfit1 d _ c.in-Some.ensures c.in_default-strip.ensures

pub returns-in_default-strip-2 : goal.returns-in_default-strip-2
returns-in_default-strip-2 c = λ d. import_unfit2 d _ c.in-Some.ensures c.in-Some-strip.ensures c.in_default-strip-2.ensures

pub returns-in_default-strip-3 : goal.returns-in_default-strip-3
returns-in_default-strip-3 c = λ d. import_unfit3 d _ c.in-Some.ensures c.in-Some-strip.ensures c.in-Some-strip-2.ensures c.in_default-strip-3.ensures

pub returns-in_default-strip-4 : goal.returns-in_default-strip-4
returns-in_default-strip-4 c = λ d. import_unfit4 d _ c.in-Some.ensures c.in-Some-strip.ensures c.in-Some-strip-2.ensures c.in-Some-strip-3.ensures c.in_default-strip-4.ensures

pub returns : goal.returns
returns c = λ d. import_ok d _ c.in-Some.ensures c.in-Some-strip.ensures c.in-Some-strip-2.ensures c.in-Some-strip-3.ensures c.in-Some-strip-4.ensures refl
