use Rattle.std.proofs.Common.{ℕ, refl}
use Rattle.py_parse.specs.Grammar as grammar
use Rattle.py_parse.specs.Reading.{Reads}
use Rattle.py_parse.proofs.Cases.{agrees_over}
use Rattle.py_parse.proofs.Paths.{pass_ok, from_tail}
use Rattle.py_parse.proofs.Simples.{break_ok, continue_ok, return_answers, assignment_answers}
use Rattle.py_parse.proofs.statements.parse_small.Goals as goal

pub returns-in-Some : goal.returns-in-Some
returns-in-Some c = pass_ok _ _ c.in-Some.ensures refl

pub returns-in-Some-strip : goal.returns-in-Some-strip
returns-in-Some-strip c =
    agrees_over _ c.parse_import.result (λ o. (d : ℕ) → Reads d (grammar.import_body c.in-Some-strip.word.now.line) c.in-Some-strip.rest.now o) _
    (λ o q. from_tail c.args.depth c.args.site c.in_default.ensures c.in-Some-strip.ensures (q c.args.depth)) c.parse_import.ensures

pub returns-in-Some-strip_where : goal.returns-in-Some-strip_where
returns-in-Some-strip_where c = break_ok _ _ _ _ _ (record { no_pass = c.in_default.ensures; no_from = c.in_default-strip.ensures }) c.in-Some-strip_where.ensures

pub returns-in-Some-strip_where-2 : goal.returns-in-Some-strip_where-2
returns-in-Some-strip_where-2 c =
    continue_ok _ _ _ _ _ (record { no_pass = c.in_default.ensures; no_from = c.in_default-strip.ensures }) c.in_default-strip_where.ensures c.in-Some-strip_where-2.ensures

pub returns-in-Some-strip_where-3 : goal.returns-in-Some-strip_where-3
returns-in-Some-strip_where-3 c =
    return_answers _ _ _ _ _ _ _
    (record { wordless = record { no_pass = c.in_default.ensures; no_from = c.in_default-strip.ensures }; no_break = c.in_default-strip_where.ensures; no_continue = c.in_default-strip_where-2.ensures })
    c.in-Some-strip_where-3.ensures c.parse_return.ensures

pub returns : goal.returns
returns c =
    assignment_answers _ _ _ _ _
    (record { wordless = record { no_pass = c.in_default.ensures; no_from = c.in_default-strip.ensures }; no_break = c.in_default-strip_where.ensures; no_continue = c.in_default-strip_where-2.ensures })
    c.in_default-strip_where-3.ensures c.parse_assignment.ensures
