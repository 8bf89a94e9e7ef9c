use Rattle.std.proofs.Common.{sym, subst}
use Rattle.py_lex.specs.Steps.{start}
use Rattle.py_lex.specs.Utf8.{IsClean}
use Rattle.py_lex.specs.Lexes.{Reads, lexed, ends_with, stops_at}
use Rattle.py_lex.specs.Views.{state_of}
use Rattle.py_lex.proofs.Reading.{leads_on, start_is_clean, step_in_line}
use Rattle.py_lex.proofs.lexer.lex_script.Goals as goal

pub script-preserved : goal.script-preserved
script-preserved c =
    let next = rw c.in-Goes.is at c.in_ok-next.ensures.fits in
    leads_on _ c.script.invariant (rw c.in-Goes.is at c.in_ok-next.ensures.steps) next.fits

pub returns-in-Ends : goal.returns-in-Ends
returns-in-Ends c =
    subst (λ ts. Reads (start c.args.script.now) (lexed ts)) (sym c.new.ensures)
    (c.script.invariant.whole _ (ends_with c.in-Ends.tokens.items (rw c.in-Ends.is at c.in_ok-next.ensures.steps)))

pub returns-in-Stops : goal.returns-in-Stops
returns-in-Stops c =
    c.script.invariant.whole _ (stops_at c.in-Stops.line c.in-Stops.kind (rw c.in-Stops.is at c.in_ok-next.ensures.steps))

pub next_step-requires-clause-clean : goal.next_step-requires-clause-clean
next_step-requires-clause-clean c = c.script.invariant.clean

pub script-init : goal.script-init
script-init c = record {
  whole = λ o r. subst (λ x. Reads x o) c.in_ok-reader.ensures.state r;
  fits = c.in_ok-reader.ensures.fits c.requires.fits;
  clean = subst (λ x. IsClean x.rest) (sym c.in_ok-reader.ensures.state) (start_is_clean c.args.script.now c.requires.clean);
}

pub script-preserved-then-is_in_line : goal.script-preserved-then-is_in_line
script-preserved-then-is_in_line c =
    let next = rw c.in_default.is at c.in_ok-line.ensures.fits in
    leads_on _ c.script.invariant (step_in_line (state_of c.script.reader) _ c.if-is_in_line.ensures.0 (rw c.in_default.is at c.in_ok-line.ensures.steps)) next.fits

pub returns-in-Some : goal.returns-in-Some
returns-in-Some c =
    c.script.invariant.whole _
    (stops_at c.in-Some.field-0.line c.in-Some.field-0.kind
    (step_in_line (state_of c.script.reader) _ c.if-is_in_line.ensures.0 (rw c.in-Some.is at c.in_ok-line.ensures.steps)))
