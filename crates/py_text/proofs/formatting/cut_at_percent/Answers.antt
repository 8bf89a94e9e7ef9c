use Rattle.std.proofs.Common.{arith, ◌≡◌, ◌+◌, take, drop}
use Rattle.std.proofs.lemmas.Grind.{common_steps}
use Rattle.std.proofs.lemmas.Str.{IsCharBoundary-before_ascii, IsCharBoundary-after_ascii}
use Rattle.py_text.proofs.FormatLemmas.{percent_cut, percent_ascii, percent_nowhere}
use Rattle.py_text.proofs.formatting.cut_at_percent.Goals as goal

pub returns-in_err-place : goal.returns-in_err-place
returns-in_err-place c = rw c.from_residual.ensures (percent_nowhere c.args.text.now (rw c.as_bytes.ensures.value at (c.in_err-place.ensures {u = tt})))

pub range-requires-clause-end_boundary : goal.range-requires-clause-end_boundary
range-requires-clause-end_boundary c =
    let found = rw c.as_bytes.ensures.value at (c.in_ok-place.ensures {u = tt}) in
    IsCharBoundary-before_ascii c.args.text.now c.in_ok-place.place found.0.high (percent_ascii c.args.text.now c.in_ok-place.place found.1)

pub range_from-requires : goal.range_from-requires
range_from-requires c = λ _.
    let found = rw c.as_bytes.ensures.value at (c.in_ok-place.ensures {u = tt}) in
    IsCharBoundary-after_ascii c.args.text.now c.in_ok-place.place c.utf8.text found.0.high (percent_ascii c.args.text.now c.in_ok-place.place found.1)

pub returns : goal.returns
returns c =
    let found = rw c.as_bytes.ensures.value at (c.in_ok-place.ensures {u = tt}) in
    let front : c.range.result.now ≡ take c.in_ok-place.place c.args.text.now = grind (arith, common_steps) in
    let rest : c.range_from.result.now ≡ drop (c.in_ok-place.place + 1) c.args.text.now = c.range_from.ensures.value in
    rw (front, rest) (percent_cut c.args.text.now c.in_ok-place.place found.0 found.1)
