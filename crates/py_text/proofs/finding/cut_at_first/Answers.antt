use Rattle.std.proofs.Common.{arith, ◌≡◌, ◌+◌, length, take, drop}
use Rattle.std.proofs.lemmas.Grind.{common_steps}
use Rattle.py_text.proofs.PlaceLemmas.{cuts_at, cuts_nowhere, boundary, boundary_behind}
use Rattle.py_text.proofs.finding.cut_at_first.Goals as goal

pub returns-in_err-place : goal.returns-in_err-place
returns-in_err-place c =
    rw c.from_residual.ensures (cuts_nowhere c.args.part.now c.args.text.now c.utf8.text c.utf8.part (rw (c.as_bytes.ensures.value, c.as_bytes-2.ensures.value) at (c.in_err-place.ensures {u = tt})))

pub range-requires-clause-end_boundary : goal.range-requires-clause-end_boundary
range-requires-clause-end_boundary c =
    let found = rw (c.as_bytes.ensures.value, c.as_bytes-2.ensures.value) at (c.in_ok-place.ensures {u = tt}) in
    boundary c.args.part.now c.args.text.now c.in_ok-place.place c.utf8.text c.utf8.part found.0 found.1

pub range_from-requires : goal.range_from-requires
range_from-requires c = λ _.
    let found = rw (c.as_bytes.ensures.value, c.as_bytes-2.ensures.value) at (c.in_ok-place.ensures {u = tt}) in
    boundary_behind c.args.part.now c.args.text.now c.in_ok-place.place c.utf8.text c.utf8.part found.0 found.1

pub returns : goal.returns
returns c =
    let found = rw (c.as_bytes.ensures.value, c.as_bytes-2.ensures.value) at (c.in_ok-place.ensures {u = tt}) in
    let cuts = cuts_at c.args.part.now c.args.text.now c.in_ok-place.place c.utf8.text c.utf8.part found.0 found.1 in
    let front : c.range.result.now ≡ take c.in_ok-place.place c.args.text.now = grind (arith, common_steps) in
    let rest : c.range_from.result.now ≡ drop (c.in_ok-place.place + length c.args.part.now) c.args.text.now = c.range_from.ensures.value in
    rw (front, rest) (cuts.first, cuts.whole, cuts.characters)
