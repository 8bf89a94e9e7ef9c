use Rattle.std.proofs.Common.{arith, ◌≡◌, Some, None}
use Rattle.std.specs.Prelude.{position}
use Rattle.std.proofs.lemmas.Str.{IsCharBoundary-before_ascii, IsCharBoundary-after_ascii}
use Rattle.env_text.specs.Bytes.{is_white}
use Rattle.env_text.proofs.Whites.{place_some, place_none, white_ascii}
use Rattle.env_text.proofs.white.split_at_white.Goals as goal

pub range-requires-clause-end_boundary : goal.range-requires-clause-end_boundary
range-requires-clause-end_boundary c =
    let found : position is_white c.args.text.now ≡ Some c.in-Some.place = grind arith in
    let k = place_some c.args.text.now c.in-Some.place found in
    IsCharBoundary-before_ascii c.args.text.now c.in-Some.place k.1 (white_ascii _ k.2)

pub range_from-requires : goal.range_from-requires
range_from-requires c = λ _.
    let found : position is_white c.args.text.now ≡ Some c.in-Some.place = grind arith in
    let k = place_some c.args.text.now c.in-Some.place found in
    IsCharBoundary-after_ascii c.args.text.now c.in-Some.place c.utf8.text k.1 (white_ascii _ k.2)

pub returns-in-None : goal.returns-in-None
returns-in-None c =
    let none : position is_white c.args.text.now ≡ None = grind arith in
    place_none c.args.text.now none
