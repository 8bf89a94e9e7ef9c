use Rattle.std.proofs.Common.{arith, rules, ◌≡◌, ◌<◌, ◌++◌, ◌-◌, true, false, sym, ap, ◌∙◌, length, take, chars, encode_utf8_all}
use Rattle.std.proofs.lemmas.Grind.{common_steps}
use Rattle.std.proofs.lemmas.List.{length-append}
use Rattle.py_text.specs.White.{is_white}
use Rattle.py_text.proofs.CharLemmas.{seam, front_of}
use Rattle.py_text.proofs.WhiteLemmas.{passed_more, passed_all, passed_found, shorter_front}
use Rattle.py_text.proofs.splitting.cut_at_white.Goals as goal

pub range-requires-clause-end_boundary : goal.range-requires-clause-end_boundary
range-requires-clause-end_boundary c =
    let passed = c.characters.invariant.0 in
    seam c.args.text.now (encode_utf8_all (take passed.count (chars c.args.text.now))) c.characters.rest.now passed.follows.parts c.characters.invariant.1

pub returns-then-is_white : goal.returns-then-is_white
returns-then-is_white c =
    let passed = c.characters.invariant.0 in
    let next = c.in-Some.ensures {u = tt} in
    let white : is_white c.in-Some.c ≡ true = sym c.is_white.ensures ∙ c.if-is_white.true in
    let cut : c.range.result.now ≡ take (length c.args.text.now - length c.characters.rest.now) c.args.text.now = grind (arith, common_steps) in
    let front : c.range.result.now ≡ encode_utf8_all (take passed.count (chars c.args.text.now)) =
    cut ∙ front_of c.args.text.now (encode_utf8_all (take passed.count (chars c.args.text.now))) c.characters.rest.now passed.follows.parts in
    let parts : c.args.text.now ≡ c.range.result.now ++ c.characters.rest.now = passed.follows.parts ∙ ap (λ l. l ++ c.characters.rest.now) (sym front) in
    let found = passed_found c.args.text.now c.characters.rest.now c.in-Some.after.now c.range.result.now c.in-Some.c passed next.0 next.1 white c.range.utf8 parts in
    let shorter : length c.in-Some.after.now < length c.characters.rest.now = shorter_front c.characters.rest.now c.in-Some.after.now c.in-Some.c next.0 in
    (found.within, found.before, found.behind, omega (arith, ap length parts, length-append c.range.result.now c.characters.rest.now))

pub characters-preserved : goal.characters-preserved
characters-preserved c =
    let next = c.in-Some.ensures {u = tt} in
    let black : is_white c.in-Some.c ≡ false = sym c.is_white.ensures ∙ c.if-is_white.false in
    (passed_more c.args.text.now c.characters.rest.now c.in-Some.after.now c.in-Some.c c.characters.invariant.0 next.0 next.1 black, search rules)

pub returns : goal.returns
returns c = passed_all c.args.text.now c.characters.rest.now c.characters.invariant.0 (rw c.in_default.is at c.next_char.ensures)
