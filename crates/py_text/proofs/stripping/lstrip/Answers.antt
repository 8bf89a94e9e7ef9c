use Rattle.std.proofs.Common.{◌≡◌, false, ◌∙◌, sym}
use Rattle.py_text.specs.White.{is_white}
use Rattle.py_text.proofs.WhiteLemmas.{lstrip_stops, lstrip_empty}
use Rattle.py_text.proofs.stripping.lstrip.Goals as goal

pub returns-then-not-is_white : goal.returns-then-not-is_white
returns-then-not-is_white c =
    let black : is_white c.in-Some.c ≡ false = sym c.is_white.ensures ∙ c.if-not-is_white.true in
    lstrip_stops c.front.rest.now c.in-Some.after.now c.in-Some.c c.front.invariant.1 (c.in-Some.ensures {u = tt}).1 black ∙ c.front.invariant.0

pub returns : goal.returns
returns c = lstrip_empty c.front.rest.now c.front.invariant.1 (rw c.in_default.is at c.next_char.ensures) ∙ c.front.invariant.0
