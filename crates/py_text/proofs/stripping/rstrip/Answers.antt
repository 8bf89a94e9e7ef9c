use Rattle.std.proofs.Common.{◌≡◌, false, ◌∙◌, sym}
use Rattle.py_text.specs.White.{is_white}
use Rattle.py_text.proofs.WhiteLemmas.{rstrip_stops, rstrip_empty}
use Rattle.py_text.proofs.stripping.rstrip.Goals as goal

pub returns-then-not-is_white : goal.returns-then-not-is_white
returns-then-not-is_white c =
    let black : is_white c.in-Some.c ≡ false = sym c.is_white.ensures ∙ c.if-not-is_white.true in
    rstrip_stops c.end.rest.now c.in-Some.before.now c.in-Some.c c.end.invariant.1 (c.in-Some.ensures {u = tt}).1 black ∙ c.end.invariant.0

pub returns : goal.returns
returns c = rstrip_empty c.end.rest.now c.end.invariant.1 (rw c.in_default.is at c.last_char.ensures) ∙ c.end.invariant.0
