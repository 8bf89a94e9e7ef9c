use Rattle.std.proofs.Common.{refl, ap, string_bytes, arith}
use Rattle.env_pieces.proofs.Joining.{parts_join, parts_out}
use Rattle.env_pieces.proofs.Counting.{parts_count}
use Rattle.env_pieces.proofs.pieces.Pieces.append.Goals as goal

pub returns-then-other-self-clause-fault : goal.returns-then-other-self-clause-fault
returns-then-other-self-clause-fault c =
    rw (← c.self.view_is, ← c.other.view_is) (λ h. (
      refl,
      parts_out c.self.inside.parts c.other.inside.parts (string_bytes c.self.inside.text) (string_bytes c.other.inside.text) c.self.inside.room c.other.inside.room c.other.inside.len c.other.invariant.0 (omega (arith, c.if-other-self.true)),
    ))

pub invariant_of-self : goal.invariant_of-self
invariant_of-self c =
    parts_count c.self.inside.parts c.other.inside.parts c.push_parts.new.parts (string_bytes c.self.inside.text) (string_bytes c.other.inside.text) (string_bytes c.replace-before.new.dest)
    c.self.inside.len c.self.inside.room c.other.inside.len c.other.inside.room c.self.inside.white c.other.inside.white c.both-self-inside.result c.self.invariant c.other.invariant
    (rw c.replace-before.ensures.value at (c.in-Ok.ensures {u = tt})) (ap string_bytes c.replace-before.ensures.after) (omega (arith, c.if-other-self.false)) c.both-self-inside.ensures

pub returns-in-Ok-clause-ok : goal.returns-in-Ok-clause-ok
returns-in-Ok-clause-ok c =
    rw (← c.self.view_is, ← c.other.view_is)
    (parts_join c.self.inside.parts c.other.inside.parts (string_bytes c.self.inside.text) (string_bytes c.other.inside.text) c.self.inside.room c.other.inside.room c.push_parts.new.parts (string_bytes c.replace-before.new.dest) c.other.inside.len
    (rw c.replace-before.ensures.value at (c.in-Ok.ensures {u = tt})) (ap string_bytes c.replace-before.ensures.after) c.other.invariant.0 (omega (arith, c.if-other-self.false)))
