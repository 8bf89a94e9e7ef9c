use Rattle.std.proofs.Common.{◌∙◌, ap, string_bytes, arith}
use Rattle.env_pieces.proofs.Joining.{mark_joins}
use Rattle.env_pieces.proofs.Counting.{mark_counts}
use Rattle.env_pieces.proofs.pieces.Pieces.put_mark.Goals as goal

pub invariant_of-self : goal.invariant_of-self
invariant_of-self c =
    mark_counts c.self.inside.parts c.push_marked.new.parts (string_bytes c.self.inside.text) (string_bytes c.replace-text.new.dest) c.self.inside.len c.self.inside.room c.self.inside.white c.args.mark c.self.invariant
    (rw c.replace-text.ensures.value at (c.in-Ok.ensures {u = tt})) (ap string_bytes c.replace-text.ensures.after ∙ c.new.ensures.bytes) (omega (arith, c.if-self-lt2.false))

pub returns-in-Ok-clause-ok : goal.returns-in-Ok-clause-ok
returns-in-Ok-clause-ok c =
    rw (← c.self.view_is)
    (mark_joins c.self.inside.parts c.push_marked.new.parts (string_bytes c.self.inside.text) (string_bytes c.replace-text.new.dest) c.self.inside.room c.args.mark
    (rw c.replace-text.ensures.value at (c.in-Ok.ensures {u = tt})) (ap string_bytes c.replace-text.ensures.after ∙ c.new.ensures.bytes) (omega (arith, c.if-self-lt2.false)))
