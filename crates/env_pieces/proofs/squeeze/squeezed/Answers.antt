use Rattle.std.proofs.Common.{rules, string_bytes}
use Rattle.env_pieces.proofs.Squeezing.{squeeze_step, squeeze_end}
use Rattle.env_pieces.proofs.squeeze.squeezed.Goals as goal

pub parts-preserved : goal.parts-preserved
parts-preserved c = (
  squeeze_step (string_bytes c.parts.out) (string_bytes c.put_part.new.out) c.args.text.now c.parts.rest.now c.in-Some.part.now c.in-Some.after.now c.parts.invariant.0 (c.in_ok-put_part.ensures {u = tt}) (c.in-Some.ensures {u = tt}).0 (c.in-Some.ensures {u = tt}).1 (c.in-Some.ensures {u = tt}).2,
  search rules,
)

pub returns : goal.returns
returns c =
    squeeze_end (string_bytes c.parts.out) (string_bytes c.put_part-2.new.out) c.args.text.now c.parts.rest.now c.parts.invariant.0 (c.in_ok-put_part-2.ensures {u = tt}) (rw c.in_default.is at c.split_at_white.ensures)
