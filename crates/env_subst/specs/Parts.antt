-- Parts of a text with names of their own.
use Rattle.env_text.specs.Parts.{PlainPart, text, begin, end, variable, concat}
use Rattle.env_pieces.specs.declared.piece.Mark.TheVariants.{Begin, End}
use Rattle.env_subst.specs.declared.part.OwnedPart.{OwnedPart}
use Rattle.env_subst.specs.declared.part.OwnedPart.TheVariants as owned

abbrev pub owned_part : OwnedPart → PlainPart
owned_part (owned.Text t) = text t
owned_part (owned.Mark Begin) = begin
owned_part (owned.Mark End) = end
owned_part (owned.Variable name selection attribute) = variable name selection attribute
owned_part (owned.Call call) = concat call.prefix call.list call.suffix call.directories
