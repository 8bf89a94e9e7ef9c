use Rattle.std.proofs.Common.{◌∙◌, sym, ap, string_bytes}
use Rattle.std.specs.List.{list_all}
use Rattle.env_text.specs.Bytes.{is_white}
use Rattle.env_pieces.specs.Pieces.{pieces_of}
use Rattle.env_pieces.specs.Forms.{texts_of}
use Rattle.env_pieces.proofs.Blanks.{blank_text}
use Rattle.env_pieces.proofs.Joining.{sheet_texts}
use Rattle.env_pieces.proofs.pieces.Pieces.is_blank.Goals as goal

pub returns : goal.returns
returns c =
    c.self.invariant.2
    ∙ ap (list_all is_white) (sym (sheet_texts c.self.inside.parts (string_bytes c.self.inside.text) c.self.inside.room) ∙ ap (λ s. texts_of (pieces_of s)) c.self.view_is)
    ∙ sym (blank_text (texts_of (pieces_of c.args.self.now)))
