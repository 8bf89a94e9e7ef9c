use Rattle.std.proofs.Common.{◌≡◌, ◌∙◌, ap, length, string_bytes, arith}
use Rattle.env_pieces.specs.Pieces.{pieces_of}
use Rattle.env_pieces.specs.Parts.{sheet_of}
use Rattle.env_pieces.proofs.Joining.{all_pieces, sheet_count}
use Rattle.env_pieces.proofs.pieces.Pieces.finish.Goals as goal

pub returns-clause-pieces : goal.returns-clause-pieces
returns-clause-pieces c =
    (c.in_ok-pieces.ensures {u = tt}) ∙ all_pieces c.self.inside.parts c.push_text.new.parts (string_bytes c.self.inside.text) c.self.inside.room (c.in_ok-push_text.ensures {u = tt}) ∙ ap pieces_of c.self.view_is

pub returns-clause-count : goal.returns-clause-count
returns-clause-count c =
    let count : length c.in_ok-pieces.pieces.items ≡ length (pieces_of (sheet_of c.self.inside.parts (string_bytes c.self.inside.text) c.self.inside.room)) =
    ap length ((c.in_ok-pieces.ensures {u = tt}) ∙ all_pieces c.self.inside.parts c.push_text.new.parts (string_bytes c.self.inside.text) c.self.inside.room (c.in_ok-push_text.ensures {u = tt})) in
    omega (arith, count, sheet_count c.self.inside.parts (string_bytes c.self.inside.text) c.self.inside.room, c.self.invariant.0, c.self.invariant.1)
