-- What substitution answers.
use Rattle.std.specs.Prelude.{ℕ, List, [], Result, Ok, Err, if◌then◌else◌}
use Rattle.env_pieces.specs.declared.form.FormFault.{FormFault}
use Rattle.env_pieces.specs.declared.form.FormFault.TheVariants as form
use Rattle.env_pieces.specs.declared.form.Mode.{Mode}
use Rattle.env_pieces.specs.declared.form.Mode.TheVariants as mode
use Rattle.env_pieces.specs.declared.piece.Piece.{Piece}
use Rattle.env_pieces.specs.Pieces.{pieces_of}
use Rattle.env_pieces.specs.Forms.{shown}
use Rattle.env_pieces.specs.Lines.{line_forms}
use Rattle.env_subst.specs.declared.fault.SubstFault.{SubstFault}
use Rattle.env_subst.specs.declared.fault.SubstFault.TheVariants.{Marks, Memory}
use Rattle.env_subst.specs.Settings.{Setting}
use Rattle.env_subst.specs.Expansions.{Answer, is_literal, text_at, start}

abbrev pub form_or_fault : {X : Type 0} → Result X ℕ → Result X SubstFault
form_or_fault (Ok form) = Ok form
form_or_fault (Err piece) = Err (Marks piece)

abbrev pub pieces_or_fault : Answer → Result (List Piece) SubstFault
pieces_or_fault (Ok s) = Ok (pieces_of s.sheet)
pieces_or_fault (Err fault) = Err fault

-- the pieces of what comes of a text
abbrev pub expansion : Setting → List ℕ → Result (List Piece) SubstFault
expansion w t = pieces_or_fault (text_at w [] [] t start)

abbrev pub in_form : {X : Type 0} → (List Piece → Result X ℕ) → Result (List Piece) SubstFault → Result X SubstFault
in_form form (Ok pieces) = form_or_fault (form pieces)
in_form form (Err fault) = Err fault

-- the form of what comes of a text
abbrev pub substituted : Setting → Mode → List ℕ → Result (List ℕ) SubstFault
substituted w m t = in_form (shown m) (expansion w t)

-- the forms of its lines
abbrev pub lines_of : Setting → Mode → List ℕ → Result (List (List ℕ)) SubstFault
lines_of w m t = in_form (line_forms m) (expansion w t)

-- the text of a path: one without a `$` is taken as it stands
abbrev pub path_text : Setting → List ℕ → Result (List ℕ) SubstFault
path_text w t = if is_literal t then Ok t else substituted w mode.Text t

abbrev pub form_fault : FormFault → SubstFault
form_fault (form.Marks piece) = Marks piece
form_fault form.Memory = Memory
