-- What is counted of parts, behind what is put.
use Rattle.std.proofs.Common.{◌≡◌, ◌≤◌, ◌∙◌, ℕ, ◌+◌, ◌-◌, Bool, List, [], ◌∷◌, ◌++◌, sym, ap, length, append_assoc, arith}
use Rattle.std.specs.Prelude.{◌&&◌}
use Rattle.std.specs.List.{list_all}
use Rattle.std.proofs.lemmas.List.{append-nil}
use Rattle.std.proofs.lemmas.List.Folds.{list_all-append}
use Rattle.env_text.specs.Bytes.{is_white}
use Rattle.env_pieces.specs.declared.piece.Mark.{Mark}
use Rattle.env_pieces.specs.declared.piece.Piece.{Piece}
use Rattle.env_pieces.specs.declared.piece.Piece.TheVariants as piece
use Rattle.env_pieces.specs.Pieces.{text_piece}
use Rattle.env_pieces.specs.Forms.{texts_of}
use Rattle.env_pieces.specs.Parts.{bytes_of, AreCounted}
use Rattle.env_pieces.proofs.Joining.{bytes_of-append, texts_of-append, bytes_of_text, texts_of_text}

bytes_with : (parts more : List Piece) (text : List ℕ) → bytes_of ((parts ++ text_piece text) ++ more) ≡ bytes_of parts + length text + bytes_of more
bytes_with parts more text = omega (arith, bytes_of-append (parts ++ text_piece text) more, bytes_of-append parts (text_piece text), bytes_of_text text)

texts_with : (parts more : List Piece) (text : List ℕ) → texts_of ((parts ++ text_piece text) ++ more) ≡ (texts_of parts ++ text) ++ texts_of more
texts_with parts more text =
    texts_of-append (parts ++ text_piece text) more
    ∙ ap (λ t. t ++ texts_of more) (texts_of-append parts (text_piece text) ∙ ap (λ t. texts_of parts ++ t) (texts_of_text text))

pub mark_counts : (parts new : List Piece) (text gone : List ℕ) (len room : ℕ) (white : Bool) (m : Mark) → AreCounted parts text len room white
    → new ≡ (parts ++ text_piece text) ++ piece.Mark m ∷ [] → gone ≡ [] → 2 ≤ room → AreCounted new gone (len + 2) (room - 2) white
mark_counts parts new text gone len room white m h n g fits =
    let bytes : bytes_of new ≡ bytes_of parts + length text + 2 = ap bytes_of n ∙ bytes_with parts (piece.Mark m ∷ []) text in
    let none : length gone ≡ 0 = ap length g in (
      omega (arith, h.0, bytes, none),
      omega (arith, h.1, fits),
      h.2 ∙ ap (list_all is_white) (sym (ap (λ t. t ++ gone) (ap texts_of n ∙ texts_with parts (piece.Mark m ∷ []) text ∙ append-nil (texts_of parts ++ text))
          ∙ ap (λ t. (texts_of parts ++ text) ++ t) g ∙ append-nil (texts_of parts ++ text))),
    )

both : (b c : Bool) (xs ys : List ℕ) → b ≡ list_all is_white xs → c ≡ list_all is_white ys → (b && c) ≡ list_all is_white (xs ++ ys)
both b c xs ys e f = ap (λ x. x && c) e ∙ ap (λ y. list_all is_white xs && y) f ∙ sym (list_all-append is_white xs ys)

pub parts_count : (parts more new : List Piece) (text behind after : List ℕ) (len room more_len more_room : ℕ) (white more_white all_white : Bool)
    → AreCounted parts text len room white → AreCounted more behind more_len more_room more_white
    → new ≡ (parts ++ text_piece text) ++ more → after ≡ behind → more_len ≤ room → all_white ≡ (white && more_white)
    → AreCounted new after (len + more_len) (room - more_len) all_white
parts_count parts more new text behind after len room more_len more_room white more_white all_white h k n a fits w =
    let bytes : bytes_of new ≡ bytes_of parts + length text + bytes_of more = ap bytes_of n ∙ bytes_with parts more text in
    let size : length after ≡ length behind = ap length a in (
      omega (arith, h.0, k.0, bytes, size),
      omega (arith, h.1, fits),
      w ∙ both white more_white (texts_of parts ++ text) (texts_of more ++ behind) h.2 k.2
          ∙ ap (list_all is_white) (sym (append_assoc (texts_of parts ++ text) (texts_of more) behind))
          ∙ ap (λ t. list_all is_white (t ++ behind)) (sym (ap texts_of n ∙ texts_with parts more text))
          ∙ ap (λ t. list_all is_white (texts_of new ++ t)) (sym a),
    )
