-- Parts behind parts, and pieces behind a sheet.
use Rattle.std.proofs.Common.{◌≡◌, ◌≤◌, ◌<◌, ◌∙◌, ℕ, ◌+◌, ◌-◌, Bool, true, false, List, [], ◌∷◌, ◌++◌, Some, None, refl, sym, ap, length, append_assoc, arith}
use Rattle.std.specs.Prelude.{nat_le, option_and_then, if◌then◌else◌}
use Rattle.std.proofs.lemmas.Bool.{leb-true, leb-false, le-leb, lt-leb}
use Rattle.std.proofs.lemmas.List.{append-nil, length-append}
use Rattle.env_pieces.specs.declared.piece.Mark.{Mark}
use Rattle.env_pieces.specs.declared.piece.Piece.{Piece}
use Rattle.env_pieces.specs.declared.piece.Piece.TheVariants as piece
use Rattle.env_pieces.specs.Pieces.{Sheet, text_piece, pieces_of, with_text, with_mark, with_pieces}
use Rattle.env_pieces.specs.Forms.{text_in, texts_of}
use Rattle.env_pieces.specs.Parts.{done_of, text_behind, bytes_of, sheet_of}
use Rattle.env_pieces.proofs.Sizes.{piece_count}

-- parts behind parts
pub done_of-append : (acc : List ℕ) (xs ys : List Piece) → done_of acc (xs ++ ys) ≡ done_of acc xs ++ done_of (text_behind acc xs) ys
done_of-append acc [] ys = refl
done_of-append acc (piece.Text more ∷ xs) ys = done_of-append (acc ++ more) xs ys
done_of-append acc (piece.Mark m ∷ xs) ys =
    ap (λ l. text_piece acc ++ piece.Mark m ∷ l) (done_of-append [] xs ys)
    ∙ sym (append_assoc (text_piece acc) (piece.Mark m ∷ done_of [] xs) (done_of (text_behind [] xs) ys))

pub text_behind-append : (acc : List ℕ) (xs ys : List Piece) → text_behind acc (xs ++ ys) ≡ text_behind (text_behind acc xs) ys
text_behind-append acc [] ys = refl
text_behind-append acc (piece.Text more ∷ xs) ys = text_behind-append (acc ++ more) xs ys
text_behind-append acc (piece.Mark m ∷ xs) ys = text_behind-append [] xs ys

pub bytes_of-append : (xs ys : List Piece) → bytes_of (xs ++ ys) ≡ bytes_of xs + bytes_of ys
bytes_of-append [] ys = let e : bytes_of ys ≡ 0 + bytes_of ys = omega arith in e
bytes_of-append (p ∷ xs) ys = omega (arith, bytes_of-append xs ys)

pub texts_of-append : (xs ys : List Piece) → texts_of (xs ++ ys) ≡ texts_of xs ++ texts_of ys
texts_of-append [] ys = refl
texts_of-append (p ∷ xs) ys = ap (λ t. text_in p ++ t) (texts_of-append xs ys) ∙ sym (append_assoc (text_in p) (texts_of xs) (texts_of ys))

-- a text as a part, if it isn't empty
done_of_text : (acc t : List ℕ) → done_of acc (text_piece t) ≡ []
done_of_text acc [] = refl
done_of_text acc (b ∷ t) = refl

text_behind_text : (acc t : List ℕ) → text_behind acc (text_piece t) ≡ acc ++ t
text_behind_text acc [] = sym (append-nil acc)
text_behind_text acc (b ∷ t) = refl

pub bytes_of_text : (t : List ℕ) → bytes_of (text_piece t) ≡ length t
bytes_of_text [] = refl
bytes_of_text (b ∷ t) = let e : length (b ∷ t) + 0 ≡ length (b ∷ t) = omega arith in e

pub texts_of_text : (t : List ℕ) → texts_of (text_piece t) ≡ t
texts_of_text [] = refl
texts_of_text (b ∷ t) = append-nil (b ∷ t)

pub done_with : (parts : List Piece) (text : List ℕ) → done_of [] (parts ++ text_piece text) ≡ done_of [] parts
done_with parts text =
    done_of-append [] parts (text_piece text) ∙ ap (λ l. done_of [] parts ++ l) (done_of_text (text_behind [] parts) text) ∙ append-nil (done_of [] parts)

pub text_with : (parts : List Piece) (text : List ℕ) → text_behind [] (parts ++ text_piece text) ≡ text_behind [] parts ++ text
text_with parts text = text_behind-append [] parts (text_piece text) ∙ text_behind_text (text_behind [] parts) text

-- the pieces that parts make are parts of the same sheet
module _ (x : List ℕ) where
  abbrev made : List ℕ → List Piece → List Piece
  made pre ps = done_of pre ps ++ text_piece (text_behind pre ps ++ x)

  again_done : (acc pre : List ℕ) (ps : List Piece) → done_of acc (made pre ps) ≡ done_of (acc ++ pre) ps
  again_done acc pre [] = done_of_text acc (pre ++ x)
  again_done acc pre (piece.Text m ∷ ps) = again_done acc (pre ++ m) ps ∙ ap (λ t. done_of t ps) (sym (append_assoc acc pre m))
  again_done acc [] (piece.Mark m ∷ ps) =
      ap (λ l. text_piece acc ++ piece.Mark m ∷ l) (again_done [] [] ps) ∙ ap (λ t. text_piece t ++ piece.Mark m ∷ done_of [] ps) (sym (append-nil acc))
  again_done acc (b ∷ pre) (piece.Mark m ∷ ps) = ap (λ l. text_piece (acc ++ b ∷ pre) ++ piece.Mark m ∷ l) (again_done [] [] ps)

  again_text : (acc pre : List ℕ) (ps : List Piece) → text_behind acc (made pre ps) ≡ text_behind (acc ++ pre) ps ++ x
  again_text acc pre [] = text_behind_text acc (pre ++ x) ∙ sym (append_assoc acc pre x)
  again_text acc pre (piece.Text m ∷ ps) = again_text acc (pre ++ m) ps ∙ ap (λ t. text_behind t ps ++ x) (sym (append_assoc acc pre m))
  again_text acc [] (piece.Mark m ∷ ps) = again_text [] [] ps
  again_text acc (b ∷ pre) (piece.Mark m ∷ ps) = again_text [] [] ps

  again_bytes : (pre : List ℕ) (ps : List Piece) → bytes_of (made pre ps) ≡ length pre + bytes_of ps + length x
  again_bytes pre [] = omega (arith, bytes_of_text (pre ++ x), length-append pre x)
  again_bytes pre (piece.Text m ∷ ps) = omega (arith, again_bytes (pre ++ m) ps, length-append pre m)
  again_bytes [] (piece.Mark m ∷ ps) = omega (arith, again_bytes [] ps)
  again_bytes (b ∷ pre) (piece.Mark m ∷ ps) = omega (arith, again_bytes [] ps)

  again_texts : (pre : List ℕ) (ps : List Piece) → texts_of (made pre ps) ≡ (pre ++ texts_of ps) ++ x
  again_texts pre [] = texts_of_text (pre ++ x) ∙ ap (λ t. t ++ x) (sym (append-nil pre))
  again_texts pre (piece.Text m ∷ ps) = again_texts (pre ++ m) ps ∙ ap (λ t. t ++ x) (append_assoc pre m (texts_of ps))
  again_texts [] (piece.Mark m ∷ ps) = again_texts [] ps
  again_texts (b ∷ pre) (piece.Mark m ∷ ps) = ap (λ t. (b ∷ pre) ++ t) (again_texts [] ps) ∙ sym (append_assoc (b ∷ pre) (texts_of ps) x)

  again_count : (pre : List ℕ) (ps : List Piece) → length (made pre ps) ≤ length pre + bytes_of ps + length x
  again_count pre [] = omega (arith, piece_count (pre ++ x), length-append pre x)
  again_count pre (piece.Text m ∷ ps) = omega (arith, again_count (pre ++ m) ps, length-append pre m)
  again_count [] (piece.Mark m ∷ ps) = omega (arith, again_count [] ps)
  again_count (b ∷ pre) (piece.Mark m ∷ ps) = omega (arith, again_count [] ps)

-- the texts, the bytes and the number of the pieces of a sheet
pub sheet_texts : (parts : List Piece) (text : List ℕ) (room : ℕ) → texts_of (pieces_of (sheet_of parts text room)) ≡ texts_of parts ++ text
sheet_texts parts text room = again_texts text [] parts

pub sheet_bytes : (parts : List Piece) (text : List ℕ) (room : ℕ) → bytes_of (pieces_of (sheet_of parts text room)) ≡ bytes_of parts + length text
sheet_bytes parts text room = omega (arith, again_bytes text [] parts)

pub sheet_count : (parts : List Piece) (text : List ℕ) (room : ℕ) → length (pieces_of (sheet_of parts text room)) ≤ bytes_of parts + length text
sheet_count parts text room = omega (arith, again_count text [] parts)

-- pieces are put behind a sheet where it has room for their bytes
abbrev sheet : List Piece → List ℕ → ℕ → Sheet
sheet done text room = record { done = done; text = text; room = room }

abbrev joined : Sheet → List Piece → Sheet
joined s ps = sheet (s.done ++ done_of s.text ps) (text_behind s.text ps) (s.room - bytes_of ps)

text_fits : (t : List ℕ) (s : Sheet) → length t ≤ s.room → with_text t s ≡ Some (sheet s.done (s.text ++ t) (s.room - length t))
text_fits t s h = ap (λ b. if b then Some (sheet s.done (s.text ++ t) (s.room - length t)) else None) (le-leb (length t) s.room h)

text_is_out : (t : List ℕ) (s : Sheet) → s.room < length t → with_text t s ≡ None
text_is_out t s h = ap (λ b. if b then Some (sheet s.done (s.text ++ t) (s.room - length t)) else None) (lt-leb (length t) s.room h)

mark_fits : (m : Mark) (s : Sheet) → 2 ≤ s.room → with_mark m s ≡ Some (sheet (pieces_of s ++ piece.Mark m ∷ []) [] (s.room - 2))
mark_fits m s h = ap (λ b. if b then Some (sheet (pieces_of s ++ piece.Mark m ∷ []) [] (s.room - 2)) else None) (le-leb 2 s.room h)

mark_is_out : (m : Mark) (s : Sheet) → s.room < 2 → with_mark m s ≡ None
mark_is_out m s h = ap (λ b. if b then Some (sheet (pieces_of s ++ piece.Mark m ∷ []) [] (s.room - 2)) else None) (lt-leb 2 s.room h)

pieces_fit : (ps : List Piece) (s : Sheet) → bytes_of ps ≤ s.room → with_pieces ps s ≡ Some (joined s ps)
pieces_fit [] s h =
    ap (λ d. Some (sheet d s.text s.room)) (sym (append-nil s.done))
    ∙ ap (λ r. Some (sheet (s.done ++ []) s.text r)) (let e : s.room ≡ s.room - 0 = omega arith in e)
pieces_fit (piece.Text t ∷ ps) s h =
    ap (option_and_then (with_pieces ps)) (text_fits t s (omega (arith, h)))
    ∙ pieces_fit ps (sheet s.done (s.text ++ t) (s.room - length t)) (omega (arith, h))
    ∙ ap (λ r. Some (sheet (s.done ++ done_of (s.text ++ t) ps) (text_behind (s.text ++ t) ps) r))
    (let e : s.room - length t - bytes_of ps ≡ s.room - (length t + bytes_of ps) = omega arith in e)
pieces_fit (piece.Mark m ∷ ps) s h =
    ap (option_and_then (with_pieces ps)) (mark_fits m s (omega (arith, h)))
    ∙ pieces_fit ps (sheet (pieces_of s ++ piece.Mark m ∷ []) [] (s.room - 2)) (omega (arith, h))
    ∙ ap (λ d. Some (sheet d (text_behind [] ps) (s.room - 2 - bytes_of ps)))
    (append_assoc (pieces_of s) (piece.Mark m ∷ []) (done_of [] ps) ∙ append_assoc s.done (text_piece s.text) (piece.Mark m ∷ done_of [] ps))
    ∙ ap (λ r. Some (sheet (s.done ++ (text_piece s.text ++ piece.Mark m ∷ done_of [] ps)) (text_behind [] ps) r))
    (let e : s.room - 2 - bytes_of ps ≡ s.room - (2 + bytes_of ps) = omega arith in e)

pieces_out : (ps : List Piece) (s : Sheet) → s.room < bytes_of ps → with_pieces ps s ≡ None
pieces_out [] s h = absurd (let e : ⊥ = omega (arith, h) in e)
pieces_out (piece.Text t ∷ ps) s h = by (nat_le (length t) s.room) refl (pieces_out ps (sheet s.done (s.text ++ t) (s.room - length t)))
  where
    by : (b : Bool) → nat_le (length t) s.room ≡ b → (s.room - length t < bytes_of ps → with_pieces ps (sheet s.done (s.text ++ t) (s.room - length t)) ≡ None)
        → with_pieces (piece.Text t ∷ ps) s ≡ None
    by true e further =
        let fits = leb-true (length t) s.room e in
        ap (option_and_then (with_pieces ps)) (text_fits t s fits) ∙ further (omega (arith, fits, h))
    by false e further = ap (option_and_then (with_pieces ps)) (text_is_out t s (leb-false (length t) s.room e))
pieces_out (piece.Mark m ∷ ps) s h = by (nat_le 2 s.room) refl (pieces_out ps (sheet (pieces_of s ++ piece.Mark m ∷ []) [] (s.room - 2)))
  where
    by : (b : Bool) → nat_le 2 s.room ≡ b → (s.room - 2 < bytes_of ps → with_pieces ps (sheet (pieces_of s ++ piece.Mark m ∷ []) [] (s.room - 2)) ≡ None)
        → with_pieces (piece.Mark m ∷ ps) s ≡ None
    by true e further =
        let fits = leb-true 2 s.room e in
        ap (option_and_then (with_pieces ps)) (mark_fits m s fits) ∙ further (omega (arith, fits, h))
    by false e further = ap (option_and_then (with_pieces ps)) (mark_is_out m s (leb-false 2 s.room e))

-- a mark is put behind parts
pub mark_joins : (parts new : List Piece) (text gone : List ℕ) (room : ℕ) (m : Mark) → new ≡ (parts ++ text_piece text) ++ piece.Mark m ∷ [] → gone ≡ [] → 2 ≤ room
    → with_mark m (sheet_of parts text room) ≡ Some (sheet_of new gone (room - 2))
mark_joins parts new text gone room m n g h =
    mark_fits m (sheet_of parts text room) h
    ∙ ap (λ d. Some (sheet d [] (room - 2))) (append_assoc (done_of [] parts) (text_piece (text_behind [] parts ++ text)) (piece.Mark m ∷ [])
    ∙ sym (done_of-append [] (parts ++ text_piece text) (piece.Mark m ∷ [])
    ∙ ap (λ d. d ++ (text_piece (text_behind [] (parts ++ text_piece text)) ++ piece.Mark m ∷ [])) (done_with parts text)
    ∙ ap (λ t. done_of [] parts ++ (text_piece t ++ piece.Mark m ∷ [])) (text_with parts text)))
    ∙ ap (λ t. Some (sheet (done_of [] ((parts ++ text_piece text) ++ piece.Mark m ∷ [])) t (room - 2)))
    (sym (ap (λ t. t ++ []) (text_behind-append [] (parts ++ text_piece text) (piece.Mark m ∷ []))))
    ∙ ap (λ ps. Some (sheet_of ps [] (room - 2))) (sym n)
    ∙ ap (λ t. Some (sheet_of new t (room - 2))) (sym g)

-- parts are put behind parts
module _ (parts more : List Piece) (text behind : List ℕ) (room more_room : ℕ) where
  abbrev pieces : List Piece
  pieces = pieces_of (sheet_of more behind more_room)

  pub parts_join : (new : List Piece) (after : List ℕ) (len : ℕ) → new ≡ (parts ++ text_piece text) ++ more → after ≡ behind → len ≡ bytes_of more + length behind → len ≤ room
      → with_pieces pieces (sheet_of parts text room) ≡ Some (sheet_of new after (room - len))
  parts_join new after len n a l h =
      let front : List ℕ = text_behind [] parts ++ text in
      pieces_fit pieces (sheet_of parts text room) (omega (arith, sheet_bytes more behind more_room, l, h))
      ∙ ap (λ d. Some (sheet (done_of [] parts ++ d) (text_behind front pieces) (room - bytes_of pieces)))
      (again_done behind front [] more ∙ ap (λ t. done_of t more) (append-nil front))
      ∙ ap (λ t. Some (sheet (done_of [] parts ++ done_of front more) t (room - bytes_of pieces)))
      (again_text behind front [] more ∙ ap (λ t. text_behind t more ++ behind) (append-nil front))
      ∙ ap (λ k. Some (sheet (done_of [] parts ++ done_of front more) (text_behind front more ++ behind) (room - k))) (sheet_bytes more behind more_room ∙ sym l)
      ∙ ap (λ d. Some (sheet d (text_behind front more ++ behind) (room - len)))
      (sym (done_of-append [] (parts ++ text_piece text) more
      ∙ ap (λ d. d ++ done_of (text_behind [] (parts ++ text_piece text)) more) (done_with parts text)
      ∙ ap (λ t. done_of [] parts ++ done_of t more) (text_with parts text)))
      ∙ ap (λ t. Some (sheet (done_of [] ((parts ++ text_piece text) ++ more)) (t ++ behind) (room - len)))
      (sym (text_behind-append [] (parts ++ text_piece text) more ∙ ap (λ t. text_behind t more) (text_with parts text)))
      ∙ ap (λ ps. Some (sheet_of ps behind (room - len))) (sym n)
      ∙ ap (λ t. Some (sheet_of new t (room - len))) (sym a)

  pub parts_out : (len : ℕ) → len ≡ bytes_of more + length behind → room < len → with_pieces pieces (sheet_of parts text room) ≡ None
  parts_out len l h = pieces_out pieces (sheet_of parts text room) (omega (arith, sheet_bytes more behind more_room, l, h))

-- all pieces, with the text behind them as a part
module _ (parts new : List Piece) (text : List ℕ) (room : ℕ) (is : new ≡ parts ++ text_piece text) where
  pub all_pieces : done_of [] new ++ text_piece (text_behind [] new) ≡ pieces_of (sheet_of parts text room)
  all_pieces =
      ap (λ ps. done_of [] ps ++ text_piece (text_behind [] ps)) is
      ∙ ap (λ d. d ++ text_piece (text_behind [] (parts ++ text_piece text))) (done_with parts text)
      ∙ ap (λ t. done_of [] parts ++ text_piece t) (text_with parts text)
