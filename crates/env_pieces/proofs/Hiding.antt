-- Signed forms of pieces that differ in one part between marks.
use Rattle.std.proofs.Common.{◌≡◌, ◌∙◌, ℕ, zero, suc, ◌+◌, List, [], ◌∷◌, ◌++◌, Bool, true, false, Ok, Err, Some, None, ap, sym, refl, append_assoc}
use Rattle.std.specs.Prelude.{Option, Result, ◌==◌}
use Rattle.std.proofs.lemmas.List.Elements.{filter-append}
use Rattle.env_pieces.specs.declared.piece.Mark.TheVariants.{Begin, End}
use Rattle.env_pieces.specs.declared.piece.Piece.{Piece}
use Rattle.env_pieces.specs.declared.piece.Piece.TheVariants as piece
use Rattle.env_pieces.specs.declared.form.Mode.TheVariants as mode
use Rattle.env_pieces.specs.Forms.{in_front, feeds, texts_of, signed_part, squeezed_part, shown}
use Rattle.env_pieces.specs.Lines.{line_forms, lines_or_fault}
use Rattle.env_pieces.specs.Inside.{open_behind, IsClosed, with_part, DifferInside, HidesInside, LinesHideInside}

-- a text, without the number of a fault
abbrev text_in : Result (List ℕ) ℕ → Option (List ℕ)
text_in (Ok text) = Some text
text_in (Err place) = None

abbrev front : List ℕ → Option (List ℕ) → Option (List ℕ)
front text (Some rest) = Some (text ++ rest)
front text None = None

abbrev left : Bool → ℕ → ℕ → List Piece → Option (List ℕ)
left keep depth number pieces = text_in (signed_part keep depth number pieces)

front_in : (text : List ℕ) (r : Result (List ℕ) ℕ) → text_in (in_front text r) ≡ front text (text_in r)
front_in text (Ok rest) = refl
front_in text (Err place) = refl

front_nothing : (o : Option (List ℕ)) → front [] o ≡ o
front_nothing None = refl
front_nothing (Some text) = refl

front_both : (a b : List ℕ) (o : Option (List ℕ)) → front (a ++ b) o ≡ front a (front b o)
front_both a b None = refl
front_both a b (Some text) = ap (λ t. Some t) (append_assoc a b text)

is_ok : (r : Result (List ℕ) ℕ) (text : List ℕ) → text_in r ≡ Some text → r ≡ Ok text
is_ok (Ok t) text h = let e : t ≡ text = cc in ap (λ x. Ok x) e
is_ok (Err place) text h = cc

no_feeds : (keep : Bool) → feeds keep [] ≡ []
no_feeds true = refl
no_feeds false = refl

both_feeds : (keep : Bool) (a b : List ℕ) → feeds keep (a ++ b) ≡ feeds keep a ++ feeds keep b
both_feeds true a b = filter-append (λ x. x == 10) a b
both_feeds false a b = refl

-- numbers of pieces tell nothing but faults
any_number : (keep : Bool) (depth n m : ℕ) (pieces : List Piece) → left keep depth n pieces ≡ left keep depth m pieces
any_number keep zero n m [] = refl
any_number keep (suc depth) n m [] = refl
any_number keep zero n m (piece.Text text ∷ pieces) =
    front_in text _ ∙ ap (front text) (any_number keep zero (n + 1) (m + 1) pieces) ∙ sym (front_in text _)
any_number keep (suc depth) n m (piece.Text text ∷ pieces) =
    front_in (feeds keep text) _ ∙ ap (front (feeds keep text)) (any_number keep (suc depth) (n + 1) (m + 1) pieces) ∙ sym (front_in (feeds keep text) _)
any_number keep zero n m (piece.Mark Begin ∷ pieces) =
    front_in (32 ∷ []) _ ∙ ap (front (32 ∷ [])) (any_number keep (suc zero) (n + 1) (m + 1) pieces) ∙ sym (front_in (32 ∷ []) _)
any_number keep (suc depth) n m (piece.Mark Begin ∷ pieces) = any_number keep (suc (suc depth)) (n + 1) (m + 1) pieces
any_number keep zero n m (piece.Mark End ∷ pieces) = refl
any_number keep (suc depth) n m (piece.Mark End ∷ pieces) = any_number keep depth (n + 1) (m + 1) pieces

-- what is closed is closed inside of a part too
one_deeper : (depth behind : ℕ) (pieces : List Piece) → open_behind depth pieces ≡ Some behind → open_behind (suc depth) pieces ≡ Some (suc behind)
one_deeper depth behind [] h = let e : depth ≡ behind = cc in ap (λ d. Some (suc d)) e
one_deeper depth behind (piece.Text text ∷ pieces) h = one_deeper depth behind pieces h
one_deeper depth behind (piece.Mark Begin ∷ pieces) h = one_deeper (suc depth) behind pieces h
one_deeper zero behind (piece.Mark End ∷ pieces) h = cc
one_deeper (suc depth) behind (piece.Mark End ∷ pieces) h = one_deeper depth behind pieces h

closed_at : (depth : ℕ) (pieces : List Piece) → IsClosed pieces → open_behind depth pieces ≡ Some depth
closed_at zero pieces h = h
closed_at (suc depth) pieces h = one_deeper depth depth pieces (closed_at depth pieces h)

-- inside of a part only line feeds show
inside : (keep : Bool) (depth behind n m : ℕ) (pieces rest : List Piece) → open_behind depth pieces ≡ Some behind
    → left keep (suc depth) n (pieces ++ rest) ≡ front (feeds keep (texts_of pieces)) (left keep (suc behind) m rest)
inside keep depth behind n m [] rest h =
    let e : depth ≡ behind = cc in
    any_number keep (suc depth) n m rest ∙ ap (λ d. left keep (suc d) m rest) e
    ∙ sym (front_nothing (left keep (suc behind) m rest)) ∙ ap (λ t. front t (left keep (suc behind) m rest)) (sym (no_feeds keep))
inside keep depth behind n m (piece.Text text ∷ pieces) rest h =
    front_in (feeds keep text) _ ∙ ap (front (feeds keep text)) (inside keep depth behind (n + 1) m pieces rest h)
    ∙ sym (front_both (feeds keep text) (feeds keep (texts_of pieces)) (left keep (suc behind) m rest))
    ∙ ap (λ t. front t (left keep (suc behind) m rest)) (sym (both_feeds keep text (texts_of pieces)))
inside keep depth behind n m (piece.Mark Begin ∷ pieces) rest h = inside keep (suc depth) behind (n + 1) m pieces rest h
inside keep zero behind n m (piece.Mark End ∷ pieces) rest h = cc
inside keep (suc depth) behind n m (piece.Mark End ∷ pieces) rest h = inside keep depth behind (n + 1) m pieces rest h

-- the part from a Begin to its End, where so many are open outside
part : (keep : Bool) (depth n m : ℕ) (a b after : List Piece) → IsClosed a → IsClosed b → feeds keep (texts_of a) ≡ feeds keep (texts_of b)
    → left keep depth n (piece.Mark Begin ∷ (a ++ piece.Mark End ∷ after)) ≡ left keep depth m (piece.Mark Begin ∷ (b ++ piece.Mark End ∷ after))
part keep zero n m a b after ca cb f =
    let rest = left keep (suc zero) 0 (piece.Mark End ∷ after) in
    front_in (32 ∷ []) _
    ∙ ap (front (32 ∷ [])) (inside keep zero zero (n + 1) 0 a (piece.Mark End ∷ after) ca ∙ ap (λ t. front t rest) f ∙ sym (inside keep zero zero (m + 1) 0 b (piece.Mark End ∷ after) cb))
    ∙ sym (front_in (32 ∷ []) _)
part keep (suc depth) n m a b after ca cb f =
    let rest = left keep (suc (suc depth)) 0 (piece.Mark End ∷ after) in
    inside keep (suc depth) (suc depth) (n + 1) 0 a (piece.Mark End ∷ after) (closed_at (suc depth) a ca) ∙ ap (λ t. front t rest) f
    ∙ sym (inside keep (suc depth) (suc depth) (m + 1) 0 b (piece.Mark End ∷ after) (closed_at (suc depth) b cb))

whole : (keep : Bool) (depth n m : ℕ) (before a b after : List Piece) → IsClosed a → IsClosed b → feeds keep (texts_of a) ≡ feeds keep (texts_of b)
    → left keep depth n (with_part before a after) ≡ left keep depth m (with_part before b after)
whole keep depth n m [] a b after ca cb f = part keep depth n m a b after ca cb f
whole keep zero n m (piece.Text text ∷ before) a b after ca cb f =
    front_in text _ ∙ ap (front text) (whole keep zero (n + 1) (m + 1) before a b after ca cb f) ∙ sym (front_in text _)
whole keep (suc depth) n m (piece.Text text ∷ before) a b after ca cb f =
    front_in (feeds keep text) _ ∙ ap (front (feeds keep text)) (whole keep (suc depth) (n + 1) (m + 1) before a b after ca cb f) ∙ sym (front_in (feeds keep text) _)
whole keep zero n m (piece.Mark Begin ∷ before) a b after ca cb f =
    front_in (32 ∷ []) _ ∙ ap (front (32 ∷ [])) (whole keep (suc zero) (n + 1) (m + 1) before a b after ca cb f) ∙ sym (front_in (32 ∷ []) _)
whole keep (suc depth) n m (piece.Mark Begin ∷ before) a b after ca cb f = whole keep (suc (suc depth)) (n + 1) (m + 1) before a b after ca cb f
whole keep zero n m (piece.Mark End ∷ before) a b after ca cb f = refl
whole keep (suc depth) n m (piece.Mark End ∷ before) a b after ca cb f = whole keep depth (n + 1) (m + 1) before a b after ca cb f

same_part : (keep : Bool) (pieces other : List Piece) (text : List ℕ) → DifferInside keep pieces other → signed_part keep 0 0 pieces ≡ Ok text
    → signed_part keep 0 0 other ≡ Ok text
same_part keep pieces other text d h =
    is_ok (signed_part keep 0 0 other) text
    (ap (λ l. left keep 0 0 l) d.is_other
    ∙ sym (whole keep 0 0 0 d.before d.inside d.inside_other d.after d.closed d.closed_other d.same_feeds)
    ∙ ap (λ l. left keep 0 0 l) (sym d.is) ∙ ap text_in h)

pub hides : (pieces : List Piece) (text : List ℕ) → shown mode.Signed pieces ≡ Ok text → HidesInside pieces text
hides pieces text h other d = by (signed_part false 0 0 pieces) refl h
  where
    by : (r : Result (List ℕ) ℕ) → signed_part false 0 0 pieces ≡ r → squeezed_part r ≡ Ok text → shown mode.Signed other ≡ Ok text
    by (Ok t) e s = ap squeezed_part (same_part false pieces other t d e) ∙ s
    by (Err place) e s = cc

pub lines_hide : (pieces : List Piece) (lines : List (List ℕ)) → line_forms mode.Signed pieces ≡ Ok lines → LinesHideInside pieces lines
lines_hide pieces lines h other d = by (signed_part true 0 0 pieces) refl h
  where
    by : (r : Result (List ℕ) ℕ) → signed_part true 0 0 pieces ≡ r → lines_or_fault mode.Signed r ≡ Ok lines → line_forms mode.Signed other ≡ Ok lines
    by (Ok t) e s = ap (lines_or_fault mode.Signed) (same_part true pieces other t d e) ∙ s
    by (Err place) e s = cc
