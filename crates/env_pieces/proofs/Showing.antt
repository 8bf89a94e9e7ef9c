-- Pieces shown one after another.
use Rattle.std.proofs.Common.{◌≡◌, ◌≢◌, ◌<◌, Bool, ◌∙◌, ℕ, zero, suc, ◌+◌, ◌-◌, List, [], ◌∷◌, ◌++◌, Ok, Err, Some, None, sym, refl, length, get_or, drop, ap, append_assoc, add-one, drop-cons, subst, arith}
use Rattle.std.specs.Prelude.{Result}
use Rattle.env_pieces.specs.declared.piece.Mark.TheVariants.{Begin, End}
use Rattle.env_pieces.specs.declared.piece.Piece.{Piece}
use Rattle.env_pieces.specs.declared.piece.Piece.TheVariants as piece
use Rattle.env_pieces.specs.Forms.{feeds, in_front, signed_part}
use Rattle.env_pieces.specs.Steps.{Goes}

in_front-append : (a b : List ℕ) (r : Result (List ℕ) ℕ) → in_front a (in_front b r) ≡ in_front (a ++ b) r
in_front-append a b (Ok t) = ap (λ x. Ok x) (sym (append_assoc a b t))
in_front-append a b (Err place) = refl

pub text_outside : (keep : Bool) (out after text : List ℕ) (depth : ℕ) → depth ≡ 0 → after ≡ out ++ text → Goes keep out depth (piece.Text text) after (Some depth)
text_outside keep out after text depth d is = subst (λ n. Goes keep out n (piece.Text text) after (Some n)) (sym d) (λ number rest. in_front-append out text _ ∙ ap (λ x. in_front x (signed_part keep 0 (number + 1) rest)) (sym is))

pub text_inside : (keep : Bool) (out after text : List ℕ) (depth : ℕ) → depth ≢ 0 → after ≡ out ++ feeds keep text → Goes keep out depth (piece.Text text) after (Some depth)
text_inside keep out after text zero d is = absurd (d refl)
text_inside keep out after text (suc depth) d is = λ number rest. in_front-append out (feeds keep text) _ ∙ ap (λ x. in_front x (signed_part keep (suc depth) (number + 1) rest)) (sym is)

pub begin_outside : (keep : Bool) (out after : List ℕ) (depth : ℕ) → depth ≡ 0 → after ≡ out ++ 32 ∷ [] → Goes keep out depth (piece.Mark Begin) after (Some (depth + 1))
begin_outside keep out after depth d is = subst (λ n. Goes keep out n (piece.Mark Begin) after (Some (n + 1))) (sym d) (λ number rest. in_front-append out (32 ∷ []) _ ∙ ap (λ x. in_front x (signed_part keep 1 (number + 1) rest)) (sym is))

pub begin_inside : (keep : Bool) (out : List ℕ) (depth : ℕ) → depth ≢ 0 → Goes keep out depth (piece.Mark Begin) out (Some (depth + 1))
begin_inside keep out zero d = absurd (d refl)
begin_inside keep out (suc depth) d = λ number rest. ap (λ n. in_front out (signed_part keep n (number + 1) rest)) (sym (add-one (suc depth)))

pub end_outside : (keep : Bool) (out after : List ℕ) (depth : ℕ) → depth ≡ 0 → Goes keep out depth (piece.Mark End) after None
end_outside keep out after depth d = subst (λ n. Goes keep out n (piece.Mark End) after None) (sym d) (λ number rest. refl)

pub end_inside : (keep : Bool) (out : List ℕ) (depth : ℕ) → depth ≢ 0 → Goes keep out depth (piece.Mark End) out (Some (depth - 1))
end_inside keep out zero d = absurd (d refl)
end_inside keep out (suc depth) d = λ number rest. ap (λ n. in_front out (signed_part keep n (number + 1) rest)) (let e : depth ≡ suc depth - 1 = omega arith in e)

pub ruleset goings = (text_outside, text_inside, begin_outside, begin_inside, end_outside, end_inside)

-- the piece of this number stands in front of those behind it
pub piece_at : (pieces : List Piece) (i : ℕ) (p : Piece) → i < length pieces → p ≡ get_or pieces i p → drop i pieces ≡ p ∷ drop (i + 1) pieces
piece_at pieces i p l is = drop-cons pieces i p l ∙ ap (λ x. x ∷ drop (suc i) pieces) (sym is) ∙ ap (λ n. p ∷ drop n pieces) (sym (add-one i))

pub goes_at : (keep : Bool) (pieces : List Piece) (i depth next : ℕ) (out after : List ℕ) (p : Piece) (whole : Result (List ℕ) ℕ) → i < length pieces → p ≡ get_or pieces i p
    → in_front out (signed_part keep depth i (drop i pieces)) ≡ whole → Goes keep out depth p after (Some next) → in_front after (signed_part keep next (i + 1) (drop (i + 1) pieces)) ≡ whole
goes_at keep pieces i depth next out after p whole l is inv goes =
    sym (goes i (drop (i + 1) pieces)) ∙ ap (λ x. in_front out (signed_part keep depth i x)) (sym (piece_at pieces i p l is)) ∙ inv

pub stops_at : (keep : Bool) (pieces : List Piece) (i depth : ℕ) (out after : List ℕ) (p : Piece) (whole : Result (List ℕ) ℕ) → i < length pieces → p ≡ get_or pieces i p
    → in_front out (signed_part keep depth i (drop i pieces)) ≡ whole → Goes keep out depth p after None → whole ≡ Err i
stops_at keep pieces i depth out after p whole l is inv goes =
    sym inv ∙ ap (λ x. in_front out (signed_part keep depth i x)) (piece_at pieces i p l is) ∙ ap (in_front out) (goes i (drop (i + 1) pieces))
