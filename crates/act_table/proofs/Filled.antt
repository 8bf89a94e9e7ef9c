-- Paths whose contents are put in the place of others.
use Rattle.std.proofs.Common.{◌≡◌, ◌∙◌, ◌<◌, ◌≤◌, ℕ, zero, suc, List, [], ◌∷◌, ◌++◌, length, refl, sym, ap, subst, arith, append_assoc, length-append}
use Rattle.std.specs.Prelude.{slice_set, slice_index_or}
use Rattle.world_api.specs.Act.{Content, Given}
use Rattle.act_table.specs.Filled.{contents_of, filled_from, refilled, with_content}

with_at : (front : Given) (pair : List ℕ × Content) (pairs : Given) (content : Content)
    → with_content (length front) content (front ++ pair ∷ pairs) ≡ front ++ (pair.0, content) ∷ pairs
with_at [] pair pairs content = refl
with_at (first ∷ front) pair pairs content = ap (λ (rest : Given). first ∷ rest) (with_at front pair pairs content)

filled_behind : (front pairs : Given) (contents : List Content) → length contents ≤ length pairs → filled_from (length front) (front ++ pairs) contents ≡ front ++ refilled pairs contents
filled_behind front [] [] few = refl
filled_behind front [] (content ∷ contents) few = absurd (omega arith)
filled_behind front (pair ∷ pairs) [] few = refl
filled_behind front (pair ∷ pairs) (content ∷ contents) few =
    let more : Given = front ++ (pair.0, content) ∷ [] in
    let long : suc (length front) ≡ length more = omega (arith, length-append front ((pair.0, content) ∷ [])) in
    let split : with_content (length front) content (front ++ pair ∷ pairs) ≡ more ++ pairs = with_at front pair pairs content ∙ sym (append_assoc front ((pair.0, content) ∷ []) pairs) in
    ap (λ (items : Given). filled_from (suc (length front)) items contents) split
    ∙ ap (λ (place : ℕ). filled_from place (more ++ pairs) contents) long
    ∙ filled_behind more pairs contents (omega arith)
    ∙ append_assoc front ((pair.0, content) ∷ []) (refilled pairs contents)

abbrev beside : Content → Given → List ℕ × Content → Given
beside content pairs old = (old.0, content) ∷ pairs

pub set_with : (pairs : Given) (place : ℕ) (content : Content) (old : List ℕ × Content) → place < length pairs → old ≡ slice_index_or pairs place old
    → slice_set pairs place (old.0, content) ≡ with_content place content pairs
set_with [] place content old lt is = absurd (omega arith)
set_with (pair ∷ pairs) zero content old lt is = ap (beside content pairs) is
set_with (pair ∷ pairs) (suc place) content old lt is = ap (λ (rest : Given). pair ∷ rest) (set_with pairs place content old (omega (arith, lt)) is)

pub filled_all : (pairs : Given) (contents : List Content) → length contents ≡ length pairs → filled_from 0 pairs contents ≡ refilled pairs contents
filled_all pairs contents same = filled_behind [] pairs contents (omega arith)

refilled_own : (pairs : Given) → refilled pairs (contents_of pairs) ≡ pairs
refilled_own [] = refl
refilled_own (pair ∷ pairs) = ap (λ (rest : Given). pair ∷ rest) (refilled_own pairs)

-- their own contents change nothing
pub refilled_same : (pairs : Given) (contents : List Content) → contents ≡ contents_of pairs → refilled pairs contents ≡ pairs
refilled_same pairs contents own = ap (refilled pairs) own ∙ refilled_own pairs
