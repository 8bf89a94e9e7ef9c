-- Words and pairs as items.
use Rattle.std.proofs.Common.{arith, ◌≡◌, ◌∙◌, ◌-◌, ◌==◌, ℕ, Bool, true, false, List, [], ◌∷◌, map, take, drop, length, None, Some, refl, sym, ap}
use Rattle.std.specs.Prelude.{Option, MatchOption}
use Rattle.std.proofs.lemmas.Bool.{eqb-true}
use Rattle.std.proofs.lemmas.List.{length-map, drop-map, take-map}
use Rattle.env_text.specs.declared.part.Selection.{Selection}
use Rattle.env_vars.specs.declared.value.Item.{Item}
use Rattle.env_vars.specs.declared.value.Item.TheVariants as item
use Rattle.env_vars.specs.Added.{as_items, as_pairs, pair_text}
use Rattle.env_subst.specs.declared.attribute.Attribute.{Attribute}
use Rattle.env_subst.specs.declared.locals.Locals.{Locals}
use Rattle.env_subst.specs.declared.saying.Saying.TheVariants.{Read}
use Rattle.env_subst.specs.Selections.{range_of, selected}
use Rattle.env_subst.specs.declared.saying.Sayings.{Sayings}
use Rattle.env_subst.specs.Sayings.{said_item, said_pair, sayings_of}
use Rattle.env_subst.specs.Contents.{items, shown_parts}

pub words_said : (locals : Locals) (words : List (List ℕ)) → map (λ w. Read w) words ≡ map (said_item locals None) (as_items words)
words_said locals [] = refl
words_said locals (w ∷ words) = ap (λ r. Read w ∷ r) (words_said locals words)

pub pairs_said : (locals : Locals) (pairs : List (List ℕ × Item)) → map (λ p. Read (said_pair p.0 p.1)) pairs ≡ map (said_item locals None) (as_pairs pairs)
pairs_said locals [] = refl
pairs_said locals (p ∷ pairs) = ap (λ r. Read (said_pair p.0 p.1) ∷ r) (pairs_said locals pairs)

pub selected_map : {X Y : Type 0} → (f : X → Y) (selection : Selection) (xs : List X) → map f (selected selection xs) ≡ selected selection (map f xs)
selected_map f selection xs = rw (length-map xs f) (by (range_of selection (length xs)))
  where
    by : (range : ℕ × ℕ) → map f (take (range.1 - range.0) (drop range.0 xs)) ≡ take (range.1 - range.0) (drop range.0 (map f xs))
    by range = rw (drop-map f range.0 xs) (sym (take-map f (range.1 - range.0) (drop range.0 xs)))

pub words_selected : (selection : Selection) (words : List (List ℕ)) → items (as_items (selected selection words)) ≡ items (selected selection (as_items words))
words_selected selection words = ap items (selected_map (λ w. item.Text w) selection words)

pub pairs_selected : (selection : Selection) (pairs : List (List ℕ × Item)) → items (as_pairs (selected selection pairs)) ≡ items (selected selection (as_pairs pairs))
pairs_selected selection pairs = ap items (selected_map (λ p. item.Pair p.0 (pair_text p.1)) selection pairs)

empty_is : {X : Type 0} → (xs : List X) → (length xs == 0) ≡ true → xs ≡ []
empty_is [] e = refl
empty_is (x ∷ xs) e = let k : length (x ∷ xs) ≡ 0 = eqb-true (length (x ∷ xs)) 0 e in absurd (omega (arith, k))

pub none_mapped : {X Y : Type 0} → (f : X → Y) (xs : List X) → (length xs == 0) ≡ true → map f xs ≡ []
none_mapped f xs e = ap (map f) (empty_is xs e)

full_is : {X : Type 0} → (xs : List X) → (length xs == 0) ≡ false → xs ≡ [] → ⊥
full_is xs e n = let k : (length xs == 0) ≡ true = ap (λ ys. length ys == 0) n in cc

-- words and pairs are nodes where there are none
pub words_parts : (attribute : Attribute) (words : List (List ℕ)) (empty : Bool) (r : Option Sayings) → empty ≡ (length words == 0) → MatchOption r (empty ≡ false) (λ s. (empty ≡ true) × ((locals : Locals) → sayings_of locals s ≡ []))
    → MatchOption r ((locals : Locals) → shown_parts locals attribute (items (as_items words)) ≡ None) (λ s. (locals : Locals) → shown_parts locals attribute (items (as_items words)) ≡ Some (sayings_of locals s))
words_parts attribute [] empty None e h = λ locals. absurd (full_is {X = List ℕ} [] (sym e ∙ h) refl)
words_parts attribute (w ∷ words) empty None e h = λ locals. refl
words_parts attribute words empty (Some s) e h = λ locals. ap (λ ws. shown_parts locals attribute (items (as_items ws))) (empty_is words (sym e ∙ h.0)) ∙ ap (λ ys. Some ys) (sym (h.1 locals))

pub pairs_parts : (attribute : Attribute) (pairs : List (List ℕ × Item)) (empty : Bool) (r : Option Sayings) → empty ≡ (length pairs == 0) → MatchOption r (empty ≡ false) (λ s. (empty ≡ true) × ((locals : Locals) → sayings_of locals s ≡ []))
    → MatchOption r ((locals : Locals) → shown_parts locals attribute (items (as_pairs pairs)) ≡ None) (λ s. (locals : Locals) → shown_parts locals attribute (items (as_pairs pairs)) ≡ Some (sayings_of locals s))
pairs_parts attribute [] empty None e h = λ locals. absurd (full_is {X = List ℕ × Item} [] (sym e ∙ h) refl)
pairs_parts attribute (p ∷ pairs) empty None e h = λ locals. refl
pairs_parts attribute pairs empty (Some s) e h = λ locals. ap (λ ps. shown_parts locals attribute (items (as_pairs ps))) (empty_is pairs (sym e ∙ h.0)) ∙ ap (λ ys. Some ys) (sym (h.1 locals))
