use Rattle.std.proofs.Common.{◌≡◌, ◌≢◌, refl, ap, List, [], ◌∷◌, ℕ, Option, Some, None, Bor, drop, true, false, ne_eqb, lit<}
use Rattle.std.specs.Prelude.{MatchOption}
use Rattle.std.proofs.lemmas.Str.Pattern.{strip_prefix_char}
use Rattle.scons_base.specs.Resolve.{is_from_top, hash_mark}
use Rattle.scons_base.proofs.resolve.behind_hash.Goals as goal

other : (text : List ℕ) → ((rest : List ℕ) → text ≢ hash_mark ∷ rest) → is_from_top text ≡ false
other [] h = refl
other (b ∷ rest) h = ne_eqb b hash_mark (λ e. h rest (ap (λ x. x ∷ rest) e))

behind : (text : List ℕ) (r : Option (Bor (List ℕ))) → MatchOption r ((rest : List ℕ) → text ≢ hash_mark ∷ rest) (λ x. text ≡ hash_mark ∷ x.now)
    → MatchOption r (is_from_top text ≡ false) (λ rest. (is_from_top text ≡ true) × (rest.now ≡ drop 1 text))
behind text None h = other text h
behind text (Some x) h = (rw h refl, rw h refl)

pub returns : goal.returns
returns c = behind _ _ (strip_prefix_char hash_mark _ _ c.strip_prefix.ensures.cases (lit< tt))
