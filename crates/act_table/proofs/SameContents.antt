-- Tests that decide whether contents are equal.
use Rattle.std.proofs.Common.{◌≡◌, ◌∙◌, ℕ, Bool, true, false, List, Option, Some, None, refl, ap, sym}
use Rattle.std.specs.Bool.{Decides}
use Rattle.std.specs.Option.{option_eq, unwrap_or}
use Rattle.std.specs.Prelude.{◌&&◌}
use Rattle.std.specs.Str.{bytes_eq}
use Rattle.std.proofs.lemmas.Bool.{and_parts}
use Rattle.std.proofs.lemmas.Slice.Eq.{bytes_eq-Decides}
use Rattle.world_api.specs.Act.{Content}

content_eq-Decides : (a b : Content) → Decides (option_eq bytes_eq a b) (a ≡ b)
content_eq-Decides None None = (λ _. refl, λ _. refl)
content_eq-Decides None (Some w) = (λ e. cc, λ e. cc)
content_eq-Decides (Some v) None = (λ e. cc, λ e. cc)
content_eq-Decides (Some v) (Some w) = (λ e. ap Some ((bytes_eq-Decides v w).0 e), λ e. (bytes_eq-Decides v w).1 (ap (λ u. unwrap_or u v) e))

both : (a b : Bool) → a ≡ true → b ≡ true → (a && b) ≡ true
both true b is is' = is'
both false b is is' = absurd cc

abbrev with_path : Content → List ℕ → List ℕ × Content
with_path content path = (path, content)

pair_eq : (p q : List ℕ) (a b : Content) → p ≡ q → a ≡ b → with_path a p ≡ with_path b q
pair_eq p q a b is is' = ap (with_path a) is ∙ ap (λ (y : Content). with_path y q) is'

pub pair_eq-Decides : (x y : List ℕ × Content) → Decides (bytes_eq x.0 y.0 && option_eq bytes_eq x.1 y.1) (x ≡ y)
pair_eq-Decides (p, a) (q, b) = (
  λ e. let parts = and_parts (bytes_eq p q) (option_eq bytes_eq a b) e in pair_eq p q a b ((bytes_eq-Decides p q).0 parts.0) ((content_eq-Decides a b).0 parts.1),
  λ e. both (bytes_eq p q) (option_eq bytes_eq a b) ((bytes_eq-Decides p q).1 (ap (λ (z : List ℕ × Content). z.0) e)) ((content_eq-Decides a b).1 (ap (λ (z : List ℕ × Content). z.1) e)),
)
