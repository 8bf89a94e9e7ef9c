-- Tests that decide whether contents are equal.
use Rattle.std.proofs.Common.{◌≡◌, ℕ, List, Option, Some, None, refl, ap, sym, Bool}
use Rattle.std.specs.Bool.{Decides}
use Rattle.std.specs.Option.{option_eq, unwrap_or}
use Rattle.std.specs.Str.{bytes_eq}
use Rattle.std.proofs.lemmas.Slice.Eq.{bytes_eq-Decides}

pub content_eq-Decides : (a b : Option (List ℕ)) → Decides (option_eq bytes_eq a b) (a ≡ b)
content_eq-Decides None None = (λ _. refl, λ _. refl)
content_eq-Decides None (Some w) = (λ e. cc, λ e. cc)
content_eq-Decides (Some v) None = (λ e. cc, λ e. cc)
content_eq-Decides (Some v) (Some w) = (λ e. ap Some ((bytes_eq-Decides v w).0 e), λ e. (bytes_eq-Decides v w).1 (ap (λ u. unwrap_or u v) e))
